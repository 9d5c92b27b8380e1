-- `bench SEED COUNT`: the line of a generated model that is searched, replayed, laid out, loaded and run; and what it promises:
-- that line, with the model's results.
use Rattle.std.specs.Prelude.{◌≡◌, ◌≢◌, ℕ, ◌≤◌, List, [], ◌∷◌, ◌++◌, map, Result, Ok, Err, codes}
use Rattle.std.specs.Fmt.{decimal}
use Rattle.std.specs.Io.KnownBytes.{Appends}
use Rattle.std.specs.List.{flat_map}
use Rattle.rup_base.specs.Answers.{and_then}
use Rattle.rup_base.specs.declared.arg.Arg.{Arg}
use Rattle.rup_base.specs.declared.arg.Arg.TheVariants as arg
use Rattle.rup_base.specs.declared.refusal.Refusal.{Refusal}
use Rattle.bench_gen.specs.Generator.{model, params, arguments}
use Rattle.cost_poly.specs.Polynomial.{at}
use Rattle.derive_search.specs.Derive.{derived}
use Rattle.equations.specs.Equations.{turn}
use Rattle.image_layout.specs.declared.image.Image.{Image}
use Rattle.model_syntax.specs.declared.program.Model.{Model}
use Rattle.model_syntax.specs.Types.{kind_of}
use Rattle.model_syntax.specs.Value.{results}
use Rattle.pipeline.specs.Written.{Written}
use Rattle.replayer.specs.Replayed.{replayed}
use Rattle.replayer.specs.declared.checked.Checked.{Checked}
use Rattle.run_setup.specs.Digits.{eight_digits}
use Rattle.run_setup.specs.Judging.{symbol_values}
use Rattle.run_setup.specs.Loading.{start_state, return_address}
use Rattle.run_setup.specs.Results.{results_of}
use Rattle.rv_machine.specs.declared.running.End.{End}
use Rattle.rv_machine.specs.declared.running.End.TheVariants.{Returned, Trapped, OutOfSteps}
use Rattle.rv_machine.specs.Machines.{IsMachine}
use Rattle.rv_machine.specs.Run.{Ran}
use Rattle.rv_machine.specs.State.{State}
use Rattle.rup_top.specs.declared.answer.Answer.{Answer}
use Rattle.rup_top.specs.Answer.{line, done, refused, unfinished}
use Rattle.rup_top.specs.Frame.{Call, IsUndisturbed, Script, comes_to, Writes}
use Rattle.rup_top.specs.Words.{most_size}
use Rattle.rup_top.specs.commands.Run.{most_steps, budget, trapped_text, out_of_steps_text}

-- ---- What it answers.

-- What the derivation that the search finds for a model comes to, at the greatest size; or the first refusal: the search's, or
-- the derivation's.
abbrev pub found : Model → Result Checked Refusal
found m = and_then (derived [] turn m) (λ d. replayed turn m d most_size)

-- the bound at the arguments, by the values of their entry symbols
abbrev pub bound_of : ℕ → Checked → ℕ
bound_of seed checked = at (symbol_values (map kind_of params) (arguments seed)) checked.command.bound

-- the line up to its results
abbrev pub summary : ℕ → ℕ → Checked → List ℕ
summary seed count checked =
    codes "bench " ++ decimal seed ++ codes " " ++ decimal count ++ codes " nodes " ++ decimal checked.nodes ++ codes " weight "
    ++ decimal checked.command.weight
    ++ codes " bound " ++ decimal (bound_of seed checked) ++ codes " result"

-- a word behind a space, which is 32; a generated model returns no array
abbrev pub word_text : Arg → List ℕ
word_text (arg.Word n) = 32 ∷ eight_digits n
word_text (arg.Bytes bytes) = []
word_text (arg.Words words) = []

-- a line that begins so, with its results
abbrev pub with_results : List ℕ → List Arg → List ℕ
with_results begun rs = line (begun ++ flat_map word_text rs)

abbrev pub bench_line : ℕ → ℕ → Checked → List Arg → List ℕ
bench_line seed count checked rs = with_results (summary seed count checked) rs

-- the answer for a run that ended so, in this state; where it didn't return it is that of `run`
abbrev pub bench_answer : List ℕ → Image → List Arg → End → State → Answer
bench_answer begun i args (Returned steps) t = done (with_results begun (results_of t i args)) []
bench_answer begun i args (Trapped cause pc steps) t = unfinished (trapped_text cause pc steps)
bench_answer begun i args (OutOfSteps steps) t = unfinished (out_of_steps_text steps)

-- the answer for the run of an image on arguments from the state that it is loaded to, whose numbers are words and bytes
pub record BenchEnds (begun : List ℕ) (i : Image) (args : List Arg) (a : Answer) : Type 0 where
  pub machine : IsMachine (start_state i args)
  pub end : End
  pub state : State
  pub ran : Ran return_address (budget i args) (start_state i args) end state
  pub answer_is : a ≡ bench_answer begun i args end state

-- an image that is written for the generated model is run on the arguments of the seed, which is a word
pub record Benches (seed count : ℕ) (checked : Checked) (a : Answer) : Type 0 where
  pub is_word : seed ≤ 4294967295
  pub bytes : List ℕ
  pub written : Written (model seed count) checked.command.command checked.command.bound checked.command.weight bytes
  pub ends : BenchEnds (summary seed count checked) written.image (arguments seed) a

-- the verdict: the run of what was found, or the refusal
abbrev pub BenchAnswers : ℕ → ℕ → Result Checked Refusal → Answer → Type 0
BenchAnswers seed count (Ok checked) a = Benches seed count checked a
BenchAnswers seed count (Err refusal) a = a ≡ refused refusal

-- it asks for no file
abbrev pub bench_script : ℕ → ℕ → Script
bench_script seed count = comes_to (λ a. BenchAnswers seed count (found (model seed count)) a)

-- ---- What it promises.

-- the line with the model's results
abbrev pub value_line : ℕ → ℕ → Checked → List ℕ
value_line seed count checked = bench_line seed count checked (results (model seed count) (arguments seed))

-- a derivation is found that is accepted, and its bound at the arguments is at most 10^9
pub record FindsInTime (seed count : ℕ) : Type 0 where
  pub checked : Checked
  pub is_found : found (model seed count) ≡ Ok checked
  pub in_time : bound_of seed checked ≤ most_steps

-- `out` grew by the line of a run of what was found; its results are the model's where the bound is at most 10^9
pub record WritesLine (seed count : ℕ) (call : Call) : Type 0 where
  pub checked : Checked
  pub is_found : found (model seed count) ≡ Ok checked
  pub answer : Answer
  pub runs : Benches seed count checked answer
  pub out_takes : Appends call.out.taken call.out.taken_now answer.out
  pub valued : bound_of seed checked ≤ most_steps → answer.out ≡ value_line seed count checked

-- status 0 comes with such a line; what is found in time is run to its line, or memory runs out; and no file is read
pub record BenchKeeps (seed count : ℕ) (call : Call) : Type 0 where
  pub writes_only : call.status ≡ 0 → WritesLine seed count call
  pub writes_all : (given : FindsInTime seed count) → IsUndisturbed call → Writes (value_line seed count given.checked) call
  pub no_read_fault : call.status ≢ 3
