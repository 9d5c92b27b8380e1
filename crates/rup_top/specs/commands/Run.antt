-- `run IMAGE ARG*`: what it asks of the files and answers, the results of a run, and what it promises for an image that is
-- good for a model.
use Rattle.std.specs.Prelude.{◌≡◌, ℕ, ◌≤◌, min, List, ◌++◌, length, Some, Result, Ok, Err, codes}
use Rattle.std.specs.Fmt.{decimal}
use Rattle.rup_base.specs.declared.arg.Arg.{Arg}
use Rattle.rup_base.specs.declared.refusal.Refusal.{Refusal}
use Rattle.rup_io.specs.Files.{Holds}
use Rattle.cost_poly.specs.Polynomial.{at}
use Rattle.image_layout.specs.declared.image.Image.{Image}
use Rattle.image_layout.specs.Reading.{read}
use Rattle.image_layout.specs.Spelling.{IsWithinLimits}
use Rattle.model_syntax.specs.declared.program.Model.{Model}
use Rattle.model_syntax.specs.Types.{Well}
use Rattle.model_syntax.specs.Value.{Meets, results}
use Rattle.rv_machine.specs.Causes.{cause_text}
use Rattle.rv_machine.specs.declared.cause.Cause.{Cause}
use Rattle.rv_machine.specs.declared.running.End.{End}
use Rattle.rv_machine.specs.declared.running.End.TheVariants.{Returned, Trapped, OutOfSteps}
use Rattle.rv_machine.specs.Machines.{IsMachine}
use Rattle.rv_machine.specs.Run.{Ran}
use Rattle.rv_machine.specs.State.{State}
use Rattle.run_setup.specs.Arguments.{array_limit}
use Rattle.run_setup.specs.Digits.{eight_digits}
use Rattle.run_setup.specs.Good.{Good}
use Rattle.run_setup.specs.Judging.{symbol_values, total_size}
use Rattle.run_setup.specs.Loading.{loaded, return_address}
use Rattle.run_setup.specs.Reading.{ReadsAll}
use Rattle.run_setup.specs.Results.{results_of, lines_of}
use Rattle.rup_top.specs.declared.answer.Answer.{Answer}
use Rattle.rup_top.specs.Answer.{line, done, refused, unfinished}
use Rattle.rup_top.specs.Frame.{Told, Call, IsUndisturbed, Script, asks, takes, comes_to, exactly, Writes}
use Rattle.rup_top.specs.Inputs.{image_limit}

-- ---- What it answers.

abbrev pub returned_line : ℕ → ℕ → List ℕ
returned_line steps bound = line (codes "run: returned in " ++ decimal steps ++ codes " steps, bound " ++ decimal bound)

-- the program counter is eight digits
abbrev pub trapped_text : Cause → ℕ → ℕ → List ℕ
trapped_text cause pc steps = codes "trapped " ++ cause_text cause ++ codes " " ++ eight_digits pc ++ codes " " ++ decimal steps

abbrev pub out_of_steps_text : ℕ → List ℕ
out_of_steps_text steps = codes "out of steps " ++ decimal steps

-- the bound at the arguments
abbrev pub bound_at : Image → List Arg → ℕ
bound_at i args = at (symbol_values i.params args) i.bound

-- no run takes more steps than this
abbrev pub most_steps : ℕ
most_steps = 1_000_000_000

abbrev pub budget_of : ℕ → ℕ
budget_of bound = min bound most_steps

abbrev pub budget : Image → List Arg → ℕ
budget i args = budget_of (bound_at i args)

-- the answer for a run that ended so, in this state
abbrev pub run_answer : Image → List Arg → End → State → Answer
run_answer i args (Returned steps) t = done (lines_of (results_of t i args)) (returned_line steps (bound_at i args))
run_answer i args (Trapped cause pc steps) t = unfinished (trapped_text cause pc steps)
run_answer i args (OutOfSteps steps) t = unfinished (out_of_steps_text steps)

-- the answer for the run of an image within its limits from a state whose numbers are words and bytes
pub record RunEnds (i : Image) (args : List Arg) (s : State) (a : Answer) : Type 0 where
  pub limits : IsWithinLimits i
  pub machine : IsMachine s
  pub end : End
  pub state : State
  pub ran : Ran return_address (budget i args) s end state
  pub answer_is : a ≡ run_answer i args end state

-- the verdict: an image is run from the state that it is loaded to, or the arguments are refused
abbrev pub RunsFrom : Image → List Arg → Result State Refusal → Answer → Type 0
RunsFrom i args (Ok s) a = RunEnds i args s a
RunsFrom i args (Err refusal) a = a ≡ refused refusal

-- the first argument is word 2
abbrev pub image_script : List (List ℕ) → Result Image Refusal → Script
image_script texts (Ok i) = takes 2 i.params texts (λ args a. RunsFrom i args (loaded i args) a)
image_script texts (Err refusal) = comes_to (λ a. exactly (refused refusal) a)

abbrev pub run_script : List ℕ → List (List ℕ) → Script
run_script image texts = asks 1 image image_limit (λ bytes. image_script texts (read bytes))

-- ---- What it promises.

-- The file is an image within its limit that is good for a well typed model; the words give arguments that meet the
-- model, are not too large together, and give a bound of at most 10^9.
pub record CallsGood (held : Told) (image : List ℕ) (texts : List (List ℕ)) : Type 0 where
  pub bytes : List ℕ
  pub image_held : Holds held image bytes
  pub image_fits : length bytes ≤ image_limit
  pub i : Image
  pub image_is : read bytes ≡ Ok i
  pub m : Model
  pub well : Well m
  pub good : Good m i
  pub args : List Arg
  pub args_taken : ReadsAll held 2 i.params texts (Ok args)
  pub meets : Meets m args
  pub small : total_size args ≤ array_limit
  pub in_time : bound_at i args ≤ most_steps

-- the run of an image that is good for a model writes the model's results
pub record RunKeeps (image : List ℕ) (texts : List (List ℕ)) (call : Call) : Type 0 where
  pub runs_good : (held : List (List ℕ × List ℕ)) → call.files.held ≡ Some held → (given : CallsGood call.files.held image texts)
      → IsUndisturbed call
      → Writes (lines_of (results given.m given.args)) call
