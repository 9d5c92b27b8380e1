-- `eval M ARG*`: what it asks of the files and answers, the value of the model, and what it promises for arguments that meet
-- the model.
use Rattle.std.specs.Prelude.{◌≡◌, ℕ, ◌≤◌, List, [], length, map, Some, Result, Ok, Err}
use Rattle.rup_base.specs.Answers.{and_then}
use Rattle.rup_base.specs.declared.arg.Arg.{Arg}
use Rattle.rup_base.specs.declared.refusal.Refusal.{Refusal}
use Rattle.rup_io.specs.Files.{Holds}
use Rattle.model_syntax.specs.declared.program.Model.{Model}
use Rattle.model_syntax.specs.Types.{kind_of}
use Rattle.model_syntax.specs.Value.{Meets, value, results}
use Rattle.run_setup.specs.Arguments.{array_limit}
use Rattle.run_setup.specs.Judging.{judged_size, total_size}
use Rattle.run_setup.specs.Reading.{ReadsAll}
use Rattle.run_setup.specs.Results.{lines_of}
use Rattle.rup_top.specs.declared.answer.Answer.{Answer}
use Rattle.rup_top.specs.Answer.{done, refused}
use Rattle.rup_top.specs.Frame.{Told, Call, IsUndisturbed, Script, asks, takes, comes_to, exactly, Writes}
use Rattle.rup_top.specs.Inputs.{model_limit, typed_model}

-- ---- What it answers.

-- the results, unless the arrays are too large together
abbrev pub evaluated : Model → List Arg → Result (List Arg) Refusal
evaluated m args = and_then (judged_size args) (λ u. value m args)

abbrev pub results_answer : Result (List Arg) Refusal → Answer
results_answer (Ok results) = done (lines_of results) []
results_answer (Err refusal) = refused refusal

abbrev pub eval_answer : Model → List Arg → Answer
eval_answer m args = results_answer (evaluated m args)

-- the first argument is word 2
abbrev pub model_script : List (List ℕ) → Result Model Refusal → Script
model_script texts (Ok m) = takes 2 (map kind_of m.params) texts (λ args a. exactly (eval_answer m args) a)
model_script texts (Err refusal) = comes_to (λ a. exactly (refused refusal) a)

abbrev pub eval_script : List ℕ → List (List ℕ) → Script
eval_script model texts = asks 1 model model_limit (λ bytes. model_script texts (typed_model bytes))

-- ---- What it promises.

-- The file is a well typed model within its limit; the words give arguments that meet it and are not too large together.
pub record CallsModel (held : Told) (model : List ℕ) (texts : List (List ℕ)) : Type 0 where
  pub bytes : List ℕ
  pub model_held : Holds held model bytes
  pub model_fits : length bytes ≤ model_limit
  pub m : Model
  pub model_is : typed_model bytes ≡ Ok m
  pub args : List Arg
  pub args_taken : ReadsAll held 2 (map kind_of m.params) texts (Ok args)
  pub meets : Meets m args
  pub small : total_size args ≤ array_limit

-- the evaluation of a model writes its results
pub record EvalKeeps (model : List ℕ) (texts : List (List ℕ)) (call : Call) : Type 0 where
  pub evals_good : (held : List (List ℕ × List ℕ)) → call.files.held ≡ Some held
      → (given : CallsModel call.files.held model texts) → IsUndisturbed call
      → Writes (lines_of (results given.m given.args)) call
