-- The image that `replay` wrote for a model is run to what the model is evaluated to.
use Rattle.std.specs.Prelude.{◌≡◌, ℕ, ◌≤◌, List, length, map, Some, Ok}
use Rattle.rup_base.specs.declared.arg.Arg.{Arg}
use Rattle.rup_io.specs.Files.{Holds}
use Rattle.bed_syntax.specs.declared.command.Cmd.{Cmd}
use Rattle.cost_poly.specs.declared.term.Term.{Term}
use Rattle.model_syntax.specs.declared.program.Model.{Model}
use Rattle.model_syntax.specs.Types.{kind_of}
use Rattle.model_syntax.specs.Value.{Meets}
use Rattle.pipeline.specs.Written.{Written}
use Rattle.run_setup.specs.Arguments.{array_limit}
use Rattle.run_setup.specs.Judging.{total_size}
use Rattle.run_setup.specs.Reading.{ReadsAll}
use Rattle.rup_top.specs.declared.answer.Answer.{Answer}
use Rattle.rup_top.specs.Frame.{Told, Comes}
use Rattle.rup_top.specs.Inputs.{model_limit, typed_model}
use Rattle.rup_top.specs.commands.Run.{bound_at, most_steps, run_script}
use Rattle.rup_top.specs.commands.Eval.{eval_script}

-- The files hold a model's text, within its limit, and bytes that are written for the model and a command; the words
-- give arguments that meet the model, have at most 67,108,864 bytes of arrays, and give a bound of at most 10^9.
pub record HoldsBoth (held : Told) (model image : List ℕ) (texts : List (List ℕ)) : Type 0 where
  pub text : List ℕ
  pub text_held : Holds held model text
  pub text_fits : length text ≤ model_limit
  pub m : Model
  pub model_is : typed_model text ≡ Ok m
  pub command : Cmd
  pub bound : List Term
  pub weight : ℕ
  pub bytes : List ℕ
  pub bytes_held : Holds held image bytes
  pub written : Written m command bound weight bytes
  pub args : List Arg
  pub args_taken : ReadsAll held 2 (map kind_of m.params) texts (Ok args)
  pub meets : Meets m args
  pub small : total_size args ≤ array_limit
  pub in_time : bound_at written.image args ≤ most_steps

-- the outcomes of `run` and `eval` on the same argument words are done, and have the same bytes for `out`
abbrev pub RunIsEval : Type 0
RunIsEval = (held : List (List ℕ × List ℕ)) (model image : List ℕ) (texts : List (List ℕ))
    → HoldsBoth (Some held) model image texts → (run_answer eval_answer : Answer)
    → Comes (Some held) (run_script image texts) run_answer → Comes (Some held) (eval_script model texts) eval_answer
    → (run_answer.status ≡ 0) × (eval_answer.status ≡ 0) × (run_answer.out ≡ eval_answer.out)
