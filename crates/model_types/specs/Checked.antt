-- What the check of a model's types answers.
use Rattle.std.specs.Prelude.{Result, Ok, Err}
use Rattle.rup_base.specs.declared.fail.Fail.{Fail}
use Rattle.rup_base.specs.declared.refusal.Refusal.{Refusal}
use Rattle.model_syntax.specs.declared.program.Model.{Model}
use Rattle.model_syntax.specs.Answer.{◌>>=◌}
use Rattle.model_syntax.specs.Types.{judge}
use Rattle.model_types.specs.declared.typed.Typed.{Typed}

-- the model, or the place and cause of its first fault
abbrev pub checked : Model → Result Model Refusal
checked m = do
  _ ← judge m
  Ok m

-- the model that is known to be well typed
abbrev pub model_of : Result Typed Fail → Result Model Fail
model_of (Ok typed) = Ok typed.inner
model_of (Err fail) = Err fail
