-- An answer of the value of a model has results of their kinds.
use Rattle.std.proofs.Common.{◌≡◌, true, List, Result, Ok, Err, IfOk}
use Rattle.rup_base.specs.Answers.{Answers}
use Rattle.rup_base.specs.declared.arg.Arg.{Arg}
use Rattle.rup_base.specs.declared.fail.Fail.{Fail}
use Rattle.model_syntax.specs.Formed.{model_formed}
use Rattle.model_syntax.specs.Sound.{IsSound}
use Rattle.model_syntax.specs.Spelling.{Spellable}
use Rattle.model_syntax.specs.Types.{Well}
use Rattle.model_syntax.specs.Value.{value}
use Rattle.model_syntax.specs.declared.program.Model.{Model}
use Rattle.model_syntax.proofs.laws.Models.{value_sound}

pub answer_sound : (m : Model) (args : List Arg) (found : Result (List Arg) Fail) → Well m → model_formed m ≡ true → Spellable m
    → Answers found (value m args) → IfOk found (λ results. IsSound m args results)
answer_sound m args (Ok results) well formed spelled is = value_sound m args results well formed spelled is
answer_sound m args (Err fail) well formed spelled is = tt
