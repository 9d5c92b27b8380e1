-- Questions in turn that were answered.
use Rattle.std.proofs.Common.{◌≡◌, refl, Result, Ok, Err}
use Rattle.rup_base.specs.declared.refusal.TypePlace.{TypePlace}
use Rattle.rup_base.specs.declared.refusal.TypeWhy.{TypeWhy}
use Rattle.model_syntax.specs.Answer.{◌>>=◌}
use Rattle.model_syntax.specs.Types as types

-- the first of two questions in turn has its answer where the second has
pub first_answered : {A B E : Type 0} (first : Result A E) (second : A → Result B E) (b : B) → (first >>= second) ≡ Ok b
    → (a : A) × ((first ≡ Ok a) × (second a ≡ Ok b))
first_answered (Ok a) second b is = (a, (refl, is))
first_answered (Err why) second b is = absurd (cc)

-- a question that was answered at a place was answered
pub at_answered : {A : Type 0} (place : TypePlace) (found : Result A TypeWhy) (a : A) → types.at place found ≡ Ok a → found ≡ Ok a
at_answered place (Ok b) a is = cc
at_answered place (Err why) a is = absurd (cc)

pub answer_is : {A E : Type 0} (a b : A) → ◌≡◌ {A = Result A E} (Ok a) (Ok b) → a ≡ b
answer_is a b is = cc
