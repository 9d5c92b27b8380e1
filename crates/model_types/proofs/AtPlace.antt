-- A place is put on questions in turn by putting it on each.
use Rattle.std.proofs.Common.{◌≡◌, refl, List, [], ◌∷◌, Result, Ok, Err, is_ok}
use Rattle.rup_base.specs.declared.refusal.TypePlace.{TypePlace}
use Rattle.rup_base.specs.declared.refusal.TypeWhy.{TypeWhy}
use Rattle.rup_base.specs.declared.refusal.Refusal.{Refusal}
use Rattle.model_syntax.specs.Answer.{◌>>=◌}
use Rattle.model_syntax.specs.Names.{Name}
use Rattle.model_syntax.specs.Scope.{Scope, look_up, bind, agreed}
use Rattle.model_syntax.specs.Types.{at, joined}
use Rattle.model_types.specs.Placed as placed

pub at_ok : {A : Type 0} (place : TypePlace) (found : Result A TypeWhy) (a : A) → at place found ≡ Ok a → found ≡ Ok a
at_ok place (Ok b) a is = cc
at_ok place (Err why) a is = absurd (cc)

pub at_is_ok : {A : Type 0} (place : TypePlace) (found : Result A TypeWhy) → is_ok (at place found) ≡ is_ok found
at_is_ok place (Ok a) = refl
at_is_ok place (Err why) = refl

pub at_then : {A B : Type 0} (place : TypePlace) (first : Result A TypeWhy) (second : A → Result B TypeWhy)
    → at place (first >>= second) ≡ (at place first >>= (λ a. at place (second a)))
at_then place (Ok a) second = refl
at_then place (Err why) second = refl

then_at : {A B : Type 0} (place : TypePlace) (first : Result A TypeWhy) (second : A → Result B TypeWhy)
    {placed : A → Result B Refusal}
    → ((a : A) → placed a ≡ at place (second a)) → (at place first >>= placed) ≡ at place (first >>= second)
then_at place (Ok a) second same = same a
then_at place (Err why) second same = refl

pub joined_at : (place : TypePlace) (xs : List Name) (one two c : Scope)
    → placed.joined place xs one two c ≡ at place (joined xs one two c)
joined_at place [] one two c = refl
joined_at place (x ∷ xs) one two c =
    then_at place (agreed (look_up one x) (look_up two x)) (λ t. joined xs one two (bind x t c))
    (λ t. joined_at place xs one two (bind x t c))
