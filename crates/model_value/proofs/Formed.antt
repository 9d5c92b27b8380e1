-- The sides of a well typed model's requirements keep the limits of linear forms.
use Rattle.std.proofs.Common.{◌≡◌, refl, ℕ, nat_lt, Bool, true, false, List, [], ◌∷◌, Result, Ok, Err, is_ok, IsTrue}
use Rattle.std.proofs.Common.{if◌then◌else◌}
use Rattle.rup_base.specs.declared.refusal.TypePlace.{TypePlace}
use Rattle.rup_base.specs.declared.refusal.TypeWhy.{TypeWhy}
use Rattle.rup_base.specs.declared.refusal.TypeWhy.TheVariants as why
use Rattle.model_syntax.specs.declared.stmt.Le.{Le}
use Rattle.model_syntax.specs.declared.program.Model.{Model}
use Rattle.model_syntax.specs.Answer.{◌>>=◌}
use Rattle.model_syntax.specs.Limits.{next}
use Rattle.model_syntax.specs.Linear.{linear}
use Rattle.model_syntax.specs.Scope.{Scope}
use Rattle.model_syntax.specs.Types as types
use Rattle.model_value.specs.Formed.{HasForm, Formed}

-- the first of two questions in turn has its answer where the second has
first_answered : {A B E : Type 0} (first : Result A E) (second : A → Result B E) (b : B) → (first >>= second) ≡ Ok b
    → (a : A) × ((first ≡ Ok a) × (second a ≡ Ok b))
first_answered (Ok a) second b is = (a, (refl, is))
first_answered (Err why) second b is = absurd (cc)

at_answered : {A : Type 0} (place : TypePlace) (found : Result A TypeWhy) (a : A) → types.at place found ≡ Ok a → found ≡ Ok a
at_answered place (Ok b) a is = cc
at_answered place (Err why) a is = absurd (cc)

answered : {A E : Type 0} (found : Result A E) (a : A) → found ≡ Ok a → IsTrue (is_ok found)
answered found a is = rw is refl

fact_formed : (r : Le) (c : Scope) → types.fact r c ≡ Ok tt → HasForm r.low × HasForm r.high
fact_formed r c is =
    let low_names = first_answered (types.names_scalars r.low c) _ tt is in
    let high_names = first_answered (types.names_scalars r.high c) _ tt low_names.1.1 in
    let low = first_answered (linear r.low) _ tt high_names.1.1 in
    let high = first_answered (linear r.high) _ tt low.1.1 in
    (answered (linear r.low) low.0 low.1.0, answered (linear r.high) high.0 high.1.0)

requirement_formed : (k : ℕ) (r : Le) (c : Scope) (few : Bool) → nat_lt k 4096 ≡ few → types.requirement k r c ≡ Ok tt
    → HasForm r.low × HasForm r.high
requirement_formed k r c few is_few is = by_few few (rw is_few at is) where
  by_few : (b : Bool) → (if b then types.fact r c else Err why.WideForm) ≡ Ok tt → HasForm r.low × HasForm r.high
  by_few true is = fact_formed r c is
  by_few false is = absurd (cc)

all_formed : (k : ℕ) (rs : List Le) (c : Scope) → types.requirements k rs c ≡ Ok tt → Formed rs
all_formed k [] c is = tt
all_formed k (r ∷ rs) c is =
    let one = first_answered (types.at _ (types.requirement k r c)) _ tt is in
    let formed = requirement_formed k r c (nat_lt k 4096) refl (at_answered _ (types.requirement k r c) tt one.1.0) in
    (formed.0, formed.1, all_formed (next k) rs c one.1.1)

pub well_formed : (m : Model) → types.Well m → Formed m.requires_
well_formed m well =
    let start = first_answered (types.at _ (types.declare_params m.params [])) _ tt well in
    let required = first_answered (types.requirements 0 m.requires_ start.0) _ tt start.1.1 in
    all_formed 0 m.requires_ start.0 required.1.0
