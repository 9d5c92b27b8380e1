-- What the words of blocks give where they do not refuse: the facts that certificates show at an end hold there, and the context
-- after two ends is the one that laws of contexts speak of.
use Rattle.std.proofs.Common.{◌≡◌, refl, sym, ap, subst, ℕ, zero, suc, ◌+◌, ◌≤ℤ◌, Bool, true, false, pos, List, [], ◌∷◌}
use Rattle.std.proofs.Common.{append_assoc, map, Option, Some, None}
use Rattle.std.proofs.lemmas.List.{append-nil}
use Rattle.rup_base.specs.Word.{counted}
use Rattle.side_certs.specs.LinearForm.{LinearForm, value_at, is_within}
use Rattle.side_certs.specs.Closes.{Holds, closes}
use Rattle.side_certs.specs.declared.certificate.Cert.{Cert}
use Rattle.side_certs.proofs.laws.Closing.{closed_holds}
use Rattle.model_syntax.specs.Names.{Name}
use Rattle.model_syntax.specs.declared.stmt.Le.{Le}
use Rattle.sym_heap.specs.declared.parts.Held.{Held}
use Rattle.sym_heap.specs.Context.{Context, scalar, has_room, has_symbol, with_fact}
use Rattle.sym_heap.specs.Settle.{settled, settle}
use Rattle.sym_heap.specs.Sides.{form_in, difference}
use Rattle.sym_heap.specs.Start.{with_facts}
use Rattle.expr_rules.specs.Sound.{AllHold, Yields}
use Rattle.expr_rules.specs.Words.{Rule, ◌>>=◌}
use Rattle.expr_rules.proofs.laws.Yields.{yields_more}
use Rattle.stmt_rules.specs.Nesting.{all_shown, shown_at, all_kept, all_renewed}

-- Kept facts.

-- the forms of facts
abbrev pub forms_of : (Name → LinearForm) → List Le → List LinearForm
forms_of form keep = map (difference form) keep

abbrev pub Shown : Context → List LinearForm → Unit {0} → Context → Type 0
Shown c fs u d = (d ≡ c) × ((v : ℕ → ℕ) → Holds v c.facts c.tops → AllHold v fs)

hold_more : (v : ℕ → ℕ) (f : LinearForm) (fs : List LinearForm) → pos 0 ≤ℤ value_at v f → AllHold v fs → AllHold v (f ∷ fs)
hold_more v f fs one more zero g at = let is : f ≡ g = cc in subst (λ (z : LinearForm). pos 0 ≤ℤ value_at v z) is one
hold_more v f fs one more (suc i) g at = more i g at

-- the facts hold wherever the end does
pub all_shown_hold : (at place : ℕ) (certs : List Cert) (form : Name → LinearForm) (keep : List Le) (c : Context)
    → Yields (Shown c (forms_of form keep)) (all_shown at place certs form keep c)
all_shown_hold at place certs form [] c = (refl, λ v holds i f there. absurd (let bad : None ≡ Some f = there in cc))
all_shown_hold at place [] form (r ∷ rs) c = tt
all_shown_hold at place (k ∷ ks) form (r ∷ rs) c =
    within_is (is_within goal) refl (all_shown_hold at (counted (place + 1)) ks form rs c) where
      goal : LinearForm
      goal = difference form r

      rest : Unit {0} → Rule (Unit {0})
      rest u = all_shown at (counted (place + 1)) ks form rs

      more : closes c.facts c.tops goal k ≡ true → (u : Unit {0}) (d : Context) → Shown c (forms_of form rs) u d
          → Shown c (forms_of form (r ∷ rs)) u d
      more e u d is = (
        is.0,
        λ v holds. hold_more v goal (forms_of form rs) (closed_holds c.facts c.tops goal k e v holds)
            (is.1 v holds),
      )

      closed : (b : Bool) → closes c.facts c.tops goal k ≡ b → Yields (Shown c (forms_of form rs)) (rest tt c)
          → Yields (Shown c (forms_of form (r ∷ rs))) ((shown_at at place k (Some goal) >>= rest) c)
      closed true e others = rw e (yields_more (Shown c (forms_of form rs)) (Shown c (forms_of form (r ∷ rs))) (more e)
          (rest tt c)
          others)
      closed false e others = rw e tt

      within_is : (b : Bool) → is_within goal ≡ b → Yields (Shown c (forms_of form rs)) (rest tt c)
          → Yields (Shown c (forms_of form (r ∷ rs))) (all_shown at place (k ∷ ks) form (r ∷ rs) c)
      within_is true e others = rw e (closed (closes c.facts c.tops goal k) refl others)
      within_is false e others = rw e tt

-- the context with the kept facts, in the forms that the scalars have there
pub all_kept_are : (at : ℕ) (keep : List Le) (c : Context)
    → Yields (λ _ d. d ≡ with_facts (forms_of (form_in c.scalars) keep) c) (all_kept at keep c)
all_kept_are at [] c = ap (λ (r : List LinearForm). record c { facts = r }) (sym (append-nil c.facts))
all_kept_are at (r ∷ rs) c = within_is (is_within goal) refl (all_kept_are at rs (with_fact (difference (form_in c.scalars) r) c))
  where
    goal : LinearForm
    goal = difference (form_in c.scalars) r

    fs : List LinearForm
    fs = forms_of (form_in c.scalars) rs

    Is : Unit {0} → Context → Type 0
    Is u d = d ≡ with_facts (goal ∷ fs) c

    one_more : with_facts fs (with_fact goal c) ≡ with_facts (goal ∷ fs) c
    one_more = ap (λ (l : List LinearForm). record c { facts = l }) (append_assoc c.facts (goal ∷ []) fs)

    More : Type 0
    More = Yields (λ _ d. d ≡ with_facts fs (with_fact goal c)) (all_kept at rs (with_fact goal c))

    room : (b : Bool) → has_room c ≡ b → is_within goal ≡ true → More → Yields Is (all_kept at (r ∷ rs) c)
    room true e within more = rw (within, e)
        (subst (λ (z : Context). Yields (λ _ d. d ≡ z) (all_kept at rs (with_fact goal c))) one_more more)
    room false e within more = rw (within, e) tt

    within_is : (b : Bool) → is_within goal ≡ b → More → Yields Is (all_kept at (r ∷ rs) c)
    within_is true e more = room (has_room c) refl e more
    within_is false e more = rw e tt

-- Listed scalars.

-- they settle where the end has them
pub all_renewed_are : (at : ℕ) (ys : List Name) (end_ c : Context)
    → Yields (λ _ d. d ≡ settle ys end_ c) (all_renewed at ys end_.scalars c)
all_renewed_are at [] end_ c = refl
all_renewed_are at (y ∷ ys) end_ c = by (scalar end_ y) refl (all_renewed_are at ys end_ (settled y (scalar end_ y) c)) where
  Goal : Type 0
  Goal = Yields (λ _ d. d ≡ settle (y ∷ ys) end_ c) (all_renewed at (y ∷ ys) end_.scalars c)

  More : Option Held → Type 0
  More o = Yields (λ _ d. d ≡ settle ys end_ (settled y o c)) (all_renewed at ys end_.scalars (settled y o c))

  room : (h : Held) → scalar end_ y ≡ Some h → More (Some h) → (b : Bool) → has_symbol c ≡ b → Goal
  room h e more true f = rw (e, f) more
  room h e more false f = rw (e, f) tt

  by : (o : Option Held) → scalar end_ y ≡ o → More (scalar end_ y) → Goal
  by None e more = rw e (rw e at more)
  by (Some h) e more = room h e (rw e at more) (has_symbol c) refl
