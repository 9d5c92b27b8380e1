-- The values of facts by the names that they mention: where those have forms of the same values, so has the fact.
use Rattle.std.proofs.Common.{◌≡◌, refl, sym, ◌∙◌, ap, subst, ℕ, zero, suc, ◌≤ℤ◌, pos, ℤ, Bool, true, false, ◌||◌, List, [], ◌∷◌}
use Rattle.std.proofs.Common.{◌++◌, append_assoc, Some, None, slice_get, if◌then◌else◌}
use Rattle.std.proofs.lemmas.List.{append-nil}
use Rattle.std.proofs.lemmas.List.Folds.{list_any-append}
use Rattle.side_certs.specs.LinearForm.{LinearForm, value_at}
use Rattle.side_certs.proofs.laws.Values.{value_plus, value_times, value_minus}
use Rattle.model_syntax.specs.Names.{Name, same, listed}
use Rattle.model_syntax.specs.declared.stmt.Le.{Le}
use Rattle.model_syntax.specs.declared.stmt.Lin.{Lin, Lin-F, map-Lin, roll-Lin, fold-roll-Lin, ind-Lin}
use Rattle.model_syntax.specs.declared.stmt.Lin.TheOpen as l
use Rattle.model_syntax.proofs.laws.Bindings.{same_is as same_name, same_self}
use Rattle.sym_heap.specs.Context.{Context, with_fact}
use Rattle.sym_heap.specs.Sides.{form_in, side, side_step, difference, names, names_step}
use Rattle.sym_heap.specs.Start.{with_facts}
use Rattle.expr_rules.specs.Sound.{AllHold, Yields}
use Rattle.expr_rules.proofs.laws.Yields.{yields_more, yields_fact}
use Rattle.stmt_rules.specs.Loops.{mentions, all_kept_but}
use Rattle.stmt_rules.proofs.sound.Joined.{forms_of}

-- the facts that do not mention a name
abbrev pub without : Name → List Le → List Le
without x [] = []
without x (r ∷ rs) = if mentions x r then without x rs else r ∷ without x rs

without_in : (x : Name) (r : Le) (rs : List Le) → mentions x r ≡ true → without x (r ∷ rs) ≡ without x rs
without_in x r rs is = rw is refl

without_out : (x : Name) (r : Le) (rs : List Le) → mentions x r ≡ false → without x (r ∷ rs) ≡ r ∷ without x rs
without_out x r rs is = rw is refl

listed_append : (x : Name) (xs ys : List Name) → listed x (xs ++ ys) ≡ (listed x xs || listed x ys)
listed_append x xs ys = list_any-append (same x) xs ys

or_left : (p q : Bool) → p ≡ true → (p || q) ≡ true
or_left true q is = refl
or_left false q is = absurd (let bad : false ≡ true = is in cc)

or_right : (p q : Bool) → q ≡ true → (p || q) ≡ true
or_right true q is = refl
or_right false q is = is

or_none : (p q : Bool) → (p || q) ≡ false → (p ≡ false) × (q ≡ false)
or_none true q is = absurd (let bad : true ≡ false = is in cc)
or_none false q is = (refl, is)

module _ (u w : ℕ → ℕ) (f g : Name → LinearForm) where
  abbrev pub AreAlike : List Name → Type 0
  AreAlike xs = (x : Name) → listed x xs ≡ true → value_at w (g x) ≡ value_at u (f x)

  abbrev IsAlike : Lin → Type 0
  IsAlike a = AreAlike (names a) → value_at w (side g a) ≡ value_at u (side f a)

  abbrev Alike : Type 0
  Alike = (a : Lin) × IsAlike a

  abbrev bare : Lin-F Alike → Lin-F Lin
  bare y = map-Lin Alike Lin (λ p. p.0) y

  abbrev StepAlike : Lin-F Lin → Type 0
  StepAlike y =
      AreAlike (names_step (map-Lin Lin (List Name) names y))
      → value_at w (side_step g (map-Lin Lin LinearForm (side g) y))
      ≡ value_at u (side_step f (map-Lin Lin LinearForm (side f) y))

  step_alike : (y : Lin-F Alike) → StepAlike (bare y)
  step_alike (l.Const n) alike = refl
  step_alike (l.Var x) alike = alike x (or_left (same x x) false (same_self x))
  step_alike (l.Sum a b) alike =
      let one = a.1 (λ x in_list. alike x
      (listed_append x (names a.0) (names b.0) ∙ or_left (listed x (names a.0)) (listed x (names b.0)) in_list)) in
      let two = b.1 (λ x in_list. alike x
      (listed_append x (names a.0) (names b.0) ∙ or_right (listed x (names a.0)) (listed x (names b.0)) in_list)) in
      value_plus w (side g a.0) (side g b.0) ∙ rw (one, two) (sym (value_plus u (side f a.0) (side f b.0)))
  step_alike (l.Scale k a) alike = value_times w (pos k) (side g a.0) ∙ rw (a.1 alike) (sym (value_times u (pos k) (side f a.0)))

  layer_alike : (y : Lin-F Lin) → StepAlike y → IsAlike (roll-Lin y)
  layer_alike y h = rw (
    fold-roll-Lin LinearForm (side_step g) y,
    fold-roll-Lin LinearForm (side_step f) y,
    fold-roll-Lin
        (List Name) names_step y,
  ) h

  side_alike : (a : Lin) → IsAlike a
  side_alike = ind-Lin IsAlike (λ z y is. subst (λ r. IsAlike (roll-Lin r)) is (layer_alike (bare y) (step_alike y)))

  difference_alike : (r : Le) → AreAlike (names r.low) → AreAlike (names r.high)
      → value_at w (difference g r) ≡ value_at u (difference f r)
  difference_alike r low high =
      value_minus w (side g r.high) (side g r.low)
      ∙ rw (side_alike r.high high, side_alike r.low low) (sym (value_minus u (side f r.high) (side f r.low)))

  -- the facts that do not mention x hold with the ones where all hold with the others, and all names but x are alike
  pub without_hold : (x : Name) → ((y : Name) → same x y ≡ false → value_at w (g y) ≡ value_at u (f y)) → (keep : List Le)
      → AllHold u (forms_of f keep) → AllHold w (forms_of g (without x keep))
  without_hold x alike [] hold i h at = absurd (let bad : None ≡ Some h = at in cc)
  without_hold x alike (r ∷ rs) hold i h at =
      by (mentions x r) refl i at (λ j there. without_hold x alike rs (λ n k here. hold (suc n) k here) j h there) where
        apart : (y : Name) (xs : List Name) → listed x xs ≡ false → listed y xs ≡ true → same x y ≡ false
        apart y xs out in_list = one (same x y) refl where
          one : (b : Bool) → same x y ≡ b → same x y ≡ false
          one false e = e
          one true e = absurd (let bad : false ≡ true = sym out ∙ ap (λ z. listed z xs) (same_name x y e) ∙ in_list in cc)

        by : (b : Bool) → mentions x r ≡ b → (i : ℕ) → slice_get (forms_of g (without x (r ∷ rs))) i ≡ Some h
            → ((j : ℕ) → slice_get (forms_of g (without x rs)) j ≡ Some h → pos 0 ≤ℤ value_at w h) → pos 0 ≤ℤ value_at w h
        by true e i at more = more i (sym (ap (λ l. slice_get (forms_of g l) i) (without_in x r rs e)) ∙ at)
        by false e zero at more =
            let is : Some (difference g r) ≡ Some h = sym (ap (λ l. slice_get (forms_of g l) zero) (without_out x r rs e)) ∙ at in
            let one : difference g r ≡ h = cc in
            let out = or_none (listed x (names r.low)) (listed x (names r.high)) e in
            let same_value = difference_alike r (λ y in_list. alike y (apart y (names r.low) out.0 in_list))
            (λ y in_list. alike y (apart y (names r.high) out.1 in_list)) in
            subst (λ (z : LinearForm). pos 0 ≤ℤ value_at w z) one
            (subst (λ (z : ℤ). pos 0 ≤ℤ z) (sym same_value) (hold zero (difference f r) refl))
        by false e (suc i) at more = more i (sym (ap (λ l. slice_get (forms_of g l) (suc i)) (without_out x r rs e)) ∙ at)

-- the context with the kept facts that do not mention the name, in the forms that the scalars have there
pub all_kept_but_are : (at : ℕ) (x : Name) (keep : List Le) (c : Context)
    → Yields (λ _ d. d ≡ with_facts (forms_of (form_in c.scalars) (without x keep)) c) (all_kept_but at x keep c)
all_kept_but_are at x [] c = ap (λ (r : List LinearForm). record c { facts = r }) (sym (append-nil c.facts))
all_kept_but_are at x (r ∷ rs) c =
    by (mentions x r) refl (all_kept_but_are at x rs c) (all_kept_but_are at x rs (with_fact goal c)) where
      goal : LinearForm
      goal = difference (form_in c.scalars) r

      fs : List LinearForm
      fs = forms_of (form_in c.scalars) (without x rs)

      Is : Unit {0} → Context → Type 0
      Is u d = d ≡ with_facts (goal ∷ fs) c

      one_more : with_facts fs (with_fact goal c) ≡ with_facts (goal ∷ fs) c
      one_more = ap (λ (l : List LinearForm). record c { facts = l }) (append_assoc c.facts (goal ∷ []) fs)

      by : (b : Bool) → mentions x r ≡ b → Yields (λ _ d. d ≡ with_facts fs c) (all_kept_but at x rs c)
          → Yields (λ _ d. d ≡ with_facts fs (with_fact goal c)) (all_kept_but at x rs (with_fact goal c))
          → Yields (λ _ d. d ≡ with_facts (forms_of (form_in c.scalars) (without x (r ∷ rs))) c) (all_kept_but at x (r ∷ rs) c)
      by true e skipped added = subst
          (λ (l : List Le). Yields (λ _ d. d ≡ with_facts (forms_of (form_in c.scalars) l) c) (all_kept_but at x (r ∷ rs) c))
          (sym (without_in x r rs e)) (rw e skipped)
      by false e skipped added = subst
          (λ (l : List Le). Yields (λ _ d. d ≡ with_facts (forms_of (form_in c.scalars) l) c) (all_kept_but at x (r ∷ rs) c))
          (sym (without_out x r rs e)) (rw e
          (yields_fact Is c at goal (λ _. all_kept_but at x rs)
          (yields_more (λ _ d. d ≡ with_facts fs (with_fact goal c)) Is (λ u d is. is ∙ one_more)
          (all_kept_but at x rs (with_fact goal c)) added)))
