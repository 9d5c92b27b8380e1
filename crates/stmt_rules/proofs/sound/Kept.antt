-- The values of kept facts: where names have forms of the same values, so have the facts.
use Rattle.std.proofs.Common.{◌≡◌, refl, sym, ◌∙◌, subst, ℕ, zero, suc, ◌≤ℤ◌, pos, negsuc, ℤ, List, [], ◌∷◌, Some, None}
use Rattle.side_certs.specs.LinearForm.{LinearForm, times, value_at}
use Rattle.side_certs.proofs.laws.Values.{value_plus, value_times, value_minus}
use Rattle.model_syntax.specs.Names.{Name}
use Rattle.model_syntax.specs.declared.stmt.Le.{Le}
use Rattle.model_syntax.specs.declared.stmt.Lin.{Lin, Lin-F, map-Lin, roll-Lin, fold-roll-Lin, ind-Lin}
use Rattle.model_syntax.specs.declared.stmt.Lin.TheOpen as l
use Rattle.sym_heap.specs.Fits.{Known}
use Rattle.sym_heap.specs.Sides.{side, side_step, difference}
use Rattle.sym_heap.proofs.laws.Extending.{known_constant, known_plus, known_times}
use Rattle.expr_rules.specs.Sound.{AllKnown, AllHold}
use Rattle.stmt_rules.proofs.sound.Joined.{forms_of}

-- Values.

module _ (u w : ℕ → ℕ) (f g : Name → LinearForm) (alike : (x : Name) → value_at w (g x) ≡ value_at u (f x)) where
  abbrev IsAlike : Lin → Type 0
  IsAlike a = value_at w (side g a) ≡ value_at u (side f a)

  abbrev Alike : Type 0
  Alike = (a : Lin) × IsAlike a

  abbrev bare : Lin-F Alike → Lin-F Lin
  bare y = map-Lin Alike Lin (λ p. p.0) y

  abbrev StepAlike : Lin-F Lin → Type 0
  StepAlike y = value_at w (side_step g (map-Lin Lin LinearForm (side g) y))
      ≡ value_at u (side_step f (map-Lin Lin LinearForm (side f) y))

  step_alike : (y : Lin-F Alike) → StepAlike (bare y)
  step_alike (l.Const n) = refl
  step_alike (l.Var x) = alike x
  step_alike (l.Sum a b) = value_plus w (side g a.0) (side g b.0) ∙ rw (a.1, b.1) (sym (value_plus u (side f a.0) (side f b.0)))
  step_alike (l.Scale k a) = value_times w (pos k) (side g a.0) ∙ rw a.1 (sym (value_times u (pos k) (side f a.0)))

  layer_alike : (y : Lin-F Lin) → StepAlike y → IsAlike (roll-Lin y)
  layer_alike y h = rw (fold-roll-Lin LinearForm (side_step g) y, fold-roll-Lin LinearForm (side_step f) y) h

  side_alike : (a : Lin) → IsAlike a
  side_alike = ind-Lin IsAlike (λ z y is. subst (λ r. IsAlike (roll-Lin r)) is (layer_alike (bare y) (step_alike y)))

  difference_alike : (r : Le) → value_at w (difference g r) ≡ value_at u (difference f r)
  difference_alike r =
      value_minus w (side g r.high) (side g r.low)
      ∙ rw (side_alike r.high, side_alike r.low) (sym (value_minus u (side f r.high) (side f r.low)))

  -- the facts hold with the ones where they do with the others
  pub forms_hold : (keep : List Le) → AllHold u (forms_of f keep) → AllHold w (forms_of g keep)
  forms_hold [] hold i h at = absurd (let bad : None ≡ Some h = at in cc)
  forms_hold (r ∷ rs) hold zero h at =
      let is : difference g r ≡ h = cc in
      subst (λ (z : LinearForm). pos 0 ≤ℤ value_at w z) is
      (subst (λ (z : ℤ). pos 0 ≤ℤ z) (sym (difference_alike r)) (hold zero (difference f r) refl))
  forms_hold (r ∷ rs) hold (suc i) h at = forms_hold rs (λ j k there. hold (suc j) k there) i h at

-- Symbols.

module _ (n : ℕ) (f : Name → LinearForm) (known : (x : Name) → Known n (f x)) where
  abbrev SideKnown : Lin → Type 0
  SideKnown a = Known n (side f a)

  abbrev KnownOne : Type 0
  KnownOne = (a : Lin) × SideKnown a

  abbrev plain : Lin-F KnownOne → Lin-F Lin
  plain y = map-Lin KnownOne Lin (λ p. p.0) y

  step_known : (y : Lin-F KnownOne) → Known n (side_step f (map-Lin Lin LinearForm (side f) (plain y)))
  step_known (l.Const k) = known_constant n (pos k)
  step_known (l.Var x) = known x
  step_known (l.Sum a b) = known_plus n (side f a.0) (side f b.0) a.1 b.1
  step_known (l.Scale k a) = known_times n (pos k) (side f a.0) a.1

  layer_known : (y : Lin-F Lin) → Known n (side_step f (map-Lin Lin LinearForm (side f) y)) → SideKnown (roll-Lin y)
  layer_known y h = rw (fold-roll-Lin LinearForm (side_step f) y) h

  side_known : (a : Lin) → SideKnown a
  side_known = ind-Lin SideKnown (λ z y is. subst (λ r. SideKnown (roll-Lin r)) is (layer_known (plain y) (step_known y)))

  -- the facts mention only symbols that the names' forms do
  pub forms_known : (keep : List Le) → AllKnown n (forms_of f keep)
  forms_known [] i h at = absurd (let bad : None ≡ Some h = at in cc)
  forms_known (r ∷ rs) zero h at =
      let is : difference f r ≡ h = cc in
      subst (λ (z : LinearForm). Known n z) is
      (known_plus n (side f r.high) (times (negsuc 0) (side f r.low)) (side_known r.high)
      (known_times n (negsuc 0) (side f r.low) (side_known r.low)))
  forms_known (r ∷ rs) (suc i) h at = forms_known rs i h at
