-- The numbers of places: different places have different numbers.
use Rattle.std.proofs.Common.{◌≡◌, refl, ap, ◌∙◌, subst, sym, arith, ℕ, zero, suc, ◌+◌, ◌<◌, ◌≤◌, Bool, true, false, ◌&&◌, List}
use Rattle.std.proofs.Common.{[], ◌∷◌, map, length, Option, Some, None, slice_get}
use Rattle.std.proofs.lemmas.Bool.{ltb-true}
use Rattle.rup_base.specs.Gather.{all_true}
use Rattle.reg_alloc.specs.declared.plan.At.{At}
use Rattle.reg_alloc.specs.declared.plan.At.TheVariants.{Reg, Slot}
use Rattle.reg_alloc.specs.PlanOk.{is_place, Share}
use Rattle.reg_alloc.specs.Kept.{number, numbered}

pub and_left : (a b : Bool) → (a && b) ≡ true → a ≡ true
and_left true b h = refl
and_left false b h = absurd (cc)

pub and_right : (a b : Bool) → (a && b) ≡ true → b ≡ true
and_right true b h = h
and_right false b h = absurd (cc)

pub and_both : (a b : Bool) → a ≡ true → b ≡ true → (a && b) ≡ true
and_both true b h g = g
and_both false b h g = absurd (cc)

register_small : (vars r : ℕ) → is_place vars (Reg r) ≡ true → r < 32
register_small vars r h = grind (arith, h)

register_positive : (vars r : ℕ) → is_place vars (Reg r) ≡ true → 0 < r
register_positive vars r h = grind (arith, h)

pub number_positive : (vars : ℕ) (a : At) → is_place vars a ≡ true → number a ≡ 0 → ⊥
number_positive vars (Reg r) h is = let p = register_positive vars r h in omega arith
number_positive vars (Slot n) h is = omega arith

pub number_below : (vars : ℕ) (a : At) → is_place vars a ≡ true → number a < 32 + vars
number_below vars (Reg r) h = let p = register_small vars r h in omega arith
number_below vars (Slot n) h = let p = ltb-true n vars h in omega arith

pub same_number : (vars : ℕ) (a b : At) → is_place vars a ≡ true → is_place vars b ≡ true → number a ≡ number b → a ≡ b
same_number vars (Reg r) (Reg q) h g is = ap Reg is
same_number vars (Reg r) (Slot m) h g is = absurd (let p = register_small vars r h in omega arith)
same_number vars (Slot n) (Reg q) h g is = absurd (let p = register_small vars q g in omega arith)
same_number vars (Slot n) (Slot m) h g is = let e : n ≡ m = omega arith in ap Slot e

pub each_valid : (vars : ℕ) (ps : List At) → all_true (map (is_place vars) ps) ≡ true → (i : ℕ) (a : At) → slice_get ps i ≡ Some a
    → is_place vars a ≡ true
each_valid vars [] h i a is = absurd (let bad : ◌≡◌ {A = Option At} None (Some a) = is in cc)
each_valid vars (p ∷ ps) h zero a is = let e : p ≡ a = cc in
    subst (λ z. is_place vars z ≡ true) e (and_left (is_place vars p) (all_true (map (is_place vars) ps)) h)
each_valid vars (p ∷ ps) h (suc i) a is =
    each_valid vars ps (and_right (is_place vars p) (all_true (map (is_place vars) ps)) h) i a is

past_end : (ps : List At) (x : ℕ) → slice_get ps x ≡ None → length ps ≤ x
past_end [] x h = omega arith
past_end (p ∷ ps) zero h = absurd (let bad : ◌≡◌ {A = Option At} (Some p) None = h in cc)
past_end (p ∷ ps) (suc x) h = let rest = past_end ps x h in omega arith

pub within : (ps : List At) (x : ℕ) (a : At) → slice_get ps x ≡ Some a → x < length ps
within [] x a h = absurd (let bad : ◌≡◌ {A = Option At} None (Some a) = h in cc)
within (p ∷ ps) zero a h = omega arith
within (p ∷ ps) (suc x) a h = let rest = within ps x a h in omega arith

module _ (vars : ℕ) (ps : List At) (one_each : length ps ≡ vars) (valid : all_true (map (is_place vars) ps) ≡ true) where
  numbers_differ_by : (v x : ℕ) (o q : Option At) → slice_get ps v ≡ o → slice_get ps x ≡ q → (v ≡ x → ⊥) → (Share ps v x → ⊥)
      → numbered v o ≡ numbered x q → ⊥
  numbers_differ_by v x None None is are other apart same = other (omega arith)
  numbers_differ_by v x (Some a) None is are other apart same =
      let past = past_end ps x are in
      let below = number_below vars a (each_valid vars ps valid v a is) in
      omega arith
  numbers_differ_by v x None (Some b) is are other apart same =
      let past = past_end ps v is in
      let below = number_below vars b (each_valid vars ps valid x b are) in
      omega arith
  numbers_differ_by v x (Some a) (Some b) is are other apart same =
      let e = same_number vars a b (each_valid vars ps valid v a is) (each_valid vars ps valid x b are) same in
      apart (a, (is, are ∙ ap Some (sym e)))

  pub numbers_differ : (v x : ℕ) → (v ≡ x → ⊥) → (Share ps v x → ⊥) → numbered v (slice_get ps v) ≡ numbered x (slice_get ps x)
      → ⊥
  numbers_differ v x other apart same = numbers_differ_by v x (slice_get ps v) (slice_get ps x) refl refl other apart same
