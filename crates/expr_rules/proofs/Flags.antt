-- Flags: numbers that are 0 or 1, and lists of their facts.
use Rattle.std.proofs.Common.{◌≡◌, refl, subst, arith, ℕ, zero, suc, ◌≤◌, nat_eq, nat_lt, bit_and, bit_or, Bool, true, false}
use Rattle.std.proofs.Common.{◌&&◌, ◌||◌, List, [], ◌∷◌, ◌++◌, Some, None, slice_get}
use Rattle.model_syntax.specs.Operation.{holds}
use Rattle.model_syntax.specs.Value.{flag, is_true}
use Rattle.model_syntax.specs.declared.expr.Cmp.{Cmp}
use Rattle.model_syntax.specs.declared.expr.Cmp.TheVariants as cmp
use Rattle.bed_syntax.specs.Operation as bed
use Rattle.expr_rules.specs.Operations.{test_of}

same_flag : (b : Bool) → bed.flag b ≡ flag b
same_flag true = refl
same_flag false = refl

pub same_test : (t : Cmp) (m n : ℕ) → bed.apply (test_of t) m n ≡ flag (holds t m n)
same_test cmp.Eq m n = same_flag (nat_eq m n)
same_test cmp.Lt m n = same_flag (nat_lt m n)
same_test cmp.Slt m n = same_flag (holds cmp.Slt m n)

pub flag_small : (b : Bool) → flag b ≤ 1
flag_small true = omega arith
flag_small false = omega arith

pub flag_true : (b : Bool) → is_true (flag b) ≡ b
flag_true true = refl
flag_true false = refl

-- both and one of two flags
pub and_flags : (m n : ℕ) → m ≤ 1 → n ≤ 1 → bit_and m n ≡ flag (is_true m && is_true n)
and_flags zero zero a b = refl
and_flags zero (suc zero) a b = refl
and_flags (suc zero) zero a b = refl
and_flags (suc zero) (suc zero) a b = refl
and_flags (suc (suc m)) n a b = absurd (omega (arith, a))
and_flags zero (suc (suc n)) a b = absurd (omega (arith, b))
and_flags (suc zero) (suc (suc n)) a b = absurd (omega (arith, b))

pub or_flags : (m n : ℕ) → m ≤ 1 → n ≤ 1 → bit_or m n ≡ flag (is_true m || is_true n)
or_flags zero zero a b = refl
or_flags zero (suc zero) a b = refl
or_flags (suc zero) zero a b = refl
or_flags (suc zero) (suc zero) a b = refl
or_flags (suc (suc m)) n a b = absurd (omega (arith, a))
or_flags zero (suc (suc n)) a b = absurd (omega (arith, b))
or_flags (suc zero) (suc (suc n)) a b = absurd (omega (arith, b))

pub neither : (a b : Bool) → (a || b) ≡ false → (a ≡ false) × (b ≡ false)
neither true b is = absurd (let bad : true ≡ false = is in cc)
neither false b is = (refl, is)

-- each of a list and of another one
module _ {A : Type 0} (P : A → Type 0) where
  abbrev pub Each : List A → Type 0
  Each xs = (i : ℕ) (x : A) → slice_get xs i ≡ Some x → P x

  pub each_none : Each []
  each_none i x at = absurd (let bad : None ≡ Some x = at in cc)

  pub each_more : (y : A) (ys : List A) → P y → Each ys → Each (y ∷ ys)
  each_more y ys one more zero x at = let same : y ≡ x = cc in subst P same one
  each_more y ys one more (suc i) x at = more i x at

  pub each_joined : (xs ys : List A) → Each xs → Each ys → Each (xs ++ ys)
  each_joined [] ys one two = two
  each_joined (x ∷ xs) ys one two = each_more x (xs ++ ys) (one 0 x refl) (each_joined xs ys (λ i z at. one (suc i) z at) two)
