-- The equations of words.
use Rattle.std.proofs.Common.{◌≡◌, refl, sym, ◌∙◌, ap, arith, ℕ, ◌+◌, ◌-◌, ◌*◌, ◌/◌, ◌%◌, ◌^◌, ◌<◌, ◌≤◌, nat_eq, Bool, true}
use Rattle.std.proofs.Common.{false, if◌then◌else◌}
use Rattle.std.specs.Int.Bits.{bit_and, bit_xor, xor_assoc, xor_zero_r, or_zero_r}
use Rattle.std.proofs.lemmas.Bool.{eqb-true, leb-true, le-leb}
use Rattle.std.proofs.lemmas.Nat.{and_comm, or_comm, xor_comm, and_mask, mul-mod_first, mul-mod_second}
use Rattle.std.proofs.Math.Nat.{add_comm, mul_comm, mul_assoc}
use Rattle.std.proofs.Math.Pow.{pow_mono}
use Rattle.rup_base.specs.Word.{quotient}
use Rattle.model_syntax.specs.Kinds.{is_word}
use Rattle.model_syntax.specs.Operation.{apply}
use Rattle.model_syntax.specs.declared.expr.Op.{Op}
use Rattle.model_syntax.specs.declared.expr.Op.TheVariants as op
use Rattle.equations.specs.Equations.{is_neutral}

-- Exchanged and grouped.

abbrev pub Commutes : Op → Type 0
Commutes o = (a b : ℕ) → apply o b a ≡ apply o a b

abbrev pub Associates : Op → Type 0
Associates o = (a b c : ℕ) → apply o a (apply o b c) ≡ apply o (apply o a b) c

pub add_commutes : Commutes op.Add
add_commutes a b = ap (λ n. n % 2 ^ 32) (add_comm b a)

pub mul_commutes : Commutes op.Mul
mul_commutes a b = ap (λ n. n % 2 ^ 32) (mul_comm b a)

pub and_commutes : Commutes op.And
and_commutes a b = and_comm b a

pub or_commutes : Commutes op.Or
or_commutes a b = or_comm b a

pub xor_commutes : Commutes op.Xor
xor_commutes a b = xor_comm b a

pub add_associates : Associates op.Add
add_associates a b c = omega arith

pub mul_associates : Associates op.Mul
mul_associates a b c =
    mul-mod_second a (b * c) (2 ^ 32)
    ∙ ap (λ n. n % 2 ^ 32) (sym (mul_assoc a b c))
    ∙ sym (mul-mod_first (a * b) c (2 ^ 32))

pub xor_associates : Associates op.Xor
xor_associates a b c = sym (xor_assoc a b c)

-- Powers of two.

whole_shift : (k : ℕ) → k < 32 → k % 32 ≡ k
whole_shift k small = omega (arith, small)

pub product_shifts : (a k : ℕ) → k < 32 → apply op.Shl a k ≡ apply op.Mul a (2 ^ k)
product_shifts a k small = ap (λ j. a * 2 ^ j % 2 ^ 32) (whole_shift k small)

power_positive : (k : ℕ) → 1 ≤ 2 ^ k
power_positive k = pow_mono {i = 0} {j = k} (omega arith)

no_zero : (n : ℕ) → 1 ≤ n → nat_eq n 0 ≡ false
no_zero n positive = by (nat_eq n 0) refl
  where
    by : (b : Bool) → nat_eq n 0 ≡ b → b ≡ false
    by true at = absurd (omega (arith, positive, eqb-true n 0 at))
    by false at = refl

pub quotient_shifts : (a k : ℕ) → k < 32 → apply op.Shr a k ≡ apply op.Divu a (2 ^ k)
quotient_shifts a k small =
    ap (λ j. a / 2 ^ j) (whole_shift k small)
    ∙ ap (λ (b : Bool). if b then 4294967295 else a / 2 ^ k) (sym (no_zero (2 ^ k) (power_positive k)))

pub remainder_masks : (a k : ℕ) → k < 32 → apply op.And a (2 ^ k - 1) ≡ apply op.Remu a (2 ^ k)
remainder_masks a k small =
    and_mask a k
    ∙ ap (λ (b : Bool). if b then a else a % 2 ^ k) (sym (no_zero (2 ^ k) (power_positive k)))

pub shift_word : (k : ℕ) → k < 32 → is_word k ≡ true
shift_word k small = le-leb k 4294967295 (omega (arith, small))

pub mask_word : (k : ℕ) → k < 32 → is_word (2 ^ k - 1) ≡ true
mask_word k small =
    let bound : 2 ^ k ≤ 2 ^ 32 = pow_mono {i = k} {j = 32} (omega (arith, small)) in
    le-leb (2 ^ k - 1) 4294967295 (omega (arith, bound))

-- Numbers that change nothing.

by_quotient : (a : ℕ) → a / 1 ≡ a
by_quotient a = omega arith

neutral : (o : Op) (a n : ℕ) → is_neutral o n ≡ true → a ≤ 4294967295 → apply o a n ≡ a
neutral op.Add a n is small = ap (λ m. (a + m) % 2 ^ 32) (eqb-true n 0 is) ∙ omega (arith, small)
neutral op.Sub a n is small = ap (λ m. (a + (2 ^ 32 - m)) % 2 ^ 32) (eqb-true n 0 is) ∙ omega (arith, small)
neutral op.Or a n is small = ap (λ m. apply op.Or a m) (eqb-true n 0 is) ∙ or_zero_r a
neutral op.Xor a n is small = ap (λ m. bit_xor a m) (eqb-true n 0 is) ∙ xor_zero_r a
neutral op.Shl a n is small = ap (λ m. a * 2 ^ (m % 32) % 2 ^ 32) (eqb-true n 0 is) ∙ omega (arith, small)
neutral op.Shr a n is small = ap (λ m. a / 2 ^ (m % 32)) (eqb-true n 0 is) ∙ by_quotient a
neutral op.Mul a n is small = ap (λ m. a * m % 2 ^ 32) (eqb-true n 1 is) ∙ omega (arith, small)
neutral op.Divu a n is small = ap (λ m. quotient a m) (eqb-true n 1 is) ∙ by_quotient a
neutral op.And a n is small = ap (λ m. bit_and a m) (eqb-true n 4294967295 is) ∙ and_mask a 32 ∙ omega (arith, small)
neutral op.Mulhuu a n is small = absurd (cc)
neutral op.Remu a n is small = absurd (cc)
neutral op.Sar a n is small = absurd (cc)

pub neutral_word : (o : Op) (a n : ℕ) → is_neutral o n ≡ true → is_word a ≡ true → apply o a n ≡ a
neutral_word o a n is word = neutral o a n is (leb-true a 4294967295 word)

-- Bytes.

pub byte_masks : (a : ℕ) → bit_and a 255 ≡ a % 256
byte_masks a = and_mask a 8

pub byte_of_mask : (a : ℕ) → bit_and a 255 % 256 ≡ a % 256
byte_of_mask a = ap (λ n. n % 256) (byte_masks a) ∙ omega arith
