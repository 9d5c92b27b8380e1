-- Operations on words give words.
use Rattle.std.proofs.Common.{◌≡◌, arith, ℕ, ◌-◌, ◌*◌, ◌/◌, ◌%◌, ◌^◌, ◌≤◌, nat_eq, nat_le, nat_lt, Bool, true, false}
use Rattle.std.proofs.Common.{if◌then◌else◌}
use Rattle.std.proofs.lemmas.Bool.{leb-true, le-leb}
use Rattle.std.proofs.lemmas.Nat.{and_le_l, or_lt, xor_lt}
use Rattle.std.proofs.Math.Nat.{div-le_self, mod-le, mul-le-mul}
use Rattle.rup_base.specs.Word.{high_product, quotient, remainder, shift_signed}
use Rattle.model_syntax.specs.Kinds.{is_word, is_byte}
use Rattle.model_syntax.specs.Operation.{apply}
use Rattle.model_syntax.specs.declared.expr.Op.{Op}
use Rattle.model_syntax.specs.declared.expr.Op.TheVariants as op

quotient_bound : (a b : ℕ) → a ≤ 4294967295 → quotient a b ≤ 4294967295
quotient_bound a b small = by (nat_eq b 0)
  where
    by : (zero_divisor : Bool) → (if zero_divisor then 4294967295 else a / b) ≤ 4294967295
    by true = omega arith
    by false = omega (arith, div-le_self a b, small)

remainder_bound : (a b : ℕ) → a ≤ 4294967295 → remainder a b ≤ 4294967295
remainder_bound a b small = by (nat_eq b 0)
  where
    by : (zero_divisor : Bool) → (if zero_divisor then a else a % b) ≤ 4294967295
    by true = small
    by false = omega (arith, mod-le a b, small)

shift_bound : (a k : ℕ) → a ≤ 4294967295 → shift_signed a k ≤ 4294967295
shift_bound a k small = by (nat_lt a (2 ^ 31))
  where
    by : (positive : Bool) → (if positive then a / 2 ^ k else 4294967295 - (4294967295 - a) / 2 ^ k) ≤ 4294967295
    by true = omega (arith, div-le_self a (2 ^ k), small)
    by false = omega (arith, small)

product_bound : (a b : ℕ) → a ≤ 4294967295 → b ≤ 4294967295 → high_product a b ≤ 4294967295
product_bound a b small_a small_b =
    let product : a * b ≤ 4294967295 * 4294967295 = mul-le-mul small_a small_b in
    omega (arith, product)

bounded : (o : Op) (a b : ℕ) → a ≤ 4294967295 → b ≤ 4294967295 → apply o a b ≤ 4294967295
bounded op.Add a b small_a small_b = omega arith
bounded op.Sub a b small_a small_b = omega arith
bounded op.Mul a b small_a small_b = omega arith
bounded op.Mulhuu a b small_a small_b = product_bound a b small_a small_b
bounded op.Divu a b small_a small_b = quotient_bound a b small_a
bounded op.Remu a b small_a small_b = remainder_bound a b small_a
bounded op.And a b small_a small_b = omega (arith, and_le_l a b, small_a)
bounded op.Or a b small_a small_b = omega (arith, or_lt 32 a b (omega (arith, small_a)) (omega (arith, small_b)))
bounded op.Xor a b small_a small_b = omega (arith, xor_lt 32 a b (omega (arith, small_a)) (omega (arith, small_b)))
bounded op.Shl a b small_a small_b = omega arith
bounded op.Shr a b small_a small_b = omega (arith, div-le_self a (2 ^ (b % 32)), small_a)
bounded op.Sar a b small_a small_b = shift_bound a (b % 32) small_a

pub apply_word : (o : Op) (a b : ℕ) → is_word a ≡ true → is_word b ≡ true → is_word (apply o a b) ≡ true
apply_word o a b a_word b_word = le-leb _ _ (bounded o a b (leb-true _ _ a_word) (leb-true _ _ b_word))

pub byte_word : (n : ℕ) → is_byte n ≡ true → is_word n ≡ true
byte_word n is = le-leb _ _ (omega (arith, leb-true n 255 is))

pub flag_word : (n : ℕ) → nat_le n 1 ≡ true → is_word n ≡ true
flag_word n is = le-leb _ _ (omega (arith, leb-true n 1 is))

pub low_byte : (n : ℕ) → is_byte (n % 256) ≡ true
low_byte n = le-leb _ _ (omega arith)

-- the lowest byte of a byte is the byte
pub whole_byte : (n : ℕ) → is_byte n ≡ true → n % 256 ≡ n
whole_byte n is = omega (arith, leb-true n 255 is)
