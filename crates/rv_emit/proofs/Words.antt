-- The operations of three-address code are those of the machine, and their results are words.
use Rattle.std.proofs.Common.{◌≡◌, ℕ, ◌-◌, ◌*◌, ◌/◌, ◌%◌, ◌^◌, ◌<◌, pos, negsuc, Bool, true, false, nat_eq, nat_lt, if◌then◌else◌}
use Rattle.std.proofs.Common.{ap, ◌∙◌, arith}
use Rattle.std.specs.Prelude.{int_lt}
use Rattle.std.proofs.lemmas.Nat.{or_of_32, xor_of_32, and_le_l, mul-lt}
use Rattle.std.proofs.Math.Nat.{div-le_self, mod-le}
use Rattle.rup_base.specs.Word as base
use Rattle.bed_syntax.specs.declared.operation.BOp.{BOp}
use Rattle.bed_syntax.specs.declared.operation.BOp.TheVariants as op
use Rattle.bed_syntax.specs.Operation.{apply}
use Rattle.rv_machine.specs.Word.{word, floor, signed, one_if, minus, less, shifted_signed, less_signed}

quotient_word : (a d : ℕ) → a < 2 ^ 32 → a / d < 2 ^ 32
quotient_word a d word = omega (arith, div-le_self a d)

product_word : (a b : ℕ) → a < 2 ^ 32 → b < 2 ^ 32 → a * b / 2 ^ 32 < 2 ^ 32
product_word a b first second = omega (arith, mul-lt a b (2 ^ 32) (2 ^ 32) first second)

if_word : (b : Bool) (x y : ℕ) → x < 2 ^ 32 → y < 2 ^ 32 → (if b then x else y) < 2 ^ 32
if_word true x y first second = first
if_word false x y first second = second

pub apply_word : (o : BOp) (a b : ℕ) → a < 2 ^ 32 → b < 2 ^ 32 → apply o a b < 2 ^ 32
apply_word op.Add a b first second = omega arith
apply_word op.Sub a b first second = omega arith
apply_word op.Mul a b first second = omega arith
apply_word op.Mulhuu a b first second = product_word a b first second
apply_word op.Divu a b first second = if_word (nat_eq b 0) 4294967295 (a / b) (omega arith) (quotient_word a b first)
apply_word op.Remu a b first second = if_word (nat_eq b 0) a (a % b) first (omega (arith, mod-le a b))
apply_word op.And a b first second = omega (arith, and_le_l a b)
apply_word op.Or a b first second = or_of_32 a b first second
apply_word op.Xor a b first second = xor_of_32 a b first second
apply_word op.Sru a b first second = quotient_word a (2 ^ (b % 32)) first
apply_word op.Slu a b first second = omega arith
apply_word op.Srs a b first second =
    if_word (nat_lt a (2 ^ 31)) (a / 2 ^ (b % 32)) (4294967295 - (4294967295 - a) / 2 ^ (b % 32))
    (quotient_word a (2 ^ (b % 32)) first) (omega arith)
apply_word op.Lts a b first second = if_word (base.signed_less a b) 1 0 (omega arith) (omega arith)
apply_word op.Ltu a b first second = if_word (nat_lt a b) 1 0 (omega arith) (omega arith)
apply_word op.Eq a b first second = if_word (nat_eq a b) 1 0 (omega arith) (omega arith)

pub minus_is : (a b : ℕ) → b < 2 ^ 32 → minus a b ≡ apply op.Sub a b
minus_is a b word = omega arith

pub less_is : (a b : ℕ) → a < 2 ^ 32 → b < 2 ^ 32 → less (minus a b) 1 ≡ apply op.Eq a b
less_is a b first second = grind arith

shifted_by : (t : Bool) (a d : ℕ) → a < 2 ^ 32 → word (floor (if t then pos a else negsuc (2 ^ 32 - 1 - a)) d)
    ≡ (if t then a / d else 4294967295 - (4294967295 - a) / d)
shifted_by true a d small = let q = quotient_word a d small in omega arith
shifted_by false a d small = let q = quotient_word (4294967295 - a) d (omega arith) in omega arith

pub shifted_is : (a b : ℕ) → a < 2 ^ 32 → shifted_signed a b ≡ apply op.Srs a b
shifted_is a b small = shifted_by (nat_lt a (2 ^ 31)) a (2 ^ (b % 32)) small

signed_is : (a : ℕ) → a < 2 ^ 32 → signed a ≡ base.signed a
signed_is a small = let same : 2 ^ 32 - 1 - a ≡ 2 ^ 32 - a - 1 = omega arith in
    ap (λ n. if nat_lt a (2 ^ 31) then pos a else negsuc n) same

pub less_signed_is : (a b : ℕ) → a < 2 ^ 32 → b < 2 ^ 32 → less_signed a b ≡ apply op.Lts a b
less_signed_is a b first second = ap (λ x. one_if (int_lt x (signed b))) (signed_is a first)
    ∙ ap (λ x. one_if (int_lt (base.signed a) x)) (signed_is b second)
