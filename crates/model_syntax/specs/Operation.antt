-- The results of operations and comparisons on words, numbers below 2^32.
use Rattle.std.specs.Prelude.{ℕ, ◌+◌, ◌-◌, ◌*◌, ◌/◌, ◌%◌, ◌^◌, Bool, nat_eq, nat_lt, bit_and, bit_or, bit_xor, if◌then◌else◌}
use Rattle.rup_base.specs.Word.{signed_less, high_product, quotient, remainder, shift_signed}
use Rattle.model_syntax.specs.declared.expr.Op.{Op}
use Rattle.model_syntax.specs.declared.expr.Op.TheVariants as op
use Rattle.model_syntax.specs.declared.expr.Cmp.{Cmp}
use Rattle.model_syntax.specs.declared.expr.Cmp.TheVariants as cmp

abbrev pub apply : Op → ℕ → ℕ → ℕ
apply op.Add a b = (a + b) % 2 ^ 32
apply op.Sub a b = (a + (2 ^ 32 - b)) % 2 ^ 32
apply op.Mul a b = a * b % 2 ^ 32
apply op.Mulhuu a b = high_product a b
apply op.Divu a b = quotient a b
apply op.Remu a b = remainder a b
apply op.And a b = bit_and a b
apply op.Or a b = bit_or a b
apply op.Xor a b = bit_xor a b
apply op.Shl a b = a * 2 ^ (b % 32) % 2 ^ 32
apply op.Shr a b = a / 2 ^ (b % 32)
apply op.Sar a b = shift_signed a (b % 32)

abbrev pub holds : Cmp → ℕ → ℕ → Bool
holds cmp.Eq a b = nat_eq a b
holds cmp.Lt a b = nat_lt a b
holds cmp.Slt a b = signed_less a b
