-- What the operations give at two words, which are numbers below 2^32. Each is that of RV32IM
-- (RISC-V Unprivileged ISA 20191213, sections 2.4 and 7.1, 7.2).
use Rattle.std.specs.Prelude.{ℕ, ◌+◌, ◌-◌, ◌*◌, ◌/◌, ◌%◌, ◌^◌, Bool, nat_eq, nat_lt, bit_and, bit_or, bit_xor, if◌then◌else◌}
use Rattle.rup_base.specs.Word.{signed_less, high_product, quotient, remainder, shift_signed}
use Rattle.bed_syntax.specs.declared.operation.BOp.{BOp}
use Rattle.bed_syntax.specs.declared.operation.BOp.TheVariants as op

-- 1 where a test holds, else 0
abbrev pub flag : Bool → ℕ
flag holds = if holds then 1 else 0

-- the result of an operation
abbrev pub apply : BOp → ℕ → ℕ → ℕ
apply op.Add a b = (a + b) % 2 ^ 32
apply op.Sub a b = (a + (2 ^ 32 - b)) % 2 ^ 32
apply op.Mul a b = a * b % 2 ^ 32
apply op.Mulhuu a b = high_product a b
apply op.Divu a b = quotient a b
apply op.Remu a b = remainder a b
apply op.And a b = bit_and a b
apply op.Or a b = bit_or a b
apply op.Xor a b = bit_xor a b
apply op.Sru a b = a / 2 ^ (b % 32)
apply op.Slu a b = a * 2 ^ (b % 32) % 2 ^ 32
apply op.Srs a b = shift_signed a (b % 32)
apply op.Lts a b = flag (signed_less a b)
apply op.Ltu a b = flag (nat_lt a b)
apply op.Eq a b = flag (nat_eq a b)
