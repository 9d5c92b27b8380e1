-- What a 32-bit word means beyond its unsigned number.
use Rattle.std.specs.Prelude.{ℕ, ◌-◌, ◌*◌, ◌/◌, ◌%◌, ◌^◌, Bool, ℤ, pos, negsuc, min, nat_eq, nat_lt, int_lt, if◌then◌else◌}

-- the number that a word stands for in two's complement: from 2^31 on it is the word less 2^32
abbrev pub signed : ℕ → ℤ
signed w = if nat_lt w (2 ^ 31) then pos w else negsuc (2 ^ 32 - w - 1)

-- a is less than b in two's complement, as SLT compares (RISC-V Unprivileged ISA 20191213, 2.4)
abbrev pub signed_less : ℕ → ℕ → Bool
signed_less a b = int_lt (signed a) (signed b)

-- the upper 32 bits of the 64-bit product of two unsigned words, as MULHU gives them (the same, 7.1)
abbrev pub high_product : ℕ → ℕ → ℕ
high_product a b = a * b / 2 ^ 32

-- the unsigned quotient, by zero the greatest word
abbrev pub quotient : ℕ → ℕ → ℕ
quotient a b = if nat_eq b 0 then 4294967295 else a / b

-- the unsigned remainder, by zero the dividend
abbrev pub remainder : ℕ → ℕ → ℕ
remainder a b = if nat_eq b 0 then a else a % b

-- a word shifted to the right by k with copies of its sign bit: where that bit is set, the complement is shifted
abbrev pub shift_signed : ℕ → ℕ → ℕ
shift_signed a k = if nat_lt a (2 ^ 31) then a / 2 ^ k else 4294967295 - (4294967295 - a) / 2 ^ k

-- a count as a 32-bit number, which stays at its greatest value
abbrev pub counted : ℕ → ℕ
counted n = min n 4294967295
