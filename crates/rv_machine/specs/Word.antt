-- What the register instructions compute: arithmetic on words of 32 bits, which are the numbers below 2^32
-- (RISC-V Unprivileged ISA 20191213, section 2.4, and chapter 7 for the M extension).
use Rattle.std.specs.Prelude.{ℕ, ◌+◌, ◌-◌, ◌*◌, ◌/◌, ◌%◌, ◌^◌, Bool, ℤ, pos, negsuc, ◌*ℤ◌, int_lt, int_div, int_rem, nat_lt, ◌==◌}
use Rattle.std.specs.Prelude.{if◌then◌else◌}

-- a word read in two's complement
abbrev pub signed : ℕ → ℤ
signed n = if nat_lt n (2 ^ 31) then pos n else negsuc (2 ^ 32 - 1 - n)

-- the word of a whole number: the number modulo 2^32
abbrev pub word : ℤ → ℕ
word (pos n) = n % 2 ^ 32
word (negsuc n) = 2 ^ 32 - 1 - n % 2 ^ 32

-- a whole number divided by a power of two and rounded down
abbrev pub floor : ℤ → ℕ → ℤ
floor (pos n) d = pos (n / d)
floor (negsuc n) d = negsuc (n / d)

abbrev pub one_if : Bool → ℕ
one_if b = if b then 1 else 0

abbrev pub plus : ℕ → ℕ → ℕ
plus a b = (a + b) % 2 ^ 32

abbrev pub minus : ℕ → ℕ → ℕ
minus a b = (a + 2 ^ 32 - b) % 2 ^ 32

-- the amount of a shift is the low five bits of the second operand
abbrev pub shifted_left : ℕ → ℕ → ℕ
shifted_left a b = a * 2 ^ (b % 32) % 2 ^ 32

abbrev pub shifted_right : ℕ → ℕ → ℕ
shifted_right a b = a / 2 ^ (b % 32)

-- a shift that copies the sign bit
abbrev pub shifted_signed : ℕ → ℕ → ℕ
shifted_signed a b = word (floor (signed a) (2 ^ (b % 32)))

abbrev pub less : ℕ → ℕ → ℕ
less a b = one_if (nat_lt a b)

abbrev pub is_less_signed : ℕ → ℕ → Bool
is_less_signed a b = int_lt (signed a) (signed b)

abbrev pub less_signed : ℕ → ℕ → ℕ
less_signed a b = one_if (is_less_signed a b)

abbrev pub product : ℕ → ℕ → ℕ
product a b = a * b % 2 ^ 32

-- the high words of the products: both signed, the first signed, none signed
abbrev pub high_signed : ℕ → ℕ → ℕ
high_signed a b = word (floor (signed a *ℤ signed b) (2 ^ 32))

abbrev pub high_mixed : ℕ → ℕ → ℕ
high_mixed a b = word (floor (signed a *ℤ pos b) (2 ^ 32))

abbrev pub high_unsigned : ℕ → ℕ → ℕ
high_unsigned a b = a * b / 2 ^ 32

-- division rounds towards zero; by zero it gives all ones, and -2^31 by -1 gives -2^31
abbrev pub quotient_signed : ℕ → ℕ → ℕ
quotient_signed a b = if b == 0 then 2 ^ 32 - 1 else word (int_div (signed a) (signed b))

abbrev pub quotient : ℕ → ℕ → ℕ
quotient a b = if b == 0 then 2 ^ 32 - 1 else a / b

-- the remainder has the dividend's sign; by zero it is the dividend
abbrev pub remainder_signed : ℕ → ℕ → ℕ
remainder_signed a b = if b == 0 then a else word (int_rem (signed a) (signed b))

abbrev pub remainder : ℕ → ℕ → ℕ
remainder a b = if b == 0 then a else a % b
