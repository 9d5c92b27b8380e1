-- Numbers with a sign from raw bits, by two's complement (RISC-V Unprivileged ISA 20191213, section 2.3).
use Rattle.std.specs.Prelude.{◌≡◌, ℕ, ℤ, pos, negsuc, ◌+◌, ◌-◌, ◌*◌, ◌%◌, nat_lt, if◌then◌else◌}

-- the number of raw bits `n` whose sign bit is worth `half`
abbrev pub signed : ℕ → ℕ → ℤ
signed half n = if nat_lt n half then pos n else negsuc (2 * half - n - 1)

-- twice that number: an immediate that is kept without its bit 0
abbrev pub signed_twice : ℕ → ℕ → ℤ
signed_twice half n = if nat_lt n half then pos (2 * n) else negsuc (2 * (2 * half - n) - 1)

-- a number is a multiple of 2
abbrev pub IsEven : ℤ → Type 0
IsEven (pos n) = n % 2 ≡ 0
IsEven (negsuc n) = (n + 1) % 2 ≡ 0
