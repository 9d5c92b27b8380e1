-- Numbers as texts and words of a command line spell them: `0`, or a
-- digit 1 to 9 and digits, or `0x` and one to eight hexadecimal
-- digits of either case. 48 is `0`, 120 is `x`.
use Rattle.std.specs.Prelude.{ℕ, nat_eq, nat_le, ◌&&◌, List, [], ◌∷◌, length, Option, Some, None, if◌then◌else◌}
use Rattle.std.specs.Char.{is_digit}
use Rattle.std.specs.Str.Parse.{digits_value_after}
use Rattle.std.specs.List.{list_all}

-- the number, if it is a word
abbrev pub in_word : ℕ → Option ℕ
in_word n = if nat_le n 4294967295 then Some n else None

-- the number that digits of a radix go on, if they are digits and it is a word
abbrev pub numeral_after : ℕ → ℕ → List ℕ → Option ℕ
numeral_after radix n ds = if list_all (λ d. is_digit d radix) ds then in_word (digits_value_after radix n ds) else None

-- the number of digits of a radix
abbrev pub numeral : ℕ → List ℕ → Option ℕ
numeral radix ds = numeral_after radix 0 ds

-- one to eight hexadecimal digits
abbrev pub hexadecimal : List ℕ → Option ℕ
hexadecimal ds = if nat_le 1 (length ds) && nat_le (length ds) 8 then numeral 16 ds else None

-- what follows a `0`
abbrev pub after_zero : List ℕ → Option ℕ
after_zero [] = Some 0
after_zero (b ∷ ds) = if nat_eq b 120 then hexadecimal ds else None

-- the number that bytes spell, if they spell one
abbrev pub number : List ℕ → Option ℕ
number [] = None
number (b ∷ bs) = if nat_eq b 48 then after_zero bs else numeral 10 (b ∷ bs)
