-- Digits, and the bytes that they spell: in the words of a command line, and in printed results.
use Rattle.std.specs.Prelude.{ℕ, ◌+◌, ◌/◌, ◌%◌, nat_eq, nat_lt, List, [], ◌∷◌, Option, Some, None, option_map, option_and_then}
use Rattle.std.specs.Prelude.{if◌then◌else◌}
use Rattle.std.specs.List.{flat_map}
use Rattle.std.specs.Int.{w32, to_be_bytes}
use Rattle.rup_base.specs.Spelling.{hex_digit}
use Rattle.rup_base.specs.Number.{numeral}

-- what is behind a text that the bytes begin with
abbrev pub behind : List ℕ → List ℕ → Option (List ℕ)
behind [] bytes = Some bytes
behind (p ∷ ps) [] = None
behind (p ∷ ps) (b ∷ bs) = if nat_eq b p then behind ps bs else None

-- the byte of two hexadecimal digits
abbrev pub pair : ℕ → ℕ → Option ℕ
pair high low = numeral 16 (high ∷ low ∷ [])

-- the bytes of an even number of hexadecimal digits
abbrev pub hex_bytes : List ℕ → Option (List ℕ)
hex_bytes [] = Some []
hex_bytes (high ∷ []) = None
hex_bytes (high ∷ low ∷ digits) = option_and_then (λ b. option_map (λ bytes. b ∷ bytes) (hex_bytes digits)) (pair high low)

-- Printed digits, of lower case.

abbrev pub two_digits : ℕ → List ℕ
two_digits b = hex_digit (b / 16) ∷ hex_digit (b % 16) ∷ []

-- a word's eight digits, the highest first
abbrev pub eight_digits : ℕ → List ℕ
eight_digits n = flat_map two_digits (to_be_bytes w32 n)
