-- A number that bytes spell is a word.
use Rattle.std.proofs.Common.{◌≡◌, refl, subst, ℕ, nat_eq, nat_le, ◌&&◌, Bool, true, false, List, [], ◌∷◌, length, Option, Some}
use Rattle.std.proofs.Common.{None, if◌then◌else◌}
use Rattle.std.specs.Char.{is_digit}
use Rattle.std.specs.Str.Parse.{digits_value_after}
use Rattle.std.specs.List.{list_all}
use Rattle.rup_base.specs.declared.arg.Place.{Place}
use Rattle.model_syntax.specs.Kinds.{is_word}
use Rattle.rup_base.specs.Number as numbers
use Rattle.rup_base.specs.Number.{in_word, numeral, hexadecimal, after_zero, number}
use Rattle.model_reader.specs.Parts as parts
use Rattle.model_reader.proofs.Gives.{Gives, given, refused}

abbrev pub IsWord : ℕ → Type 0
IsWord n = is_word n ≡ true

abbrev pub OfWord : Option ℕ → Type 0
OfWord found = (n : ℕ) → found ≡ Some n → IsWord n

some_word : (m : ℕ) → IsWord m → OfWord (Some m)
some_word m h n is = let same : m ≡ n = cc in subst IsWord same h

no_word : OfWord None
no_word n is = absurd cc

either_word : (test : Bool) (a b : Option ℕ) → OfWord a → OfWord b → OfWord (if test then a else b)
either_word true a b h k = h
either_word false a b h k = k

limited_word : (n : ℕ) (test : Bool) → is_word n ≡ test → OfWord (if test then Some n else None)
limited_word n true h = some_word n h
limited_word n false h = no_word

numeral_word : (radix : ℕ) (ds : List ℕ) → OfWord (numeral radix ds)
numeral_word radix ds =
    let n : ℕ = digits_value_after radix 0 ds in
    either_word (list_all (λ d. is_digit d radix) ds) (in_word n) None (limited_word n (is_word n) refl) no_word

hexadecimal_word : (ds : List ℕ) → OfWord (hexadecimal ds)
hexadecimal_word ds =
    either_word (nat_le 1 (length ds) && nat_le (length ds) 8) (numeral 16 ds) None (numeral_word 16 ds) no_word

zero_word : (ds : List ℕ) → OfWord (after_zero ds)
zero_word [] = some_word 0 refl
zero_word (b ∷ ds) = either_word (nat_eq b 120) (hexadecimal ds) None (hexadecimal_word ds) no_word

pub number_is_word : (t : List ℕ) → OfWord (number t)
number_is_word [] = no_word
number_is_word (b ∷ bs) =
    either_word (nat_eq b 48) (after_zero bs) (numeral 10 (b ∷ bs)) (zero_word bs) (numeral_word 10 (b ∷ bs))

known_of : (p : Place) (found : Option ℕ) → OfWord found → Gives (parts.known p found) IsWord
known_of p None h = refused
known_of p (Some n) h = given (h n refl)

pub known_number : (p : Place) (t : List ℕ) → Gives (parts.known p (numbers.number t)) IsWord
known_number p t = known_of p (numbers.number t) (number_is_word t)
