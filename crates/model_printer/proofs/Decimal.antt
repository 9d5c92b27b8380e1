-- Numbers in decimal are read back, names are no numbers, and both are atoms.
use Rattle.std.proofs.Common.{◌≡◌, refl, ◌∙◌, ap, ℕ, zero, suc, ◌<◌, ◌≤◌, ◌^◌, nat_lt, nat_le, nat_eq, true, false, List, [], ◌∷◌}
use Rattle.std.proofs.Common.{length, get_or, arith, Some, None}
use Rattle.std.proofs.lemmas.Bool.Decides.{nat_tests}
use Rattle.std.proofs.lemmas.Grind.{common_steps}
use Rattle.std.proofs.lemmas.Fmt.{decimal_is_IsNumeral, decimal_digit, first_decimal}
use Rattle.std.specs.Fmt.{decimal}
use Rattle.std.specs.Char.{digit_value, is_digit}
use Rattle.std.specs.Str.Parse.{AllDigits}
use Rattle.std.specs.List.{list_all}
use Rattle.rup_base.specs.Name.{is_name, is_word, begins_name, continues_name}
use Rattle.sx_text.specs.Bytes.{in_atom}
use Rattle.sx_text.specs.Spelling.{is_atom}
use Rattle.sx_text.proofs.laws.Atoms.{and_parts}
use Rattle.rup_base.specs.Number.{number, numeral}
use Rattle.rup_base.proofs.laws.Numerals.{numeral_no_digit}

digits_all : (ds : List ℕ) → AllDigits 10 ds → list_all (λ d. is_digit d 10) ds ≡ true
digits_all [] h = refl
digits_all (d ∷ ds) (low, more) = let e : nat_lt (digit_value d) 10 ≡ true = grind (arith, common_steps) in
    rw (e, digits_all ds more) refl

no_zero : (ds : List ℕ) → 48 < get_or ds 0 0 → number ds ≡ numeral 10 ds
no_zero [] h = absurd (omega arith)
no_zero (b ∷ bs) h = let e : nat_eq b 48 ≡ false = grind (arith, nat_tests) in rw e refl

numeral_decimal : (n : ℕ) → n ≤ 4294967295 → numeral 10 (decimal n) ≡ Some n
numeral_decimal n h =
    let low : n < 2 ^ 64 = omega arith in
    let p = decimal_is_IsNumeral n low in
    let e : nat_le n 4294967295 ≡ true = grind (arith, nat_tests) in
    rw (digits_all (decimal n) p.0.1, p.1, e) refl

pub number_decimal : (n : ℕ) → n ≤ 4294967295 → number (decimal n) ≡ Some n
number_decimal zero h = ap number (decimal_digit 0 (omega arith))
number_decimal (suc k) h =
    let low : suc k < 2 ^ 64 = omega arith in
    no_zero (decimal (suc k)) (first_decimal (suc k) (omega arith) low) ∙ numeral_decimal (suc k) h

pub word_in_atom : (b : ℕ) → 48 ≤ b → b ≤ 122 → nat_eq b 59 ≡ false → in_atom b ≡ true
word_in_atom b low high semicolon =
    let a : nat_eq b 32 ≡ false = grind (arith, nat_tests) in
    let c : nat_eq b 9 ≡ false = grind (arith, nat_tests) in
    let d : nat_eq b 10 ≡ false = grind (arith, nat_tests) in
    let f : nat_eq b 13 ≡ false = grind (arith, nat_tests) in
    let g : nat_eq b 40 ≡ false = grind (arith, nat_tests) in
    let h : nat_eq b 41 ≡ false = grind (arith, nat_tests) in
    let i : nat_le 33 b ≡ true = grind (arith, nat_tests) in
    let j : nat_le b 126 ≡ true = grind (arith, nat_tests) in
    rw (a, c, d, f, semicolon, g, h, i, j) refl

digit_low : (b : ℕ) → digit_value b < 10 → (48 ≤ b) × (b ≤ 57)
digit_low b h = grind (arith, nat_tests)

digit_in_atom : (b : ℕ) → digit_value b < 10 → in_atom b ≡ true
digit_in_atom b h =
    let p = digit_low b h in
    let high : b ≤ 122 = omega arith in
    let e : nat_eq b 59 ≡ false = grind (arith, nat_tests) in
    word_in_atom b p.0 high e

digits_spelled : (ds : List ℕ) → AllDigits 10 ds → list_all in_atom ds ≡ true
digits_spelled [] h = refl
digits_spelled (d ∷ ds) (low, more) = rw (digit_in_atom d low, digits_spelled ds more) refl

some_spelled : (ds : List ℕ) → 0 < length ds → list_all in_atom ds ≡ true → is_atom ds ≡ true
some_spelled [] h all = absurd (omega arith)
some_spelled (d ∷ ds) h all = all

pub decimal_spelled : (n : ℕ) → n ≤ 4294967295 → is_atom (decimal n) ≡ true
decimal_spelled n h =
    let low : n < 2 ^ 64 = omega arith in
    let p = decimal_is_IsNumeral n low in
    some_spelled (decimal n) p.0.0 (digits_spelled (decimal n) p.0.1)

letter_is : (b : ℕ) → begins_name b ≡ true → (10 ≤ digit_value b) × (nat_eq b 48 ≡ false)
letter_is b h = grind (arith, nat_tests)

pub word_is_no_number : (x : List ℕ) → is_word x ≡ true → number x ≡ None
word_is_no_number [] h = absurd cc
word_is_no_number (b ∷ bs) h =
    let p = letter_is b (and_parts (begins_name b) (list_all continues_name bs) h).0 in
    rw p.1 (numeral_no_digit 10 0 b bs p.0)

pub name_is_no_number : (x : List ℕ) → is_name x ≡ true → number x ≡ None
name_is_no_number x h = word_is_no_number x (and_parts (nat_le (length x) 64) (is_word x) h).1

continues_is : (b : ℕ) → continues_name b ≡ true → (48 ≤ b) × (b ≤ 122) × (nat_eq b 59 ≡ false)
continues_is b h = grind (arith, nat_tests)

begins_is : (b : ℕ) → begins_name b ≡ true → (48 ≤ b) × (b ≤ 122) × (nat_eq b 59 ≡ false)
begins_is b h = grind (arith, nat_tests)

continued_spelled : (bs : List ℕ) → list_all continues_name bs ≡ true → list_all in_atom bs ≡ true
continued_spelled [] h = refl
continued_spelled (b ∷ bs) h =
    let p = and_parts (continues_name b) (list_all continues_name bs) h in
    let q = continues_is b p.0 in
    rw (word_in_atom b q.0 q.1 q.2, continued_spelled bs p.1) refl

word_spelled : (x : List ℕ) → is_word x ≡ true → is_atom x ≡ true
word_spelled [] h = absurd cc
word_spelled (b ∷ bs) h =
    let p = and_parts (begins_name b) (list_all continues_name bs) h in
    let q = begins_is b p.0 in
    rw (word_in_atom b q.0 q.1 q.2, continued_spelled bs p.1) refl

pub name_spelled : (x : List ℕ) → is_name x ≡ true → is_atom x ≡ true
name_spelled x h = word_spelled x (and_parts (nat_le (length x) 64) (is_word x) h).1
