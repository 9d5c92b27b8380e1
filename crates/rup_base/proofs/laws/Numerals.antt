-- A number by its digits: one digit more, a byte that is no digit, a number that is too great, and a byte of two digits.
use Rattle.std.proofs.Common.{◌≡◌, refl, sym, ◌∙◌, ℕ, zero, suc, mul-suc, ◌+◌, ◌*◌, ◌<◌, ◌≤◌, nat_lt, nat_le, Bool, true, false}
use Rattle.std.proofs.Common.{if◌then◌else◌, List, [], ◌∷◌, arith, Some, None}
use Rattle.std.proofs.lemmas.Bool.{ltb-true}
use Rattle.std.proofs.lemmas.Grind.{common_steps}
use Rattle.std.specs.Char.{digit_value, is_digit}
use Rattle.std.specs.Str.Parse.{digits_value_after}
use Rattle.std.specs.List.{list_all}
use Rattle.rup_base.specs.Number.{numeral, numeral_after, in_word}

pub numeral_more : (radix n d : ℕ) (ds : List ℕ) → digit_value d < radix
    → numeral_after radix n (d ∷ ds) ≡ numeral_after radix (n * radix + digit_value d) ds
numeral_more radix n d ds h = let e : nat_lt (digit_value d) radix ≡ true = grind (arith, common_steps) in rw e refl

pub numeral_no_digit : (radix n d : ℕ) (ds : List ℕ) → radix ≤ digit_value d → numeral_after radix n (d ∷ ds) ≡ None
numeral_no_digit radix n d ds h = let e : nat_lt (digit_value d) radix ≡ false = grind (arith, common_steps) in rw e refl

no_less : (radix n : ℕ) → 1 ≤ radix → n ≤ n * radix
no_less zero n h = absurd (omega arith)
no_less (suc k) n h = rw mul-suc (omega arith)

grows : (radix n : ℕ) (ds : List ℕ) → 1 ≤ radix → n ≤ digits_value_after radix n ds
grows radix n [] h = omega arith
grows radix n (d ∷ ds) h =
    let more = grows radix (n * radix + digit_value d) ds h in
    let step : n ≤ n * radix = no_less radix n h in
    omega arith

pub numeral_above : (radix n : ℕ) (ds : List ℕ) → 1 ≤ radix → 4294967295 < n → numeral_after radix n ds ≡ None
numeral_above radix n ds h k =
    let more = grows radix n ds h in
    let e : nat_le (digits_value_after radix n ds) 4294967295 ≡ false = grind (arith, common_steps) in
    elim (list_all (λ d. is_digit d radix) ds) as (λ t. (if t then in_word (digits_value_after radix n ds) else None) ≡ None) [
      | true ↦ rw e refl
      | false ↦ refl
    ]

-- two hexadecimal digits spell a byte
pub two_digits : (high low n : ℕ) → numeral 16 (high ∷ low ∷ []) ≡ Some n → n < 256
two_digits high low n is = by (is_digit high 16) refl (is_digit low 16) refl
  where
    by : (a : Bool) → is_digit high 16 ≡ a → (b : Bool) → is_digit low 16 ≡ b → n < 256
    by true p true q =
        let one : digit_value high < 16 = ltb-true _ _ p in
        let two : digit_value low < 16 = ltb-true _ _ q in
        let value : ℕ = digits_value_after 16 0 (high ∷ low ∷ []) in
        let read : numeral 16 (high ∷ low ∷ []) ≡ in_word value = rw (p, q) refl in
        let small : nat_le value 4294967295 ≡ true = grind (arith, common_steps) in
        let kept : in_word value ≡ Some value = rw small refl in
        let same : Some value ≡ Some n = sym kept ∙ (sym read ∙ is) in
        let equal : value ≡ n = cc in
        omega (arith, one, two)
    by true p false q =
        let none : numeral 16 (high ∷ low ∷ []) ≡ None = rw (p, q) refl in
        absurd (cc)
    by false p b q =
        let none : numeral 16 (high ∷ low ∷ []) ≡ None = rw p refl in
        absurd (cc)
