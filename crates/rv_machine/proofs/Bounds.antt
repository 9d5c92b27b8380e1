-- What the instructions compute from words is a word.
use Rattle.std.proofs.Common.{ℕ, zero, suc, ◌+◌, ◌-◌, ◌*◌, ◌/◌, ◌%◌, ◌^◌, ◌<◌, ◌≤◌, Bool, true, false, List, [], ◌∷◌, Option}
use Rattle.std.proofs.Common.{Some, None, ℤ, pos, negsuc, slice_get, bit_and, nat_lt, ◌==◌, if◌then◌else◌, arith}
use Rattle.std.proofs.lemmas.Nat.{xor_of_32, or_of_32, and_le_l}
use Rattle.std.proofs.Math.Nat.{div-le_self, mod-le, mul-le-mul_left}
use Rattle.rv_machine.specs.Word.{word, one_if, plus, minus, shifted_left, shifted_right, shifted_signed, less, less_signed}
use Rattle.rv_machine.specs.Word.{product, high_signed, high_mixed, high_unsigned, quotient_signed, quotient, remainder_signed}
use Rattle.rv_machine.specs.Word.{remainder}
use Rattle.rv_machine.specs.Fields.{extended}
use Rattle.rv_machine.specs.Step.{basic, multiplies, applied, operation}

abbrev pub IsWord : ℕ → Type 0
IsWord n = n < 2 ^ 32

-- an operation that makes a word of two words
abbrev pub GivesWords : (ℕ → ℕ → ℕ) → Type 0
GivesWords f = (a b : ℕ) → IsWord a → IsWord b → IsWord (f a b)

-- a value, if there is one, is a word
abbrev pub IsWordIf : Option ℕ → Type 0
IsWordIf None = Unit {0}
IsWordIf (Some n) = IsWord n

word_if : (t : Bool) (x y : ℕ) → IsWord x → IsWord y → IsWord (if t then x else y)
word_if true x y h k = h
word_if false x y h k = k

pub given_if : (t : Bool) (x y : Option ℕ) → IsWordIf x → IsWordIf y → IsWordIf (if t then x else y)
given_if true x y h k = h
given_if false x y h k = k

word_below : (z : ℤ) → IsWord (word z)
word_below (pos n) = omega arith
word_below (negsuc n) = omega arith

pub extended_below : (half n : ℕ) → n < 2 * half → half ≤ 2 ^ 31 → IsWord (extended half n)
extended_below half n below small = word_if (nat_lt n half) n (n + 2 ^ 32 - 2 * half) (omega arith) (omega arith)

pub plus_below : GivesWords plus
plus_below a b below_a below_b = omega arith

minus_below : GivesWords minus
minus_below a b below_a below_b = omega arith

pub shifted_left_below : GivesWords shifted_left
shifted_left_below a b below_a below_b = omega arith

pub shifted_right_below : GivesWords shifted_right
shifted_right_below a b below_a below_b = omega (arith, div-le_self a (2 ^ (b % 32)))

pub shifted_signed_below : GivesWords shifted_signed
shifted_signed_below a b below_a below_b = word_below _

one_if_below : (b : Bool) → IsWord (one_if b)
one_if_below b = word_if b 1 0 (omega arith) (omega arith)

less_below : GivesWords less
less_below a b below_a below_b = one_if_below _

less_signed_below : GivesWords less_signed
less_signed_below a b below_a below_b = one_if_below _

and_below : GivesWords bit_and
and_below a b below_a below_b = omega (arith, and_le_l a b)

product_below : GivesWords product
product_below a b below_a below_b = omega arith

high_signed_below : GivesWords high_signed
high_signed_below a b below_a below_b = word_below _

high_mixed_below : GivesWords high_mixed
high_mixed_below a b below_a below_b = word_below _

high_unsigned_below : GivesWords high_unsigned
high_unsigned_below a b below_a below_b =
    let most : b ≤ 4294967295 = omega arith in
    omega (arith, mul-le-mul_left a most)

quotient_signed_below : GivesWords quotient_signed
quotient_signed_below a b below_a below_b = word_if (b == 0) _ _ (omega arith) (word_below _)

quotient_below : GivesWords quotient
quotient_below a b below_a below_b = word_if (b == 0) (2 ^ 32 - 1) (a / b) (omega arith) (omega (arith, div-le_self a b))

remainder_signed_below : GivesWords remainder_signed
remainder_signed_below a b below_a below_b = word_if (b == 0) _ _ below_a (word_below _)

remainder_below : GivesWords remainder
remainder_below a b below_a below_b = word_if (b == 0) a (a % b) below_a (omega (arith, mod-le a b))

abbrev AllGive : List (ℕ → ℕ → ℕ) → Type 0
AllGive [] = Unit {0}
AllGive (f ∷ fs) = GivesWords f × AllGive fs

applied_below : (fs : List (ℕ → ℕ → ℕ)) → AllGive fs → (k a b : ℕ) → IsWord a → IsWord b → IsWordIf (applied (slice_get fs k) a b)
applied_below [] all k a b below_a below_b = tt
applied_below (f ∷ fs) all zero a b below_a below_b = all.0 a b below_a below_b
applied_below (f ∷ fs) all (suc k) a b below_a below_b = applied_below fs all.1 k a b below_a below_b

pub basic_below : (k a b : ℕ) → IsWord a → IsWord b → IsWordIf (applied (slice_get basic k) a b)
basic_below =
    applied_below basic (
      plus_below,
      (shifted_left_below, (less_signed_below, (less_below, (xor_of_32, (shifted_right_below, (or_of_32, (and_below, tt))))))),
    )

multiplies_below : (k a b : ℕ) → IsWord a → IsWord b → IsWordIf (applied (slice_get multiplies k) a b)
multiplies_below =
    applied_below multiplies (
      product_below,
      (
        high_signed_below,
        (
          high_mixed_below,
          (high_unsigned_below, (quotient_signed_below, (quotient_below, (remainder_signed_below, (remainder_below, tt))))),
        ),
      ),
    )

pub operation_below : (f7 f3 a b : ℕ) → IsWord a → IsWord b → IsWordIf (operation f7 f3 a b)
operation_below f7 f3 a b below_a below_b =
    given_if (f7 == 0) _ _ (basic_below f3 a b below_a below_b)
    (given_if (f7 == 1) _ _ (multiplies_below f3 a b below_a below_b)
    (given_if (f7 == 32) _ _ (given_if (f3 == 0) _ _ (minus_below a b below_a below_b)
    (given_if (f3 == 5) _ _ (shifted_signed_below a b below_a below_b) tt)) tt))
