-- The search for an exponent.
use Rattle.std.proofs.Common.{◌≡◌, refl, sym, ◌∙◌, ap, subst, arith, ℕ, zero, suc, ◌+◌, ◌-◌, ◌*◌, ◌%◌, ◌^◌, ◌<◌, ◌≤◌, nat_eq}
use Rattle.std.proofs.Common.{Bool, true, false, cond, Some, None, Option}
use Rattle.std.specs.List.{find, range_with_len}
use Rattle.std.proofs.lemmas.Bool.{eqb-true}
use Rattle.std.proofs.lemmas.Bool.Decides.{nat_tests}
use Rattle.std.proofs.lemmas.Option.{none-some, same_Some}
use Rattle.std.proofs.Math.Pow.{pow-lt}
use Rattle.equations.specs.Equations.{exponent}

-- what the numbers from k to 31 have
unfoldable pub searched : ℕ → ℕ → Option ℕ
searched n k = find (λ j. nat_eq (2 ^ j) n) (range_with_len k (32 - k))

pub searched_whole : (n : ℕ) → searched n 0 ≡ exponent n
unfolding exponent searched
searched_whole n = refl

searched_more : (n k : ℕ) → k < 32 → searched n k ≡ cond (nat_eq (2 ^ k) n) (Some k) (searched n (k + 1))
unfolding searched
searched_more n k small =
    let left : 32 - k ≡ suc (32 - (k + 1)) = omega (arith, small) in
    ap (λ m. find (λ j. nat_eq (2 ^ j) n) (range_with_len k m)) left

same_number : (a n : ℕ) → a ≡ n → nat_eq a n ≡ true
same_number a n is = grind (arith, nat_tests)

whole_power : (k : ℕ) → k < 32 → 1 * 2 ^ k % 2 ^ 32 ≡ 2 ^ k
whole_power k small =
    let bound : 2 ^ k < 2 ^ 32 = pow-lt {i = k} {j = 32} small in
    omega (arith, bound)

pub searched_here : (n k : ℕ) → k < 32 → 1 * 2 ^ k % 2 ^ 32 ≡ n → searched n k ≡ Some k
searched_here n k small is =
    searched_more n k small
    ∙ ap (λ b. cond b (Some k) (searched n (k + 1))) (same_number (2 ^ k) n (sym (whole_power k small) ∙ is))

pub searched_past : (n k : ℕ) → k < 32 → (1 * 2 ^ k % 2 ^ 32 ≡ n → ⊥) → searched n k ≡ searched n (k + 1)
searched_past n k small not = searched_more n k small ∙ by (nat_eq (2 ^ k) n) refl
  where
    by : (b : Bool) → nat_eq (2 ^ k) n ≡ b → cond b (Some k) (searched n (k + 1)) ≡ searched n (k + 1)
    by true at = absurd (not (whole_power k small ∙ eqb-true (2 ^ k) n at))
    by false at = refl

pub searched_last : (n k : ℕ) → 32 ≤ k → searched n k ≡ None
unfolding searched
searched_last n k past =
    let left : 32 - k ≡ zero = omega (arith, past) in
    ap (λ m. find (λ j. nat_eq (2 ^ j) n) (range_with_len k m)) left

-- what is found has the power, and is one of the numbers
found : (n a m k : ℕ) → find (λ j. nat_eq (2 ^ j) n) (range_with_len a m) ≡ Some k → (2 ^ k ≡ n) × (k < a + m)
found n a zero k is = absurd (none-some k is)
found n a (suc m) k is = by (nat_eq (2 ^ a) n) refl is (found n (a + 1) m k)
  where
    by : (b : Bool) → nat_eq (2 ^ a) n ≡ b → cond b (Some a) (find (λ j. nat_eq (2 ^ j) n) (range_with_len (a + 1) m)) ≡ Some k
        → (find (λ j. nat_eq (2 ^ j) n) (range_with_len (a + 1) m) ≡ Some k → (2 ^ k ≡ n) × (k < a + 1 + m))
        → (2 ^ k ≡ n) × (k < a + suc m)
    by true at one later =
        let same = same_Some a k one in
        (subst (λ z. 2 ^ z ≡ n) same (eqb-true (2 ^ a) n at), omega (arith, same))
    by false at more later = let h = later more in (h.0, omega (arith, h.1))

pub exponent_is : (n k : ℕ) → exponent n ≡ Some k → (2 ^ k ≡ n) × (k < 32)
unfolding exponent
exponent_is n k is = found n 0 32 k is
