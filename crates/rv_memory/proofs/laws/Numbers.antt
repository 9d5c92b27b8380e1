-- What the memory has after a store, address by address and number by number.
use Rattle.std.proofs.Common.{◌≡◌, ◌≢◌, ℕ, zero, suc, ◌+◌, ◌*◌, ◌/◌, ◌%◌, ◌^◌, ◌<◌, ◌≤◌, Option, Some, None, IsSome, refl, ◌∙◌}
use Rattle.std.proofs.Common.{arith, pow-suc}
use Rattle.std.specs.FinMap.{get, insert, gets}
use borrow.Author.Rules.{rules}
use Rattle.rv_memory.specs.Ranges.{Bytes}
use Rattle.rv_memory.specs.Numbers.{joined, number_at, with_number}

pub get-insert_same : (m : Bytes) (a b : ℕ) → get (insert m a b) a ≡ Some b
get-insert_same m a b = grind (gets, rules)

pub get-insert_other : (m : Bytes) (a b q : ℕ) → q ≢ a → get (insert m a b) q ≡ get m q
get-insert_other m a b q other = grind (gets, rules)

pub mapped-insert : (m : Bytes) (a b q : ℕ) → IsSome (get m q) → IsSome (get (insert m a b) q)
mapped-insert m a b q mapped = grind (gets, rules)

-- a store changes nothing outside its range
pub get-with_number_other : (size : ℕ) (m : Bytes) (a v q : ℕ) → (a ≤ q → q < a + size → ⊥)
    → get (with_number m size a v) q ≡ get m q
unfolding with_number
get-with_number_other zero m a v q outside = refl
get-with_number_other (suc size) m a v q outside =
    let other : q ≢ a = λ e. outside (omega arith) (omega arith) in
    get-with_number_other size (insert m a (v % 256)) (a + 1) (v / 256) q (λ low high. outside (omega arith) (omega arith))
    ∙ get-insert_other m a (v % 256) q other

-- an address of the memory stays one
pub mapped-with_number : (size : ℕ) (m : Bytes) (a v q : ℕ) → IsSome (get m q) → IsSome (get (with_number m size a v) q)
unfolding with_number
mapped-with_number zero m a v q mapped = mapped
mapped-with_number (suc size) m a v q mapped =
    mapped-with_number size (insert m a (v % 256)) (a + 1) (v / 256) q (mapped-insert m a (v % 256) q mapped)

-- what was stored is read again
pub number_at-with_number : (size : ℕ) (m : Bytes) (a v : ℕ) → v < 256 ^ size → number_at (with_number m size a v) size a ≡ Some v
unfolding number_at with_number
number_at-with_number zero m a v below = let none : v ≡ 0 = omega arith in rw none
number_at-with_number (suc size) m a v below =
    let high : v / 256 < 256 ^ size = omega (arith, pow-suc 256 size) in
    let first : get (with_number (insert m a (v % 256)) size (a + 1) (v / 256)) a ≡ Some (v % 256) =
    get-with_number_other size (insert m a (v % 256)) (a + 1) (v / 256) a (λ low above. omega arith)
    ∙ get-insert_same m a (v % 256) in
    let rest = number_at-with_number size (insert m a (v % 256)) (a + 1) (v / 256) high in
    let whole : v % 256 + 256 * (v / 256) ≡ v = omega arith in
    rw (first, rest, whole)

-- a store to addresses of the memory adds none
mapped_before_insert : (m : Bytes) (a b q : ℕ) → IsSome (get m a) → IsSome (get (insert m a b) q) → IsSome (get m q)
mapped_before_insert m a b q there mapped = grind (gets, rules)

pub mapped_before_with_number : (size : ℕ) (m : Bytes) (a v q : ℕ) → ((k : ℕ) → a ≤ k → k < a + size → IsSome (get m k))
    → IsSome (get (with_number m size a v) q) → IsSome (get m q)
unfolding with_number
mapped_before_with_number zero m a v q there mapped = mapped
mapped_before_with_number (suc size) m a v q there mapped =
    let later = mapped_before_with_number size (insert m a (v % 256)) (a + 1) (v / 256) q
    (λ k low high. mapped-insert m a (v % 256) k (there k (omega arith) (omega arith))) mapped in
    mapped_before_insert m a (v % 256) q (there a (omega arith) (omega arith)) later

-- two memories that agree on a range have the same number there
pub number_at_agree : (size : ℕ) (m n : Bytes) (a : ℕ) → ((k : ℕ) → a ≤ k → k < a + size → get n k ≡ get m k)
    → number_at n size a ≡ number_at m size a
unfolding number_at
number_at_agree zero m n a agree = refl
number_at_agree (suc size) m n a agree =
    let first : get n a ≡ get m a = agree a (omega arith) (omega arith) in
    let rest = number_at_agree size m n (a + 1) (λ k low high. agree k (omega arith) (omega arith)) in
    rw (first, rest)

-- the number of a range that a store doesn't meet
pub number_at-with_number_other : (width : ℕ) (q size : ℕ) (m : Bytes) (a v : ℕ)
    → ((k : ℕ) → q ≤ k → k < q + width → a ≤ k → k < a + size → ⊥) → number_at (with_number m size a v) width q
    ≡ number_at m width q
number_at-with_number_other width q size m a v apart =
    number_at_agree width m (with_number m size a v) q (λ k low high. get-with_number_other size m a v k (apart k low high))

-- there is a number where each byte is there
is_some_joined : (low high : Option ℕ) → IsSome low → IsSome high → IsSome (joined low high)
is_some_joined (Some low) (Some high) l h = refl
is_some_joined (Some low) None l h = absurd (cc)
is_some_joined None high l h = absurd (cc)

pub is_some-number_at : (size : ℕ) (m : Bytes) (a : ℕ) → ((k : ℕ) → a ≤ k → k < a + size → IsSome (get m k))
    → IsSome (number_at m size a)
unfolding number_at
is_some-number_at zero m a there = refl
is_some-number_at (suc size) m a there =
    is_some_joined _ _ (there a (omega arith) (omega arith))
    (is_some-number_at size m (a + 1) (λ k low high. there k (omega arith) (omega arith)))

-- a word is read from its four bytes
pub number_at_four : (m : Bytes) (a b c d e : ℕ) → get m a ≡ Some b → get m (a + 1) ≡ Some c → get m (a + 2) ≡ Some d
    → get m (a + 3) ≡ Some e → number_at m 4 a ≡ Some (b + 256 * (c + 256 * (d + 256 * e)))
unfolding number_at
number_at_four m a b c d e first second third fourth =
    let two : a + 1 + 1 ≡ a + 2 = omega arith in
    let three : a + 2 + 1 ≡ a + 3 = omega arith in
    let last : e + 0 ≡ e = omega arith in
    rw (first, second, two, third, three, fourth, last)

-- a store of two bytes looks at the low two bytes of a number alone
pub with_number_low : (m : Bytes) (a v : ℕ) → with_number m 2 a (v % 65536) ≡ with_number m 2 a v
unfolding with_number
with_number_low m a v =
    let low : v % 65536 % 256 ≡ v % 256 = omega arith in
    let high : v % 65536 / 256 % 256 ≡ v / 256 % 256 = omega arith in
    rw (low, high)
