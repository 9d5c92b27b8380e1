-- The greatest number of intervals that cover one point, from the front: what is marked at a point or before it, and there or
-- behind it, covers it.
use Rattle.std.proofs.Common.{◌≡◌, refl, ap, ◌∙◌, arith, ℕ, zero, suc, ◌+◌, ◌<◌, ◌≤◌, max, Bool, true, false, ◌||◌, ◌&&◌, nat_le}
use Rattle.std.proofs.Common.{nat_lt, List, [], ◌∷◌, length, map, if◌then◌else◌}
use Rattle.rup_base.specs.Gather.{greatest}
use Rattle.bed_syntax.specs.Intervals.{Point, some, first, past_last, covers, count, from, most_covering}

-- what covers this point, where b is marked before it, and ps are behind it
abbrev pub here : Point → Point → List Point → Point
here b p ps x = (b x || p x) && (p x || some ps x)

-- no more than n cover a point, b being marked before the first
abbrev pub Low : List ℕ → ℕ → Point → List Point → Type 0
Low xs n b [] = Unit {0}
Low xs n b (p ∷ ps) = (count (here b p ps) xs ≤ n) × Low xs n (λ x. b x || p x) ps

one_more : (s t : Bool) (n m : ℕ) → s ≡ t → n ≡ m → (if s then 1 else 0) + n ≡ (if t then 1 else 0) + m
one_more s t n m h e = ap (λ (b : Bool). (if b then 1 else 0) + n) h ∙ ap (λ k. (if t then 1 else 0) + k) e

pub count_same : (f g : Point) → ((x : ℕ) → f x ≡ g x) → (xs : List ℕ) → count f xs ≡ count g xs
count_same f g same [] = refl
count_same f g same (x ∷ xs) = one_more (f x) (g x) (count f xs) (count g xs) (same x) (count_same f g same xs)

-- the interval of a variable that is marked before the points where b says so
abbrev reaches : Point → List Point → ℕ → Point
reaches b ps q x = (b x || nat_le (first ps x) q) && nat_lt q (past_last ps x)

zero_test : (b p s : Bool) (f l : ℕ)
    → ((b || nat_le (if p then 0 else f + 1) 0) && nat_lt 0 (if s then l + 1 else if p then 1 else 0)) ≡ ((b || p) && (p || s))
zero_test b true true f l = grind (arith)
zero_test b true false f l = grind (arith)
zero_test b false true f l = grind (arith)
zero_test b false false f l = grind (arith)

next_test : (b p s : Bool) (f l q : ℕ) → (s ≡ false → l ≡ 0)
    → ((b || nat_le (if p then 0 else f + 1) (suc q)) && nat_lt (suc q) (if s then l + 1 else if p then 1 else 0))
    ≡ (((b || p) || nat_le f q) && nat_lt q l)
next_test true true true f l q none = grind (arith)
next_test true false true f l q none = grind (arith)
next_test false true true f l q none = grind (arith)
next_test false false true f l q none = grind (arith)
next_test true true false f l q none = let e = none refl in grind (arith, e)
next_test true false false f l q none = let e = none refl in grind (arith, e)
next_test false true false f l q none = let e = none refl in grind (arith, e)
next_test false false false f l q none = let e = none refl in grind (arith, e)

nowhere : (ps : List Point) (x : ℕ) → some ps x ≡ false → past_last ps x ≡ 0
nowhere [] x h = refl
nowhere (p ∷ ps) x h = by_mark (p x) (some ps x) h
  where
    by_mark : (t s : Bool) → (t || s) ≡ false → (if s then past_last ps x + 1 else if t then 1 else 0) ≡ 0
    by_mark true s is = absurd (let bad : true ≡ false = is in cc)
    by_mark false true is = absurd (let bad : true ≡ false = is in cc)
    by_mark false false is = refl

at_zero : (b p : Point) (ps : List Point) (x : ℕ) → reaches b (p ∷ ps) 0 x ≡ here b p ps x
at_zero b p ps x = zero_test (b x) (p x) (some ps x) (first ps x) (past_last ps x)

at_next : (b p : Point) (ps : List Point) (q x : ℕ) → reaches b (p ∷ ps) (suc q) x ≡ reaches (λ y. b y || p y) ps q x
at_next b p ps q x = next_test (b x) (p x) (some ps x) (first ps x) (past_last ps x) q (nowhere ps x)

low_of : (xs : List ℕ) (n : ℕ) (b : Point) (ps : List Point) → ((q : ℕ) → q < length ps → count (reaches b ps q) xs ≤ n)
    → Low xs n b ps
low_of xs n b [] h = tt
low_of xs n b (p ∷ ps) h = (
  let e = count_same (reaches b (p ∷ ps) 0) (here b p ps) (at_zero b p ps) xs in let l = h 0 (omega arith) in omega arith,
  low_of xs n (λ x. b x || p x) ps (λ q less.
      let e = count_same (reaches b (p ∷ ps) (suc q)) (reaches (λ x. b x || p x) ps q) (at_next b p ps q) xs in
      let l = h (suc q) (omega arith) in omega arith),
)

of_low : (xs : List ℕ) (n : ℕ) (b : Point) (ps : List Point) → Low xs n b ps → (q : ℕ) → q < length ps
    → count (reaches b ps q) xs ≤ n
of_low xs n b [] h q less = absurd (omega arith)
of_low xs n b (p ∷ ps) h zero less = let e = count_same (reaches b (p ∷ ps) 0) (here b p ps) (at_zero b p ps) xs in let l = h.0 in
    omega arith
of_low xs n b (p ∷ ps) h (suc q) less =
    let e = count_same (reaches b (p ∷ ps) (suc q)) (reaches (λ x. b x || p x) ps q) (at_next b p ps q) xs in
    let l = of_low xs n (λ x. b x || p x) ps h.1 q (omega arith) in
    omega arith

below_greatest : (f : ℕ → ℕ) (k n q : ℕ) → k ≤ q → q < k + n → f q ≤ greatest (map f (from k n))
below_greatest f k zero q low high = absurd (omega arith)
below_greatest f k (suc n) q low high = by_first (nat_le q k) refl (λ more. below_greatest f (k + 1) n q more (omega arith))
  where
    by_first : (t : Bool) → nat_le q k ≡ t → (k + 1 ≤ q → f q ≤ greatest (map f (from (k + 1) n)))
        → f q ≤ max (f k) (greatest (map f (from (k + 1) n)))
    by_first true is rest = let e : q ≡ k = grind (arith, is, low) in let s : f q ≡ f k = ap f e in omega arith
    by_first false is rest = let h : k + 1 ≤ q = grind (arith, is, low) in let l = rest h in omega arith

greatest_below : (f : ℕ → ℕ) (k n m : ℕ) → ((q : ℕ) → k ≤ q → q < k + n → f q ≤ m) → greatest (map f (from k n)) ≤ m
greatest_below f k zero m h = omega arith
greatest_below f k (suc n) m h =
    let l = h k (omega arith) (omega arith) in
    let r = greatest_below f (k + 1) n m (λ q low high. h q (omega arith) (omega arith)) in omega arith

pub most_low : (xs : List ℕ) (ps : List Point) → Low xs (most_covering ps xs) (λ x. false) ps
most_low xs ps =
    low_of xs (most_covering ps xs) (λ x. false) ps
    (λ q less. below_greatest (λ k. count (covers ps k) xs) 0 (length ps) q (omega arith) (omega arith))

pub low_most : (xs : List ℕ) (n : ℕ) (ps : List Point) → Low xs n (λ x. false) ps → most_covering ps xs ≤ n
low_most xs n ps h =
    greatest_below (λ k. count (covers ps k) xs) 0 (length ps) n (λ q low high. of_low xs n (λ x. false) ps h q (omega arith))
