-- The values of sums and greater ones.
use Rattle.std.proofs.Common.{◌≡◌, ℕ, zero, suc, ◌+◌, ◌*◌, ◌<◌, ◌≤◌, Bool, true, false, ◌&&◌, List, [], ◌∷◌, ◌++◌, Option, Some}
use Rattle.std.proofs.Common.{None, nat_eq, refl, sym, ap, ◌∙◌, arith, mul-le-mul}
use Rattle.std.proofs.lemmas.Bool.{eqb-true}
use Rattle.std.proofs.lemmas.Bool.Decides.{nat_tests}
use Rattle.cost_poly.specs.declared.term.Term.{Term}
use Rattle.cost_poly.specs.Polynomial.{place_of, BoundFrom, make, same_symbol, value_of, at, coefficient, coefficient_at}
use Rattle.cost_poly.specs.Polynomial.{symbols_at, listed, sum, greater}
use Rattle.cost_poly.proofs.laws.Places.{and_parts, place_below}
use Rattle.cost_poly.proofs.Listed.{all_below, one_below, symbols_same, symbols_found, are_of}

unfoldable pub weight : List ℕ → ℕ → ℕ
weight values place = value_of values (symbols_at place).0 * value_of values (symbols_at place).1

-- the value of the first coefficients
unfoldable pub total : List ℕ → (ℕ → ℕ) → ℕ → ℕ
total values numbers zero = 0
total values numbers (suc place) = total values numbers place + numbers place * weight values place

at_append : (values : List ℕ) (ts us : List Term) → at values (ts ++ us) ≡ at values ts + at values us
at_append values [] us = omega arith
at_append values (t ∷ ts) us = omega (arith, at_append values ts us)

pub listed_value : (values : List ℕ) (numbers : ℕ → ℕ) (count : ℕ) → at values (listed numbers count) ≡ total values numbers count
unfolding listed total weight
listed_value values numbers zero = refl
listed_value values numbers (suc place) = by_test (listed_value values numbers place) (nat_eq (numbers place) 0) refl
  where
    by_test : at values (listed numbers place) ≡ total values numbers place → (none : Bool) → nat_eq (numbers place) 0 ≡ none
        → at values (listed numbers (suc place)) ≡ total values numbers place + numbers place * weight values place
    by_test h true e =
        let is : numbers place ≡ 0 = eqb-true _ _ e in
        let nothing : numbers place * weight values place ≡ 0 = ap (λ (n : ℕ). n * weight values place) is ∙ omega arith in
        rw e (at_append values (listed numbers place) [] ∙ omega (arith, h, nothing))
    by_test h false e =
        rw e (at_append values (listed numbers place) (make (symbols_at place).0 (symbols_at place).1 (numbers place) ∷ [])
        ∙ omega (arith, h))

pub total_sum : (values : List ℕ) (f g : ℕ → ℕ) (count : ℕ) → total values (λ place. f place + g place) count
    ≡ total values f count + total values g count
unfolding total
total_sum values f g zero = refl
total_sum values f g (suc place) = omega (arith, total_sum values f g place)

pub total_below : (values : List ℕ) (f g : ℕ → ℕ) (count : ℕ) → ((place : ℕ) → f place ≤ g place)
    → total values f count ≤ total values g count
unfolding total
total_below values f g zero all = omega arith
total_below values f g (suc place) all =
    let rest : total values f place ≤ total values g place = total_below values f g place all in
    let same : weight values place ≤ weight values place = omega arith in
    let last : f place * weight values place ≤ g place * weight values place = mul-le-mul (all place) same in
    omega arith

total_none : (values : List ℕ) (count : ℕ) → total values (λ place. 0) count ≡ 0
unfolding total
total_none values zero = refl
total_none values (suc place) = omega (arith, total_none values place)

pub total_same : (values : List ℕ) (f g : ℕ → ℕ) (count : ℕ) → ((place : ℕ) → place < count → f place ≡ g place)
    → total values f count ≡ total values g count
unfolding total
total_same values f g zero all = refl
total_same values f g (suc place) all =
    rw (total_same values f g place (λ k less. all k (omega arith)), all place (omega arith)) refl

-- numbers that differ at one place
total_other : (values : List ℕ) (f g : ℕ → ℕ) (one count : ℕ) → one < count → g one ≡ 0
    → ((place : ℕ) → place < count → nat_eq place one ≡ false → f place ≡ g place)
    → total values f count ≡ f one * weight values one + total values g count
unfolding total
total_other values f g one zero less none all = absurd (omega arith)
total_other values f g one (suc place) less none all =
    by_place (λ before. total_other values f g one place before none (λ k lesser e. all k (omega arith) e)) (nat_eq place one)
    refl
  where
    by_place : (one < place → total values f place ≡ f one * weight values one + total values g place) → (same : Bool)
        → nat_eq place one ≡ same
        → total values f place + f place * weight values place
        ≡ f one * weight values one + (total values g place + g place * weight values place)
    by_place h true e =
        let is : place ≡ one = eqb-true _ _ e in
        let others : total values f place ≡ total values g place =
        total_same values f g place (λ k lesser. all k (omega arith) (grind (arith, nat_tests))) in
        let here : f place * weight values place ≡ f one * weight values one = ap (λ (n : ℕ). f n * weight values n) is in
        let nothing : g place * weight values place
        ≡ 0 = ap (λ (n : ℕ). g n * weight values place) is ∙ ap (λ (n : ℕ). n * weight values place) none ∙ omega arith in
        omega (arith, others, here, nothing)
    by_place h false e =
        let before : one < place = grind (arith, nat_tests) in
        let here : f place * weight values place
        ≡ g place * weight values place = ap (λ (n : ℕ). n * weight values place) (all place (omega arith) e) in
        omega (arith, h before, here)

-- Each place is that of its symbols.

place_test : ℕ → Bool
place_test place = nat_eq (place_of (symbols_at place).0 (symbols_at place).1) place

pub place_is : (place : ℕ) → place < 45 → place_of (symbols_at place).0 (symbols_at place).1 ≡ place
unfolding place_test symbols_at all_below
place_is place less = eqb-true _ _ (one_below place_test 45 place refl less)

-- a product whose place is before those of the terms has no coefficient there
coefficient_before : (a b : Option ℕ) (least : ℕ) (ts : List Term) → place_of a b < least → BoundFrom least 8 ts
    → coefficient a b ts ≡ 0
coefficient_before a b least [] before bound = refl
coefficient_before a b least (t ∷ ts) before bound =
    by_test (coefficient_before a b (place_of t.first t.second + 1) ts (omega (arith, bound.1)) bound.4)
    (same_symbol t.first a && same_symbol t.second b) refl
  where
    by_test : coefficient a b ts ≡ 0 → (same : Bool) → (same_symbol t.first a && same_symbol t.second b) ≡ same
        → coefficient a b (t ∷ ts) ≡ 0
    by_test h true e =
        let p = and_parts (same_symbol t.first a) (same_symbol t.second b) e in
        let first : t.first ≡ a = symbols_same t.first a p.0 in
        let second : t.second ≡ b = symbols_same t.second b p.1 in
        let place : place_of t.first t.second ≡ place_of a b = rw (first, second) refl in
        absurd (omega (arith, bound.1, place))
    by_test h false e = rw e h

weight_is : (values : List ℕ) (place : ℕ) (s : Option ℕ × Option ℕ) → symbols_at place ≡ s
    → weight values place ≡ value_of values s.0 * value_of values s.1
unfolding weight
weight_is values place s is = ap (λ (r : Option ℕ × Option ℕ). value_of values r.0 * value_of values r.1) is

-- the value is that of the coefficients of all products
pub value_total : (values : List ℕ) (least : ℕ) (ts : List Term) → BoundFrom least 8 ts
    → at values ts ≡ total values (coefficient_at ts) 45
value_total values least [] bound = sym (total_none values 45)
value_total values least (t ∷ ts) bound =
    let below : place_of t.first t.second < 45 = place_below t.first t.second bound.0 in
    let rest : at values ts ≡ total values (coefficient_at ts) 45 = value_total values (place_of t.first t.second + 1) ts bound.4
    in
    let none : coefficient_at ts (place_of t.first t.second) ≡ 0 =
    rw symbols (coefficient_before t.first t.second (place_of t.first t.second + 1) ts (omega arith) bound.4) in
    let one = total_other values (coefficient_at (t ∷ ts)) (coefficient_at ts) (place_of t.first t.second) 45 below none others in
    let here : coefficient_at (t ∷ ts) (place_of t.first t.second)
    ≡ t.coefficient = rw (symbols, same t.first, same t.second) refl in
    let weighs : weight values (place_of t.first t.second) ≡ value_of values t.first * value_of values t.second =
    weight_is values (place_of t.first t.second) (t.first, t.second) symbols in
    let product : coefficient_at (t ∷ ts) (place_of t.first t.second) * weight values (place_of t.first t.second)
    ≡ t.coefficient * (value_of values t.first * value_of values t.second) =
    rw (here, weighs) refl in
    omega (arith, rest, one, product)
  where
    symbols : symbols_at (place_of t.first t.second) ≡ (t.first, t.second)
    symbols = symbols_found t.first t.second (are_of t.first t.second bound.0)

    same : (s : Option ℕ) → same_symbol s s ≡ true
    same None = refl
    same (Some s) = grind (arith, nat_tests)

    others : (place : ℕ) → place < 45 → nat_eq place (place_of t.first t.second) ≡ false
        → coefficient_at (t ∷ ts) place ≡ coefficient_at ts place
    others place less other = by_test (same_symbol t.first (symbols_at place).0 && same_symbol t.second (symbols_at place).1) refl
      where
        by_test : (test : Bool) → (same_symbol t.first (symbols_at place).0 && same_symbol t.second (symbols_at place).1) ≡ test
            → coefficient_at (t ∷ ts) place ≡ coefficient_at ts place
        by_test true e =
            let p = and_parts (same_symbol t.first (symbols_at place).0) (same_symbol t.second (symbols_at place).1) e in
            let first : t.first ≡ (symbols_at place).0 = symbols_same _ _ p.0 in
            let second : t.second ≡ (symbols_at place).1 = symbols_same _ _ p.1 in
            let at_place : place_of t.first t.second ≡ place = rw (first, second) (place_is place less) in
            absurd (grind (arith, nat_tests, at_place, other))
        by_test false e = rw e refl

-- the value of a sum
pub sum_value : (values : List ℕ) (p q : List Term) → BoundFrom 0 8 p → BoundFrom 0 8 q
    → at values (listed (sum p q) 45) ≡ at values p + at values q
sum_value values p q one other =
    listed_value values (sum p q) 45 ∙ total_sum values (coefficient_at p) (coefficient_at q) 45
    ∙ rw (value_total values 0 p one, value_total values 0 q other) refl

-- the value of greater ones
pub greater_value : (values : List ℕ) (p q : List Term) → BoundFrom 0 8 p → BoundFrom 0 8 q
    → (at values p ≤ at values (listed (greater p q) 45)) × (at values q ≤ at values (listed (greater p q) 45))
greater_value values p q one other =
    let value : at values (listed (greater p q) 45) ≡ total values (greater p q) 45 = listed_value values (greater p q) 45 in
    let first : total values (coefficient_at p) 45 ≤ total values (greater p q) 45 =
    total_below values (coefficient_at p) (greater p q) 45 (λ place. omega arith) in
    let second : total values (coefficient_at q) 45 ≤ total values (greater p q) 45 =
    total_below values (coefficient_at q) (greater p q) 45 (λ place. omega arith) in
    (omega (arith, value, first, value_total values 0 p one), omega (arith, value, second, value_total values 0 q other))
