-- Products by their places, and the polynomial of coefficients.
use Rattle.std.proofs.Common.{length, set, slice_index_or, get_or-set_other, get_or-set_same, ◌≡◌, ◌≢◌, ℕ, zero, suc, ◌+◌, ◌^◌}
use Rattle.std.proofs.Common.{◌<◌, ◌≤◌, max, Bool, true, false, ◌&&◌, if◌then◌else◌, List, [], ◌∷◌, ◌++◌, Option, Some, None}
use Rattle.std.proofs.Common.{nat_eq, nat_lt, nat_le, refl, sym, ap, ◌∙◌, arith}
use Rattle.std.specs.Prelude.{Result, Err, IfOk}
use Rattle.std.specs.List.{AllByRecursion}
use Rattle.side_certs.specs.LinearForm.{LinearForm}
use Rattle.std.proofs.lemmas.Bool.{eqb-true, leb-true, le-leb, ltb-true, lt-ltb}
use Rattle.std.proofs.lemmas.Bool.Decides.{nat_tests}
use Rattle.cost_poly.specs.declared.term.Term.{Term}
use Rattle.cost_poly.specs.declared.wide.Wide.{Wide}
use Rattle.cost_poly.specs.Polynomial.{place_of, AreSymbols, are_symbols, make, can_follow, same_symbol, next_place, symbols_at}
use Rattle.cost_poly.specs.Polynomial.{listed, greatest, term_degree, within, greatest_coefficient, coefficient, IsSmall, product}
use Rattle.cost_poly.specs.Polynomial.{greatest_cubic, scaled}
use Rattle.cost_poly.proofs.laws.Places.{and_parts, next_append}

both : {a b : Bool} → a ≡ true → b ≡ true → (a && b) ≡ true
both {a = true} {b = b} p q = q
both {a = false} {b = b} p q = absurd (cc)

-- Each product stands at its place.

unfoldable pub all_below : (ℕ → Bool) → ℕ → Bool
all_below test zero = true
all_below test (suc n) = test n && all_below test n

pub one_below : (test : ℕ → Bool) (n k : ℕ) → all_below test n ≡ true → k < n → test k ≡ true
unfolding all_below
one_below test zero k all less = absurd (omega arith)
one_below test (suc n) k all less =
    let p = and_parts (test n) (all_below test n) all in
    by_place p.0 (λ before. one_below test n k p.1 before) (nat_eq k n) refl
  where
    by_place : test n ≡ true → (k < n → test k ≡ true) → (same : Bool) → nat_eq k n ≡ same → test k ≡ true
    by_place last before true e = let is : k ≡ n = eqb-true _ _ e in rw is last
    by_place last before false e = before (grind (arith, nat_tests))

same_product : Option ℕ × Option ℕ → Option ℕ → Option ℕ → Bool
same_product s a b = same_symbol s.0 a && same_symbol s.1 b

pub symbols_same : (x y : Option ℕ) → same_symbol x y ≡ true → x ≡ y
symbols_same None None e = refl
symbols_same None (Some y) e = absurd (cc)
symbols_same (Some x) None e = absurd (cc)
symbols_same (Some x) (Some y) e = let is : x ≡ y = eqb-true _ _ e in ap Some is

products_same : (s : Option ℕ × Option ℕ) (a b : Option ℕ) → same_product s a b ≡ true → s ≡ (a, b)
unfolding same_product
products_same s a b e =
    let p = and_parts (same_symbol s.0 a) (same_symbol s.1 b) e in
    rw (symbols_same s.0 a p.0, symbols_same s.1 b p.1) refl

stands : Option ℕ → Option ℕ → Bool
stands a b = if are_symbols a b then same_product (symbols_at (place_of a b)) a b else true

one_stands : (a : ℕ) → a < 8 → stands (Some a) None ≡ true
unfolding stands same_product all_below symbols_at
one_stands a less = one_below (λ x. stands (Some x) None) 8 a refl less

two_stand : (a b : ℕ) → a < 8 → b < 8 → stands (Some a) (Some b) ≡ true
unfolding stands same_product all_below symbols_at
two_stand a b less lesser =
    one_below (λ y. stands (Some a) (Some y)) 8 b (one_below (λ x. all_below (λ y. stands (Some x) (Some y)) 8) 8 a refl less)
    lesser

pub symbols_found : (a b : Option ℕ) → are_symbols a b ≡ true → symbols_at (place_of a b) ≡ (a, b)
unfolding stands symbols_at
symbols_found None None are = refl
symbols_found None (Some b) are = absurd (cc)
symbols_found (Some a) None are = products_same _ _ _ (rw are at (one_stands a (ltb-true _ _ are)))
symbols_found (Some a) (Some b) are =
    let p = and_parts (nat_le a b) (nat_lt b 8) are in
    let below : b < 8 = ltb-true _ _ p.1 in
    let order : a ≤ b = leb-true _ _ p.0 in
    products_same _ _ _ (rw are at (two_stand a b (omega arith) below))

pub are_of : (a b : Option ℕ) → AreSymbols 8 a b → are_symbols a b ≡ true
are_of None None are = refl
are_of None (Some b) are = absurd are
are_of (Some a) None are = lt-ltb _ _ are
are_of (Some a) (Some b) are = both (le-leb _ _ are.0) (lt-ltb _ _ are.1)

pub symbols_are_at : (s : Option ℕ × Option ℕ) (place : ℕ) → are_symbols s.0 s.1 ≡ true → place_of s.0 s.1 ≡ place
    → s ≡ symbols_at place
symbols_are_at s place are is = rw (← is) (sym (symbols_found s.0 s.1 are))

-- one more number of a list
pub filled : (P : ℕ → ℕ → Type 0) (xs : List ℕ) (at number : ℕ) → at < length xs
    → ((place : ℕ) → place < at → P place (slice_index_or xs place 0)) → P at number
    → (place : ℕ) → place < at + 1 → P place (slice_index_or (set xs at number) place 0)
filled P xs at number room all one place less = by_place (nat_eq place at) refl
  where
    by_place : (same : Bool) → nat_eq place at ≡ same → P place (slice_index_or (set xs at number) place 0)
    by_place true e =
        let is : place ≡ at = eqb-true _ _ e in
        let here : slice_index_or (set xs at number) at 0 ≡ number = get_or-set_same xs at number 0 room in
        rw (is, here) one
    by_place false e =
        let other : place ≢ at = grind (arith, nat_tests) in
        let there : slice_index_or (set xs at number) place 0
        ≡ slice_index_or xs place 0 = get_or-set_other xs at place number 0 other in
        rw there (all place (grind (arith, nat_tests)))

-- The greatest of numbers.

pub greatest_none : (numbers : ℕ → ℕ) → greatest numbers 0 ≡ 0
unfolding greatest
greatest_none numbers = refl

pub greatest_more : (numbers : ℕ → ℕ) (count : ℕ) → greatest numbers (count + 1) ≡ max (greatest numbers count) (numbers count)
unfolding greatest
greatest_more numbers count = let next : count + 1 ≡ suc count = omega arith in rw next refl

pub greater_of : (numbers : ℕ → ℕ) (count old more new : ℕ) → old ≡ greatest numbers count → more ≡ numbers count
    → new ≡ max old more → new ≡ greatest numbers (count + 1)
greater_of numbers count old more new so_far last is = is ∙ rw (so_far, last) (sym (greatest_more numbers count))

pub below_greatest : (numbers : ℕ → ℕ) (count place : ℕ) → place < count → numbers place ≤ greatest numbers count
unfolding greatest
below_greatest numbers zero place less = absurd (omega arith)
below_greatest numbers (suc count) place less =
    by_place (λ before. below_greatest numbers count place before) (nat_eq place count) refl
  where
    by_place : (place < count → numbers place ≤ greatest numbers count) → (same : Bool) → nat_eq place count ≡ same
        → numbers place ≤ max (greatest numbers count) (numbers count)
    by_place h true e = let is : place ≡ count = eqb-true _ _ e in rw is (omega arith)
    by_place h false e = let rest : numbers place ≤ greatest numbers count = h (grind (arith, nat_tests)) in omega arith

pub greatest_below : (numbers : ℕ → ℕ) (count limit : ℕ) → ((place : ℕ) → place < count → numbers place ≤ limit)
    → greatest numbers count ≤ limit
unfolding greatest
greatest_below numbers zero limit all = omega arith
greatest_below numbers (suc count) limit all =
    let rest : greatest numbers count ≤ limit = greatest_below numbers count limit (λ place less. all place (omega arith)) in
    let last : numbers count ≤ limit = all count (omega arith) in
    omega arith

-- Numbers that are the same have the same of all that is made of them.

pub greatest_same : (f g : ℕ → ℕ) (count : ℕ) → ((place : ℕ) → place < count → f place ≡ g place)
    → greatest f count ≡ greatest g count
unfolding greatest
greatest_same f g zero all = refl
greatest_same f g (suc count) all =
    rw (greatest_same f g count (λ place less. all place (omega arith)), all count (omega arith)) refl

pub listed_same : (f g : ℕ → ℕ) (count : ℕ) → ((place : ℕ) → place < count → f place ≡ g place) → listed f count ≡ listed g count
unfolding listed
listed_same f g zero all = refl
listed_same f g (suc count) all = rw (listed_same f g count (λ place less. all place (omega arith)), all count (omega arith)) refl

pub within_same : (f g : ℕ → ℕ) → ((place : ℕ) → place < 45 → f place ≡ g place) → within f ≡ within g
within_same f g all =
    let numbers : greatest f 45 ≡ greatest g 45 = greatest_same f g 45 all in
    let terms : listed f 45 ≡ listed g 45 = listed_same f g 45 all in
    let degrees : greatest (term_degree f) 45
    ≡ greatest (term_degree g) 45 =
    greatest_same (term_degree f) (term_degree g) 45 (λ place less. rw (all place less) refl) in
    rw (numbers, terms, degrees) refl

-- One more term behind others.

pub listed_none : (numbers : ℕ → ℕ) → listed numbers 0 ≡ []
unfolding listed
listed_none numbers = refl

append_nil : (ts : List Term) → ts ++ [] ≡ ts
append_nil [] = refl
append_nil (t ∷ ts) = ap (λ us. t ∷ us) (append_nil ts)

-- the place's term is put behind those of the places before, where its coefficient isn't 0
pub listed_more : (numbers : ℕ → ℕ) (place : ℕ) (terms : List Term) (a b : Option ℕ) (number : ℕ) → terms ≡ listed numbers place
    → next_place 0 terms ≤ place
    → are_symbols a b ≡ true → place_of a b ≡ place → number ≡ numbers place → number ≤ 2 ^ 40
    → ((if can_follow terms a b number then terms ++ make a b number ∷ [] else terms) ≡ listed numbers (place + 1))
    × (next_place 0 (if can_follow terms a b number then terms ++ make a b number ∷ [] else terms) ≤ place + 1)
unfolding listed
listed_more numbers place terms a b number is behind are at_place same small = by_test (nat_eq number 0) refl
  where
    next : place + 1 ≡ suc place
    next = omega arith

    symbols : symbols_at place ≡ (a, b)
    symbols = rw (← at_place) (symbols_found a b are)

    by_test : (none : Bool) → nat_eq number 0 ≡ none
        → ((if can_follow terms a b number then terms ++ make a b number ∷ [] else terms) ≡ listed numbers (place + 1))
        × (next_place 0 (if can_follow terms a b number then terms ++ make a b number ∷ [] else terms) ≤ place + 1)
    by_test true e =
        let zero_is : number ≡ 0 = eqb-true _ _ e in
        let no : can_follow terms a b number ≡ false = rw zero_is (grind arith) in
        let nothing : nat_eq (numbers place) 0 ≡ true = rw (← same) e in
        (rw (no, next, nothing, ← is) (sym (append_nil terms)), rw no (omega arith))
    by_test false e =
        let room : nat_le (next_place 0 terms) (place_of a b) ≡ true = le-leb _ _ (omega (arith, behind, at_place)) in
        let some : nat_le 1 number ≡ true = grind (arith, nat_tests) in
        let limit : nat_le number greatest_coefficient ≡ true = le-leb _ _ small in
        let can : can_follow terms a b number ≡ true = both (both (both are room) some) limit in
        let one : nat_eq (numbers place) 0 ≡ false = rw (← same) e in
        (rw (can, next, one, ← is, symbols, ← same) refl, rw (can, next_append 0 terms (make a b number)) (omega arith))

pub coefficient_small : (a b : Option ℕ) (ts : List Term) → AllByRecursion IsSmall ts → coefficient a b ts ≤ 2 ^ 40
coefficient_small a b [] all = omega arith
coefficient_small a b (t ∷ ts) all =
    by_test (coefficient_small a b ts all.1) (same_symbol t.first a && same_symbol t.second b) refl
  where
    by_test : coefficient a b ts ≤ 2 ^ 40 → (same : Bool) → (same_symbol t.first a && same_symbol t.second b) ≡ same
        → coefficient a b (t ∷ ts) ≤ 2 ^ 40
    by_test h true e = rw e all.0
    by_test h false e = rw e h

-- what holds of the polynomial of coefficients holds of each result that they give
pub if_within : (numbers : ℕ → ℕ) (P : List Term → Type 0) (result : Result (List Term) Wide) → result ≡ within numbers
    → P (listed numbers 45) → IfOk result P
if_within numbers P result is holds = rw is (by_test (nat_le (greatest numbers 45) greatest_coefficient) refl)
  where
    by_test : (small : Bool) → nat_le (greatest numbers 45) greatest_coefficient ≡ small → IfOk (within numbers) P
    by_test true e = rw e holds
    by_test false e = rw e tt

pub scaled_within : (p : List Term) (f : LinearForm) (cubic : ℕ) → cubic ≡ greatest_cubic p f → cubic ≡ 0
    → scaled p f ≡ within (product p f)
scaled_within p f cubic is none = let no : nat_eq (greatest_cubic p f) 0 ≡ true = rw (← is, none) refl in rw no refl

pub scaled_wide : (p : List Term) (f : LinearForm) (cubic : ℕ) → cubic ≡ greatest_cubic p f → cubic ≢ 0
    → scaled p f ≡ Err (record { degree = 3; coefficient = max (greatest_cubic p f) (greatest (product p f) 45) })
scaled_wide p f cubic is some = let wide : nat_eq (greatest_cubic p f) 0 ≡ false = grind (arith, nat_tests) in rw wide refl
