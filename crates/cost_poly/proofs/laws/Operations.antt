-- What sums, products and greater ones come to: their values, and that their symbols are those of their parts.
use Rattle.std.proofs.Common.{◌≡◌, ◌⊎◌, inl, inr, refl, sym, ap, ◌∙◌, arith, ℕ, zero, suc, ◌+◌, ◌*◌, ◌<◌, ◌≤◌, max, Bool, true}
use Rattle.std.proofs.Common.{false, ◌&&◌, List, [], ◌∷◌, ◌++◌, Option, Some, None, Ok, Err, nat_eq, nat_le, nat_lt, nat_abs, ℤ}
use Rattle.std.proofs.Common.{pos, ◌*ℤ◌, slice_index_or, if◌then◌else◌}
use Rattle.std.specs.List.{list_all}
use Rattle.std.specs.Int.Signed.{le_z}
use Rattle.std.proofs.lemmas.Bool.{eqb-true, leb-true, ltb-true}
use Rattle.std.proofs.lemmas.Bool.Decides.{nat_tests}
use Rattle.side_certs.specs.LinearForm.{LinearForm, share, value_at}
use Rattle.side_certs.specs.LinearForm as linear
use Rattle.cost_poly.specs.declared.term.Term.{Term}
use Rattle.cost_poly.specs.declared.wide.Wide.{Wide}
use Rattle.cost_poly.specs.Polynomial.{place_of, AreSymbols, BoundFrom, are_symbols, make, same_symbol, next_place, term, at}
use Rattle.cost_poly.specs.Polynomial.{coefficient, coefficient_at, symbols_at, listed, greatest, greatest_coefficient, degree}
use Rattle.cost_poly.specs.Polynomial.{within, sum, greater, form_part, product_of, product, greatest_cubic, scaled}
use Rattle.cost_poly.specs.Polynomial.{are_entry_terms, is_entry_form}
use Rattle.cost_poly.proofs.laws.Places.{and_parts, next_append, coefficients_small}
use Rattle.cost_poly.proofs.Listed.{all_below, one_below, symbols_same, below_greatest, coefficient_small}
use Rattle.cost_poly.proofs.Values.{place_is, sum_value, greater_value}
use Rattle.cost_poly.proofs.Products.{product_value}

-- a term of a symbol below the count, with no negative coefficient
abbrev pub is_entry_term : ℕ → ℕ × ℤ → Bool
is_entry_term count t = nat_lt t.0 count && le_z (pos 0) t.1

-- no number is negative, and each symbol is below the count
abbrev pub is_entry_form_of : ℕ → LinearForm → Bool
is_entry_form_of count f = le_z (pos 0) f.constant && list_all (is_entry_term count) f.terms

-- a number is 0, or else something holds
abbrev Unless : ℕ → Type 0 → Type 0
Unless n P = (n ≡ 0) ⊎ P

unless_sum : (m n : ℕ) (P : Type 0) → Unless m P → Unless n P → Unless (m + n) P
unless_sum m n P (inr p) other = inr p
unless_sum m n P (inl none) (inr p) = inr p
unless_sum m n P (inl none) (inl no_more) = inl (omega (arith, none, no_more))

unless_max : (m n : ℕ) (P : Type 0) → Unless m P → Unless n P → Unless (max m n) P
unless_max m n P (inr p) other = inr p
unless_max m n P (inl none) (inr p) = inr p
unless_max m n P (inl none) (inl no_more) = inl (omega (arith, none, no_more))

unless_first : (m n : ℕ) (P : Type 0) → Unless m P → Unless (m * n) P
unless_first m n P (inr p) = inr p
unless_first m n P (inl none) = inl (ap (λ (k : ℕ). k * n) none ∙ omega arith)

unless_second : (m n : ℕ) (P : Type 0) → Unless n P → Unless (m * n) P
unless_second m n P (inr p) = inr p
unless_second m n P (inl none) = inl (ap (λ (k : ℕ). m * k) none ∙ omega arith)

unless_so : (n : ℕ) (P Q : Type 0) → (P → Q) → Unless n P → Unless n Q
unless_so n P Q so (inr p) = inr (so p)
unless_so n P Q so (inl none) = inl none

-- Terms.

symbols_wider : (count : ℕ) (a b : Option ℕ) → count ≤ 8 → AreSymbols count a b → AreSymbols 8 a b
symbols_wider count None None few are = tt
symbols_wider count None (Some b) few are = absurd are
symbols_wider count (Some a) None few are = omega (arith, few, are)
symbols_wider count (Some a) (Some b) few are = (are.0, omega (arith, few, are.1))

pub wider : (count least : ℕ) (p : List Term) → count ≤ 8 → BoundFrom least count p → BoundFrom least 8 p
wider count least [] few bound = tt
wider count least (t ∷ ts) few bound = (
  symbols_wider count t.first t.second few bound.0,
  bound.1,
  bound.2,
  bound.3,
  wider count (place_of t.first t.second + 1) ts
      few bound.4,
)

appended : (count least : ℕ) (ts : List Term) (t : Term) → BoundFrom least count ts → AreSymbols count t.first t.second
    → next_place least ts ≤ place_of t.first t.second
    → 1 ≤ t.coefficient → t.coefficient ≤ greatest_coefficient → BoundFrom least count (ts ++ t ∷ [])
appended count least [] t bound are after some small = (are, after, some, small, tt)
appended count least (u ∷ us) t bound are after some small =
    (bound.0, bound.1, bound.2, bound.3, appended count (place_of u.first u.second + 1) us t bound.4 are after some small)

-- a product with a coefficient has symbols of the terms
coefficient_over : (count least : ℕ) (a b : Option ℕ) (p : List Term) → BoundFrom least count p
    → Unless (coefficient a b p) (AreSymbols count a b)
coefficient_over count least a b [] bound = inl refl
coefficient_over count least a b (t ∷ ts) bound =
    by_test (coefficient_over count (place_of t.first t.second + 1) a b ts bound.4)
    (same_symbol t.first a && same_symbol t.second b) refl
  where
    by_test : Unless (coefficient a b ts) (AreSymbols count a b) → (same : Bool)
        → (same_symbol t.first a && same_symbol t.second b) ≡ same
        → Unless (coefficient a b (t ∷ ts)) (AreSymbols count a b)
    by_test rest true e =
        let p = and_parts (same_symbol t.first a) (same_symbol t.second b) e in
        inr (rw (← symbols_same t.first a p.0, ← symbols_same t.second b p.1) bound.0)
    by_test rest false e = rw e rest

small_of : (count : ℕ) (p : List Term) → count ≤ 8 → BoundFrom 0 count p → (place : ℕ)
    → coefficient_at p place ≤ greatest_coefficient
small_of count p few bound place =
    coefficient_small (symbols_at place).0 (symbols_at place).1 p (coefficients_small 0 p (wider count 0 p few bound))

-- Polynomials of coefficients.

are_test : ℕ → Bool
are_test place = are_symbols (symbols_at place).0 (symbols_at place).1

symbols_good : (place : ℕ) → place < 45 → are_symbols (symbols_at place).0 (symbols_at place).1 ≡ true
unfolding are_test symbols_at all_below
symbols_good place less = one_below are_test 45 place refl less

module _ (count : ℕ) (numbers : ℕ → ℕ)
    (over : (place : ℕ) → place < 45 → Unless (numbers place) (AreSymbols count (symbols_at place).0 (symbols_at place).1))
    (small : (place : ℕ) → place < 45 → numbers place ≤ greatest_coefficient) where
  abbrev Listed : ℕ → Type 0
  Listed n = BoundFrom 0 count (listed numbers n) × (next_place 0 (listed numbers n) ≤ n)

  listed_on : (n : ℕ) → n < 45 → Listed n → Listed (suc n)
  unfolding listed
  listed_on n less so_far = by_test (nat_eq (numbers n) 0) refl (over n less)
    where
      nothing : (ts : List Term) → ts ++ [] ≡ ts
      nothing [] = refl
      nothing (t ∷ ts) = ap (λ us. t ∷ us) (nothing ts)

      by_test : (none : Bool) → nat_eq (numbers n) 0 ≡ none
          → Unless (numbers n) (AreSymbols count (symbols_at n).0 (symbols_at n).1) → Listed (suc n)
      by_test true e has = rw (e, nothing (listed numbers n)) (so_far.0, omega (arith, so_far.1))
      by_test false e (inl none) = absurd (grind (arith, nat_tests))
      by_test false e (inr are) =
          let place : place_of (symbols_at n).0 (symbols_at n).1 ≡ n = place_is n less in
          let one : Term = make (symbols_at n).0 (symbols_at n).1 (numbers n) in
          let next : next_place 0 (listed numbers n ++ one ∷ []) ≡ place_of (symbols_at n).0 (symbols_at n).1 + 1 =
          next_append 0 (listed numbers n) one in
          rw e (
            appended count 0 (listed numbers n) one so_far.0 are (omega (arith, place, so_far.1)) (grind (arith, nat_tests))
                (small n less),
            omega (arith, next, place),
          )

  nothing_listed : Listed 0
  unfolding listed
  nothing_listed = (tt, omega arith)

  listed_up : (n : ℕ) → n ≤ 45 → Listed n
  listed_up zero le = nothing_listed
  listed_up (suc n) le = listed_on n (omega (arith, le)) (listed_up n (omega (arith, le)))

  pub listed_over : BoundFrom 0 count (listed numbers 45)
  listed_over = (listed_up 45 (omega arith)).0

-- what is within the limits
within_ok : (numbers : ℕ → ℕ) (p : List Term) → within numbers ≡ Ok p
    → (p ≡ listed numbers 45) × (greatest numbers 45 ≤ greatest_coefficient)
within_ok numbers p is = by_test (nat_le (greatest numbers 45) greatest_coefficient) refl
  where
    by_test : (small : Bool) → nat_le (greatest numbers 45) greatest_coefficient ≡ small
        → (p ≡ listed numbers 45) × (greatest numbers 45 ≤ greatest_coefficient)
    by_test true e =
        let here : Ok (listed numbers 45) ≡ Ok p = sym (rw e refl) ∙ is in
        ((let same_one : listed numbers 45 ≡ p = cc in sym same_one), leb-true _ _ e)
    by_test false e =
        let wide : Wide = record { degree = degree numbers; coefficient = greatest numbers 45 } in
        let here : Err wide ≡ Ok p = sym (rw e refl) ∙ is in
        absurd (cc)

below_limit : (numbers : ℕ → ℕ) → greatest numbers 45 ≤ greatest_coefficient → (place : ℕ) → place < 45
    → numbers place ≤ greatest_coefficient
below_limit numbers small place less = (let one = below_greatest numbers 45 place less in omega (arith, one, small))

-- Sums.

pub sum_made : (count : ℕ) (p q s : List Term) → count ≤ 8 → BoundFrom 0 count p → BoundFrom 0 count q → within (sum p q) ≡ Ok s
    → BoundFrom 0 count s × ((values : List ℕ) → at values s ≡ at values p + at values q)
sum_made count p q s few one other is =
    let made = within_ok (sum p q) s is in
    let over = λ (place : ℕ) (less : place < 45).
    unless_sum (coefficient_at p place) (coefficient_at q place) (AreSymbols count (symbols_at place).0 (symbols_at place).1)
    (coefficient_over count 0 (symbols_at place).0 (symbols_at place).1 p one)
    (coefficient_over count 0 (symbols_at place).0 (symbols_at place).1 q other) in
    rw made.0 (
      listed_over count (sum p q) over (below_limit (sum p q) made.1),
      λ values.
          sum_value values p q (wider count 0 p few one) (wider count 0 q few other),
    )

-- Greater ones.

pub greater_made : (count : ℕ) (p q : List Term) → count ≤ 8 → BoundFrom 0 count p → BoundFrom 0 count q
    → BoundFrom 0 count (listed (greater p q) 45)
    × ((values : List ℕ) → (at values p ≤ at values (listed (greater p q) 45))
    × (at values q ≤ at values (listed (greater p q) 45)))
greater_made count p q few one other =
    let over = λ (place : ℕ) (less : place < 45).
    unless_max (coefficient_at p place) (coefficient_at q place) (AreSymbols count (symbols_at place).0 (symbols_at place).1)
    (coefficient_over count 0 (symbols_at place).0 (symbols_at place).1 p one)
    (coefficient_over count 0 (symbols_at place).0 (symbols_at place).1 q other) in
    let small : (place : ℕ) → place < 45 → greater p q place ≤ greatest_coefficient =
    λ place less. (let first = small_of count p few one place in let second = small_of count q few other place in
    omega (arith, first, second)) in (
      listed_over count (greater p q) over small,
      λ values. greater_value values p q (wider count 0 p few one)
          (wider count 0 q few other),
    )

-- Products.

no_coefficient : (s count : ℕ) (ts : List (ℕ × ℤ)) → nat_lt s count ≡ false → list_all (is_entry_term count) ts ≡ true
    → linear.coefficient s ts ≡ pos 0
no_coefficient s count [] past all = refl
no_coefficient s count (t ∷ ts) past all =
    let p = and_parts (is_entry_term count t) (list_all (is_entry_term count) ts) all in
    let less : t.0 < count = ltb-true _ _ (and_parts (nat_lt t.0 count) (le_z (pos 0) t.1) p.0).0 in
    let other : nat_eq t.0 s ≡ false = grind (arith, nat_tests) in
    let rest : linear.coefficient s ts ≡ pos 0 = no_coefficient s count ts past p.1 in
    rw (other, rest) refl

part_over : (s count : ℕ) (f : LinearForm) → is_entry_form_of count f ≡ true → Unless (form_part f (Some s)) (s < count)
part_over s count f entry = by_test (nat_lt s count) refl
  where
    by_test : (below : Bool) → nat_lt s count ≡ below → Unless (form_part f (Some s)) (s < count)
    by_test true e = inr (ltb-true _ _ e)
    by_test false e =
        let none : linear.coefficient s f.terms
        ≡ pos 0 = no_coefficient s count f.terms e
        (and_parts (le_z (pos 0) f.constant) (list_all (is_entry_term count) f.terms) entry).1 in
        inl (ap nat_abs none)

module _ (count : ℕ) (p : List Term) (f : LinearForm) (bound : BoundFrom 0 count p) (entry : is_entry_form_of count f ≡ true)
  where
    twice_over : (a b : ℕ) → nat_le a b ≡ true → Unless (product_of p f (Some a, Some b)) (AreSymbols count (Some a) (Some b))
    twice_over a b e =
        let order : a ≤ b = leb-true _ _ e in
        let P : Type 0 = AreSymbols count (Some a) (Some b) in
        let one = unless_first (coefficient (Some a) (Some b) p) (form_part f None) P
        (coefficient_over count 0 (Some a) (Some b) p bound) in
        let two = unless_first (coefficient (Some b) None p) (form_part f (Some a)) P
        (unless_so (coefficient (Some b) None p) (b < count) P (λ less. (order, less))
        (coefficient_over count 0 (Some b) None p bound)) in
        let three = unless_second (coefficient (Some a) None p) (form_part f (Some b)) P
        (unless_so (form_part f (Some b)) (b < count) P (λ less. (order, less)) (part_over b count f entry)) in
        let both = unless_sum (coefficient (Some a) (Some b) p * form_part f None)
        (coefficient (Some b) None p * form_part f (Some a)) P one two in
        unless_sum (coefficient (Some a) (Some b) p * form_part f None + coefficient (Some b) None p * form_part f (Some a))
        (if nat_eq a b then 0 else coefficient (Some a) None p * form_part f (Some b)) P both (last (nat_eq a b) three)
      where
        last : (same : Bool) → Unless (coefficient (Some a) None p * form_part f (Some b)) (AreSymbols count (Some a) (Some b))
            → Unless (if same then 0 else coefficient (Some a) None p * form_part f (Some b)) (AreSymbols count (Some a) (Some b))
        last true has = inl refl
        last false has = has

    product_over : (s : Option ℕ × Option ℕ) → are_symbols s.0 s.1 ≡ true → Unless (product_of p f s) (AreSymbols count s.0 s.1)
    product_over (None, None) are = inr tt
    product_over (None, Some b) are = absurd (cc)
    product_over (Some a, None) are =
        unless_sum (coefficient (Some a) None p * form_part f None) (coefficient None None p * form_part f (Some a)) (a < count)
        (unless_first (coefficient (Some a) None p) (form_part f None) (a < count)
        (coefficient_over count 0 (Some a) None p bound))
        (unless_second (coefficient None None p) (form_part f (Some a)) (a < count) (part_over a count f entry))
    product_over (Some a, Some b) are = twice_over a b (and_parts (nat_le a b) (nat_lt b 8) are).0

entry_terms : (count : ℕ) (ts : List (ℕ × ℤ)) → count ≤ 8 → list_all (is_entry_term count) ts ≡ true → are_entry_terms ts ≡ true
entry_terms count [] few all = refl
entry_terms count (t ∷ ts) few all =
    let p = and_parts (is_entry_term count t) (list_all (is_entry_term count) ts) all in
    let q = and_parts (nat_lt t.0 count) (le_z (pos 0) t.1) p.0 in
    let less : t.0 < count = ltb-true _ _ q.0 in
    let below : nat_lt t.0 8 ≡ true = grind (arith, nat_tests) in
    rw (below, q.1, entry_terms count ts few p.1) refl

entry_form : (count : ℕ) (f : LinearForm) → count ≤ 8 → is_entry_form_of count f ≡ true → is_entry_form f ≡ true
entry_form count f few entry =
    let p = and_parts (le_z (pos 0) f.constant) (list_all (is_entry_term count) f.terms) entry in
    rw (p.0, entry_terms count f.terms few p.1) refl

scaled_ok : (p : List Term) (f : LinearForm) (s : List Term) → scaled p f ≡ Ok s
    → (greatest_cubic p f ≡ 0) × (within (product p f) ≡ Ok s)
scaled_ok p f s is = by_test (nat_eq (greatest_cubic p f) 0) refl
  where
    by_test : (none : Bool) → nat_eq (greatest_cubic p f) 0 ≡ none → (greatest_cubic p f ≡ 0) × (within (product p f) ≡ Ok s)
    by_test true e =
        let here : within (product p f) ≡ Ok s = sym (rw e refl) ∙ is in
        (eqb-true _ _ e, here)
    by_test false e =
        let wide : Wide = record { degree = 3; coefficient = max (greatest_cubic p f) (greatest (product p f) 45) } in
        let here : Err wide ≡ Ok s = sym (rw e refl) ∙ is in
        absurd (cc)

pub product_made : (count : ℕ) (p : List Term) (f : LinearForm) (s : List Term) → count ≤ 8 → BoundFrom 0 count p
    → is_entry_form_of count f ≡ true → scaled p f ≡ Ok s
    → BoundFrom 0 count s × ((values : List ℕ)
    → pos (at values s) ≡ pos (at values p) *ℤ value_at (λ n. slice_index_or values n 0) f)
product_made count p f s few bound entry is =
    let no_cubic = scaled_ok p f s is in
    let made = within_ok (product p f) s no_cubic.1 in
    rw made.0 (
      listed_over count (product p f)
          (λ place less. product_over count p f bound entry (symbols_at place) (symbols_good place less))
          (below_limit (product p f) made.1),
      λ values. product_value values p f (wider count 0 p few bound) no_cubic.0 (entry_form count f few entry),
    )

-- Numbers.

pub number_made : (count n : ℕ) (p : List Term) → term None None n ≡ Some p
    → BoundFrom 0 count p × ((values : List ℕ) → at values p ≡ n)
number_made count n p is = by_tests (nat_le n greatest_coefficient) refl (nat_eq n 0) refl
  where
    by_tests : (small : Bool) → nat_le n greatest_coefficient ≡ small → (none : Bool) → nat_eq n 0 ≡ none
        → BoundFrom 0 count p × ((values : List ℕ) → at values p ≡ n)
    by_tests true few true none =
        let here : Some [] ≡ Some p = sym (rw (few, none) refl) ∙ is in
        let same_one : [] ≡ p = cc in
        let nothing : n ≡ 0 = eqb-true _ _ none in
        rw (← same_one) (tt, λ values. sym nothing)
    by_tests true few false more =
        let here : Some (make None None n ∷ []) ≡ Some p = sym (rw (few, more) refl) ∙ is in
        let same_one : make None None n ∷ [] ≡ p = cc in
        rw (← same_one) ((tt, omega arith, grind (arith, nat_tests), leb-true _ _ few, tt), λ values. omega arith)
    by_tests false few none e =
        let here : None ≡ Some p = sym (rw few refl) ∙ is in
        absurd (cc)
