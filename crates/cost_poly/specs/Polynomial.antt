-- Polynomials of degree 2 over eight symbols, whose coefficients are whole numbers: bounds of the steps of a call.
use Rattle.std.specs.Prelude.{ℕ, zero, suc, max, map, Result, Ok, Err, ℤ, pos, nat_abs, ◌+◌, ◌-◌, ◌*◌, ◌/◌, ◌^◌, ◌<◌, ◌≤◌, Bool}
use Rattle.std.specs.Prelude.{true, false, ◌&&◌, List, [], ◌∷◌, ◌++◌, Option, Some, None, nat_eq, nat_lt, nat_le, slice_index_or}
use Rattle.std.specs.Prelude.{if◌then◌else◌, ⊤}
use Rattle.std.specs.Int.Signed.{le_z}
use Rattle.side_certs.specs.LinearForm.{LinearForm}
use Rattle.side_certs.specs.LinearForm as linear
use Rattle.cost_poly.specs.declared.term.Term.{Term}
use Rattle.cost_poly.specs.declared.wide.Wide.{Wide}

-- the greatest coefficient
abbrev pub greatest_coefficient : ℕ
greatest_coefficient = 2 ^ 40

-- the number of symbols
abbrev pub symbol_limit : ℕ
symbol_limit = 8

-- The number of a product of symbols in the order 1, the symbols, the products by their first and then their
-- second symbol: a row of products is one shorter than the row before it.
abbrev pub place_of : Option ℕ → Option ℕ → ℕ
place_of None second = 0
place_of (Some a) None = 1 + a
place_of (Some a) (Some b) = 9 + a * (17 - a) / 2 + (b - a)

-- the symbols are below a count; a second one has a first one, that isn't after it
abbrev pub AreSymbols : ℕ → Option ℕ → Option ℕ → Type 0
AreSymbols count None None = ⊤
AreSymbols count None (Some b) = ⊥
AreSymbols count (Some a) None = a < count
AreSymbols count (Some a) (Some b) = (a ≤ b) × (b < count)

-- the places of the terms rise from the least, and each coefficient is from 1 to the greatest
abbrev pub BoundFrom : ℕ → ℕ → List Term → Type 0
BoundFrom least count [] = ⊤
BoundFrom least count (t ∷ ts) =
    AreSymbols count t.first t.second × (least ≤ place_of t.first t.second) × (1 ≤ t.coefficient)
    × (t.coefficient ≤ greatest_coefficient)
    × BoundFrom (place_of t.first t.second + 1) count ts

abbrev pub IsSmall : Term → Type 0
IsSmall t = t.coefficient ≤ greatest_coefficient

-- the least place behind terms
abbrev pub next_place : ℕ → List Term → ℕ
next_place least [] = least
next_place least (t ∷ ts) = next_place (place_of t.first t.second + 1) ts

-- AreSymbols, as a test
abbrev pub are_symbols : Option ℕ → Option ℕ → Bool
are_symbols None None = true
are_symbols None (Some b) = false
are_symbols (Some a) None = nat_lt a symbol_limit
are_symbols (Some a) (Some b) = nat_le a b && nat_lt b symbol_limit

abbrev pub make : Option ℕ → Option ℕ → ℕ → Term
make a b c = record { first = a; second = b; coefficient = c }

-- a polynomial of one term, if it passes no limit; a coefficient 0 leaves none
abbrev pub term : Option ℕ → Option ℕ → ℕ → Option (List Term)
term a b c =
    if are_symbols a b && nat_le c greatest_coefficient then Some (if nat_eq c 0 then [] else make a b c ∷ [])
    else None

-- the place of the symbols' product is behind those of the terms
abbrev pub goes_behind : List Term → Option ℕ → Option ℕ → Bool
goes_behind ts a b = are_symbols a b && nat_le (next_place 0 ts) (place_of a b)

-- the term can stand behind the others
abbrev pub can_follow : List Term → Option ℕ → Option ℕ → ℕ → Bool
can_follow ts a b c = goes_behind ts a b && nat_le 1 c && nat_le c greatest_coefficient

-- the polynomial with a term behind the others, if it can stand there
abbrev pub with_term : List Term → Option ℕ → Option ℕ → ℕ → Option (List Term)
with_term ts a b c = if can_follow ts a b c then Some (ts ++ make a b c ∷ []) else None

abbrev pub same_symbol : Option ℕ → Option ℕ → Bool
same_symbol None None = true
same_symbol None (Some b) = false
same_symbol (Some a) None = false
same_symbol (Some a) (Some b) = nat_eq a b

-- the coefficient of these symbols, 0 where they have no term
abbrev pub coefficient : Option ℕ → Option ℕ → List Term → ℕ
coefficient a b [] = 0
coefficient a b (t ∷ ts) = if same_symbol t.first a && same_symbol t.second b then t.coefficient else coefficient a b ts

-- a symbol's value, 0 past the end of the values; no symbol is 1
abbrev pub value_of : List ℕ → Option ℕ → ℕ
value_of values None = 1
value_of values (Some s) = slice_index_or values s 0

-- the value of the polynomial
abbrev pub at : List ℕ → List Term → ℕ
at values [] = 0
at values (t ∷ ts) = t.coefficient * value_of values t.first * value_of values t.second + at values ts

-- The products by their places, and polynomials by the coefficients of all products.

-- each symbol of a list with itself and those behind it
abbrev pub pairs : List ℕ → List (Option ℕ × Option ℕ)
pairs [] = []
pairs (a ∷ rest) = map (λ b. (Some a, Some b)) (a ∷ rest) ++ pairs rest

abbrev pub symbols : List ℕ
symbols = 0 ∷ 1 ∷ 2 ∷ 3 ∷ 4 ∷ 5 ∷ 6 ∷ 7 ∷ []

-- the product of a place: 1, the symbols, and the products of two symbols
unfoldable pub symbols_at : ℕ → Option ℕ × Option ℕ
symbols_at place = slice_index_or ((None, None) ∷ map (λ a. (Some a, None)) symbols ++ pairs symbols) place (None, None)

-- the number of products
abbrev pub product_count : ℕ
product_count = 45

abbrev pub coefficient_at : List Term → ℕ → ℕ
coefficient_at p place = coefficient (symbols_at place).0 (symbols_at place).1 p

-- the terms of the first products, where the coefficient isn't 0
unfoldable pub listed : (ℕ → ℕ) → ℕ → List Term
listed numbers zero = []
listed numbers (suc place) =
    listed numbers place ++ (if nat_eq (numbers place) 0 then []
    else make (symbols_at place).0 (symbols_at place).1 (numbers place) ∷ [])

-- the greatest of the first numbers, 0 where there is none
unfoldable pub greatest : (ℕ → ℕ) → ℕ → ℕ
greatest numbers zero = 0
greatest numbers (suc count) = max (greatest numbers count) (numbers count)

-- the number of symbols of a product
abbrev pub degree_of : Option ℕ × Option ℕ → ℕ
degree_of (None, second) = 0
degree_of (Some a, None) = 1
degree_of (Some a, Some b) = 2

abbrev pub term_degree : (ℕ → ℕ) → ℕ → ℕ
term_degree numbers place = if nat_eq (numbers place) 0 then 0 else degree_of (symbols_at place)

-- the greatest degree of a product whose coefficient isn't 0
abbrev pub degree : (ℕ → ℕ) → ℕ
degree numbers = greatest (term_degree numbers) product_count

-- the polynomial of these coefficients, if none passes the limit
abbrev pub within : (ℕ → ℕ) → Result (List Term) Wide
within numbers =
    if nat_le (greatest numbers product_count) greatest_coefficient then Ok (listed numbers product_count)
    else Err (record { degree = degree numbers; coefficient = greatest numbers product_count })

-- the sum: the coefficient of each product is the sum of its coefficients
abbrev pub sum : List Term → List Term → ℕ → ℕ
sum p q place = coefficient_at p place + coefficient_at q place

-- the greater coefficient of each product
abbrev pub greater : List Term → List Term → ℕ → ℕ
greater p q place = max (coefficient_at p place) (coefficient_at q place)

-- The product of a polynomial and a linear form with no negative number.

-- the form's constant, or the coefficient of a symbol
abbrev pub form_part : LinearForm → Option ℕ → ℕ
form_part f None = nat_abs f.constant
form_part f (Some s) = nat_abs (linear.coefficient s f.terms)

-- a product of two symbols is of the first one from the form, or of the second
abbrev pub product_of : List Term → LinearForm → Option ℕ × Option ℕ → ℕ
product_of p f (None, second) = coefficient None None p * form_part f None
product_of p f (Some a, None) = coefficient (Some a) None p * form_part f None + coefficient None None p * form_part f (Some a)
product_of p f (Some a, Some b) =
    coefficient (Some a) (Some b) p * form_part f None + coefficient (Some b) None p * form_part f (Some a)
    + (if nat_eq a b then 0 else coefficient (Some a) None p * form_part f (Some b))

abbrev pub product : List Term → LinearForm → ℕ → ℕ
product p f place = product_of p f (symbols_at place)

-- the coefficient of three symbols in order, of which one is from the form; 0 where they aren't in order
abbrev pub cubic : List Term → LinearForm → ℕ → ℕ → ℕ → ℕ
cubic p f a b c =
    if nat_le a b && nat_le b c then
    coefficient (Some b) (Some c) p * form_part f (Some a)
    + (if nat_eq a b then 0 else coefficient (Some a) (Some c) p * form_part f (Some b))
    + (if nat_eq b c then 0 else coefficient (Some a) (Some b) p * form_part f (Some c))
    else 0

abbrev pub greatest_cubic : List Term → LinearForm → ℕ
greatest_cubic p f = greatest (λ a. greatest (λ b. greatest (cubic p f a b) symbol_limit) symbol_limit) symbol_limit

-- the product, if it has no product of three symbols and no coefficient passes the limit
abbrev pub scaled : List Term → LinearForm → Result (List Term) Wide
scaled p f =
    if nat_eq (greatest_cubic p f) 0 then within (product p f)
    else Err (record { degree = 3; coefficient = max (greatest_cubic p f) (greatest (product p f) product_count) })

-- no number of the form is negative, and its symbols are below the limit
abbrev pub are_entry_terms : List (ℕ × ℤ) → Bool
are_entry_terms [] = true
are_entry_terms (t ∷ ts) = nat_lt t.0 symbol_limit && le_z (pos 0) t.1 && are_entry_terms ts

abbrev pub is_entry_form : LinearForm → Bool
is_entry_form f = le_z (pos 0) f.constant && are_entry_terms f.terms
