-- Terms in the order of their places: there are at most 45, and one more may follow.
use Rattle.std.proofs.Common.{◌≡◌, ℕ, zero, suc, ◌+◌, ◌-◌, ◌*◌, ◌/◌, ◌^◌, ◌<◌, ◌≤◌, Bool, true, false, ◌&&◌, List, [], ◌∷◌, ◌++◌}
use Rattle.std.proofs.Common.{length, take, set, Option, Some, None, nat_le, nat_lt, refl, arith, length-take}
use Rattle.std.specs.List.{AllByRecursion}
use Rattle.std.proofs.lemmas.Bool.{leb-true, ltb-true}
use Rattle.std.proofs.lemmas.List.{take_more_set}
use Rattle.cost_poly.specs.declared.term.Term.{Term}
use Rattle.cost_poly.specs.Polynomial.{place_of, AreSymbols, BoundFrom, IsSmall, next_place, are_symbols}

pub and_parts : (a b : Bool) → (a && b) ≡ true → (a ≡ true) × (b ≡ true)
and_parts true b h = (refl, h)
and_parts false b h = absurd (cc)

pub symbols_are : (a b : Option ℕ) → are_symbols a b ≡ true → AreSymbols 8 a b
symbols_are None None are = tt
symbols_are None (Some b) are = absurd (cc)
symbols_are (Some a) None are = ltb-true a 8 are
symbols_are (Some a) (Some b) are = let p = and_parts (nat_le a b) (nat_lt b 8) are in (leb-true a b p.0, ltb-true b 8 p.1)

product_place : (a b : ℕ) → a ≤ b → b < 8 → 9 + a * (17 - a) / 2 + (b - a) < 45
product_place zero b le lt = omega arith
product_place (suc zero) b le lt = omega arith
product_place (suc (suc zero)) b le lt = omega arith
product_place (suc (suc (suc zero))) b le lt = omega arith
product_place (suc (suc (suc (suc zero)))) b le lt = omega arith
product_place (suc (suc (suc (suc (suc zero))))) b le lt = omega arith
product_place (suc (suc (suc (suc (suc (suc zero)))))) b le lt = omega arith
product_place (suc (suc (suc (suc (suc (suc (suc zero))))))) b le lt = omega arith
product_place (suc (suc (suc (suc (suc (suc (suc (suc a)))))))) b le lt = absurd (omega arith)

pub place_below : (a b : Option ℕ) → AreSymbols 8 a b → place_of a b < 45
place_below None None are = omega arith
place_below None (Some b) are = absurd are
place_below (Some a) None are = omega arith
place_below (Some a) (Some b) are = product_place a b are.0 are.1

pub length_below : (least : ℕ) (ts : List Term) → BoundFrom least 8 ts → least + length ts ≤ next_place least ts
length_below least [] are = omega arith
length_below least (t ∷ ts) are =
    let rest : place_of t.first t.second + 1 + length ts ≤ next_place (place_of t.first t.second + 1) ts =
    length_below (place_of t.first t.second + 1) ts are.4 in
    omega (arith, are.1)

-- where a further term has a place, there is room for it
pub has_room : (slots : List Term) (count next : ℕ) (a b : Option ℕ) → length slots ≡ 45 → count ≤ 45
    → next ≡ next_place 0 (take count slots)
    → BoundFrom 0 8 (take count slots) → are_symbols a b ≡ true → next ≤ place_of a b → count < 45
has_room slots count next a b size most next_is bound are after =
    let below : place_of a b < 45 = place_below a b (symbols_are a b are) in
    let fewer : 0 + length (take count slots) ≤ next_place 0 (take count slots) = length_below 0 (take count slots) bound in
    omega (arith, length-take count slots)

pub next_append : (least : ℕ) (ts : List Term) (t : Term) → next_place least (ts ++ t ∷ []) ≡ place_of t.first t.second + 1
next_append least [] t = refl
next_append least (u ∷ us) t = next_append (place_of u.first u.second + 1) us t

bound_append : (least : ℕ) (ts : List Term) (t : Term) → BoundFrom least 8 ts → AreSymbols 8 t.first t.second
    → next_place least ts ≤ place_of t.first t.second → 1 ≤ t.coefficient → t.coefficient ≤ 2 ^ 40
    → BoundFrom least 8 (ts ++ t ∷ [])
bound_append least [] t bound are after some small = (are, after, some, small, tt)
bound_append least (u ∷ us) t bound are after some small =
    (bound.0, bound.1, bound.2, bound.3, bound_append (place_of u.first u.second + 1) us t bound.4 are after some small)

pub pushed_bound : (slots : List Term) (count next place : ℕ) (t : Term) → length slots ≡ 45 → count < 45
    → next ≡ next_place 0 (take count slots)
    → BoundFrom 0 8 (take count slots) → are_symbols t.first t.second ≡ true → place ≡ place_of t.first t.second → next ≤ place
    → 1 ≤ t.coefficient → t.coefficient ≤ 2 ^ 40
    → (count + 1 ≤ 45) × (place + 1 ≡ next_place 0 (take (count + 1) (set slots count t)))
    × BoundFrom 0 8 (take (count + 1) (set slots count t))
pushed_bound slots count next place t size below next_is bound are place_is after some small =
    let more : take (count + 1) (set slots count t) ≡ take count slots ++ t ∷ [] = take_more_set slots count t (omega arith) in
    let next_more : place + 1 ≡ next_place 0 (take count slots ++ t ∷ []) = rw (next_append 0 (take count slots) t) (omega arith)
    in (
      omega arith,
      rw more next_more,
      rw more
          (bound_append 0 (take count slots) t bound (symbols_are t.first t.second are) (omega arith) some small),
    )

pub coefficients_small : (least : ℕ) (ts : List Term) → BoundFrom least 8 ts → AllByRecursion IsSmall ts
coefficients_small least [] bound = tt
coefficients_small least (t ∷ ts) bound = (bound.3, coefficients_small (place_of t.first t.second + 1) ts bound.4)
