-- The entries of a list fit one after another exactly where the list is within the limits.
use Rattle.std.proofs.Common.{◌≡◌, ◌≢◌, ℕ, zero, suc, ◌+◌, ◌<◌, ◌≤◌, Bool, true, false, not, ◌||◌, List, [], ◌∷◌, ◌++◌, length}
use Rattle.std.proofs.Common.{Option, Some, None, ℤ, pos, negsuc, nat_le, nat_lt, nat_eq, slice_get, refl, sym, ap, ◌∙◌, arith}
use Rattle.std.specs.Prelude.{sum_by}
use Rattle.std.specs.List.{AllByRecursion, IsDistinct, list_any}
use Rattle.std.specs.Ordering.{int_eq}
use Rattle.std.proofs.lemmas.Bool.{leb-true, le-leb, ltb-true, lt-ltb, eqb-true}
use Rattle.std.proofs.lemmas.Bool.Decides.{nat_tests}
use Rattle.std.proofs.lemmas.List.Sums.{sum_by_push, sum_by-cons}
use Rattle.std.proofs.lemmas.Option.{slice_get_within}
use Rattle.std.proofs.lemmas.Map.Steps.{length-le_from_distinct_below}
use Rattle.rup_base.specs.declared.arg.Kind.{Kind}
use Rattle.rup_base.specs.declared.arg.Kind.TheVariants.{Word, Byte, Bytes, Words}
use Rattle.side_certs.specs.LinearForm.{LinearForm}
use Rattle.side_certs.proofs.laws.Terms.{both, and_parts}
use Rattle.cost_poly.specs.declared.term.Term.{Term}
use Rattle.cost_poly.specs.Polynomial.{greatest_coefficient, place_of, next_place, AreSymbols, BoundFrom, are_symbols}
use Rattle.cost_poly.proofs.laws.Places.{next_append, length_below, place_below}
use Rattle.image_layout.specs.Spelling.{registers_of, is_array, IsParameter, TermsFrom, IsRequirement, ResultsFit}
use Rattle.image_layout.specs.Reading.{next_symbol, scalars, has_array, is_some_array, is_entry_symbol, is_second}
use Rattle.image_layout.proofs.Forms.{next_symbol-push}
use Rattle.image_layout.proofs.Stands.{AllFit}
use Rattle.image_layout.proofs.Steps.{ParamFits, TermFits, FormFits, SymbolFits, RetFits, BoundFits, not_true}

-- Parameters.

pub params_limits : (before ks : List Kind) → sum_by registers_of before ≤ 8 → AllFit ParamFits before ks
    → AllByRecursion IsParameter ks × (sum_by registers_of before + sum_by registers_of ks ≤ 8)
params_limits before [] most fit = (tt, omega (arith, most))
params_limits before (k ∷ ks) most fit =
    let more = sum_by_push registers_of before k in
    let rest = params_limits (before ++ k ∷ []) ks (omega (arith, more, fit.0.1)) fit.1 in
    ((fit.0.0, rest.0), omega (arith, more, rest.1, sum_by-cons registers_of k ks))

pub params_fit : (before ks : List Kind) → AllByRecursion IsParameter ks → sum_by registers_of before + sum_by registers_of ks ≤ 8
    → AllFit ParamFits before ks
params_fit before [] are most = tt
params_fit before (k ∷ ks) are most =
    let more = sum_by_push registers_of before k in
    let head = sum_by-cons registers_of k ks in
    ((are.0, omega (arith, head, most)), params_fit (before ++ k ∷ []) ks are.1 (omega (arith, more, head, most)))

register : (k : Kind) → 1 ≤ registers_of k
register Word = omega arith
register Byte = omega arith
register (Bytes None) = omega arith
register (Bytes (Some n)) = omega arith
register (Words None) = omega arith
register (Words (Some n)) = omega arith

pub params_few : (ks : List Kind) → length ks ≤ sum_by registers_of ks
params_few [] = omega arith
params_few (k ∷ ks) =
    let rest : length ks ≤ sum_by registers_of ks = params_few ks in
    omega (arith, rest, register k, sum_by-cons registers_of k ks)

-- Terms of requirements.

not_zero : (z : ℤ) → int_eq z (pos 0) ≡ false → z ≢ pos 0
not_zero z h = λ e. absurd (let bad : false ≡ true = sym h ∙ ap (λ (k : ℤ). int_eq k (pos 0)) e in cc)

zero_not : (z : ℤ) → z ≢ pos 0 → int_eq z (pos 0) ≡ false
zero_not (pos zero) h = absurd (h refl)
zero_not (pos (suc n)) h = grind arith
zero_not (negsuc n) h = refl

pub terms_limits : (count : ℕ) (before ts : List (ℕ × ℤ)) → AllFit (TermFits count) before ts
    → TermsFrom (next_symbol 0 before) count ts
terms_limits count before [] fit = tt
terms_limits count before (t ∷ ts) fit =
    let next = next_symbol-push 0 before t in
    (fit.0.0, fit.0.1, not_zero t.1 fit.0.2, leb-true _ _ fit.0.3, rw next at (terms_limits count (before ++ t ∷ []) ts fit.1))

pub terms_fit : (count : ℕ) (before ts : List (ℕ × ℤ)) → TermsFrom (next_symbol 0 before) count ts
    → AllFit (TermFits count) before ts
terms_fit count before [] limits = tt
terms_fit count before (t ∷ ts) limits =
    let next = next_symbol-push 0 before t in
    ((limits.0, limits.1, zero_not t.1 limits.2, le-leb _ _ limits.3), terms_fit count (before ++ t ∷ []) ts (rw next limits.4))

pub terms_few : (least count : ℕ) (ts : List (ℕ × ℤ)) → least ≤ count → TermsFrom least count ts → least + length ts ≤ count
terms_few least count [] le limits = omega (arith, le)
terms_few least count (t ∷ ts) le limits =
    let rest : t.0 + 1 + length ts ≤ count = terms_few (t.0 + 1) count ts (omega (arith, limits.1)) limits.4 in
    omega (arith, rest, limits.0)

-- Requirements.

pub forms_limits : (count : ℕ) (before fs : List LinearForm) → AllFit (FormFits count) before fs
    → AllByRecursion (IsRequirement count) fs
forms_limits count before [] fit = tt
forms_limits count before (f ∷ fs) fit = (
  record { constant_fits = leb-true _ _ fit.0.0; terms_fit = terms_limits count [] f.terms fit.0.1 },
  forms_limits count
      (before ++ f ∷ []) fs fit.1,
)

pub forms_fit : (count : ℕ) (before fs : List LinearForm) → count ≤ 8 → AllByRecursion (IsRequirement count) fs
    → AllFit (FormFits count) before fs
forms_fit count before [] few limits = tt
forms_fit count before (f ∷ fs) few limits =
    let size : 0 + length f.terms ≤ count = terms_few 0 count f.terms (omega arith) limits.0.terms_fit in (
      (le-leb _ _ limits.0.constant_fits, terms_fit count [] f.terms limits.0.terms_fit, omega (arith, size, few)),
      forms_fit count
          (before ++ f ∷ []) fs few limits.1,
    )

-- Results.

some_array : (o : Option Kind) → is_some_array o ≡ true → (kind : Kind) × (o ≡ Some kind) × (is_array kind ≡ true)
some_array None h = absurd (cc)
some_array (Some kind) h = (kind, refl, h)

scalars-none : (rs : List (Option ℕ)) → scalars (rs ++ None ∷ []) ≡ scalars rs + 1
scalars-none [] = refl
scalars-none (None ∷ rs) = let rest : scalars (rs ++ None ∷ []) ≡ scalars rs + 1 = scalars-none rs in omega (arith, rest)
scalars-none (Some p ∷ rs) = scalars-none rs

scalars-some : (p : ℕ) (rs : List (Option ℕ)) → scalars (rs ++ Some p ∷ []) ≡ scalars rs
scalars-some p [] = refl
scalars-some p (None ∷ rs) = let rest : scalars (rs ++ Some p ∷ []) ≡ scalars rs = scalars-some p rs in omega (arith, rest)
scalars-some p (Some q ∷ rs) = scalars-some p rs

array-none : (p : ℕ) (rs : List (Option ℕ)) → has_array p (rs ++ None ∷ []) ≡ has_array p rs
array-none p [] = refl
array-none p (None ∷ rs) = array-none p rs
array-none p (Some q ∷ rs) = ap (λ (b : Bool). nat_eq p q || b) (array-none p rs)

or_false : (a b : Bool) → (a || b) ≡ false → (a ≡ false) × (b ≡ false)
or_false true b h = absurd (cc)
or_false false b h = (refl, h)

false_or : (a b : Bool) → a ≡ false → b ≡ false → (a || b) ≡ false
false_or a b h k = rw (h, k) refl

array-some : (p r : ℕ) (rs : List (Option ℕ)) → has_array p (rs ++ Some r ∷ []) ≡ (has_array p rs || nat_eq p r)
array-some p r [] = by_test (nat_eq p r) refl
  where
    by_test : (same : Bool) → nat_eq p r ≡ same → (nat_eq p r || false) ≡ (false || nat_eq p r)
    by_test true e = rw e refl
    by_test false e = rw e refl
array-some p r (None ∷ rs) = array-some p r rs
array-some p r (Some q ∷ rs) = ap (λ (b : Bool). nat_eq p q || b) (array-some p r rs)
    ∙ regroup (nat_eq p q) (has_array p rs) (nat_eq p r)
  where
    regroup : (a b d : Bool) → (a || (b || d)) ≡ ((a || b) || d)
    regroup true b d = refl
    regroup false b d = refl

different : (p q : ℕ) → nat_eq p q ≡ false → q ≢ p
different p q h = λ e. absurd (let same : p ≡ q = sym e in let bad : nat_eq p q ≡ true = grind (arith, nat_tests) in
    let worse : false ≡ true = sym h ∙ bad in cc)

differs : (p q : ℕ) → q ≢ p → nat_eq p q ≡ false
differs p q h = grind (arith, nat_tests)

-- the arrays before are those that were seen
pub record Seen (before : List (Option ℕ)) (seen : List ℕ) : Type 0 where
  pub unseen : (p : ℕ) → has_array p before ≡ false → AllByRecursion (λ q. q ≢ p) seen
  pub absent : (p : ℕ) → AllByRecursion (λ q. q ≢ p) seen → has_array p before ≡ false

seen_none : (before : List (Option ℕ)) (seen : List ℕ) → Seen before seen → Seen (before ++ None ∷ []) seen
seen_none before seen s = record {
  unseen = λ p h. s.unseen p (sym (array-none p before) ∙ h);
  absent = λ p h. array-none p before ∙ s.absent p h;
}

seen_some : (r : ℕ) (before : List (Option ℕ)) (seen : List ℕ) → Seen before seen → Seen (before ++ Some r ∷ []) (r ∷ seen)
seen_some r before seen s = record {
  unseen = λ p h. let o = or_false (has_array p before) (nat_eq p r) (sym (array-some p r before) ∙ h) in
      (different p r o.1, s.unseen p o.0);
  absent = λ p h. array-some p r before ∙ false_or (has_array p before) (nat_eq p r) (s.absent p h.1) (differs p r h.0);
}

pub rets_limits : (kinds : List Kind) (left : ℕ) (seen : List ℕ) (before rs : List (Option ℕ)) → left + scalars before ≡ 2
    → Seen before seen → AllFit (RetFits kinds) before rs → ResultsFit kinds left seen rs
rets_limits kinds left seen before [] sum s fit = tt
rets_limits kinds zero seen before (None ∷ rs) sum s fit = let few : scalars before < 2 = ltb-true _ _ fit.0.0 in
    absurd (omega (arith, few, sum))
rets_limits kinds (suc left) seen before (None ∷ rs) sum s fit =
    rets_limits kinds left seen (before ++ None ∷ []) rs (omega (arith, sum, scalars-none before)) (seen_none before seen s) fit.1
rets_limits kinds left seen before (Some p ∷ rs) sum s fit =
    let o = and_parts (is_some_array (slice_get kinds p)) (not (has_array p before)) fit.0.0 in (
      some_array (slice_get kinds p) o.0,
      s.unseen p (not_true (has_array p before) o.1),
      rets_limits kinds left (p ∷ seen) (before ++ Some p ∷ []) rs (omega (arith, sum, scalars-some p before))
          (seen_some p before seen s) fit.1,
    )

pub rets_fit : (kinds : List Kind) (left : ℕ) (seen : List ℕ) (before rs : List (Option ℕ)) → length kinds ≤ 8
    → left + scalars before ≡ 2 → Seen before seen → ResultsFit kinds left seen rs → AllFit (RetFits kinds) before rs
rets_fit kinds left seen before [] few sum s limits = tt
rets_fit kinds zero seen before (None ∷ rs) few sum s limits = absurd limits
rets_fit kinds (suc left) seen before (None ∷ rs) few sum s limits = (
  (lt-ltb _ _ (omega (arith, sum)), tt),
  rets_fit kinds left seen (before ++ None ∷ []) rs few
      (omega (arith, sum, scalars-none before)) (seen_none before seen s) limits,
)
rets_fit kinds left seen before (Some p ∷ rs) few sum s limits =
    let is = limits.0.1 in
    let array : is_some_array (slice_get kinds p) ≡ true = rw is limits.0.2 in
    let absent = s.absent p limits.1 in
    let new : not (has_array p before) ≡ true = rw absent refl in
    let below : p < length kinds = slice_get_within kinds p limits.0.0 limits.0.1 in (
      (both array new, omega (arith, below, few)),
      rets_fit kinds left (p ∷ seen) (before ++ Some p ∷ []) rs few
          (omega (arith, sum, scalars-some p before)) (seen_some p before seen s) limits.2,
    )

pub nothing_seen : Seen [] []
nothing_seen = record { unseen = λ p h. tt; absent = λ p h. refl }

-- How many results there are: at most two scalars, and of each array parameter one.

abbrev arrays : List (Option ℕ) → List ℕ
arrays [] = []
arrays (None ∷ rs) = arrays rs
arrays (Some p ∷ rs) = p ∷ arrays rs

length-arrays : (rs : List (Option ℕ)) → length rs ≡ scalars rs + length (arrays rs)
length-arrays [] = refl
length-arrays (None ∷ rs) = let rest : length rs ≡ scalars rs + length (arrays rs) = length-arrays rs in omega (arith, rest)
length-arrays (Some p ∷ rs) = let rest : length rs ≡ scalars rs + length (arrays rs) = length-arrays rs in omega (arith, rest)

scalars_few : (kinds : List Kind) (left : ℕ) (seen : List ℕ) (rs : List (Option ℕ)) → ResultsFit kinds left seen rs
    → scalars rs ≤ left
scalars_few kinds left seen [] limits = omega arith
scalars_few kinds zero seen (None ∷ rs) limits = absurd limits
scalars_few kinds (suc left) seen (None ∷ rs) limits = let rest : scalars rs ≤ left = scalars_few kinds left seen rs limits in
    omega (arith, rest)
scalars_few kinds left seen (Some p ∷ rs) limits = scalars_few kinds left (p ∷ seen) rs limits.2

true_or : (a b : Bool) → (a || b) ≡ true → a ≡ false → b ≡ true
true_or true b h e = absurd (cc)
true_or false b h e = h

or_second : (a b : Bool) → b ≡ true → (a || b) ≡ true
or_second true b h = refl
or_second false b h = h

is_other : (q : ℕ) (seen : List ℕ) (p : ℕ) → list_any (nat_eq q) seen ≡ true → AllByRecursion (λ x. x ≢ p) seen
    → nat_eq q p ≡ false
is_other q [] p in_seen all = absurd (cc)
is_other q (x ∷ seen) p in_seen all = by_test (nat_eq q x) refl (λ h. is_other q seen p h all.1)
  where
    by_test : (same : Bool) → nat_eq q x ≡ same → (list_any (nat_eq q) seen ≡ true → nat_eq q p ≡ false) → nat_eq q p ≡ false
    by_test true e rest = let same : q ≡ x = eqb-true q x e in differs q p (λ e2. all.0 (sym same ∙ sym e2))
    by_test false e rest = rest (true_or (nat_eq q x) (list_any (nat_eq q) seen) in_seen e)

apart : (kinds : List Kind) (left : ℕ) (seen : List ℕ) (rs : List (Option ℕ)) (q : ℕ) → ResultsFit kinds left seen rs
    → list_any (nat_eq q) seen ≡ true → AllByRecursion (λ y. nat_eq q y ≡ false) (arrays rs)
apart kinds left seen [] q limits in_seen = tt
apart kinds zero seen (None ∷ rs) q limits in_seen = absurd limits
apart kinds (suc left) seen (None ∷ rs) q limits in_seen = apart kinds left seen rs q limits in_seen
apart kinds left seen (Some p ∷ rs) q limits in_seen = (
  is_other q seen p in_seen limits.1,
  apart kinds left (p ∷ seen) rs q limits.2
      (or_second (nat_eq q p) (list_any (nat_eq q) seen) in_seen),
)

distinct : (kinds : List Kind) (left : ℕ) (seen : List ℕ) (rs : List (Option ℕ)) → ResultsFit kinds left seen rs
    → IsDistinct nat_eq (arrays rs)
unfolding IsDistinct
distinct kinds left seen [] limits = tt
distinct kinds zero seen (None ∷ rs) limits = absurd limits
distinct kinds (suc left) seen (None ∷ rs) limits = distinct kinds left seen rs limits
distinct kinds left seen (Some p ∷ rs) limits =
    let itself : nat_eq p p ≡ true = grind (arith, nat_tests) in
    let seen_now : list_any (nat_eq p) (p ∷ seen) ≡ true = rw itself refl in
    (apart kinds left (p ∷ seen) rs p limits.2 seen_now, distinct kinds left (p ∷ seen) rs limits.2)

below : (kinds : List Kind) (left : ℕ) (seen : List ℕ) (rs : List (Option ℕ)) (q : ℕ) → ResultsFit kinds left seen rs
    → list_any (nat_eq q) (arrays rs) ≡ true → q < length kinds
below kinds left seen [] q limits in_it = absurd (cc)
below kinds zero seen (None ∷ rs) q limits in_it = absurd limits
below kinds (suc left) seen (None ∷ rs) q limits in_it = below kinds left seen rs q limits in_it
below kinds left seen (Some p ∷ rs) q limits in_it = by_test (nat_eq q p) refl (λ h. below kinds left (p ∷ seen) rs q limits.2 h)
  where
    by_test : (same : Bool) → nat_eq q p ≡ same → (list_any (nat_eq q) (arrays rs) ≡ true → q < length kinds) → q < length kinds
    by_test true e rest = let same : q ≡ p = eqb-true q p e in rw same (slice_get_within kinds p limits.0.0 limits.0.1)
    by_test false e rest = rest (true_or (nat_eq q p) (list_any (nat_eq q) (arrays rs)) in_it e)

pub rets_few : (kinds : List Kind) (rs : List (Option ℕ)) → ResultsFit kinds 2 [] rs → length rs ≤ 2 + length kinds
rets_few kinds rs limits =
    let one = length-le_from_distinct_below (arrays rs) (length kinds) (distinct kinds 2 [] rs limits)
    (λ q h. below kinds 2 [] rs q limits h) in
    omega (arith, one, length-arrays rs, scalars_few kinds 2 [] rs limits)

-- Terms of the bound.

symbols_from : (count : ℕ) (a b : Option ℕ) → is_entry_symbol count a ≡ true → is_second count a b ≡ true → AreSymbols count a b
symbols_from count None None h k = tt
symbols_from count None (Some b) h k = absurd (cc)
symbols_from count (Some a) None h k = ltb-true _ _ h
symbols_from count (Some a) (Some b) h k = let p = and_parts (nat_le a b) (nat_lt b count) k in
    (leb-true _ _ p.0, ltb-true _ _ p.1)

record AreRight (count : ℕ) (a b : Option ℕ) : Type 0 where
  entry : is_entry_symbol count a ≡ true
  second : is_second count a b ≡ true
  eight : are_symbols a b ≡ true
  first_fits : SymbolFits a
  second_fits : SymbolFits b
  wide : AreSymbols 8 a b

symbols_to : (count : ℕ) (a b : Option ℕ) → count ≤ 8 → AreSymbols count a b → AreRight count a b
symbols_to count None None few are =
    record { entry = refl; second = refl; eight = refl; first_fits = tt; second_fits = tt; wide = tt }
symbols_to count None (Some b) few are = absurd are
symbols_to count (Some a) None few are =
    record {
      entry = lt-ltb _ _ are;
      second = refl;
      eight = lt-ltb _ _ (omega (arith, are, few));
      first_fits = omega (arith, are, few);
      second_fits = tt;
      wide = omega (arith, are, few);
    }
symbols_to count (Some a) (Some b) few are = record {
  entry = lt-ltb _ _ (omega (arith, are.0, are.1));
  second = both (le-leb _ _ are.0) (lt-ltb _ _ are.1);
  eight = both (le-leb _ _ are.0) (lt-ltb _ _ (omega (arith, are.1, few)));
  first_fits = omega (arith, are.0, are.1, few);
  second_fits = omega (arith, are.1, few);
  wide = (are.0, omega (arith, are.1, few));
}

pub bound_limits : (count : ℕ) (before ts : List Term) → AllFit (BoundFits count) before ts
    → BoundFrom (next_place 0 before) count ts
bound_limits count before [] fit = tt
bound_limits count before (t ∷ ts) fit =
    let g = and_parts (are_symbols t.first t.second) (nat_le (next_place 0 before) (place_of t.first t.second)) fit.0.behind in
    let s = and_parts (nat_le 1 t.coefficient) (nat_le t.coefficient greatest_coefficient) fit.0.small in
    let next = next_append 0 before t in (
      symbols_from count t.first t.second fit.0.entry fit.0.second,
      leb-true _ _ g.1,
      leb-true _ _ s.0,
      leb-true _ _ s.1,
      rw next
          at (bound_limits count (before ++ t ∷ []) ts fit.1),
    )

pub bound_fit : (count : ℕ) (before ts : List Term) → count ≤ 8 → BoundFrom (next_place 0 before) count ts
    → AllFit (BoundFits count) before ts
bound_fit count before [] few limits = tt
bound_fit count before (t ∷ ts) few limits =
    let s = symbols_to count t.first t.second few limits.0 in
    let next = next_append 0 before t in (
      record {
        entry = s.entry;
        second = s.second;
        behind = both s.eight (le-leb _ _ limits.1);
        small = both (le-leb _ _ limits.2) (le-leb _ _ limits.3);
        first_fits = s.first_fits;
        second_fits = s.second_fits;
      },
      bound_fit count (before ++ t ∷ []) ts few (rw next limits.4),
    )

widened : (least count : ℕ) (ts : List Term) → count ≤ 8 → BoundFrom least count ts → BoundFrom least 8 ts
widened least count [] few limits = tt
widened least count (t ∷ ts) few limits =
    let s = symbols_to count t.first t.second few limits.0 in
    (s.wide, limits.1, limits.2, limits.3, widened (place_of t.first t.second + 1) count ts few limits.4)

places_few : (least : ℕ) (ts : List Term) → least ≤ 45 → BoundFrom least 8 ts → next_place least ts ≤ 45
places_few least [] le limits = omega (arith, le)
places_few least (t ∷ ts) le limits = let p : place_of t.first t.second < 45 = place_below t.first t.second limits.0 in
    places_few (place_of t.first t.second + 1) ts (omega (arith, p)) limits.4

pub bound_few : (count : ℕ) (ts : List Term) → count ≤ 8 → BoundFrom 0 count ts → length ts ≤ 45
bound_few count ts few limits =
    let wide = widened 0 count ts few limits in
    omega (arith, length_below 0 ts wide, places_few 0 ts (omega arith) wide)
