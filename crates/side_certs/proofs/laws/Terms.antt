-- Terms that are put behind one another, and the limits of what they make.
use Rattle.std.proofs.Common.{◌≡◌, ℕ, ◌+◌, ◌-◌, ◌<◌, ◌≤◌, Bool, true, false, ◌&&◌, List, [], ◌∷◌, ◌++◌, length, take, drop, set}
use Rattle.std.proofs.Common.{slice_index_or, Option, Some, None, ℤ, pos, negsuc, ◌+ℤ◌, ◌*ℤ◌, nat_lt, nat_le, refl, sym, ap, ◌∙◌}
use Rattle.std.proofs.Common.{append_assoc, arith, length-append, length-take, nat_abs, ◌^◌, nat_eq}
use Rattle.std.specs.Ordering.{int_eq}
use Rattle.std.proofs.lemmas.Bool.{ltb-false, le-leb, leb-true}
use Rattle.std.proofs.lemmas.Bool.Decides.{nat_tests}
use Rattle.std.proofs.lemmas.List.{take_more_set}
use Rattle.std.proofs.Math.Seq.{take-length}
use Rattle.std.proofs.lemmas.Int.{ints, unsigned_abs-mul}
pub use Rattle.side_certs.proofs.laws.Limits.{
  both,
  and_parts,
  all_small-append,
  small_fits,
  rises_parts,
  rises_made,
  merge_rises,
  times_rise,
  coefficient_before,
}
use Rattle.side_certs.specs.LinearForm.{LinearForm, is_small, all_small, is_within, within, keep, merge, rises_from, has_room}
use Rattle.side_certs.specs.LinearForm.{put_behind, coefficient, terms_times, times}

and_false : (a b : Bool) → b ≡ false → (a && b) ≡ false
and_false true b h = h
and_false false b h = refl

all_small-not : (ts : List (ℕ × ℤ)) (u : ℕ × ℤ) (us : List (ℕ × ℤ)) → is_small u.1 ≡ false → all_small (ts ++ u ∷ us) ≡ false
all_small-not [] u us large = rw large refl
all_small-not (t ∷ ts) u us large = and_false (is_small t.1) (all_small (ts ++ u ∷ us)) (all_small-not ts u us large)

-- a form with one more small term passes no limit
pub within_more : (constant : ℤ) (slots : List (ℕ × ℤ)) (count : ℕ) (u : ℕ × ℤ) → length slots ≡ 16 → count < 16
    → is_within (record { constant = constant; terms = take count slots }) ≡ true → is_small u.1 ≡ true
    → is_within (record { constant = constant; terms = take (count + 1) (set slots count u) }) ≡ true
within_more constant slots count u size below old small =
    let p = and_parts (is_small constant && nat_le (length (take count slots)) 16) (all_small (take count slots)) old in
    let q = and_parts (is_small constant) (nat_le (length (take count slots)) 16) p.0 in
    let more : take (count + 1) (set slots count u) ≡ take count slots ++ u ∷ [] = take_more_set slots count u (omega arith) in
    let size_is : length (take count slots ++ u ∷ []) ≡ length (take count slots) + 1 = length-append (take count slots) (u ∷ [])
    in
    let taken : length (take count slots) ≤ count = omega (arith, length-take count slots) in
    let short : nat_le (length (take count slots ++ u ∷ [])) 16 ≡ true = le-leb _ _ (omega arith) in
    rw more (both (both q.0 short) (all_small-append (take count slots) u p.1 small))

keep-append : (s : ℕ) (k : ℤ) (us : List (ℕ × ℤ)) → keep s k [] ++ us ≡ keep s k us
keep-append s k us = by_test (int_eq k (pos 0)) refl
  where
    by_test : (zero : Bool) → int_eq k (pos 0) ≡ zero → keep s k [] ++ us ≡ keep s k us
    by_test true e = rw e refl
    by_test false e = rw e refl

-- a term that is put behind completes the whole as before
pub put_keeps : (new out : LinearForm) (s : ℕ) (k number : ℤ) (us whole : List (ℕ × ℤ)) (constant : ℤ)
    → new ≡ put_behind out s number → number ≡ k
    → out.constant ≡ constant → out.terms ++ keep s k us ≡ whole → (new.constant ≡ constant) × (new.terms ++ us ≡ whole)
put_keeps new out s k number us whole constant put same constant_is so_far =
    let terms : new.terms ≡ out.terms ++ keep s k [] = rw (put, same) refl in
    (rw put constant_is, rw terms (append_assoc out.terms (keep s k []) us ∙ rw keep-append so_far))

not_within : (f : LinearForm) → is_within f ≡ false → within f ≡ None
not_within f e = rw e refl

-- a term without room passes a limit of the whole, whatever follows it
pub no_room : (f out : LinearForm) (s : ℕ) (k number : ℤ) (us : List (ℕ × ℤ)) → false ≡ has_room out number → number ≡ k
    → out.terms ++ keep s k us ≡ f.terms → within f ≡ None
no_room f out s k number us full same whole = by_tests (int_eq k (pos 0)) (nat_lt (length out.terms) 16) refl refl
  where
    full_k : false ≡ has_room out k
    full_k = rw (← same) full

    terms_are : int_eq k (pos 0) ≡ false → f.terms ≡ out.terms ++ (s, k) ∷ us
    terms_are not_zero = sym whole ∙ rw not_zero refl

    too_many : int_eq k (pos 0) ≡ false → nat_lt (length out.terms) 16 ≡ false → is_within f ≡ false
    too_many not_zero long =
        let size : 16 ≤ length out.terms = ltb-false _ _ long in
        let more : nat_le (length (out.terms ++ (s, k) ∷ us)) 16
        ≡ false = grind (arith, nat_tests, length-append out.terms ((s, k) ∷ us)) in
        rw (terms_are not_zero, more) (grind arith)

    too_large : int_eq k (pos 0) ≡ false → is_small k ≡ false → is_within f ≡ false
    too_large not_zero large =
        rw (terms_are not_zero) (and_false _ (all_small (out.terms ++ (s, k) ∷ us)) (all_small-not out.terms (s, k) us large))

    by_tests : (zero short : Bool) → int_eq k (pos 0) ≡ zero → nat_lt (length out.terms) 16 ≡ short → within f ≡ None
    by_tests true short e d = absurd (let h : false ≡ true = full_k ∙ rw e refl in cc)
    by_tests false false e d = not_within f (too_many e d)
    by_tests false true e d = not_within f (too_large e (sym (full_k ∙ rw (e, d) refl)))

-- a form of 16 terms has no room
pub full : (f : LinearForm) (k : ℤ) → length f.terms ≡ 16 → int_eq k (pos 0) ≡ false → false ≡ has_room f k
full f k size not_zero = rw (not_zero, size) refl

two_equal : (t u : ℕ × ℤ) (ts us : List (ℕ × ℤ)) (k : ℤ) → t.0 ≡ u.0 → k ≡ t.1 +ℤ u.1
    → merge (t ∷ ts) (u ∷ us) ≡ keep t.0 k (merge ts us)
two_equal t u ts us k same sum =
    let less : nat_lt t.0 u.0 ≡ false = grind (arith, nat_tests) in
    let equal : nat_eq t.0 u.0 ≡ true = grind (arith, nat_tests) in
    rw (less, equal, sum) refl

rest_is : (t : ℕ × ℤ) (ts : List (ℕ × ℤ)) → take (length (t ∷ ts) - 1) (drop 1 (t ∷ ts)) ≡ ts
rest_is t ts = let size : length (t ∷ ts) - 1 ≡ length ts = omega arith in rw size (take-length ts)

-- of two lists that begin with the same symbol, the merge begins with the sum
pub equal_symbols : (ts us : List (ℕ × ℤ)) (k : ℤ) → 1 ≤ length ts → 1 ≤ length us
    → (slice_index_or ts 0 (0, pos 0)).0 ≡ (slice_index_or us 0 (0, pos 0)).0
    → k ≡ (slice_index_or ts 0 (0, pos 0)).1 +ℤ (slice_index_or us 0 (0, pos 0)).1
    → (merge ts us ≡ keep (slice_index_or ts 0 (0, pos 0)).0 k
    (merge (take (length ts - 1) (drop 1 ts)) (take (length us - 1) (drop 1 us))))
    × (length (take (length ts - 1) (drop 1 ts)) + length (take (length us - 1) (drop 1 us)) < length ts + length us)
equal_symbols [] us k a b same sum = absurd (omega arith)
equal_symbols (t ∷ ts) [] k a b same sum = absurd (omega arith)
equal_symbols (t ∷ ts) (u ∷ us) k a b same sum =
    (rw (rest_is t ts, rest_is u us) (two_equal t u ts us k same sum), rw (rest_is t ts, rest_is u us) (omega arith))

-- what is put behind is the whole
pub whole_is : (out : LinearForm) (number k : ℤ) (f : LinearForm) → out.constant ≡ number *ℤ f.constant
    → out.terms ≡ terms_times number f.terms → number ≡ k → out ≡ times k f
whole_is out number k f a b same =
    let one : out ≡ times number f = rw (← a, ← b) refl in
    one ∙ ap (λ (n : ℤ). times n f) same

-- The other sign keeps the limits.

abbrev minus_one : ℤ
minus_one = negsuc 0

small_negated : (k : ℤ) → is_small k ≡ true → is_small (minus_one *ℤ k) ≡ true
small_negated k small = let size = unsigned_abs-mul minus_one k in
    le-leb _ _ (let below : nat_abs k ≤ 2 ^ 40 = leb-true _ _ small in omega arith)

all_small-keep : (s : ℕ) (k : ℤ) (ts : List (ℕ × ℤ)) → is_small k ≡ true → all_small ts ≡ true → all_small (keep s k ts) ≡ true
all_small-keep s k ts small all = by_test (int_eq k (pos 0)) refl
  where
    by_test : (zero : Bool) → int_eq k (pos 0) ≡ zero → all_small (keep s k ts) ≡ true
    by_test true e = rw e all
    by_test false e = rw e (both small all)

length-keep : (s : ℕ) (k : ℤ) (ts : List (ℕ × ℤ)) → length (keep s k ts) ≤ length ts + 1
length-keep s k ts = by_test (int_eq k (pos 0)) refl
  where
    by_test : (zero : Bool) → int_eq k (pos 0) ≡ zero → length (keep s k ts) ≤ length ts + 1
    by_test true e = rw e (omega arith)
    by_test false e = rw e (omega arith)

all_small-negated : (ts : List (ℕ × ℤ)) → all_small ts ≡ true → all_small (terms_times minus_one ts) ≡ true
all_small-negated [] all = refl
all_small-negated (t ∷ ts) all =
    let p = and_parts (is_small t.1) (all_small ts) all in
    all_small-keep t.0 (minus_one *ℤ t.1) (terms_times minus_one ts) (small_negated t.1 p.0) (all_small-negated ts p.1)

length-terms_times : (k : ℤ) (ts : List (ℕ × ℤ)) → length (terms_times k ts) ≤ length ts
length-terms_times k [] = omega arith
length-terms_times k (t ∷ ts) =
    let rest : length (terms_times k ts) ≤ length ts = length-terms_times k ts in
    let more : length (keep t.0 (k *ℤ t.1) (terms_times k ts)) ≤ length (terms_times k ts) + 1 =
    length-keep t.0 (k *ℤ t.1) (terms_times k ts) in
    omega arith

pub negated_within : (f : LinearForm) → is_within f ≡ true → within (times minus_one f) ≡ Some (times minus_one f)
negated_within f old =
    let p = and_parts (is_small f.constant && nat_le (length f.terms) 16) (all_small f.terms) old in
    let q = and_parts (is_small f.constant) (nat_le (length f.terms) 16) p.0 in
    let size : length f.terms ≤ 16 = leb-true _ _ q.1 in
    let fewer : length (terms_times minus_one f.terms) ≤ length f.terms = length-terms_times minus_one f.terms in
    let short : nat_le (length (terms_times minus_one f.terms)) 16 ≡ true = le-leb _ _ (omega arith) in
    let new : is_within (times minus_one f)
    ≡ true = both (both (small_negated f.constant q.0) short) (all_small-negated f.terms p.1) in
    rw new refl

pub some_is : (f g : LinearForm) (o : Option LinearForm) → Some f ≡ o → o ≡ Some g → f ≡ g
some_is f g o p q = cc

pub not_none : {A : Type 0} (f : LinearForm) (o : Option LinearForm) → None ≡ o → o ≡ Some f → A
not_none f o p q = let e : ◌≡◌ {A = Option LinearForm} None (Some f) = p ∙ q in absurd (cc)

-- Symbols that rise.

rises_front : (least : ℕ) (ts us : List (ℕ × ℤ)) → rises_from least (ts ++ us) ≡ true → rises_from least ts ≡ true
rises_front least [] us rise = refl
rises_front least (t ∷ ts) us rise = let p = rises_parts least t (ts ++ us) rise in
    rises_made least t ts p.0 p.1 (rises_front (t.0 + 1) ts us p.2)

-- a term that is next in a whole whose symbols rise may be put behind what is put out
pub next_rises : (out : List (ℕ × ℤ)) (s : ℕ) (k number : ℤ) (us whole : List (ℕ × ℤ)) → rises_from 0 whole ≡ true → number ≡ k
    → out ++ keep s k us ≡ whole
    → rises_from 0 (out ++ keep s number []) ≡ true
next_rises out s k number us whole rise same so_far =
    let grouped : (out ++ keep s k []) ++ us ≡ whole = append_assoc out (keep s k []) us ∙ rw keep-append so_far in
    rw same (rises_front 0 (out ++ keep s k []) us (rw grouped rise))

-- a form whose terms rise with one more behind them
pub rises_more : (slots : List (ℕ × ℤ)) (count : ℕ) (u : ℕ × ℤ) → count < length slots → int_eq u.1 (pos 0) ≡ false
    → rises_from 0 (take count slots ++ keep u.0 u.1 []) ≡ true
    → rises_from 0 (take (count + 1) (set slots count u)) ≡ true
rises_more slots count u below not_zero rise =
    let more : take (count + 1) (set slots count u) ≡ take count slots ++ u ∷ [] = take_more_set slots count u (omega arith) in
    let kept : keep u.0 u.1 [] ≡ u ∷ [] = rw not_zero refl in
    rw (more, ← kept) rise

-- of terms whose symbols rise, the first one of a symbol has its coefficient
pub coefficient_found : (s : ℕ) (ts : List (ℕ × ℤ)) → 1 ≤ length ts → rises_from 0 ts ≡ true
    → (slice_index_or ts 0 (0, pos 0)).0 ≡ s → (slice_index_or ts 0 (0, pos 0)).1 ≡ coefficient s ts
coefficient_found s [] some rise is = absurd (omega arith)
coefficient_found s (t ∷ ts) some rise is =
    let p = rises_parts 0 t ts rise in
    let same : nat_eq t.0 s ≡ true = grind (arith, nat_tests) in
    let rest : coefficient s ts ≡ pos 0 = coefficient_before s (t.0 + 1) ts (omega arith) p.2 in
    let sum : t.1 +ℤ pos 0 ≡ t.1 = omega (arith, ints) in
    rw (same, rest) (sym sum)
