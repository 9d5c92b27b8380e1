-- Limits of forms and the order of their symbols.
use Rattle.std.proofs.Common.{◌≡◌, ℕ, ◌+◌, ◌<◌, ◌≤◌, Bool, true, false, not, ◌&&◌, List, [], ◌∷◌, ◌++◌, ℤ, pos, ◌+ℤ◌, ◌*ℤ◌}
use Rattle.std.proofs.Common.{nat_lt, nat_le, refl, arith, nat_abs, ◌^◌, nat_eq, SFits}
use Rattle.std.specs.Ordering.{int_eq}
use Rattle.std.proofs.lemmas.Bool.{ltb-false, ltb-true, eqb-true, le-leb, leb-true}
use Rattle.std.proofs.lemmas.Bool.Decides.{nat_tests}
use Rattle.std.proofs.lemmas.Int.{ints, fits_signed_from_abs}
use Rattle.std.specs.Int.{w64}
use Rattle.side_certs.specs.LinearForm.{is_small, all_small, keep, keep_all, merge_into, merge, rises_from, coefficient}
use Rattle.side_certs.specs.LinearForm.{terms_times}

pub both : {a b : Bool} → a ≡ true → b ≡ true → (a && b) ≡ true
both {a = true} {b = b} p q = q
both {a = false} {b = b} p q = absurd (cc)

pub and_parts : (a b : Bool) → (a && b) ≡ true → (a ≡ true) × (b ≡ true)
and_parts true b h = (refl, h)
and_parts false b h = absurd (cc)

pub all_small-append : (ts : List (ℕ × ℤ)) (u : ℕ × ℤ) → all_small ts ≡ true → is_small u.1 ≡ true
    → all_small (ts ++ u ∷ []) ≡ true
all_small-append [] u all small = both small refl
all_small-append (t ∷ ts) u all small =
    let p = and_parts (is_small t.1) (all_small ts) all in
    both p.0 (all_small-append ts u p.1 small)

pub small_fits : (k : ℤ) → is_small k ≡ true → SFits w64 k
small_fits k small = let below : nat_abs k ≤ 2 ^ 40 = leb-true _ _ small in fits_signed_from_abs w64 k (omega arith)

-- Symbols that rise.

pub rises_parts : (least : ℕ) (t : ℕ × ℤ) (ts : List (ℕ × ℤ)) → rises_from least (t ∷ ts) ≡ true
    → (least ≤ t.0) × (int_eq t.1 (pos 0) ≡ false) × (rises_from (t.0 + 1) ts ≡ true)
rises_parts least t ts rise =
    let p = and_parts (nat_le least t.0 && not (int_eq t.1 (pos 0))) (rises_from (t.0 + 1) ts) rise in
    let q = and_parts (nat_le least t.0) (not (int_eq t.1 (pos 0))) p.0 in
    (leb-true _ _ q.0, not_true (int_eq t.1 (pos 0)) q.1, p.1)
  where
    not_true : (b : Bool) → not b ≡ true → b ≡ false
    not_true true e = absurd (cc)
    not_true false e = refl

pub rises_made : (least : ℕ) (t : ℕ × ℤ) (ts : List (ℕ × ℤ)) → least ≤ t.0 → int_eq t.1 (pos 0) ≡ false
    → rises_from (t.0 + 1) ts ≡ true → rises_from least (t ∷ ts) ≡ true
rises_made least t ts le not_zero rest = both (both (le-leb _ _ le) (rw not_zero refl)) rest

pub rises_lower : (least less : ℕ) (ts : List (ℕ × ℤ)) → less ≤ least → rises_from least ts ≡ true → rises_from less ts ≡ true
rises_lower least less [] le rise = refl
rises_lower least less (t ∷ ts) le rise = let p = rises_parts least t ts rise in rises_made less t ts (omega arith) p.1 p.2

rises_keep : (least s : ℕ) (k : ℤ) (ts : List (ℕ × ℤ)) → least ≤ s → rises_from (s + 1) ts ≡ true
    → rises_from least (keep s k ts) ≡ true
rises_keep least s k ts le rest = by_test (int_eq k (pos 0)) refl
  where
    by_test : (zero : Bool) → int_eq k (pos 0) ≡ zero → rises_from least (keep s k ts) ≡ true
    by_test true e = rw e (rises_lower (s + 1) least ts (omega arith) rest)
    by_test false e = rw e (rises_made least (s, k) ts le e rest)

rises_keep_all : (least : ℕ) (ts : List (ℕ × ℤ)) → rises_from least ts ≡ true → rises_from least (keep_all ts) ≡ true
rises_keep_all least [] rise = refl
rises_keep_all least (t ∷ ts) rise = let p = rises_parts least t ts rise in
    rises_keep least t.0 t.1 (keep_all ts) p.0 (rises_keep_all (t.0 + 1) ts p.2)

Rises_with : List (ℕ × ℤ) → (List (ℕ × ℤ) → List (ℕ × ℤ)) → Type 0
Rises_with ts rest = (least : ℕ) (us : List (ℕ × ℤ)) → rises_from least ts ≡ true → rises_from least us ≡ true
    → rises_from least (rest us) ≡ true

rises_into : (t : ℕ × ℤ) (ts : List (ℕ × ℤ)) (rest : List (ℕ × ℤ) → List (ℕ × ℤ)) (least : ℕ) (us : List (ℕ × ℤ))
    → Rises_with ts rest
    → rises_from least (t ∷ ts) ≡ true → rises_from least us ≡ true → rises_from least (merge_into t rest us) ≡ true
unfolding Rises_with
rises_into t ts rest least [] all rise others = let p = rises_parts least t ts rise in
    rises_keep least t.0 t.1 (rest []) p.0 (all (t.0 + 1) [] p.2 refl)
rises_into t ts rest least (u ∷ us) all rise others =
    by_tests (λ a b. rises_into t ts rest (u.0 + 1) us all a b) (nat_lt t.0 u.0) (nat_eq t.0 u.0) refl refl
  where
    by_tests : (rises_from (u.0 + 1) (t ∷ ts) ≡ true → rises_from (u.0 + 1) us ≡ true
        → rises_from (u.0 + 1) (merge_into t rest us) ≡ true)
        → (less equal : Bool) → nat_lt t.0 u.0 ≡ less → nat_eq t.0 u.0 ≡ equal → rises_from least (merge_into t rest (u ∷ us))
        ≡ true
    by_tests next true equal l e =
        let p = rises_parts least t ts rise in
        let q = rises_parts least u us others in
        rw l (rises_keep least t.0 t.1 (rest (u ∷ us)) p.0
        (all (t.0 + 1) (u ∷ us) p.2 (rises_made (t.0 + 1) u us (let lt : t.0 < u.0 = ltb-true _ _ l in omega arith) q.1 q.2)))
    by_tests next false true l e =
        let p = rises_parts least t ts rise in
        let q = rises_parts least u us others in
        let same : t.0 ≡ u.0 = eqb-true _ _ e in
        rw (l, e) (rises_keep least t.0 (t.1 +ℤ u.1) (rest us) p.0 (all (t.0 + 1) us p.2 (rw same q.2)))
    by_tests next false false l e =
        let p = rises_parts least t ts rise in
        let q = rises_parts least u us others in
        let le : u.0 ≤ t.0 = ltb-false _ _ l in
        let not_same : nat_eq u.0 t.0 ≡ false = grind (arith, nat_tests) in
        let above : u.0 + 1 ≤ t.0 = grind (arith, nat_tests) in
        rw (l, e) (rises_keep least u.0 u.1 (merge_into t rest us) q.0 (next (rises_made (u.0 + 1) t ts above p.1 p.2) q.2))

pub merge_rises : (ts us : List (ℕ × ℤ)) (least : ℕ) → rises_from least ts ≡ true → rises_from least us ≡ true
    → rises_from least (merge ts us) ≡ true
unfolding Rises_with
merge_rises [] us least rise others = rises_keep_all least us others
merge_rises (t ∷ ts) us least rise others = rises_into t ts (merge ts) least us (λ l vs r o. merge_rises ts vs l r o) rise others

pub times_rise : (k : ℤ) (least : ℕ) (ts : List (ℕ × ℤ)) → rises_from least ts ≡ true → rises_from least (terms_times k ts) ≡ true
times_rise k least [] rise = refl
times_rise k least (t ∷ ts) rise = let p = rises_parts least t ts rise in
    rises_keep least t.0 (k *ℤ t.1) (terms_times k ts) p.0 (times_rise k (t.0 + 1) ts p.2)

-- a symbol before those of terms has no coefficient there
pub coefficient_before : (s least : ℕ) (ts : List (ℕ × ℤ)) → s < least → rises_from least ts ≡ true → coefficient s ts ≡ pos 0
coefficient_before s least [] before rise = refl
coefficient_before s least (t ∷ ts) before rise =
    let p = rises_parts least t ts rise in
    let other : nat_eq t.0 s ≡ false = grind (arith, nat_tests, p.0) in
    let rest : coefficient s ts ≡ pos 0 = coefficient_before s (t.0 + 1) ts (omega (arith, p.0)) p.2 in
    rw (other, rest) refl

-- a coefficient of small terms whose symbols rise is small
pub small_coefficient : (s least : ℕ) (ts : List (ℕ × ℤ)) → rises_from least ts ≡ true → all_small ts ≡ true
    → is_small (coefficient s ts) ≡ true
small_coefficient s least [] rise all = refl
small_coefficient s least (t ∷ ts) rise all = by_test (nat_eq t.0 s) refl (small_coefficient s (t.0 + 1) ts p.2 q.1) where
  p : (least ≤ t.0) × (int_eq t.1 (pos 0) ≡ false) × (rises_from (t.0 + 1) ts ≡ true)
  p = rises_parts least t ts rise

  q : (is_small t.1 ≡ true) × (all_small ts ≡ true)
  q = and_parts (is_small t.1) (all_small ts) all

  by_test : (same : Bool) → nat_eq t.0 s ≡ same → is_small (coefficient s ts) ≡ true → is_small (coefficient s (t ∷ ts)) ≡ true
  by_test true e rest =
      let before : s < t.0 + 1 = grind (arith, nat_tests) in
      let after : coefficient s ts ≡ pos 0 = coefficient_before s (t.0 + 1) ts before p.2 in
      let alone : t.1 +ℤ pos 0 ≡ t.1 = omega (arith, ints) in
      rw (e, after, alone) q.0
  by_test false e rest = let other : pos 0 +ℤ coefficient s ts ≡ coefficient s ts = omega (arith, ints) in rw (e, other) rest
