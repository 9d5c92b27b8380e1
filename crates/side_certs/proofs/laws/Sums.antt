-- A form from its symbols in order: what is left of it from a symbol on.
use Rattle.std.proofs.Common.{◌≡◌, ℕ, ◌+◌, ◌<◌, ◌≤◌, Bool, true, false, List, [], ◌∷◌, ◌++◌, ℤ, pos, nat_eq, nat_lt}
use Rattle.std.proofs.Common.{if◌then◌else◌, refl, sym, ap, ◌∙◌, subst, arith}
use Rattle.std.specs.Ordering.{int_eq}
use Rattle.std.proofs.lemmas.Bool.{ltb-true, ltb-false}
use Rattle.std.proofs.lemmas.Bool.Decides.{nat_tests}
use Rattle.std.proofs.lemmas.Int.{ints}
use Rattle.std.proofs.lemmas.List.{append-nil}
use Rattle.side_certs.specs.LinearForm.{rises_from, keep, coefficient}
use Rattle.side_certs.proofs.laws.Limits.{rises_parts, coefficient_before}

-- the terms whose symbols are n or greater
abbrev pub onward : ℕ → List (ℕ × ℤ) → List (ℕ × ℤ)
onward n [] = []
onward n (t ∷ ts) = if nat_lt t.0 n then onward n ts else t ∷ onward n ts

onward_all : (n least : ℕ) (ts : List (ℕ × ℤ)) → n ≤ least → rises_from least ts ≡ true → onward n ts ≡ ts
onward_all n least [] le rise = refl
onward_all n least (t ∷ ts) le rise =
    let p = rises_parts least t ts rise in
    let at : nat_lt t.0 n ≡ false = grind (arith, nat_tests, p.0, le) in
    let rest : onward n ts ≡ ts = onward_all n (t.0 + 1) ts (omega (arith, le, p.0)) p.2 in
    rw at (ap (λ us. t ∷ us) rest)

pub onward_zero : (ts : List (ℕ × ℤ)) → rises_from 0 ts ≡ true → onward 0 ts ≡ ts
onward_zero ts rise = onward_all 0 0 ts (omega arith) rise

-- the coefficient of the first symbol
coefficient_first : (least : ℕ) (t : ℕ × ℤ) (ts : List (ℕ × ℤ)) → rises_from least (t ∷ ts) ≡ true
    → coefficient t.0 (t ∷ ts) ≡ t.1
coefficient_first least t ts rise =
    let self : nat_eq t.0 t.0 ≡ true = grind (arith, nat_tests) in
    let after : coefficient t.0 ts ≡ pos 0 = coefficient_before t.0 (t.0 + 1) ts (omega arith) (rises_parts least t ts rise).2 in
    rw (self, after) (omega (arith, ints))

-- of another symbol
coefficient_other : (s : ℕ) (t : ℕ × ℤ) (ts : List (ℕ × ℤ)) → nat_eq t.0 s ≡ false → coefficient s (t ∷ ts) ≡ coefficient s ts
coefficient_other s t ts e = rw e (omega (arith, ints))

not_nothing : {A : Type 0} (z : ℤ) → int_eq z (pos 0) ≡ false → z ≡ pos 0 → A
not_nothing z e is = absurd (let bad : int_eq z (pos 0) ≡ true = rw is refl in cc)

-- where no symbol from n on has a coefficient, nothing is left from n on
pub onward_end : (n least : ℕ) (ts : List (ℕ × ℤ)) → rises_from least ts ≡ true → ((r : ℕ) → n ≤ r → coefficient r ts ≡ pos 0)
    → onward n ts ≡ []
onward_end n least [] rise none = refl
onward_end n least (t ∷ ts) rise none = by_place (nat_lt t.0 n) refl (λ rest. onward_end n (t.0 + 1) ts p.2 rest) where
  p : (least ≤ t.0) × (int_eq t.1 (pos 0) ≡ false) × (rises_from (t.0 + 1) ts ≡ true)
  p = rises_parts least t ts rise

  by_place : (before : Bool) → nat_lt t.0 n ≡ before → (((r : ℕ) → n ≤ r → coefficient r ts ≡ pos 0) → onward n ts ≡ [])
      → onward n (t ∷ ts) ≡ []
  by_place true e next =
      rw e (next (λ r from. (let other : nat_eq t.0 r ≡ false = grind (arith, nat_tests, from) in
      let whole = coefficient_other r t ts other in let nothing = none r from in omega (arith, ints, whole, nothing))))
  by_place false e next =
      let from : n ≤ t.0 = ltb-false _ _ e in
      let first = coefficient_first least t ts rise in
      let nothing = none t.0 from in
      not_nothing t.1 p.1 (omega (arith, ints, first, nothing))

-- s is the next symbol from n on: its coefficient comes before what is left behind it
pub onward_next : (n s least : ℕ) (ts : List (ℕ × ℤ)) → rises_from least ts ≡ true → n ≤ s
    → ((r : ℕ) → n ≤ r → r < s → coefficient r ts ≡ pos 0)
    → onward n ts ≡ keep s (coefficient s ts) (onward (s + 1) ts)
onward_next n s least [] rise le none = refl
onward_next n s least (t ∷ ts) rise le none =
    by_place (nat_lt t.0 n) refl (nat_lt t.0 s) refl (nat_eq t.0 s) refl (λ rest. onward_next n s (t.0 + 1) ts p.2 le rest) where
      p : (least ≤ t.0) × (int_eq t.1 (pos 0) ≡ false) × (rises_from (t.0 + 1) ts ≡ true)
      p = rises_parts least t ts rise

      by_place : (before : Bool) → nat_lt t.0 n ≡ before → (less : Bool) → nat_lt t.0 s ≡ less → (same : Bool)
          → nat_eq t.0 s ≡ same
          → (((r : ℕ) → n ≤ r → r < s → coefficient r ts ≡ pos 0) → onward n ts ≡ keep s (coefficient s ts) (onward (s + 1) ts))
          → onward n (t ∷ ts) ≡ keep s (coefficient s (t ∷ ts)) (onward (s + 1) (t ∷ ts))
      by_place true b less l same e next =
          let lt : t.0 < n = ltb-true _ _ b in
          let other : nat_eq t.0 s ≡ false = grind (arith, nat_tests, lt, le) in
          let skipped : nat_lt t.0 (s + 1) ≡ true = grind (arith, nat_tests, lt, le) in
          let rest = next (λ r from before.
          (let not_here : nat_eq t.0 r ≡ false = grind (arith, nat_tests, lt, from) in
          let whole = coefficient_other r t ts not_here in let nothing = none r from before in
          omega (arith, ints, whole, nothing))) in
          rw (coefficient_other s t ts other, b, skipped) rest
      by_place false b true l same e next =
          let from : n ≤ t.0 = ltb-false _ _ b in
          let lt : t.0 < s = ltb-true _ _ l in
          let first = coefficient_first least t ts rise in
          let nothing = none t.0 from lt in
          not_nothing t.1 p.1 (omega (arith, ints, first, nothing))
      by_place false b false l true e next =
          let at : t.0 ≡ s = grind (arith, nat_tests) in
          let skipped : nat_lt t.0 (t.0 + 1) ≡ true = grind (arith, nat_tests) in
          let here : onward n ts ≡ ts = onward_all n (t.0 + 1) ts (let from : n ≤ t.0 = ltb-false _ _ b in omega (arith, from))
          p.2 in
          let behind : onward (t.0 + 1) ts ≡ ts = onward_all (t.0 + 1) (t.0 + 1) ts (omega arith) p.2 in
          let first : coefficient t.0 (t ∷ ts) ≡ t.1 = coefficient_first least t ts rise in
          subst (λ (r : ℕ). onward n (t ∷ ts) ≡ keep r (coefficient r (t ∷ ts)) (onward (r + 1) (t ∷ ts))) at
          (rw (b, first, skipped, here, behind, p.1) refl)
      by_place false b false l false e next =
          let far : s < t.0 = grind (arith, nat_tests) in
          let kept : nat_lt t.0 (s + 1) ≡ false = grind (arith, nat_tests, far) in
          let before : coefficient s ts ≡ pos 0 = coefficient_before s (t.0 + 1) ts (omega (arith, far)) p.2 in
          let none_here : coefficient s (t ∷ ts)
          ≡ pos 0 = (let whole = coefficient_other s t ts e in omega (arith, ints, whole, before)) in
          let here : onward n ts ≡ ts = onward_all n (t.0 + 1) ts (let from : n ≤ t.0 = ltb-false _ _ b in omega (arith, from))
          p.2 in
          let behind : onward (s + 1) ts ≡ ts = onward_all (s + 1) (t.0 + 1) ts (omega (arith, far)) p.2 in
          rw (none_here, b, kept, here, behind) refl

-- what is put out, the next symbol, and what is left behind it, are the whole
pub next_whole : (out whole : List (ℕ × ℤ)) (n s : ℕ) → rises_from 0 whole ≡ true → n ≤ s
    → ((r : ℕ) → n ≤ r → r < s → coefficient r whole ≡ pos 0)
    → out ++ onward n whole ≡ whole → out ++ keep s (coefficient s whole) (onward (s + 1) whole) ≡ whole
next_whole out whole n s rise le none so_far = ap (λ (ts : List (ℕ × ℤ)). out ++ ts) (sym (onward_next n s 0 whole rise le none))
    ∙ so_far

-- where nothing is left, what is put out is the whole
pub end_whole : (out whole : List (ℕ × ℤ)) (n : ℕ) → rises_from 0 whole ≡ true → ((r : ℕ) → n ≤ r → coefficient r whole ≡ pos 0)
    → out ++ onward n whole ≡ whole → out ≡ whole
end_whole out whole n rise none so_far =
    sym (append-nil out) ∙ ap (λ (ts : List (ℕ × ℤ)). out ++ ts) (sym (onward_end n 0 whole rise none)) ∙ so_far
