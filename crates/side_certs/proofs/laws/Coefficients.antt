-- Coefficients of sums and multiples of forms, and forms that keep the limits since their coefficients do.
use Rattle.std.proofs.Common.{◌≡◌, refl, sym, ◌∙◌, ap, arith, ℕ, ◌+◌, ◌<◌, ◌≤◌, Bool, true, false, List, [], ◌∷◌, length, ℤ, pos}
use Rattle.std.proofs.Common.{negsuc, neg_ℤ, ◌+ℤ◌, ◌*ℤ◌, nat_eq, nat_lt, if◌then◌else◌}
use Rattle.std.specs.Ordering.{int_eq}
use Rattle.std.proofs.lemmas.Bool.{le-leb, eqb-true}
use Rattle.std.proofs.lemmas.Bool.Decides.{nat_tests, Decides-int_eq}
use Rattle.std.proofs.lemmas.Int.{ints}
use Rattle.side_certs.specs.LinearForm.{LinearForm, is_small, all_small, is_within, keep, keep_all, merge_into, merge, rises_from}
use Rattle.side_certs.specs.LinearForm.{terms_times, plus, times, minus, share, coefficient}
use Rattle.side_certs.proofs.laws.Limits.{both, rises_parts, coefficient_before}
use Rattle.side_certs.proofs.laws.Products.{times_sum, times_nothing}

is_zero : (z : ℤ) → int_eq z (pos 0) ≡ true → z ≡ pos 0
is_zero z e = grind (arith, Decides-int_eq)

-- Sums.

coefficient_keep : (s r : ℕ) (k : ℤ) (ts : List (ℕ × ℤ)) → coefficient s (keep r k ts) ≡ share s (r, k) +ℤ coefficient s ts
coefficient_keep s r k ts = by (int_eq k (pos 0)) refl where
  nothing : k ≡ pos 0 → (b : Bool) → coefficient s ts ≡ (if b then k else pos 0) +ℤ coefficient s ts
  nothing none true = omega (arith, ints, none)
  nothing none false = omega (arith, ints)

  by : (zero : Bool) → int_eq k (pos 0) ≡ zero → coefficient s (keep r k ts) ≡ share s (r, k) +ℤ coefficient s ts
  by true e = rw e (nothing (is_zero k e) (nat_eq r s))
  by false e = rw e refl

coefficient_keep_all : (s : ℕ) (ts : List (ℕ × ℤ)) → coefficient s (keep_all ts) ≡ coefficient s ts
coefficient_keep_all s [] = refl
coefficient_keep_all s (t ∷ ts) = coefficient_keep s t.0 t.1 (keep_all ts) ∙ ap (λ z. share s t +ℤ z) (coefficient_keep_all s ts)

shares : (s r q : ℕ) (k l : ℤ) → r ≡ q → share s (r, k +ℤ l) ≡ share s (r, k) +ℤ share s (q, l)
shares s r q k l same = rw (sym same) (by (nat_eq r s)) where
  by : (b : Bool) → (if b then k +ℤ l else pos 0) ≡ (if b then k else pos 0) +ℤ (if b then l else pos 0)
  by true = refl
  by false = omega (arith, ints)

abbrev Adds : ℕ → List (ℕ × ℤ) → (List (ℕ × ℤ) → List (ℕ × ℤ)) → Type 0
Adds s ts rest = (us : List (ℕ × ℤ)) → coefficient s (rest us) ≡ coefficient s ts +ℤ coefficient s us

coefficient_into : (s : ℕ) (t : ℕ × ℤ) (ts : List (ℕ × ℤ)) (rest : List (ℕ × ℤ) → List (ℕ × ℤ)) → Adds s ts rest
    → Adds s (t ∷ ts) (merge_into t rest)
coefficient_into s t ts rest adds [] = let one = coefficient_keep s t.0 t.1 (rest []) in let more = adds [] in
    omega (arith, ints, one, more)
coefficient_into s t ts rest adds (u ∷ us) =
    by (coefficient_into s t ts rest adds us) (nat_lt t.0 u.0) (nat_eq t.0 u.0) refl refl where
      by : coefficient s (merge_into t rest us) ≡ coefficient s (t ∷ ts) +ℤ coefficient s us → (less equal : Bool)
          → nat_lt t.0 u.0 ≡ less → nat_eq t.0 u.0 ≡ equal
          → coefficient s (merge_into t rest (u ∷ us)) ≡ coefficient s (t ∷ ts) +ℤ coefficient s (u ∷ us)
      by next true equal l e = let one = coefficient_keep s t.0 t.1 (rest (u ∷ us)) in let more = adds (u ∷ us) in
          rw l (omega (arith, ints, one, more))
      by next false true l e =
          let one = coefficient_keep s t.0 (t.1 +ℤ u.1) (rest us) in
          let more = adds us in
          let split = shares s t.0 u.0 t.1 u.1 (eqb-true _ _ e) in
          rw (l, e) (omega (arith, ints, one, more, split))
      by next false false l e = let one = coefficient_keep s u.0 u.1 (merge_into t rest us) in
          rw (l, e) (omega (arith, ints, one, next))

pub coefficient_merge : (s : ℕ) (ts us : List (ℕ × ℤ)) → coefficient s (merge ts us) ≡ coefficient s ts +ℤ coefficient s us
coefficient_merge s [] us = let all = coefficient_keep_all s us in omega (arith, ints, all)
coefficient_merge s (t ∷ ts) us = coefficient_into s t ts (merge ts) (λ vs. coefficient_merge s ts vs) us

-- Multiples.

share_times : (s : ℕ) (k : ℤ) (t : ℕ × ℤ) → share s (t.0, k *ℤ t.1) ≡ k *ℤ share s t
share_times s k t = by (nat_eq t.0 s) where
  none : k *ℤ pos 0 ≡ pos 0
  none = times_nothing k

  by : (b : Bool) → (if b then k *ℤ t.1 else pos 0) ≡ k *ℤ (if b then t.1 else pos 0)
  by true = refl
  by false = sym none

pub coefficient_times : (s : ℕ) (k : ℤ) (ts : List (ℕ × ℤ)) → coefficient s (terms_times k ts) ≡ k *ℤ coefficient s ts
coefficient_times s k [] = sym (times_nothing k)
coefficient_times s k (t ∷ ts) =
    coefficient_keep s t.0 (k *ℤ t.1) (terms_times k ts) ∙ ap (λ z. z +ℤ coefficient s (terms_times k ts)) (share_times s k t)
    ∙ ap (λ z. (k *ℤ share s t) +ℤ z) (coefficient_times s k ts) ∙ sym (times_sum k (share s t) (coefficient s ts))

-- Whole forms.

pub coefficient_plus : (s : ℕ) (f g : LinearForm)
    → coefficient s (plus f g).terms ≡ coefficient s f.terms +ℤ coefficient s g.terms
coefficient_plus s f g = coefficient_merge s f.terms g.terms

pub coefficient_scaled : (s : ℕ) (k : ℤ) (f : LinearForm) → coefficient s (times k f).terms ≡ k *ℤ coefficient s f.terms
coefficient_scaled s k f = coefficient_times s k f.terms

pub coefficient_minus : (s : ℕ) (f g : LinearForm)
    → coefficient s (minus f g).terms ≡ coefficient s f.terms +ℤ neg_ℤ (coefficient s g.terms)
coefficient_minus s f g =
    let whole = coefficient_merge s f.terms (terms_times (negsuc 0) g.terms) in
    let other = coefficient_times s (negsuc 0) g.terms in
    omega (arith, ints, whole, other)

-- Symbols below a number.

abbrev pub Below : ℕ → List (ℕ × ℤ) → Type 0
Below n [] = Unit {0}
Below n (t ∷ ts) = (t.0 < n) × Below n ts

below_keep : (n s : ℕ) (k : ℤ) (ts : List (ℕ × ℤ)) → s < n → Below n ts → Below n (keep s k ts)
below_keep n s k ts less all = by (int_eq k (pos 0)) refl where
  by : (zero : Bool) → int_eq k (pos 0) ≡ zero → Below n (keep s k ts)
  by true e = rw e all
  by false e = rw e (less, all)

below_keep_all : (n : ℕ) (ts : List (ℕ × ℤ)) → Below n ts → Below n (keep_all ts)
below_keep_all n [] all = tt
below_keep_all n (t ∷ ts) all = below_keep n t.0 t.1 (keep_all ts) all.0 (below_keep_all n ts all.1)

below_into : (n : ℕ) (t : ℕ × ℤ) (rest : List (ℕ × ℤ) → List (ℕ × ℤ)) → t.0 < n
    → ((us : List (ℕ × ℤ)) → Below n us → Below n (rest us)) → (us : List (ℕ × ℤ)) → Below n us → Below n (merge_into t rest us)
below_into n t rest less more [] all = below_keep n t.0 t.1 (rest []) less (more [] tt)
below_into n t rest less more (u ∷ us) all =
    by (below_into n t rest less more us all.1) (nat_lt t.0 u.0) (nat_eq t.0 u.0) refl refl where
      by : Below n (merge_into t rest us) → (first equal : Bool) → nat_lt t.0 u.0 ≡ first → nat_eq t.0 u.0 ≡ equal
          → Below n (merge_into t rest (u ∷ us))
      by next true equal l e = rw l (below_keep n t.0 t.1 (rest (u ∷ us)) less (more (u ∷ us) all))
      by next false true l e = rw (l, e) (below_keep n t.0 (t.1 +ℤ u.1) (rest us) less (more us all.1))
      by next false false l e = rw (l, e) (below_keep n u.0 u.1 (merge_into t rest us) all.0 next)

pub below_merge : (n : ℕ) (ts us : List (ℕ × ℤ)) → Below n ts → Below n us → Below n (merge ts us)
below_merge n [] us one two = below_keep_all n us two
below_merge n (t ∷ ts) us one two = below_into n t (merge ts) one.0 (λ vs all. below_merge n ts vs one.1 all) us two

pub below_times : (n : ℕ) (k : ℤ) (ts : List (ℕ × ℤ)) → Below n ts → Below n (terms_times k ts)
below_times n k [] all = tt
below_times n k (t ∷ ts) all = below_keep n t.0 (k *ℤ t.1) (terms_times k ts) all.0 (below_times n k ts all.1)

-- Limits.

few_terms : (n least : ℕ) (ts : List (ℕ × ℤ)) → rises_from least ts ≡ true → Below n ts → least ≤ n → least + length ts ≤ n
few_terms n least [] rise all less = omega (arith, less)
few_terms n least (t ∷ ts) rise all less =
    let p = rises_parts least t ts rise in
    let rest : t.0 + 1 + length ts ≤ n = few_terms n (t.0 + 1) ts p.2 all.1 (omega (arith, all.0)) in
    omega (arith, p.0, rest)

pub small_terms : (least : ℕ) (ts : List (ℕ × ℤ)) → rises_from least ts ≡ true → ((s : ℕ) → is_small (coefficient s ts) ≡ true)
    → all_small ts ≡ true
small_terms least [] rise small = refl
small_terms least (t ∷ ts) rise small = both first (small_terms (t.0 + 1) ts p.2 rest) where
  p : (least ≤ t.0) × (int_eq t.1 (pos 0) ≡ false) × (rises_from (t.0 + 1) ts ≡ true)
  p = rises_parts least t ts rise

  none : coefficient t.0 ts ≡ pos 0
  none = coefficient_before t.0 (t.0 + 1) ts (omega arith) p.2

  first : is_small t.1 ≡ true
  first =
      let self : nat_eq t.0 t.0 ≡ true = grind (arith, nat_tests) in
      let alone : coefficient t.0 (t ∷ ts) ≡ t.1 = rw (self, none) (omega (arith, ints)) in
      rw (← alone) (small t.0)

  rest : (s : ℕ) → is_small (coefficient s ts) ≡ true
  rest s = by (nat_eq t.0 s) refl where
    by : (same : Bool) → nat_eq t.0 s ≡ same → is_small (coefficient s ts) ≡ true
    by true e = let at : t.0 ≡ s = eqb-true _ _ e in let gone : coefficient s ts ≡ pos 0 = rw (← at) none in rw gone refl
    by false e =
        let alone : coefficient s (t ∷ ts) ≡ coefficient s ts = rw e (omega (arith, ints)) in
        rw (← alone) (small s)

-- a form keeps the limits where its symbols are below 8 and rise, and its numbers are small
pub keeps_limits : (f : LinearForm) → is_small f.constant ≡ true → rises_from 0 f.terms ≡ true → Below 8 f.terms
    → ((s : ℕ) → is_small (coefficient s f.terms) ≡ true) → is_within f ≡ true
keeps_limits f constant rise below small =
    let few : length f.terms ≤ 16 = let eight : 0 + length f.terms ≤ 8 = few_terms 8 0 f.terms rise below (omega arith) in
    omega (arith, eight) in
    both (both constant (le-leb _ _ few)) (small_terms 0 f.terms rise small)
