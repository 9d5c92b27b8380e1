-- Values of constants, symbols, sums, multiples and differences of forms.
use Rattle.std.proofs.Common.{◌≡◌, refl, sym, ◌∙◌, ap, arith, ℕ, ◌<◌, Bool, true, false, List, [], ◌∷◌, ℤ, pos, negsuc, neg_ℤ}
use Rattle.std.proofs.Common.{◌+ℤ◌, ◌*ℤ◌, nat_eq, nat_lt}
use Rattle.std.specs.Ordering.{int_eq}
use Rattle.std.proofs.lemmas.Bool.{eqb-true}
use Rattle.std.proofs.lemmas.Bool.Decides.{Decides-int_eq}
use Rattle.std.proofs.lemmas.Int.{ints}
use Rattle.side_certs.specs.LinearForm.{LinearForm, constant, symbol, below, plus, times, minus, keep, keep_all, merge_into}
use Rattle.side_certs.specs.LinearForm.{merge, terms_times, terms_at, value_at}
use Rattle.side_certs.proofs.laws.Products.{sum_times, times_sum, times_times, times_nothing}
use Rattle.side_certs.proofs.laws.Coefficients.{Below}

nothing_times : (n : ℕ) → pos 0 *ℤ pos n ≡ pos 0
nothing_times n = omega (arith, ints)

module _ (v : ℕ → ℕ) where
  terms_keep : (s : ℕ) (k : ℤ) (ts : List (ℕ × ℤ)) → terms_at v (keep s k ts) ≡ (k *ℤ pos (v s)) +ℤ terms_at v ts
  terms_keep s k ts = by (int_eq k (pos 0)) refl where
    is_zero : int_eq k (pos 0) ≡ true → k ≡ pos 0
    is_zero e = grind (arith, Decides-int_eq)

    by : (zero : Bool) → int_eq k (pos 0) ≡ zero → terms_at v (keep s k ts) ≡ (k *ℤ pos (v s)) +ℤ terms_at v ts
    by true e = let none : k *ℤ pos (v s) ≡ pos 0 = ap (λ z. z *ℤ pos (v s)) (is_zero e) ∙ nothing_times (v s) in
        rw e (omega (arith, ints, none))
    by false e = rw e refl

  terms_keep_all : (ts : List (ℕ × ℤ)) → terms_at v (keep_all ts) ≡ terms_at v ts
  terms_keep_all [] = refl
  terms_keep_all (t ∷ ts) = terms_keep t.0 t.1 (keep_all ts) ∙ ap (λ z. (t.1 *ℤ pos (v t.0)) +ℤ z) (terms_keep_all ts)

  terms_into : (t : ℕ × ℤ) (ts : List (ℕ × ℤ)) (rest : List (ℕ × ℤ) → List (ℕ × ℤ))
      → ((us : List (ℕ × ℤ)) → terms_at v (rest us) ≡ terms_at v ts +ℤ terms_at v us)
      → (us : List (ℕ × ℤ)) → terms_at v (merge_into t rest us) ≡ terms_at v (t ∷ ts) +ℤ terms_at v us
  terms_into t ts rest adds [] = let one = terms_keep t.0 t.1 (rest []) in let more = adds [] in omega (arith, ints, one, more)
  terms_into t ts rest adds (u ∷ us) = by (terms_into t ts rest adds us) (nat_lt t.0 u.0) (nat_eq t.0 u.0) refl refl where
    by : terms_at v (merge_into t rest us) ≡ terms_at v (t ∷ ts) +ℤ terms_at v us → (less equal : Bool) → nat_lt t.0 u.0 ≡ less
        → nat_eq t.0 u.0 ≡ equal
        → terms_at v (merge_into t rest (u ∷ us)) ≡ terms_at v (t ∷ ts) +ℤ terms_at v (u ∷ us)
    by next true equal l e = let one = terms_keep t.0 t.1 (rest (u ∷ us)) in let more = adds (u ∷ us) in
        rw l (omega (arith, ints, one, more))
    by next false true l e =
        let one = terms_keep t.0 (t.1 +ℤ u.1) (rest us) in
        let more = adds us in
        let split = sum_times t.1 u.1 (pos (v t.0)) in
        let same : u.1 *ℤ pos (v t.0) ≡ u.1 *ℤ pos (v u.0) = ap (λ (s : ℕ). u.1 *ℤ pos (v s)) (eqb-true _ _ e) in
        rw (l, e) (omega (arith, ints, one, more, split, same))
    by next false false l e = let one = terms_keep u.0 u.1 (merge_into t rest us) in rw (l, e) (omega (arith, ints, one, next))

  terms_merge : (ts us : List (ℕ × ℤ)) → terms_at v (merge ts us) ≡ terms_at v ts +ℤ terms_at v us
  terms_merge [] us = let all = terms_keep_all us in omega (arith, ints, all)
  terms_merge (t ∷ ts) us = terms_into t ts (merge ts) (λ vs. terms_merge ts vs) us

  pub value_plus : (f g : LinearForm) → value_at v (plus f g) ≡ value_at v f +ℤ value_at v g
  value_plus f g = let all = terms_merge f.terms g.terms in omega (arith, ints, all)

  terms_scaled : (k : ℤ) (ts : List (ℕ × ℤ)) → terms_at v (terms_times k ts) ≡ k *ℤ terms_at v ts
  terms_scaled k [] = sym (times_nothing k)
  terms_scaled k (t ∷ ts) =
      terms_keep t.0 (k *ℤ t.1) (terms_times k ts) ∙ ap (λ z. z +ℤ terms_at v (terms_times k ts)) (times_times k t.1 (v t.0))
      ∙ ap (λ z. (k *ℤ (t.1 *ℤ pos (v t.0))) +ℤ z) (terms_scaled k ts) ∙ sym (times_sum k (t.1 *ℤ pos (v t.0)) (terms_at v ts))

  pub value_times : (k : ℤ) (f : LinearForm) → value_at v (times k f) ≡ k *ℤ value_at v f
  value_times k f = ap (λ z. (k *ℤ f.constant) +ℤ z) (terms_scaled k f.terms) ∙ sym (times_sum k f.constant (terms_at v f.terms))

  pub value_minus : (f g : LinearForm) → value_at v (minus f g) ≡ value_at v f +ℤ neg_ℤ (value_at v g)
  value_minus f g = let whole = value_plus f (times (negsuc 0) g) in let other = value_times (negsuc 0) g in
      omega (arith, ints, whole, other)

  pub value_constant : (k : ℤ) → value_at v (constant k) ≡ k
  value_constant k = omega (arith, ints)

  pub value_symbol : (s : ℕ) → value_at v (symbol s) ≡ pos (v s)
  value_symbol s = omega (arith, ints)

  pub value_below : (top s : ℕ) → value_at v (below top s) ≡ pos top +ℤ neg_ℤ (pos (v s))
  value_below top s = omega (arith, ints)

-- a form has one value for all numbers that agree where it has symbols
pub terms_same : (v w : ℕ → ℕ) (n : ℕ) → ((s : ℕ) → s < n → w s ≡ v s) → (ts : List (ℕ × ℤ)) → Below n ts
    → terms_at w ts ≡ terms_at v ts
terms_same v w n agree [] all = refl
terms_same v w n agree (t ∷ ts) all =
    let first : t.1 *ℤ pos (w t.0) ≡ t.1 *ℤ pos (v t.0) = ap (λ (m : ℕ). t.1 *ℤ pos m) (agree t.0 all.0) in
    let rest : terms_at w ts ≡ terms_at v ts = terms_same v w n agree ts all.1 in
    omega (arith, ints, first, rest)

pub value_same : (v w : ℕ → ℕ) (n : ℕ) → ((s : ℕ) → s < n → w s ≡ v s) → (f : LinearForm) → Below n f.terms
    → value_at w f ≡ value_at v f
value_same v w n agree f all = ap (λ z. f.constant +ℤ z) (terms_same v w n agree f.terms all)
