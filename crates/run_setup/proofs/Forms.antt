-- The values of sums, differences and multiples of linear forms.
use Rattle.std.proofs.Common.{◌≡◌, ℕ, ◌+◌, ◌*◌, Bool, true, false, List, [], ◌∷◌, ℤ, pos, negsuc, neg_ℤ, ◌+ℤ◌, ◌*ℤ◌, nat_eq}
use Rattle.std.proofs.Common.{nat_le, nat_lt, refl, sym, ap, ◌∙◌, arith}
use Rattle.std.specs.Prelude.{int_le}
use Rattle.std.specs.Ordering.{int_eq}
use Rattle.std.proofs.lemmas.Int.{ints}
use Rattle.std.proofs.lemmas.Bool.{eqb-true}
use Rattle.std.proofs.lemmas.Bool.Decides.{Decides-int_eq}
use Rattle.side_certs.specs.LinearForm.{LinearForm, constant, symbol, keep, keep_all, merge_into, merge, terms_times, plus, minus}
use Rattle.side_certs.specs.LinearForm.{times, terms_at, value_at}
use borrow.Author.Differences.{up, down, sum_is_lem, product_is}

-- Products of whole numbers.

sum_times : (a b c : ℤ) → (a +ℤ b) *ℤ c ≡ (a *ℤ c) +ℤ (b *ℤ c)
sum_times a b c =
    let p : (up (a +ℤ b) + down a + down b) * up c ≡ (down (a +ℤ b) + up a + up b) * up c =
    ap (λ (n : ℕ). n * up c) (sum_is_lem a b) in
    let q : (up (a +ℤ b) + down a + down b) * down c ≡ (down (a +ℤ b) + up a + up b) * down c =
    ap (λ (n : ℕ). n * down c) (sum_is_lem a b) in
    omega (arith, ints, p, q)

times_sum : (a b c : ℤ) → a *ℤ (b +ℤ c) ≡ (a *ℤ b) +ℤ (a *ℤ c)
times_sum a b c =
    let p : (up (b +ℤ c) + down b + down c) * up a ≡ (down (b +ℤ c) + up b + up c) * up a =
    ap (λ (n : ℕ). n * up a) (sum_is_lem b c) in
    let q : (up (b +ℤ c) + down b + down c) * down a ≡ (down (b +ℤ c) + up b + up c) * down a =
    ap (λ (n : ℕ). n * down a) (sum_is_lem b c) in
    omega (arith, ints, p, q)

times_times : (m : ℕ) (c : ℤ) (n : ℕ) → (pos m *ℤ c) *ℤ pos n ≡ pos m *ℤ (c *ℤ pos n)
times_times m c n =
    let p = product_is (pos m) c in
    let q = product_is c (pos n) in
    let p_up : up (pos m *ℤ c) * n ≡ (m * up c + 0 * down c) * n = ap (λ (x : ℕ). x * n) p.0 in
    let p_down : down (pos m *ℤ c) * n ≡ (m * down c + 0 * up c) * n = ap (λ (x : ℕ). x * n) p.1 in
    let q_up : m * up (c *ℤ pos n) ≡ m * (up c * n + down c * 0) = ap (λ (x : ℕ). m * x) q.0 in
    let q_down : m * down (c *ℤ pos n) ≡ m * (up c * 0 + down c * n) = ap (λ (x : ℕ). m * x) q.1 in
    omega (arith, ints, p_up, p_down, q_up, q_down)

opposite : (z : ℤ) (n : ℕ) → neg_ℤ z *ℤ pos n ≡ neg_ℤ (z *ℤ pos n)
opposite z n =
    let split = sum_times z (neg_ℤ z) (pos n) in
    let nothing : z +ℤ neg_ℤ z ≡ pos 0 = omega (arith, ints) in
    let none : (z +ℤ neg_ℤ z) *ℤ pos n ≡ pos 0 = ap (λ (y : ℤ). y *ℤ pos n) nothing ∙ omega (arith, ints) in
    omega (arith, ints, split, none)

-- the factors of forms group with a value
abbrev Groups : ℤ → Type 0
Groups k = (c : ℤ) (n : ℕ) → (k *ℤ c) *ℤ pos n ≡ k *ℤ (c *ℤ pos n)

minus_one_groups : Groups (negsuc 0)
minus_one_groups c n =
    let inner : negsuc 0 *ℤ c ≡ neg_ℤ c = omega (arith, ints) in
    let outer : negsuc 0 *ℤ (c *ℤ pos n) ≡ neg_ℤ (c *ℤ pos n) = omega (arith, ints) in
    ap (λ (z : ℤ). z *ℤ pos n) inner ∙ opposite c n ∙ sym outer

module _ (numbers : ℕ → ℕ) where
  kept : (s : ℕ) (k : ℤ) (ts : List (ℕ × ℤ)) → terms_at numbers (keep s k ts) ≡ (k *ℤ pos (numbers s)) +ℤ terms_at numbers ts
  kept s k ts = by_test (int_eq k (pos 0)) refl
    where
      by_test : (none : Bool) → int_eq k (pos 0) ≡ none
          → terms_at numbers (keep s k ts) ≡ (k *ℤ pos (numbers s)) +ℤ terms_at numbers ts
      by_test true e =
          let is : k ≡ pos 0 = (Decides-int_eq k (pos 0)).0 e in
          let nothing : k *ℤ pos (numbers s) ≡ pos 0 = ap (λ (z : ℤ). z *ℤ pos (numbers s)) is ∙ omega (arith, ints) in
          rw e (omega (arith, ints, nothing))
      by_test false e = rw e refl

  all_kept : (ts : List (ℕ × ℤ)) → terms_at numbers (keep_all ts) ≡ terms_at numbers ts
  all_kept [] = refl
  all_kept (t ∷ ts) = kept t.0 t.1 (keep_all ts) ∙ ap (λ (z : ℤ). (t.1 *ℤ pos (numbers t.0)) +ℤ z) (all_kept ts)

  merged_into : (t : ℕ × ℤ) (ts : List (ℕ × ℤ))
      → ((us : List (ℕ × ℤ)) → terms_at numbers (merge ts us) ≡ terms_at numbers ts +ℤ terms_at numbers us)
      → (us : List (ℕ × ℤ)) → terms_at numbers (merge_into t (merge ts) us)
      ≡ (t.1 *ℤ pos (numbers t.0)) +ℤ (terms_at numbers ts +ℤ terms_at numbers us)
  merged_into t ts rest [] = kept t.0 t.1 (merge ts []) ∙ ap (λ (z : ℤ). (t.1 *ℤ pos (numbers t.0)) +ℤ z) (rest [])
  merged_into t ts rest (u ∷ us) = by_order (merged_into t ts rest us) (nat_lt t.0 u.0) refl (nat_eq t.0 u.0) refl
    where
      by_order : terms_at numbers (merge_into t (merge ts) us)
          ≡ (t.1 *ℤ pos (numbers t.0)) +ℤ (terms_at numbers ts +ℤ terms_at numbers us)
          → (before : Bool) → nat_lt t.0 u.0 ≡ before → (same : Bool) → nat_eq t.0 u.0 ≡ same
          → terms_at numbers (merge_into t (merge ts) (u ∷ us))
          ≡ (t.1 *ℤ pos (numbers t.0)) +ℤ (terms_at numbers ts +ℤ terms_at numbers (u ∷ us))
      by_order h true e same f = rw e
          (kept t.0 t.1 (merge ts (u ∷ us)) ∙ ap (λ (z : ℤ). (t.1 *ℤ pos (numbers t.0)) +ℤ z) (rest (u ∷ us)))
      by_order h false e true f =
          let is : t.0 ≡ u.0 = eqb-true _ _ f in
          let at_u : u.1 *ℤ pos (numbers t.0) ≡ u.1 *ℤ pos (numbers u.0) = ap (λ (n : ℕ). u.1 *ℤ pos (numbers n)) is in
          let both : (t.1 +ℤ u.1) *ℤ pos (numbers t.0) ≡ (t.1 *ℤ pos (numbers t.0)) +ℤ (u.1 *ℤ pos (numbers t.0)) =
          sum_times t.1 u.1 (pos (numbers t.0)) in
          let rest_is : terms_at numbers (merge ts us) ≡ terms_at numbers ts +ℤ terms_at numbers us = rest us in
          let here : terms_at numbers (keep t.0 (t.1 +ℤ u.1) (merge ts us))
          ≡ ((t.1 +ℤ u.1) *ℤ pos (numbers t.0)) +ℤ terms_at numbers (merge ts us) = kept t.0 (t.1 +ℤ u.1) (merge ts us) in
          rw (e, f) (omega (arith, ints, here, both, at_u, rest_is))
      by_order h false e false f =
          let here : terms_at numbers (keep u.0 u.1 (merge_into t (merge ts) us))
          ≡ (u.1 *ℤ pos (numbers u.0)) +ℤ terms_at numbers (merge_into t (merge ts) us) =
          kept u.0 u.1 (merge_into t (merge ts) us) in
          rw (e, f) (omega (arith, ints, here, h))

  merged : (ts us : List (ℕ × ℤ)) → terms_at numbers (merge ts us) ≡ terms_at numbers ts +ℤ terms_at numbers us
  merged [] us = all_kept us ∙ omega (arith, ints)
  merged (t ∷ ts) us = merged_into t ts (merged ts) us ∙ omega (arith, ints)

  multiplied : (k : ℤ) → Groups k → (ts : List (ℕ × ℤ)) → terms_at numbers (terms_times k ts) ≡ k *ℤ terms_at numbers ts
  multiplied k groups [] = omega (arith, ints)
  multiplied k groups (t ∷ ts) =
      let rest : terms_at numbers (terms_times k ts) ≡ k *ℤ terms_at numbers ts = multiplied k groups ts in
      let split : k *ℤ ((t.1 *ℤ pos (numbers t.0)) +ℤ terms_at numbers ts)
      ≡ (k *ℤ (t.1 *ℤ pos (numbers t.0))) +ℤ (k *ℤ terms_at numbers ts) =
      times_sum k (t.1 *ℤ pos (numbers t.0)) (terms_at numbers ts) in
      let grouped : (k *ℤ t.1) *ℤ pos (numbers t.0) ≡ k *ℤ (t.1 *ℤ pos (numbers t.0)) = groups t.1 (numbers t.0) in
      kept t.0 (k *ℤ t.1) (terms_times k ts) ∙ omega (arith, ints, rest, split, grouped)

  pub plus_value : (f g : LinearForm) → value_at numbers (plus f g) ≡ value_at numbers f +ℤ value_at numbers g
  plus_value f g = let terms : terms_at numbers (merge f.terms g.terms) ≡ terms_at numbers f.terms +ℤ terms_at numbers g.terms =
      merged f.terms g.terms in omega (arith, ints, terms)

  times_value : (k : ℤ) → Groups k → (f : LinearForm) → value_at numbers (times k f) ≡ k *ℤ value_at numbers f
  times_value k groups f =
      let terms : terms_at numbers (terms_times k f.terms) ≡ k *ℤ terms_at numbers f.terms = multiplied k groups f.terms in
      omega (arith, ints, terms, times_sum k f.constant (terms_at numbers f.terms))

  pub multiple_value : (k : ℕ) (f : LinearForm) (n : ℕ) → value_at numbers f ≡ pos n
      → value_at numbers (times (pos k) f) ≡ pos (k * n)
  multiple_value k f n is = times_value (pos k) (times_times k) f ∙ ap (λ (z : ℤ). pos k *ℤ z) is ∙ omega (arith, ints)

  pub sum_value : (f g : LinearForm) (m n : ℕ) → value_at numbers f ≡ pos m → value_at numbers g ≡ pos n
      → value_at numbers (plus f g) ≡ pos (m + n)
  sum_value f g m n is_m is_n = omega (arith, ints, plus_value f g, is_m, is_n)

  pub constant_value : (n : ℕ) → value_at numbers (constant (pos n)) ≡ pos n
  constant_value n = omega (arith, ints)

  pub symbol_value : (s n : ℕ) → numbers s ≡ n → value_at numbers (symbol s) ≡ pos n
  symbol_value s n is = let one : pos 1 *ℤ pos (numbers s) ≡ pos n = ap (λ (k : ℕ). pos 1 *ℤ pos k) is ∙ omega (arith, ints) in
      omega (arith, ints, one)

  -- the high side less the low one is at least 0 exactly where the low side is at most the high one
  pub difference_test : (high low : LinearForm) (m n : ℕ) → value_at numbers high ≡ pos m → value_at numbers low ≡ pos n
      → int_le (pos 0) (value_at numbers (minus high low)) ≡ nat_le n m
  difference_test high low m n is_m is_n =
      let less : value_at numbers (times (negsuc 0) low) ≡ negsuc 0 *ℤ value_at numbers low =
      times_value (negsuc 0) minus_one_groups low in
      let whole : value_at numbers (minus high low)
      ≡ pos m +ℤ neg_ℤ (pos n) = omega (arith, ints, plus_value high (times (negsuc 0) low), less, is_m, is_n) in
      ap (int_le (pos 0)) whole ∙ tests m n
    where
      tests : (m n : ℕ) → int_le (pos 0) (pos m +ℤ neg_ℤ (pos n)) ≡ nat_le n m
      tests m n = grind (arith, ints)
