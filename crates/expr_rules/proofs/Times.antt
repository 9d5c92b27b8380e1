-- Multiples of a form whose value is a number.
use Rattle.std.proofs.Common.{◌≡◌, ◌∙◌, ap, arith, ℕ, ◌*◌, ◌≤◌, [], ◌∷◌, ℤ, pos, neg_ℤ, ◌+ℤ◌, ◌*ℤ◌, ◌≤ℤ◌}
use Rattle.std.proofs.lemmas.Int.{ints}
use Rattle.side_certs.specs.LinearForm.{LinearForm, times, value_at}
use Rattle.side_certs.proofs.laws.Products.{sum_times}
use Rattle.side_certs.proofs.laws.Values.{value_times}
use Rattle.expr_rules.specs.Words.{most, sum_of}
use Rattle.expr_rules.proofs.Sums.{value_sum}

pub pos_product : (n m : ℕ) → pos n *ℤ pos m ≡ pos (n * m)
pos_product n m = omega (arith, ints)

pub neg_product : (n m : ℕ) → neg_ℤ (pos n) *ℤ pos m ≡ neg_ℤ (pos (n * m))
neg_product n m =
    let split = sum_times (neg_ℤ (pos n)) (pos n) (pos m) in
    let nothing : neg_ℤ (pos n) +ℤ pos n ≡ pos 0 = omega (arith, ints) in
    let none : (neg_ℤ (pos n) +ℤ pos n) *ℤ pos m ≡ pos 0 *ℤ pos m = ap (λ (z : ℤ). z *ℤ pos m) nothing in
    let zero_times : pos 0 *ℤ pos m ≡ pos 0 = omega (arith, ints) in
    let product = pos_product n m in
    omega (arith, ints, split, none, zero_times, product)

module _ (v : ℕ → ℕ) (F : LinearForm) (m n : ℕ) (form : value_at v F ≡ pos m) (k : ℤ) (is : k ≡ pos n) where
  pub multiple_small : pos 0 ≤ℤ value_at v (sum_of (pos most) ((neg_ℤ k, F) ∷ [])) → n * m ≤ 4294967295
  multiple_small shown =
      let whole = value_sum v (pos most) ((neg_ℤ k, F) ∷ []) in
      let product : neg_ℤ k *ℤ value_at v F ≡ neg_ℤ (pos (n * m)) = ap (λ (z : ℤ). neg_ℤ z *ℤ value_at v F) is
      ∙ ap (λ (z : ℤ). neg_ℤ (pos n) *ℤ z) form ∙ neg_product n m in
      omega (arith, ints, shown, whole, product)

  pub multiple_value : value_at v (times k F) ≡ pos (n * m)
  multiple_value = value_times v k F ∙ ap (λ (z : ℤ). z *ℤ value_at v F) is ∙ ap (λ (z : ℤ). pos n *ℤ z) form ∙ pos_product n m
