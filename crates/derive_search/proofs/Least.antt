-- The least number from a local on that passes a test, one local further.
use Rattle.std.proofs.Common.{◌≡◌, refl, ap, ◌∙◌, arith, ℕ, suc, ◌+◌, ◌-◌, ◌<◌, ◌≤◌, Bool, true, false, Some, None, if◌then◌else◌}
use Rattle.stmt_rules.specs.Words.{most_local}
use Rattle.derive_search.specs.Locals.{least}

module _ (test : ℕ → Bool) (l : ℕ) where
  least_again : l ≤ most_local → least test (most_local + 1 - l) l
      ≡ (if test l then Some l else least test (most_local + 1 - (l + 1)) (l + 1))
  least_again within =
      let e : most_local + 1 - l ≡ suc (most_local + 1 - (l + 1)) = omega (arith, within) in
      ap (λ n. least test n l) e

  pub least_here : l ≤ most_local → test l ≡ true → least test (most_local + 1 - l) l ≡ Some l
  least_here within takes = least_again within ∙ rw takes refl

  pub least_on : l ≤ most_local → test l ≡ false
      → least test (most_local + 1 - l) l ≡ least test (most_local + 1 - (l + 1)) (l + 1)
  least_on within takes = least_again within ∙ rw takes refl

  pub least_past : most_local < l → least test (most_local + 1 - l) l ≡ None
  least_past past = let e : most_local + 1 - l ≡ 0 = omega (arith, past) in ap (λ n. least test n l) e
