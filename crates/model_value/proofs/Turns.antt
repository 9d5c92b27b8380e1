-- The turns of loops.
use Rattle.std.proofs.Common.{◌≡◌, refl, arith, ℕ, suc, ◌+◌, ◌-◌, ◌<◌, ◌≤◌, [], ◌∷◌}
use Rattle.model_syntax.specs.Value.{numbers}

pub numbers_more : (low high : ℕ) → low < high → numbers low high ≡ low ∷ numbers (low + 1) high
numbers_more low high h = let e : high - low ≡ suc (high - (low + 1)) = omega arith in rw e refl

pub numbers_none : (low high : ℕ) → high ≤ low → numbers low high ≡ []
numbers_none low high h = let e : high - low ≡ 0 = omega arith in rw e refl
