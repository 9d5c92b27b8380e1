-- A test that each element of a list passes.
use Rattle.std.proofs.Common.{◌≡◌, refl, arith, ℕ, suc, ◌<◌, Bool, true, List, [], ◌∷◌, length, map, get_or}
use Rattle.rup_base.specs.Gather.{all_true}

pub all_pass : (test : ℕ → Bool) (ns : List ℕ) → ((k : ℕ) → k < length ns → test (get_or ns k 0) ≡ true)
    → all_true (map test ns) ≡ true
all_pass test [] each = refl
all_pass test (n ∷ ns) each = rw (each 0 (omega arith)) (all_pass test ns (λ k within. each (suc k) (omega (arith, within))))
