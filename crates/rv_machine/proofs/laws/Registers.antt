-- What the registers have after a write.
use Rattle.std.proofs.Common.{◌≡◌, ◌≢◌, ℕ, ◌<◌, Bool, true, false, List, length, ◌==◌, if◌then◌else◌, refl, arith, set}
use Rattle.std.proofs.Common.{length-set}
use Rattle.std.proofs.lemmas.Grind.{common_steps}
use Rattle.rv_machine.specs.State.{register, with_register}

pub length-with_register : (regs : List ℕ) (r v : ℕ) → length (with_register regs r v) ≡ length regs
length-with_register regs r v = by_test (r == 0)
  where
    by_test : (b : Bool) → length (if b then regs else set regs r v) ≡ length regs
    by_test true = refl
    by_test false = length-set regs r v

pub register-with_register_same : (regs : List ℕ) (r v : ℕ) → 0 < r → r < length regs → register (with_register regs r v) r ≡ v
register-with_register_same regs r v above below = grind (arith, common_steps)

pub register-with_register_other : (regs : List ℕ) (r v q : ℕ) → q ≢ r → register (with_register regs r v) q ≡ register regs q
register-with_register_other regs r v q other = grind (arith, common_steps)
