-- How a run ends, and where it leaves the machine.
use Rattle.std.specs.Prelude.{◌≡◌, ◌≢◌, ℕ, ◌<◌, ◌≤◌, Ok, Err}
use Rattle.rv_machine.specs.declared.running.End.{End}
use Rattle.rv_machine.specs.declared.running.End.TheVariants.{Returned, Trapped, OutOfSteps}
use Rattle.rv_machine.specs.State.{State}
use Rattle.rv_machine.specs.Step.{step, after}

-- so many steps lead from s to t, and before each of them the program counter is not the stop address
pub record Reached (stop : ℕ) (s : State) (steps : ℕ) (t : State) : Type 0 where
  pub ran : after steps s ≡ Ok t
  pub not_before : (j : ℕ) (u : State) → j < steps → after j s ≡ Ok u → u.pc ≢ stop

-- the run from s ends in t: at the stop address within the budget; or before it, where the step from t traps; or
-- before it with the whole budget used
abbrev pub Ran : ℕ → ℕ → State → End → State → Type 0
Ran stop budget s (Returned steps) t = Reached stop s steps t × (steps ≤ budget) × (t.pc ≡ stop)
Ran stop budget s (Trapped cause pc steps) t =
    Reached stop s steps t × (steps < budget) × (t.pc ≢ stop) × (step t ≡ Err cause) × (pc ≡ t.pc)
Ran stop budget s (OutOfSteps steps) t = Reached stop s steps t × (steps ≡ budget) × (t.pc ≢ stop)
