-- What holds of every run of the machine.
use Rattle.std.specs.Prelude.{◌≡◌, ℕ, Ok}
use Rattle.rv_machine.specs.State.{State}
use Rattle.rv_machine.specs.Step.{after}
use Rattle.rv_machine.specs.Machines.{IsMachine}

-- steps lead from a machine state to machine states
abbrev pub KeepsMachines : Type 0
KeepsMachines = (n : ℕ) (s t : State) → IsMachine s → after n s ≡ Ok t → IsMachine t
