-- The machine of the program as a state of the definitions, and what a call answers.
use Rattle.std.specs.Prelude.{Result, Ok, Err}
use Rattle.rv_machine.specs.declared.cause.Cause.{Cause}
use Rattle.rv_machine.specs.declared.machine.Machine.{Machine}
use Rattle.rv_machine.specs.State.{State}
use Rattle.rv_machine.specs.Step.{Answer}

abbrev pub state_of : Machine → State
state_of m = record { regs = m.regs; pc = m.pc; mem = m.mem }

-- a call that leaves a machine answers its state, or the cause why it could not go on
abbrev pub answer : Result (Unit {0}) Cause → Machine → Answer
answer (Ok u) m = Ok (state_of m)
answer (Err cause) m = Err cause
