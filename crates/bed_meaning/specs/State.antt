-- The state of a run, of commands and of three-address code alike.
use Rattle.std.specs.Prelude.{ℕ, ◌+◌}
use Rattle.rv_memory.specs.Ranges.{Bytes}
use Rattle.bed_meaning.specs.declared.halt.Meter.{Meter}
use Rattle.bed_meaning.specs.Locals.{Vars}

-- the fuel that is left, the ticks so far, the memory, and the values of what is set
pub record Running (V : Type 0) : Type 0 where
  pub fuel : ℕ
  pub ticks : ℕ
  pub mem : Bytes
  pub vars : V

-- the state of a command has locals
abbrev pub State : Type 0
State = Running Vars

abbrev pub state_of : Meter → Bytes → Vars → State
state_of meter mem vars = record { fuel = meter.fuel; ticks = meter.ticks; mem = mem; vars = vars }

abbrev pub spend : {V : Type 0} → ℕ → Running V → Running V
spend price s = record { fuel = s.fuel; ticks = s.ticks + price; mem = s.mem; vars = s.vars }

abbrev pub with_vars : {V : Type 0} → V → Running V → Running V
with_vars vars s = record { fuel = s.fuel; ticks = s.ticks; mem = s.mem; vars = vars }

abbrev pub with_mem : {V : Type 0} → Bytes → Running V → Running V
with_mem mem s = record { fuel = s.fuel; ticks = s.ticks; mem = mem; vars = s.vars }
