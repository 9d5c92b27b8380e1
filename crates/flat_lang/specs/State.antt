-- The state of a run of three-address code.
use Rattle.std.specs.Prelude.{ℕ}
use Rattle.std.specs.Ordering.{nat_cmp}
use Rattle.std.specs.FinMap.{FinMap, insert}
use Rattle.bed_meaning.specs.State.{Running}

-- the variables that are set, and their values
abbrev pub Vars : Type 0
Vars = FinMap nat_cmp ℕ

abbrev pub State : Type 0
State = Running (FinMap nat_cmp ℕ)

abbrev pub with_var : ℕ → ℕ → State → State
with_var x v s = record { fuel = s.fuel; ticks = s.ticks; mem = s.mem; vars = insert s.vars x v }
