-- How what the code answers stands for what the meaning says.
use Rattle.std.specs.Prelude.{◌≡◌, ℕ, suc, Option, Some, None, Result, Ok, Err}
use Rattle.rv_memory.specs.Ranges.{Bytes}
use Rattle.bed_meaning.specs.declared.halt.Halt.{Halt}
use Rattle.bed_meaning.specs.declared.halt.Halt.TheVariants as halt
use Rattle.bed_meaning.specs.declared.execution.BEnd.{BEnd}
use Rattle.bed_meaning.specs.declared.execution.BEnd.TheVariants as end
use Rattle.bed_meaning.specs.Locals.{Vars}
use Rattle.bed_meaning.specs.State.{State}
use Rattle.bed_meaning.specs.Meaning.{End}

-- the run has come to the state that stands; or it halted, and nothing is said of the state
abbrev pub Came : {A : Type 0} → Result A Halt → State → Result State Halt → Type 0
Came (Ok u) after answer = answer ≡ Ok after
Came (Err h) after answer = answer ≡ Err h

-- the end of a run with its ticks, memory and locals
abbrev pub EndsAs : BEnd → Bytes → Vars → End → Type 0
EndsAs (end.Done ticks) mem vars answer = answer ≡ Ok (ticks, mem, vars)
EndsAs end.Stuck mem vars answer = answer ≡ Err halt.Stuck
EndsAs end.OutOfFuel mem vars answer = answer ≡ Err halt.OutOfFuel

-- one was taken, or there was none
abbrev pub Took : {A : Type 0} → Result A Halt → ℕ → ℕ → Type 0
Took (Ok u) after before = before ≡ suc after
Took (Err h) after before = (h ≡ halt.OutOfFuel) × (before ≡ 0)

-- the value is there, or the rule is stuck
abbrev pub GivenBy : Result ℕ Halt → Option ℕ → Type 0
GivenBy (Ok x) value = value ≡ Some x
GivenBy (Err h) value = (h ≡ halt.Stuck) × (value ≡ None)
