-- The words of a meaning with fuel, of commands and of three-address code alike: what is done in one step, and steps one after
-- another.
use Rattle.std.specs.Prelude.{ℕ, zero, suc, List, [], ◌∷◌, Option, Some, None, Result, Ok, Err}
use Rattle.rv_memory.specs.Ranges.{Bytes}
use Rattle.bed_meaning.specs.declared.halt.Halt.{Halt}
use Rattle.bed_meaning.specs.declared.halt.Halt.TheVariants.{Stuck, OutOfFuel}
use Rattle.bed_meaning.specs.State.{Running}

-- what is done: the state after it, or why there is none
abbrev pub Doing : Type 0 → Type 0
Doing V = Running V → Result (Running V) Halt

-- a rule after another
abbrev pub and_then : {V : Type 0} → Result (Running V) Halt → Doing V → Result (Running V) Halt
and_then (Ok s) next = next s
and_then (Err h) next = Err h

-- a rule that is given a value, and is stuck where there is none
abbrev pub given : {V A : Type 0} → Option A → (A → Result (Running V) Halt) → Result (Running V) Halt
given None next = Err Stuck
given (Some x) next = next x

abbrev pub take_one : {V : Type 0} → ℕ → Running V → Doing V → Result (Running V) Halt
take_one zero s next = Err OutOfFuel
take_one (suc n) s next = next (record { fuel = n; ticks = s.ticks; mem = s.mem; vars = s.vars })

-- a rule that first takes one from the fuel
abbrev pub fuelled : {V : Type 0} → Doing V → Doing V
fuelled next s = take_one s.fuel s next

-- any number but 0 is true
abbrev pub choose : {V : Type 0} → ℕ → Doing V → Doing V → Doing V
choose zero first second = second
choose (suc n) first second = first

abbrev pub in_turn : {V : Type 0} → List (Doing V) → Doing V
in_turn [] s = Ok s
in_turn (rule ∷ rules) s = and_then (rule s) (in_turn rules)

-- the ticks, the memory and what is set at the end
abbrev pub Ended : Type 0 → Type 0
Ended V = Result (ℕ × Bytes × V) Halt

abbrev pub finish : {V : Type 0} → Result (Running V) Halt → Ended V
finish (Ok s) = Ok (s.ticks, s.mem, s.vars)
finish (Err h) = Err h
