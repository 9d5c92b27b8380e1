-- A run of a command that came to an end, taken apart.
use Rattle.std.proofs.Common.{◌≡◌, refl, ap, ℕ, zero, suc, Option, Some, None, Result, Ok, Err}
use Rattle.bed_meaning.specs.Fuelled.{and_then, given, take_one, finish}
use Rattle.rv_memory.specs.Ranges.{Bytes}
use Rattle.bed_meaning.specs.declared.halt.Halt.{Halt}
use Rattle.bed_meaning.specs.declared.halt.Halt.TheVariants.{Stuck, OutOfFuel}
use Rattle.bed_meaning.specs.Locals.{Vars}
use Rattle.bed_meaning.specs.State.{State}
use Rattle.bed_meaning.specs.Meaning.{Rule, End}

abbrev pub done : State → Result State Halt
done s = Ok s

pub same_done : (s t : State) → done s ≡ done t → s ≡ t
same_done s t h = cc

abbrev pub left : ℕ → State → State
left n s = record { fuel = n; ticks = s.ticks; mem = s.mem; vars = s.vars }

pub took : (n : ℕ) (s t : State) (next : Rule) → take_one n s next ≡ done t → (j : ℕ) × (next (left j s) ≡ done t)
took zero s t next h = absurd (let bad : ◌≡◌ {A = Result State Halt} (Err OutOfFuel) (Ok t) = h in cc)
took (suc n) s t next h = (n, h)

pub given_some : {A : Type 0} (a : Option A) (next : A → Result State Halt) (t : State) → given a next ≡ done t
    → (x : A) × ((a ≡ Some x) × (next x ≡ done t))
given_some None next t h = absurd (let bad : ◌≡◌ {A = Result State Halt} (Err Stuck) (Ok t) = h in cc)
given_some (Some x) next t h = (x, (refl, h))

pub then_done : (r : Result State Halt) (next : Rule) (t : State) → and_then r next ≡ done t
    → (s : State) × ((r ≡ done s) × (next s ≡ done t))
then_done (Ok s) next t h = (s, (refl, h))
then_done (Err e) next t h = absurd (let bad : ◌≡◌ {A = Result State Halt} (Err e) (Ok t) = h in cc)

-- the end of a whole run
abbrev pub ended : ℕ → Bytes → Vars → End
ended ticks mem vars = Ok (ticks, mem, vars)

pub finished : (r : Result State Halt) (ticks : ℕ) (mem : Bytes) (vars : Vars) → finish r ≡ ended ticks mem vars
    → (s : State) × ((r ≡ done s) × (s.ticks ≡ ticks) × (s.mem ≡ mem) × (s.vars ≡ vars))
finished (Ok s) ticks mem vars h =
    let is : ended s.ticks s.mem s.vars ≡ ended ticks mem vars = h in
    let parts : ◌≡◌ {A = ℕ × Bytes × Vars} (s.ticks, s.mem, s.vars) (ticks, mem, vars) = cc in
    (s, (refl, ap (λ p. p.0) parts, ap (λ p. p.1) parts, ap (λ p. p.2) parts))
finished (Err e) ticks mem vars h = absurd (let bad : ◌≡◌ {A = End} (Err e) (Ok (ticks, mem, vars)) = h in cc)
