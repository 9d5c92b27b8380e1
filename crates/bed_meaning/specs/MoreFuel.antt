-- What more fuel changes: nothing where the run ended, or was stuck.
use Rattle.std.specs.Prelude.{◌≡◌, ℕ, ◌+◌, Ok, Err}
use Rattle.rv_memory.specs.Ranges.{Bytes}
use Rattle.bed_syntax.specs.declared.weights.Weights.{Weights}
use Rattle.bed_syntax.specs.declared.command.Cmd.{Cmd}
use Rattle.bed_meaning.specs.declared.halt.Halt.TheVariants.{Stuck, OutOfFuel}
use Rattle.bed_meaning.specs.Locals.{Vars}
use Rattle.bed_meaning.specs.Meaning.{End, exec}

-- the second end is the first, unless that ran out of fuel
abbrev pub Keeps : End → End → Type 0
Keeps (Ok done) end = end ≡ Ok done
Keeps (Err Stuck) end = end ≡ Err Stuck
Keeps (Err OutOfFuel) end = Unit {0}

abbrev pub KeepsWithMoreFuel : Weights → Cmd → Type 0
KeepsWithMoreFuel w c = (fuel more : ℕ) (mem : Bytes) (vars : Vars)
    → Keeps (exec w fuel c mem vars) (exec w (fuel + more) c mem vars)
