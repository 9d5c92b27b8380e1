-- What three-address code keeps of the command that it was made from.
use Rattle.std.specs.Prelude.{◌≡◌, ℕ, ◌<◌, ◌≤◌, List, Some, Ok, slice_get}
use Rattle.std.specs.FinMap.{get}
use Rattle.rv_memory.specs.Ranges.{Bytes}
use Rattle.bed_syntax.specs.declared.weights.Weights.{Weights}
use Rattle.bed_syntax.specs.declared.command.Cmd.{Cmd}
use Rattle.bed_meaning.specs.Locals as bed
use Rattle.bed_meaning.specs.Meaning as source
use Rattle.flat_lang.specs.declared.flat.Flat.{Flat}
use Rattle.flat_lang.specs.State as flat
use Rattle.flat_lang.specs.Meaning as target

-- at the start no local but an argument is set, and each that is has its value in the variable of its number
abbrev pub Starts : ℕ → bed.Vars → flat.Vars → Type 0
Starts args locals vars = (x n : ℕ) → bed.local_at locals x ≡ Some n → (x < args) × (get vars x ≡ Some n)

-- each result that is set at the end has its value in the variable that stands for it
abbrev pub Returns : List ℕ → List ℕ → bed.Vars → flat.Vars → Type 0
Returns rets places locals vars =
    (i x n : ℕ) → slice_get rets i ≡ Some x → bed.local_at locals x ≡ Some n → (y : ℕ) × (slice_get places i ≡ Some y)
    × (get vars y ≡ Some n)

-- with enough fuel the code ends with these ticks, this memory and the results of these locals
pub record Ends (w : Weights) (f : Flat) (rets : List ℕ) (mem : Bytes) (vars : flat.Vars) (ticks : ℕ) (mem1 : Bytes)
    (locals1 : bed.Vars) : Type 0 where
  pub fuel : ℕ
  pub vars1 : flat.Vars
  pub runs : (k : ℕ) → fuel ≤ k → target.exec w f k mem vars ≡ Ok (ticks, mem1, vars1)
  pub returns : Returns rets f.rets locals1 vars1

-- wherever the command ends, its code does so too, by each table in which a variable weighs what a set weighs
abbrev pub Keeps : Cmd → ℕ → List ℕ → Flat → Type 0
Keeps c args rets f =
    (w : Weights) → w.variable ≡ w.set → (fuel : ℕ) (mem : Bytes) (locals : bed.Vars) (vars : flat.Vars) → Starts args locals vars
    → (ticks : ℕ) (mem1 : Bytes) (locals1 : bed.Vars) → source.exec w fuel c mem locals ≡ Ok (ticks, mem1, locals1)
    → Ends w f rets mem vars ticks mem1 locals1
