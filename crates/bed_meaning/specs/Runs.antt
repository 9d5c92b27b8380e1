-- Runs of commands without fuel: what a command makes of memory and locals, and in how many ticks.
use Rattle.std.specs.Prelude.{◌≡◌, ℕ, suc, ◌+◌, ◌≤◌, List, [], ◌∷◌, length, Some, is_some, Ok}
use Rattle.std.specs.FinMap.{get}
use Rattle.rv_memory.specs.Ranges.{Bytes}
use Rattle.bed_syntax.specs.Weight.{expr_weight}
use Rattle.bed_syntax.specs.declared.weights.Weights.{Weights}
use Rattle.bed_syntax.specs.declared.operation.Size.{Size}
use Rattle.bed_syntax.specs.declared.expression.BExpr.{BExpr}
use Rattle.bed_syntax.specs.declared.command.Cmd.{Cmd, roll-Cmd}
use Rattle.bed_syntax.specs.declared.command.Cmd.TheOpen as c
use Rattle.bed_meaning.specs.Access.{store}
use Rattle.bed_meaning.specs.Locals.{Vars, assigned}
use Rattle.bed_meaning.specs.Value.{value}
use Rattle.bed_meaning.specs.Meaning.{exec}

-- what runs: a command, commands one after another, or the turns of a loop that are left
pub data Part : Type 0 where
  One : Cmd → Part
  All : List Cmd → Part
  Loop : BExpr → Cmd → Part

-- from memory and locals to memory and locals, in so many ticks
pub data Runs (w : Weights) : Part → Bytes → Vars → Bytes → Vars → ℕ → Type 0 where
  sets : (x : ℕ) (e : BExpr) (v : ℕ) (mem : Bytes) (vars after : Vars) → value e mem vars ≡ Some v
      → assigned x v vars ≡ Some after
      → Runs w (One (roll-Cmd (c.Set x e))) mem vars mem after (expr_weight w e + w.set)
  stores : (size : Size) (a e : BExpr) (at v : ℕ) (mem after : Bytes) (vars : Vars) → value a mem vars ≡ Some at
      → value e mem vars ≡ Some v
      → store size mem at v ≡ Some after
      → Runs w (One (roll-Cmd (c.Store size a e))) mem vars after vars (expr_weight w a + expr_weight w e + w.store)
  -- the test is not 0
  firsts : (e : BExpr) (p q : Cmd) (v ticks : ℕ) (mem after : Bytes) (vars left : Vars) → value e mem vars ≡ Some (suc v)
      → Runs w (One p) mem vars after left ticks
      → Runs w (One (roll-Cmd (c.Cond e p q))) mem vars after left (expr_weight w e + w.test + ticks)
  -- the test is 0
  seconds : (e : BExpr) (p q : Cmd) (ticks : ℕ) (mem after : Bytes) (vars left : Vars) → value e mem vars ≡ Some 0
      → Runs w (One q) mem vars after left ticks
      → Runs w (One (roll-Cmd (c.Cond e p q))) mem vars after left (expr_weight w e + w.test + ticks)
  seqs : (cs : List Cmd) (ticks : ℕ) (mem after : Bytes) (vars left : Vars) → Runs w (All cs) mem vars after left ticks
      → Runs w (One (roll-Cmd (c.Seq cs))) mem vars after left ticks
  whiles : (e : BExpr) (p : Cmd) (ticks : ℕ) (mem after : Bytes) (vars left : Vars) → Runs w (Loop e p) mem vars after left ticks
      → Runs w (One (roll-Cmd (c.While e p))) mem vars after left ticks
  -- no command is left
  done : (mem : Bytes) (vars : Vars) → Runs w (All []) mem vars mem vars 0
  -- the first command, and then the others
  next : (p : Cmd) (ps : List Cmd) (one rest : ℕ) (mem between after : Bytes) (vars middle left : Vars)
      → Runs w (One p) mem vars between middle one
      → Runs w (All ps) between middle after left rest → Runs w (All (p ∷ ps)) mem vars after left (one + rest)
  -- a loop that ends, since its test is 0
  ends : (e : BExpr) (p : Cmd) (mem : Bytes) (vars : Vars) → value e mem vars ≡ Some 0
      → Runs w (Loop e p) mem vars mem vars (expr_weight w e + w.turn)
  -- a loop that turns once more
  turns : (e : BExpr) (p : Cmd) (v one rest : ℕ) (mem between after : Bytes) (vars middle left : Vars)
      → value e mem vars ≡ Some (suc v)
      → Runs w (One p) mem vars between middle one → Runs w (Loop e p) between middle after left rest
      → Runs w (Loop e p) mem vars after left (expr_weight w e + w.turn + one + rest)

-- What holds of runs.

-- with so much fuel, or more, the meaning ends as the run does
abbrev pub FuelFor : Weights → Cmd → Bytes → Vars → Bytes → Vars → ℕ → Type 0
FuelFor w c mem vars after left ticks = (n : ℕ) × ((fuel : ℕ) → n ≤ fuel → exec w fuel c mem vars ≡ Ok (ticks, after, left))

-- a run changes no address of the memory, and not the number of the locals
pub record Shape (mem : Bytes) (vars : Vars) (after : Bytes) (left : Vars) : Type 0 where
  pub addresses : (a : ℕ) → is_some (get after a) ≡ is_some (get mem a)
  pub count : length left ≡ length vars
