-- A rehearsal of loops: what stands in this crate for the rules of statements, put together once. The first context of every well
-- typed model says of names what its scope does, and fits each call; and from there a loop goes round whose block writes an
-- element of a listed array.
use Rattle.std.specs.Prelude.{◌≡◌, ℕ, ◌+◌, ◌≤◌, true, false, List, [], length, Some, None, Ok}
use Rattle.rup_base.specs.declared.arg.Arg.{Arg}
use Rattle.rup_base.specs.declared.arg.Arg.TheVariants as arg
use Rattle.rv_memory.specs.Ranges.{Bytes}
use Rattle.model_syntax.specs.declared.program.Model.{Model}
use Rattle.model_syntax.specs.Environment.{Env, put, carry}
use Rattle.model_syntax.specs.Names.{Name, listed}
use Rattle.model_syntax.specs.Scope.{Scope}
use Rattle.model_syntax.specs.Types as types
use Rattle.model_syntax.specs.Value as value
use Rattle.sym_heap.specs.declared.parts.Clause.{Clause}
use Rattle.sym_heap.specs.Context.{Context, own, is_free}
use Rattle.sym_heap.specs.Fits.{Call, Locals, call_of, FitsBy, FitsOn, ArgsHeld}
use Rattle.sym_heap.specs.Arrival.{HasArguments, AreApart, numbers_of}
use Rattle.sym_heap.specs.Scoped.{IsScoped}
use Rattle.sym_heap.specs.Start.{start}
use Rattle.sym_heap.specs.Turns.{block_start, IsSet}
use Rattle.sym_heap.specs.Writes.{IsWritten}

-- a turn at the count n writes the element i of the listed array a, and the next count is set: the start of the block fits again
abbrev pub GoesRound : Call → (ℕ → ℕ) → Context → Env → Bytes → Locals → Type 0
GoesRound call numbers c env mem locals =
    (names : List Name) (x a : Name) (li lh n i m : ℕ) (k : Clause) (end_env : Env) (end_mem : Bytes) (after : Locals)
    → is_free c li None ≡ true → own c x ≡ None → listed x names ≡ false → locals li ≡ Some n → n + 1 ≤ 4294967295
    → own c a ≡ Some k → listed a names ≡ true
    → IsWritten call a k i m (put x (arg.Word n) env) end_env mem end_mem
    → IsSet li locals after → after li ≡ Some (n + 1)
    → FitsOn call (length c.tops) numbers (block_start names x li lh c)
    (put x (arg.Word (n + 1)) (carry names end_env env)) end_mem after

-- what holds where a call of a model starts
pub record StartsWell (m : Model) (scope : Scope) (args : List Arg) (pointers : ℕ → ℕ) (mem : Bytes) (locals : Locals)
    : Type 0 where
  pub scoped : IsScoped m.params scope (start m)
  pub fits : FitsBy (call_of m args pointers) (numbers_of (call_of m args pointers)) (start m) (value.start m.params args [])
      mem locals
  pub held : ArgsHeld args (start m) (value.start m.params args [])
  pub round : GoesRound (call_of m args pointers) (numbers_of (call_of m args pointers)) (start m)
      (value.start m.params args []) mem locals

abbrev pub LoopsRehearsed : Type 0
LoopsRehearsed = (m : Model) → types.Well m → (scope : Scope) → types.declare_params m.params [] ≡ Ok scope
    → (args : List Arg) → value.Meets m args → (pointers : ℕ → ℕ) (mem : Bytes) (locals : Locals)
    → HasArguments 0 0 m.params args pointers mem locals → AreApart (call_of m args pointers)
    → StartsWell m scope args pointers mem locals
