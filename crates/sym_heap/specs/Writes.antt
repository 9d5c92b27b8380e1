-- One element of an array is written, in memory and in the values of names.
use Rattle.std.specs.Prelude.{◌≡◌, ℕ, ◌+◌, ◌*◌, ◌<◌, ◌≤◌, false, List, length, Some}
use Rattle.std.specs.FinMap.{get}
use Rattle.rup_base.specs.declared.arg.Arg.{Arg}
use Rattle.rv_memory.specs.Ranges.{Bytes, Range, Stands, Within}
use Rattle.model_syntax.specs.Environment.{Env, value_of, elements, with_element}
use Rattle.model_syntax.specs.Names.{Name, same}
use Rattle.sym_heap.specs.declared.parts.Clause.{Clause}
use Rattle.sym_heap.specs.Context.{Context, own, with_clause, written}
use Rattle.sym_heap.specs.Elements.{element_bytes, element_top}
use Rattle.sym_heap.specs.Fits.{Call, Locals, FitsBy, ArgsHeld}

-- the range of an element of the array of a clause
abbrev pub element_range : Call → Clause → ℕ → Range
element_range call k i = record { start = call.pointers k.param + k.size * i; size = k.size }

-- the array of the name and the clause has the number n as its element i afterwards, and all else is as before
pub record IsWritten (call : Call) (a : Name) (k : Clause) (i n : ℕ) (env after_env : Env) (mem after : Bytes) : Type 0 where
  pub inside : i < length (elements (value_of env a))
  pub small : n ≤ element_top k.size
  pub value : value_of after_env a ≡ with_element i n (value_of env a)
  pub values : (b : Name) → same a b ≡ false → value_of after_env b ≡ value_of env b
  pub bytes : Stands after (call.pointers k.param + k.size * i) (element_bytes k.size n)
  pub others : (address : ℕ) → (Within (element_range call k i) address → ⊥) → get after address ≡ get mem address

-- the same where the array goes on under the name b
pub record IsMoved (call : Call) (a b : Name) (k : Clause) (i n : ℕ) (env after_env : Env) (mem after : Bytes) : Type 0 where
  pub inside : i < length (elements (value_of env a))
  pub small : n ≤ element_top k.size
  pub value : value_of after_env b ≡ with_element i n (value_of env a)
  pub values : (x : Name) → same b x ≡ false → value_of after_env x ≡ value_of env x
  pub bytes : Stands after (call.pointers k.param + k.size * i) (element_bytes k.size n)
  pub others : (address : ℕ) → (Within (element_range call k i) address → ⊥) → get after address ≡ get mem address

-- A context fits after a write as it did before: so a loop's context fits at its second turn, whichever arrays the first
-- turn wrote to. That a never written array is the argument is said of the context in which the write is counted.
pub record WritesFit : Type 0 where
  pub fits : (call : Call) (numbers : ℕ → ℕ) (c : Context) (a : Name) (k : Clause) (i n : ℕ) (env after_env : Env)
      (mem after : Bytes) (locals : Locals)
      → FitsBy call numbers c env mem locals → own c a ≡ Some k → IsWritten call a k i n env after_env mem after
      → FitsBy call numbers c after_env after locals
  -- how often an array was written is nothing to a state
  pub counted : (call : Call) (numbers : ℕ → ℕ) (c : Context) (a : Name) (env : Env) (mem : Bytes) (locals : Locals)
      → FitsBy call numbers c env mem locals
      → FitsBy call numbers (with_clause a written c) env mem locals
  pub held : (args : List Arg) (c : Context) (a : Name) (env after_env : Env) → ArgsHeld args c env
      → ((b : Name) → same a b ≡ false → value_of after_env b ≡ value_of env b)
      → ArgsHeld args (with_clause a written c) after_env
