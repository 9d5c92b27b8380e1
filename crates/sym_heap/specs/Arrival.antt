-- The start of a call: the arguments in locals and in memory. There the context at the start fits.
use Rattle.std.specs.Prelude.{◌≡◌, ◌≢◌, ℕ, ◌+◌, ◌%◌, ◌^◌, ◌≤◌, ⊤, List, [], ◌∷◌, length, Some, slice_index_or}
use Rattle.rup_base.specs.declared.arg.Arg.{Arg}
use Rattle.rup_base.specs.declared.arg.Arg.TheVariants as arg
use Rattle.model_syntax.specs.declared.program.Len.{Len}
use Rattle.model_syntax.specs.declared.program.Len.TheVariants.{Fixed, Named}
use Rattle.model_syntax.specs.declared.program.Param.{Param}
use Rattle.model_syntax.specs.declared.program.Param.TheVariants as param
use Rattle.model_syntax.specs.declared.program.Model.{Model}
use Rattle.model_syntax.specs.Environment.{elements}
use Rattle.model_syntax.specs.Types.{Well}
use Rattle.model_syntax.specs.Value as value
use Rattle.rv_memory.specs.Ranges.{Bytes, Apart, Stands}
use Rattle.sym_heap.specs.Fits.{Locals, Call, call_of, IsArray, array_bytes, range_of, FitsBy, ArgsHeld}
use Rattle.sym_heap.specs.Start.{registers_of, start}

-- a number of at most so much is in a local
abbrev pub HasNumber : ℕ → Arg → ℕ → Locals → Type 0
HasNumber top (arg.Word n) l locals = (locals l ≡ Some n) × (n ≤ top)
HasNumber top v l locals = ⊥

-- the number of elements is the fixed one, or is in a local
abbrev pub HasLength : Len → ℕ → ℕ → Locals → Type 0
HasLength (Fixed k) n l locals = n ≡ k
HasLength (Named x) n l locals = locals l ≡ Some n

-- an array stands at an address, which is in a local
pub record HasArray (size : ℕ) (len : Len) (v : Arg) (at l : ℕ) (mem : Bytes) (locals : Locals) : Type 0 where
  pub array : IsArray size (Some v)
  pub pointer : locals l ≡ Some at
  pub has_length : HasLength len (length (elements (Some v))) (l + 1) locals
  pub stands : Stands mem at (array_bytes (Some v))
  pub few : length (elements (Some v)) ≤ 4294967295
  pub aligned : at % size ≡ 0
  pub ends : at + length (array_bytes (Some v)) ≤ 2 ^ 32

abbrev pub HasArgument : Param → Arg → ℕ → ℕ → Bytes → Locals → Type 0
HasArgument (param.Word x) v at l mem locals = HasNumber 4294967295 v l locals
HasArgument (param.Byte x) v at l mem locals = HasNumber 255 v l locals
HasArgument (param.Bytes a n) v at l mem locals = HasArray 1 n v at l mem locals
HasArgument (param.Words a n) v at l mem locals = HasArray 4 n v at l mem locals

-- the locals from l on have the arguments of the parameters from p on
abbrev pub HasArguments : ℕ → ℕ → List Param → List Arg → (ℕ → ℕ) → Bytes → Locals → Type 0
HasArguments p l [] [] pointers mem locals = ⊤
HasArguments p l (q ∷ qs) (v ∷ vs) pointers mem locals =
    HasArgument q v (pointers p) l mem locals × HasArguments (p + 1) (l + registers_of q) qs vs pointers mem locals
HasArguments p l qs vs pointers mem locals = ⊥

-- the ranges of arrays of different parameters are apart
abbrev pub AreApart : Call → Type 0
AreApart call = (p q : ℕ) → p ≢ q → Apart (range_of call p) (range_of call q)

-- the numbers of the entry symbols, as a function
abbrev pub numbers_of : Call → ℕ → ℕ
numbers_of call s = slice_index_or call.entries s 0

-- where the arguments meet the model and stand as they should, the context at the start fits, and arrays are the arguments
abbrev pub StartFits : Type 0
StartFits = (m : Model) → Well m → (args : List Arg) → value.Meets m args → (pointers : ℕ → ℕ) (mem : Bytes) (locals : Locals)
    → HasArguments 0 0 m.params args pointers mem locals → AreApart (call_of m args pointers)
    → FitsBy (call_of m args pointers) (numbers_of (call_of m args pointers)) (start m) (value.start m.params args []) mem locals
    × ArgsHeld args (start m) (value.start m.params args [])
