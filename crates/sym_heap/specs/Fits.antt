-- When a state fits a context: each symbol has a number such that locals, values and memory are what the context says.
use Rattle.std.specs.Prelude.{◌≡◌, ◌≢◌, ℕ, ◌+◌, ◌%◌, ◌^◌, ◌<◌, ◌≤◌, true, false, List, [], ◌∷◌, length, map, Option, Some, None}
use Rattle.std.specs.Prelude.{slice_get, ℤ, pos}
use Rattle.std.specs.List.{flat_map}
use Rattle.std.specs.Int.{w32, to_le_bytes}
use Rattle.rup_base.specs.declared.arg.Arg.{Arg}
use Rattle.rup_base.specs.declared.arg.Arg.TheVariants as arg
use Rattle.rup_base.specs.Gather.{all_true}
use Rattle.rv_memory.specs.Ranges.{Bytes, Range, Apart, Stands}
use Rattle.side_certs.specs.LinearForm.{LinearForm, value_at}
use Rattle.side_certs.specs.Closes.{Holds}
use Rattle.model_syntax.specs.declared.program.Len.TheVariants.{Named}
use Rattle.model_syntax.specs.declared.program.Param.{Param}
use Rattle.model_syntax.specs.declared.program.Param.TheVariants as param
use Rattle.model_syntax.specs.declared.program.Model.{Model}
use Rattle.model_syntax.specs.Environment.{Env, value_of, elements}
use Rattle.model_syntax.specs.Kinds.{is_byte, is_word}
use Rattle.model_syntax.specs.Names.{Name, same}
use Rattle.sym_heap.specs.declared.parts.Held.{Held}
use Rattle.sym_heap.specs.declared.parts.Clause.{Clause}
use Rattle.sym_heap.specs.Context.{Context, scalar, own, has, top_of}

-- the value of each local that was set
abbrev pub Locals : Type 0
Locals = ℕ → Option ℕ

-- What does not change in a call.

-- the numbers of the entry symbols: words, bytes and named lengths, in the order of the parameters
abbrev pub entry_numbers : List Param → List Arg → List ℕ
entry_numbers (param.Word x ∷ ps) (arg.Word n ∷ vs) = n ∷ entry_numbers ps vs
entry_numbers (param.Byte x ∷ ps) (arg.Word n ∷ vs) = n ∷ entry_numbers ps vs
entry_numbers (param.Bytes a (Named x) ∷ ps) (v ∷ vs) = length (elements (Some v)) ∷ entry_numbers ps vs
entry_numbers (param.Words a (Named x) ∷ ps) (v ∷ vs) = length (elements (Some v)) ∷ entry_numbers ps vs
entry_numbers (p ∷ ps) (v ∷ vs) = entry_numbers ps vs
entry_numbers ps vs = []

-- the numbers of the entry symbols, and the address at which the array of each parameter stands, with its bytes' number
pub record Call : Type 0 where
  pub entries : List ℕ
  pub pointers : ℕ → ℕ
  pub sizes : ℕ → ℕ

-- Arrays in memory.

-- the bytes of an array, words in little endian; a number has none
abbrev pub array_bytes : Option Arg → List ℕ
array_bytes (Some (arg.Bytes bytes)) = bytes
array_bytes (Some (arg.Words words)) = flat_map (to_le_bytes w32) words
array_bytes v = []

abbrev pub call_of : Model → List Arg → (ℕ → ℕ) → Call
call_of m args pointers = record {
  entries = entry_numbers m.params args;
  pointers = pointers;
  sizes = λ p. length (array_bytes (slice_get args p));
}

-- the range of the array of a parameter
abbrev pub range_of : Call → ℕ → Range
range_of call p = record { start = call.pointers p; size = call.sizes p }

-- What holds of a context alone.

-- the form mentions only the first n symbols
abbrev pub Known : ℕ → LinearForm → Type 0
Known n f = (i : ℕ) → (t : ℕ × ℤ) → slice_get f.terms i ≡ Some t → t.0 < n

pub record IsConsistent (c : Context) : Type 0 where
  -- every form mentions only symbols that have a top, as the entry symbols do
  pub entries_known : c.entries ≤ length c.tops
  pub scalars_known : (i : ℕ) (h : Held) → slice_get c.scalars i ≡ Some h → Known (length c.tops) h.form
  pub lengths_known : (i : ℕ) (k : Clause) → slice_get c.clauses i ≡ Some k → Known (length c.tops) k.length
  pub facts_known : (i : ℕ) (f : LinearForm) → slice_get c.facts i ≡ Some f → Known (length c.tops) f
  -- a scalar's name and its local are its own
  pub scalars_apart : (i j : ℕ) (h k : Held) → slice_get c.scalars i ≡ Some h → slice_get c.scalars j ≡ Some k → i ≢ j
      → (same h.name k.name ≡ false) × (h.local ≢ k.local)
  -- a clause's name and its parameter are its own
  pub clauses_apart : (i j : ℕ) (k l : Clause) → slice_get c.clauses i ≡ Some k → slice_get c.clauses j ≡ Some l → i ≢ j
      → (same k.name l.name ≡ false) × (k.param ≢ l.param)
  -- pointer and length locals are reserved
  pub pointers_reserved : (i : ℕ) (k : Clause) → slice_get c.clauses i ≡ Some k → has k.pointer c.reserved ≡ true
  pub lengths_reserved : (i : ℕ) (k : Clause) (l : ℕ) → slice_get c.clauses i ≡ Some k → k.length_local ≡ Some l
      → has l c.reserved ≡ true

-- States.

-- the value of a scalar's name is a number of its type, which its form has and its local
pub record ScalarFits (numbers : ℕ → ℕ) (h : Held) (found : Option Arg) (locals : Locals) : Type 0 where
  pub number : ℕ
  pub value : found ≡ Some (arg.Word number)
  pub kind : number ≤ top_of h.kind
  pub form : value_at numbers h.form ≡ pos number
  pub local : locals h.local ≡ Some number

-- an array of elements of this size, each of which is a byte or a word
abbrev pub IsArray : ℕ → Option Arg → Type 0
IsArray size None = ⊥
IsArray size (Some (arg.Word n)) = ⊥
IsArray size (Some (arg.Bytes ns)) = (size ≡ 1) × (all_true (map is_byte ns) ≡ true)
IsArray size (Some (arg.Words ns)) = (size ≡ 4) × (all_true (map is_word ns) ≡ true)

-- the value of a clause's name is an array of its type and length, which stands where the parameter's array did
pub record ClauseFits (call : Call) (numbers : ℕ → ℕ) (k : Clause) (found : Option Arg) (mem : Bytes) (locals : Locals) : Type 0
  where
    pub array : IsArray k.size found
    pub form : value_at numbers k.length ≡ pos (length (elements found))
    pub length_local : (l : ℕ) → k.length_local ≡ Some l → locals l ≡ Some (length (elements found))
    pub parameter : length (array_bytes found) ≡ call.sizes k.param
    pub pointer : locals k.pointer ≡ Some (call.pointers k.param)
    pub stands : Stands mem (call.pointers k.param) (array_bytes found)
    pub few : length (elements found) ≤ 4294967295
    pub aligned : call.pointers k.param % k.size ≡ 0
    pub ends : call.pointers k.param + length (array_bytes found) ≤ 2 ^ 32

-- with these numbers for its symbols the context is true of the values, the memory and the locals
pub record FitsBy (call : Call) (numbers : ℕ → ℕ) (c : Context) (env : Env) (mem : Bytes) (locals : Locals) : Type 0 where
  pub consistent : IsConsistent c
  pub entry_count : c.entries ≡ length call.entries
  pub entries : (s n : ℕ) → slice_get call.entries s ≡ Some n → numbers s ≡ n
  pub holds : Holds numbers c.facts c.tops
  pub scalars : (x : Name) (h : Held) → scalar c x ≡ Some h → ScalarFits numbers h (value_of env x) locals
  pub clauses : (a : Name) (k : Clause) → own c a ≡ Some k → ClauseFits call numbers k (value_of env a) mem locals
  pub ranges : (i j : ℕ) (k l : Clause) → slice_get c.clauses i ≡ Some k → slice_get c.clauses j ≡ Some l → i ≢ j
      → Apart (range_of call k.param) (range_of call l.param)

-- an array that was never written is its parameter's argument
abbrev pub ArgsHeld : List Arg → Context → Env → Type 0
ArgsHeld args c env = (a : Name) (k : Clause) → own c a ≡ Some k → k.writes ≡ 0 → value_of env a ≡ slice_get args k.param

-- there are such numbers
abbrev pub Fits : Call → Context → Env → Bytes → Locals → Type 0
Fits call c env mem locals = (numbers : ℕ → ℕ) × FitsBy call numbers c env mem locals

-- the first n symbols have the same numbers
abbrev pub Agree : ℕ → (ℕ → ℕ) → (ℕ → ℕ) → Type 0
Agree n numbers after = (s : ℕ) → s < n → after s ≡ numbers s

-- a later state fits a later context, and each symbol of the context before has the number that it had
abbrev pub FitsOn : Call → ℕ → (ℕ → ℕ) → Context → Env → Bytes → Locals → Type 0
FitsOn call symbols numbers after env mem locals = (others : ℕ → ℕ) × Agree symbols numbers others
    × FitsBy call others after env mem locals

-- every local that the context reserves has the same value in both
abbrev pub ReservedKept : Context → Locals → Locals → Type 0
ReservedKept c before after = (l : ℕ) → has l c.reserved ≡ true → after l ≡ before l
