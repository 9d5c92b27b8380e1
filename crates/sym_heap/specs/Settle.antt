-- A state that fits a context but for some scalars, and the context in which these get fresh symbols: at the start of a loop's
-- turn, and where blocks have ended.
use Rattle.std.specs.Prelude.{◌≡◌, ◌≢◌, ℕ, ◌≤◌, nat_eq, nat_lt, Bool, true, false, List, [], ◌∷◌, length, slice_get, Option, Some}
use Rattle.std.specs.Prelude.{None, if◌then◌else◌}
use Rattle.rup_base.specs.declared.arg.Arg.{Arg}
use Rattle.rup_base.specs.declared.arg.Arg.TheVariants as arg
use Rattle.rv_memory.specs.Ranges.{Bytes, Apart}
use Rattle.side_certs.specs.LinearForm.{LinearForm, symbol}
use Rattle.side_certs.specs.Closes.{Holds}
use Rattle.model_syntax.specs.Environment.{Env, value_of}
use Rattle.model_syntax.specs.Names.{Name, same, listed}
use Rattle.sym_heap.specs.declared.parts.Held.{Held}
use Rattle.sym_heap.specs.declared.parts.Clause.{Clause}
use Rattle.sym_heap.specs.Context.{Context, scalar, own, has, held, top_of, with_top, with_scalar}
use Rattle.sym_heap.specs.Fits.{Call, Locals, range_of, Known, ScalarFits, ClauseFits}

-- What a context is but for its scalars' locals, two of which may be one while scalars settle.

pub record IsKnown (c : Context) : Type 0 where
  -- every form mentions only symbols that have a top, as the entry symbols do
  pub entries_known : c.entries ≤ length c.tops
  pub scalars_known : (i : ℕ) (h : Held) → slice_get c.scalars i ≡ Some h → Known (length c.tops) h.form
  pub lengths_known : (i : ℕ) (k : Clause) → slice_get c.clauses i ≡ Some k → Known (length c.tops) k.length
  pub facts_known : (i : ℕ) (f : LinearForm) → slice_get c.facts i ≡ Some f → Known (length c.tops) f
  -- a scalar's name is its own; a clause's name and its parameter are its own
  pub scalars_once : (i j : ℕ) (h k : Held) → slice_get c.scalars i ≡ Some h → slice_get c.scalars j ≡ Some k → i ≢ j
      → same h.name k.name ≡ false
  pub clauses_apart : (i j : ℕ) (k l : Clause) → slice_get c.clauses i ≡ Some k → slice_get c.clauses j ≡ Some l → i ≢ j
      → (same k.name l.name ≡ false) × (k.param ≢ l.param)
  -- pointer and length locals are reserved
  pub pointers_reserved : (i : ℕ) (k : Clause) → slice_get c.clauses i ≡ Some k → has k.pointer c.reserved ≡ true
  pub lengths_reserved : (i : ℕ) (k : Clause) (l : ℕ) → slice_get c.clauses i ≡ Some k → k.length_local ≡ Some l
      → has l c.reserved ≡ true

-- with these numbers the context is true of values, memory and locals, but that nothing is said of the scalars that are spared
pub record FitsRest (spared : Name → Bool) (call : Call) (numbers : ℕ → ℕ) (c : Context) (env : Env) (mem : Bytes)
    (locals : Locals) : Type 0 where
  pub known : IsKnown c
  pub entry_count : c.entries ≡ length call.entries
  pub entries : (s n : ℕ) → slice_get call.entries s ≡ Some n → numbers s ≡ n
  pub holds : Holds numbers c.facts c.tops
  pub scalars : (x : Name) (h : Held) → scalar c x ≡ Some h → spared x ≡ false → ScalarFits numbers h (value_of env x) locals
  pub clauses : (a : Name) (k : Clause) → own c a ≡ Some k → ClauseFits call numbers k (value_of env a) mem locals
  pub ranges : (i j : ℕ) (k l : Clause) → slice_get c.clauses i ≡ Some k → slice_get c.clauses j ≡ Some l → i ≢ j
      → Apart (range_of call k.param) (range_of call l.param)

-- the locals that the context speaks of are as before, but for those of the scalars that are spared
pub record LocalsKept (spared : Name → Bool) (c : Context) (before after : Locals) : Type 0 where
  pub scalars : (i : ℕ) (h : Held) → slice_get c.scalars i ≡ Some h → spared h.name ≡ false → after h.local ≡ before h.local
  pub pointers : (i : ℕ) (k : Clause) → slice_get c.clauses i ≡ Some k → after k.pointer ≡ before k.pointer
  pub lengths : (i : ℕ) (k : Clause) (l : ℕ) → slice_get c.clauses i ≡ Some k → k.length_local ≡ Some l → after l ≡ before l

-- no name is spared
abbrev pub none : Name → Bool
none x = false

-- the listed names are spared
abbrev pub among : List Name → Name → Bool
among xs x = listed x xs

-- More symbols.

-- the symbols and their greatest numbers
abbrev pub with_tops : List ℕ → Context → Context
with_tops tops c = record c { tops = tops }

-- the first n symbols have their numbers, and the others 0, as those of a block that did not run, or that has ended
abbrev pub or_nothing : ℕ → (ℕ → ℕ) → ℕ → ℕ
or_nothing n numbers s = if nat_lt s n then numbers s else 0

-- symbol n has the number m, and the others theirs
abbrev pub given : ℕ → ℕ → (ℕ → ℕ) → ℕ → ℕ
given n m numbers s = if nat_eq s n then m else numbers s

-- Settling.

-- the name's scalar gets a fresh symbol, with the top of its type, in the local that is given; a name that no local is given
-- for, as an array's, stays
abbrev pub settled : Name → Option Held → Context → Context
settled y None c = c
settled y (Some h) c = with_scalar (held y h.local (symbol (length c.tops)) h.kind) (with_top (top_of h.kind) c)

-- each listed scalar gets one, in the order of the list, in the local where another context has it
abbrev pub settle : List Name → Context → Context → Context
settle [] end_ c = c
settle (y ∷ ys) end_ c = settle ys end_ (settled y (scalar end_ y) c)

-- what a listed name has in the other context, and what another has in this one
abbrev pub target : List Name → Context → Context → Name → Option Held
target ys end_ c x = if listed x ys then scalar end_ x else scalar c x

-- the number of a scalar in the local where another context has it; a name that it has no scalar for is none here
abbrev pub Stood : Option Held → Option Held → Option Arg → Locals → Type 0
Stood None here found locals = here ≡ None
Stood (Some h) here found locals = (n : ℕ) × (found ≡ Some (arg.Word n)) × (n ≤ top_of h.kind) × (locals h.local ≡ Some n)

abbrev pub AllStood : List Name → Context → Context → Env → Locals → Type 0
AllStood ys end_ c env locals =
    (y : Name) → listed y ys ≡ true → Stood (scalar end_ y) (scalar c y) (value_of env y) locals
