-- A context and a typing scope say the same of names: which are scalars and of what type, and which are arrays, with what
-- elements and length.
use Rattle.std.specs.Prelude.{◌≡◌, ◌≢◌, ℕ, ◌≤◌, true, false, List, [], length, Option, Some, None, is_some, slice_get, pos, Ok}
use Rattle.side_certs.specs.LinearForm.{LinearForm, constant, symbol}
use Rattle.model_syntax.specs.declared.expr.Scalar.{Scalar}
use Rattle.model_syntax.specs.declared.expr.Scalar.TheVariants.{Word, Byte, Flag}
use Rattle.model_syntax.specs.declared.program.Len.{Len}
use Rattle.model_syntax.specs.declared.program.Len.TheVariants.{Fixed, Named}
use Rattle.model_syntax.specs.declared.program.Param.{Param}
use Rattle.model_syntax.specs.declared.program.Model.{Model}
use Rattle.model_syntax.specs.declared.scope.NameType.TheVariants.{Scalar as One, Array as Many}
use Rattle.model_syntax.specs.Entries.{entry_names}
use Rattle.model_syntax.specs.Names.{Name, same, listed}
use Rattle.model_syntax.specs.Scope.{Scope, look_up, bind, scalar_may_take}
use Rattle.model_syntax.specs.Types as types
use Rattle.sym_heap.specs.declared.parts.Held.{Held}
use Rattle.sym_heap.specs.declared.parts.Clause.{Clause}
use Rattle.sym_heap.specs.Context.{Context, scalar, with_top, with_fact, with_reserved, with_scalar, with_clause, without_clause}
use Rattle.sym_heap.specs.Context.{renamed, written, back_to}
use Rattle.sym_heap.specs.Ends.{standing, restored, with_ends}
use Rattle.sym_heap.specs.Moves.{Follow, ParamsOnce}
use Rattle.sym_heap.specs.Start.{start}

-- the bytes of an element: arrays are of bytes or words
abbrev pub element_size : Scalar → Option ℕ
element_size Word = Some 4
element_size Byte = Some 1
element_size Flag = None

-- the length is the entry symbol of this name, whose number a local holds
pub record IsEntryLength (names : List Name) (x : Name) (f : LinearForm) (l : Option ℕ) : Type 0 where
  pub place : ℕ
  pub name : slice_get names place ≡ Some x
  pub form : f ≡ symbol place
  pub local : is_some l ≡ true

-- the length is the fixed number, or an entry symbol
abbrev pub IsLength : List Name → Len → LinearForm → Option ℕ → Type 0
IsLength names (Fixed n) f l = (f ≡ constant (pos n)) × (l ≡ None)
IsLength names (Named x) f l = IsEntryLength names x f l

-- the clause's name is an array in scope, with its elements and its length
pub record IsArrayOf (names : List Name) (scope : Scope) (k : Clause) : Type 0 where
  pub element : Scalar
  pub len : Len
  pub type : look_up scope k.name ≡ Some (Many element len)
  pub size : element_size element ≡ Some k.size
  pub length_is : IsLength names len k.length k.length_local

pub record IsScoped (ps : List Param) (scope : Scope) (c : Context) : Type 0 where
  -- the scalars are those in scope, with their types
  pub scalars : (i : ℕ) (h : Held) → slice_get c.scalars i ≡ Some h → look_up scope h.name ≡ Some (One h.kind)
  pub every_scalar : (x : Name) (t : Scalar) → look_up scope x ≡ Some (One t) → is_some (scalar c x) ≡ true
  -- the clauses are arrays in scope; a name in scope has none any more once its array has another name, or none of the
  -- context where its clause is out: who uses an array asks for its clause
  pub clauses : (i : ℕ) (k : Clause) → slice_get c.clauses i ≡ Some k → IsArrayOf (entry_names ps) scope k
  -- a name occurs once
  pub scalars_once : (i j : ℕ) (h k : Held) → slice_get c.scalars i ≡ Some h → slice_get c.scalars j ≡ Some k → i ≢ j
      → same h.name k.name ≡ false
  pub clauses_once : (i j : ℕ) (k l : Clause) → slice_get c.clauses i ≡ Some k → slice_get c.clauses j ≡ Some l → i ≢ j
      → same k.name l.name ≡ false
  -- the entry symbols are the parameters'
  pub entries : c.entries ≡ length (entry_names ps)
  pub few : c.entries ≤ 8

-- the context at the start of a well typed model and the scope of its parameters
abbrev pub StartIsScoped : Type 0
StartIsScoped = (m : Model) → types.Well m → (scope : Scope) → types.declare_params m.params [] ≡ Ok scope
    → IsScoped m.params scope (start m)

-- What each call makes of a context says of names what the scope after it does.
pub record CallsAreScoped : Type 0 where
  pub fresh : (ps : List Param) (scope : Scope) (c : Context) (top : ℕ) → IsScoped ps scope c
      → IsScoped ps scope (with_top top c)
  pub fact : (ps : List Param) (scope : Scope) (c : Context) (f : LinearForm) → IsScoped ps scope c
      → IsScoped ps scope (with_fact f c)
  pub reserved : (ps : List Param) (scope : Scope) (c : Context) (l : ℕ) → IsScoped ps scope c
      → IsScoped ps scope (with_reserved l c)
  pub back : (ps : List Param) (scope : Scope) (old c : Context) → IsScoped ps scope old → c.entries ≡ old.entries
      → IsScoped ps scope (back_to old c)
  -- a scalar is bound that takes no array's name
  pub bound : (ps : List Param) (scope : Scope) (c : Context) (h : Held) → scalar_may_take (look_up scope h.name) ≡ Ok tt
      → IsScoped ps scope c
      → IsScoped ps (bind h.name (One h.kind) scope) (with_scalar h c)
  -- an array in scope takes a new name
  pub moved : (ps : List Param) (scope : Scope) (c : Context) (a b : Name) (t : Scalar) (n : Len)
      → look_up scope a ≡ Some (Many t n) → look_up scope b ≡ None
      → IsScoped ps scope c → IsScoped ps (bind b (Many t n) scope) (with_clause a (renamed b) c)
  pub counted : (ps : List Param) (scope : Scope) (c : Context) (a : Name) → IsScoped ps scope c
      → IsScoped ps scope (with_clause a written c)
  pub dropped : (ps : List Param) (scope : Scope) (c : Context) (a : Name) → IsScoped ps scope c
      → IsScoped ps scope (without_clause a c)

-- After two blocks that `one` and `two` are the ends of, and before which the context was c: what typing and the conditions at
-- their ends say of the scope after them.
pub record EndsAgree (names : List Name) (scope end_scope after : Scope) (c one two : Context) : Type 0 where
  pub follow_one : Follow c.clauses one.clauses
  pub follow_two : Follow c.clauses two.clauses
  pub once_one : ParamsOnce one.clauses
  pub once_two : ParamsOnce two.clauses
  -- an array whose name at the end is not listed has its name of before
  pub unlisted : (i : ℕ) (k l : Clause) → slice_get c.clauses i ≡ Some k → slice_get one.clauses i ≡ Some l
      → listed l.name names ≡ false → k.name ≡ l.name
  -- the arrays have the types of the end, and the scalars those of before
  pub arrays : (i : ℕ) (l : Clause) → slice_get one.clauses i ≡ Some l → look_up after l.name ≡ look_up end_scope l.name
  pub scalars : (x : Name) (t : Scalar) → look_up scope x ≡ Some (One t) → look_up after x ≡ Some (One t)
  pub no_more : (x : Name) (t : Scalar) → look_up after x ≡ Some (One t) → look_up scope x ≡ Some (One t)

-- What the ends of blocks make of a context says of names what the scope after them does.
pub record EndsAreScoped : Type 0 where
  pub back : (ps : List Param) (scope : Scope) (c end_ : Context) → IsScoped ps scope c → end_.entries ≡ c.entries
      → IsScoped ps scope (restored (standing c) end_)
  pub alike : (ps : List Param) (scope after : Scope) (c : Context) → ((x : Name) → look_up after x ≡ look_up scope x)
      → IsScoped ps scope c → IsScoped ps after c
  pub over : (ps : List Param) (names : List Name) (scope end_scope after : Scope) (c one two : Context)
      → IsScoped ps scope c → IsScoped ps end_scope one
      → EndsAgree names scope end_scope after c one two → IsScoped ps after (with_ends names (standing one) (standing two) c)
