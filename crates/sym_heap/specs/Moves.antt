-- What a part of a derivation makes of a context, whatever state it runs in.
use Rattle.std.specs.Prelude.{◌≡◌, ℕ, ◌≤◌, true, List, [], ◌∷◌, length, take, slice_get, Option, Some, None}
use Rattle.side_certs.specs.LinearForm.{LinearForm}
use Rattle.model_syntax.specs.Names.{Name}
use Rattle.sym_heap.specs.declared.parts.Held.{Held}
use Rattle.sym_heap.specs.declared.parts.Clause.{Clause}
use Rattle.sym_heap.specs.Context.{Context, scalar, has, is_free, with_top, with_scalar, with_fact, with_clause, renamed, written}
use Rattle.sym_heap.specs.Context.{back_to}
use Rattle.sym_heap.specs.Fits.{IsConsistent}
use Rattle.sym_heap.specs.Ends.{of_param, standing, restored, with_ends}

-- the array of the same parameter, later: where it stands and its length are as before, writes never fall, and with as many
-- writes it has its name
pub record IsSameArray (before after : Clause) : Type 0 where
  pub param : after.param ≡ before.param
  pub size : after.size ≡ before.size
  pub pointer : after.pointer ≡ before.pointer
  pub length_same : after.length ≡ before.length
  pub length_local : after.length_local ≡ before.length_local
  pub writes : before.writes ≤ after.writes
  pub name : after.writes ≡ before.writes → after.name ≡ before.name

-- the clauses follow one another in the order of the parameters, whatever their names
abbrev pub Follow : List Clause → List Clause → Type 0
Follow [] [] = Unit {0}
Follow (k ∷ ks) (l ∷ ls) = IsSameArray k l × Follow ks ls
Follow ks ls = ⊥

-- the local of a scalar
abbrev pub local_of : Option Held → Option ℕ
local_of None = None
local_of (Some h) = Some h.local

pub record Moves (before after : Context) : Type 0 where
  pub arrays : Follow before.clauses after.clauses
  -- what is bound in a reserved local was there before, in that local
  pub locals : (x : Name) (h : Held) → scalar after x ≡ Some h → has h.local before.reserved ≡ true
      → local_of (scalar before x) ≡ Some h.local
  -- nothing is reserved for good; facts and symbols are added at the end
  pub reserved : after.reserved ≡ before.reserved
  pub facts : take (length before.facts) after.facts ≡ before.facts
  pub tops : take (length before.tops) after.tops ≡ before.tops
  pub entries : after.entries ≡ before.entries

-- the end of a block, which began with further facts and reserved locals
pub record Began (before end_ : Context) : Type 0 where
  pub reserved : take (length before.reserved) end_.reserved ≡ before.reserved
  pub facts : take (length before.facts) end_.facts ≡ before.facts
  pub tops : take (length before.tops) end_.tops ≡ before.tops
  pub entries : end_.entries ≡ before.entries

-- each clause is the one of its parameter
abbrev pub ParamsOnce : List Clause → Type 0
ParamsOnce ks = (i : ℕ) (k : Clause) → slice_get ks i ≡ Some k → of_param k.param ks ≡ Some k

-- What the calls make of a context.
pub record CallsMove : Type 0 where
  pub stays : (c : Context) → Moves c c
  pub goes_on : (c d e : Context) → Moves c d → Moves d e → Moves c e
  pub fresh : (c : Context) (top : ℕ) → Moves c (with_top top c)
  pub fact : (c : Context) (f : LinearForm) → Moves c (with_fact f c)
  pub bound : (c : Context) (h : Held) → is_free c h.local (Some h.name) ≡ true → Moves c (with_scalar h c)
  pub counted : (c : Context) (a : Name) → Moves c (with_clause a written c)
  -- an array takes a new name with a write
  pub moved : (c : Context) (a b : Name) → Moves c (with_clause a (renamed b) (with_clause a written c))
  pub params_once : (c : Context) → IsConsistent c → ParamsOnce c.clauses
  -- after a block all but symbols and tops is as it was, and so it stays where listed arrays take over what they are at ends
  pub back : (c end_ : Context) → Began c end_
      → (restored (standing c) end_ ≡ back_to c end_) × Moves c (restored (standing c) end_)
  pub over : (names : List Name) (c one two : Context) → ParamsOnce c.clauses → Follow c.clauses one.clauses
      → Moves c (with_ends names (standing one) (standing two) c)
