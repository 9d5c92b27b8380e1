-- Ends of blocks: what a context goes back to, and what the arrays that a statement lists keep of an end.
use Rattle.std.specs.Prelude.{ℕ, nat_eq, nat_lt, Bool, List, length, map, take, Option, Some, if◌then◌else◌}
use Rattle.std.specs.List.{find}
use Rattle.model_syntax.specs.Names.{Name, listed}
use Rattle.sym_heap.specs.declared.parts.Held.{Held}
use Rattle.sym_heap.specs.declared.parts.Clause.{Clause}
use Rattle.sym_heap.specs.Context.{Context}

-- the scalars and clauses at a point, and how many facts and reserved locals there were: of these none is taken back
-- but by an end
pub record Standing : Type 0 where
  pub scalars : List Held
  pub clauses : List Clause
  pub facts : ℕ
  pub reserved : ℕ

-- what stands at a point
abbrev pub standing : Context → Standing
standing c = record { scalars = c.scalars; clauses = c.clauses; facts = length c.facts; reserved = length c.reserved }

-- scalars and clauses are those that stood, facts and reserved locals the first so many; symbols and tops stay
abbrev pub restored : Standing → Context → Context
restored s c = record c {
  scalars = s.scalars;
  clauses = s.clauses;
  facts = take s.facts c.facts;
  reserved = take s.reserved c.reserved;
}

-- Arrays at ends.

-- the clause of the array parameter of this number
abbrev pub is_of : ℕ → Clause → Bool
is_of p k = nat_eq k.param p

abbrev pub of_param : ℕ → List Clause → Option Clause
of_param p ks = find (is_of p) ks

abbrev pub greater : ℕ → ℕ → ℕ
greater n m = if nat_lt n m then m else n

-- the clause with the name of the first end and the greater writes of both, where that name is listed
abbrev pub taken_over : List Name → Option Clause → Option Clause → Clause → Clause
taken_over names (Some one) (Some two) k =
    if listed one.name names then record k { name = one.name; writes = greater one.writes two.writes } else k
taken_over names one two k = k

-- a clause after two blocks, of which it is that before
abbrev pub at_ends : List Name → Standing → Standing → Clause → Clause
at_ends names one two k = taken_over names (of_param k.param one.clauses) (of_param k.param two.clauses) k

-- arrays that have a listed name at the ends have it, and the greater writes; after one block both ends are its end
abbrev pub with_ends : List Name → Standing → Standing → Context → Context
with_ends names one two c = record c { clauses = map (at_ends names one two) c.clauses }
