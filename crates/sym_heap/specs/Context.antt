-- Contexts: what is known at a point of a model, and what each call makes of it.
use Rattle.std.specs.Prelude.{ℕ, ◌+◌, nat_eq, nat_lt, Bool, not, ◌&&◌, ◌||◌, List, [], ◌∷◌, ◌++◌, length, Option, Some, None}
use Rattle.std.specs.Prelude.{is_some, if◌then◌else◌}
use Rattle.std.specs.List.{find, list_any, list_all}
use Rattle.side_certs.specs.LinearForm.{LinearForm}
use Rattle.model_syntax.specs.declared.expr.Scalar.{Scalar}
use Rattle.model_syntax.specs.declared.expr.Scalar.TheVariants.{Word, Byte, Flag}
use Rattle.model_syntax.specs.Names.{Name, same}
use Rattle.sym_heap.specs.declared.parts.Held.{Held}
use Rattle.sym_heap.specs.declared.parts.Clause.{Clause}

-- the scalars in scope; the arrays, one for each array parameter; the forms that are at least 0; the greatest number of
-- each symbol; the number of entry symbols, which are the first; and the locals that no scalar may take
pub record Context : Type 0 where
  pub scalars : List Held
  pub clauses : List Clause
  pub facts : List LinearForm
  pub tops : List ℕ
  pub entries : ℕ
  pub reserved : List ℕ

-- the greatest number of symbols
abbrev pub most_symbols : ℕ
most_symbols = 4294967295

-- the greatest number of facts
abbrev pub most_facts : ℕ
most_facts = 4096

-- the greatest number of a word, a byte and a flag
abbrev pub top_of : Scalar → ℕ
top_of Word = 4294967295
top_of Byte = 255
top_of Flag = 1

-- Names.

abbrev pub is_scalar : Name → Held → Bool
is_scalar x h = same h.name x

abbrev pub is_clause : Name → Clause → Bool
is_clause a k = same k.name a

-- the scalar of a name
abbrev pub scalar : Context → Name → Option Held
scalar c x = find (is_scalar x) c.scalars

-- the clause that a name owns
abbrev pub own : Context → Name → Option Clause
own c a = find (is_clause a) c.clauses

-- Lists.

-- the first element that passes the test is changed
abbrev pub change_first : {A : Type 0} → (A → Bool) → (A → A) → List A → List A
change_first test change [] = []
change_first test change (x ∷ xs) = if test x then change x ∷ xs else x ∷ change_first test change xs

-- the new element stands for the first that passes the test, or last where none does
abbrev pub put_first : {A : Type 0} → (A → Bool) → A → List A → List A
put_first test new [] = new ∷ []
put_first test new (x ∷ xs) = if test x then new ∷ xs else x ∷ put_first test new xs

-- the first element that passes the test is taken out
abbrev pub without_first : {A : Type 0} → (A → Bool) → List A → List A
without_first test [] = []
without_first test (x ∷ xs) = if test x then xs else x ∷ without_first test xs

abbrev pub has : ℕ → List ℕ → Bool
has n ns = list_any (λ k. nat_eq k n) ns

-- Locals.

-- the scalar leaves the local free for a name, or free where no name is given
abbrev pub leaves_free : ℕ → Option Name → Held → Bool
leaves_free l None h = not (nat_eq h.local l)
leaves_free l (Some x) h = not (nat_eq h.local l) || same h.name x

-- the local is not reserved, and no scalar has it but that of the name, where one is given
abbrev pub is_free : Context → ℕ → Option Name → Bool
is_free c l x = not (has l c.reserved) && list_all (leaves_free l x) c.scalars

-- What the calls make of a context.

abbrev pub held : Name → ℕ → LinearForm → Scalar → Held
held x l f t = record { name = x; local = l; form = f; kind = t }

-- a further symbol with its top
abbrev pub with_top : ℕ → Context → Context
with_top top c = record c { tops = c.tops ++ top ∷ [] }

-- there is room for a further symbol
abbrev pub has_symbol : Context → Bool
has_symbol c = nat_lt (length c.tops) most_symbols

-- the number of a further symbol, if there is room for one
abbrev pub next_symbol : Context → Option ℕ
next_symbol c = if has_symbol c then Some (length c.tops) else None

-- the scalar of this name, in place of any that it had
abbrev pub with_scalar : Held → Context → Context
with_scalar h c = record c { scalars = put_first (is_scalar h.name) h c.scalars }

-- a further fact
abbrev pub with_fact : LinearForm → Context → Context
with_fact f c = record c { facts = c.facts ++ f ∷ [] }

-- there is room for a further fact
abbrev pub has_room : Context → Bool
has_room c = nat_lt (length c.facts) most_facts

-- a further reserved local
abbrev pub with_reserved : ℕ → Context → Context
with_reserved l c = record c { reserved = c.reserved ++ l ∷ [] }

-- the clause with another name
abbrev pub renamed : Name → Clause → Clause
renamed b k = record k { name = b }

-- the clause with one more write
abbrev pub written : Clause → Clause
written k = record k { writes = k.writes + 1 }

-- the clause of a name is changed
abbrev pub with_clause : Name → (Clause → Clause) → Context → Context
with_clause a change c = record c { clauses = change_first (is_clause a) change c.clauses }

-- the context has no clause of the name
abbrev pub without_clause : Name → Context → Context
without_clause a c = record c { clauses = without_first (is_clause a) c.clauses }

-- `a` names a clause, and `b` names no other
abbrev pub can_move : Context → Name → Name → Bool
can_move c a b = is_some (own c a) && (same a b || not (is_some (own c b)))

-- all but the symbols and their tops is as in the old context
abbrev pub back_to : Context → Context → Context
back_to old c = record old { tops = c.tops; entries = c.entries }
