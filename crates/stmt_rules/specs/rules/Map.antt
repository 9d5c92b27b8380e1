-- s-map [li, lh, lx]: each element of an array a gets the value of the kid, in which it has the name x. Condition 4, before the
-- kid: a names a clause. 5, before it too: the three locals are free and differ. The kid is judged in the context without a's
-- clause, with x in lx at a fresh symbol of the type of elements. The context after is the one before, but that symbols stay and
-- that a has one more write, for which there is room (3). The trip form is the length.
use Rattle.std.specs.Prelude.{ℕ, ℤ, nat_eq, nat_lt, is_some, Bool, not, ◌&&◌, List, [], ◌∷◌, Ok}
use Rattle.model_syntax.specs.Names.{Name}
use Rattle.sym_heap.specs.declared.parts.Clause.{Clause}
use Rattle.sym_heap.specs.Context.{Context, own, without_clause}
use Rattle.sym_heap.specs.Elements.{element_top}
use Rattle.sym_heap.specs.Ends.{Standing, standing, restored}
use Rattle.bed_syntax.specs.declared.expression.BExpr.{BExpr}
use Rattle.bed_syntax.specs.declared.expression.BExpr.TheVariants as b
use Rattle.bed_syntax.specs.declared.command.Cmd.{Cmd, roll-Cmd}
use Rattle.bed_syntax.specs.declared.command.Cmd.TheOpen as c
use Rattle.expr_rules.specs.declared.output.ExprOut.{ExprOut}
use Rattle.expr_rules.specs.Elements.{size_of}
use Rattle.expr_rules.specs.Words.{Rule, ◌>>=◌, need, found, give, fresh}
use Rattle.stmt_rules.specs.declared.loops.ElementLocals.{ElementLocals}
use Rattle.stmt_rules.specs.declared.output.StmtOut.{StmtOut}
use Rattle.stmt_rules.specs.Loops.{local_arg, is_unused, counting, length_code, has_trips, loaded, place_of, element_kind}
use Rattle.stmt_rules.specs.Nesting.{now, placed}
use Rattle.stmt_rules.specs.rules.Put.{most_writes, counted_write}

abbrev pub locals : ℕ → List ℤ → Rule ElementLocals
locals at args = do
  li ← found (local_arg 0 args) at 3
  lh ← found (local_arg 1 args) at 3
  lx ← found (local_arg 2 args) at 3
  give (record { count = li; last = lh; element = lx })

abbrev pub differ : ElementLocals → Bool
differ l = not (nat_eq l.count l.last) && (not (nat_eq l.count l.element) && not (nat_eq l.last l.element))

abbrev pub are_unused : ElementLocals → Context → Bool
are_unused l c = is_unused c l.count && (is_unused c l.last && (is_unused c l.element && differ l))

-- the array of a name, and that the locals are free and differ
abbrev pub array : ℕ → Name → ElementLocals → Rule Clause
array at a l c = (do
  k ← found (own c a) at 4
  _ ← need (are_unused l c) at 5
  give k) c

-- the context has no clause of the name
abbrev pub without : Name → Rule (Unit {0})
without a c = Ok (tt, without_clause a c)

-- which it had before, as it does in every derivation
abbrev pub dropped : ℕ → Name → Rule (Unit {0})
dropped at a c = (do
  _ ← need (is_some (own c a)) at 4
  without a) c

-- an element has a fresh symbol of its type, in a local
abbrev pub named_element : ℕ → Name → ℕ → Clause → Rule (Unit {0})
named_element at x lx k = do
  s ← fresh at (element_top k.size)
  placed x lx s (element_kind k)

-- the kid begins
abbrev pub begins : ℕ → Name → Name → ElementLocals → Clause → Rule (Unit {0})
begins at a x l k = do
  _ ← dropped at a
  named_element at x l.element k

-- the context goes back to what stood before, but for symbols
abbrev pub returned : Standing → Rule (Unit {0})
returned before c = Ok (tt, restored before c)

-- there is room for a further write to the array of a name, which there is in every derivation
abbrev pub room : ℕ → Name → Rule (Unit {0})
room at a c = (do
  k ← found (own c a) at 4
  need (nat_lt k.writes most_writes) at 3) c

-- it goes back, and the write is counted
abbrev pub ends : ℕ → Name → Standing → Rule (Unit {0})
ends at a before = do
  _ ← returned before
  _ ← room at a
  counted_write a

-- a turn: the element is loaded, and the new one stored in its place
abbrev pub turn : ElementLocals → Clause → BExpr → List Cmd
turn l k e = loaded k l.count l.element ∷ roll-Cmd (c.Store (size_of k.size) (place_of k l.count) e) ∷ []

abbrev pub mapping : ElementLocals → Clause → BExpr → BExpr → StmtOut
mapping l k high e = record { cmds = counting l.count l.last (b.Lit 0) high (turn l k e); trips = k.length ∷ [] }

-- after the kid
abbrev pub after : ℕ → Name → ElementLocals → Clause → Standing → BExpr → Rule StmtOut
after at a l k before e = do
  high ← length_code at k
  _ ← has_trips at k
  _ ← ends at a before
  give (mapping l k high e)

-- with the kid
abbrev pub row : ℕ → Name → Name → ElementLocals → Rule ExprOut → Rule StmtOut
row at a x l kid = do
  k ← array at a l
  c ← now
  _ ← begins at a x l k
  p ← kid
  after at a l k (standing c) p.code
