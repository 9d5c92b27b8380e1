-- s-fold [li, lh, lx, ls]: a scalar s gets the value of the kid for each element of an array a, in which that has the name x.
-- Condition 4, before the kid: a names a clause. 5, before it too: li, lh and lx are free, ls is free for s, and all four differ.
-- The kid is judged with s in ls at a fresh symbol of its type, and then
-- x in lx at one of the type of elements. The context after
-- is the one before, but that symbols stay, with s in ls at a further fresh symbol. The trip form is the length.
use Rattle.std.specs.Prelude.{ℕ, ℤ, nat_eq, Bool, not, ◌&&◌, List, [], ◌∷◌, Some}
use Rattle.model_syntax.specs.declared.expr.Scalar.{Scalar}
use Rattle.model_syntax.specs.Names.{Name}
use Rattle.sym_heap.specs.declared.parts.Clause.{Clause}
use Rattle.sym_heap.specs.Context.{Context, scalar, own, is_free, top_of}
use Rattle.sym_heap.specs.Ends.{Standing, standing}
use Rattle.bed_syntax.specs.declared.expression.BExpr.{BExpr}
use Rattle.bed_syntax.specs.declared.expression.BExpr.TheVariants as b
use Rattle.bed_syntax.specs.declared.command.Cmd.{Cmd, roll-Cmd}
use Rattle.bed_syntax.specs.declared.command.Cmd.TheOpen as c
use Rattle.expr_rules.specs.declared.output.ExprOut.{ExprOut}
use Rattle.expr_rules.specs.Words.{Rule, ◌>>=◌, need, found, give, fresh}
use Rattle.stmt_rules.specs.declared.loops.FoldLocals.{FoldLocals}
use Rattle.stmt_rules.specs.declared.output.StmtOut.{StmtOut}
use Rattle.stmt_rules.specs.Loops.{local_arg, counting, length_code, has_trips, loaded}
use Rattle.stmt_rules.specs.Nesting.{now, placed}
use Rattle.stmt_rules.specs.rules.Map as map

abbrev pub locals : ℕ → List ℤ → Rule FoldLocals
locals at args = do
  l ← map.locals at args
  ls ← found (local_arg 3 args) at 3
  give (record { turn = l; so_far = ls })

-- the scalar's local is none of those
abbrev pub differ : FoldLocals → Bool
differ l = not (nat_eq l.turn.count l.so_far) && (not (nat_eq l.turn.last l.so_far) && not (nat_eq l.turn.element l.so_far))

abbrev pub are_unused : Name → FoldLocals → Context → Bool
are_unused s l c = map.are_unused l.turn c && (is_free c l.so_far (Some s) && differ l)

-- the array of a name, and that the locals are free and differ
abbrev pub array : ℕ → Name → Name → FoldLocals → Rule Clause
array at s a l c = (do
  k ← found (own c a) at 4
  _ ← need (are_unused s l c) at 5
  give k) c

-- local and type of the scalar, which there is in every well typed model
abbrev pub start : ℕ → Name → Rule (ℕ × Scalar)
start at s c = (do
  h ← found (scalar c s) at 1
  give (h.local, h.kind)) c

-- the scalar has a fresh symbol, in its local of the fold
abbrev pub renamed : ℕ → Name → FoldLocals → Scalar → Rule (Unit {0})
renamed at s l t = do
  f ← fresh at (top_of t)
  placed s l.so_far f t

-- the kid begins
abbrev pub begins : ℕ → Name → Name → FoldLocals → Clause → Scalar → Rule (Unit {0})
begins at s x l k t = do
  _ ← renamed at s l t
  map.named_element at x l.turn.element k

-- the context goes back, and the scalar has a further symbol
abbrev pub ends : ℕ → Name → FoldLocals → Scalar → Standing → Rule (Unit {0})
ends at s l t before = do
  _ ← map.returned before
  renamed at s l t

-- a turn: the element is loaded, and the scalar set
abbrev pub turn : FoldLocals → Clause → BExpr → List Cmd
turn l k e = loaded k l.turn.count l.turn.element ∷ roll-Cmd (c.Set l.so_far e) ∷ []

-- the scalar starts as what was in the local v
abbrev pub folding : FoldLocals → Clause → ℕ → BExpr → BExpr → StmtOut
folding l k v high e = record {
  cmds = roll-Cmd (c.Set l.so_far (b.Var v)) ∷ counting l.turn.count l.turn.last (b.Lit 0) high (turn l k e);
  trips = k.length ∷ [];
}

-- after the kid
abbrev pub after : ℕ → Name → FoldLocals → Clause → ℕ × Scalar → Standing → BExpr → Rule StmtOut
after at s l k first before e = do
  high ← length_code at k
  _ ← has_trips at k
  _ ← ends at s l first.1 before
  give (folding l k first.0 high e)

-- with the kid
abbrev pub row : ℕ → Name → Name → Name → FoldLocals → Rule ExprOut → Rule StmtOut
row at s a x l kid = do
  k ← array at s a l
  first ← start at s
  c ← now
  _ ← begins at s x l k first.1
  p ← kid
  after at s l k first (standing c) p.code
