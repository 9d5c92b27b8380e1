-- s-move []: as s-put, and the array goes on under another name. Condition 5, before the kids too: no other array has that name.
use Rattle.std.specs.Prelude.{ℕ, List, Ok}
use Rattle.expr_rules.specs.rules.Get as get_rule
use Rattle.side_certs.specs.declared.certificate.Cert.{Cert}
use Rattle.model_syntax.specs.Names.{Name}
use Rattle.sym_heap.specs.Context.{can_move, with_clause, renamed}
use Rattle.expr_rules.specs.declared.output.ExprOut.{ExprOut}
use Rattle.expr_rules.specs.Words.{Rule, ◌>>=◌, need, give}
use Rattle.stmt_rules.specs.declared.output.StmtOut.{StmtOut}
use Rattle.stmt_rules.specs.rules.Put as put

-- no other array has the name b
abbrev pub may_take : ℕ → Name → Name → Rule (Unit {0})
may_take at a b c = need (can_move c a b) at 5 c

abbrev pub before : ℕ → Name → Name → Rule (Unit {0})
before at a b = do
  _ ← get_rule.before at a
  may_take at a b

-- the array has the name b
abbrev pub named : Name → Name → Rule (Unit {0})
named a b c = Ok (tt, with_clause a (renamed b) c)

-- after index and value
abbrev pub after : List Cert → ℕ → Name → Name → ExprOut → ExprOut → Rule StmtOut
after certs at a b p q = do
  out ← put.after certs at a p q
  _ ← may_take at a b
  _ ← named a b
  give out
