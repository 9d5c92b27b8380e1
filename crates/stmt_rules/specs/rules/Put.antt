-- s-put []: the element of an index gets a value. Condition 4, before the kids: the name is an array's. One certificate: the
-- length less the index and 1. Condition 3: there is room for a further write, as there is in every derivation.
use Rattle.std.specs.Prelude.{ℕ, nat_lt, pos, negsuc, List, [], ◌∷◌, Ok, is_some}
use Rattle.expr_rules.specs.rules.Get.{array}
use Rattle.side_certs.specs.declared.certificate.Cert.{Cert}
use Rattle.model_syntax.specs.Names.{Name}
use Rattle.sym_heap.specs.declared.parts.Clause.{Clause}
use Rattle.sym_heap.specs.Context.{own, with_clause, written}
use Rattle.bed_syntax.specs.declared.expression.BExpr.{BExpr}
use Rattle.bed_syntax.specs.declared.command.Cmd.{roll-Cmd}
use Rattle.bed_syntax.specs.declared.command.Cmd.TheOpen as c
use Rattle.expr_rules.specs.declared.output.ExprOut.{ExprOut}
use Rattle.expr_rules.specs.Elements.{size_of, address}
use Rattle.expr_rules.specs.Words.{Rule, ◌>>=◌, need, found, sum_of, shown, give}
use Rattle.stmt_rules.specs.declared.output.StmtOut.{StmtOut}
use Rattle.stmt_rules.specs.Words.{only}

-- the greatest number of writes
abbrev pub most_writes : ℕ
most_writes = 4294967295

-- the command that stores the element
abbrev pub storing : Clause → BExpr → BExpr → StmtOut
storing k index v = only (roll-Cmd (c.Store (size_of k.size) (address k index) v))

-- the write is counted
abbrev pub counted_write : Name → Rule (Unit {0})
counted_write a c = Ok (tt, with_clause a written c)

abbrev pub element : List Cert → ℕ → Name → Clause → ExprOut → ExprOut → Rule StmtOut
element certs at a k p q = do
  _ ← shown at certs (sum_of (negsuc 0) ((pos 1, k.length) ∷ (negsuc 0, p.form) ∷ []))
  _ ← need (nat_lt k.writes most_writes) at 3
  _ ← counted_write a
  give (storing k p.code q.code)

-- after index and value
abbrev pub after : List Cert → ℕ → Name → ExprOut → ExprOut → Rule StmtOut
after certs at a p q = do
  k ← array at a
  element certs at a k p q
