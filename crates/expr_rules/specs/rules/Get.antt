-- e-get: an element of an array, which is at most the greatest byte or word. Condition 4, before the kid: the name is an array's.
-- One certificate: the length less the index and 1.
use Rattle.std.specs.Prelude.{ℕ, pos, negsuc, List, [], ◌∷◌, is_some}
use Rattle.side_certs.specs.declared.certificate.Cert.{Cert}
use Rattle.model_syntax.specs.Names.{Name}
use Rattle.sym_heap.specs.declared.parts.Clause.{Clause}
use Rattle.sym_heap.specs.Context.{own}
use Rattle.sym_heap.specs.Elements.{element_top}
use Rattle.bed_syntax.specs.declared.expression.BExpr.{BExpr}
use Rattle.bed_syntax.specs.declared.expression.BExpr.TheVariants as b
use Rattle.expr_rules.specs.declared.output.ExprOut.{ExprOut}
use Rattle.expr_rules.specs.Elements.{size_of, address}
use Rattle.expr_rules.specs.Words.{Rule, ◌>>=◌, need, found, sum_of, shown, fresh_result}

-- the name is an array's
abbrev pub before : ℕ → Name → Rule (Unit {0})
before at a c = need (is_some (own c a)) at 4 c

abbrev pub code : Clause → BExpr → BExpr
code k index = b.Load (size_of k.size) (address k index)

abbrev pub element : List Cert → ℕ → Clause → ExprOut → Rule ExprOut
element certs at k p = do
  _ ← shown at certs (sum_of (negsuc 0) ((pos 1, k.length) ∷ (negsuc 0, p.form) ∷ []))
  fresh_result at (element_top k.size) (code k p.code)

-- the kid has left the clauses as they were
abbrev pub array : ℕ → Name → Rule Clause
array at a c = found (own c a) at 4 c

abbrev pub after : List Cert → ℕ → Name → ExprOut → Rule ExprOut
after certs at a p = do
  k ← array at a
  element certs at k p
