-- The code of an expression is small: five nodes and one table at most for each node of its derivation, and no more bytes of
-- tables than the expression has.
use Rattle.std.specs.Prelude.{ℕ, ◌*◌, ◌≤◌, length, map, sum}
use Rattle.model_syntax.specs.declared.expr.Expr.{Expr}
use Rattle.model_syntax.specs.Limits as limits
use Rattle.sym_heap.specs.Context.{Context}
use Rattle.equations.specs.Book.{Turn, Laws}
use Rattle.deriv_tree.specs.Measure as derivation
use Rattle.deriv_tree.specs.declared.tree.ExprNode.{ExprNode}
use Rattle.bed_syntax.specs.Shape.{expr_size}
use Rattle.bed_syntax.specs.Tables.{expr_tables}
use Rattle.expr_rules.specs.declared.output.ExprOut.{ExprOut}
use Rattle.expr_rules.specs.Row.{row}
use Rattle.expr_rules.specs.Sound.{Yields}

pub record IsSmallCode (e : Expr) (nodes : ℕ) (out : ExprOut) : Type 0 where
  pub size : expr_size out.code ≤ 5 * nodes
  pub tables : length (expr_tables out.code) ≤ nodes
  pub table_bytes : sum (map length (expr_tables out.code)) ≤ limits.expr_tables e

-- with the equations of every book, whatever a derivation gives has small code
abbrev pub CodesAreSmall : Type 0
CodesAreSmall =
    (turn : Turn) → Laws turn → (node : ExprNode) (at : ℕ) (e : Expr) (c : Context)
    → Yields (λ out after. IsSmallCode e (derivation.expr_size node) out) (row turn node at e c)
