-- s-let [l]: the expression's value goes to local l. Condition 4, after the expression: l is free for the name.
use Rattle.std.specs.Prelude.{ℕ, Some, Ok}
use Rattle.side_certs.specs.LinearForm.{LinearForm}
use Rattle.model_syntax.specs.declared.expr.Scalar.{Scalar}
use Rattle.model_syntax.specs.Names.{Name}
use Rattle.sym_heap.specs.Context.{held, is_free, with_scalar}
use Rattle.bed_syntax.specs.declared.expression.BExpr.{BExpr}
use Rattle.bed_syntax.specs.declared.command.Cmd.{roll-Cmd}
use Rattle.bed_syntax.specs.declared.command.Cmd.TheOpen as c
use Rattle.expr_rules.specs.declared.output.ExprOut.{ExprOut}
use Rattle.expr_rules.specs.Words.{Rule, ◌>>=◌, need, give}
use Rattle.stmt_rules.specs.declared.output.StmtOut.{StmtOut}
use Rattle.stmt_rules.specs.Words.{only}

-- the name's scalar has this local, form and type
abbrev pub bound : Name → ℕ → LinearForm → Scalar → Rule (Unit {0})
bound x l f t before = Ok (tt, with_scalar (held x l f t) before)

-- the command that sets the local
abbrev pub setting : ℕ → BExpr → StmtOut
setting l e = only (roll-Cmd (c.Set l e))

-- after the expression, whose type is t
abbrev pub after : ℕ → Name → ℕ → Scalar → ExprOut → Rule StmtOut
after at x l t p before = (do
  _ ← need (is_free before l (Some x)) at 4
  _ ← bound x l p.form t
  give (setting l p.code)) before
