-- What a definition by recursion says of the trees of the example: its step at what it says of the parts.
use Rattle.std.proofs.Common.{◌≡◌, refl, sym, ◌∙◌, ap, [], ◌∷◌}
use Rattle.std.specs.Prelude.{codes}
use Rattle.model_syntax.specs.Names.{Name}
use Rattle.model_syntax.specs.declared.expr.Op.TheVariants as op
use Rattle.model_syntax.specs.declared.expr.Scalar.TheVariants as scalar
use Rattle.model_syntax.specs.declared.expr.Expr.{Expr, Expr-F, fold-Expr, fold-roll-Expr}
use Rattle.model_syntax.specs.declared.expr.Expr.TheOpen as e
use Rattle.model_syntax.specs.declared.expr.Expr.TheVariants as expr
use Rattle.model_syntax.specs.declared.stmt.Lin.{Lin-F, fold-Lin, fold-roll-Lin}
use Rattle.model_syntax.specs.declared.stmt.Lin.TheOpen as l
use Rattle.model_syntax.specs.declared.stmt.Lin.TheVariants as lin
use Rattle.model_syntax.specs.declared.stmt.Stmt.{Stmt-F, fold-Stmt, fold-roll-Stmt}
use Rattle.model_syntax.specs.declared.stmt.Stmt.TheOpen as s
use Rattle.model_syntax.specs.declared.stmt.Stmt.TheVariants as stmt
use Rattle.bed_syntax.specs.declared.operation.BOp.TheVariants as bop
use Rattle.bed_syntax.specs.declared.operation.Size.TheVariants as size
use Rattle.bed_syntax.specs.declared.expression.BExpr.{BExpr-F, fold-BExpr}
use Rattle.bed_syntax.specs.declared.expression.BExpr.TheOpen as b
use Rattle.bed_syntax.specs.declared.expression.BExpr.TheVariants as bexpr
use Rattle.bed_syntax.specs.declared.command.Cmd.{Cmd-F, fold-Cmd}
use Rattle.bed_syntax.specs.declared.command.Cmd.TheOpen as c
use Rattle.bed_syntax.specs.declared.command.Cmd.TheVariants as cmd
use Rattle.bed_syntax.proofs.laws.Nodes as nodes
use Rattle.model_syntax.proofs.laws.Nodes as terms
use Rattle.rehearsal.specs.Example.{entries, first_byte, looked_up, table, byte_read, place, entry, body}

-- The model.

module _ (A : Type 0) (step : Expr-F A → A) where
  at_get : (a : Name) (p : Expr) → fold-Expr A step (expr.Get a p) ≡ step (e.Get a (fold-Expr A step p))
  at_get a p = ap (fold-Expr A step) (sym (expr.rolls-Get a p)) ∙ fold-roll-Expr A step (e.Get a p)

  at_var : (x : Name) → fold-Expr A step (expr.Var x) ≡ step (e.Var x)
  at_var x = ap (fold-Expr A step) (sym (expr.rolls-Var x)) ∙ fold-roll-Expr A step (e.Var x)

  at_table : (p : Expr) → fold-Expr A step (expr.Tab scalar.Word entries p)
      ≡ step (e.Tab scalar.Word entries (fold-Expr A step p))
  at_table p = ap (fold-Expr A step) (sym (expr.rolls-Tab scalar.Word entries p))
      ∙ fold-roll-Expr A step (e.Tab scalar.Word entries p)

  pub at_first : fold-Expr A step first_byte ≡ step (e.ToWord (step (e.Get (codes "s") (step (e.Lit 0)))))
  at_first = terms.fold_to_word A step (expr.Get (codes "s") (expr.Lit 0))
      ∙ rw (at_get (codes "s") (expr.Lit 0), terms.fold_lit A step 0) refl

  pub at_looked_up : fold-Expr A step looked_up
      ≡ step (e.Tab scalar.Word entries (step (e.Bin op.Remu (step (e.Var (codes "x"))) (step (e.Lit 4)))))
  at_looked_up =
      at_table (expr.Bin op.Remu (expr.Var (codes "x")) (expr.Lit 4))
      ∙ rw (terms.fold_bin A step op.Remu (expr.Var (codes "x")) (expr.Lit 4), at_var (codes "x"), terms.fold_lit A step 4) refl

module _ (A : Type 0) (step : Stmt-F A → A) where
  at_let : (x : Name) (p : Expr) → fold-Stmt A step (stmt.Let x p) ≡ step (s.Let x p)
  at_let x p = ap (fold-Stmt A step) (sym (stmt.rolls-Let x p)) ∙ fold-roll-Stmt A step (s.Let x p)

  pub at_x : fold-Stmt A step (stmt.Let (codes "x") first_byte) ≡ step (s.Let (codes "x") first_byte)
  at_x = at_let (codes "x") first_byte

  pub at_y : fold-Stmt A step (stmt.Let (codes "y") looked_up) ≡ step (s.Let (codes "y") looked_up)
  at_y = at_let (codes "y") looked_up

module _ (A : Type 0) (step : Lin-F A → A) where
  pub at_low : fold-Lin A step (lin.Const 1) ≡ step (l.Const 1)
  at_low = ap (fold-Lin A step) (sym (lin.rolls-Const 1)) ∙ fold-roll-Lin A step (l.Const 1)

  pub at_high : fold-Lin A step (lin.Var (codes "n")) ≡ step (l.Var (codes "n"))
  at_high = ap (fold-Lin A step) (sym (lin.rolls-Var (codes "n"))) ∙ fold-roll-Lin A step (l.Var (codes "n"))

-- The command.

module _ (A : Type 0) (step : BExpr-F A → A) where
  pub at_byte : fold-BExpr A step byte_read ≡ step (b.Load size.One (step (b.Var 0)))
  at_byte = nodes.fold_load A step size.One (bexpr.Var 0) ∙ rw (nodes.fold_var A step 0) refl

  at_remainder : fold-BExpr A step (bexpr.Bin bop.Remu byte_read (bexpr.Lit 4))
      ≡ step (b.Bin bop.Remu (step (b.Load size.One (step (b.Var 0)))) (step (b.Lit 4)))
  at_remainder = nodes.fold_bin A step bop.Remu byte_read (bexpr.Lit 4) ∙ rw (at_byte, nodes.fold_lit A step 4) refl

  pub at_place : fold-BExpr A step place
      ≡ step (b.Bin bop.Mul (step (b.Bin bop.Remu (step (b.Load size.One (step (b.Var 0)))) (step (b.Lit 4)))) (step (b.Lit 4)))
  at_place =
      nodes.fold_bin A step bop.Mul (bexpr.Bin bop.Remu byte_read (bexpr.Lit 4)) (bexpr.Lit 4)
      ∙ rw (at_remainder, nodes.fold_lit A step 4) refl

  pub at_entry : fold-BExpr A step entry ≡ step (b.Table size.Four table
      (step (b.Bin bop.Mul (step (b.Bin bop.Remu (step (b.Load size.One (step (b.Var 0)))) (step (b.Lit 4)))) (step (b.Lit 4)))))
  at_entry = nodes.fold_table A step size.Four table place ∙ rw at_place refl

module _ (A : Type 0) (step : Cmd-F A → A) where
  pub at_body : fold-Cmd A step body ≡ step (c.Seq (step (c.Set 3 entry) ∷ step (c.Set 6 byte_read) ∷ []))
  at_body =
      nodes.fold_seq A step (cmd.Set 3 entry ∷ cmd.Set 6 byte_read ∷ [])
      ∙ rw (nodes.fold_set A step 3 entry, nodes.fold_set A step 6 byte_read) refl
