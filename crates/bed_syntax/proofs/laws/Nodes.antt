-- Folds at the nodes of expressions and commands: what a definition by recursion says of a node is its step at what it says of
-- the parts.
use Rattle.std.proofs.Common.{◌≡◌, sym, ap, ◌∙◌, ℕ, List, map}
use Rattle.bed_syntax.specs.declared.operation.BOp.{BOp}
use Rattle.bed_syntax.specs.declared.operation.Size.{Size}
use Rattle.bed_syntax.specs.declared.expression.BExpr.{BExpr, BExpr-F, fold-BExpr, fold-roll-BExpr}
use Rattle.bed_syntax.specs.declared.expression.BExpr.TheOpen as e
use Rattle.bed_syntax.specs.declared.expression.BExpr.TheVariants as expr
use Rattle.bed_syntax.specs.declared.command.Cmd.{Cmd, Cmd-F, fold-Cmd, fold-roll-Cmd}
use Rattle.bed_syntax.specs.declared.command.Cmd.TheOpen as c
use Rattle.bed_syntax.specs.declared.command.Cmd.TheVariants as cmd

module _ (A : Type 0) (step : BExpr-F A → A) where
  abbrev inside : BExpr → A
  inside = fold-BExpr A step

  pub fold_lit : (n : ℕ) → inside (expr.Lit n) ≡ step (e.Lit n)
  fold_lit n = ap inside (sym (expr.rolls-Lit n)) ∙ fold-roll-BExpr A step (e.Lit n)

  pub fold_var : (x : ℕ) → inside (expr.Var x) ≡ step (e.Var x)
  fold_var x = ap inside (sym (expr.rolls-Var x)) ∙ fold-roll-BExpr A step (e.Var x)

  pub fold_bin : (op : BOp) (a b : BExpr) → inside (expr.Bin op a b) ≡ step (e.Bin op (inside a) (inside b))
  fold_bin op a b = ap inside (sym (expr.rolls-Bin op a b)) ∙ fold-roll-BExpr A step (e.Bin op a b)

  pub fold_load : (size : Size) (a : BExpr) → inside (expr.Load size a) ≡ step (e.Load size (inside a))
  fold_load size a = ap inside (sym (expr.rolls-Load size a)) ∙ fold-roll-BExpr A step (e.Load size a)

  pub fold_table : (size : Size) (bytes : List ℕ) (i : BExpr)
      → inside (expr.Table size bytes i) ≡ step (e.Table size bytes (inside i))
  fold_table size bytes i = ap inside (sym (expr.rolls-Table size bytes i)) ∙ fold-roll-BExpr A step (e.Table size bytes i)

module _ (A : Type 0) (step : Cmd-F A → A) where
  abbrev whole : Cmd → A
  whole = fold-Cmd A step

  pub fold_set : (x : ℕ) (a : BExpr) → whole (cmd.Set x a) ≡ step (c.Set x a)
  fold_set x a = ap whole (sym (cmd.rolls-Set x a)) ∙ fold-roll-Cmd A step (c.Set x a)

  pub fold_store : (size : Size) (a b : BExpr) → whole (cmd.Store size a b) ≡ step (c.Store size a b)
  fold_store size a b = ap whole (sym (cmd.rolls-Store size a b)) ∙ fold-roll-Cmd A step (c.Store size a b)

  pub fold_cond : (a : BExpr) (p q : Cmd) → whole (cmd.Cond a p q) ≡ step (c.Cond a (whole p) (whole q))
  fold_cond a p q = ap whole (sym (cmd.rolls-Cond a p q)) ∙ fold-roll-Cmd A step (c.Cond a p q)

  pub fold_seq : (cs : List Cmd) → whole (cmd.Seq cs) ≡ step (c.Seq (map whole cs))
  fold_seq cs = ap whole (sym (cmd.rolls-Seq cs)) ∙ fold-roll-Cmd A step (c.Seq cs)

  pub fold_while : (a : BExpr) (p : Cmd) → whole (cmd.While a p) ≡ step (c.While a (whole p))
  fold_while a p = ap whole (sym (cmd.rolls-While a p)) ∙ fold-roll-Cmd A step (c.While a p)
