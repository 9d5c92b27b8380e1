-- What a command weighs by a table of weights. It is also what the evaluation of an expression costs.
use Rattle.std.specs.Prelude.{◌≡◌, ℕ, ◌+◌, ◌≤◌, sum}
use Rattle.bed_syntax.specs.declared.weights.Weights.{Weights}
use Rattle.bed_syntax.specs.declared.expression.BExpr.{BExpr, BExpr-F, fold-BExpr}
use Rattle.bed_syntax.specs.declared.expression.BExpr.TheOpen as e
use Rattle.bed_syntax.specs.declared.command.Cmd.{Cmd, Cmd-F, fold-Cmd}
use Rattle.bed_syntax.specs.declared.command.Cmd.TheOpen as c

-- no weight is over 64, and a set weighs what a variable weighs
pub record IsLawful (w : Weights) : Type 0 where
  pub literal : w.literal ≤ 64
  pub variable : w.variable ≤ 64
  pub operation : w.operation ≤ 64
  pub load : w.load ≤ 64
  pub table : w.table ≤ 64
  pub set : w.set ≤ 64
  pub store : w.store ≤ 64
  pub test : w.test ≤ 64
  pub turn : w.turn ≤ 64
  pub entry : w.entry ≤ 64
  pub same : w.variable ≡ w.set

abbrev pub expr_weight_step : Weights → BExpr-F ℕ → ℕ
expr_weight_step w (e.Lit n) = w.literal
expr_weight_step w (e.Var x) = w.variable
expr_weight_step w (e.Bin op a b) = a + b + w.operation
expr_weight_step w (e.Load size a) = a + w.load
expr_weight_step w (e.Table size bytes i) = i + w.table

-- the sum over the nodes of an expression
abbrev pub expr_weight : Weights → BExpr → ℕ
expr_weight w = fold-BExpr ℕ (expr_weight_step w)

-- a Seq adds nothing, and both sides of a conditional count
abbrev pub cmd_weight_step : Weights → Cmd-F ℕ → ℕ
cmd_weight_step w (c.Set x e) = expr_weight w e + w.set
cmd_weight_step w (c.Store size a e) = expr_weight w a + expr_weight w e + w.store
cmd_weight_step w (c.Cond e p q) = expr_weight w e + w.test + p + q
cmd_weight_step w (c.Seq cs) = sum cs
cmd_weight_step w (c.While e p) = expr_weight w e + w.turn + p

-- the sum over the nodes of a command, without the entry
abbrev pub cmd_weight : Weights → Cmd → ℕ
cmd_weight w = fold-Cmd ℕ (cmd_weight_step w)
