-- The tables of a command.
use Rattle.std.specs.Prelude.{ℕ, List, [], ◌∷◌, ◌++◌}
use Rattle.rup_base.specs.Gather.{joined}
use Rattle.bed_syntax.specs.declared.expression.BExpr.{BExpr, BExpr-F, fold-BExpr}
use Rattle.bed_syntax.specs.declared.expression.BExpr.TheOpen as e
use Rattle.bed_syntax.specs.declared.command.Cmd.{Cmd, Cmd-F, fold-Cmd}
use Rattle.bed_syntax.specs.declared.command.Cmd.TheOpen as c

-- the bytes of each look-up in an expression, once for each, from left to right and after those inside it
abbrev pub expr_tables_step : BExpr-F (List (List ℕ)) → List (List ℕ)
expr_tables_step (e.Lit n) = []
expr_tables_step (e.Var x) = []
expr_tables_step (e.Bin op a b) = a ++ b
expr_tables_step (e.Load size a) = a
expr_tables_step (e.Table size bytes i) = i ++ bytes ∷ []

abbrev pub expr_tables : BExpr → List (List ℕ)
expr_tables = fold-BExpr (List (List ℕ)) expr_tables_step

-- the same in a command, a test before what it decides
abbrev pub cmd_tables_step : Cmd-F (List (List ℕ)) → List (List ℕ)
cmd_tables_step (c.Set x e) = expr_tables e
cmd_tables_step (c.Store size a e) = expr_tables a ++ expr_tables e
cmd_tables_step (c.Cond e p q) = expr_tables e ++ (p ++ q)
cmd_tables_step (c.Seq cs) = joined cs
cmd_tables_step (c.While e p) = expr_tables e ++ p

abbrev pub cmd_tables : Cmd → List (List ℕ)
cmd_tables = fold-Cmd (List (List ℕ)) cmd_tables_step
