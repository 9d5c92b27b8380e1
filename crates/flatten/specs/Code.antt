-- The three-address code of a command. A local has its place in a list of locals as its variable. The value of an
-- expression goes into a given variable, and what is evaluated on the way into those above it.
use Rattle.std.specs.Prelude.{ℕ, ◌+◌, nat_eq, List, [], ◌∷◌, ◌++◌, map, length, if◌then◌else◌}
use Rattle.bed_syntax.specs.Shape.{cmd_depth, locals_of}
use Rattle.bed_syntax.specs.declared.expression.BExpr.{BExpr, BExpr-F, fold-BExpr}
use Rattle.bed_syntax.specs.declared.expression.BExpr.TheOpen as e
use Rattle.bed_syntax.specs.declared.command.Cmd.{Cmd, Cmd-F, fold-Cmd}
use Rattle.bed_syntax.specs.declared.command.Cmd.TheOpen as c
use Rattle.flat_lang.specs.declared.flat.FStmt.{FStmt}
use Rattle.flat_lang.specs.declared.flat.FStmt.TheVariants as f
use Rattle.flat_lang.specs.declared.flat.Flat.{Flat}

-- the place of a local in a list, which is the list's length where it is not there
abbrev pub place : List ℕ → ℕ → ℕ
place [] x = 0
place (y ∷ ys) x = if nat_eq y x then 0 else place ys x + 1

-- the tables of an expression in order; and its statements, for the variable of its value and the place of its first table
pub record ExprCode : Type 0 where
  pub tables : List (List ℕ)
  pub code : ℕ → ℕ → List FStmt

abbrev pub expr_step : List ℕ → BExpr-F ExprCode → ExprCode
expr_step names (e.Lit n) = record { tables = []; code = λ to k. f.Lit to n ∷ [] }
expr_step names (e.Var x) = record { tables = []; code = λ to k. f.Copy to (place names x) ∷ [] }
expr_step names (e.Bin op a b) =
    record {
      tables = a.tables ++ b.tables;
      code = λ to k. a.code to k ++ (b.code (to + 1) (k + length a.tables) ++ f.Bin op to to (to + 1) ∷ []);
    }
expr_step names (e.Load size a) = record { tables = a.tables; code = λ to k. a.code to k ++ f.Load size to to ∷ [] }
expr_step names (e.Table size bytes i) =
    record { tables = i.tables ++ bytes ∷ []; code = λ to k. i.code to k ++ f.Table size to (k + length i.tables) to ∷ [] }

abbrev pub expr_code : List ℕ → BExpr → ExprCode
expr_code names = fold-BExpr ExprCode (expr_step names)

-- the same of a command, whose expressions begin behind the variables of the locals
pub record CmdCode : Type 0 where
  pub tables : List (List ℕ)
  pub code : ℕ → List FStmt

abbrev pub then_code : CmdCode → CmdCode → CmdCode
then_code a b = record { tables = a.tables ++ b.tables; code = λ k. a.code k ++ b.code (k + length a.tables) }

abbrev pub in_turn : List CmdCode → CmdCode
in_turn [] = record { tables = []; code = λ k. [] }
in_turn (a ∷ rest) = then_code a (in_turn rest)

abbrev pub cmd_step : List ℕ → Cmd-F CmdCode → CmdCode
cmd_step names (c.Set x e) =
    record {
      tables = (expr_code names e).tables;
      code = λ k. (expr_code names e).code (length names) k ++ f.Copy (place names x) (length names) ∷ [];
    }
cmd_step names (c.Store size a e) =
    record {
      tables = (expr_code names a).tables ++ (expr_code names e).tables;
      code = λ k. (expr_code names a).code (length names) k
          ++ ((expr_code names e).code (length names + 1) (k + length (expr_code names a).tables)
          ++ f.Store size (length names) (length names + 1) ∷ []);
    }
cmd_step names (c.Cond e p q) =
    record {
      tables = (expr_code names e).tables ++ (p.tables ++ q.tables);
      code = λ k. (expr_code names e).code (length names) k
          ++ f.If (length names) (p.code (k + length (expr_code names e).tables))
          (q.code (k + length (expr_code names e).tables + length p.tables)) ∷ [];
    }
cmd_step names (c.Seq cs) = in_turn cs
cmd_step names (c.While e p) =
    record {
      tables = (expr_code names e).tables ++ p.tables;
      code = λ k. f.While ((expr_code names e).code (length names) k) (length names)
          (p.code (k + length (expr_code names e).tables)) ∷ [];
    }

abbrev pub cmd_code : List ℕ → Cmd → CmdCode
cmd_code names = fold-Cmd CmdCode (cmd_step names)

-- the whole code
abbrev pub flat_of : Cmd → ℕ → List ℕ → Flat
flat_of c args rets =
    record {
      body = (cmd_code (locals_of c args rets) c).code 0;
      vars = length (locals_of c args rets) + cmd_depth c;
      args = args;
      rets = map (place (locals_of c args rets)) rets;
      tables = (cmd_code (locals_of c args rets) c).tables;
    }
