-- What a model has a limit of: statements, the depth of expressions and of blocks, and the bytes of its tables.
use Rattle.std.specs.Prelude.{ℕ, ◌+◌, ◌*◌, ◌≤◌, max, min, nat_le, map, sum, length, Option, Some, None, if◌then◌else◌}
use Rattle.rup_base.specs.Word.{counted}
use Rattle.rup_base.specs.Gather.{greatest}
use Rattle.rup_base.specs.declared.refusal.Limit.{Limit}
use Rattle.rup_base.specs.declared.refusal.Limit.TheVariants as limit
use Rattle.model_syntax.specs.declared.expr.Scalar.{Scalar}
use Rattle.model_syntax.specs.declared.expr.Scalar.TheVariants.{Word, Byte, Flag}
use Rattle.model_syntax.specs.declared.expr.Expr.{Expr, Expr-F, fold-Expr}
use Rattle.model_syntax.specs.declared.expr.Expr.TheOpen as e
use Rattle.model_syntax.specs.declared.stmt.Stmt.{Stmt, Stmt-F, fold-Stmt}
use Rattle.model_syntax.specs.declared.stmt.Stmt.TheOpen as s
use Rattle.model_syntax.specs.declared.program.Model.{Model}

-- a number, a name or a length has depth 1, another expression one more than what is inside it
abbrev pub expr_depth_step : Expr-F ℕ → ℕ
expr_depth_step (e.Lit n) = 1
expr_depth_step (e.Var x) = 1
expr_depth_step (e.Length a) = 1
expr_depth_step (e.Bin op p q) = max p q + 1
expr_depth_step (e.Test cmp p q) = max p q + 1
expr_depth_step (e.Not p) = p + 1
expr_depth_step (e.Both p q) = max p q + 1
expr_depth_step (e.Either p q) = max p q + 1
expr_depth_step (e.ToWord p) = p + 1
expr_depth_step (e.ToByte p) = p + 1
expr_depth_step (e.Get a p) = p + 1
expr_depth_step (e.Tab t ns p) = p + 1

abbrev pub expr_depth : Expr → ℕ
expr_depth = fold-Expr ℕ expr_depth_step

-- the bytes of a table entry; no table has flags
abbrev pub entry_bytes : Scalar → ℕ
entry_bytes Word = 4
entry_bytes Byte = 1
entry_bytes Flag = 0

-- the bytes of the tables in an expression
abbrev pub expr_tables_step : Expr-F ℕ → ℕ
expr_tables_step (e.Lit n) = 0
expr_tables_step (e.Var x) = 0
expr_tables_step (e.Length a) = 0
expr_tables_step (e.Bin op p q) = p + q
expr_tables_step (e.Test cmp p q) = p + q
expr_tables_step (e.Not p) = p
expr_tables_step (e.Both p q) = p + q
expr_tables_step (e.Either p q) = p + q
expr_tables_step (e.ToWord p) = p
expr_tables_step (e.ToByte p) = p
expr_tables_step (e.Get a p) = p
expr_tables_step (e.Tab t ns p) = entry_bytes t * length ns + p

abbrev pub expr_tables : Expr → ℕ
expr_tables = fold-Expr ℕ expr_tables_step

-- the statements, inner ones too
abbrev pub stmt_count_step : Stmt-F ℕ → ℕ
stmt_count_step (s.Let x a) = 1
stmt_count_step (s.Put a i v) = 1
stmt_count_step (s.Move b a i v) = 1
stmt_count_step (s.If test xs keep first second) = sum first + sum second + 1
stmt_count_step (s.For x low high xs keep body) = sum body + 1
stmt_count_step (s.Map a x v) = 1
stmt_count_step (s.Fold t a x v) = 1

abbrev pub stmt_count : Stmt → ℕ
stmt_count = fold-Stmt ℕ stmt_count_step

-- the greatest depth of an expression in a statement
abbrev pub stmt_depth_step : Stmt-F ℕ → ℕ
stmt_depth_step (s.Let x a) = expr_depth a
stmt_depth_step (s.Put a i v) = max (expr_depth i) (expr_depth v)
stmt_depth_step (s.Move b a i v) = max (expr_depth i) (expr_depth v)
stmt_depth_step (s.If test xs keep first second) = max (expr_depth test) (max (greatest first) (greatest second))
stmt_depth_step (s.For x low high xs keep body) = max (max (expr_depth low) (expr_depth high)) (greatest body)
stmt_depth_step (s.Map a x v) = expr_depth v
stmt_depth_step (s.Fold t a x v) = expr_depth v

abbrev pub stmt_depth : Stmt → ℕ
stmt_depth = fold-Stmt ℕ stmt_depth_step

-- the depth of the blocks in a statement, 0 where it has none
abbrev pub stmt_blocks_step : Stmt-F ℕ → ℕ
stmt_blocks_step (s.Let x a) = 0
stmt_blocks_step (s.Put a i v) = 0
stmt_blocks_step (s.Move b a i v) = 0
stmt_blocks_step (s.If test xs keep first second) = max (greatest first) (greatest second) + 1
stmt_blocks_step (s.For x low high xs keep body) = greatest body + 1
stmt_blocks_step (s.Map a x v) = 0
stmt_blocks_step (s.Fold t a x v) = 0

abbrev pub stmt_blocks : Stmt → ℕ
stmt_blocks = fold-Stmt ℕ stmt_blocks_step

-- the bytes of the tables in a statement
abbrev pub stmt_tables_step : Stmt-F ℕ → ℕ
stmt_tables_step (s.Let x a) = expr_tables a
stmt_tables_step (s.Put a i v) = expr_tables i + expr_tables v
stmt_tables_step (s.Move b a i v) = expr_tables i + expr_tables v
stmt_tables_step (s.If test xs keep first second) = expr_tables test + sum first + sum second
stmt_tables_step (s.For x low high xs keep body) = expr_tables low + expr_tables high + sum body
stmt_tables_step (s.Map a x v) = expr_tables v
stmt_tables_step (s.Fold t a x v) = expr_tables v

abbrev pub stmt_tables : Stmt → ℕ
stmt_tables = fold-Stmt ℕ stmt_tables_step

-- all statements of a model
abbrev pub statements : Model → ℕ
statements m = sum (map stmt_count m.body)

-- the greatest depth of its expressions, 0 where it has none
abbrev pub depth : Model → ℕ
depth m = greatest (map stmt_depth m.body)

-- the depth of its blocks; the outer one has depth 1
abbrev pub blocks : Model → ℕ
blocks m = greatest (map stmt_blocks m.body) + 1

-- the bytes of all its tables
abbrev pub tables : Model → ℕ
tables m = sum (map stmt_tables m.body)

-- the number after k, likewise
abbrev pub next : ℕ → ℕ
next k = counted (k + 1)

-- the first limit that a model passes, with what it has
abbrev pub over_limit : Model → Option (Limit × ℕ)
over_limit m =
    if nat_le (statements m) 2000
    then (if nat_le (depth m) 64
    then (if nat_le (blocks m) 16
    then (if nat_le (tables m) 65536 then None else Some (limit.Tables, counted (tables m)))
    else Some (limit.Blocks, counted (blocks m)))
    else Some (limit.Depth, counted (depth m)))
    else Some (limit.Statements, counted (statements m))

-- the model passes no limit
pub record Within (m : Model) : Type 0 where
  pub few_statements : statements m ≤ 2000
  pub shallow_expressions : depth m ≤ 64
  pub shallow_blocks : blocks m ≤ 16
  pub small_tables : tables m ≤ 65536
