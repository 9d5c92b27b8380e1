-- What three-address code weighs, the instructions that it names, and how many statements it has.
use Rattle.std.specs.Prelude.{ℕ, ◌+◌, sum, map, List, [], ◌++◌}
use Rattle.rup_base.specs.Gather.{joined}
use Rattle.bed_syntax.specs.Named.{Name, op_names, load_names, store_names}
use Rattle.bed_syntax.specs.declared.weights.Weights.{Weights}
use Rattle.flat_lang.specs.declared.flat.FStmt.{FStmt, FStmt-F, fold-FStmt}
use Rattle.flat_lang.specs.declared.flat.FStmt.TheOpen as f

-- the names of a statement: what is done before a test, then the body, and the sides in their order
abbrev pub stmt_names_step : FStmt-F (List Name) → List Name
stmt_names_step (f.Lit x n) = []
stmt_names_step (f.Copy x y) = []
stmt_names_step (f.Bin op x y z) = op_names op
stmt_names_step (f.Load size x y) = load_names size
stmt_names_step (f.Table size x k y) = load_names size
stmt_names_step (f.Store size x y) = store_names size
stmt_names_step (f.If x a b) = joined a ++ joined b
stmt_names_step (f.While a x b) = joined a ++ joined b

abbrev pub stmt_names : FStmt → List Name
stmt_names = fold-FStmt (List Name) stmt_names_step

abbrev pub code_names : List FStmt → List Name
code_names body = joined (map stmt_names body)

-- each statement has the weight of its node; that of a copy is a variable's
abbrev pub stmt_weight_step : Weights → FStmt-F ℕ → ℕ
stmt_weight_step w (f.Lit x n) = w.literal
stmt_weight_step w (f.Copy x y) = w.variable
stmt_weight_step w (f.Bin op x y z) = w.operation
stmt_weight_step w (f.Load size x y) = w.load
stmt_weight_step w (f.Table size x k y) = w.table
stmt_weight_step w (f.Store size x y) = w.store
stmt_weight_step w (f.If x a b) = w.test + (sum a + sum b)
stmt_weight_step w (f.While a x b) = sum a + (w.turn + sum b)

abbrev pub stmt_weight : Weights → FStmt → ℕ
stmt_weight w = fold-FStmt ℕ (stmt_weight_step w)

abbrev pub code_weight : Weights → List FStmt → ℕ
code_weight w body = sum (map (stmt_weight w) body)

-- the statements, inner ones too
abbrev pub stmt_size_step : FStmt-F ℕ → ℕ
stmt_size_step (f.Lit x n) = 1
stmt_size_step (f.Copy x y) = 1
stmt_size_step (f.Bin op x y z) = 1
stmt_size_step (f.Load size x y) = 1
stmt_size_step (f.Table size x k y) = 1
stmt_size_step (f.Store size x y) = 1
stmt_size_step (f.If x a b) = 1 + (sum a + sum b)
stmt_size_step (f.While a x b) = 1 + (sum a + sum b)

abbrev pub stmt_size : FStmt → ℕ
stmt_size = fold-FStmt ℕ stmt_size_step

abbrev pub code_size : List FStmt → ℕ
code_size body = sum (map stmt_size body)
