-- Three-address code with its variables renamed: over places, a variable's name is the number of its place.
use Rattle.std.specs.Prelude.{ℕ, List, map}
use Rattle.flat_lang.specs.declared.flat.FStmt.{FStmt, FStmt-F, fold-FStmt, roll-FStmt}
use Rattle.flat_lang.specs.declared.flat.FStmt.TheOpen as f

abbrev pub renamed_step : {T : Type 0} → (ℕ → ℕ) → FStmt-F T → FStmt-F T
renamed_step p (f.Lit x n) = f.Lit (p x) n
renamed_step p (f.Copy x y) = f.Copy (p x) (p y)
renamed_step p (f.Bin op x y z) = f.Bin op (p x) (p y) (p z)
renamed_step p (f.Load size x y) = f.Load size (p x) (p y)
renamed_step p (f.Table size x k y) = f.Table size (p x) k (p y)
renamed_step p (f.Store size x y) = f.Store size (p x) (p y)
renamed_step p (f.If x a b) = f.If (p x) a b
renamed_step p (f.While a x b) = f.While a (p x) b

abbrev pub renamed : (ℕ → ℕ) → FStmt → FStmt
renamed p = fold-FStmt FStmt (λ s. roll-FStmt (renamed_step p s))

abbrev pub code_renamed : (ℕ → ℕ) → List FStmt → List FStmt
code_renamed p body = map (renamed p) body
