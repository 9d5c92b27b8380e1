-- The values of expressions. Every part of an expression is evaluated, from left to right, so that what it costs is its
-- weight.
use Rattle.std.specs.Prelude.{ℕ, Option, Some, None}
use Rattle.rv_memory.specs.Ranges.{Bytes}
use Rattle.bed_syntax.specs.Operation.{apply}
use Rattle.bed_syntax.specs.declared.expression.BExpr.{BExpr, BExpr-F, fold-BExpr}
use Rattle.bed_syntax.specs.declared.expression.BExpr.TheOpen as e
use Rattle.bed_meaning.specs.Access.{loaded, entry}
use Rattle.bed_meaning.specs.Locals.{Vars, local_at}

-- a function of a value that may be missing
abbrev pub then_some : Option ℕ → (ℕ → Option ℕ) → Option ℕ
then_some None next = None
then_some (Some n) next = next n

-- a function of two values that may be missing
abbrev pub both : (ℕ → ℕ → ℕ) → Option ℕ → Option ℕ → Option ℕ
both f None b = None
both f (Some m) None = None
both f (Some m) (Some n) = Some (f m n)

abbrev pub value_step : BExpr-F (Bytes → Vars → Option ℕ) → Bytes → Vars → Option ℕ
value_step (e.Lit n) mem vars = Some n
value_step (e.Var x) mem vars = local_at vars x
value_step (e.Bin op a b) mem vars = both (apply op) (a mem vars) (b mem vars)
value_step (e.Load size a) mem vars = then_some (a mem vars) (loaded size mem)
value_step (e.Table size bytes i) mem vars = then_some (i mem vars) (entry size bytes)

-- the value of an expression; none where something in it is stuck
abbrev pub value : BExpr → Bytes → Vars → Option ℕ
value = fold-BExpr (Bytes → Vars → Option ℕ) value_step
