-- e-len: the length of an array is a number, or the local that has it. Condition 4: the name is an array's.
use Rattle.std.specs.Prelude.{ℕ, Option, Some, None, option_map}
use Rattle.model_syntax.specs.Names.{Name}
use Rattle.sym_heap.specs.declared.parts.Clause.{Clause}
use Rattle.sym_heap.specs.Context.{own}
use Rattle.bed_syntax.specs.declared.expression.BExpr.{BExpr}
use Rattle.bed_syntax.specs.declared.expression.BExpr.TheVariants as b
use Rattle.expr_rules.specs.declared.output.ExprOut.{ExprOut}
use Rattle.expr_rules.specs.Words.{Rule, ◌>>=◌, most, number_in, found, give, plain}

-- the array of a name
abbrev pub owned : ℕ → Name → Rule Clause
owned at a c = found (own c a) at 4 c

-- a length that no local has is a number
abbrev pub code : Clause → Option BExpr
code k = elim k.length_local [ Some l ↦ Some (b.Var l) | None ↦ option_map b.Lit (number_in 0 most k.length) ]

abbrev pub after : ℕ → Clause → Rule ExprOut
after at k = do
  e ← found (code k) at 4
  give (plain e k.length)
