-- What a pattern becomes where its holes stand for expressions.
use Rattle.std.specs.Prelude.{◌≡◌}
use Rattle.model_syntax.specs.Names.{Name}
use Rattle.model_syntax.specs.declared.expr.Expr.{Expr}
use Rattle.model_syntax.specs.declared.expr.Expr.TheVariants as v
use Rattle.lemma_files.specs.declared.terms.Pattern.{Pattern, Pattern-F, fold-Pattern}
use Rattle.lemma_files.specs.declared.terms.Pattern.TheOpen as p

-- what each hole stands for
abbrev pub Substitution : Type 0
Substitution = Name → Expr

abbrev pub filled_step : Pattern-F (Substitution → Expr) → Substitution → Expr
filled_step (p.Hole x) s = s x
filled_step (p.Lit n) s = v.Lit n
filled_step (p.Var x) s = v.Var x
filled_step (p.Length x) s = v.Length x
filled_step (p.Bin o a b) s = v.Bin o (a s) (b s)
filled_step (p.Test o a b) s = v.Test o (a s) (b s)
filled_step (p.Not a) s = v.Not (a s)
filled_step (p.Both a b) s = v.Both (a s) (b s)
filled_step (p.Either a b) s = v.Either (a s) (b s)
filled_step (p.ToWord a) s = v.ToWord (a s)
filled_step (p.ToByte a) s = v.ToByte (a s)
filled_step (p.Get x a) s = v.Get x (a s)
filled_step (p.Tab t ns a) s = v.Tab t ns (a s)

abbrev pub filled : Pattern → Substitution → Expr
filled = fold-Pattern (Substitution → Expr) filled_step

-- the expression is the pattern where each hole stands for an expression
abbrev pub IsInstance : Pattern → Expr → Type 0
IsInstance a b = (s : Substitution) × (filled a s ≡ b)
