-- The types of expressions, or the first fault in text order. A wrong type comes after the faults inside.
use Rattle.std.specs.Prelude.{Result, Ok, Err, if◌then◌else◌}
use Rattle.rup_base.specs.declared.refusal.TypeWhy.{TypeWhy}
use Rattle.rup_base.specs.declared.refusal.TypeWhy.TheVariants as why
use Rattle.model_syntax.specs.declared.expr.Scalar.{Scalar}
use Rattle.model_syntax.specs.declared.expr.Scalar.TheVariants.{Word, Byte, Flag}
use Rattle.model_syntax.specs.declared.expr.Expr.{Expr, Expr-F, fold-Expr}
use Rattle.model_syntax.specs.declared.expr.Expr.TheOpen as e
use Rattle.model_syntax.specs.Answer.{◌>>=◌}
use Rattle.model_syntax.specs.Scope.{Scope, look_up, same_scalar, scalar_in, element_in}

-- the type of an expression, or its first fault
abbrev pub Typing : Type 0
Typing = Result Scalar TypeWhy

-- an expression of the wanted type
abbrev pub wanted : Scalar → Typing → Typing
wanted t found = do
  u ← found
  if same_scalar t u then Ok u else Err why.WrongType

-- two expressions of the wanted type
abbrev pub both_wanted : Scalar → Typing → Typing → Typing
both_wanted t one two = do
  _ ← wanted t one
  wanted t two

-- a byte or a flag
abbrev pub no_word : Typing → Typing
no_word found = do
  t ← found
  if same_scalar Word t then Err why.WrongType else Ok t

-- what a type is in each scope, from what it is of the expressions inside
abbrev pub type_step : Expr-F (Scope → Typing) → Scope → Typing
type_step (e.Lit n) c = Ok Word
type_step (e.Var x) c = scalar_in (look_up c x)
type_step (e.Length a) c = do
  _ ← element_in (look_up c a)
  Ok Word
type_step (e.Bin op p q) c = both_wanted Word (p c) (q c)
type_step (e.Test cmp p q) c = do
  _ ← both_wanted Word (p c) (q c)
  Ok Flag
type_step (e.Not p) c = wanted Flag (p c)
type_step (e.Both p q) c = both_wanted Flag (p c) (q c)
type_step (e.Either p q) c = both_wanted Flag (p c) (q c)
type_step (e.ToWord p) c = do
  _ ← no_word (p c)
  Ok Word
type_step (e.ToByte p) c = do
  _ ← wanted Word (p c)
  Ok Byte
type_step (e.Get a i) c = do
  t ← element_in (look_up c a)
  _ ← wanted Word (i c)
  Ok t
type_step (e.Tab t ns i) c = do
  _ ← wanted Word (i c)
  Ok t

-- the type of an expression in a scope
abbrev pub type_of : Expr → Scope → Typing
type_of = fold-Expr (Scope → Typing) type_step
