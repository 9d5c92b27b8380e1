-- What every book of equations keeps: the two laws.
use Rattle.std.specs.Prelude.{◌≡◌, ℕ, ◌≤◌, true, Option, Some, Ok}
use Rattle.model_syntax.specs.declared.expr.Expr.{Expr}
use Rattle.model_syntax.specs.declared.expr.Scalar.{Scalar}
use Rattle.model_syntax.specs.Environment.{Env}
use Rattle.model_syntax.specs.ExprType.{type_of}
use Rattle.model_syntax.specs.Formed.{expr_formed}
use Rattle.model_syntax.specs.Limits.{expr_tables}
use Rattle.model_syntax.specs.Names.{Name}
use Rattle.model_syntax.specs.Scope.{Scope}
use Rattle.model_syntax.specs.Sound.{IsTyped}
use Rattle.model_syntax.specs.Spelling.{expr_spellable}
use Rattle.model_syntax.specs.Value.{eval}

-- what a step makes of an expression, or none where it does not apply
abbrev pub Turn : Type 0
Turn = ℕ → Expr → Option Expr

-- where the left side is well typed, the right side has the same type, and the same value in every environment that gives
-- the names in scope values of their types
pub record SameMeaning (left right : Expr) : Type 0 where
  pub type : (c : Scope) (t : Scalar) → type_of left c ≡ Ok t → type_of right c ≡ Ok t
  pub value : (numbers : Name → ℕ) (c : Scope) (env : Env) → IsTyped numbers c env
      → (t : Scalar) → type_of left c ≡ Ok t → eval right env ≡ eval left env

-- the right side has no more table bytes than the left, its tables are tables where those of the left are, and it is formed
-- where the left is
pub record NoWorse (left right : Expr) : Type 0 where
  pub tables : expr_tables right ≤ expr_tables left
  pub spellable : expr_spellable left ≡ true → expr_spellable right ≡ true
  pub formed : expr_formed left ≡ true → expr_formed right ≡ true

-- the first law: a step keeps the meaning of every formed expression
abbrev pub KeepsMeaning : Turn → Type 0
KeepsMeaning turn =
    (step : ℕ) (left right : Expr) → turn step left ≡ Some right → expr_formed left ≡ true → SameMeaning left right

-- the second law: a step makes nothing worse
abbrev pub MakesNothingWorse : Turn → Type 0
MakesNothingWorse turn = (step : ℕ) (left right : Expr) → turn step left ≡ Some right → NoWorse left right

-- what a book keeps
pub record Laws (turn : Turn) : Type 0 where
  pub keeps_meaning : KeepsMeaning turn
  pub makes_nothing_worse : MakesNothingWorse turn
