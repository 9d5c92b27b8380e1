-- Whether expressions are equal.
use Rattle.std.specs.Prelude.{ℕ, nat_eq, Bool, true, false, ◌&&◌, List}
use Rattle.std.specs.Cmp.Lexicographic.{pointwise}
use Rattle.model_syntax.specs.Names.{same}
use Rattle.model_syntax.specs.declared.expr.Op.{Op}
use Rattle.model_syntax.specs.declared.expr.Op.TheVariants as op
use Rattle.model_syntax.specs.declared.expr.Cmp.{Cmp}
use Rattle.model_syntax.specs.declared.expr.Cmp.TheVariants as cmp
use Rattle.model_syntax.specs.declared.expr.Scalar.{Scalar}
use Rattle.model_syntax.specs.declared.expr.Scalar.TheVariants as scalar
use Rattle.model_syntax.specs.declared.expr.Expr.{Expr, Expr-F, fold-Expr, out-Expr}
use Rattle.model_syntax.specs.declared.expr.Expr.TheOpen as e
use Rattle.equations.specs.Equations as equations

abbrev pub same_op : Op → Op → Bool
same_op = equations.same_op

abbrev pub same_cmp : Cmp → Cmp → Bool
same_cmp cmp.Eq cmp.Eq = true
same_cmp cmp.Lt cmp.Lt = true
same_cmp cmp.Slt cmp.Slt = true
same_cmp a b = false

abbrev pub same_scalar : Scalar → Scalar → Bool
same_scalar scalar.Word scalar.Word = true
same_scalar scalar.Byte scalar.Byte = true
same_scalar scalar.Flag scalar.Flag = true
same_scalar a b = false

abbrev pub same_entries : List ℕ → List ℕ → Bool
same_entries = pointwise nat_eq

-- one layer of an expression, whose operands tell which expressions equal them, and one of another
abbrev pub same_layer : Expr-F (Expr → Bool) → Expr-F Expr → Bool
same_layer (e.Lit m) (e.Lit n) = nat_eq m n
same_layer (e.Var x) (e.Var y) = same x y
same_layer (e.Length x) (e.Length y) = same x y
same_layer (e.Bin o a b) (e.Bin p c d) = (same_op o p && a c) && b d
same_layer (e.Test o a b) (e.Test p c d) = (same_cmp o p && a c) && b d
same_layer (e.Not a) (e.Not c) = a c
same_layer (e.Both a b) (e.Both c d) = a c && b d
same_layer (e.Either a b) (e.Either c d) = a c && b d
same_layer (e.ToWord a) (e.ToWord c) = a c
same_layer (e.ToByte a) (e.ToByte c) = a c
same_layer (e.Get x a) (e.Get y c) = same x y && a c
same_layer (e.Tab s ms a) (e.Tab t ns c) = (same_scalar s t && same_entries ms ns) && a c
same_layer a b = false

abbrev pub same_step : Expr-F (Expr → Bool) → Expr → Bool
same_step a b = same_layer a (out-Expr b)

abbrev pub same_expr : Expr → Expr → Bool
same_expr = fold-Expr (Expr → Bool) same_step
