-- Formed terms: their names are names, and their literals, table entries and lengths are words. Every term of the code is
-- one: the types `Name` and `u32` keep it, while in a clause a name is only its bytes and a number has no end.
-- (That the entries of a table of bytes are bytes is `Spellable`.)
use Rattle.std.specs.Prelude.{ℕ, Bool, ◌&&◌, List, map}
use Rattle.rup_base.specs.Name.{is_name}
use Rattle.rup_base.specs.Gather.{all_true}
use Rattle.model_syntax.specs.declared.expr.Expr.{Expr, Expr-F, fold-Expr}
use Rattle.model_syntax.specs.declared.expr.Expr.TheOpen as e
use Rattle.model_syntax.specs.declared.stmt.Lin.{Lin, Lin-F, fold-Lin}
use Rattle.model_syntax.specs.declared.stmt.Lin.TheOpen as l
use Rattle.model_syntax.specs.declared.stmt.Le.{Le}
use Rattle.model_syntax.specs.declared.stmt.Stmt.{Stmt, Stmt-F, fold-Stmt}
use Rattle.model_syntax.specs.declared.stmt.Stmt.TheOpen as s
use Rattle.model_syntax.specs.declared.program.Len.{Len}
use Rattle.model_syntax.specs.declared.program.Len.TheVariants.{Fixed, Named}
use Rattle.model_syntax.specs.declared.program.Param.{Param}
use Rattle.model_syntax.specs.declared.program.Param.TheVariants as parameter
use Rattle.model_syntax.specs.declared.program.Ret.{Ret}
use Rattle.model_syntax.specs.declared.program.Ret.TheVariants as result
use Rattle.model_syntax.specs.declared.program.Model.{Model}
use Rattle.model_syntax.specs.Kinds.{is_word}

abbrev pub numbers_formed : List ℕ → Bool
numbers_formed ns = all_true (map is_word ns)

abbrev pub expr_formed_step : Expr-F Bool → Bool
expr_formed_step (e.Lit n) = is_word n
expr_formed_step (e.Var x) = is_name x
expr_formed_step (e.Length a) = is_name a
expr_formed_step (e.Bin op p q) = p && q
expr_formed_step (e.Test cmp p q) = p && q
expr_formed_step (e.Not p) = p
expr_formed_step (e.Both p q) = p && q
expr_formed_step (e.Either p q) = p && q
expr_formed_step (e.ToWord p) = p
expr_formed_step (e.ToByte p) = p
expr_formed_step (e.Get a i) = is_name a && i
expr_formed_step (e.Tab t ns i) = numbers_formed ns && i

abbrev pub expr_formed : Expr → Bool
expr_formed = fold-Expr Bool expr_formed_step

abbrev pub side_formed_step : Lin-F Bool → Bool
side_formed_step (l.Const n) = is_word n
side_formed_step (l.Var x) = is_name x
side_formed_step (l.Sum p q) = p && q
side_formed_step (l.Scale k p) = is_word k && p

abbrev pub side_formed : Lin → Bool
side_formed = fold-Lin Bool side_formed_step

abbrev pub fact_formed : Le → Bool
fact_formed r = side_formed r.low && side_formed r.high

abbrev pub facts_formed : List Le → Bool
facts_formed rs = all_true (map fact_formed rs)

abbrev pub names_formed : List (List ℕ) → Bool
names_formed xs = all_true (map is_name xs)

abbrev pub stmt_formed_step : Stmt-F Bool → Bool
stmt_formed_step (s.Let x a) = is_name x && expr_formed a
stmt_formed_step (s.Put a i v) = is_name a && (expr_formed i && expr_formed v)
stmt_formed_step (s.Move b a i v) = is_name b && (is_name a && (expr_formed i && expr_formed v))
stmt_formed_step (s.If test xs rs first second) =
    expr_formed test && (names_formed xs && (facts_formed rs && (all_true first && all_true second)))
stmt_formed_step (s.For x low high xs rs body) =
    is_name x && (expr_formed low && (expr_formed high && (names_formed xs && (facts_formed rs && all_true body))))
stmt_formed_step (s.Map a x v) = is_name a && (is_name x && expr_formed v)
stmt_formed_step (s.Fold t a x v) = is_name t && (is_name a && (is_name x && expr_formed v))

abbrev pub stmt_formed : Stmt → Bool
stmt_formed = fold-Stmt Bool stmt_formed_step

abbrev pub len_formed : Len → Bool
len_formed (Fixed n) = is_word n
len_formed (Named x) = is_name x

abbrev pub param_formed : Param → Bool
param_formed (parameter.Word x) = is_name x
param_formed (parameter.Byte x) = is_name x
param_formed (parameter.Bytes a n) = is_name a && len_formed n
param_formed (parameter.Words a n) = is_name a && len_formed n

abbrev pub ret_formed : Ret → Bool
ret_formed (result.Scalar x) = is_name x
ret_formed (result.Array a p) = is_name a && is_name p

abbrev pub model_formed : Model → Bool
model_formed m =
    is_name m.name && (all_true (map param_formed m.params)
    && (facts_formed m.requires_ && (all_true (map stmt_formed m.body) && all_true (map ret_formed m.rets))))
