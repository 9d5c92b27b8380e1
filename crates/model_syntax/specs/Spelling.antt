-- Models that the text of models can spell.
use Rattle.std.specs.Prelude.{ℕ, Bool, true, false, ◌&&◌, nat_le, List, [], ◌∷◌, map, IsTrue}
use Rattle.std.specs.List.{list_all}
use Rattle.rup_base.specs.Gather.{all_true}
use Rattle.model_syntax.specs.declared.expr.Scalar.{Scalar}
use Rattle.model_syntax.specs.declared.expr.Scalar.TheVariants.{Word, Byte, Flag}
use Rattle.model_syntax.specs.declared.expr.Expr.{Expr, Expr-F, fold-Expr}
use Rattle.model_syntax.specs.declared.expr.Expr.TheOpen as e
use Rattle.model_syntax.specs.declared.stmt.Stmt.{Stmt, Stmt-F, fold-Stmt}
use Rattle.model_syntax.specs.declared.stmt.Stmt.TheOpen as s
use Rattle.model_syntax.specs.declared.program.Model.{Model}

-- a table has at least one entry
abbrev pub has_entry : List ℕ → Bool
has_entry [] = false
has_entry (n ∷ ns) = true

-- a table names byte or word, has an entry, and its entries fit the type that it names
abbrev pub is_table : Scalar → List ℕ → Bool
is_table Word ns = has_entry ns
is_table Byte ns = has_entry ns && list_all (λ n. nat_le n 255) ns
is_table Flag ns = false

-- each table in an expression is one
abbrev pub expr_spellable_step : Expr-F Bool → Bool
expr_spellable_step (e.Lit n) = true
expr_spellable_step (e.Var x) = true
expr_spellable_step (e.Length a) = true
expr_spellable_step (e.Bin op p q) = p && q
expr_spellable_step (e.Test cmp p q) = p && q
expr_spellable_step (e.Not p) = p
expr_spellable_step (e.Both p q) = p && q
expr_spellable_step (e.Either p q) = p && q
expr_spellable_step (e.ToWord p) = p
expr_spellable_step (e.ToByte p) = p
expr_spellable_step (e.Get a p) = p
expr_spellable_step (e.Tab t ns p) = is_table t ns && p

abbrev pub expr_spellable : Expr → Bool
expr_spellable = fold-Expr Bool expr_spellable_step

-- each table in a statement is one
abbrev pub stmt_spellable_step : Stmt-F Bool → Bool
stmt_spellable_step (s.Let x a) = expr_spellable a
stmt_spellable_step (s.Put a i v) = expr_spellable i && expr_spellable v
stmt_spellable_step (s.Move b a i v) = expr_spellable i && expr_spellable v
stmt_spellable_step (s.If test xs keep first second) = expr_spellable test && all_true first && all_true second
stmt_spellable_step (s.For x low high xs keep body) = expr_spellable low && expr_spellable high && all_true body
stmt_spellable_step (s.Map a x v) = expr_spellable v
stmt_spellable_step (s.Fold t a x v) = expr_spellable v

abbrev pub stmt_spellable : Stmt → Bool
stmt_spellable = fold-Stmt Bool stmt_spellable_step

-- each table of the model is one
abbrev pub Spellable : Model → Type 0
Spellable m = IsTrue (all_true (map stmt_spellable m.body))
