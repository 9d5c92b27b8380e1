-- The statements without blocks.
use Rattle.std.proofs.Common.{◌≡◌, ◌≢◌, refl, sym, ap, ◌∙◌, false, List}
use Rattle.model_syntax.specs.Names.{Name}
use Rattle.model_syntax.specs.declared.expr.Expr.{Expr}
use Rattle.model_syntax.specs.declared.stmt.Le.{Le}
use Rattle.model_syntax.specs.declared.stmt.Stmt.{Stmt, Stmt-F, out-Stmt, roll-Stmt, roll-out-Stmt}
use Rattle.model_syntax.specs.declared.stmt.Stmt as stmt
use Rattle.model_syntax.specs.declared.stmt.Stmt.TheOpen as s
use Rattle.stmt_rules.specs.Simple.{has_blocks}

neither : (t : Stmt-F Stmt)
    → ((test : Expr) (names : List Name) (keep : List Le) (first second : List Stmt) → t ≢ s.If test names keep first second)
    → ((x : Name) (low high : Expr) (names : List Name) (keep : List Le) (body : List Stmt)
    → t ≢ s.For x low high names keep body)
    → has_blocks t ≡ false
neither (s.Let x a) no_if no_for = refl
neither (s.Put a i v) no_if no_for = refl
neither (s.Move b a i v) no_if no_for = refl
neither (s.If test names keep first second) no_if no_for = absurd (no_if test names keep first second refl)
neither (s.For x low high names keep body) no_if no_for = absurd (no_for x low high names keep body refl)
neither (s.Map a x v) no_if no_for = refl
neither (s.Fold t a x v) no_if no_for = refl

-- a statement that is neither of the two that have blocks
pub is_plain : (t : Stmt)
    → ((test : Expr) (names : List Name) (keep : List Le) (first second : List Stmt) → t ≢ stmt.If test names keep first second)
    → ((x : Name) (low high : Expr) (names : List Name) (keep : List Le) (body : List Stmt)
    → t ≢ stmt.For x low high names keep body)
    → has_blocks (out-Stmt t) ≡ false
unfolding roll-Stmt denote.Hole.Carrier.roll
is_plain t no_if no_for =
    neither (out-Stmt t)
    (λ test names keep first second is. no_if test names keep first second (sym (roll-out-Stmt t) ∙ ap roll-Stmt is))
    (λ x low high names keep body is. no_for x low high names keep body (sym (roll-out-Stmt t) ∙ ap roll-Stmt is))
