-- Depths of trees and of the terms that they are for.
use Rattle.std.proofs.Common.{◌≡◌, ◌∙◌, ap, arith, ℕ, ◌+◌, ◌≤◌, max, [], ◌∷◌}
use Rattle.std.proofs.Math.Nat.{max-le, le-max_left, le-max_right}
use Rattle.rup_base.specs.Gather.{greatest}
use Rattle.model_syntax.specs.declared.expr.Expr.{Expr, Expr-F, out-Expr, map-Expr}
use Rattle.model_syntax.specs.declared.expr.Expr.TheFolds.{fold_out-Expr}
use Rattle.model_syntax.specs.declared.stmt.Stmt.{Stmt, Stmt-F, out-Stmt, map-Stmt}
use Rattle.model_syntax.specs.declared.stmt.Stmt.TheFolds.{fold_out-Stmt}
use Rattle.model_syntax.specs.Limits as limits

pub expr_depth_is : (x : Expr) (shape : Expr-F Expr) → out-Expr x ≡ shape
    → limits.expr_depth x ≡ limits.expr_depth_step (map-Expr Expr ℕ limits.expr_depth shape)
expr_depth_is x shape is = fold_out-Expr ℕ limits.expr_depth_step x
    ∙ ap (λ (s : Expr-F Expr). limits.expr_depth_step (map-Expr Expr ℕ limits.expr_depth s)) is

pub stmt_depth_is : (z : Stmt) (shape : Stmt-F Stmt) → out-Stmt z ≡ shape
    → limits.stmt_depth z ≡ limits.stmt_depth_step (map-Stmt Stmt ℕ limits.stmt_depth shape)
stmt_depth_is z shape is = fold_out-Stmt ℕ limits.stmt_depth_step z
    ∙ ap (λ (s : Stmt-F Stmt). limits.stmt_depth_step (map-Stmt Stmt ℕ limits.stmt_depth s)) is

pub stmt_blocks_is : (z : Stmt) (shape : Stmt-F Stmt) → out-Stmt z ≡ shape
    → limits.stmt_blocks z ≡ limits.stmt_blocks_step (map-Stmt Stmt ℕ limits.stmt_blocks shape)
stmt_blocks_is z shape is = fold_out-Stmt ℕ limits.stmt_blocks_step z
    ∙ ap (λ (s : Stmt-F Stmt). limits.stmt_blocks_step (map-Stmt Stmt ℕ limits.stmt_blocks s)) is

pub one_top : (a p : ℕ) → a ≤ p → greatest (a ∷ []) ≤ p
one_top a p h = max-le h (omega arith)

pub two_top : (a b p q : ℕ) → a ≤ p → b ≤ q → greatest (a ∷ b ∷ []) ≤ max p q
two_top a b p q h k =
    let left = le-max_left p q in
    let right = le-max_right p q in
    max-le (omega (arith, h, left)) (one_top b (max p q) (omega (arith, k, right)))

pub joined_top : (a b p q r s : ℕ) → a ≤ p + r + 1 → b ≤ q + s + 1 → max a b ≤ max p q + max r s + 1
joined_top a b p q r s h k =
    let one = le-max_left p q in
    let two = le-max_right p q in
    let three = le-max_left r s in
    let four = le-max_right r s in
    max-le (omega (arith, h, one, three)) (omega (arith, k, two, four))
