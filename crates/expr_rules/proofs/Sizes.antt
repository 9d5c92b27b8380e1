-- How many nodes a derivation has.
use Rattle.std.proofs.Common.{◌≡◌, refl, ◌∙◌, ap, subst, ℕ, ◌+◌, List, [], ◌∷◌, map, sum}
use Rattle.equations.specs.Book.{Turn}
use Rattle.deriv_tree.specs.Measure.{expr_size, expr_size_step}
use Rattle.deriv_tree.specs.declared.tree.ExprNode.{ExprNode, ExprNode-F, ind-ExprNode, map-ExprNode, roll-ExprNode}
use Rattle.deriv_tree.specs.declared.tree.ExprNode.{fold-roll-ExprNode}
use Rattle.expr_rules.specs.Words.{Judged}
use Rattle.expr_rules.specs.Row.{judged_step, judged}

abbrev Counted : Turn → ExprNode → Type 0
Counted turn node = (judged turn node).size ≡ expr_size node

kids_counted : (turn : Turn) (nodes : List ((n : ExprNode) × Counted turn n))
    → map (λ (k : Judged). k.size) (map (judged turn) (map (λ p. p.0) nodes)) ≡ map expr_size (map (λ p. p.0) nodes)
kids_counted turn [] = refl
kids_counted turn (p ∷ ps) =
    ap (λ n. n ∷ map (λ (k : Judged). k.size) (map (judged turn) (map (λ q. q.0) ps))) p.1
    ∙ ap (λ l. expr_size p.0 ∷ l) (kids_counted turn ps)

pub size_is : (turn : Turn) (node : ExprNode) → (judged turn node).size ≡ expr_size node
size_is turn = ind-ExprNode (Counted turn) (λ z y is. subst (λ r. Counted turn (roll-ExprNode r)) is (rolled y)) where
  rolled : (y : ExprNode-F ((n : ExprNode) × Counted turn n))
      → Counted turn (roll-ExprNode (map-ExprNode ((n : ExprNode) × Counted turn n) ExprNode (λ p. p.0) y))
  rolled y =
      let x : ExprNode-F ExprNode = map-ExprNode ((n : ExprNode) × Counted turn n) ExprNode (λ p. p.0) y in
      rw (fold-roll-ExprNode Judged (judged_step turn) x, fold-roll-ExprNode ℕ expr_size_step x)
      (ap (λ l. 1 + sum l) (kids_counted turn y.kids))
