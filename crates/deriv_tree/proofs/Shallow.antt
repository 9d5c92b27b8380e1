-- A tree is at most as deep as it has nodes.
use Rattle.std.proofs.Common.{◌≡◌, ℕ, ◌+◌, ◌≤◌, map, sum, List, [], ◌∷◌, arith, subst}
use Rattle.std.proofs.lemmas.List.Sums.{sum_by-cons}
use Rattle.rup_base.specs.Gather.{greatest}
use Rattle.deriv_tree.specs.declared.tree.ExprNode.{ExprNode, ExprNode-F, roll-ExprNode, map-ExprNode, ind-ExprNode}
use Rattle.deriv_tree.specs.declared.tree.ExprNode.{fold-roll-ExprNode}
use Rattle.deriv_tree.specs.declared.tree.StmtNode.{StmtNode, roll-StmtNode, map-StmtNode, fold-roll-StmtNode}
use Rattle.deriv_tree.specs.declared.tree.Block.{Block, roll-Block, map-Block, ind-Block, fold-roll-Block}
use Rattle.deriv_tree.specs.declared.tree.Block.TheOpen.{Block-F, StmtNode-F}
use Rattle.deriv_tree.specs.Measure as spec

all_low : {A : Type 0} (f g : A → ℕ) → ((a : A) → f a ≤ g a) → (xs : List A) → greatest (map f xs) ≤ sum (map g xs)
all_low f g low [] = omega arith
all_low f g low (x ∷ xs) =
    let total : sum (g x ∷ map g xs) ≡ g x + sum (map g xs) = sum_by-cons (λ n. n) (g x) (map g xs) in
    omega (arith, total, all_low f g low xs, low x)

abbrev Low : {A : Type 0} → (A → ℕ) → (A → ℕ) → Type 0
Low {A = A} f g = (a : A) × (f a ≤ g a)

abbrev bare : {A : Type 0} (f g : A → ℕ) → List (Low f g) → List A
bare f g ys = map (λ (y : Low f g). y.0) ys

ones_low : {A : Type 0} (f g : A → ℕ) (ys : List (Low f g)) → greatest (map f (bare f g ys)) ≤ sum (map g (bare f g ys))
ones_low f g [] = omega arith
ones_low f g (y ∷ ys) =
    let total : sum (g y.0 ∷ map g (bare f g ys)) ≡ g y.0 + sum (map g (bare f g ys)) =
    sum_by-cons (λ n. n) (g y.0) (map g (bare f g ys)) in
    omega (arith, total, ones_low f g ys, y.1)

abbrev ExprLow : ExprNode → Type 0
ExprLow e = spec.expr_depth e ≤ spec.expr_size e

abbrev LowExpr : Type 0
LowExpr = (e : ExprNode) × ExprLow e

expr_step : (y : ExprNode-F LowExpr) → ExprLow (roll-ExprNode (map-ExprNode LowExpr ExprNode (λ e. e.0) y))
expr_step y =
    let x : ExprNode-F ExprNode = map-ExprNode LowExpr ExprNode (λ e. e.0) y in
    rw (fold-roll-ExprNode ℕ spec.expr_depth_step x, fold-roll-ExprNode ℕ spec.expr_size_step x)
    (omega (arith, ones_low spec.expr_depth spec.expr_size y.kids))

expr_low : (e : ExprNode) → ExprLow e
expr_low = ind-ExprNode ExprLow (λ x y is. subst (λ z. ExprLow (roll-ExprNode z)) is (expr_step y))

abbrev BlockLow : Block → Type 0
BlockLow b = spec.block_depth b ≤ spec.block_size b

abbrev StmtLow : StmtNode → Type 0
StmtLow n = spec.stmt_depth n ≤ spec.stmt_size n

abbrev LowBlock : Type 0
LowBlock = (b : Block) × BlockLow b

abbrev LowStmt : Type 0
LowStmt = (n : StmtNode) × StmtLow n

block_step : (y : Block-F LowBlock LowStmt)
    → BlockLow (roll-Block (map-Block LowBlock LowStmt Block StmtNode (λ b. b.0) (λ n. n.0) y))
block_step y =
    let x : Block-F Block StmtNode = map-Block LowBlock LowStmt Block StmtNode (λ b. b.0) (λ n. n.0) y in
    rw (
      fold-roll-Block ℕ ℕ spec.block_depth_step spec.stmt_depth_step x,
      fold-roll-Block ℕ ℕ spec.block_size_step
          spec.stmt_size_step x,
    )
    (ones_low spec.stmt_depth spec.stmt_size y.nodes)

stmt_step : (y : StmtNode-F LowBlock LowStmt)
    → StmtLow (roll-StmtNode (map-StmtNode LowBlock LowStmt Block StmtNode (λ b. b.0) (λ n. n.0) y))
stmt_step y =
    let x : StmtNode-F Block StmtNode = map-StmtNode LowBlock LowStmt Block StmtNode (λ b. b.0) (λ n. n.0) y in
    rw (
      fold-roll-StmtNode ℕ ℕ spec.block_depth_step spec.stmt_depth_step x,
      fold-roll-StmtNode ℕ ℕ spec.block_size_step
          spec.stmt_size_step x,
    )
    (omega (arith, all_low spec.expr_depth spec.expr_size expr_low y.kids, ones_low spec.block_depth spec.block_size y.blocks))

-- the depth of a block is at most the number of its nodes
pub block_low : (b : Block) → BlockLow b
block_low =
    ind-Block BlockLow StmtLow
    (λ x y is. subst (λ z. BlockLow (roll-Block z)) is (block_step y))
    (λ x y is. subst (λ z. StmtLow (roll-StmtNode z)) is (stmt_step y))
