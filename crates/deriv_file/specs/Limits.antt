-- The limits of a derivation that a file can hold.
use Rattle.std.specs.Prelude.{◌≡◌, ℕ, ◌+◌, ◌≤◌, Bool, true, ◌&&◌, nat_lt, List, map, if◌then◌else◌}
use Rattle.std.specs.List.{list_all}
use Rattle.rup_base.specs.Gather.{all_true}
use Rattle.rup_base.specs.Name.{is_name}
use Rattle.deriv_tree.specs.declared.rule.Rule.{Rule}
use Rattle.deriv_tree.specs.declared.tree.ExprNode.{ExprNode, ExprNode-F, fold-ExprNode}
use Rattle.deriv_tree.specs.declared.tree.StmtNode.{StmtNode, fold-StmtNode}
use Rattle.deriv_tree.specs.declared.tree.Block.{Block, fold-Block}
use Rattle.deriv_tree.specs.declared.tree.Block.TheOpen.{Block-F, StmtNode-F}
use Rattle.deriv_tree.specs.declared.tree.Derivation.{Derivation}
use Rattle.deriv_tree.specs.Shape.{IsWhole, is_rewrite}
use Rattle.deriv_tree.specs.Measure.{depth}
use Rattle.deriv_tree.specs.Preorder.{preorder}
use Rattle.deriv_file.specs.Ranges.{node_in_range}

-- one more rewrite may stand directly inside so many, where the rule is one of rewrites
abbrev pub has_room : Rule → ℕ → Bool
has_room r above = if is_rewrite r then nat_lt above 8 else true

-- the number of rewrites that stand directly around the kids of a node of the rule
abbrev pub around_kids : Rule → ℕ → ℕ
around_kids r above = if is_rewrite r then above + 1 else 0

-- the same of all kids, so many rewrites standing directly around them
abbrev pub kids_few : ℕ → List (ℕ → Bool) → Bool
kids_few above kids = all_true (map (λ kid. kid above) kids)

-- at most eight rewrites stand directly inside one another, so many of them around the node
abbrev pub expr_few_step : ExprNode-F (ℕ → Bool) → ℕ → Bool
expr_few_step e above = has_room e.step.rule above && kids_few (around_kids e.step.rule above) e.kids

abbrev pub expr_few : ExprNode → ℕ → Bool
expr_few = fold-ExprNode (ℕ → Bool) expr_few_step

abbrev pub block_few_step : Block-F Bool Bool → Bool
block_few_step b = all_true b.nodes

abbrev pub stmt_few_step : StmtNode-F Bool Bool → Bool
stmt_few_step n = kids_few 0 (map expr_few n.kids) && all_true n.blocks

abbrev pub block_few : Block → Bool
block_few = fold-Block Bool Bool block_few_step stmt_few_step

abbrev pub stmt_few : StmtNode → Bool
stmt_few = fold-StmtNode Bool Bool block_few_step stmt_few_step

-- A tree of a model with a name, which is whole and at most 1,000 deep, at most eight rewrites stand directly inside one
-- another, and each number of a node is in its range.
pub record Within (d : Derivation) : Type 0 where
  pub name : is_name d.model ≡ true
  pub whole : IsWhole d
  pub shallow : depth d ≤ 1000
  pub few : block_few d.body ≡ true
  pub numbers : list_all node_in_range (preorder d) ≡ true
