-- A block of nodes is judged, counted and measured as its nodes are.
use Rattle.std.proofs.Common.{◌≡◌, ℕ, Bool, List, map, sum}
use Rattle.rup_base.specs.Gather.{all_true, greatest}
use Rattle.equations.specs.Book.{Turn}
use Rattle.deriv_tree.specs.Measure as measure
use Rattle.deriv_tree.specs.Measure.{stmt_size, block_size, stmt_size_step, block_size_step}
use Rattle.deriv_tree.specs.Shape.{stmt_shaped, block_shaped, stmt_shaped_step, block_shaped_step}
use Rattle.deriv_tree.specs.declared.tree.StmtNode.{StmtNode}
use Rattle.deriv_tree.specs.declared.tree.Block.{fold-roll-Block}
use Rattle.stmt_rules.specs.Row.{StmtJudged, BlockJudged, block_step, judged_step, judged, block_judged}
use Rattle.derive_search.specs.Nodes.{block}

pub judged_is : (turn : Turn) (ns : List StmtNode)
    → block_judged turn (block ns) ≡ block_step (record { nodes = map (judged turn) ns })
judged_is turn ns = fold-roll-Block BlockJudged StmtJudged block_step (judged_step turn) (record { nodes = ns })

module _ (ns : List StmtNode) where
  pub size_is : block_size (block ns) ≡ sum (map stmt_size ns)
  size_is = fold-roll-Block ℕ ℕ block_size_step stmt_size_step (record { nodes = ns })

  pub shaped_is : block_shaped (block ns) ≡ all_true (map stmt_shaped ns)
  shaped_is = fold-roll-Block Bool Bool block_shaped_step stmt_shaped_step (record { nodes = ns })

  pub depth_is : measure.block_depth (block ns) ≡ greatest (map measure.stmt_depth ns)
  depth_is = fold-roll-Block ℕ ℕ measure.block_depth_step measure.stmt_depth_step (record { nodes = ns })
