use Rattle.std.proofs.Common.{◌≡◌, ◌≤◌, ◌+◌, ◌*◌, length, replicate}
use Rattle.serde_json.specs.View.{items_view}
use Rattle.rup_base.specs.Answers.{and_then}
use Rattle.deriv_file.specs.Places.{open_places, outer_place}
use Rattle.deriv_file.specs.NodeList.{filled}
use Rattle.deriv_file.proofs.Turns.{onto}
use Rattle.deriv_file.proofs.node_list.nodes_of.Given as goal

abbrev pub invariant-loop-left : goal.invariant-loop-left
invariant-loop-left l = record {
  counted : l.at + length l.left ≡ length l.items;
  calls : l.needed ≡ l.at + length (open_places l.places);
  bounded : l.needed ≤ 20000 + l.at * 8589934592;
  whole : and_then (filled (length l.items) (items_view l.left) l.at (open_places l.places)) (onto l.nodes)
      ≡ filled (length l.items) (items_view l.items) 0 (replicate l.block outer_place);
}

abbrev pub decreases-loop-left : goal.decreases-loop-left
decreases-loop-left l = length l.left
