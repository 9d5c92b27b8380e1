use Rattle.sym_heap.proofs.laws.Turns.{first_turn, turn_counts, block_starts, turn_ends, turn_again, loop_leaves}
use Rattle.sym_heap.proofs.laws.turns_fit.Goals as goal

pub returns : goal.returns
returns c = record {
  first = first_turn;
  counts = turn_counts;
  starts = block_starts;
  ends = turn_ends;
  again = turn_again;
  leaves = loop_leaves;
}
