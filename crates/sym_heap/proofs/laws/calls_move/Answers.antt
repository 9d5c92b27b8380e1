use Rattle.sym_heap.proofs.laws.Moves as laws
use Rattle.sym_heap.proofs.laws.calls_move.Goals as goal

pub returns : goal.returns
returns c = record {
  stays = laws.moves_nothing;
  goes_on = laws.moves_on;
  fresh = laws.fresh_moves;
  fact = laws.fact_moves;
  bound = laws.bound_moves;
  counted = laws.written_moves;
  moved = laws.renamed_moves;
  params_once = laws.params_once;
  back = laws.restored_moves;
  over = laws.over_moves;
}
