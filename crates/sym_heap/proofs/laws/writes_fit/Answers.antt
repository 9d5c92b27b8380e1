use Rattle.sym_heap.proofs.laws.Writes.{written_fits, counted_fits, written_held}
use Rattle.sym_heap.proofs.laws.writes_fit.Goals as goal

pub returns : goal.returns
returns c = record { fits = written_fits; counted = counted_fits; held = written_held }
