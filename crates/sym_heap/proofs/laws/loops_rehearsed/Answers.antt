use Rattle.sym_heap.proofs.laws.Rehearsal.{loops_rehearsed}
use Rattle.sym_heap.proofs.laws.loops_rehearsed.Goals as goal

pub returns : goal.returns
returns c = loops_rehearsed
