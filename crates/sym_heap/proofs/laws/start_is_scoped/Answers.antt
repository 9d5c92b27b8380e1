use Rattle.sym_heap.proofs.Scoping.{start_is_scoped}
use Rattle.sym_heap.proofs.laws.start_is_scoped.Goals as goal

pub returns : goal.returns
returns c = start_is_scoped
