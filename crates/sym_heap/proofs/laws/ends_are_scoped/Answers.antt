use Rattle.sym_heap.proofs.laws.EndScopes.{restored_scoped, alike_scoped, over_scoped}
use Rattle.sym_heap.proofs.laws.ends_are_scoped.Goals as goal

pub returns : goal.returns
returns c = record { back = restored_scoped; alike = alike_scoped; over = over_scoped }
