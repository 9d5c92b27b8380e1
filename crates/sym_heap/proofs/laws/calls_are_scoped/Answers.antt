use Rattle.sym_heap.proofs.laws.Scopes.{fresh_scoped, fact_scoped, reserved_scoped, back_scoped, bound_scoped, moved_scoped}
use Rattle.sym_heap.proofs.laws.Scopes.{written_scoped, dropped_scoped}
use Rattle.sym_heap.proofs.laws.calls_are_scoped.Goals as goal

pub returns : goal.returns
returns c = record {
  fresh = fresh_scoped;
  fact = fact_scoped;
  reserved = reserved_scoped;
  back = back_scoped;
  bound = bound_scoped;
  moved = moved_scoped;
  counted = written_scoped;
  dropped = dropped_scoped;
}
