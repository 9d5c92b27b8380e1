use Rattle.std.proofs.Common.{◌≡◌, ◌+◌, ◌≤◌, drop}
use Rattle.sym_heap.specs.Start as spec
use Rattle.sym_heap.proofs.context.Ctx.declare.Given as goal

abbrev pub invariant-loop-param : goal.invariant-loop-param
invariant-loop-param l = record {
  room : spec.next_local l.self + spec.registers (drop l.param-index l.params) ≤ 8;
  few : l.p ≤ spec.next_local l.self;
  rest : spec.with_params l.p (drop l.param-index l.params) l.self ≡ spec.with_params 0 l.fn.params l.fn.self;
}
