use Rattle.std.proofs.Common.{◌≡◌, drop, map}
use Rattle.sym_heap.specs.Sides.{form_in, difference, AllFormed}
use Rattle.sym_heap.specs.Start as spec
use Rattle.sym_heap.proofs.context.Ctx.require.Given as goal

abbrev pub invariant-loop-requirement : goal.invariant-loop-requirement
invariant-loop-requirement l = record {
  formed : AllFormed (form_in l.fn.self.scalars) (drop l.requirement-index l.requirements);
  scalars : l.self.scalars ≡ l.fn.self.scalars;
  rest : spec.with_facts (map (difference (form_in l.fn.self.scalars)) (drop l.requirement-index l.requirements)) l.self
      ≡ spec.with_facts (map (difference (form_in l.fn.self.scalars)) l.requirements) l.fn.self;
}
