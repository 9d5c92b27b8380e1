use Rattle.std.proofs.Common.{sym}
use Rattle.cost_poly.specs.Polynomial.{cubic}
use Rattle.cost_poly.proofs.Listed.{greatest_none, greater_of}
use Rattle.cost_poly.proofs.poly.Poly.greatest_between.Goals as goal

pub loop-c-init : goal.loop-c-init
loop-c-init c = sym (greatest_none (cubic c.args.self.now c.args.t.now c.args.a c.args.b))

pub loop-c-preserved : goal.loop-c-preserved
loop-c-preserved c = greater_of (cubic c.args.self.now c.args.t.now c.args.a c.args.b) c.loop-c.c _ _ _ c.loop-c.invariant
    c.cubic.ensures c.larger-greatest.ensures
