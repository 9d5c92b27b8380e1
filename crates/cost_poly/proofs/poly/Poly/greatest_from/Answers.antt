use Rattle.std.proofs.Common.{sym}
use Rattle.cost_poly.specs.Polynomial.{greatest, cubic}
use Rattle.cost_poly.proofs.Listed.{greatest_none, greater_of}
use Rattle.cost_poly.proofs.poly.Poly.greatest_from.Goals as goal

pub loop-b-init : goal.loop-b-init
loop-b-init c = sym (greatest_none (λ b. greatest (cubic c.args.self.now c.args.t.now c.args.a b) 8))

pub loop-b-preserved : goal.loop-b-preserved
loop-b-preserved c = greater_of (λ b. greatest (cubic c.args.self.now c.args.t.now c.args.a b) 8) c.loop-b.b _ _ _
    c.loop-b.invariant c.greatest_between.ensures c.larger-greatest.ensures
