use Rattle.std.proofs.Common.{sym}
use Rattle.cost_poly.specs.Polynomial.{greatest, cubic}
use Rattle.cost_poly.proofs.Listed.{greatest_none, greater_of}
use Rattle.cost_poly.proofs.poly.Poly.greatest_cubic.Goals as goal

pub loop-a-init : goal.loop-a-init
loop-a-init c = sym (greatest_none (λ a. greatest (λ b. greatest (cubic c.args.self.now c.args.t.now a b) 8) 8))

pub loop-a-preserved : goal.loop-a-preserved
loop-a-preserved c = greater_of (λ a. greatest (λ b. greatest (cubic c.args.self.now c.args.t.now a b) 8) 8) c.loop-a.a _ _ _
    c.loop-a.invariant c.greatest_from.ensures c.larger-greatest.ensures
