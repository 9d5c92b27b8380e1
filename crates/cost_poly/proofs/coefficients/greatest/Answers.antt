use Rattle.std.proofs.Common.{refl, sym, slice_index_or}
use Rattle.cost_poly.proofs.Listed.{greatest_none, greater_of}
use Rattle.cost_poly.proofs.coefficients.greatest.Goals as goal

pub loop-place-init : goal.loop-place-init
loop-place-init c = sym (greatest_none (λ place. slice_index_or c.args.numbers.now place 0))

pub loop-place-preserved : goal.loop-place-preserved
loop-place-preserved c = greater_of (λ place. slice_index_or c.args.numbers.now place 0) c.loop-place.place _ _ _
    c.loop-place.invariant refl c.larger-greatest.ensures
