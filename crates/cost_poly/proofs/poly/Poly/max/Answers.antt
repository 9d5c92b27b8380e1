use Rattle.std.proofs.Common.{◌∙◌, slice_index_or}
use Rattle.cost_poly.specs.Polynomial.{greater}
use Rattle.cost_poly.proofs.Listed.{listed_same}
use Rattle.cost_poly.proofs.Values.{greater_value}
use Rattle.cost_poly.proofs.poly.Poly.max.Goals as goal

pub returns-clause-greater : goal.returns-clause-greater
returns-clause-greater c = c.listed.ensures
    ∙ listed_same (λ place. slice_index_or c.greater_ones.result place 0) (greater c.args.self.now c.args.other.now) 45
    c.greater_ones.ensures.numbers

pub returns-clause-value : goal.returns-clause-value
returns-clause-value c =
    let is = c.listed.ensures ∙ listed_same (λ place. slice_index_or c.greater_ones.result place 0)
    (greater c.args.self.now c.args.other.now) 45 c.greater_ones.ensures.numbers in
    λ values. rw is (greater_value values c.args.self.now c.args.other.now c.is_bounded.ensures.bound
    c.is_bounded-2.ensures.bound)
