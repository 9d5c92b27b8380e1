use Rattle.std.proofs.Common.{◌≡◌, ◌+◌, ◌∙◌, List, ℕ, slice_index_or}
use Rattle.cost_poly.specs.Polynomial.{at, sum}
use Rattle.cost_poly.proofs.Listed.{within_same, if_within}
use Rattle.cost_poly.proofs.Values.{sum_value}
use Rattle.cost_poly.proofs.poly.Poly.add.Goals as goal

pub returns-clause-sum : goal.returns-clause-sum
returns-clause-sum c = c.within.ensures
    ∙ within_same (λ place. slice_index_or c.sums.result place 0) (sum c.args.self.now c.args.other.now) c.sums.ensures

pub returns-clause-value : goal.returns-clause-value
returns-clause-value c =
    let is = c.within.ensures ∙ within_same (λ place. slice_index_or c.sums.result place 0) (sum c.args.self.now c.args.other.now)
    c.sums.ensures in
    if_within (sum c.args.self.now c.args.other.now)
    (λ s. (values : List ℕ) → at values s ≡ at values c.args.self.now + at values c.args.other.now) _ is
    (λ values. sum_value values c.args.self.now c.args.other.now c.is_bounded.ensures.bound c.is_bounded-2.ensures.bound)
