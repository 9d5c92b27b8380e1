use Rattle.std.proofs.Common.{rules, ◌+◌, ◌*◌, ◌∙◌, sym, ap, subst, is_ok, IsTrue}
use Rattle.model_syntax.specs.Linear.{linear}
use Rattle.model_value.specs.Formed.{BelowForm}
use Rattle.model_value.proofs.Sides.{linear_sum, linear_scale, sum_below, scale_below, left_formed, right_formed, fits}
use Rattle.model_value.proofs.requirements.+whole.Goals as goal

pub overflow_add-result : goal.overflow_add-result
overflow_add-result t c =
    let formed = subst (λ r. IsTrue (is_ok r)) (ap linear c.in-Sum.is ∙ linear_sum c.in-Sum.p c.in-Sum.q) c.requires.form in
    let left = fits (linear c.in-Sum.p) c.whole.result (left_formed (linear c.in-Sum.p) _ formed)
    (rw c.deref.ensures at c.whole.ensures.below) in
    let right = fits (linear c.in-Sum.q) c.whole-in-Sum.result (right_formed (linear c.in-Sum.p) (linear c.in-Sum.q) formed)
    (rw c.deref-in-Sum.ensures at c.whole-in-Sum.ensures.below) in
    search (rules, left, right)

pub product-requires : goal.product-requires
product-requires t c =
    let formed = subst (λ r. IsTrue (is_ok r)) (ap linear c.in-Scale.is ∙ linear_scale c.in-Scale.k c.in-Scale.p) c.requires.form
    in
    fits (linear c.in-Scale.p) c.whole-in-Scale.result (left_formed (linear c.in-Scale.p) _ formed)
    (rw c.deref-in-Scale.ensures at c.whole-in-Scale.ensures.below)

pub returns-in-Sum-clause-below : goal.returns-in-Sum-clause-below
returns-in-Sum-clause-below t c =
    let left : BelowForm c.whole.result (linear c.in-Sum.p) = rw c.deref.ensures at c.whole.ensures.below in
    let right : BelowForm c.whole-in-Sum.result (linear c.in-Sum.q) = rw c.deref-in-Sum.ensures at c.whole-in-Sum.ensures.below in
    subst (BelowForm (c.whole.result + c.whole-in-Sum.result)) (sym (ap linear c.in-Sum.is ∙ linear_sum c.in-Sum.p c.in-Sum.q))
    (sum_below (linear c.in-Sum.p) (linear c.in-Sum.q) c.whole.result c.whole-in-Sum.result left right)

pub returns-in-Scale-clause-below : goal.returns-in-Scale-clause-below
returns-in-Scale-clause-below t c =
    let inner : BelowForm c.whole-in-Scale.result (linear c.in-Scale.p) =
    rw c.deref-in-Scale.ensures at c.whole-in-Scale.ensures.below in
    rw c.product.ensures (subst (BelowForm (c.in-Scale.k * c.whole-in-Scale.result))
    (sym (ap linear c.in-Scale.is ∙ linear_scale c.in-Scale.k c.in-Scale.p))
    (scale_below c.in-Scale.k (linear c.in-Scale.p) c.whole-in-Scale.result inner))
