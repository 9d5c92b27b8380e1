use Rattle.std.proofs.Common.{true, List, ℕ, pos, ◌*ℤ◌, ◌≡◌, ◌∙◌, sym, slice_index_or, arith, max}
use Rattle.cost_poly.specs.Polynomial.{product, greatest, greatest_cubic, is_entry_form, at}
use Rattle.cost_poly.proofs.Listed.{within_same, greatest_same, scaled_within, scaled_wide, if_within}
use Rattle.cost_poly.proofs.Products.{product_value}
use Rattle.side_certs.specs.LinearForm.{value_at}
use Rattle.cost_poly.proofs.poly.Poly.scale.Goals as goal

pub returns-then-cubic-eq0-clause-product : goal.returns-then-cubic-eq0-clause-product
returns-then-cubic-eq0-clause-product c =
    c.within.ensures ∙ within_same (λ place. slice_index_or c.products-numbers.result place 0)
    (product c.args.self.now c.args.t.now) c.products-numbers.ensures
    ∙ sym (scaled_within c.args.self.now c.args.t.now c.greatest_cubic-cubic.result c.greatest_cubic-cubic.ensures
    c.if-cubic-eq0.true)

pub returns-clause-product : goal.returns-clause-product
returns-clause-product c =
    let numbers : c.greatest.result ≡ greatest (product c.args.self.now c.args.t.now) 45 =
    c.greatest.ensures ∙ greatest_same (λ place. slice_index_or c.products-numbers.result place 0)
    (product c.args.self.now c.args.t.now) 45 c.products-numbers.ensures in
    let coefficient : c.larger.result
    ≡ max (greatest_cubic c.args.self.now c.args.t.now) (greatest (product c.args.self.now c.args.t.now) 45) =
    omega (arith, c.larger.ensures, numbers, c.greatest_cubic-cubic.ensures) in
    rw coefficient (sym (scaled_wide c.args.self.now c.args.t.now c.greatest_cubic-cubic.result c.greatest_cubic-cubic.ensures
    c.if-cubic-eq0.false))

pub returns-then-cubic-eq0-clause-value : goal.returns-then-cubic-eq0-clause-value
returns-then-cubic-eq0-clause-value c =
    let is = c.within.ensures ∙ within_same (λ place. slice_index_or c.products-numbers.result place 0)
    (product c.args.self.now c.args.t.now) c.products-numbers.ensures in
    let none : greatest_cubic c.args.self.now c.args.t.now ≡ 0 = sym c.greatest_cubic-cubic.ensures ∙ c.if-cubic-eq0.true in
    if_within (product c.args.self.now c.args.t.now)
    (λ s. is_entry_form c.args.t.now ≡ true → (values : List ℕ)
    → pos (at values s) ≡ pos (at values c.args.self.now) *ℤ value_at (λ r. slice_index_or values r 0) c.args.t.now) _ is
    (λ entry values. product_value values c.args.self.now c.args.t.now c.is_bounded.ensures.bound none entry)
