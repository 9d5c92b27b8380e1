use Rattle.std.proofs.Common.{length, length-set, ◌<◌, ◌≡◌, ◌∙◌, arith, ap}
use Rattle.cost_poly.specs.Polynomial.{product, product_of}
use Rattle.cost_poly.proofs.Listed.{filled}
use Rattle.cost_poly.proofs.poly.Poly.products.Goals as goal

pub loop-place-preserved : goal.loop-place-preserved
loop-place-preserved c =
    let room : c.loop-place.place < length c.loop-place.numbers =
    omega (arith, c.loop-place.invariant.size, c.loop-place-test.true) in
    let number : c.product_of.result ≡ product c.args.self.now c.args.t.now c.loop-place.place =
    c.product_of.ensures ∙ ap (λ s. product_of c.args.self.now c.args.t.now s) c.symbols-first.ensures.symbols in record {
      size = length-set c.loop-place.numbers c.loop-place.place c.product_of.result ∙ c.loop-place.invariant.size;
      numbers = filled (λ place n. n ≡ product c.args.self.now c.args.t.now place) c.loop-place.numbers c.loop-place.place
          c.product_of.result room c.loop-place.invariant.numbers number;
    }
