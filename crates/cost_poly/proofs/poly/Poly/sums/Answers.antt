use Rattle.std.proofs.Common.{length, length-set, ◌∙◌, ◌<◌, ◌≡◌, ◌+◌, arith}
use Rattle.cost_poly.specs.Polynomial.{sum}
use Rattle.cost_poly.proofs.Listed.{filled}
use Rattle.cost_poly.proofs.poly.Poly.sums.Goals as goal

pub loop-place-preserved : goal.loop-place-preserved
loop-place-preserved c =
    let room : c.loop-place.place < length c.loop-place.numbers =
    omega (arith, c.loop-place.invariant.size, c.loop-place-test.true) in
    let number : c.from.result + c.from-in-loop-place.result ≡ sum c.args.self.now c.args.other.now c.loop-place.place =
    omega (
      arith,
      c.from.ensures,
      c.from-in-loop-place.ensures,
      c.coefficient_at.ensures.coefficient,
      c.coefficient_at-in-loop-place.ensures.coefficient,
    ) in record {
      size = length-set c.loop-place.numbers c.loop-place.place (c.from.result + c.from-in-loop-place.result)
          ∙ c.loop-place.invariant.size;
      numbers = filled (λ place n. n ≡ sum c.args.self.now c.args.other.now place) c.loop-place.numbers c.loop-place.place
          (c.from.result + c.from-in-loop-place.result) room c.loop-place.invariant.numbers number;
    }
