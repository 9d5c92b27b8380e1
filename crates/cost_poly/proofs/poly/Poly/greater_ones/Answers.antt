use Rattle.std.proofs.Common.{length, length-set, ◌<◌, ◌≡◌, ◌≤◌, ◌^◌, ◌∙◌, arith}
use Rattle.cost_poly.specs.Polynomial.{greater}
use Rattle.cost_poly.proofs.Listed.{filled}
use Rattle.cost_poly.proofs.poly.Poly.greater_ones.Goals as goal

pub loop-place-preserved : goal.loop-place-preserved
loop-place-preserved c =
    let room : c.loop-place.place < length c.loop-place.numbers =
    omega (arith, c.loop-place.invariant.size, c.loop-place-test.true) in
    let one = c.coefficient_at.ensures in
    let other = c.coefficient_at-in-loop-place.ensures in
    let number : c.larger.result ≡ greater c.args.self.now c.args.other.now c.loop-place.place =
    omega (arith, c.larger.ensures, c.from.ensures, c.from-in-loop-place.ensures, one.coefficient, other.coefficient) in
    let small : c.larger.result ≤ 2 ^ 40 =
    omega (arith, c.larger.ensures, c.from.ensures, c.from-in-loop-place.ensures, one.small, other.small) in record {
      size = length-set c.loop-place.numbers c.loop-place.place c.larger.result ∙ c.loop-place.invariant.size;
      numbers = filled (λ place n. n ≡ greater c.args.self.now c.args.other.now place) c.loop-place.numbers c.loop-place.place
          c.larger.result room c.loop-place.invariant.numbers number;
      small = filled (λ place n. n ≤ 2 ^ 40) c.loop-place.numbers c.loop-place.place c.larger.result room
          c.loop-place.invariant.small small;
    }
