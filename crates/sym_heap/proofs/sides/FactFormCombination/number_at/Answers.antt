use Rattle.std.proofs.Common.{arith}
use Rattle.std.proofs.lemmas.Int.{ints}
use Rattle.sym_heap.specs.Sides as spec
use Rattle.sym_heap.proofs.Narrow.{number_of_difference}
use Rattle.sym_heap.proofs.sides.FactFormCombination.number_at.Goals as goal

pub returns : goal.returns
returns c =
    let form = spec.form_of c.args.self.now.forms.now in
    let r = c.args.self.now.fact.now in
    let whole = number_of_difference c.args.place (spec.side form r.high) (spec.side form r.low) in
    let high = c.number_of_side.ensures in
    let low = c.number_of_side-2.ensures in
    omega (arith, ints, whole, high.number, high.near.0, high.near.1, low.number, low.near.0, low.near.1)
