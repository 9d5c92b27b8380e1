use Rattle.std.proofs.Common.{◌≡◌, pos, ◌-ℤ◌, ◌*ℤ◌, arith, rules, SFits}
use Rattle.std.specs.Int.{w128}
use Rattle.std.proofs.lemmas.Int.{ints, to_z-of_z}
use Rattle.side_certs.specs.Closes.{number_at}
use Rattle.cert_search.proofs.TakenOff.{number_less}
use Rattle.cert_search.proofs.difference.DifferenceCombination.number_at.Goals as goal

pub returns : goal.returns
returns c =
    let d = c.args.self.now in
    let place = c.args.place in
    let goal_fits : SFits w128 c.number_at.result = search rules in
    let form_fits : SFits w128 c.number_at-2.result = search rules in
    let product_fits : SFits w128 c.product.result = search rules in
    let fits : SFits w128 (c.number_at.result -ℤ c.product.result) = search rules in
    let form_is = to_z-of_z w128 c.number_at-2.result form_fits in
    let product : c.product.result ≡ pos d.mult *ℤ number_at place d.form.now =
    rw (form_is, c.number_at-2.ensures.number) at c.product.ensures.product in
    let whole = number_less d.goal.now d.form.now d.mult place in
    rw (to_z-of_z w128 c.number_at.result goal_fits, to_z-of_z w128 c.product.result product_fits, to_z-of_z w128 _ fits)
    (omega (arith, ints, whole, c.number_at.ensures.number, product))
