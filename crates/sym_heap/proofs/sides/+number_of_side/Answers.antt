use Rattle.std.proofs.Common.{◌≡◌, ◌≤◌, ℤ, pos, ◌*ℤ◌, arith, rules, SFits, ap}
use Rattle.std.specs.Int.{w128}
use Rattle.std.proofs.lemmas.Int.{ints, to_z-of_z}
use Rattle.side_certs.specs.Closes.{number_at}
use Rattle.side_certs.proofs.laws.Products.{near_product}
use Rattle.sym_heap.specs.Sides as spec
use Rattle.sym_heap.proofs.Narrow.{side_near, near_both, small_sum, number_of_sum, number_of_multiple, names_of_sum}
use Rattle.sym_heap.proofs.Narrow.{names_of_multiple, small_multiple}
use Rattle.sym_heap.proofs.sides.+number_of_side.Goals as goal

pub returns-in-Sum-clause-number : goal.returns-in-Sum-clause-number
returns-in-Sum-clause-number t c =
    let one = c.number_of_side.ensures in
    let two = c.number_of_side-in-Sum.ensures in
    let whole = number_of_sum c.args.place (spec.form_of c.args.forms.now) c.args.side.now c.in-Sum.p c.in-Sum.q c.in-Sum.is in
    let left = rw (c.deref.ensures) at one.number in
    let right = rw (c.deref-in-Sum.ensures) at two.number in
    omega (arith, ints, whole, left, right, one.near.0, one.near.1, two.near.0, two.near.1)

pub returns-in-Sum-clause-names : goal.returns-in-Sum-clause-names
returns-in-Sum-clause-names t c =
    let form = spec.form_of c.args.forms.now in
    let one = rw (c.deref.ensures) at c.number_of_side.ensures.names in
    let two = rw (c.deref-in-Sum.ensures) at c.number_of_side-in-Sum.ensures.names in
    rw (names_of_sum c.args.side.now c.in-Sum.p c.in-Sum.q c.in-Sum.is)
    (near_both c.args.place form (spec.names c.in-Sum.p) (spec.names c.in-Sum.q) one two)

pub returns-in-Sum-clause-constant : goal.returns-in-Sum-clause-constant
returns-in-Sum-clause-constant t c = small_sum c.args.side.now c.in-Sum.p c.in-Sum.q c.in-Sum.is

pub returns-in-Sum-clause-near : goal.returns-in-Sum-clause-near
returns-in-Sum-clause-near t c =
    let near = side_near c.args.place (spec.form_of c.args.forms.now) c.args.side.now c.requires (returns-in-Sum-clause-names t c)
    (returns-in-Sum-clause-constant t c) in
    let number = returns-in-Sum-clause-number t c in
    (rw number near.0, rw number near.1)

pub returns-in-Scale-clause-number : goal.returns-in-Scale-clause-number
returns-in-Scale-clause-number t c =
    let one = c.number_of_side-in-Scale.ensures in
    let whole = number_of_multiple c.args.place (spec.form_of c.args.forms.now) c.args.side.now c.in-Scale.k c.in-Scale.p
    c.in-Scale.is in
    let inner = rw (c.deref-in-Scale.ensures) at one.number in
    let factor_fits : SFits w128 c.from.result = search rules in
    let number_fits : SFits w128 c.number_of_side-in-Scale.result = search rules in
    let small : c.in-Scale.k ≤ 4294967295 = search rules in
    let near = near_product 4294967296 77371252455336267181195264 c.from.result c.number_of_side-in-Scale.result
    (rw (c.from.ensures) (omega (arith, ints, small), omega (arith, ints, small))) one.near in
    let product : c.from.result *ℤ c.number_of_side-in-Scale.result ≡ pos c.in-Scale.k *ℤ c.number_of_side-in-Scale.result =
    ap (λ (z : ℤ). z *ℤ c.number_of_side-in-Scale.result) c.from.ensures in
    let same : pos c.in-Scale.k *ℤ c.number_of_side-in-Scale.result
    ≡ pos c.in-Scale.k *ℤ number_at c.args.place (spec.side (spec.form_of c.args.forms.now) c.in-Scale.p) =
    ap (λ (z : ℤ). pos c.in-Scale.k *ℤ z) inner in
    rw (to_z-of_z w128 c.from.result factor_fits, to_z-of_z w128 c.number_of_side-in-Scale.result number_fits)
    (omega (arith, ints, near.0, near.1, product, same, whole))

pub returns-in-Scale-clause-names : goal.returns-in-Scale-clause-names
returns-in-Scale-clause-names t c =
    rw (names_of_multiple c.args.side.now c.in-Scale.k c.in-Scale.p c.in-Scale.is)
    (rw (c.deref-in-Scale.ensures) at c.number_of_side-in-Scale.ensures.names)

pub returns-in-Scale-clause-constant : goal.returns-in-Scale-clause-constant
returns-in-Scale-clause-constant t c = small_multiple c.args.side.now c.in-Scale.k c.in-Scale.p c.in-Scale.is

pub returns-in-Scale-clause-near : goal.returns-in-Scale-clause-near
returns-in-Scale-clause-near t c =
    let near = side_near c.args.place (spec.form_of c.args.forms.now) c.args.side.now c.requires
    (returns-in-Scale-clause-names t c) (returns-in-Scale-clause-constant t c) in
    let number = returns-in-Scale-clause-number t c in
    (rw number near.0, rw number near.1)
