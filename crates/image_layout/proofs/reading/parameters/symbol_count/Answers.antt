use Rattle.std.proofs.Common.{◌≤◌, arith, take}
use Rattle.std.specs.Prelude.{sum_by}
use Rattle.std.proofs.lemmas.List.Sums.{sum_by-take-le}
use Rattle.image_layout.specs.Spelling.{symbols_of, registers_of}
use Rattle.image_layout.proofs.Listed.{symbols_few, symbols_one}
use Rattle.image_layout.proofs.reading.parameters.symbol_count.Goals as goal

pub overflow_add-count : goal.overflow_add-count
overflow_add-count c =
    let most : sum_by symbols_of (take c.loop-kind.kind-index c.args.kinds.now) ≤ sum_by symbols_of c.args.kinds.now =
    sum_by-take-le symbols_of c.args.kinds.now c.loop-kind.kind-index in
    let few : sum_by symbols_of c.args.kinds.now ≤ sum_by registers_of c.args.kinds.now = symbols_few c.args.kinds.now in
    let one : c.symbols_of-count.result ≤ 1 = rw c.symbols_of-count.ensures (symbols_one _) in
    record { fits = omega (arith, most, few, one, c.loop-kind.invariant, c.requires) }

pub returns-clause-few : goal.returns-clause-few
returns-clause-few c =
    let most : sum_by symbols_of (take c.loop-kind.kind-index c.args.kinds.now) ≤ sum_by symbols_of c.args.kinds.now =
    sum_by-take-le symbols_of c.args.kinds.now c.loop-kind.kind-index in
    let few : sum_by symbols_of c.args.kinds.now ≤ sum_by registers_of c.args.kinds.now = symbols_few c.args.kinds.now in
    omega (arith, most, few, c.loop-kind.invariant, c.requires)
