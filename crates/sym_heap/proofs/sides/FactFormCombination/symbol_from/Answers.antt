use Rattle.sym_heap.specs.Sides as spec
use Rattle.sym_heap.proofs.Narrow.{next_of_difference, difference_rises}
use Rattle.sym_heap.proofs.sides.FactFormCombination.symbol_from.Goals as goal

pub returns-clause-next : goal.returns-clause-next
returns-clause-next c =
    let form = spec.form_of c.args.self.now.forms.now in
    let r = c.args.self.now.fact.now in
    rw (c.lesser.ensures) (next_of_difference (spec.side form r.high) (spec.side form r.low) c.args.least _ _
    c.symbol_of_side.ensures.next c.symbol_of_side-2.ensures.next)

pub returns-clause-rising : goal.returns-clause-rising
returns-clause-rising c =
    let form = spec.form_of c.args.self.now.forms.now in
    let r = c.args.self.now.fact.now in
    difference_rises (spec.side form r.high) (spec.side form r.low) c.symbol_of_side.ensures.rising
    c.symbol_of_side-2.ensures.rising
