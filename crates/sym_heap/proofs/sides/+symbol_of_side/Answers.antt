use Rattle.sym_heap.specs.Sides as spec
use Rattle.sym_heap.proofs.Narrow.{next_of_sum, next_of_multiple, sum_rises, multiple_rises}
use Rattle.sym_heap.proofs.sides.+symbol_of_side.Goals as goal

pub returns-in-Sum-clause-next : goal.returns-in-Sum-clause-next
returns-in-Sum-clause-next t c =
    let one = rw (c.deref.ensures) at c.symbol_of_side.ensures.next in
    let two = rw (c.deref-in-Sum.ensures) at c.symbol_of_side-in-Sum.ensures.next in
    rw (c.lesser.ensures) (next_of_sum (spec.form_of c.args.forms.now) c.args.side.now c.in-Sum.p c.in-Sum.q c.args.least _ _
    c.in-Sum.is one two)

pub returns-in-Sum-clause-rising : goal.returns-in-Sum-clause-rising
returns-in-Sum-clause-rising t c =
    let one = rw (c.deref.ensures) at c.symbol_of_side.ensures.rising in
    let two = rw (c.deref-in-Sum.ensures) at c.symbol_of_side-in-Sum.ensures.rising in
    sum_rises (spec.form_of c.args.forms.now) c.args.side.now c.in-Sum.p c.in-Sum.q c.in-Sum.is one two

pub returns-in-Scale-clause-next : goal.returns-in-Scale-clause-next
returns-in-Scale-clause-next t c =
    let one = rw (c.deref-in-Scale.ensures) at c.symbol_of_side-in-Scale.ensures.next in
    next_of_multiple (spec.form_of c.args.forms.now) c.args.side.now c.in-Scale.field-0 c.in-Scale.p c.args.least _ c.in-Scale.is
    one

pub returns-in-Scale-clause-rising : goal.returns-in-Scale-clause-rising
returns-in-Scale-clause-rising t c =
    let one = rw (c.deref-in-Scale.ensures) at c.symbol_of_side-in-Scale.ensures.rising in
    multiple_rises (spec.form_of c.args.forms.now) c.args.side.now c.in-Scale.field-0 c.in-Scale.p c.in-Scale.is one
