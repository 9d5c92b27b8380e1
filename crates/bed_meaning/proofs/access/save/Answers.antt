use Rattle.std.proofs.Common.{◌≡◌, ◌%◌, bit_and, if◌then◌else◌, ◌∙◌, ap, arith}
use Rattle.std.proofs.lemmas.Grind.{common_steps}
use Rattle.bed_syntax.specs.declared.operation.Size.TheVariants as sizes
use Rattle.rv_memory.specs.Numbers.{with_number}
use Rattle.rv_memory.proofs.laws.Numbers.{with_number_low}
use Rattle.bed_meaning.specs.Access.{store}
use Rattle.bed_meaning.proofs.Numbers.{store_done}
use Rattle.bed_meaning.proofs.access.save.Goals as goal

pub returns-then-at-eq0 : goal.returns-then-at-eq0
returns-then-at-eq0 c =
    let mem = c.args.mem.now in
    let low : bit_and c.args.value 65535 ≡ c.args.value % 65536 = grind (arith, common_steps) in
    let value = c.set_two.ensures.value
    ∙ ap (λ m. if c.set_two.result then m else mem)
    (ap (with_number mem 2 c.args.at) low ∙ with_number_low mem c.args.at c.args.value) in
    ap (λ size. store size mem c.args.at c.args.value) c.in-Two.is
    ∙ store_done sizes.Two mem c.set_two.new.self c.args.at c.args.value c.set_two.result (omega arith) c.if-at-eq0.true
    c.set_two.ensures.found value

pub returns-then-at-eq0-2 : goal.returns-then-at-eq0-2
returns-then-at-eq0-2 c =
    let mem = c.args.mem.now in
    ap (λ size. store size mem c.args.at c.args.value) c.in-Four.is
    ∙ store_done sizes.Four mem c.set_four.new.self c.args.at c.args.value c.set_four.result (omega arith) c.if-at-eq0-2.true
    c.set_four.ensures.found c.set_four.ensures.value
