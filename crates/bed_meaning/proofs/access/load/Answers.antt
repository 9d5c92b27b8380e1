use Rattle.std.proofs.Common.{rules, ◌≡◌, ◌∙◌, sym, ap}
use Rattle.bed_syntax.specs.declared.operation.Size.TheVariants as sizes
use Rattle.bed_meaning.specs.Access.{loaded}
use Rattle.bed_meaning.proofs.Numbers.{loaded_number}
use Rattle.bed_meaning.proofs.access.load.Goals as goal

pub returns-then-at-eq0 : goal.returns-then-at-eq0
returns-then-at-eq0 c =
    let same : c.map-then-at-eq0.result ≡ c.get_two.result = search rules in
    same ∙ c.get_two.ensures ∙ sym
    (ap (λ size. loaded size c.args.mem.now c.args.at) c.in-Two.is
    ∙ loaded_number sizes.Two c.args.mem.now c.args.at c.if-at-eq0.true)

pub returns-then-at-eq0-2 : goal.returns-then-at-eq0-2
returns-then-at-eq0-2 c =
    c.get_four.ensures ∙ sym (ap (λ size. loaded size c.args.mem.now c.args.at) c.in-Four.is
    ∙ loaded_number sizes.Four c.args.mem.now c.args.at c.if-at-eq0-2.true)
