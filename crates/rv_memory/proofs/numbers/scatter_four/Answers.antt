use Rattle.std.proofs.Common.{◌∙◌, sym, ap, is_some, arith, ◌/◌, ◌+◌, refl}
use Rattle.std.proofs.lemmas.Grind.{common_steps}
use Rattle.rv_memory.specs.Contents.{contents}
use Rattle.rv_memory.proofs.Stored.{one_set, none_left}
use Rattle.rv_memory.proofs.numbers.scatter_four.Goals as goal

pub returns-clause-value : goal.returns-clause-value
returns-clause-value c =
    let first = one_set (contents c.args.pages.now) (contents c.write.new.pages) 3 c.args.at (c.args.at + 1) c.args.value _
    c.write.result (ap is_some (sym c.gather_four.ensures) ∙ c.if-is_none.ensures) c.write.ensures.found.1
    c.write.ensures.value refl (grind (arith, common_steps)) in
    let second = one_set (contents c.write.new.pages) (contents c.write-2.new.pages) 2 (c.args.at + 1) (c.args.at + 2)
    (c.args.value / 256) _ c.write-2.result first.there c.write-2.ensures.found.1 c.write-2.ensures.value (omega arith)
    (grind (arith, common_steps)) in
    let third = one_set (contents c.write-2.new.pages) (contents c.write-3.new.pages) 1 (c.args.at + 2) (c.args.at + 3)
    (c.args.value / 256 / 256) _ c.write-3.result second.there c.write-3.ensures.found.1 c.write-3.ensures.value
    (omega arith) (grind (arith, common_steps)) in
    let fourth = one_set (contents c.write-3.new.pages) (contents c.write-4.new.pages) 0 (c.args.at + 3) (c.args.at + 4)
    (c.args.value / 256 / 256 / 256) _ c.write-4.result third.there c.write-4.ensures.found.1 c.write-4.ensures.value
    (omega arith) (grind (arith, common_steps)) in
    sym (first.rest ∙ second.rest ∙ third.rest ∙ fourth.rest ∙ none_left (contents c.write-4.new.pages) _ _)
