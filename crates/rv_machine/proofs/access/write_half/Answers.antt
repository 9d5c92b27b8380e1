use Rattle.std.proofs.Common.{◌≡◌, ◌%◌, if◌then◌else◌, bit_and, ◌∙◌, ap, arith}
use Rattle.std.proofs.lemmas.Grind.{common_steps}
use Rattle.rv_machine.specs.State.{with_number}
use Rattle.rv_memory.proofs.laws.Numbers.{with_number_low}
use Rattle.rv_machine.proofs.access.write_half.Goals as goal

pub returns-clause-value : goal.returns-clause-value
returns-clause-value c =
    let mem = c.args.mem.now in
    let low : bit_and c.args.value 65535 ≡ c.args.value % 65536 = grind (arith, common_steps) in
    c.set_two.ensures.value
    ∙ ap (λ m. if c.set_two.result then m else mem)
    (ap (with_number mem 2 c.args.at) low ∙ with_number_low mem c.args.at c.args.value)
