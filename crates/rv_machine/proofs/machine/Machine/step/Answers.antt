use Rattle.std.proofs.Common.{arith, sym, ap, ◌∙◌, None, Some}
use Rattle.rv_machine.specs.View.{state_of}
use Rattle.rv_machine.proofs.laws.Table.{row_of, unknown}
use Rattle.rv_machine.proofs.Steps.{step_misaligned, step_fetched}
use Rattle.rv_machine.specs.Step.{executed}
use Rattle.rv_machine.proofs.machine.Machine.step.Goals as goal

pub returns-then-self-ne0-clause-made : goal.returns-then-self-ne0-clause-made
returns-then-self-ne0-clause-made c = sym (step_misaligned (state_of c.args.self.now) c.if-self-ne0.true)

pub returns-in_default-clause-made : goal.returns-in_default-clause-made
returns-in_default-clause-made c =
    sym (step_fetched (state_of c.args.self.now) None c.if-self-ne0.false (sym c.in_default.is ∙ c.fetch.ensures))

pub returns-in_default-decode-clause-made : goal.returns-in_default-decode-clause-made
returns-in_default-decode-clause-made c =
    let s = state_of c.args.self.now in
    sym (step_fetched s (Some c.in-Some.word) c.if-self-ne0.false (sym c.in-Some.is ∙ c.fetch.ensures)
    ∙ unknown s c.in-Some.word (omega arith) (λ i e. cc (c.decode.ensures.only i e)))

pub returns-clause-made : goal.returns-clause-made
returns-clause-made c =
    let s = state_of c.args.self.now in
    c.execute.ensures.made ∙ sym (row_of s c.in-Some-decode.instruction)
    ∙ ap (executed s) (sym c.in-Some-decode.ensures.found)
    ∙ sym (step_fetched s (Some c.in-Some.word) c.if-self-ne0.false (sym c.in-Some.is ∙ c.fetch.ensures))
