use Rattle.std.proofs.Common.{rules, arith, sym, ap, ◌∙◌, ◌≡◌, suc, ◌+◌, ◌-◌, ◌<◌, Some, Err}
use Rattle.std.proofs.lemmas.Grind.{common_steps}
use Rattle.bed_meaning.specs.Fuelled.{and_then}
use Rattle.bed_syntax.specs.Weight.{expr_weight}
use Rattle.bed_meaning.specs.declared.halt.Halt.{Halt}
use Rattle.bed_meaning.specs.Value.{value}
use Rattle.bed_meaning.specs.State.{State, state_of}
use Rattle.bed_meaning.specs.Meaning.{Rule, loop_of}
use Rattle.bed_meaning.specs.Meaning as spec
use Rattle.bed_meaning.proofs.Turn.{goes_round}
use Rattle.bed_meaning.proofs.execution.+run.Goals as goal

pub run_turns-returns-in_err-run-clause-came : goal.run_turns-returns-in_err-run-clause-came
run_turns-returns-in_err-run-clause-came t c =
    let body : Rule = spec.run c.args.w.now c.args.p.now in
    let s : State = state_of c.loop-turn.meter c.loop-turn.mem c.loop-turn.locals in
    let start : State = state_of c.take_one.new.meter c.loop-turn.mem c.loop-turn.locals in
    let next : Rule = loop_of c.args.w.now (c.args.limit - (c.loop-turn._turn + 1)) c.args.e.now body in
    let below : c.loop-turn._turn < c.args.limit = search rules in
    let is : value c.args.e.now s.mem s.vars ≡ Some c.in_ok-value.value = search rules in
    let is_more : c.in_ok-value.value ≡ 0 → ⊥ = search rules in
    let fuel : s.fuel ≡ suc c.take_one.new.meter.fuel = search rules in
    let ticks : c.take_one.new.meter.ticks ≡ s.ticks + (expr_weight c.args.w.now c.args.e.now + c.args.w.now.turn) =
    search rules in
    let round = goes_round c.args.w.now c.args.limit c.loop-turn._turn c.args.e.now body s c.in_ok-value.value
    c.take_one.new.meter.fuel c.take_one.new.meter.ticks below is is_more fuel ticks in
    let fails : (h : Halt) → body start ≡ Err h
    → loop_of c.args.w.now c.args.limit c.args.e.now body (state_of c.args.meter.now c.args.mem.now c.args.locals.now)
    ≡ Err h =
    λ h k. sym c.loop-turn.invariant.0 ∙ round ∙ ap (λ r. and_then r next) k in
    first_of (search (rules, fails), grind (arith, common_steps, fails))

pub run_turns-loop-turn-preserved : goal.run_turns-loop-turn-preserved
run_turns-loop-turn-preserved t c =
    let body : Rule = spec.run c.args.w.now c.args.p.now in
    let s : State = state_of c.loop-turn.meter c.loop-turn.mem c.loop-turn.locals in
    let next : Rule = loop_of c.args.w.now (c.args.limit - (c.loop-turn._turn + 1)) c.args.e.now body in
    let below : c.loop-turn._turn < c.args.limit = search rules in
    let is : value c.args.e.now s.mem s.vars ≡ Some c.in_ok-value.value = search rules in
    let is_more : c.in_ok-value.value ≡ 0 → ⊥ = search rules in
    let fuel : s.fuel ≡ suc c.take_one.new.meter.fuel = search rules in
    let ticks : c.take_one.new.meter.ticks ≡ s.ticks + (expr_weight c.args.w.now c.args.e.now + c.args.w.now.turn) =
    search rules in
    let round = goes_round c.args.w.now c.args.limit c.loop-turn._turn c.args.e.now body s c.in_ok-value.value
    c.take_one.new.meter.fuel c.take_one.new.meter.ticks below is is_more fuel ticks in
    (sym (round ∙ ap (λ r. and_then r next) c.in_ok-run.ensures.came) ∙ c.loop-turn.invariant.0, search rules, search rules)
