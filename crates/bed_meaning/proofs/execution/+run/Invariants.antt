use Rattle.std.proofs.Common.{◌≡◌, ◌+◌, ◌-◌, ◌*◌, ◌^◌, ◌<◌, ◌≤◌, map, sum, drop}
use Rattle.bed_meaning.specs.Fuelled.{in_turn}
use Rattle.bed_syntax.specs.Shape.{cmd_size}
use Rattle.bed_meaning.specs.State.{state_of}
use Rattle.bed_meaning.specs.Meaning.{loop_of}
use Rattle.bed_meaning.specs.Meaning as spec
use Rattle.bed_meaning.proofs.execution.+run.Given as goal

abbrev pub decreases-run : goal.decreases-run
decreases-run l = 2 * cmd_size l.c.now

abbrev pub decreases-run_all : goal.decreases-run_all
decreases-run_all l = 2 * sum (map cmd_size l.cs.now) + 1

abbrev pub decreases-run_turns : goal.decreases-run_turns
decreases-run_turns l = 2 * cmd_size l.p.now + 1

abbrev pub invariant-run_all-loop-c : goal.invariant-run_all-loop-c
invariant-run_all-loop-c l =
    (in_turn (map (spec.run l.w) (drop l.c-index l.cs)) (state_of l.meter l.mem l.locals)
    ≡ in_turn (map (spec.run l.w) l.cs) (state_of l.fn.meter l.fn.mem l.fn.locals))
    × (sum (map cmd_size (drop l.c-index l.cs)) ≤ sum (map cmd_size l.cs))
    × (l.meter.ticks + l.meter.fuel * 2 ^ 40 ≤ l.fn.meter.ticks + l.fn.meter.fuel * 2 ^ 40)
    × (l.fn.meter.ticks + l.fn.meter.fuel * 2 ^ 40 + 2 ^ 40 < 2 ^ 128)

abbrev pub invariant-run_turns-loop-turn : goal.invariant-run_turns-loop-turn
invariant-run_turns-loop-turn l =
    (loop_of l.w (l.limit - l._turn) l.e (spec.run l.w l.p) (state_of l.meter l.mem l.locals)
    ≡ loop_of l.w l.limit l.e (spec.run l.w l.p) (state_of l.fn.meter l.fn.mem l.fn.locals))
    × (l.meter.ticks + l.meter.fuel * 2 ^ 40 ≤ l.fn.meter.ticks + l.fn.meter.fuel * 2 ^ 40)
    × (l.fn.meter.ticks + l.fn.meter.fuel * 2 ^ 40 + 2 ^ 40 < 2 ^ 128)
