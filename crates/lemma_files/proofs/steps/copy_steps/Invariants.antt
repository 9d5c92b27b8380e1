use Rattle.std.proofs.Common.{◌≡◌, ◌++◌, drop}
use Rattle.lemma_files.proofs.steps.copy_steps.Given as goal

abbrev pub invariant-loop-step : goal.invariant-loop-step
invariant-loop-step l = l.copy ++ drop l.step-index l.steps ≡ l.steps
