use Rattle.std.proofs.Common.{◌≡◌, drop}
use Rattle.lemma_files.specs.Steps.{in_turn}
use Rattle.lemma_files.proofs.steps.applies.Given as goal

abbrev pub invariant-loop-step : goal.invariant-loop-step
invariant-loop-step g l =
    in_turn (g.B.Book.turn l.book) (drop l.step-index l.steps) l.x ≡ in_turn (g.B.Book.turn l.book) l.steps l.e
