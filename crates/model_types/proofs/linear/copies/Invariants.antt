use Rattle.std.proofs.Common.{◌≡◌, ◌++◌, drop}
use Rattle.model_types.proofs.linear.copies.Given as goal

abbrev pub invariant-loop-term : goal.invariant-loop-term
invariant-loop-term l = l.all ++ drop l.term-index l.terms ≡ l.initial.all ++ l.terms
