use Rattle.std.proofs.Common.{◌≡◌, ◌++◌, drop}
use Rattle.expr_rules.proofs.words.joined.Given as goal

abbrev pub invariant-loop-form : goal.invariant-loop-form
invariant-loop-form l = l.all ++ drop l.form-index l.second ≡ l.fn.first ++ l.second
