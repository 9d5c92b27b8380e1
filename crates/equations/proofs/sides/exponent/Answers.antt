use Rattle.std.proofs.Common.{sym, ◌∙◌}
use Rattle.equations.specs.laws.Powers.{searched_whole, searched_here, searched_past, searched_last}
use Rattle.equations.proofs.sides.exponent.Goals as goal

pub loop-k-init : goal.loop-k-init
loop-k-init c = searched_whole c.args.n

pub loop-k-preserved : goal.loop-k-preserved
loop-k-preserved c = sym (searched_past c.args.n c.loop-k.k c.loop-k-test.true c.if-k-n.false) ∙ c.loop-k.invariant

pub returns-then-k-n-clause-exponent : goal.returns-then-k-n-clause-exponent
returns-then-k-n-clause-exponent c = sym (searched_here c.args.n c.loop-k.k c.loop-k-test.true c.if-k-n.true) ∙ c.loop-k.invariant

pub returns-clause-exponent : goal.returns-clause-exponent
returns-clause-exponent c = sym (searched_last c.args.n c.loop-k.k c.loop-k-test.false) ∙ c.loop-k.invariant
