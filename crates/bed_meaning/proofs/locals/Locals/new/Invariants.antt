use Rattle.std.proofs.Common.{◌≡◌, replicate, None}
use Rattle.bed_meaning.proofs.locals.Locals.new.Given as goal

abbrev pub invariant-loop-local : goal.invariant-loop-local
invariant-loop-local l = l.values.items ≡ replicate l._local None
