use Rattle.std.proofs.Common.{◌≡◌, ◌++◌, drop}
use Rattle.replayer.specs.Ends as spec
use Rattle.replayer.proofs.ends.rets_of.Given as goal

abbrev pub invariant-loop-ret : goal.invariant-loop-ret
invariant-loop-ret l = l.locals ++ spec.rets_of l.ctx (drop l.ret-index l.rets) ≡ spec.rets_of l.ctx l.rets
