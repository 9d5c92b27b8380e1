use Rattle.std.proofs.Common.{◌≡◌, drop}
use Rattle.run_setup.specs.Judging as spec
use Rattle.run_setup.proofs.judging.judge_kinds.Given as goal

-- those before number k fit
abbrev pub invariant-loop-k : goal.invariant-loop-k
invariant-loop-k l = spec.judged_kinds l.k (drop l.k l.kinds) (drop l.k l.args) ≡ spec.judged_kinds 0 l.kinds l.args
