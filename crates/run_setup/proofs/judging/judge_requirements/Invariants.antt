use Rattle.std.proofs.Common.{◌≡◌, ◌+◌, length}
use Rattle.run_setup.specs.Judging as spec
use Rattle.run_setup.proofs.judging.judge_requirements.Given as goal

abbrev pub invariant-forms : goal.invariant-forms
invariant-forms l =
    record {
      left : spec.judged_requirements l.k l.values l.left ≡ spec.judged_requirements 0 l.values l.forms;
      count : l.k + length l.left ≡ length l.forms;
    }

abbrev pub decreases-forms : goal.decreases-forms
decreases-forms l = length l.left
