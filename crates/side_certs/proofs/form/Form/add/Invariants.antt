use Rattle.std.proofs.Common.{◌≡◌, ◌++◌, ◌+◌, ◌+ℤ◌, length}
use Rattle.side_certs.specs.LinearForm as linear
use Rattle.side_certs.proofs.form.Form.add.Given as goal

-- what is put out, and the merge of what is left, are the merge of both
abbrev pub invariant-terms : goal.invariant-terms
invariant-terms l = (l.sum.constant ≡ l.self.constant +ℤ l.other.constant)
    × (l.sum.terms ++ linear.merge l.left l.right ≡ linear.merge l.self.terms l.other.terms)

abbrev pub decreases-terms : goal.decreases-terms
decreases-terms l = length l.left + length l.right
