use Rattle.std.proofs.Common.{◌≡◌, ◌++◌, ◌*ℤ◌, length}
use Rattle.side_certs.specs.LinearForm as linear
use Rattle.side_certs.proofs.form.Form.scale.Given as goal

-- what is put out, and the multiples of what is left, are the multiples of all
abbrev pub invariant-terms : goal.invariant-terms
invariant-terms l = (l.multiple.constant ≡ l.k *ℤ l.self.constant)
    × (l.multiple.terms ++ linear.terms_times l.k l.left ≡ linear.terms_times l.k l.self.terms)

abbrev pub decreases-terms : goal.decreases-terms
decreases-terms l = length l.left
