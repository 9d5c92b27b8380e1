use Rattle.std.proofs.Common.{◌≡◌, length, true}
use Rattle.side_certs.specs.LinearForm as linear
use Rattle.side_certs.proofs.form.Form.coefficient.Given as goal

-- what is left has the coefficient, its symbols rise, and its numbers are small
abbrev pub invariant-terms : goal.invariant-terms
invariant-terms l = record {
  found : linear.coefficient l.s l.left ≡ linear.coefficient l.s l.self.terms;
  rising : linear.rises_from 0 l.left ≡ true;
  small : linear.all_small l.left ≡ true;
}

abbrev pub decreases-terms : goal.decreases-terms
decreases-terms l = length l.left
