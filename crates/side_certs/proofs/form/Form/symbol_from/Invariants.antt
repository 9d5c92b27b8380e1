use Rattle.std.proofs.Common.{◌≡◌, ◌≤◌, ℕ, length, true}
use Rattle.side_certs.specs.LinearForm as linear
use Rattle.side_certs.proofs.form.Form.symbol_from.Given as goal

-- what is left has the coefficients of all symbols from the least on
abbrev pub invariant-terms : goal.invariant-terms
invariant-terms l = record {
  found : (r : ℕ) → l.least ≤ r → linear.coefficient r l.left ≡ linear.coefficient r l.self.terms;
  rising : linear.rises_from 0 l.left ≡ true;
  whole : linear.rises_from 0 l.self.terms ≡ true;
}

abbrev pub decreases-terms : goal.decreases-terms
decreases-terms l = length l.left
