use Rattle.std.proofs.Common.{◌≡◌, ◌≤◌, ◌-◌, ◌*◌, ◌^◌, length, drop, pos, negsuc}
use Rattle.std.specs.Prelude.{◌≤ℤ◌}
use Rattle.side_certs.specs.LinearForm.{terms_at}
use Rattle.run_setup.specs.Judging as spec
use Rattle.run_setup.proofs.judging.terms_value.Given as goal

abbrev pub invariant-terms : goal.invariant-terms
invariant-terms l =
    record {
      value : l.sum ≡ terms_at (spec.by_symbol l.values) (drop l.k l.form.terms);
      low : negsuc ((16 - l.k) * 2 ^ 97) ≤ℤ l.sum;
      high : l.sum ≤ℤ pos ((16 - l.k) * 2 ^ 97);
      inside : l.k ≤ length l.form.terms;
      few : length l.form.terms ≤ 16;
    }

abbrev pub decreases-terms : goal.decreases-terms
decreases-terms l = l.k
