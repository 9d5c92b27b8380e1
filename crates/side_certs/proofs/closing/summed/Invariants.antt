use Rattle.std.proofs.Common.{◌≡◌, ◌*◌, ◌^◌, length, pos, ◌+ℤ◌, ◌≤ℤ◌}
use Rattle.side_certs.specs.Closes as certificate
use Rattle.side_certs.proofs.closing.summed.Given as goal

-- what is left completes the sum, and has room in 128 bits
abbrev pub invariant-entries : goal.invariant-entries
invariant-entries l = record {
  sum : l.sum +ℤ certificate.summed (certificate.number_at l.place) l.facts l.tops l.left
      ≡ certificate.summed (certificate.number_at l.place) l.facts l.tops l.entries;
  above : pos (2 ^ 95 * length l.left) ≤ℤ (l.sum +ℤ pos (2 ^ 100));
  below : (l.sum +ℤ pos (2 ^ 95 * length l.left)) ≤ℤ pos (2 ^ 100);
}

abbrev pub decreases-entries : goal.decreases-entries
decreases-entries l = length l.left
