use Rattle.std.proofs.Common.{◌≡◌, ◌++◌, ◌-◌, true}
use Rattle.side_certs.specs.LinearForm.{rises_from}
use Rattle.side_certs.proofs.laws.Sums.{onward}
use Rattle.side_certs.proofs.combining.judged.Given as goal

-- what is put out, and what is left from the least symbol on, are the whole
abbrev pub invariant-symbols : goal.invariant-symbols
invariant-symbols g l =
    let whole = g.C.Combination.form l.sum in
    (l.form.constant ≡ whole.constant)
    × (rises_from 0 whole.terms ≡ true → l.form.terms ++ onward l.least whole.terms ≡ whole.terms)

abbrev pub decreases-symbols : goal.decreases-symbols
decreases-symbols g l = 4294967296 - l.least
