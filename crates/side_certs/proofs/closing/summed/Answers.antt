use Rattle.std.proofs.Common.{refl, arith}
use Rattle.std.proofs.lemmas.Int.{ints}
use Rattle.side_certs.specs.Closes as certificate
use Rattle.side_certs.proofs.Cancelling.{first_of}
use Rattle.side_certs.proofs.closing.summed.Goals as goal

pub entries-preserved : goal.entries-preserved
entries-preserved c =
    let i = c.entries.invariant in
    let e = c.multiple-sum.ensures in
    let g = certificate.number_at c.args.place in
    let step = first_of (certificate.summed g c.args.facts.now c.args.tops.now)
    (λ x. certificate.multiple g x.mult (certificate.named c.args.facts.now c.args.tops.now x)) (λ x xs. refl)
    c.entries.left.now (record { kind = 0; number = 0; mult = 0 }) c.in-len1-up.len_at_least in record {
      sum = omega (arith, ints, i.sum, i.above, i.below, e.multiple, e.near.0, e.near.1, step.0, step.1);
      above = omega (arith, ints, i.above, i.below, e.near.0, e.near.1, step.1);
      below = omega (arith, ints, i.above, i.below, e.near.0, e.near.1, step.1);
    }
