use Rattle.std.proofs.Common.{subst}
use Rattle.std.specs.List.{AllByRecursion}
use Rattle.run_setup.specs.Loading.{AreBytes}
use Rattle.run_setup.proofs.Memory.{bytes_held}
use Rattle.run_setup.proofs.laws.Places.{regions_disjoint, regions_end}
use Rattle.run_setup.proofs.loading.memory.Goals as goal

pub new-requires-clause-disjoint : goal.new-requires-clause-disjoint
new-requires-clause-disjoint c = rw c.in_ok-regions.ensures (regions_disjoint c.args.i.now c.args.args.now)

pub new-requires-clause-ends : goal.new-requires-clause-ends
new-requires-clause-ends c =
    rw c.in_ok-regions.ensures (regions_end c.args.i.now c.args.args.now c.requires.limits c.requires.few c.requires.small)

pub returns-clause-bytes : goal.returns-clause-bytes
returns-clause-bytes c =
    let all : AllByRecursion (λ r. AreBytes r.1) c.in_ok-regions.regions =
    subst (AllByRecursion (λ r. AreBytes r.1)) c.as_slice.ensures c.hold_bytes.ensures in
    bytes_held c.new.result c.in_ok-regions.regions all c.new.ensures
