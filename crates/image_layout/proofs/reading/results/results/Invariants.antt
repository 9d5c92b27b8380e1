use Rattle.std.proofs.Common.{◌-◌, ◌≤◌, length}
use Rattle.image_layout.specs.Reading as spec
use Rattle.image_layout.proofs.Entries.{OnTheWay}
use Rattle.image_layout.proofs.reading.results.results.Given as goal

abbrev pub invariant-loop : goal.invariant-loop
invariant-loop l =
    record {
      way : OnTheWay (spec.results l.kinds l.bytes) l.count l.start l.rets (l.count - l.counter) l.at;
      inside : l.at ≤ length l.bytes;
    }
