use Rattle.std.proofs.Common.{◌≡◌, ◌-◌, ◌≤◌, length}
use Rattle.std.specs.Prelude.{sum_by}
use Rattle.image_layout.specs.Spelling.{registers_of}
use Rattle.image_layout.specs.Reading as spec
use Rattle.image_layout.proofs.Entries.{OnTheWay}
use Rattle.image_layout.proofs.reading.parameters.parameters.Given as goal

abbrev pub invariant-loop : goal.invariant-loop
invariant-loop l =
    record {
      way : OnTheWay (spec.parameters l.bytes) l.count l.start l.kinds (l.count - l.counter) l.at;
      used : l.used ≡ sum_by registers_of l.kinds;
      few : l.used ≤ 8;
      inside : l.at ≤ length l.bytes;
    }
