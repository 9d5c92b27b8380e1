use Rattle.std.proofs.Common.{◌≡◌, take}
use Rattle.std.specs.Prelude.{sum_by}
use Rattle.image_layout.specs.Spelling.{symbols_of}
use Rattle.image_layout.proofs.reading.parameters.symbol_count.Given as goal

abbrev pub invariant-loop-kind : goal.invariant-loop-kind
invariant-loop-kind l = l.count ≡ sum_by symbols_of (take l.kind-index l.kinds)
