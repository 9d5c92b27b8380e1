use Rattle.std.proofs.Common.{◌≡◌, ◌-◌, length, take, drop}
use Rattle.std.specs.Io.KnownBytes.{Appends}
use Rattle.rup_io.proofs.stream.write_whole.Given as goal

-- the writer took the bytes that are no longer left
abbrev pub invariant-loop-left : goal.invariant-loop-left
invariant-loop-left g l = record {
  rest : l.left ≡ drop (length l.bytes - length l.left) l.bytes;
  appended : Appends (g.W.Write.contents l.initial.writer) (g.W.Write.contents l.writer)
      (take (length l.bytes - length l.left) l.bytes);
}

abbrev pub decreases-loop-left : goal.decreases-loop-left
decreases-loop-left g l = length l.left
