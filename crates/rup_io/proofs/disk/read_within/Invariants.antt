use Rattle.std.proofs.Common.{◌≤◌, length}
use Rattle.std.specs.Io.KnownBytes.{Consumes}
use Rattle.rup_io.proofs.disk.read_within.Given as goal

-- the bytes are what was read, and the limit is not passed
abbrev pub invariant-loop : goal.invariant-loop
invariant-loop g l = record {
  within : length l.bytes ≤ l.limit;
  reads : Consumes (g.F.Read.remaining l.initial.file) (g.F.Read.remaining l.file) l.bytes;
}
