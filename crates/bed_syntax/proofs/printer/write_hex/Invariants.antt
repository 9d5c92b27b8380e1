use Rattle.std.proofs.Common.{◌≡◌, ◌++◌, drop}
use Rattle.bed_syntax.specs.Spelling as spelling
use Rattle.bed_syntax.proofs.printer.write_hex.Given as goal

abbrev pub invariant-loop-byte : goal.invariant-loop-byte
invariant-loop-byte l = l.out ++ spelling.hex (drop l.byte-index l.bytes) ≡ l.fn.out ++ spelling.hex l.bytes
