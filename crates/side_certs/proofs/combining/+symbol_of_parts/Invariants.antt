use Rattle.std.proofs.Common.{length}
use Rattle.side_certs.proofs.combining.+symbol_of_parts.Given as goal

abbrev pub decreases-symbol_of_parts : goal.decreases-symbol_of_parts
decreases-symbol_of_parts l = length l.parts.now
