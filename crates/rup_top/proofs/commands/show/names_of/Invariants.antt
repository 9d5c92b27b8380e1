use Rattle.std.proofs.Common.{◌≡◌, ◌++◌, length, map}
use Rattle.rup_top.specs.commands.Show as spec
use Rattle.rup_top.proofs.commands.show.names_of.Given as goal

abbrev pub invariant-symbols : goal.invariant-symbols
invariant-symbols l = l.names ++ map spec.symbol_name l.left ≡ map spec.symbol_name l.symbols

abbrev pub decreases-symbols : goal.decreases-symbols
decreases-symbols l = length l.left
