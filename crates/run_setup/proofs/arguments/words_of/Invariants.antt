use Rattle.std.proofs.Common.{◌≡◌, ◌++◌, length}
use Rattle.run_setup.specs.Arguments as spec
use Rattle.run_setup.proofs.arguments.words_of.Given as goal

abbrev pub invariant-words : goal.invariant-words
invariant-words l = l.words ++ spec.words_of_bytes l.left ≡ spec.words_of_bytes l.bytes

abbrev pub decreases-words : goal.decreases-words
decreases-words l = length l.left
