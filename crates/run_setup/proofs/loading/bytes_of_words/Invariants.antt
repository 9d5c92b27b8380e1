use Rattle.std.proofs.Common.{◌≡◌, ◌++◌, length}
use Rattle.run_setup.specs.Arguments as spec
use Rattle.run_setup.proofs.loading.bytes_of_words.Given as goal

abbrev pub invariant-words : goal.invariant-words
invariant-words l = l.bytes ++ spec.bytes_of_words l.left ≡ spec.bytes_of_words l.words

abbrev pub decreases-words : goal.decreases-words
decreases-words l = length l.left
