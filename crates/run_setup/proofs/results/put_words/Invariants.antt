use Rattle.std.proofs.Common.{◌≡◌, ◌++◌, length}
use Rattle.std.specs.List.{flat_map}
use Rattle.run_setup.specs.Digits.{two_digits}
use Rattle.run_setup.specs.Arguments.{bytes_of_words}
use Rattle.run_setup.proofs.results.put_words.Given as goal

abbrev pub invariant-words : goal.invariant-words
invariant-words l = l.out ++ flat_map two_digits (bytes_of_words l.left)
    ≡ l.fn.out ++ flat_map two_digits (bytes_of_words l.words)

abbrev pub decreases-words : goal.decreases-words
decreases-words l = length l.left
