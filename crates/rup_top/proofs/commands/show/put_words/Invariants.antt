use Rattle.std.proofs.Common.{◌≡◌, ◌+◌, ◌<◌, ◌^◌, ◌++◌, length}
use Rattle.run_setup.specs.Arguments.{words_of_bytes}
use Rattle.rup_top.specs.commands.Show as spec
use Rattle.rup_top.proofs.commands.show.put_words.Given as goal

abbrev pub invariant-words : goal.invariant-words
invariant-words l =
    record {
      left : l.out ++ spec.word_lines l.at (words_of_bytes l.left) ≡ l.fn.out ++ spec.word_lines l.offset (words_of_bytes l.code);
      room : l.at + length l.left < 2 ^ 32;
    }

abbrev pub decreases-words : goal.decreases-words
decreases-words l = length l.left
