use Rattle.std.proofs.Common.{◌≡◌, ◌++◌, length}
use Rattle.std.specs.List.{flat_map}
use Rattle.rup_top.specs.commands.Bench as spec
use Rattle.rup_top.proofs.commands.bench.push_words.Given as goal

abbrev pub invariant-results : goal.invariant-results
invariant-results l = l.line ++ flat_map spec.word_text l.left ≡ l.fn.line ++ flat_map spec.word_text l.results

abbrev pub decreases-results : goal.decreases-results
decreases-results l = length l.left
