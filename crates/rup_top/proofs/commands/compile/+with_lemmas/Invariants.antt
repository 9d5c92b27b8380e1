use Rattle.std.proofs.Common.{◌+◌, ◌*◌, length}
use Rattle.rup_top.proofs.commands.compile.+with_lemmas.Given as goal

abbrev pub decreases-with_lemmas : goal.decreases-with_lemmas
decreases-with_lemmas g l = 2 * length l.words.now

abbrev pub decreases-with_next : goal.decreases-with_next
decreases-with_next g l = 2 * length l.rest.now + 1
