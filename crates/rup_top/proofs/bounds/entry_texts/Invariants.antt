use Rattle.std.proofs.Common.{◌≡◌, ◌++◌, length}
use Rattle.model_syntax.specs.Entries.{entry_names}
use Rattle.rup_top.proofs.bounds.entry_texts.Given as goal

-- the names of what is left follow
abbrev pub invariant-params : goal.invariant-params
invariant-params l = l.texts ++ entry_names l.left ≡ entry_names l.params

abbrev pub decreases-params : goal.decreases-params
decreases-params l = length l.left
