use Rattle.std.proofs.Common.{◌≡◌, drop}
use Rattle.lemma_files.specs.Matching.{stands_for}
use Rattle.lemma_files.proofs.matching.stands_for.Given as goal

abbrev pub invariant-loop-one : goal.invariant-loop-one
invariant-loop-one l = stands_for l.x (drop l.one-index l.filled) ≡ stands_for l.x l.filled
