use Rattle.std.proofs.Common.{◌≡◌, ◌+◌, [], true, drop}
use Rattle.derive_search.specs.Derive.{have_steps}
use Rattle.rup_top.specs.commands.Compile as spec
use Rattle.rup_top.proofs.commands.compile.lemmas_of.Given as goal

-- the files that are left give what all of them do
abbrev pub invariant-loop-file : goal.invariant-loop-file
invariant-loop-file l = record {
  lemmas : spec.lemmas_of l.lemmas l.word (drop l.file-index l.files) ≡ spec.lemmas_of [] 2 l.files;
  steps : have_steps l.lemmas ≡ true;
  place : l.word ≡ 2 + l.file-index;
}
