use Rattle.std.proofs.Common.{◌≡◌, map, drop, ◌++◌, Ok}
use Rattle.model_reader.specs.Parts.{◌>>=◌, each}
use Rattle.lemma_files.specs.Parts.{fact}
use Rattle.lemma_files.specs.Reading.{part}
use Rattle.lemma_files.proofs.lemmas.each_fact.Given as goal

abbrev pub invariant-loop-form : goal.invariant-loop-form
invariant-loop-form l =
    (each fact (map part (drop l.form-index l.forms)) >>= λ more. Ok (l.facts ++ more)) ≡ each fact (map part l.forms)
