use Rattle.std.proofs.Common.{◌≡◌, map, drop, ◌++◌, Ok}
use Rattle.model_reader.specs.Parts.{◌>>=◌, each}
use Rattle.lemma_files.specs.Parts.{number}
use Rattle.lemma_files.specs.Reading.{part}
use Rattle.lemma_files.proofs.lemmas.each_number.Given as goal

abbrev pub invariant-loop-form : goal.invariant-loop-form
invariant-loop-form l =
    (each number (map part (drop l.form-index l.forms)) >>= λ more. Ok (l.numbers ++ more)) ≡ each number (map part l.forms)
