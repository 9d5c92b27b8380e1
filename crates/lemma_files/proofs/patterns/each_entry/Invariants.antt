use Rattle.std.proofs.Common.{◌≡◌, map, drop, ◌++◌, Ok}
use Rattle.model_reader.specs.Parts.{each, ◌>>=◌}
use Rattle.model_reader.specs.Expressions.{entry}
use Rattle.model_reader.specs.Reading.{reading}
use Rattle.lemma_files.proofs.patterns.each_entry.Given as goal

abbrev pub invariant-loop-form : goal.invariant-loop-form
invariant-loop-form l =
    (each (entry l.scalar) (map reading (drop l.form-index l.forms)) >>= λ more. Ok (l.entries ++ more))
    ≡ each (entry l.scalar) (map reading l.forms)
