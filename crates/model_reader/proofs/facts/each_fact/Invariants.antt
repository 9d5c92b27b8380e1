use Rattle.std.proofs.Common.{◌≡◌, map, drop, ◌++◌, Ok}
use Rattle.model_reader.specs.Parts.{each, ◌>>=◌}
use Rattle.model_reader.specs.Facts.{fact}
use Rattle.model_reader.specs.Reading.{reading}
use Rattle.model_reader.proofs.facts.each_fact.Given as goal

abbrev pub invariant-loop-form : goal.invariant-loop-form
invariant-loop-form l =
    (each fact (map reading (drop l.form-index l.forms)) >>= λ more. Ok (l.facts ++ more)) ≡ each fact (map reading l.forms)
