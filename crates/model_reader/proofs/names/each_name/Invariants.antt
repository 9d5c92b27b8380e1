use Rattle.std.proofs.Common.{◌≡◌, map, drop, ◌++◌, Ok}
use Rattle.model_reader.specs.Parts as parts
use Rattle.model_reader.specs.Parts.{◌>>=◌}
use Rattle.model_reader.specs.Reading.{reading}
use Rattle.model_reader.proofs.names.each_name.Given as goal

abbrev pub invariant-loop-form : goal.invariant-loop-form
invariant-loop-form l =
    (parts.each parts.name (map reading (drop l.form-index l.forms)) >>= λ more. Ok (l.names ++ more))
    ≡ parts.each parts.name (map reading l.forms)
