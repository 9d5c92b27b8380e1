use Rattle.std.proofs.Common.{◌≡◌, map, drop, ◌++◌, Ok}
use Rattle.model_reader.specs.Parts.{each, ◌>>=◌}
use Rattle.model_reader.specs.Models.{param}
use Rattle.model_reader.specs.Reading.{reading}
use Rattle.model_reader.proofs.models.each_param.Given as goal

abbrev pub invariant-loop-form : goal.invariant-loop-form
invariant-loop-form l =
    (each param (map reading (drop l.form-index l.forms)) >>= λ more. Ok (l.params ++ more)) ≡ each param (map reading l.forms)
