use Rattle.std.proofs.Common.{◌≡◌, map, drop, ◌++◌, Ok}
use Rattle.model_reader.specs.Parts.{each, ◌>>=◌}
use Rattle.model_reader.specs.Models.{ret}
use Rattle.model_reader.specs.Reading.{reading}
use Rattle.model_reader.proofs.models.each_ret.Given as goal

abbrev pub invariant-loop-form : goal.invariant-loop-form
invariant-loop-form l =
    (each ret (map reading (drop l.form-index l.forms)) >>= λ more. Ok (l.rets ++ more)) ≡ each ret (map reading l.forms)
