-- From the answer of a value to the answer of the bytes that have it.
use Rattle.std.proofs.Common.{ℕ, List, Some, Result, Ok, Err}
use Rattle.serde_json.specs.Data.{Data}
use Rattle.rup_base.specs.Answers.{Answers}
use Rattle.rup_base.specs.declared.fail.Fail.{Fail}
use Rattle.rup_base.specs.declared.fail.Fail.TheVariants.{Refused, NoMemory}
use Rattle.deriv_tree.specs.declared.tree.Derivation.{Derivation}
use Rattle.deriv_file.specs.File.{HasValue, Reads, derivation_of}

pub answered : (bytes : List ℕ) (json : Data) (result : Result Derivation Fail) → HasValue bytes json
    → Answers result (derivation_of json) → Reads bytes result
answered bytes json (Ok d) has is = record { json = Some json; is_value = has; answer_is = is }
answered bytes json (Err (Refused r)) has is = record { json = Some json; is_value = has; answer_is = is }
answered bytes json (Err NoMemory) has is = tt
