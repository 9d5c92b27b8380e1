-- Unless memory ran out, the result is the answer.
use Rattle.std.specs.Prelude.{◌≡◌, Result, Ok, Err}
use Rattle.model_reader.specs.Parts.{Answer}
use Rattle.model_reader.specs.declared.parts.Misread.{Misread}
use Rattle.model_reader.specs.declared.parts.Misread.TheVariants.{At, NoMemory}

abbrev pub Yields : {A : Type 0} → Result A Misread → Answer A → Type 0
Yields (Ok a) answer = answer ≡ Ok a
Yields (Err (At offset)) answer = answer ≡ Err offset
Yields (Err NoMemory) answer = Unit {0}
