-- What a reference that may be a fault shows.
use Rattle.std.specs.Prelude.{Result, Ok, Err}
use Rattle.std.specs.Borrow.{Bor}

-- the value behind the reference, or the fault
abbrev pub result_copied : {T E : Type 0} → Result (Bor T) E → Result T E
result_copied (Ok x) = Ok x.now
result_copied (Err fault) = Err fault
