-- The fault of arguments as a refusal.
use Rattle.std.specs.Prelude.{Result, Ok, Err}
use Rattle.rup_base.specs.declared.refusal.ArgFault.{ArgFault}
use Rattle.rup_base.specs.declared.refusal.Refusal.{Refusal}
use Rattle.rup_base.specs.declared.refusal.Refusal.TheVariants.{BadArguments}

abbrev pub refused : {T : Type 0} → Result T ArgFault → Result T Refusal
refused (Ok value) = Ok value
refused (Err fault) = Err (BadArguments fault)
