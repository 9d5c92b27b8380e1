-- The words for a cause in the report of a trap.
use Rattle.std.specs.Prelude.{ℕ, List, codes}
use Rattle.rv_machine.specs.declared.cause.Cause.{Cause}
use Rattle.rv_machine.specs.declared.cause.Cause.TheVariants as cause

abbrev pub cause_text : Cause → List ℕ
cause_text cause.FetchMisaligned = codes "fetch-misaligned"
cause_text cause.FetchOutside = codes "fetch-outside"
cause_text cause.Illegal = codes "illegal"
cause_text cause.Ecall = codes "ecall"
cause_text cause.Ebreak = codes "ebreak"
cause_text cause.JumpMisaligned = codes "jump-misaligned"
cause_text cause.LoadMisaligned = codes "load-misaligned"
cause_text cause.LoadOutside = codes "load-outside"
cause_text cause.StoreMisaligned = codes "store-misaligned"
cause_text cause.StoreOutside = codes "store-outside"
