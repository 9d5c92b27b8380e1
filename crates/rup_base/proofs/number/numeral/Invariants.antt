use Rattle.std.proofs.Common.{◌≡◌, ◌≤◌, drop}
use Rattle.rup_base.specs.Number as spec
use Rattle.rup_base.proofs.number.numeral.Given as goal

abbrev pub invariant-loop-digit : goal.invariant-loop-digit
invariant-loop-digit l = record {
  small : l.number ≤ 4294967295;
  means : spec.numeral_after l.radix l.number (drop l.digit-index l.digits) ≡ spec.numeral l.radix l.digits;
}
