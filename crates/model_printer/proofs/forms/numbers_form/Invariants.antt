use Rattle.std.proofs.Common.{◌≡◌, map, drop, ◌++◌}
use Rattle.model_syntax.specs.Formed.{numbers_formed}
use Rattle.model_printer.specs.Printing.{number}
use Rattle.model_printer.proofs.forms.numbers_form.Given as goal

abbrev pub invariant-loop-number : goal.invariant-loop-number
invariant-loop-number l = record {
  forms : l.forms ++ map number (drop l.number-index l.numbers) ≡ map number l.numbers;
  formed : numbers_formed (drop l.number-index l.numbers) ≡ numbers_formed l.numbers;
}
