use Rattle.std.proofs.Common.{◌≡◌, map, drop, ◌++◌}
use Rattle.model_syntax.specs.Formed.{names_formed}
use Rattle.model_printer.specs.Printing.{atom}
use Rattle.model_printer.proofs.forms.names_form.Given as goal

abbrev pub invariant-loop-name : goal.invariant-loop-name
invariant-loop-name l = record {
  forms : l.forms ++ map atom (drop l.name-index l.names) ≡ map atom l.names;
  formed : names_formed (drop l.name-index l.names) ≡ names_formed l.names;
}
