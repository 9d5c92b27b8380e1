use Rattle.std.proofs.Common.{◌≡◌, map, drop, ◌++◌, ◌∷◌, codes}
use Rattle.rup_base.specs.Gather.{all_true}
use Rattle.model_syntax.specs.Formed.{param_formed}
use Rattle.model_printer.specs.Printing.{atom, param}
use Rattle.model_printer.proofs.model_forms.params_form.Given as goal

abbrev pub invariant-loop-param : goal.invariant-loop-param
invariant-loop-param l = record {
  forms : l.forms ++ map param (drop l.param-index l.params) ≡ atom (codes "params") ∷ map param l.params;
  formed : all_true (map param_formed (drop l.param-index l.params)) ≡ all_true (map param_formed l.params);
}
