use Rattle.std.proofs.Common.{◌≡◌, map, drop, ◌++◌, ◌∷◌, codes}
use Rattle.rup_base.specs.Gather.{all_true}
use Rattle.model_syntax.specs.Formed.{ret_formed}
use Rattle.model_printer.specs.Printing.{atom, ret}
use Rattle.model_printer.proofs.model_forms.rets_form.Given as goal

abbrev pub invariant-loop-ret : goal.invariant-loop-ret
invariant-loop-ret l = record {
  forms : l.forms ++ map ret (drop l.ret-index l.rets) ≡ atom (codes "ret") ∷ map ret l.rets;
  formed : all_true (map ret_formed (drop l.ret-index l.rets)) ≡ all_true (map ret_formed l.rets);
}
