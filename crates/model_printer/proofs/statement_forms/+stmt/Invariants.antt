use Rattle.std.proofs.Common.{◌≡◌, map, drop, ◌++◌, ◌∷◌, codes}
use Rattle.rup_base.specs.Gather.{all_true}
use Rattle.model_syntax.specs.Formed.{stmt_formed}
use Rattle.model_printer.specs.Printing.{atom, stmt}
use Rattle.model_printer.proofs.statement_forms.+stmt.Given as goal

abbrev pub invariant-block_form-loop-stmt : goal.invariant-block_form-loop-stmt
invariant-block_form-loop-stmt l = record {
  forms : l.forms ++ map stmt (drop l.stmt-index l.stmts) ≡ atom (codes "do") ∷ map stmt l.stmts;
  formed : all_true (map stmt_formed (drop l.stmt-index l.stmts)) ≡ all_true (map stmt_formed l.stmts);
}
