use Rattle.std.proofs.Common.{◌≡◌, map, drop, ◌++◌, ◌∷◌}
use Rattle.model_syntax.specs.Formed.{facts_formed}
use Rattle.model_printer.specs.Printing.{atom, fact}
use Rattle.model_printer.proofs.fact_forms.facts_form.Given as goal

abbrev pub invariant-loop-fact : goal.invariant-loop-fact
invariant-loop-fact l = record {
  forms : l.forms ++ map fact (drop l.fact-index l.facts) ≡ atom l.word ∷ map fact l.facts;
  formed : facts_formed (drop l.fact-index l.facts) ≡ facts_formed l.facts;
}
