use Rattle.std.proofs.Common.{List, Some, sym, ap, ◌∙◌}
use Rattle.serde_json.specs.View.{view, items_view}
use Rattle.serde_json.specs.declared.value.Value.{Value}
use Rattle.deriv_file.proofs.Counted.{countable_length}
use Rattle.deriv_file.proofs.reader.derivation_of_parts.Goals as goal

pub derivation_of_nodes-requires-clause-countable : goal.derivation_of_nodes-requires-clause-countable
derivation_of_nodes-requires-clause-countable c =
    countable_length (view c.args.nodes.now) c.as_slice.result.now c.requires
    (sym c.in-Some-as_array.ensures ∙ ap (λ (vs : List Value). Some (items_view vs)) (sym c.as_slice.ensures.value))
