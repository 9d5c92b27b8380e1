use Rattle.std.proofs.Common.{◌∙◌, ap}
use Rattle.model_syntax.specs.Names.{Name}
use Rattle.side_certs.specs.LinearForm.{LinearForm, within}
use Rattle.sym_heap.specs.Sides.{form_in, difference}
use Rattle.derive_search.proofs.notes.form_of.Goals as goal

pub returns : goal.returns
returns c =
    c.difference.ensures
    ∙ ap (λ (form : Name → LinearForm). within (difference form c.args.fact.now))
    (c.forms_in.ensures ∙ ap form_in c.scalars.ensures)
