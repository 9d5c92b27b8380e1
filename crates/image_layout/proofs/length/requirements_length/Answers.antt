use Rattle.image_layout.proofs.Counted.{requirement_counted}
use Rattle.image_layout.proofs.length.requirements_length.Goals as goal

pub forms-preserved : goal.forms-preserved
forms-preserved c = requirement_counted c.forms.length c.terms.result c.forms.left.now c.first-item.result _ _
    c.in-len1-up.len_at_least c.first-item.is c.terms.ensures.count c.forms.invariant
