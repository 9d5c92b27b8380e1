use Rattle.image_layout.specs.Spelling as spec
use Rattle.image_layout.proofs.Parts.{taken}
use Rattle.image_layout.proofs.writing.put_requirements.Goals as goal

pub forms-preserved : goal.forms-preserved
forms-preserved c = taken spec.requirement c.forms.out c.put_requirement.new.out c.forms.left.now c.first-item.result _ _
    c.in-len1-up.len_at_least c.first-item.is c.in_ok-put_requirement.ensures c.forms.invariant
