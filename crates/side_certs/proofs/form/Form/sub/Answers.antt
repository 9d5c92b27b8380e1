use Rattle.std.proofs.Common.{ap, ◌∙◌}
use Rattle.side_certs.specs.LinearForm.{plus, within}
use Rattle.side_certs.proofs.laws.Terms.{negated_within, some_is, not_none}
use Rattle.side_certs.proofs.form.Form.sub.Goals as goal

pub returns-in_err-scale : goal.returns-in_err-scale
returns-in_err-scale c = not_none _ _ c.in_err-scale.ensures (negated_within c.args.other.now c.keeps_limits.ensures)

pub returns : goal.returns
returns c = c.add.ensures ∙ ap (λ g. within (plus c.args.self.now g))
    (some_is _ _ _ c.in_ok-scale.ensures (negated_within c.args.other.now c.keeps_limits.ensures))
