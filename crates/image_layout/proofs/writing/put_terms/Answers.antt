use Rattle.image_layout.proofs.Parts.{put_next}
use Rattle.image_layout.proofs.writing.put_terms.Goals as goal

pub loop-k-preserved : goal.loop-k-preserved
loop-k-preserved c = put_next c.args.form.now.terms c.loop-k.k c.term_at.result c.args.out.now c.loop-k.out
    c.put_form_term.new.out c.term_at.ensures c.loop-k.invariant c.in_ok-put_form_term.ensures
