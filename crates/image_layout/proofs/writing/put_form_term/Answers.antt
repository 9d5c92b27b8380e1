use Rattle.std.proofs.Common.{SFits, rules}
use Rattle.std.specs.Int.{w64}
use Rattle.std.proofs.lemmas.Int.{to_z-of_z}
use Rattle.image_layout.proofs.Parts.{term_parts}
use Rattle.image_layout.proofs.writing.put_form_term.Goals as goal

pub returns : goal.returns
returns c =
    let fits : SFits w64 c.args.term.1 = search rules in
    term_parts c.args.out.now c.put_number.new.out c.put_long.new.out c.args.term c.put_long.result c.in_ok-put_number.ensures
    (rw (to_z-of_z w64 c.args.term.1 fits) at c.put_long.ensures)
