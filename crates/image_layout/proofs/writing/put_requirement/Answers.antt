use Rattle.std.proofs.Common.{◌≡◌, ◌++◌, SFits, rules, length}
use Rattle.std.specs.Int.{w64}
use Rattle.std.proofs.lemmas.Int.{to_z-of_z}
use Rattle.image_layout.specs.Spelling as spec
use Rattle.image_layout.proofs.Parts.{requirement_parts}
use Rattle.image_layout.proofs.writing.put_requirement.Goals as goal

pub returns : goal.returns
returns c =
    let fits : SFits w64 c.constant_part.result = search rules in
    let constant : c.put_long.new.out ≡ c.args.out.now ++ spec.long c.args.form.now.constant =
    rw (to_z-of_z w64 c.constant_part.result fits, c.constant_part.ensures.constant) at c.in_ok-put_long.ensures in
    let count : c.put_number.new.out ≡ c.put_long.new.out ++ spec.number (length c.args.form.now.terms) =
    rw c.terms.ensures.count at c.in_ok-put_number.ensures in
    requirement_parts c.args.out.now c.put_long.new.out c.put_number.new.out c.put_terms.new.out c.args.form.now
    c.put_terms.result constant count c.put_terms.ensures
