use Rattle.std.proofs.Common.{SFits, rules}
use Rattle.std.specs.Int.{w64}
use Rattle.std.proofs.lemmas.Int.{to_z-of_z}
use Rattle.image_layout.proofs.Forms.{longer_is, some_longer}
use Rattle.image_layout.proofs.reading.requirements.longer.Goals as goal

pub unwrap-requires : goal.unwrap-requires
unwrap-requires c =
    let fits : SFits w64 c.args.coefficient = search rules in
    let same = to_z-of_z w64 c.args.coefficient fits in
    some_longer c.args.form.now c.args.symbol c.args.coefficient _ c.scale.result c.unwrap-term.result c.add.result
    c.terms.ensures.limits c.requires.after c.requires.room c.requires.small same (rw c.symbol.ensures at c.scale.ensures)
    c.unwrap-term.ensures c.add.ensures

pub returns-clause-constant : goal.returns-clause-constant
returns-clause-constant c =
    let fits : SFits w64 c.args.coefficient = search rules in
    let same = to_z-of_z w64 c.args.coefficient fits in
    (longer_is c.args.form.now c.args.symbol c.args.coefficient _ c.scale.result c.unwrap-term.result c.add.result c.unwrap.result
    c.terms.ensures.limits c.requires.after c.requires.room c.requires.small same (rw c.symbol.ensures at c.scale.ensures)
    c.unwrap-term.ensures c.add.ensures c.unwrap.ensures).0

pub returns-clause-terms : goal.returns-clause-terms
returns-clause-terms c =
    let fits : SFits w64 c.args.coefficient = search rules in
    let same = to_z-of_z w64 c.args.coefficient fits in
    (longer_is c.args.form.now c.args.symbol c.args.coefficient _ c.scale.result c.unwrap-term.result c.add.result c.unwrap.result
    c.terms.ensures.limits c.requires.after c.requires.room c.requires.small same (rw c.symbol.ensures at c.scale.ensures)
    c.unwrap-term.ensures c.add.ensures c.unwrap.ensures).1
