use Rattle.std.proofs.Common.{◌∙◌, pos, slice_index_or, SFits, rules}
use Rattle.std.specs.Int.{w64}
use Rattle.std.proofs.lemmas.Int.{to_z-of_z}
use Rattle.side_certs.proofs.laws.Terms.{coefficient_found}
use Rattle.side_certs.proofs.form.Form.coefficient.Goals as goal

pub returns-then-term-s-clause-coefficient : goal.returns-then-term-s-clause-coefficient
returns-then-term-s-clause-coefficient c =
    let fits : SFits w64 (slice_index_or c.terms.left.now 0 (0, pos 0)).1 = search rules in
    to_z-of_z w64 (slice_index_or c.terms.left.now 0 (0, pos 0)).1 fits
    ∙ coefficient_found c.args.s c.terms.left.now c.in-len1-up.len_at_least c.terms.invariant.rising c.if-term-s.true
    ∙ c.terms.invariant.found
