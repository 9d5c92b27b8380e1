use Rattle.std.proofs.Common.{◌≡◌, List, sym, subst, true, rules, SFits}
use Rattle.std.specs.Int.{w64}
use Rattle.std.proofs.lemmas.Int.{to_z-of_z}
use Rattle.side_certs.specs.declared.combining.Part.{Part}
use Rattle.side_certs.specs.LinearForm.{rises_from}
use Rattle.side_certs.specs.Combination as spec
use Rattle.side_certs.proofs.laws.Combinations.{split_first, next_plus, next_times, sum_rises}
use Rattle.side_certs.proofs.combining.+symbol_of_parts.Goals as goal

pub returns-in-len1-up-clause-next : goal.returns-in-len1-up-clause-next
returns-in-len1-up-clause-next t c =
    let part = c.part-item.result in
    let fits : SFits w64 c.args.constant = search rules in
    let whole = split_first c.args.parts.now part c.in-len1-up.len_at_least c.part-item.is in
    subst (λ (ps : List Part). spec.IsNext (spec.sum c.args.constant ps) c.args.least c.lesser.result) (sym whole)
    (rw (c.lesser.ensures) (next_plus _ _ c.args.least c.symbol_from.result c.symbol_of_parts.result
    (next_times part.times part.form.now c.args.least c.symbol_from.result c.symbol_from.ensures.next)
    (rw (to_z-of_z w64 c.args.constant fits) at c.symbol_of_parts.ensures.next)))

pub returns-in-len1-up-clause-rising : goal.returns-in-len1-up-clause-rising
returns-in-len1-up-clause-rising t c =
    let part = c.part-item.result in
    let fits : SFits w64 c.args.constant = search rules in
    let whole = split_first c.args.parts.now part c.in-len1-up.len_at_least c.part-item.is in
    subst (λ (ps : List Part). rises_from 0 (spec.sum c.args.constant ps).terms ≡ true) (sym whole)
    (sum_rises part.form.now.terms _ part.times c.symbol_from.ensures.rising
    (rw (to_z-of_z w64 c.args.constant fits) at c.symbol_of_parts.ensures.rising))
