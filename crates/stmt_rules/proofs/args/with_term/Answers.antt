use Rattle.std.proofs.Common.{rules}
use Rattle.stmt_rules.proofs.Flat.{no_term, added_is}
use Rattle.stmt_rules.proofs.args.with_term.Goals as goal

pub returns-in_err-scale : goal.returns-in_err-scale
returns-in_err-scale c =
    let wide = no_term c.args.form.now c.args.symbol c.args.coefficient c.requires.counts in
    search (rules, wide)

pub returns : goal.returns
returns c =
    let sum = added_is c.args.form.now c.in_ok-scale.field-0 c.args.symbol c.args.coefficient c.terms.ensures.rising
    c.requires.before c.requires.counts in
    search (rules, sum)
