use Rattle.std.proofs.Common.{rules, pos, arith, slice_index_or}
use Rattle.stmt_rules.proofs.Flat.{before_least, before_added, went, stopped}
use Rattle.stmt_rules.proofs.args.+with_pairs.Goals as goal

pub with_term-requires-clause-before : goal.with_term-requires-clause-before
with_term-requires-clause-before t c =
    before_least c.args.form.terms c.args.least c.in_ok-symbol-in-len2-up.symbol c.requires
    (omega (arith, c.from.ensures, c.if-from-least.false))

pub returns-in_err-more-in-len2-up : goal.returns-in_err-more-in-len2-up
returns-in_err-more-in-len2-up t c =
    let wide = stopped c.args.form c.args.args.now c.args.least c.in_ok-symbol-in-len2-up.symbol c.in-len2-up.len_at_least
    (search rules) (omega (arith, c.from.ensures, c.if-from-least.false)) (search rules) (search rules) in
    search (rules, wide)

pub with_pairs-requires : goal.with_pairs-requires
with_pairs-requires t c =
    let before = before_added c.args.form c.in_ok-more-in-len2-up.more c.args.least c.in_ok-symbol-in-len2-up.symbol
    (slice_index_or c.args.args.now 1 (pos 0)) c.requires (omega (arith, c.from.ensures, c.if-from-least.false))
    (search rules) in
    (search rules, rw c.from-in-len2-up.ensures before)

pub returns-in_ok-more-in-len2-up : goal.returns-in_ok-more-in-len2-up
returns-in_ok-more-in-len2-up t c =
    let done = went c.args.form c.args.args.now c.args.least c.in_ok-symbol-in-len2-up.symbol c.in-len2-up.len_at_least
    (search rules) (omega (arith, c.from.ensures, c.if-from-least.false)) (search rules) c.in_ok-more-in-len2-up.more
    (search rules) in
    search (rules, done)
