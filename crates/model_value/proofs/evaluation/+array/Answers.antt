use Rattle.std.proofs.Common.{rules, sym, ◌∙◌, ap}
use Rattle.model_syntax.specs.Environment.{elements}
use Rattle.model_value.proofs.Puts.{past_local}
use Rattle.model_value.proofs.evaluation.+array.Goals as goal

pub returns-else-eq : goal.returns-else-eq
returns-else-eq t c =
    c.array.ensures ∙ ap elements (sym
    (past_local c.args.locals.now c.local-item.result c.args.env.now c.args.x.now c.in-len1-up.len_at_least (search rules)
    (search rules)))
