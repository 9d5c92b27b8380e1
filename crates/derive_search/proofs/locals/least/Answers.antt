use Rattle.std.proofs.Common.{rules, sym, ◌∙◌, ◌≡◌, ◌≤◌, false}
use Rattle.std.specs.Option.{option_copied}
use Rattle.stmt_rules.specs.Words.{most_local}
use Rattle.derive_search.specs.Locals as spec
use Rattle.derive_search.proofs.Least.{least_on}
use Rattle.derive_search.proofs.locals.least.Goals as goal

pub locals-preserved : goal.locals-preserved
locals-preserved c =
    let within : c.locals.local ≤ most_local = search rules in
    let no : spec.is_left c.args.taken.now c.args.ctx.now (option_copied c.args.x) c.locals.local ≡ false = search rules in
    sym (least_on (spec.is_left c.args.taken.now c.args.ctx.now (option_copied c.args.x)) c.locals.local within no)
    ∙ c.locals.invariant
