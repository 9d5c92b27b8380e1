use Rattle.std.proofs.Common.{◌≡◌, ◌+◌, ◌-◌}
use Rattle.std.specs.Option.{option_copied}
use Rattle.stmt_rules.specs.Words.{most_local}
use Rattle.derive_search.specs.Locals as spec
use Rattle.derive_search.proofs.locals.least.Given as goal

-- no local before this one may be taken
abbrev pub invariant-locals : goal.invariant-locals
invariant-locals l =
    spec.least (spec.is_left l.taken l.ctx (option_copied l.x)) (most_local + 1 - l.local) l.local
    ≡ spec.least (spec.is_left l.taken l.ctx (option_copied l.x)) (most_local + 1 - l.fn.from) l.fn.from

abbrev pub decreases-locals : goal.decreases-locals
decreases-locals l = most_local + 1 - l.local
