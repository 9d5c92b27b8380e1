use Rattle.std.proofs.lemmas.Result.{err_from_is_err_and}
use Rattle.rup_top.proofs.shown.Bench.{found_refused, found_benches}
use Rattle.rup_top.proofs.commands.bench.bench.Goals as goal

pub returns-in_err-checked : goal.returns-in_err-checked
returns-in_err-checked c =
    let p = err_from_is_err_and c.from_residual-in_err-checked.result c.from_residual-in_err-checked.ensures.1 in
    rw (p.1, p.2) (found_refused c.args.seed c.args.count c.in_ok-typed.typed.inner c.in_err-checked.field-0.0
    c.in_ok-typed.ensures c.in_err-checked.ensures.found)

pub returns : goal.returns
returns c =
    found_benches c.args.seed c.args.count c.in_ok-typed.typed.inner c.in_ok-checked.checked c.in_ok-answer.answer
    c.in_ok-typed.ensures c.in_ok-checked.ensures.found c.in_ok-answer.ensures
