use Rattle.std.proofs.lemmas.Result.{err_from_is_err_and}
use Rattle.rup_top.proofs.shown.Derivations.{not_accepted}
use Rattle.rup_top.proofs.commands.derivations.judge.Goals as goal

pub returns-in_err-checked-clause-refuses : goal.returns-in_err-checked-clause-refuses
returns-in_err-checked-clause-refuses c =
    let p = err_from_is_err_and c.from_residual-in_err-checked.result c.from_residual-in_err-checked.ensures.1 in
    rw (p.1, p.2)
    (not_accepted c.args.size c.args.model.now c.args.tree.now c.in_ok-typed.typed.inner c.in_ok-derivation.derivation
    c.in_err-checked.field-0.0 c.in_ok-typed.ensures c.in_ok-derivation.ensures.file
    c.in_err-checked.ensures.accepted)
