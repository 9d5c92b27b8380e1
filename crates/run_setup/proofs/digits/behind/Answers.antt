use Rattle.std.proofs.Common.{◌∙◌, sym, arith}
use Rattle.run_setup.proofs.Hex.{behind_short}
use Rattle.run_setup.proofs.digits.behind.Goals as goal

pub returns-in-empty : goal.returns-in-empty
returns-in-empty c =
    sym (behind_short c.args.prefix.now c.loop-wanted.wanted-index c.loop-wanted.left.now (omega (arith, c.in-empty.len_below))
    (omega (arith, c.loop-wanted-test.true)))
    ∙ c.loop-wanted.invariant
