use Rattle.std.proofs.Common.{arith}
use Rattle.image_layout.proofs.laws.Length.{params_most}
use Rattle.run_setup.proofs.laws.Places.{judged_small}
use Rattle.run_setup.proofs.results.is_small.Goals as goal

pub returns-clause-few : goal.returns-clause-few
returns-clause-few c =
    omega (arith, (judged_small c.args.i.now c.args.args.now c.requires.judged).0, params_most c.args.i.now c.requires.limits)

pub returns-clause-small : goal.returns-clause-small
returns-clause-small c = (judged_small c.args.i.now c.args.args.now c.requires.judged).1
