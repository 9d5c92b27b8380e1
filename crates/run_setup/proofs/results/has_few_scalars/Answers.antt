use Rattle.run_setup.proofs.laws.Places.{scalars_few}
use Rattle.run_setup.proofs.results.has_few_scalars.Goals as goal

pub returns : goal.returns
returns c = scalars_few c.args.i.now.params 2 _ c.args.i.now.rets c.requires.rets_fit
