use Rattle.std.proofs.Common.{arith}
use Rattle.bench_gen.proofs.laws.Valid.{well, formed, spellable, within, met}
use Rattle.bench_gen.proofs.validity.generated_models_are_valid.Goals as goal

pub returns : goal.returns
returns c = record {
  well = well c.args.seed c.args.count;
  formed = formed c.args.seed c.args.count;
  spellable = spellable c.args.seed c.args.count;
  within = within c.args.seed c.args.count c.requires;
  met = met c.args.seed c.args.count (omega (arith, c.ranges.seed));
}
