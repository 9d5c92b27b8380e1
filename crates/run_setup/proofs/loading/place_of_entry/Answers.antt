use Rattle.std.proofs.Common.{arith}
use Rattle.image_layout.proofs.laws.Length.{entry_small}
use Rattle.run_setup.proofs.loading.place_of_entry.Goals as goal

pub overflow_add-result : goal.overflow_add-result
overflow_add-result c = omega (arith, entry_small c.args.i.now c.requires)
