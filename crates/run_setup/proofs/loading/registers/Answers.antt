use Rattle.std.proofs.Common.{arith}
use Rattle.run_setup.proofs.laws.Places.{values_few}
use Rattle.run_setup.proofs.loading.registers.Goals as goal

pub set_from-requires : goal.set_from-requires
set_from-requires c =
    rw (c.as_slice-2.ensures, c.in_ok-values.ensures)
    (omega (arith, values_few c.args.image_end c.as_slice.result.now c.args.args.now, c.requires.few))
