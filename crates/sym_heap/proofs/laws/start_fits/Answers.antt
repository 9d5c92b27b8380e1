use Rattle.sym_heap.proofs.Fitting.{start_fits}
use Rattle.sym_heap.proofs.laws.start_fits.Goals as goal

pub returns : goal.returns
returns c = start_fits
