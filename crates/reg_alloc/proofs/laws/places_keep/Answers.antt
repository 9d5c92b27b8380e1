use Rattle.reg_alloc.proofs.laws.OverPlaces.{keep}
use Rattle.reg_alloc.proofs.laws.places_keep.Goals as goal

pub returns : goal.returns
returns c = keep
