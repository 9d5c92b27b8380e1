use Rattle.derive_search.proofs.laws.Found as laws
use Rattle.derive_search.proofs.laws.derivations_are_instances.Goals as goal

pub returns : goal.returns
returns c = laws.derivations_are_instances
