use Rattle.derive_search.proofs.ExprLaw as laws
use Rattle.derive_search.proofs.laws.expressions_derive.Goals as goal

pub returns : goal.returns
returns c = laws.expressions_derive
