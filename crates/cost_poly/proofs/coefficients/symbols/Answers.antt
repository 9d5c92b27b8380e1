use Rattle.cost_poly.proofs.Listed.{symbols_are_at}
use Rattle.cost_poly.proofs.coefficients.symbols.Goals as goal

pub returns-clause-symbols : goal.returns-clause-symbols
returns-clause-symbols c = symbols_are_at c.product_at.result c.args.place c.product_at.ensures.kept c.product_at.ensures.place
