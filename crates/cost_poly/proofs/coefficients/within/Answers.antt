use Rattle.std.proofs.Common.{slice_index_or, arith}
use Rattle.cost_poly.proofs.Listed.{below_greatest}
use Rattle.cost_poly.proofs.coefficients.within.Goals as goal

pub listed-requires : goal.listed-requires
listed-requires c = λ place less.
    omega (
      arith,
      below_greatest (λ place. slice_index_or c.args.numbers.now place 0) 45 place less,
      c.greatest-greatest.ensures,
      c.if-greatest-from.false,
      c.from.ensures,
    )
