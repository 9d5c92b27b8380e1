use Rattle.std.proofs.Common.{◌≡◌, ◌++◌, ◌∷◌, [], arith}
use Rattle.std.proofs.lemmas.Result.{err_from_is_err_and}
use Rattle.image_layout.specs.Reading as spec
use Rattle.image_layout.proofs.Entries.{goes_on, goes_wrong}
use Rattle.cost_poly.specs.declared.term.Term.{Term}
use Rattle.image_layout.proofs.Bounds.{followed}
use Rattle.image_layout.proofs.reading.bound_terms.bound.Goals as goal

pub returns-in_err-term-clause-answer : goal.returns-in_err-term-clause-answer
returns-in_err-term-clause-answer c =
    let p = err_from_is_err_and c.from_residual.result c.from_residual.ensures.1 in
    rw (p.1, p.2) (goes_wrong (spec.bound_terms c.args.symbols c.args.bytes.now) c.args.count c.args.start c.loop.bound
    c.loop.counter c.loop.at c.in_err-term.field-0.0 _ c.loop-test.true c.in_err-term.ensures.answer c.loop.invariant.way)

pub loop-preserved : goal.loop-preserved
loop-preserved c =
    let term : Term = c.in_ok-term.term in
    let taken : c.unwrap-bound.result
    ≡ c.loop.bound ++ term ∷ [] = followed c.loop.bound term c.with_term.result c.unwrap-bound.result
    c.in_ok-term.ensures.follows c.with_term.ensures c.unwrap-bound.ensures in
    record {
      way = rw taken (goes_on (spec.bound_terms c.args.symbols c.args.bytes.now) c.args.count c.args.start c.loop.bound
          c.loop.counter c.loop.at term c.loop-test.true c.in_ok-term.ensures.answer c.loop.invariant.way);
      inside = omega (arith, c.in_ok-term.ensures.whole);
    }
