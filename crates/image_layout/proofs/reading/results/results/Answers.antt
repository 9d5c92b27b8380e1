use Rattle.std.proofs.Common.{◌≡◌, ◌++◌, ◌∷◌, [], arith}
use Rattle.std.proofs.lemmas.Result.{err_from_is_err_and}
use Rattle.image_layout.specs.Reading as spec
use Rattle.image_layout.proofs.Entries.{goes_on, goes_wrong}
use Rattle.image_layout.proofs.reading.results.results.Goals as goal

pub returns-in_err-ret-clause-answer : goal.returns-in_err-ret-clause-answer
returns-in_err-ret-clause-answer c =
    let p = err_from_is_err_and c.from_residual.result c.from_residual.ensures.1 in
    rw (p.1, p.2) (goes_wrong (spec.results c.args.kinds.now c.args.bytes.now) c.args.count c.args.start c.loop.rets
    c.loop.counter c.loop.at c.in_err-ret.field-0.0 _ c.loop-test.true (rw c.as_slice.ensures at c.in_err-ret.ensures.answer)
    c.loop.invariant.way)

pub loop-preserved : goal.loop-preserved
loop-preserved c =
    let taken : c.push.new.self ≡ c.loop.rets ++ c.in_ok-ret.ret ∷ [] = c.in_ok-push.ensures.appended in
    record {
      way = rw (taken) (goes_on (spec.results c.args.kinds.now c.args.bytes.now) c.args.count c.args.start c.loop.rets
          c.loop.counter c.loop.at c.in_ok-ret.ret c.loop-test.true (rw c.as_slice.ensures at c.in_ok-ret.ensures.answer)
          c.loop.invariant.way);
      inside = omega (arith, c.in_ok-ret.ensures.whole);
    }
