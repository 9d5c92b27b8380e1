use Rattle.std.proofs.Common.{◌≡◌, ◌++◌, ◌∷◌, [], ◌+◌, arith}
use Rattle.std.specs.Prelude.{sum_by}
use Rattle.std.proofs.lemmas.List.Sums.{sum_by_push}
use Rattle.std.proofs.lemmas.Result.{err_from_is_err_and}
use Rattle.image_layout.specs.Spelling.{registers_of}
use Rattle.image_layout.specs.Reading as spec
use Rattle.image_layout.proofs.Entries.{goes_on, goes_wrong}
use Rattle.image_layout.proofs.reading.parameters.parameters.Goals as goal

pub returns-in_err-kind-clause-answer : goal.returns-in_err-kind-clause-answer
returns-in_err-kind-clause-answer c =
    let p = err_from_is_err_and c.from_residual.result c.from_residual.ensures.1 in
    rw (p.1, p.2) (goes_wrong (spec.parameters c.args.bytes.now) c.args.count c.args.start c.loop.kinds c.loop.counter c.loop.at
    c.in_err-kind.field-0.0 _ c.loop-test.true (rw (← c.loop.invariant.used) c.in_err-kind.ensures.answer)
    c.loop.invariant.way)

pub loop-preserved : goal.loop-preserved
loop-preserved c =
    let kind = c.in_ok-kind.kind in
    let taken : c.push.new.self ≡ c.loop.kinds ++ kind ∷ [] = c.in_ok-push.ensures.appended in
    let sum : sum_by registers_of c.push.new.self ≡ sum_by registers_of c.loop.kinds + registers_of kind =
    rw taken (sum_by_push registers_of c.loop.kinds kind) in
    record {
      way = rw taken (goes_on (spec.parameters c.args.bytes.now) c.args.count c.args.start c.loop.kinds c.loop.counter c.loop.at
          kind c.loop-test.true (rw (← c.loop.invariant.used) c.in_ok-kind.ensures.answer) c.loop.invariant.way);
      used = omega (arith, sum, c.registers-used.ensures, c.loop.invariant.used);
      few = omega (arith, c.in_ok-kind.ensures.room, c.registers-used.ensures);
      inside = omega (arith, c.in_ok-kind.ensures.whole);
    }
