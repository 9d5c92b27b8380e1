use Rattle.std.proofs.Common.{◌≡◌, ◌++◌, ◌∷◌, [], arith}
use Rattle.std.proofs.lemmas.Result.{err_from_is_err_and}
use Rattle.image_layout.specs.Reading as spec
use Rattle.image_layout.proofs.Entries.{goes_on, goes_wrong}
use Rattle.image_layout.proofs.reading.requirements.requirements.Goals as goal

pub returns-in_err-form-clause-answer : goal.returns-in_err-form-clause-answer
returns-in_err-form-clause-answer c =
    let p = err_from_is_err_and c.from_residual.result c.from_residual.ensures.1 in
    rw (p.1, p.2) (goes_wrong (spec.requirements c.args.symbols c.args.bytes.now) c.args.count c.args.start c.loop.forms
    c.loop.counter c.loop.at c.in_err-form.field-0.0 _ c.loop-test.true c.in_err-form.ensures.answer c.loop.invariant.way)

pub loop-preserved : goal.loop-preserved
loop-preserved c =
    let taken : c.push.new.self ≡ c.loop.forms ++ c.in_ok-form.form ∷ [] = c.in_ok-push.ensures.appended in
    record {
      way = rw (taken, c.terms.ensures.count)
          (goes_on (spec.requirements c.args.symbols c.args.bytes.now) c.args.count c.args.start c.loop.forms c.loop.counter
          c.loop.at c.in_ok-form.form c.loop-test.true c.in_ok-form.ensures.answer c.loop.invariant.way);
      inside = omega (arith, c.in_ok-form.ensures.whole, c.terms.ensures.count);
    }
