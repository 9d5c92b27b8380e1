use Rattle.std.proofs.Common.{◌≡◌, ◌<◌, ◌∙◌, length, map, string_bytes, slice_get, Some, ap, sym, arith}
use Rattle.std.proofs.lemmas.Option.{slice_get-get_or}
use Rattle.run_setup.proofs.Given.{in_map, given_more, cause_at}
use Rattle.run_setup.proofs.reading.read_each.Goals as goal

pub returns-in-Err-clause-cause : goal.returns-in-Err-clause-cause
returns-in-Err-clause-cause g c =
    let within : c.loop-k.k < length c.args.words.now = omega (arith, c.requires.count, c.loop-k-test.true) in
    let text_is : slice_get (map string_bytes c.args.words.now) c.loop-k.k ≡ Some c.as_str.result.now =
    in_map string_bytes c.args.words.now c.loop-k.k c.index-words-k.result within c.index-words-k.is
    ∙ ap (λ t. Some t) (sym c.as_str.ensures.value) in
    cause_at _ c.args.first c.loop-k.k _ _ _ (map string_bytes c.args.words.now) _ _ _ _ _ _ _ c.in-Err.fault
    c.in-Err.ensures.reads c.in-Err.ensures.cause (omega arith) text_is c.loop-k.invariant.count c.loop-k.invariant.last

pub loop-k-preserved : goal.loop-k-preserved
loop-k-preserved g c =
    let within : c.loop-k.k < length c.args.words.now = omega (arith, c.requires.count, c.loop-k-test.true) in
    let text_is : slice_get (map string_bytes c.args.words.now) c.loop-k.k ≡ Some c.as_str.result.now =
    in_map string_bytes c.args.words.now c.loop-k.k c.index-words-k.result within c.index-words-k.is
    ∙ ap (λ t. Some t) (sym c.as_str.ensures.value) in
    record {
      given = given_more _ _ c.args.kinds.now (map string_bytes c.args.words.now) c.loop-k.args c.push.new.self c.loop-k.k _
          c.as_str.result.now c.in-Ok.arg c.loop-k.invariant.given
          (slice_get-get_or c.args.kinds.now c.loop-k.k _ c.loop-k-test.true) text_is c.loop-k.invariant.held
          c.in-Ok.ensures.reads c.in_ok-push-in-Ok.ensures.appended;
      held = c.in-Ok.ensures.held ∙ c.loop-k.invariant.held;
      count = c.in-Ok.ensures.cause.0 ∙ c.loop-k.invariant.count;
      last = c.in-Ok.ensures.cause.1 ∙ c.loop-k.invariant.last;
    }
