use Rattle.std.proofs.Common.{◌≡◌, ℕ, ℤ, ◌++◌, ◌∷◌, [], ◌∙◌, true, sym, arith, rules, SFits, length-append}
use Rattle.std.specs.Int.{w64}
use Rattle.std.proofs.lemmas.Int.{to_z-of_z}
use Rattle.std.proofs.lemmas.Result.{err_from_is_err_and}
use Rattle.image_layout.specs.Reading as spec
use Rattle.image_layout.proofs.Entries.{goes_on, goes_wrong}
use Rattle.side_certs.specs.LinearForm.{rises_from}
use Rattle.image_layout.proofs.Forms.{rises_push, next_symbol-push}
use Rattle.image_layout.proofs.reading.requirements.with_terms.Goals as goal

pub returns-in_err-symbol-clause-answer : goal.returns-in_err-symbol-clause-answer
returns-in_err-symbol-clause-answer c =
    let p = err_from_is_err_and c.from_residual.result c.from_residual.ensures.1 in
    rw (p.1, p.2) (goes_wrong (spec.terms c.args.symbols c.args.bytes.now) c.args.count c.args.start c.loop.form.terms
    c.loop.counter c.loop.at c.in_err-symbol.field-0.0 _ c.loop-test.true
    (rw c.loop.invariant.next at c.in_err-symbol.ensures.answer) c.loop.invariant.way)

pub longer-form-requires-clause-after : goal.longer-form-requires-clause-after
longer-form-requires-clause-after c =
    let fits : SFits w64 c.in_ok-symbol.coefficient = search rules in
    rw (to_z-of_z w64 c.in_ok-symbol.coefficient fits)
    (rises_push 0 c.loop.form.terms (c.in_ok-symbol.symbol, c.in_ok-symbol.coefficient) c.loop.invariant.rising
    (omega (arith, c.in_ok-symbol.ensures.after, c.loop.invariant.next)) c.in_ok-symbol.ensures.not_zero)

pub loop-preserved : goal.loop-preserved
loop-preserved c =
    let fits : SFits w64 c.in_ok-symbol.coefficient = search rules in
    let same = to_z-of_z w64 c.in_ok-symbol.coefficient fits in
    let t : ℕ × ℤ = (c.in_ok-symbol.symbol, c.in_ok-symbol.coefficient) in
    let taken : c.longer-form.result.terms ≡ c.loop.form.terms ++ t ∷ [] = rw same at c.longer-form.ensures.terms in
    let rising : rises_from 0 (c.loop.form.terms ++ t ∷ [])
    ≡ true = rises_push 0 c.loop.form.terms t c.loop.invariant.rising
    (omega (arith, c.in_ok-symbol.ensures.after, c.loop.invariant.next)) c.in_ok-symbol.ensures.not_zero in
    record {
      way = rw taken (goes_on (spec.terms c.args.symbols c.args.bytes.now) c.args.count c.args.start c.loop.form.terms
          c.loop.counter c.loop.at t c.loop-test.true (rw c.loop.invariant.next at c.in_ok-symbol.ensures.answer)
          c.loop.invariant.way);
      constant = c.longer-form.ensures.constant ∙ c.loop.invariant.constant;
      rising = rw taken rising;
      next = rw taken (sym (next_symbol-push 0 c.loop.form.terms t));
      below = omega (arith, c.in_ok-symbol.ensures.below);
      count = rw taken (omega (arith, length-append c.loop.form.terms (t ∷ []), c.in_ok-symbol.ensures.after));
      place = rw taken (omega (arith, length-append c.loop.form.terms (t ∷ []), c.loop.invariant.place));
      inside = omega (arith, c.in_ok-symbol.ensures.whole);
    }
