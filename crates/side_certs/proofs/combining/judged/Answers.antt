use Rattle.std.proofs.Common.{◌≡◌, ◌+◌, refl, sym, ap, ◌∙◌, rules, SFits}
use Rattle.std.specs.Int.{w128}
use Rattle.std.proofs.lemmas.Int.{to_z-of_z}
use Rattle.side_certs.specs.LinearForm.{within}
use Rattle.side_certs.proofs.laws.Terms.{no_room, put_keeps, next_rises}
use Rattle.side_certs.proofs.laws.Sums.{onward, onward_zero, next_whole, end_whole}
use Rattle.side_certs.proofs.combining.judged.Goals as goal

pub symbols-init : goal.symbols-init
symbols-init g c =
    let fits : SFits w128 c.number_at.result = search rules in (
      c.in_ok-form.ensures.started.0 ∙ to_z-of_z w128 c.number_at.result fits
          ∙ c.number_at.ensures,
      λ rise. rw (c.in_ok-form.ensures.started.1) (onward_zero _ rise),
    )

pub returns-in-None : goal.returns-in-None
returns-in-None g c =
    let whole = g.C.Combination.form c.args.sum.now in
    let rise = c.symbol_from.ensures.rising in
    let terms : c.symbols.form.terms
    ≡ whole.terms = end_whole c.symbols.form.terms whole.terms c.symbols.least rise
    (λ r from. c.in-None.ensures.next.before r from tt) (c.symbols.invariant.1 rise) in
    let same : c.symbols.form ≡ whole = rw (← terms, ← c.symbols.invariant.0) refl in
    c.done.ensures ∙ ap within same

pub push-requires : goal.push-requires
push-requires g c =
    let whole = g.C.Combination.form c.args.sum.now in
    let fits : SFits w128 c.number_at-in-Some.result = search rules in
    let rise = c.symbol_from.ensures.rising in
    let so_far = next_whole c.symbols.form.terms whole.terms c.symbols.least c.in-Some.s rise c.in-Some.ensures.next.from
    (λ r from before. c.in-Some.ensures.next.before r from before) (c.symbols.invariant.1 rise) in
    next_rises c.symbols.form.terms c.in-Some.s _ _ (onward (c.in-Some.s + 1) whole.terms) whole.terms rise
    (to_z-of_z w128 c.number_at-in-Some.result fits ∙ c.number_at-in-Some.ensures) so_far

pub returns-then-not-push : goal.returns-then-not-push
returns-then-not-push g c =
    let whole = g.C.Combination.form c.args.sum.now in
    let fits : SFits w128 c.number_at-in-Some.result = search rules in
    let rise = c.symbol_from.ensures.rising in
    let so_far = next_whole c.symbols.form.terms whole.terms c.symbols.least c.in-Some.s rise c.in-Some.ensures.next.from
    (λ r from before. c.in-Some.ensures.next.before r from before) (c.symbols.invariant.1 rise) in
    sym (no_room whole c.symbols.form c.in-Some.s _ _ (onward (c.in-Some.s + 1) whole.terms) c.if-not-push.ensures.room
    (to_z-of_z w128 c.number_at-in-Some.result fits ∙ c.number_at-in-Some.ensures) so_far)

pub symbols-preserved : goal.symbols-preserved
symbols-preserved g c =
    let whole = g.C.Combination.form c.args.sum.now in
    let fits : SFits w128 c.number_at-in-Some.result = search rules in
    let rise = c.symbol_from.ensures.rising in
    let so_far = next_whole c.symbols.form.terms whole.terms c.symbols.least c.in-Some.s rise c.in-Some.ensures.next.from
    (λ r from before. c.in-Some.ensures.next.before r from before) (c.symbols.invariant.1 rise) in
    let kept = put_keeps c.push.new.self c.symbols.form c.in-Some.s _ _ (onward (c.in-Some.s + 1) whole.terms) whole.terms
    whole.constant c.if-not-push.ensures.put (to_z-of_z w128 c.number_at-in-Some.result fits ∙ c.number_at-in-Some.ensures)
    c.symbols.invariant.0 so_far in
    (kept.0, λ r. rw (c.from-least.ensures) kept.1)
