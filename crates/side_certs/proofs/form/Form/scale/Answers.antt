use Rattle.std.proofs.Common.{◌≡◌, true, List, [], ℕ, ℤ, sym, ap, ◌∙◌, ◌++◌, SFits, rules, to_z, of_z}
use Rattle.std.specs.Int.{w64, w128}
use Rattle.std.proofs.lemmas.Int.{to_z-of_z}
use Rattle.std.proofs.lemmas.List.{append-nil}
use Rattle.side_certs.specs.LinearForm.{times, terms_times, within, rises_from}
use Rattle.side_certs.proofs.laws.Terms.{no_room, put_keeps, whole_is, next_rises, times_rise}
use Rattle.side_certs.proofs.form.Form.scale.Goals as goal

pub returns-then-not-push : goal.returns-then-not-push
returns-then-not-push c =
    let n = c.in-Some.next in
    let fits : SFits w128 n.coefficient = search rules in
    let k_fits : SFits w64 c.args.k = search rules in
    let k_is = to_z-of_z w64 c.args.k k_fits in
    let whole = ap (λ (ts : List (ℕ × ℤ)). c.terms.multiple.terms ++ ts) (sym c.in-Some.ensures.0) ∙ c.terms.invariant.1 in
    rw k_is at (sym (no_room (times (to_z w64 (of_z w64 c.args.k)) c.args.self.now) c.terms.multiple n.symbol n.coefficient _
    (terms_times (to_z w64 (of_z w64 c.args.k)) n.left.now) c.if-not-push.ensures.room (to_z-of_z w128 n.coefficient fits)
    whole))

pub terms-preserved : goal.terms-preserved
terms-preserved c =
    let n = c.in-Some.next in
    let fits : SFits w128 n.coefficient = search rules in
    let whole = ap (λ (ts : List (ℕ × ℤ)). c.terms.multiple.terms ++ ts) (sym c.in-Some.ensures.0) ∙ c.terms.invariant.1 in
    put_keeps c.push.new.self c.terms.multiple n.symbol n.coefficient _ (terms_times (to_z w64 (of_z w64 c.args.k)) n.left.now) _
    _ c.if-not-push.ensures.put (to_z-of_z w128 n.coefficient fits) c.terms.invariant.0 whole

pub returns-in-None : goal.returns-in-None
returns-in-None c =
    let k_fits : SFits w64 c.args.k = search rules in
    let empty : c.terms.left.now ≡ [] = c.in-None.ensures in
    let terms : c.terms.multiple.terms ≡ terms_times (to_z w64 (of_z w64 c.args.k)) c.args.self.now.terms =
    sym (append-nil c.terms.multiple.terms)
    ∙ ap (λ (ts : List (ℕ × ℤ)). c.terms.multiple.terms ++ terms_times (to_z w64 (of_z w64 c.args.k)) ts) (sym empty)
    ∙ c.terms.invariant.1 in
    c.done.ensures ∙ ap within (whole_is c.terms.multiple (to_z w64 (of_z w64 c.args.k)) c.args.k c.args.self.now
    c.terms.invariant.0 terms (to_z-of_z w64 c.args.k k_fits))

pub push-requires : goal.push-requires
push-requires c =
    let n = c.in-Some.next in
    let fits : SFits w128 n.coefficient = search rules in
    let whole = ap (λ (ts : List (ℕ × ℤ)). c.terms.multiple.terms ++ ts) (sym c.in-Some.ensures.0) ∙ c.terms.invariant.1 in
    let all : rises_from 0 c.args.self.now.terms ≡ true = rw (← c.self.view_is) c.self.invariant.2 in
    next_rises c.terms.multiple.terms n.symbol n.coefficient _ (terms_times (to_z w64 (of_z w64 c.args.k)) n.left.now)
    (terms_times (to_z w64 (of_z w64 c.args.k)) c.args.self.now.terms)
    (times_rise (to_z w64 (of_z w64 c.args.k)) 0 c.args.self.now.terms all) (to_z-of_z w128 n.coefficient fits) whole
