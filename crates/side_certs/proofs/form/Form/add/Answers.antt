use Rattle.std.proofs.Common.{◌≡◌, true, List, ℕ, ℤ, sym, ap, ◌∙◌, ◌++◌, SFits, rules}
use Rattle.std.specs.Int.{w128}
use Rattle.std.proofs.lemmas.Int.{to_z-of_z}
use Rattle.side_certs.specs.LinearForm.{plus, merge, rises_from}
use Rattle.side_certs.proofs.laws.Terms.{no_room, put_keeps, next_rises, merge_rises}
use Rattle.side_certs.proofs.form.Form.add.Goals as goal

pub returns-then-not-push : goal.returns-then-not-push
returns-then-not-push c =
    let n = c.in-Some.next in
    let fits : SFits w128 n.coefficient = search rules in
    let whole = ap (λ (ts : List (ℕ × ℤ)). c.terms.sum.terms ++ ts) (sym c.in-Some.ensures.0) ∙ c.terms.invariant.1 in
    sym (no_room (plus c.args.self.now c.args.other.now) c.terms.sum n.symbol n.coefficient _ (merge n.left.now n.right.now)
    c.if-not-push.ensures.room (to_z-of_z w128 n.coefficient fits) whole)

pub terms-preserved : goal.terms-preserved
terms-preserved c =
    let n = c.in-Some.next in
    let fits : SFits w128 n.coefficient = search rules in
    let whole = ap (λ (ts : List (ℕ × ℤ)). c.terms.sum.terms ++ ts) (sym c.in-Some.ensures.0) ∙ c.terms.invariant.1 in
    put_keeps c.push.new.self c.terms.sum n.symbol n.coefficient _ (merge n.left.now n.right.now) _ _ c.if-not-push.ensures.put
    (to_z-of_z w128 n.coefficient fits) c.terms.invariant.0 whole

pub push-requires : goal.push-requires
push-requires c =
    let n = c.in-Some.next in
    let fits : SFits w128 n.coefficient = search rules in
    let whole = ap (λ (ts : List (ℕ × ℤ)). c.terms.sum.terms ++ ts) (sym c.in-Some.ensures.0) ∙ c.terms.invariant.1 in
    let left : rises_from 0 c.args.self.now.terms ≡ true = rw (← c.self.view_is) c.self.invariant.2 in
    let right : rises_from 0 c.args.other.now.terms ≡ true = rw (← c.other.view_is) c.other.invariant.2 in
    next_rises c.terms.sum.terms n.symbol n.coefficient _ (merge n.left.now n.right.now)
    (merge c.args.self.now.terms c.args.other.now.terms)
    (merge_rises c.args.self.now.terms c.args.other.now.terms 0 left right) (to_z-of_z w128 n.coefficient fits) whole
