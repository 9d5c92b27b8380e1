use Rattle.std.proofs.Common.{◌≡◌, ◌≤◌, ◌++◌, [], take, subst, length, sym, ◌∙◌, arith, true, false, pos, length-take}
use Rattle.std.specs.Int.{w64, w128}
use Rattle.std.specs.Ordering.{int_eq}
use Rattle.std.proofs.lemmas.Int.{to_z-of_z}
use Rattle.side_certs.specs.LinearForm.{LinearForm, is_small, rises_from, keep}
use Rattle.side_certs.proofs.laws.Terms.{full, within_more, rises_more, small_fits}
use Rattle.side_certs.proofs.form.Form.push.Goals as goal

pub returns-then-self-eq-MOST_TERMS-clause-room : goal.returns-then-self-eq-MOST_TERMS-clause-room
returns-then-self-eq-MOST_TERMS-clause-room c =
    let slots : length c.self.inside.slots ≡ 16 = omega arith in
    let size : length c.args.self.now.terms
    ≡ 16 = rw (← c.self.view_is) (omega (arith, length-take c.self.inside.count c.self.inside.slots)) in
    let same = to_z-of_z w128 c.args.coefficient c.ranges.coefficient in
    let not_zero : int_eq c.args.coefficient (pos 0) ≡ false = rw same at (sym c.is_zero.ensures ∙ c.if-is_zero.false) in
    full c.args.self.now c.args.coefficient size not_zero

pub invariant_of-self : goal.invariant_of-self
invariant_of-self c =
    let slots : length c.self.inside.slots ≡ 16 = omega arith in
    let below : c.self.inside.count ≤ 16 = c.self.invariant.0 in
    let same = to_z-of_z w128 c.args.coefficient c.ranges.coefficient in
    let small : is_small c.args.coefficient ≡ true = rw same at (sym c.is_small.ensures ∙ c.if-not-is_small.false) in
    let not_zero : int_eq c.args.coefficient (pos 0) ≡ false = rw same at (sym c.is_zero.ensures ∙ c.if-is_zero.false) in
    let rise : rises_from 0 (take c.self.inside.count c.self.inside.slots ++ keep c.args.symbol c.args.coefficient []) ≡ true =
    subst (λ (f : LinearForm). rises_from 0 (f.terms ++ keep c.args.symbol c.args.coefficient []) ≡ true) (sym c.self.view_is)
    c.requires in
    let stored = to_z-of_z w64 c.args.coefficient (small_fits c.args.coefficient small) in (
      omega arith,
      rw (same, stored) (within_more c.self.inside.constant c.self.inside.slots c.self.inside.count
          (c.args.symbol, c.args.coefficient) slots (omega arith) c.self.invariant.1 small),
      rw (same, stored) (rises_more c.self.inside.slots c.self.inside.count (c.args.symbol, c.args.coefficient) (omega arith)
          not_zero rise),
    )
