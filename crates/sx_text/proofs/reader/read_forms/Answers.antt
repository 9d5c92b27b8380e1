-- Each turn of the loop, and each return, by what its byte's class does.
use Rattle.std.proofs.Common.{◌≡◌, sym, ◌∙◌, ap, arith, ℕ, suc, ◌+◌, ◌-◌, nat_eq, true, false, [], length, take, drop, reverse}
use Rattle.std.proofs.lemmas.Grind.{common_steps}
use Rattle.sx_text.specs.Forms.{deepest}
use Rattle.sx_text.proofs.Classes.{rest_of-Space, fault-Space, rest_of-Note, fault-Note, fault-Open, fault-Deep, fault-Close}
use Rattle.sx_text.proofs.Classes.{fault-Extra, fault-Word, fault-Bad, fault-Unclosed}
use Rattle.sx_text.proofs.Plugged.{plugged}
use Rattle.sx_text.proofs.Turns.{refuses, finishes, opens, closes, words}
use Rattle.sx_text.proofs.reader.read_forms.Goals as goal

pub loop-at-preserved-in-Space : goal.loop-at-preserved-in-Space
loop-at-preserved-in-Space c =
    let bytes = c.args.bytes.now in
    let at = c.loop-at.at in
    let byte = sym c.class_of.ensures ∙ c.in-Space.is in
    record {
      within = omega arith;
      faults = sym (fault-Space bytes at c.loop-at-test.true _ byte) ∙ c.loop-at.invariant.faults;
      means = ap (plugged (reverse c.loop-at.frames.items) c.loop-at.forms)
          (sym (rest_of-Space bytes at c.loop-at-test.true byte)) ∙ c.loop-at.invariant.means;
    }

pub loop-at-preserved-in-Note : goal.loop-at-preserved-in-Note
loop-at-preserved-in-Note c =
    let bytes = c.args.bytes.now in
    let at = c.loop-at.at in
    let n = c.line_length.result in
    let byte = sym c.class_of.ensures ∙ c.in-Note.is in
    let grouped : at + (1 + n) ≡ at + 1 + n = omega arith in
    rw grouped (record {
      within = omega arith;
      faults = sym (fault-Note bytes at c.loop-at-test.true n _ c.line_length.ensures.count (omega arith) byte)
          ∙ c.loop-at.invariant.faults;
      means = ap (plugged (reverse c.loop-at.frames.items) c.loop-at.forms)
          (sym (rest_of-Note bytes at c.loop-at-test.true n c.line_length.ensures.count byte)) ∙ c.loop-at.invariant.means;
    })

pub loop-at-preserved-in-Open : goal.loop-at-preserved-in-Open
loop-at-preserved-in-Open c =
    let bytes = c.args.bytes.now in
    let at = c.loop-at.at in
    let byte = sym c.class_of.ensures ∙ c.in-Open.is in
    let shallow : nat_eq (length c.loop-at.frames.items) deepest ≡ false = grind (arith, common_steps) in
    let deeper : length c.push.new.self.items ≡ length c.loop-at.frames.items + 1 =
    grind (arith, common_steps, c.in_ok-push-in-Open.ensures.items) in
    record {
      within = omega arith;
      faults = rw deeper (sym (fault-Open bytes at c.loop-at-test.true _ shallow byte) ∙ c.loop-at.invariant.faults);
      means = opens bytes at c.loop-at-test.true _ _ _ _ byte c.in_ok-push-in-Open.ensures.items c.new-forms-in-Open.ensures
          c.loop-at.invariant.means;
    }

pub returns-then-len-eq-DEEPEST : goal.returns-then-len-eq-DEEPEST
returns-then-len-eq-DEEPEST c =
    let bytes = c.args.bytes.now in
    let at = c.loop-at.at in
    let byte = sym c.class_of.ensures ∙ c.in-Open.is in
    let deep : nat_eq (length c.loop-at.frames.items) deepest ≡ true = grind (arith, common_steps) in
    refuses _ _ _ at _ bytes c.refused.ensures c.loop-at.invariant.faults (fault-Deep bytes at c.loop-at-test.true _ deep byte)

pub loop-at-preserved-in_ok-push-in-Close : goal.loop-at-preserved-in_ok-push-in-Close
loop-at-preserved-in_ok-push-in-Close c =
    let bytes = c.args.bytes.now in
    let at = c.loop-at.at in
    let byte = sym c.class_of.ensures ∙ c.in-Close.is in
    let deeper : length c.loop-at.frames.items ≡ suc (length c.pop.new.self.items) =
    grind (arith, common_steps, c.in-Some.ensures.items) in
    let faults = rw deeper at c.loop-at.invariant.faults in
    record {
      within = omega arith;
      faults = sym (fault-Close bytes at c.loop-at-test.true _ byte) ∙ faults;
      means = closes bytes at c.loop-at-test.true _ _ _ _ _ byte c.in-Some.ensures.items c.in_ok-push-in-Close.ensures.appended
          c.loop-at.invariant.means;
    }

pub returns-in_default : goal.returns-in_default
returns-in_default c =
    let bytes = c.args.bytes.now in
    let at = c.loop-at.at in
    let byte = sym c.class_of.ensures ∙ c.in-Close.is in
    let outermost : length c.loop-at.frames.items ≡ 0 = grind (arith, common_steps, c.in_default.ensures.variant) in
    let faults = rw outermost at c.loop-at.invariant.faults in
    refuses _ _ 0 at _ bytes c.refused-in_default.ensures faults (fault-Extra bytes at c.loop-at-test.true byte)

pub loop-at-preserved : goal.loop-at-preserved
loop-at-preserved c =
    let bytes = c.args.bytes.now in
    let at = c.loop-at.at in
    let n = c.word_length.result in
    let byte = sym c.class_of.ensures ∙ c.in-Word.is in
    let text : c.in_ok-from_slice-in-Word.field-0 ≡ take (at + 1 + n - at) (drop at bytes) = c.in_ok-from_slice-in-Word.ensures in
    let long : at + 1 + n - at ≡ n + 1 = omega arith in
    record {
      within = omega arith;
      faults = sym (fault-Word bytes at c.loop-at-test.true n _ c.word_length.ensures.count c.word_length.ensures.within byte)
          ∙ c.loop-at.invariant.faults;
      means = words bytes at c.loop-at-test.true n (reverse c.loop-at.frames.items) _ _ _ byte c.word_length.ensures.count
          c.word_length.ensures.within
          (text ∙ ap (λ (k : ℕ). take k (drop at bytes)) long) c.in_ok-push-in-Word.ensures.appended c.loop-at.invariant.means;
    }

pub returns-in-Bad : goal.returns-in-Bad
returns-in-Bad c =
    let bytes = c.args.bytes.now in
    let at = c.loop-at.at in
    let byte = sym c.class_of.ensures ∙ c.in-Bad.is in
    refuses _ _ _ at _ bytes c.refused-in-Bad.ensures c.loop-at.invariant.faults (fault-Bad bytes at c.loop-at-test.true _ byte)

pub returns-then-not-is_empty : goal.returns-then-not-is_empty
returns-then-not-is_empty c =
    let bytes = c.args.bytes.now in
    let at = c.loop-at.at in
    let inside : length c.loop-at.frames.items ≡ suc (length c.loop-at.frames.items - 1) =
    grind (arith, common_steps, c.if-not-is_empty.ensures) in
    let faults = rw inside at c.loop-at.invariant.faults in
    refuses _ _ _ at _ bytes c.refused-then-not-is_empty.ensures faults (fault-Unclosed bytes _ at c.loop-at-test.false)

pub returns : goal.returns
returns c =
    let outermost : c.loop-at.frames.items ≡ [] = grind (arith, common_steps, c.if-not-is_empty.ensures) in
    finishes _ c.loop-at.at _ _ _ c.loop-at-test.false outermost c.loop-at.invariant.faults c.loop-at.invariant.means
