use Rattle.std.proofs.Common.{◌-◌, ap, sym, ◌∙◌, arith}
use Rattle.rv_emit.specs.Whole as whole
use Rattle.rv_emit.proofs.Elements.{got_before}
use Rattle.rv_emit.proofs.frame.slots_in.Goals as goal

pub loop-x-preserved : goal.loop-x-preserved
loop-x-preserved c =
    let places = c.args.plan.now.places in
    let x = c.loop-x.x in
    let inv = c.loop-x.invariant in
    let some = c.loop-x-test.true in
    let left = got_before places x (x - 1) c.place.result (omega arith) c.place.ensures.entry in
    record {
      slots = c.slots_with-slots.ensures.slots ∙ ap (whole.slots_with c.place.result) inv.slots ∙ sym (ap whole.slots_in left);
      few = c.slots_with-slots.ensures.few;
      within = omega (arith, inv.within);
    }
