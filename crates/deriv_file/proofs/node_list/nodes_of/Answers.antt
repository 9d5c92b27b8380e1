-- Each turn over the list, and each end of it.
use Rattle.std.proofs.Common.{◌∙◌, sym, length}
use Rattle.deriv_file.specs.Places.{open_places}
use Rattle.deriv_file.proofs.Turns.{turn, fails_at, surplus, ends_at, lacks_at, refused, same_total, counted_on, calls_on}
use Rattle.deriv_file.proofs.Turns.{bounded_on}
use Rattle.deriv_file.proofs.node_list.nodes_of.Goals as goal

pub returns-in_default-take : goal.returns-in_default-take
returns-in_default-take c =
    refused c.node_count.result _ _ c.node_count.ensures
    (same_total c.args.block c.args.items.now
    ∙ surplus (length c.args.items.now) c.loop-left.at c.loop-left.left.now (open_places c.loop-left.places) c.loop-left.nodes _
    c.in-len1-up.len_at_least c.in_default-take.ensures c.loop-left.invariant.whole)

pub loop-left-preserved : goal.loop-left-preserved
loop-left-preserved c = record {
  counted = counted_on c.loop-left.at (length c.args.items.now) c.loop-left.left.now c.in-len1-up.len_at_least
      c.loop-left.invariant.counted;
  calls = calls_on c.loop-left.needed c.loop-left.at c.calls-needed.result c.in-Some.place c.in-Ok.node
      (open_places c.loop-left.places) (open_places c.take.new.self)
      (open_places c.call_for.new.self) c.in-Some.ensures c.in_ok-call_for.ensures c.calls-needed.ensures.number
      c.loop-left.invariant.calls;
  bounded = bounded_on c.loop-left.needed c.loop-left.at c.calls-needed.result c.loop-left.invariant.bounded
      c.calls-needed.ensures.bound;
  whole = turn (length c.args.items.now) c.loop-left.at c.loop-left.left.now c.first-item.result c.in-Some.place
      (open_places c.loop-left.places)
      (open_places c.take.new.self) (open_places c.call_for.new.self) c.in-Ok.node c.loop-left.nodes c.push.new.self _
      c.in-len1-up.len_at_least c.first-item.is c.in-Some.ensures (sym c.in-Ok.ensures.answer) c.in_ok-call_for.ensures
      c.in_ok-push.ensures.appended
      c.loop-left.invariant.whole;
}

pub returns-in-Err : goal.returns-in-Err
returns-in-Err c =
    fails_at c.args.block c.loop-left.at c.args.items.now c.loop-left.left.now c.first-item.result c.in-Some.place
    (open_places c.loop-left.places)
    (open_places c.take.new.self) c.loop-left.nodes c.in-Err.fail c.in-len1-up.len_at_least c.first-item.is c.in-Some.ensures
    c.in-Err.ensures.answer
    c.loop-left.invariant.whole

pub returns-then-needed-total : goal.returns-then-needed-total
returns-then-needed-total c =
    same_total c.args.block c.args.items.now
    ∙ ends_at (length c.args.items.now) c.loop-left.at c.loop-left.needed c.loop-left.left.now (open_places c.loop-left.places)
    c.loop-left.nodes _
    c.in_default.len_below c.loop-left.invariant.calls c.if-needed-total.true c.loop-left.invariant.whole

pub returns-else-needed-total : goal.returns-else-needed-total
returns-else-needed-total c =
    refused c.node_count-else-needed-total.result _ _ c.node_count-else-needed-total.ensures
    (same_total c.args.block c.args.items.now
    ∙ lacks_at (length c.args.items.now) c.loop-left.at c.loop-left.needed c.loop-left.left.now (open_places c.loop-left.places)
    c.loop-left.nodes _
    c.in_default.len_below c.loop-left.invariant.calls c.if-needed-total.false c.loop-left.invariant.whole)
