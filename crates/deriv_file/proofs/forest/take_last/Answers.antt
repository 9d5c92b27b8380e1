use Rattle.std.proofs.Common.{arith}
use Rattle.deriv_file.proofs.Stacks.{taken_more, left_more}
use Rattle.deriv_file.proofs.forest.take_last.Goals as goal

pub trees-preserved : goal.trees-preserved
trees-preserved g c = record {
  taken = taken_more c.args.count c.trees.taken c.push.new.self c.trees.stack.items c.pop.new.self.items c.in-Some.tree _
      (omega arith) c.in-Some.ensures.items c.in_ok-push-in-Some.ensures.appended c.trees.invariant.taken;
  left = left_more c.args.count c.trees.taken c.push.new.self c.trees.stack.items c.pop.new.self.items c.in-Some.tree _
      (omega arith) c.in-Some.ensures.items c.in_ok-push-in-Some.ensures.appended c.trees.invariant.left;
}
