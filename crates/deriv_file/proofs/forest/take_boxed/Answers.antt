use Rattle.std.proofs.Common.{◌≡◌, ◌++◌, ◌∷◌, [], ap, ◌∙◌, arith}
use Rattle.deriv_tree.specs.declared.tree.ExprNode.{ExprNode}
use Rattle.deriv_file.proofs.Stacks.{taken_more, left_more}
use Rattle.deriv_file.proofs.forest.take_boxed.Goals as goal

pub trees-preserved : goal.trees-preserved
trees-preserved c =
    let pushed : c.push.new.self ≡ c.trees.taken ++ c.in-Some.tree ∷ [] =
    c.in_ok-push-in-Some.ensures.appended ∙ ap (λ (x : ExprNode). c.trees.taken ++ x ∷ []) c.in_ok-new-in-Some.ensures in
    record {
      taken = taken_more c.args.count c.trees.taken c.push.new.self c.trees.stack.items c.pop.new.self.items c.in-Some.tree _
          (omega arith) c.in-Some.ensures.items pushed c.trees.invariant.taken;
      left = left_more c.args.count c.trees.taken c.push.new.self c.trees.stack.items c.pop.new.self.items c.in-Some.tree _
          (omega arith) c.in-Some.ensures.items pushed c.trees.invariant.left;
    }
