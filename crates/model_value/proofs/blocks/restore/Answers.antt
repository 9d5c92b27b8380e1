use Rattle.std.proofs.Common.{rules, ◌∙◌}
use Rattle.model_value.proofs.Restoring.{one_handed_back, set_length}
use Rattle.model_value.proofs.blocks.restore.Goals as goal

pub loop-i-preserved : goal.loop-i-preserved
loop-i-preserved c =
    record {
      same_length = set_length c.loop-i.kept.items c.loop-i.i c.replace-value.new.dest ∙ c.loop-i.invariant.same_length;
      gives = one_handed_back c.args.back.now c.loop-i.kept.items c.loop-i.i c.index-back-i.result c.replace-value.result
          c.replace-value.new.dest c.loop-i.env c.put_back.new.env _
          c.loop-i-test.true c.loop-i.invariant.same_length c.index-back-i.is (search rules) (search rules)
          c.loop-i.invariant.gives;
    }
