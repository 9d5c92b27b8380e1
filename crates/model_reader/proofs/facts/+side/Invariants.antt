use Rattle.std.proofs.Common.{suc}
use Rattle.model_reader.specs.Sizes.{size, sizes}
use Rattle.model_reader.proofs.facts.+side.Given as goal

abbrev pub decreases-read_side : goal.decreases-read_side
decreases-read_side l = size l.form.now

abbrev pub decreases-sum_of : goal.decreases-sum_of
decreases-sum_of l = suc (suc (sizes l.args.now))

abbrev pub decreases-scale_of : goal.decreases-scale_of
decreases-scale_of l = suc (suc (sizes l.args.now))

abbrev pub decreases-part_at : goal.decreases-part_at
decreases-part_at l = suc (sizes l.args.now)
