use Rattle.std.proofs.Common.{suc}
use Rattle.model_reader.specs.Sizes.{size, sizes}
use Rattle.lemma_files.proofs.patterns.+pattern.Given as goal

abbrev pub decreases-read_pattern : goal.decreases-read_pattern
decreases-read_pattern l = size l.form.now

abbrev pub decreases-worded_pattern : goal.decreases-worded_pattern
decreases-worded_pattern l = suc (suc (sizes l.args.now))

abbrev pub decreases-one_of : goal.decreases-one_of
decreases-one_of l = suc (sizes l.args.now)

abbrev pub decreases-two_of : goal.decreases-two_of
decreases-two_of l = suc (sizes l.args.now)

abbrev pub decreases-get_of : goal.decreases-get_of
decreases-get_of l = suc (sizes l.args.now)

abbrev pub decreases-tab_of : goal.decreases-tab_of
decreases-tab_of l = suc (sizes l.args.now)
