use Rattle.lemma_files.proofs.Instances.{match_is_instance, instance_is_matched}
use Rattle.lemma_files.proofs.exactness.matches_are_instances.Goals as goal

pub returns : goal.returns
returns c = λ a b. (match_is_instance a b, instance_is_matched a b)
