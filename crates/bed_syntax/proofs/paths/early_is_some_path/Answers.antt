use Rattle.bed_syntax.proofs.EarlyPaths.{early_paths}
use Rattle.bed_syntax.proofs.paths.early_is_some_path.Goals as goal

pub returns : goal.returns
returns c = early_paths
