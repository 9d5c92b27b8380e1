use Rattle.std.proofs.Common.{sym}
use Rattle.deriv_file.proofs.Parts.{block_counts_none}
use Rattle.deriv_file.proofs.node.block_counts.Goals as goal

pub returns-in-len2-up-clause-counts : goal.returns-in-len2-up-clause-counts
returns-in-len2-up-clause-counts c = sym (block_counts_none c.args.blocks c.args.rest.now c.in-len2-up.len_at_least)
