use Rattle.std.proofs.Common.{arith}
use Rattle.deriv_tree.proofs.Shallow.{block_low}
use Rattle.deriv_tree.proofs.tree.Derivation.depth.Goals as goal

pub returns : goal.returns
returns c = omega (arith, c.block_depth.ensures, c.requires.small, block_low c.args.self.now.body)
