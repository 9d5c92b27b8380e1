use Rattle.std.proofs.Common.{arith}
use Rattle.std.proofs.lemmas.Bool.{le-leb}
use Rattle.model_syntax.proofs.Elements.{all_pass}
use Rattle.model_syntax.proofs.kinds.are_bytes.Goals as goal

pub returns : goal.returns
returns c = all_pass _ c.args.bytes.now (λ k within. le-leb _ _ (omega (arith, c.type_inv.bytes k)))
