use Rattle.std.proofs.Common.{arith, ◌≡◌, ap, map, length}
use Rattle.std.proofs.lemmas.Grind.{common_steps}
use Rattle.model_syntax.specs.Types.{kind_of}
use Rattle.model_syntax.proofs.laws.Parameters.{few_kinds}
use Rattle.model_types.proofs.typed.Typed.kinds.Goals as goal

pub returns-clause-few : goal.returns-clause-few
returns-clause-few c =
    let whole : c.loop-param.kinds ≡ map kind_of c.args.self.now.inner.params =
    grind (arith, common_steps, c.loop-param.invariant, c.loop-param-test.false, c.as_slice-param-items.ensures) in
    omega (arith, ap length whole, few_kinds c.args.self.now.inner c.args.self.now.well)
