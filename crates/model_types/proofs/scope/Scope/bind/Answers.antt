use Rattle.model_types.proofs.Binding.{tells_pushed}
use Rattle.model_types.proofs.scope.Scope.bind.Goals as goal

pub invariant_of-result : goal.invariant_of-result
invariant_of-result c =
    tells_pushed c.self.inside.entries c.self.inside.types c.insert.new.self c.push.new.self
    c.args.x.now c.in_ok-copy.field-0 c.in_ok-name.name c.args.shape c.in_ok-copy_type.field-0
    c.in_ok-copy.ensures c.in_ok-copy_type.ensures c.in_ok-name.ensures c.in_ok-push.ensures.appended
    c.in_ok-insert.ensures.updates c.self.invariant
