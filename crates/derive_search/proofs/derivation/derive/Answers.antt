use Rattle.derive_search.proofs.Starting.{instance_from}
use Rattle.derive_search.proofs.derivation.derive.Goals as goal

pub returns-clause-instance : goal.returns-clause-instance
returns-clause-instance g c = instance_from c.args.lemmas.now (g.B.Book.turn c.args.book.now) c.args.m.now.inner c.derived.result
    c.derived.ensures
