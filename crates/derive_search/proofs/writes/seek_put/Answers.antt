use Rattle.std.proofs.Common.{rules, ◌≡◌, true, is_some}
use Rattle.sym_heap.specs.Context.{own}
use Rattle.derive_search.specs.Guide.{guided}
use Rattle.derive_search.specs.Nodes as nodes
use Rattle.derive_search.specs.Statements as spec
use Rattle.derive_search.proofs.Steps.{where_step}
use Rattle.derive_search.proofs.writes.seek_put.Goals as goal

pub returns-clause-found : goal.returns-clause-found
returns-clause-found g c =
    let x = c.args in
    let there : is_some (own x.s.now.ctx x.a.now) ≡ true = search rules in
    where_step (λ d. is_some (own d x.a.now)) (nodes.stuck x.stmt)
    (spec.seek_two (guided g.B.Book.turn x.guide.now) x.deep x.stmt x.i.now x.v.now)
    (λ fg. spec.storing x.at (nodes.stuck x.stmt) x.a.now fg.0 fg.1)
    x.s.now c.seek_two.new.s (c.in_ok-f.f, c.in_ok-f.g) c.store.result c.store.new.ctx there c.in_ok-f.ensures.found
    c.store.ensures
