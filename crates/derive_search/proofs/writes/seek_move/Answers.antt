use Rattle.std.proofs.Common.{rules, ◌≡◌, true}
use Rattle.sym_heap.specs.Context.{can_move}
use Rattle.derive_search.specs.Guide.{guided}
use Rattle.derive_search.specs.Nodes as nodes
use Rattle.derive_search.specs.Statements as spec
use Rattle.derive_search.proofs.Steps.{where_step}
use Rattle.derive_search.proofs.writes.seek_move.Goals as goal

pub returns-clause-found : goal.returns-clause-found
returns-clause-found g c =
    let x = c.args in
    let there : can_move x.s.now.ctx x.a.now x.b.now ≡ true = search rules in
    where_step (λ d. can_move d x.a.now x.b.now) (nodes.stuck x.stmt)
    (spec.seek_two (guided g.B.Book.turn x.guide.now) x.deep x.stmt x.i.now x.v.now)
    (λ fg. spec.moving x.at (nodes.stuck x.stmt) x.b.now x.a.now fg.0 fg.1)
    x.s.now c.seek_two.new.s (c.in_ok-f.f, c.in_ok-f.g) c.store_moved.result c.store_moved.new.ctx there c.in_ok-f.ensures.found
    c.store_moved.ensures
