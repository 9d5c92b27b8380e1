use Rattle.std.proofs.Common.{rules, refl, ◌<◌}
use Rattle.sym_heap.specs.Context as spec
use Rattle.sym_heap.proofs.Firsts.{There, Nowhere, there, nowhere}
use Rattle.sym_heap.proofs.context.Ctx.wrote.Goals as goal

pub index_mut-requires : goal.index_mut-requires
index_mut-requires c =
    let at : There (spec.is_clause c.args.a.now) c.self.inside.clauses.items c.in-Some.i =
    there _ _ _ (grind (rules, c.place_of_clause.ensures, c.in-Some.is, c.deref.ensures.value)) in
    search (rules, at.inside)

pub overflow_add-index_mut : goal.overflow_add-index_mut
overflow_add-index_mut c =
    let at : There (spec.is_clause c.args.a.now) c.self.inside.clauses.items c.in-Some.i =
    there _ _ _ (grind (rules, c.place_of_clause.ensures, c.in-Some.is, c.deref.ensures.value)) in
    let below : c.index_mut.result.now.writes < 4294967295 =
    c.requires c.index_mut.result.now
    (rw (← c.self.view_is, at.found c.index_mut.result.now, ← c.index_mut.ensures.value) refl) in
    search (rules, below)

pub returns-in-None-clause-found : goal.returns-in-None-clause-found
returns-in-None-clause-found c =
    let at : Nowhere (spec.is_clause c.args.a.now) c.self.inside.clauses.items =
    nowhere _ _ (grind (rules, c.place_of_clause.ensures, c.in-None.is, c.deref.ensures.value)) in
    rw (← c.self.view_is, at.found) refl

pub returns-in-Some-clause-found : goal.returns-in-Some-clause-found
returns-in-Some-clause-found c =
    let at : There (spec.is_clause c.args.a.now) c.self.inside.clauses.items c.in-Some.i =
    there _ _ _ (grind (rules, c.place_of_clause.ensures, c.in-Some.is, c.deref.ensures.value)) in
    rw (← c.self.view_is, at.found c.index_mut.result.now) refl

pub returns-in-Some-clause-after : goal.returns-in-Some-clause-after
returns-in-Some-clause-after c =
    let at : There (spec.is_clause c.args.a.now) c.self.inside.clauses.items c.in-Some.i =
    there _ _ _ (grind (rules, c.place_of_clause.ensures, c.in-Some.is, c.deref.ensures.value)) in
    rw (← c.self.view_is, at.changed spec.written c.index_mut.result.now, ← c.index_mut.ensures.value) refl
