use Rattle.std.proofs.Common.{rules, refl}
use Rattle.sym_heap.specs.Context as spec
use Rattle.sym_heap.proofs.Firsts.{There, Nowhere, there, nowhere}
use Rattle.sym_heap.proofs.context.Ctx.rename.Goals as goal

pub index_mut-requires : goal.index_mut-requires
index_mut-requires c =
    let at : There (spec.is_clause c.args.a.now) c.self.inside.clauses.items c.in-Some.i =
    there _ _ _ (grind (rules, c.place_of_clause.ensures, c.in-Some.is, c.deref.ensures.value)) in
    search (rules, at.inside)

pub returns-in-Some : goal.returns-in-Some
returns-in-Some c =
    let at : There (spec.is_clause c.args.a.now) c.self.inside.clauses.items c.in-Some.i =
    there _ _ _ (grind (rules, c.place_of_clause.ensures, c.in-Some.is, c.deref.ensures.value)) in
    rw (
      ← c.self.view_is,
      at.changed (spec.renamed c.args.b.now) c.index_mut.result.now,
      ← c.index_mut.ensures.value,
      c.in_ok-name.ensures,
    ) refl

pub returns-in_default : goal.returns-in_default
returns-in_default c =
    let at : Nowhere (spec.is_clause c.args.a.now) c.self.inside.clauses.items =
    nowhere _ _ (grind (rules, c.place_of_clause.ensures, c.in_default.is, c.deref.ensures.value)) in
    rw (← c.self.view_is, at.unchanged (spec.renamed c.args.b.now)) refl
