use Rattle.std.proofs.Common.{rules, refl}
use Rattle.sym_heap.specs.Context as spec
use Rattle.sym_heap.proofs.Firsts.{There, Nowhere, there, nowhere}
use Rattle.sym_heap.proofs.context.Ctx.set_scalar.Goals as goal

pub index_mut-requires : goal.index_mut-requires
index_mut-requires c =
    let at : There (spec.is_scalar c.args.x.now) c.self.inside.scalars.items c.in-Some.i =
    there _ _ _ (grind (rules, c.place_of_scalar-place.ensures, c.in-Some.is, c.deref.ensures.value)) in
    search (rules, at.inside)

pub returns-in-Some : goal.returns-in-Some
returns-in-Some c =
    let at : There (spec.is_scalar c.args.x.now) c.self.inside.scalars.items c.in-Some.i =
    there _ _ _ (grind (rules, c.place_of_scalar-place.ensures, c.in-Some.is, c.deref.ensures.value)) in
    rw (← c.self.view_is, at.put (spec.held c.args.x.now c.args.local c.args.form c.args.kind), c.in_ok-name.ensures) refl

pub returns-in_ok-push-in-None : goal.returns-in_ok-push-in-None
returns-in_ok-push-in-None c =
    let at : Nowhere (spec.is_scalar c.args.x.now) c.self.inside.scalars.items =
    nowhere _ _ (grind (rules, c.place_of_scalar-place.ensures, c.in-None.is, c.deref.ensures.value)) in
    rw (
      ← c.self.view_is,
      at.put (spec.held c.args.x.now c.args.local c.args.form c.args.kind),
      c.in_ok-push-in-None.ensures.items,
      c.in_ok-name.ensures,
    ) refl
