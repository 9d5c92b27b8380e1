use Rattle.std.proofs.Common.{◌≡◌, ◌<◌, sym, ap, ◌∙◌, ◌++◌, ◌∷◌, [], arith, true, List}
use Rattle.std.proofs.lemmas.List.{take_more_set}
use Rattle.cost_poly.specs.declared.term.Term.{Term}
use Rattle.cost_poly.specs.Polynomial.{are_symbols, make}
use Rattle.cost_poly.proofs.laws.Places.{has_room, pushed_bound}
use Rattle.cost_poly.proofs.poly.Poly.push.Goals as goal

pub bounds-self-inside-self-inside : goal.bounds-self-inside-self-inside
bounds-self-inside-self-inside c =
    let are : are_symbols c.args.a c.args.b ≡ true = sym c.are_symbols.ensures ∙ c.if-not-are_symbols.false in
    has_room c.self.inside.slots c.self.inside.count c.self.inside.next c.args.a c.args.b (omega arith) c.self.invariant.0
    c.self.invariant.1 c.self.invariant.2 are (omega (arith, c.place-place.ensures, c.if-place-self.false))

pub invariant_of-self : goal.invariant_of-self
invariant_of-self c =
    let are : are_symbols c.args.a c.args.b ≡ true = sym c.are_symbols.ensures ∙ c.if-not-are_symbols.false in
    let room : c.self.inside.count < 45 =
    has_room c.self.inside.slots c.self.inside.count c.self.inside.next c.args.a c.args.b (omega arith) c.self.invariant.0
    c.self.invariant.1 c.self.invariant.2 are (omega (arith, c.place-place.ensures, c.if-place-self.false)) in
    pushed_bound c.self.inside.slots c.self.inside.count c.self.inside.next c.place-place.result (make c.args.a c.args.b c.args.c)
    (omega arith) room c.self.invariant.1 c.self.invariant.2 are c.place-place.ensures (omega arith) (omega arith)
    (omega arith)

pub returns-clause-put : goal.returns-clause-put
returns-clause-put c =
    let are : are_symbols c.args.a c.args.b ≡ true = sym c.are_symbols.ensures ∙ c.if-not-are_symbols.false in
    let room : c.self.inside.count < 45 =
    has_room c.self.inside.slots c.self.inside.count c.self.inside.next c.args.a c.args.b (omega arith) c.self.invariant.0
    c.self.invariant.1 c.self.invariant.2 are (omega (arith, c.place-place.ensures, c.if-place-self.false)) in
    take_more_set c.self.inside.slots c.self.inside.count (make c.args.a c.args.b c.args.c) (omega arith)
    ∙ ap (λ (ts : List Term). ts ++ make c.args.a c.args.b c.args.c ∷ []) c.self.view_is
