-- A term that can follow is put behind the others.
use Rattle.std.proofs.Common.{◌≡◌, true, List, [], ◌∷◌, ◌++◌, Option, Some, refl, sym, ◌∙◌}
use Rattle.cost_poly.specs.declared.term.Term.{Term}
use Rattle.cost_poly.specs.Polynomial.{can_follow, with_term}

pub followed : (ts : List Term) (t : Term) (o : Option (List Term)) (new : List Term)
    → can_follow ts t.first t.second t.coefficient ≡ true → o ≡ with_term ts t.first t.second t.coefficient → o ≡ Some new
    → new ≡ ts ++ t ∷ []
followed ts t o new can is new_is =
    let made : with_term ts t.first t.second t.coefficient ≡ Some (ts ++ t ∷ []) = rw can refl in
    let same : Some new ≡ Some (ts ++ t ∷ []) = sym new_is ∙ is ∙ made in
    cc
