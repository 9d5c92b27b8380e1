use Rattle.std.proofs.Common.{rules, ◌≡◌, ◌∙◌, ap, ◌+◌, ◌++◌, ◌≤◌, length, ℤ, pos, List, [], ◌∷◌, drop}
use Rattle.derive_search.specs.Trips.{terms_as_args}
use Rattle.derive_search.proofs.Trying.{args_on}
use Rattle.derive_search.proofs.trips.as_args.Goals as goal

pub terms-preserved : goal.terms-preserved
terms-preserved c =
    let k = c.terms.k in
    let ts = c.args.form.now.terms in
    let t = c.term_at-symbol.result in
    let one : c.push.new.self ≡ c.terms.args ++ pos t.0 ∷ [] = search rules in
    let two : c.push-in-terms.new.self ≡ c.push.new.self ++ t.1 ∷ [] = search rules in
    let inside : k + 1 ≤ length ts = search rules in
    let both : c.push-in-terms.new.self ≡ (c.terms.args ++ pos t.0 ∷ []) ++ t.1 ∷ [] =
    two ∙ ap (λ (l : List ℤ). l ++ t.1 ∷ []) one in
    record {
      inside = inside;
      rest =
          ap (λ (l : List ℤ). l ++ terms_as_args (drop (k + 1) ts)) both
          ∙ args_on c.terms.args ts k t c.term_at-symbol.ensures
          ∙ c.terms.invariant.rest;
    }
