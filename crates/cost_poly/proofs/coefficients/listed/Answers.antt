use Rattle.std.proofs.Common.{◌≡◌, ◌∙◌, ◌++◌, [], ◌∷◌, if◌then◌else◌, sym, slice_index_or, arith}
use Rattle.cost_poly.specs.Polynomial.{can_follow, make}
use Rattle.cost_poly.proofs.Listed.{listed_none, listed_more}
use Rattle.cost_poly.proofs.coefficients.listed.Goals as goal

pub loop-place-init : goal.loop-place-init
loop-place-init c = record {
  terms = c.zero-terms.ensures
      ∙ sym (listed_none (λ place. slice_index_or c.args.numbers.now place 0));
  behind = rw c.zero-terms.ensures (omega arith);
}

pub loop-place-preserved : goal.loop-place-preserved
loop-place-preserved c =
    let a = c.symbols-first.result.0 in
    let b = c.symbols-first.result.1 in
    let more = listed_more (λ place. slice_index_or c.args.numbers.now place 0) c.loop-place.place c.loop-place.terms a b
    c.small.result c.loop-place.invariant.terms c.loop-place.invariant.behind
    c.symbols-first.ensures.kept c.symbols-first.ensures.place c.small.ensures
    (rw c.small.ensures (c.requires c.loop-place.place c.loop-place-test.true)) in
    let put : c.push.new.self ≡ (if can_follow c.loop-place.terms a b c.small.result then c.loop-place.terms
    ++ make a b c.small.result ∷ [] else c.loop-place.terms) =
    rw (← c.push.ensures.can) c.push.ensures.put in
    record { terms = put ∙ more.0; behind = rw put more.1 }
