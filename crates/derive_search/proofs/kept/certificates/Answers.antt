use Rattle.std.proofs.Common.{arith, ◌≡◌, ◌∙◌, sym, ap, subst, true, ◌+◌, List, ◌∷◌, drop, Option, Some}
use Rattle.std.proofs.lemmas.Grind.{common_steps}
use Rattle.model_syntax.specs.declared.stmt.Le.{Le}
use Rattle.side_certs.specs.declared.certificate.Cert.{Cert}
use Rattle.sym_heap.specs.Sides.{form_of, difference}
use Rattle.stmt_rules.specs.Narrow.{all_narrow}
use Rattle.derive_search.specs.Kept.{certificate_of, certificates, led, after_those}
use Rattle.derive_search.proofs.Shown.{narrow_left, led_on}
use Rattle.derive_search.proofs.kept.certificates.Goals as goal

pub loop-fact-preserved : goal.loop-fact-preserved
loop-fact-preserved c =
    let i = c.loop-fact.fact-index in
    let rs = c.args.facts.now in
    let r = c.fact-item.result in
    let x = c.args.ctx.now in
    let form = form_of c.args.forms.now in
    let done = c.loop-fact.certs in
    let rest = certificates x form (drop (i + 1) rs) in
    let at : drop i rs ≡ r ∷ drop (i + 1) rs = grind (arith, common_steps, c.fact-item.is, c.loop-fact-test.true) in
    let all : all_narrow (r ∷ drop (i + 1) rs)
    ≡ true = subst (λ (l : List Le). all_narrow l ≡ true) at c.loop-fact.invariant.narrow in
    let here : certificate_of x (difference form r) ≡ Some c.in-Some.cert = sym c.in_ok-cert.ensures ∙ c.in-Some.is in
    record {
      narrow = narrow_left r (drop (i + 1) rs) all;
      found =
          ap (λ (l : List Cert). after_those l rest) c.in_ok-push.ensures.appended
          ∙ led_on done c.in-Some.cert rest
          ∙ ap (λ (o : Option Cert). after_those done (led o rest)) (sym here)
          ∙ ap (λ (l : List Le). after_those done (certificates x form l)) (sym at)
          ∙ c.loop-fact.invariant.found;
    }
