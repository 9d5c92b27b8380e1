use Rattle.std.proofs.Common.{arith, ◌≡◌, ◌∙◌, sym, ap, subst, ◌+◌, map, ◌∷◌, List, drop}
use Rattle.std.proofs.lemmas.Grind.{common_steps}
use Rattle.model_syntax.specs.declared.stmt.Le.{Le}
use Rattle.sym_heap.specs.Context.{with_fact}
use Rattle.sym_heap.specs.Sides.{form_in, difference, AllFormed}
use Rattle.sym_heap.specs.Start.{with_facts}
use Rattle.sym_heap.proofs.Starting.{one_before}
use Rattle.sym_heap.proofs.context.Ctx.require.Goals as goal

pub loop-requirement-preserved : goal.loop-requirement-preserved
loop-requirement-preserved c =
    let i = c.loop-requirement.requirement-index in
    let rs = c.args.requirements.now in
    let r = c.requirement-item.result in
    let form = form_in c.args.self.now.scalars in
    let at : drop i rs ≡ r ∷ drop (i + 1) rs = grind (arith, common_steps, c.requirement-item.is, c.loop-requirement-test.true) in
    let formed : AllFormed form (r ∷ drop (i + 1) rs) =
    subst (λ (l : List Le). AllFormed form l) at c.loop-requirement.invariant.formed in
    let same : form_in c.scalars.result.now ≡ form = ap form_in (c.scalars.ensures ∙ c.loop-requirement.invariant.scalars) in
    let made : c.requirement-form.result ≡ difference form r = c.requirement-form.ensures ∙ ap (λ F. difference F r) same in
    let put : c.put_fact.new.self ≡ with_fact (difference form r) c.loop-requirement.self =
    c.in_ok-put_fact.ensures ∙ ap (λ f. with_fact f c.loop-requirement.self) made in
    record {
      formed = formed.1;
      scalars = rw put c.loop-requirement.invariant.scalars;
      rest = rw put (one_before (difference form r) (map (difference form) (drop (i + 1) rs)) c.loop-requirement.self
          ∙ ap (λ (l : List Le). with_facts (map (difference form) l) c.loop-requirement.self) (sym at)
          ∙ c.loop-requirement.invariant.rest);
    }
