use Rattle.std.proofs.Common.{rules, ◌≡◌, sym, ◌-◌, true, [], ◌∷◌, Some, is_some}
use Rattle.sym_heap.specs.Context.{own}
use Rattle.derive_search.specs.Guide.{guided}
use Rattle.lemma_files.specs.Lemmas.{most_steps}
use Rattle.derive_search.specs.Lemmas.{rewriting}
use Rattle.derive_search.specs.Rows.{element}
use Rattle.derive_search.specs.Expressions as spec
use Rattle.derive_search.proofs.Goals.{goal_again}
use Rattle.derive_search.proofs.Steps.{where_step}
use Rattle.derive_search.proofs.seek.+seek.Goals as goal

pub element-returns-clause-found : goal.element-returns-clause-found
element-returns-clause-found g t c =
    let x = c.args in
    let guide = guided g.B.Book.turn x.guide.now in
    let there : is_some (own x.s.now.ctx x.a.now) ≡ true = search rules in
    where_step (λ d. is_some (own d x.a.now)) (spec.stuck x.stmt x.e.now) (spec.seek guide x.deep x.stmt x.index.now)
    (λ p. spec.chosen (spec.stuck x.stmt x.e.now) (p.node ∷ []) (element x.at x.a.now p.out ∷ []))
    x.s.now c.seek.new.s c.in_ok-p.p c.element_row.result c.element_row.new.ctx there c.in_ok-p.ensures.found
    c.element_row.ensures

pub goal-returns-in-Some-clause-found : goal.goal-returns-in-Some-clause-found
goal-returns-in-Some-clause-found g t c =
    let x = c.args in
    let guide = guided g.B.Book.turn x.guide.now in
    let found : rewriting guide.turn (most_steps - x.above) x.e.now guide.lemmas ≡ Some c.in-Some.steps = search rules in
    let steps_are : c.as_slice-steps.result.now ≡ c.in-Some.steps = search rules in
    rw (goal_again guide x.deep x.stmt x.above x.e.now x.s.now c.if-deep-eq0.false, found, sym steps_are) c.by_steps.ensures.found
