use Rattle.std.proofs.Common.{arith, ◌≡◌, sym, ◌∙◌, ap, ◌+◌, ◌∷◌, drop}
use Rattle.std.proofs.lemmas.Grind.{common_steps}
use Rattle.model_syntax.specs.declared.stmt.Stmt.{out-Stmt, out-roll-Stmt}
use Rattle.model_syntax.specs.declared.stmt.Stmt.TheVariants.{rolls-Put, rolls-Move}
use Rattle.model_syntax.specs.declared.stmt.Stmt.TheOpen as s
use Rattle.derive_search.specs.Guide.{guided}
use Rattle.derive_search.proofs.Inside.{counted_on, narrow_on, if_opened, for_opened}
use Rattle.derive_search.proofs.statements.+statements.Goals as goal

pub statement-returns-in-Put-clause-found : goal.statement-returns-in-Put-clause-found
statement-returns-in-Put-clause-found g t c =
    let x = c.in-Put in
    let is : out-Stmt c.args.t.now ≡ s.Put x.a x.i x.v = ap out-Stmt x.is ∙ ap out-Stmt (sym (rolls-Put x.a x.i x.v))
    ∙ out-roll-Stmt (s.Put x.a x.i x.v) in
    rw is c.seek_put.ensures.found

pub statement-returns-in-Move-clause-found : goal.statement-returns-in-Move-clause-found
statement-returns-in-Move-clause-found g t c =
    let x = c.in-Move in
    let is : out-Stmt c.args.t.now ≡ s.Move x.b x.a x.i x.v = ap out-Stmt x.is ∙ ap out-Stmt (sym (rolls-Move x.b x.a x.i x.v))
    ∙ out-roll-Stmt (s.Move x.b x.a x.i x.v) in
    rw is c.seek_move.ensures.found

pub statement-returns-in-If-clause-found : goal.statement-returns-in-If-clause-found
statement-returns-in-If-clause-found g t c =
    let x = c.args in
    if_opened (guided g.B.Book.turn x.guide.now) x.deep x.at x.stmt x.t.now x.s.now c.seek_if.new.s c.seek_if.result
    c.as_slice-names.result.now c.as_slice-keep.result.now
    c.in-If.test c.in-If.names c.in-If.keep c.as_slice-first.result.now c.as_slice-second.result.now c.in-If.first c.in-If.second
    c.in-If.is
    c.as_slice-names.ensures c.as_slice-keep.ensures c.as_slice-first.ensures c.as_slice-second.ensures c.seek_if.ensures.found

pub statement-returns-in-For-clause-found : goal.statement-returns-in-For-clause-found
statement-returns-in-For-clause-found g t c =
    let x = c.args in
    for_opened (guided g.B.Book.turn x.guide.now) x.deep x.at x.stmt x.t.now x.s.now c.seek_for.new.s c.seek_for.result
    c.as_slice-names-in-For.result.now c.as_slice-keep-in-For.result.now
    c.in-For.x c.in-For.low c.in-For.high c.in-For.names c.in-For.keep c.as_slice-body.result.now c.in-For.body c.in-For.is
    c.as_slice-names-in-For.ensures c.as_slice-keep-in-For.ensures c.as_slice-body.ensures c.seek_for.ensures.found

pub seek_block-seek_stmt-requires : goal.seek_block-seek_stmt-requires
seek_block-seek_stmt-requires g t c κs inside =
    let i = c.loop-t.t-index in let ts = c.args.block.now in let x = c.t-item.result in
    let at : drop i ts ≡ x ∷ drop (i + 1) ts = grind (arith, common_steps, c.t-item.is, c.loop-t-test.true) in
    let one = counted_on x (drop i ts) (drop (i + 1) ts) at in
    let all = c.loop-t.invariant.counted in
    let step = c.decreases in (
      omega (arith, step, one, all),
      (inside, (c.loop-t.invariant.fewer, (narrow_on x (drop i ts) (drop (i + 1) ts) at c.loop-t.invariant.narrow).0)),
    )
