use Rattle.std.proofs.Common.{rules, refl, ◌∙◌, ◌+◌, length, map, arith}
use Rattle.expr_rules.specs.Words as words
use Rattle.expr_rules.specs.Row as expr
use Rattle.stmt_rules.specs.Row as spec
use Rattle.stmt_rules.proofs.Walks.{sizes_on, note_on, statement_on}
use Rattle.stmt_rules.proofs.Folded.{judged_row, judged_size, judged_counted}
use Rattle.stmt_rules.proofs.Forks.{two_sizes, sides_counted, left_is, second_stops, narrow_on}
use Rattle.stmt_rules.proofs.Looping.{loop_row, loop_counted}
use Rattle.stmt_rules.proofs.WithoutBlocks.{is_plain}
use Rattle.stmt_rules.proofs.instance.+judge.Goals as goal

pub branching-sides-requires : goal.branching-sides-requires
branching-sides-requires g t c κs within =
    let total = two_sizes (g.B.Book.turn c.args.book.now) c.args.blocks.now c.one-item.result c.two-item.result
    c.in-len2.len_at_least c.in-len2.len_below c.one-item.is c.two-item.is in
    let counted = c.in_ok-p.ensures.counted in
    let small = c.requires.small in
    let step = c.decreases in (
      omega (arith, step, total),
      (
        within,
        (
          omega (arith, total, counted, small),
          (
            rw c.as_slice-certs.ensures c.in_ok-two_for_each.ensures.many,
            (c.requires.facts, (c.requires.firsts, c.requires.seconds)),
          ),
        ),
      ),
    )

pub branching-returns-clause-counted : goal.branching-returns-clause-counted
branching-returns-clause-counted g t c =
    let total = two_sizes (g.B.Book.turn c.args.book.now) c.args.blocks.now c.one-item.result c.two-item.result
    c.in-len2.len_at_least c.in-len2.len_below c.one-item.is c.two-item.is in
    sides_counted c.sides.result c.sides.new.next c.one_kid.new.next c.args.next.now
    (words.sizes (map (expr.judged (g.B.Book.turn c.args.book.now)) c.args.kids.now))
    (spec.block_sizes (map (spec.block_judged (g.B.Book.turn c.args.book.now)) c.args.blocks.now))
    (spec.block_judged (g.B.Book.turn c.args.book.now) c.one-item.result).size
    (spec.block_judged (g.B.Book.turn c.args.book.now) c.two-item.result).size c.sides.ensures.counted c.in_ok-p.ensures.counted
    total

pub looping-returns-clause-row : goal.looping-returns-clause-row
looping-returns-clause-row g t c =
    loop_row (g.B.Book.turn c.args.book.now) c.args.blocks.now c.block-item.result c.in-len1.len_at_least c.in-len1.len_below
    c.block-item.is c.args.step.now
    (map (expr.judged (g.B.Book.turn c.args.book.now)) c.args.kids.now) c.args.at c.two_kids.new.next c.args.x.now c.args.low.now
    c.args.high.now c.args.names.now c.args.keep.now c.args.body.now
    c.args.ctx.now c.two_kids.new.ctx c.in_ok-k.k (c.in_ok-p.p, c.in_ok-p.q) c.turns.result c.turns.new.ctx
    c.in_ok-for_counts.ensures.row (search rules) c.in_ok-p.ensures.row
    (let counted = c.in_ok-p.ensures.counted in let numbered = c.requires.numbered in omega (arith, counted, numbered))
    (search rules)

pub looping-returns-clause-counted : goal.looping-returns-clause-counted
looping-returns-clause-counted g t c =
    loop_counted (g.B.Book.turn c.args.book.now) c.args.blocks.now c.block-item.result c.in-len1.len_at_least c.in-len1.len_below
    c.block-item.is c.turns.result c.turns.new.next c.two_kids.new.next c.args.next.now
    (words.sizes (map (expr.judged (g.B.Book.turn c.args.book.now)) c.args.kids.now)) c.turns.ensures.counted
    c.in_ok-p.ensures.counted

pub judge-parts-requires : goal.judge-parts-requires
judge-parts-requires g t c κs within =
    let size = judged_size (g.B.Book.turn c.args.book.now) c.args.node.now in
    let small = c.requires.small in
    let step = c.decreases in (
      rw c.as_slice-blocks.ensures (omega (arith, step, size)),
      (
        within,
        (
          refl,
          (
            rw (c.as_slice-kids.ensures, c.as_slice-blocks.ensures) (omega (arith, size, small)),
            c.requires.narrow,
          ),
        ),
      ),
    )

pub parts-parts-requires-clause-plain : goal.parts-parts-requires-clause-plain
parts-parts-requires-clause-plain g t c = is_plain c.args.s.now c.in_default.not-If c.in_default.not-For

pub judge-returns-clause-row : goal.judge-returns-clause-row
judge-returns-clause-row g t c =
    judged_row (g.B.Book.turn c.args.book.now) c.args.node.now c.args.next.now c.args.s.now c.args.ctx.now c.parts.result
    c.parts.new.ctx (search rules) (search rules)

pub judge-returns-clause-counted : goal.judge-returns-clause-counted
judge-returns-clause-counted g t c =
    judged_counted (g.B.Book.turn c.args.book.now) c.args.node.now c.args.next.now c.parts.new.next c.parts.result (search rules)

pub sides-side-requires : goal.sides-side-requires
sides-side-requires g t c κs within =
    let step = c.decreases in
    let small = c.requires.small in
    (omega (arith, step), (within, (omega (arith, small), (c.requires.facts, c.requires.firsts))))

pub sides-side-requires-2 : goal.sides-side-requires-2
sides-side-requires-2 g t c κs within =
    let step = c.decreases in
    let counted = c.in_ok-one.ensures.counted in
    let small = c.requires.small in
    (omega (arith, step), (within, (omega (arith, counted, small), (c.requires.facts, c.requires.seconds))))

pub sides-returns-in_err-two-clause-row : goal.sides-returns-in_err-two-clause-row
sides-returns-in_err-two-clause-row g t c =
    second_stops c.args.at c.args.names.now c.args.keep.now c.args.certs.now _ c.args.p
    ((spec.block_judged (g.B.Book.turn c.args.book.now) c.args.one.now).row c.args.next.now c.args.at 4 c.args.first.now)
    (λ n. (spec.block_judged (g.B.Book.turn c.args.book.now) c.args.two.now).row n c.args.at 5 c.args.second.now)
    c.count_of-place.result c.side.new.next
    (c.args.next.now + (spec.block_judged (g.B.Book.turn c.args.book.now) c.args.one.now).size) c.as_slice-no.result.now
    c.args.ctx.now c.side.new.ctx c.side-2.new.ctx c.side-2.new.ctx c.in_ok-one.one
    c.side-2.result c.from_residual-in_err-two.result (search rules) c.count_of-place.ensures
    (left_is (length c.args.keep.now) c.args.certs.now) c.as_slice-no.ensures c.in_ok-one.ensures.counted c.side-2.ensures.row
    (search rules) (search rules)

pub walk-judge-requires : goal.walk-judge-requires
walk-judge-requires g t c κs within =
    let sizes = sizes_on (g.B.Book.turn c.args.book.now) c.nodes.nodes.now c.node-item.result c.in-len1-up.len_at_least
    c.node-item.is in
    let whole = c.nodes.invariant.counted in
    let small = c.nodes.invariant.small in
    let behind = c.nodes.invariant.behind in
    let step = c.decreases in
    let narrow = narrow_on c.nodes.left.now c.s-item.result c.in-len1-up-left.len_at_least c.s-item.is c.nodes.invariant.narrow in
    (omega (arith, step, sizes, whole, behind), (within, (omega (arith, sizes, small), narrow.0)))

pub walk-nodes-preserved-in_ok-out : goal.walk-nodes-preserved-in_ok-out
walk-nodes-preserved-in_ok-out g t c =
    let on = note_on (g.B.Book.turn c.args.book.now) c.nodes.nodes.now c.node-item.result c.in-len1-up.len_at_least c.node-item.is
    c.args.owner c.args.cond c.nodes.left.now
    c.nodes.next c.nodes.out c.in_ok-given.given c.nodes.ctx c.noted.new.ctx (search rules) (search rules) in
    let sizes = sizes_on (g.B.Book.turn c.args.book.now) c.nodes.nodes.now c.node-item.result c.in-len1-up.len_at_least
    c.node-item.is in
    let counted = c.in_ok-given.ensures.counted in
    let whole = c.nodes.invariant.counted in
    let small = c.nodes.invariant.small in
    record {
      row = rw (c.in_ok-out.ensures, counted) (on ∙ c.nodes.invariant.row);
      counted = omega (arith, counted, sizes, whole);
      small = omega (arith, counted, sizes, small);
      behind = (let behind = c.nodes.invariant.behind in omega (arith, counted, behind));
      narrow = c.nodes.invariant.narrow;
    }

pub walk-nodes-preserved : goal.walk-nodes-preserved
walk-nodes-preserved g t c =
    let on = statement_on (g.B.Book.turn c.args.book.now) c.nodes.nodes.now c.node-item.result c.in-len1-up.len_at_least
    c.node-item.is c.args.owner c.args.cond c.nodes.left.now c.s-item.result
    c.nodes.next c.nodes.out c.in_ok-given-2.given c.nodes.ctx c.judge.new.ctx c.in-len1-up-left.len_at_least c.s-item.is
    (search rules) (search rules) in
    let sizes = sizes_on (g.B.Book.turn c.args.book.now) c.nodes.nodes.now c.node-item.result c.in-len1-up.len_at_least
    c.node-item.is in
    let counted = c.in_ok-given-2.ensures.counted in
    let whole = c.nodes.invariant.counted in
    let small = c.nodes.invariant.small in
    record {
      row = rw (c.in_ok-out-2.ensures, counted) (on ∙ c.nodes.invariant.row);
      counted = omega (arith, counted, sizes, whole);
      small = omega (arith, counted, sizes, small);
      behind = (let behind = c.nodes.invariant.behind in omega (arith, counted, behind));
      narrow = (narrow_on c.nodes.left.now c.s-item.result c.in-len1-up-left.len_at_least c.s-item.is c.nodes.invariant.narrow).1;
    }
