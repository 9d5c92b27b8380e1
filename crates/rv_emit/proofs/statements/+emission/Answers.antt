use Rattle.std.proofs.Common.{arith, sym, subst, ◌∙◌, ◌≡◌, [], ◌∷◌, ◌++◌, ◌+◌, ◌-◌, length, map, slice_set, drop}
use Rattle.bed_syntax.specs.declared.weights.TheConstants as weights
use Rattle.flat_lang.specs.Count.{stmt_weight}
use Rattle.rv_emit.specs.Code.{register_of, from_slot, over, jump, jump_back, block_code}
use Rattle.rv_emit.specs.Emission.{Puts, offset_of}
use Rattle.rv_emit.specs.Fit.{fits}
use Rattle.rv_emit.specs.Whole.{place}
use Rattle.rv_code.specs.Word.{word_of}
use Rattle.rv_emit.proofs.Emitting.{on_ok, item_before, first_sum, more_true, block_step, if_puts, if_is, while_puts, loop_is}
use Rattle.rv_emit.proofs.statements.+emission.Goals as goal

pub block-loop-i-preserved : goal.block-loop-i-preserved
block-loop-i-preserved t c =
    let here = place c.args.plan.now in
    let offset = offset_of c.args.offsets.now in
    let cs = c.args.cs.now in
    let k = c.loop-i.i in
    let item = c.index-cs-i.result in
    let inv = c.loop-i.invariant in
    let some = c.loop-i-test.true in
    let c0 = c.args.code.now.items in
    let c1 = c.loop-i.code.items in
    let c2 = c.statement.new.code.items in
    let left = item_before cs k (k - 1) item some (omega arith) inv.within c.index-cs-i.is in
    let first = first_sum (stmt_weight weights.Weights.LARGE) cs (k - 1) item (drop k cs) left in
    record {
      words = subst (λ ds. Puts c0 c2 (block_code here offset ds (length c0))) (sym left)
          (block_step here offset c0 c1 c2 item (drop k cs) inv.words c.in_ok-statement.ensures.words);
      counted = omega (arith, c.in_ok-statement.ensures.counted, inv.counted, first);
      fit = more_true fits cs (k - 1) item (drop k cs) left c.in_ok-statement.ensures.fit inv.fit;
      within = omega (arith, inv.within);
      started = inv.started;
    }

pub statement-returns-in_ok-block-in-If-2-clause-words :
    goal.statement-returns-in_ok-block-in-If-2-clause-words
statement-returns-in_ok-block-in-If-2-clause-words t c =
    let here = place c.args.plan.now in
    let offset = offset_of c.args.offsets.now in
    let a = c.as_slice-in-If.result.now in
    let b = c.as_slice.result.now in
    let x = c.in-If.x in
    let c0 = c.args.code.now.items in
    let c1 = c.block.new.code.items in
    let c2 = c.leave.new.code.items in
    let c3 = c.block-in-If.new.code.items in
    let c4 = c.test.new.code.items in
    let whole = if_is here offset c.args.c.now x c.in-If.a c.in-If.b a b (length c0) c.in-If.is c.as_slice-in-If.ensures
    c.as_slice.ensures in
    let jumps = subst (λ n. Puts c1 c2 (jump (length c1 - n + 1) ∷ [])) (c.len-end.ensures ∙ c.args.code.now.ok.0)
    c.in_ok-leave-in-If.ensures.words in
    on_ok c.test.result _ _ (λ last. subst (λ code. Puts c0 c4 code) whole
    (if_puts (block_code here offset a) (block_code here offset b) (here x) c0 c1 c2 c3 c4 c.in_ok-block-in-If.ensures.words jumps
    c.in_ok-block-in-If-2.ensures.words
    (subst (λ n. Puts c3 c4 (from_slot 5 (here x) ++ over (register_of 5 (here x)) (length c3 - n)))
    (c.len-join.ensures ∙ c.block.new.code.ok.0) last))) c.test.ensures.words

pub statement-returns-in_ok-block-in-While-2-clause-words :
    goal.statement-returns-in_ok-block-in-While-2-clause-words
statement-returns-in_ok-block-in-While-2-clause-words t c =
    let here = place c.args.plan.now in
    let offset = offset_of c.args.offsets.now in
    let a = c.as_slice-in-While-2.result.now in
    let b = c.as_slice-in-While.result.now in
    let x = c.in-While.x in
    let c0 = c.args.code.now.items in
    let c1 = c.put.new.code.items in
    let c2 = c.block-in-While.new.code.items in
    let c3 = c.test-in-While.new.code.items in
    let c4 = c.block-in-While-2.new.code.items in
    let c5 = c.turn_back.new.code.items in
    let first = c.len-last.ensures ∙ c.args.code.now.ok.0 in
    let whole = loop_is here offset c.args.c.now x c.in-While.a c.in-While.b a b (length c0) c.in-While.is
    c.as_slice-in-While-2.ensures c.as_slice-in-While.ensures in
    let test = subst (λ n. Puts c2 c3 (from_slot 5 (here x) ++ over (register_of 5 (here x)) (length c2 - n))) first
    c.in_ok-test-in-While.ensures.words in
    let back = subst (λ n. map word_of c5 ≡ slice_set (map word_of c4) n (word_of (jump_back (length c4 - n - 1)))) first
    c.turn_back.ensures.words in
    subst (λ code. Puts c0 c5 code) whole
    (while_puts (block_code here offset a) (block_code here offset b) (here x) c.jump_back.result c0 c1 c2 c3 c4 c5
    c.in_ok-put-in-While.ensures.words c.in_ok-block-in-While.ensures.words test c.in_ok-block-in-While-2.ensures.words back)
