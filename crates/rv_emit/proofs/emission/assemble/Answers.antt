use Rattle.std.proofs.Common.{arith, ap, sym, ◌∙◌, ◌≡◌, ◌<◌, All, length, map, subst}
use Rattle.flat_lang.specs.Whole.{all_whole}
use Rattle.rv_code.specs.Word.{word_of}
use Rattle.rv_emit.specs.Tables.{offsets_from}
use Rattle.rv_emit.specs.Whole.{code_of}
use Rattle.rv_emit.proofs.Emitting.{turned_round}
use Rattle.rv_emit.proofs.Assembly.{length-offsets_from, assembled, code_some}
use Rattle.rv_emit.proofs.Started.{live_small, live_few}
use Rattle.rv_emit.proofs.emission.assemble.Goals as goal

pub block-requires-clause-whole : goal.block-requires-clause-whole
block-requires-clause-whole c =
    let f = c.args.f.now in
    let places = c.args.p.now.places in
    let offsets = c.as_slice-3.result.now in
    let count : length offsets ≡ length f.tables = ap length (c.as_slice-3.ensures ∙ c.in_ok-text.ensures.offsets)
    ∙ length-offsets_from c.as_slice.result.now 0 ∙ ap length c.as_slice.ensures in
    ap (all_whole (length places) (length offsets)) c.as_slice-4.ensures
    ∙ ap (λ n. all_whole n (length offsets) f.body) c.requires.places
    ∙ ap (λ n. all_whole f.vars n f.body) count
    ∙ c.requires.whole.body

pub enter-requires-clause-short : goal.enter-requires-clause-short
enter-requires-clause-short c =
    omega (arith, live_few c.args.f.now, c.requires.whole.args, ap length (c.as_slice-5.ensures ∙ c.in_ok-live.ensures 0))

pub enter-requires-clause-few : goal.enter-requires-clause-few
enter-requires-clause-few c = subst (λ xs. All (λ x. x < 8) xs) (sym (c.as_slice-5.ensures ∙ c.in_ok-live.ensures 0))
    (live_small c.args.f.now 8 c.requires.whole.args)

pub enter-requires-clause-known : goal.enter-requires-clause-known
enter-requires-clause-known c =
    subst (λ xs. All (λ x. x < length c.args.p.now.places) xs) (sym (c.as_slice-5.ensures ∙ c.in_ok-live.ensures 0))
    (live_small c.args.f.now (length c.args.p.now.places) (omega (arith, c.requires.whole.arguments, c.requires.places)))

pub returns-clause-code : goal.returns-clause-code
returns-clause-code c =
    let f = c.args.f.now in
    let plan = c.args.p.now in
    let whole = assembled f plan c.as_slice-3.result.now c.as_slice-5.result.now c.as_slice-4.result.now c.as_slice-2.result.now
    c.new-code.result.items c.leave.new.code.items c.block.new.code.items c.enter.new.code.items c.new-code.ensures.items
    (c.as_slice-3.ensures ∙ c.in_ok-text.ensures.offsets ∙ ap (offsets_from 0) c.as_slice.ensures)
    (c.as_slice-5.ensures ∙ c.in_ok-live.ensures 0) c.as_slice-4.ensures c.as_slice-2.ensures c.in_ok-leave.ensures.words
    c.in_ok-block.ensures.words c.in_ok-enter.ensures.words in
    ap (map word_of) (c.from_vec.ensures ∙ c.reverse.ensures.items) ∙ turned_round (code_of f plan) c.enter.new.code.items whole

pub returns-clause-some : goal.returns-clause-some
returns-clause-some c = code_some c.args.f.now c.args.p.now c.from_vec.result (returns-clause-code c)
