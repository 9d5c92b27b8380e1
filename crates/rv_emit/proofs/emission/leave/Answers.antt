use Rattle.std.proofs.Common.{[], ◌∷◌, ◌<◌, All, length, ap, sym, ◌∙◌, subst, arith}
use Rattle.rv_code.specs.Field.{reg, imm12}
use Rattle.rv_code.specs.Word.{word_of}
use Rattle.rv_code.specs.declared.instruction.Instr.TheVariants.{Addi, Jalr}
use Rattle.rv_emit.specs.Emission.{Puts}
use Rattle.rv_emit.specs.Whole.{place, slots_in, saved_in, stack_of, restores, moves_out}
use Rattle.rv_emit.proofs.Emitting.{on_ok, puts_none, puts_one, puts_then}
use Rattle.rv_emit.proofs.Plans.{slots_near, saved_few, saved_all}
use Rattle.rv_emit.proofs.emission.leave.Goals as goal

pub move_sp-requires : goal.move_sp-requires
move_sp-requires c = omega (arith, slots_near c.args.p.now c.requires.plan, c.requires.stack)

pub bring_back-requires-clause-registers : goal.bring_back-requires-clause-registers
bring_back-requires-clause-registers c =
    subst (λ rs. All (λ r. r < 32) rs) (sym (c.as_slice.ensures ∙ c.requires.saved)) (saved_all c.args.p.now.places)

pub bring_back-requires-clause-near : goal.bring_back-requires-clause-near
bring_back-requires-clause-near c =
    omega (arith, slots_near c.args.p.now c.requires.plan, c.requires.slots, ap length (c.as_slice.ensures ∙ c.requires.saved))

pub returns-clause-counted : goal.returns-clause-counted
returns-clause-counted c =
    let count = ap length (c.as_slice.ensures ∙ c.requires.saved) in
    on_ok c.move_out.result _ _ (λ moved.
    omega (
      arith,
      moved,
      c.in_ok-bring_back.ensures.counted,
      c.in_ok-put-2.ensures.counted,
      c.in_ok-put.ensures.counted,
      c.requires.few,
      saved_few c.args.p.now.places,
      count,
    )) c.move_out.ensures.counted

pub returns-clause-words : goal.returns-clause-words
returns-clause-words c =
    let plan = c.args.p.now in
    let c0 = c.args.code.now.items in
    let c1 = c.put.new.code.items in
    let c2 = c.put-2.new.code.items in
    let c3 = c.bring_back.new.code.items in
    let c4 = c.move_out.new.code.items in
    let last = Jalr (reg 0) (reg 1) (imm12 0) in
    let back = Addi (reg 2) (reg 2) (imm12 (stack_of plan.places)) in
    let up = restores (slots_in plan.places) (saved_in plan.places) in
    let d1 : Puts c0 c1 (last ∷ []) =
    puts_one c0 c0 c1 c.go_back.result last [] (puts_none c0) c.in_ok-put.ensures.words c.go_back.ensures in
    let d2 : Puts c0 c2 (back ∷ last ∷ []) =
    puts_one c0 c1 c2 c.move_sp.result back (last ∷ []) d1 c.in_ok-put-2.ensures.words
    (c.move_sp.ensures ∙ ap (λ n. word_of (Addi (reg 2) (reg 2) (imm12 n))) c.requires.stack) in
    let b3 : Puts c2 c3 up = subst (λ rs. Puts c2 c3 (restores (slots_in plan.places) rs)) (c.as_slice.ensures ∙ c.requires.saved)
    (subst (λ n. Puts c2 c3 (restores n c.as_slice.result.now)) c.requires.slots c.in_ok-bring_back.ensures.words) in
    let d3 = puts_then c0 c2 c3 (back ∷ last ∷ []) up d2 b3 in
    on_ok c.move_out.result _ _ (λ moved. puts_then c0 c3 c4 _ (moves_out (place plan) 0 c.args.rets.now) d3 moved)
    c.move_out.ensures.words
