use Rattle.std.proofs.Common.{◌++◌, ◌-◌, ◌<◌, All, length, ap, sym, ◌∙◌, subst, arith}
use Rattle.rv_code.specs.Field.{reg, imm12}
use Rattle.rv_code.specs.Word.{word_of}
use Rattle.rv_code.specs.declared.instruction.Instr.TheVariants.{Addi}
use Rattle.rv_emit.specs.Emission.{Puts}
use Rattle.rv_emit.specs.Whole.{place, slots_in, saved_in, stack_of, saves, moves_in}
use Rattle.rv_emit.proofs.Emitting.{on_ok, puts_one, puts_then, sp_word}
use Rattle.rv_emit.proofs.Plans.{slots_near, saved_few, saved_all}
use Rattle.rv_emit.proofs.emission.enter.Goals as goal

pub keep-requires-clause-registers : goal.keep-requires-clause-registers
keep-requires-clause-registers c =
    subst (λ rs. All (λ r. r < 32) rs) (sym (c.as_slice.ensures ∙ c.requires.saved)) (saved_all c.args.p.now.places)

pub keep-requires-clause-near : goal.keep-requires-clause-near
keep-requires-clause-near c = omega
    (arith, slots_near c.args.p.now c.requires.plan, c.requires.slots, ap length (c.as_slice.ensures ∙ c.requires.saved))

pub overflow_sub-frame : goal.overflow_sub-frame
overflow_sub-frame c = omega (arith, slots_near c.args.p.now c.requires.plan, c.requires.stack)

pub returns-clause-counted : goal.returns-clause-counted
returns-clause-counted c =
    let count = ap length (c.as_slice.ensures ∙ c.requires.saved) in
    on_ok c.put.result _ _ (λ last.
    omega (
      arith,
      last,
      c.in_ok-keep.ensures.counted,
      c.in_ok-move_in.ensures.counted,
      c.requires.short,
      saved_few
          c.args.p.now.places,
      count,
    )) c.put.ensures.counted

pub returns-clause-words : goal.returns-clause-words
returns-clause-words c =
    let plan = c.args.p.now in
    let c0 = c.args.code.now.items in
    let c1 = c.move_in.new.code.items in
    let c2 = c.keep.new.code.items in
    let c3 = c.put.new.code.items in
    let first = Addi (reg 2) (reg 2) (imm12 (4096 - stack_of plan.places)) in
    let down = saves (slots_in plan.places) (saved_in plan.places) in
    let ins = moves_in (place plan) c.args.live.now in
    let b2 : Puts c1 c2 down = subst (λ rs. Puts c1 c2 (saves (slots_in plan.places) rs)) (c.as_slice.ensures ∙ c.requires.saved)
    (subst (λ n. Puts c1 c2 (saves n c.as_slice.result.now)) c.requires.slots c.in_ok-keep.ensures.words) in
    let d2 : Puts c0 c2 (down ++ ins) = puts_then c0 c1 c2 ins down c.in_ok-move_in.ensures.words b2 in
    let is = c.move_sp.ensures ∙ sp_word (4096 - c.args.frame.now.stack)
    ∙ ap (λ n. word_of (Addi (reg 2) (reg 2) (imm12 (4096 - n)))) c.requires.stack in
    on_ok c.put.result _ _ (λ last. puts_one c0 c2 c3 c.move_sp.result first (down ++ ins) d2 last is) c.put.ensures.words
