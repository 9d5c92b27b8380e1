-- The frame is given back, and the code returns.
use Rattle.std.proofs.Common.{◌≡◌, ◌≢◌, ℕ, ◌+◌, ◌*◌, ◌/◌, ◌%◌, ◌^◌, ◌<◌, List, [], ◌∷◌, ◌++◌, length, Ok, Some, slice_get, refl}
use Rattle.std.proofs.Common.{sym, ap, ◌∙◌, subst, arith, append_assoc, length-append}
use Rattle.rv_code.specs.Field.{reg, imm12}
use Rattle.rv_code.specs.declared.instruction.Instr.{Instr}
use Rattle.rv_code.specs.declared.instruction.Instr.TheVariants.{Addi, Jalr}
use Rattle.rv_machine.specs.Word.{plus}
use Rattle.rv_machine.specs.Fields.{extended}
use Rattle.rv_machine.specs.State.{State, register}
use Rattle.rv_memory.specs.Ranges.{Bytes}
use Rattle.rv_machine.specs.Effect.{effect}
use Rattle.rv_machine.specs.Step.{jumps}
use Rattle.rv_machine.proofs.laws.Registers.{register-with_register_other, register-with_register_same}
use Rattle.rv_machine.proofs.laws.Runs.{Leads, stays}
use Rattle.rv_emit.proofs.Does.{extended_small, nothing_added}
use Rattle.rv_emit.proofs.Site.{Site, InCode, Sound, Memory}
use Rattle.rv_emit.proofs.Runs.{HasAll, set_reg, gives_is}
use Rattle.rv_emit.proofs.Jumps.{at_pc}
use Rattle.rv_emit.proofs.Exit.{Is, Stood, leads_stood}
use Rattle.rv_emit.proofs.Restoring.{Ending}

-- code that is another's end but for the last instruction
placed_at : (pre : List Instr) (i : Instr) (rest : List Instr) → slice_get (pre ++ i ∷ rest) (length pre) ≡ Some i
placed_at [] i rest = refl
placed_at (p ∷ pre) i rest = placed_at pre i rest

pub has_all : (code pre ws : List Instr) (last : Instr) (post : List Instr) → code ≡ pre ++ (ws ++ last ∷ post)
    → HasAll code (length pre) ws
has_all code pre [] last post is = tt
has_all code pre (i ∷ ws) last post is =
    let first = length-append pre (i ∷ (ws ++ last ∷ post)) in
    let second = length-append ws (last ∷ post) in
    let size : length code ≡ length (pre ++ (i ∷ (ws ++ last ∷ post))) = ap length is in
    let regrouped : code ≡ (pre ++ i ∷ []) ++ (ws ++ last ∷ post) = is ∙ sym (append_assoc pre (i ∷ []) (ws ++ last ∷ post)) in
    let next : length (pre ++ i ∷ []) ≡ length pre + 1 = length-append pre (i ∷ []) in (
      record { stands = ap (λ c. slice_get c (length pre)) is ∙ placed_at pre i (ws ++ last ∷ post); next = omega arith },
      subst
          (λ n. HasAll code n ws) next (has_all code (pre ++ i ∷ []) ws last post regrouped),
    )

pub is_last : (code pre : List Instr) (last : Instr) → code ≡ pre ++ last ∷ [] → Is code (length pre) last
is_last code pre last is =
    let size = length-append pre (last ∷ []) in
    let all : length code ≡ length (pre ++ last ∷ []) = ap length is in
    record { stands = ap (λ c. slice_get c (length pre)) is ∙ placed_at pre last []; inside = omega arith }

jumps_away : (s : State) (a b : ℕ) → a ≡ b → b % 4 ≡ 0 → jumps s 0 a ≡ Ok (at_pc s b)
unfolding jumps
jumps_away s a b same aligned = rw (same, aligned)

-- the state when the code has returned, where the body ended at e
pub record Left (l : Site) (e s : State) (sp ra n : ℕ) (u : State) : Type 0 where
  pub run : Leads (InCode l) s n u
  pub pc : u.pc ≡ ra
  pub sp_is : register u.regs 2 ≡ sp
  pub mem : u.mem ≡ e.mem
  pub others : (r : ℕ) → r ≢ 2 → register u.regs r ≡ register s.regs r

module _ (l : Site) (m : State) (sound : Sound l m) (mem : Bytes) (e : State) (memory : Memory l m mem e.mem) where
  pub leaves : (k stack sp ra : ℕ) (s : State) → Ending l e k s → Is l.code k (Addi (reg 2) (reg 2) (imm12 stack))
      → Is l.code (k + 1) (Jalr (reg 0) (reg 1) (imm12 0)) → l.base + stack ≡ sp → stack < 2048 → sp < 2 ^ 32
      → register s.regs 1 ≡ ra → ra % 4 ≡ 0 → ra < 2 ^ 32 → (u : State) × Left l e s sp ra 2 u
  leaves k stack sp ra s ending gives_back returns whole small fits goes_to aligned word =
      let low : stack % 4096 ≡ stack = omega arith in
      let sum : plus (register s.regs 2) (extended 2048 (stack % 4096))
      ≡ sp = rw (ending.sp, low, extended_small stack small) (omega arith) in
      let t : State = set_reg s 2 sp in
      let first_does : effect (Addi (reg 2) (reg 2) (imm12 stack)) s ≡ Ok t = rw sum (gives_is s 2 sp) in
      let inside = returns.inside in
      let first = leads_stood l m sound mem 0 k (Addi (reg 2) (reg 2) (imm12 stack)) s s t (stays (InCode l) s)
      (record { pc = ending.pc; memory = subst (λ b. Memory l m mem b) (sym ending.mem) memory }) gives_back first_does in
      let then : Stood l m sound mem (k + 1) t =
      record { pc = omega (arith, ending.pc, sound.ends); memory = subst (λ b. Memory l m mem b) (sym ending.mem) memory }
      in
      let ra_is : register t.regs 1 ≡ ra = register-with_register_other s.regs 2 sp 1 (λ q. omega arith) ∙ goes_to in
      let target : plus (register t.regs 1) (extended 2048 (0 % 4096)) / 2 * 2
      ≡ ra = rw (ra_is, nothing_added ra word) (omega arith) in
      let second = leads_stood l m sound mem 1 (k + 1) (Jalr (reg 0) (reg 1) (imm12 0)) s t (at_pc t ra) first
      then returns (jumps_away t _ ra target aligned) in (
        at_pc t ra,
        record {
          run = second;
          pc = refl;
          sp_is = register-with_register_same s.regs 2 sp (omega arith) (omega (arith, ending.count));
          mem = ending.mem;
          others = λ r other. register-with_register_other s.regs 2 sp r other;
        },
      )
