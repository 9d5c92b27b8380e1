-- The results go into a0 and a1, the frame is given back, and the code returns.
use Rattle.std.proofs.Common.{◌≡◌, ◌≢◌, ℕ, zero, suc, ◌+◌, ◌*◌, ◌%◌, ◌<◌, ◌≤◌, List, [], ◌∷◌, length, Option, Some, None, IsSome}
use Rattle.std.proofs.Common.{Ok, slice_get, refl, sym, ap, ◌∙◌, subst, arith}
use Rattle.std.specs.List.{AllByRecursion}
use Rattle.std.specs.FinMap.{get}
use Rattle.flat_lang.specs.State.{Vars}
use Rattle.reg_alloc.specs.declared.plan.At.{At}
use Rattle.reg_alloc.specs.declared.plan.At.TheVariants.{Reg as Register, Slot}
use Rattle.rv_code.specs.declared.instruction.Instr.{Instr}
use Rattle.rv_code.specs.Word.{word_of}
use Rattle.rv_machine.specs.Word.{plus}
use Rattle.rv_machine.specs.Fields.{extended}
use Rattle.rv_machine.specs.State.{State, register, with_register, number_at}
use Rattle.rv_memory.specs.Ranges.{Bytes}
use Rattle.rv_machine.specs.Effect.{effect}
use Rattle.rv_machine.specs.Step.{gives, step}
use Rattle.rv_memory.proofs.laws.Numbers.{number_at_agree, is_some-number_at}
use Rattle.rv_machine.proofs.laws.Registers.{length-with_register, register-with_register_other, register-with_register_same}
use Rattle.rv_machine.proofs.laws.Rows.{step_by}
use Rattle.rv_machine.proofs.laws.Runs.{Leads, stays, leads_on, leads_then}
use Rattle.rv_machine.proofs.laws.Table.{row_of}
use Rattle.rv_emit.specs.Code.{place_of, fetch}
use Rattle.rv_emit.specs.Whole.{moves_out}
use Rattle.rv_emit.proofs.Does.{loads_is, slot_offset, nothing_added}
use Rattle.rv_emit.proofs.Site.{Site, InCode, IsValid, Sound, Memory, Holds, Before}
use Rattle.rv_emit.proofs.Runs.{HasAll, set_reg, gives_is, same_in_image}

-- an instruction stands in the code
pub record Is (code : List Instr) (k : ℕ) (i : Instr) : Type 0 where
  pub stands : slice_get code k ≡ Some i
  pub inside : k < length code

module _ (l : Site) (m : State) (sound : Sound l m) (mem : Bytes) where
  -- the place of the next instruction, and the memory
  pub record Stood (k : ℕ) (s : State) : Type 0 where
    pub pc : s.pc ≡ l.start + 4 * k
    pub memory : Memory l m mem s.mem

  pub step_stood : (k : ℕ) (i : Instr) (s t : State) → Stood k s → Is l.code k i → effect i s ≡ Ok t → step s ≡ Ok t
  step_stood k i s t stood is does =
      let inside = is.inside in
      let aligned : s.pc % 4 ≡ 0 = omega (arith, stood.pc, sound.aligned) in
      let agree = number_at_agree 4 m.mem s.mem (l.start + 4 * k)
      (λ a low high. same_in_image l m sound mem s.mem a stood.memory (omega arith, omega arith)) in
      step_by s (word_of i) (Ok t) aligned (ap (number_at s.mem 4) stood.pc ∙ agree ∙ sound.stands k i is.stands)
      (row_of s i ∙ does)

  pub leads_stood : (n k : ℕ) (i : Instr) (s0 s t : State) → Leads (InCode l) s0 n s → Stood k s → Is l.code k i
      → effect i s ≡ Ok t → Leads (InCode l) s0 (suc n) t
  leads_stood n k i s0 s t before stood is does =
      let inside = is.inside in
      leads_on (InCode l) s0 n s t before (omega (arith, stood.pc), omega (arith, stood.pc)) (step_stood k i s t stood is does)

-- the body has ended at e, and some results are in their registers
pub record Late (l : Site) (m e : State) (k : ℕ) (s : State) : Type 0 where
  pub pc : s.pc ≡ l.start + 4 * k
  pub count : length s.regs ≡ 32
  pub mem : s.mem ≡ e.mem
  pub others : (r : ℕ) → r ≢ 10 → r ≢ 11 → register s.regs r ≡ register e.regs r

module _ (l : Site) (m : State) (sound : Sound l m) (mem : Bytes) (vars : Vars) (ke : ℕ) (e : State)
    (ended : Before l m mem vars ke e) (num : ℕ → ℕ) where
  pub stood_late : (k : ℕ) (s : State) → Late l m e k s → Stood l m sound mem k s
  stood_late k s late = record { pc = late.pc; memory = subst (λ b. Memory l m mem b) (sym late.mem) ended.memory }

  -- what a place gives
  record Given (s : State) (d x : ℕ) (p : At) : Type 0 where
    value : ℕ
    does : effect (fetch d p) s ≡ gives s d value
    is : (v : ℕ) → get vars x ≡ Some v → value ≡ v

  given_slot : (k : ℕ) (s : State) (d x j : ℕ) (o : Option ℕ) → d < 32 → Late l m e k s → j < l.slots → place_of x ≡ Slot j
      → number_at e.mem 4 (l.base + 4 * j) ≡ o → IsSome o → Given s d x (Slot j)
  given_slot k s d x j None small late below is found some = absurd (cc)
  given_slot k s d x j (Some v) small late below is found some =
      let same : d % 32 ≡ d = omega arith in
      let sp : register s.regs 2 ≡ l.base = late.others 2 (λ q. omega arith) (λ q. omega arith) ∙ ended.sp in
      let address : plus (register s.regs 2) (extended 2048 (4 * j % 4096))
      ≡ l.base + 4 * j = rw sp (slot_offset l.base j (omega (arith, sound.few, sound.fit))
      (omega (arith, sound.frame_ends, sound.fit))) in
      let there : number_at s.mem 4 (l.base + 4 * j) ≡ Some v = ap (λ b. number_at b 4 (l.base + 4 * j)) late.mem ∙ found in
      record {
        value = v;
        does = rw same (loads_is s d 4 _ (l.base + 4 * j) v address (omega (arith, sound.base_aligned)) there);
        is = λ w set. let h : Holds l e (Slot j) w = subst (λ p. Holds l e p w) is ((ended.held x w set).there) in cc;
      }

  given_at : (k : ℕ) (s : State) (d x : ℕ) (p : At) → d < 32 → Late l m e k s → IsValid l p → place_of x ≡ p → Given s d x p
  given_at k s d x (Slot j) small late below is =
      let mapped : IsSome (number_at e.mem 4 (l.base + 4 * j)) =
      is_some-number_at 4 e.mem (l.base + 4 * j)
      (λ q low high. ended.memory.stay q (sound.mapped q (omega arith, omega (arith, sound.fit)))) in
      given_slot k s d x j (number_at e.mem 4 (l.base + 4 * j)) small late below is refl mapped
  given_at k s d x (Register r) small late valid is =
      let from = sound.from r valid in
      let to = sound.to r valid in
      let same : d % 32 ≡ d = omega arith in
      let also : r % 32 ≡ r = omega arith in
      let kept = late.others r (λ q. let far = sound.not_argument r valid (omega arith) in omega arith)
      (λ q. let far = sound.not_argument r valid (omega arith) in omega arith) in
      record {
        value = plus (register s.regs r) (extended 2048 (0 % 4096));
        does = rw (same, also) refl;
        is = λ w set.
            let held = ended.held x w set in
            let h : Holds l e (Register r) w = subst (λ p. Holds l e p w) is held.there in
            let here : register s.regs r ≡ w = kept ∙ h in
            rw here (nothing_added w held.word);
      }

  -- the results from number q on are in their registers, and those before it still
  pub record Results (q : ℕ) (rets : List ℕ) (k n : ℕ) (s u : State) : Type 0 where
    pub run : Leads (InCode l) s n u
    pub late : Late l m e k u
    pub set : (p x v : ℕ) → slice_get rets p ≡ Some x → get vars (num x) ≡ Some v → register u.regs (10 + q + p) ≡ v
    pub earlier : (r : ℕ) → r < 10 + q → register u.regs r ≡ register s.regs r

  pub results_lead : (rets : List ℕ) (q k : ℕ) (s : State) → q + length rets ≤ 2
      → AllByRecursion (λ x. IsValid l (place_of (num x))) rets → Late l m e k s
      → HasAll l.code k (moves_out (λ x. place_of (num x)) q rets)
      → (u : State) × Results q rets (k + length rets) (length rets) s u
  results_lead [] q k s few known late has =
      let none : k ≡ k + 0 = omega arith in (
        s,
        record {
          run = stays (InCode l) s;
          late = subst (λ n. Late l m e n s) none late;
          set = λ p x v found is. absurd (cc);
          earlier = λ r below. refl;
        },
      )
  results_lead (x ∷ rets) q k s few known late has =
      let given = given_at k s (10 + q) (num x) (place_of (num x)) (omega arith) late known.0 refl in
      let first : State = set_reg s (10 + q) given.value in
      let next = has.0.next in
      let run = leads_stood l m sound mem 0 k (fetch (10 + q) (place_of (num x))) s s first (stays (InCode l) s)
      (stood_late k s late) (record { stands = has.0.stands; inside = omega arith })
      (given.does ∙ gives_is s (10 + q) given.value) in
      let then : Late l m e (k + 1) first = record {
        pc = omega (arith, late.pc, sound.ends);
        count = length-with_register s.regs (10 + q) given.value ∙ late.count;
        mem = late.mem;
        others = λ r a0 a1. register-with_register_other s.regs (10 + q) given.value r (λ same. omega arith)
            ∙ late.others r a0 a1;
      } in
      let rest = results_lead rets (q + 1) (k + 1) first (omega arith) known.1 then has.1 in
      let place : k + 1 + length rets ≡ k + suc (length rets) = omega arith in
      let here : register first.regs (10 + q)
      ≡ given.value = register-with_register_same s.regs (10 + q) given.value (omega arith) (omega (arith, late.count)) in
      let steps : 1 + length rets ≡ suc (length rets) = omega arith in (
        rest.0,
        record {
          run = subst (λ n. Leads (InCode l) s n rest.0) steps
              (leads_then (InCode l) s 1 first (length rets) rest.0 run rest.1.run);
          late = subst (λ n. Late l m e n rest.0) place rest.1.late;
          set = found rest.0 given.value here given.is rest.1.set (rest.1.earlier (10 + q) (omega arith));
          earlier = λ r below. rest.1.earlier r (omega arith)
              ∙ register-with_register_other s.regs (10 + q) given.value r (λ same. omega arith);
        },
      )
    where
      found : (u : State) (value : ℕ) → register (with_register s.regs (10 + q) value) (10 + q) ≡ value
          → ((v : ℕ) → get vars (num x) ≡ Some v → value ≡ v)
          → ((p y v : ℕ) → slice_get rets p ≡ Some y → get vars (num y) ≡ Some v → register u.regs (10 + (q + 1) + p) ≡ v)
          → register u.regs (10 + q) ≡ register (with_register s.regs (10 + q) value) (10 + q) → (p y v : ℕ)
          → slice_get (x ∷ rets) p ≡ Some y → get vars (num y) ≡ Some v → register u.regs (10 + q + p) ≡ v
      found u value here is later earlier zero y v at set =
          let same : x ≡ y = cc in
          let none : 10 + q + 0 ≡ 10 + q = omega arith in
          let value_is : value ≡ v = is v (subst (λ z. get vars (num z) ≡ Some v) (sym same) set) in
          rw none (earlier ∙ here ∙ value_is)
      found u value here is later earlier (suc p) y v at set =
          let same : 10 + q + suc p ≡ 10 + (q + 1) + p = omega arith in
          rw same (later p y v at set)
