-- How instructions run, one after another, from a state that stands before them.
use Rattle.std.proofs.Common.{◌≡◌, ◌≢◌, ℕ, zero, suc, ◌+◌, ◌*◌, ◌%◌, ◌<◌, ◌≤◌, List, [], ◌∷◌, ◌++◌, length, Option, Some, None}
use Rattle.std.proofs.Common.{Result, Ok, Err, slice_get, refl, ap, ◌∙◌, subst, arith}
use Rattle.std.specs.FinMap.{get}
use Rattle.bed_meaning.specs.State.{spend}
use Rattle.bed_meaning.specs.Fuelled.{and_then, given, take_one, fuelled}
use Rattle.bed_meaning.specs.declared.halt.Halt.{Halt}
use Rattle.flat_lang.specs.State.{Vars, with_var}
use Rattle.flat_lang.specs.State as flat
use Rattle.flat_lang.specs.Meaning.{Rule}
use Rattle.reg_alloc.specs.declared.plan.At.{At}
use Rattle.reg_alloc.specs.declared.plan.At.TheVariants.{Reg as Register, Slot}
use Rattle.rv_code.specs.declared.instruction.Instr.{Instr}
use Rattle.rv_code.specs.Word.{word_of}
use Rattle.rv_machine.specs.Word.{plus}
use Rattle.rv_machine.specs.State.{State, register, with_register, number_at}
use Rattle.rv_memory.specs.Ranges.{Bytes}
use Rattle.rv_machine.specs.Effect.{effect}
use Rattle.rv_machine.specs.Step.{Answer, gives, step}
use Rattle.rv_memory.proofs.laws.Numbers.{number_at_agree}
use Rattle.rv_machine.proofs.laws.Registers.{length-with_register, register-with_register_other, register-with_register_same}
use Rattle.rv_machine.proofs.laws.Rows.{step_by}
use Rattle.rv_machine.proofs.laws.Runs.{Leads, stays, leads_on, leads_then}
use Rattle.rv_machine.proofs.laws.Table.{row_of}
use Rattle.rv_emit.specs.Code.{place_of}
use Rattle.rv_emit.proofs.Site.{Site, InImage, InCode, Sound, Memory, Holds, IsValid, Before}

-- an instruction stands in the code, and another behind it
pub record Has (code : List Instr) (k : ℕ) (i : Instr) : Type 0 where
  pub stands : slice_get code k ≡ Some i
  pub next : k + 1 < length code

abbrev pub HasAll : List Instr → ℕ → List Instr → Type 0
HasAll code k [] = Unit {0}
HasAll code k (i ∷ rest) = Has code k i × HasAll code (k + 1) rest

pub has_front : (code : List Instr) (k : ℕ) (a b : List Instr) → HasAll code k (a ++ b) → HasAll code k a
has_front code k [] b has = tt
has_front code k (i ∷ a) b has = (has.0, has_front code (k + 1) a b has.1)

pub has_back : (code : List Instr) (k : ℕ) (a b : List Instr) → HasAll code k (a ++ b) → HasAll code (k + length a) b
has_back code k [] b has = let none : k ≡ k + 0 = omega arith in subst (λ n. HasAll code n b) none has
has_back code k (i ∷ a) b has =
    let same : k + 1 + length a ≡ k + suc (length a) = omega arith in
    subst (λ n. HasAll code n b) same (has_back code (k + 1) a b has.1)

-- a step set one register
pub record IsSet (s u : State) (d v : ℕ) : Type 0 where
  pub value : register u.regs d ≡ v
  pub others : (q : ℕ) → q ≢ d → register u.regs q ≡ register s.regs q
  pub mem : u.mem ≡ s.mem

abbrev pub set_reg : State → ℕ → ℕ → State
set_reg s d v = record { regs = with_register s.regs d v; pc = plus s.pc 4; mem = s.mem }

pub gives_is : (s : State) (d v : ℕ) → gives s d v ≡ Ok (set_reg s d v)
unfolding gives
gives_is s d v = refl

module _ (l : Site) (m : State) (sound : Sound l m) where
  -- the run comes to an end of the meaning, where there is one: `t` ticks were spent before the state s
  abbrev pub Reaches : ℕ → ℕ → State → Result flat.State Halt → Type 0
  Reaches t k s (Ok f) = (n : ℕ) × (u : State) × (t + n ≤ f.ticks) × Leads (InCode l) s n u × Before l m f.mem f.vars k u
  Reaches t k s (Err h) = Unit {0}

  pub same_in_image : (mem real : Bytes) (a : ℕ) → Memory l m mem real → InImage l a → get real a ≡ get m.mem a
  same_in_image mem real a memory inside = by_byte (get mem a) refl
    where
      by_byte : (o : Option ℕ) → get mem a ≡ o → get real a ≡ get m.mem a
      by_byte None is = memory.others a (λ slot. sound.apart a inside (slot.0, omega (arith, slot.1, sound.fit))) is
      by_byte (Some b) is = absurd (memory.off_image a (cc) inside)

  -- the code still stands
  code_at : (mem : Bytes) (vars : Vars) (k : ℕ) (i : Instr) (s : State) → Before l m mem vars k s → Has l.code k i
      → number_at s.mem 4 s.pc ≡ Some (word_of i)
  code_at mem vars k i s before has =
      let next = has.next in
      let agree = number_at_agree 4 m.mem s.mem (l.start + 4 * k)
      (λ a low high. same_in_image mem s.mem a before.memory (omega arith, omega arith)) in
      ap (number_at s.mem 4) before.pc ∙ agree ∙ sound.stands k i has.stands

  pub step_at : (mem : Bytes) (vars : Vars) (k : ℕ) (i : Instr) (s : State) (answer : Answer) → Before l m mem vars k s
      → Has l.code k i → effect i s ≡ answer → step s ≡ answer
  step_at mem vars k i s answer before has does =
      let aligned : s.pc % 4 ≡ 0 = omega (arith, before.pc, sound.aligned) in
      step_by s (word_of i) answer aligned (code_at mem vars k i s before has) (row_of s i ∙ does)

  -- one step, and the run behind it
  pub step_reach : (t k2 : ℕ) (mem : Bytes) (vars : Vars) (k : ℕ) (i : Instr) (s u : State) (r : Result flat.State Halt)
      → Before l m mem vars k s → Has l.code k i → effect i s ≡ Ok u → Reaches (t + 1) k2 u r → Reaches t k2 s r
  step_reach t k2 mem vars k i s u (Err h) before has does on = tt
  step_reach t k2 mem vars k i s u (Ok f) before has does on =
      let next = has.next in
      let here : InCode l s.pc = (omega (arith, before.pc), omega (arith, before.pc)) in
      let first = leads_on (InCode l) s 0 s u (stays (InCode l) s) here (step_at mem vars k i s (Ok u) before has does) in
      (1 + on.0, on.1, omega (arith, on.2), leads_then (InCode l) s 1 u on.0 on.1 first on.3, on.4)

  pub next_pc : (mem : Bytes) (vars : Vars) (k : ℕ) (i : Instr) (s : State) → Before l m mem vars k s → Has l.code k i
      → plus s.pc 4 ≡ l.start + 4 * (k + 1)
  next_pc mem vars k i s before has = let next = has.next in omega (arith, before.pc, sound.ends)

  -- a temporary register is set
  holds_set : (s : State) (d v w : ℕ) (p : At) → 5 ≤ d → d ≤ 7 → IsValid l p → Holds l s p w → Holds l (set_reg s d v) p w
  holds_set s d v w (Slot j) low high valid there = there
  holds_set s d v w (Register r) low high valid there =
      register-with_register_other s.regs d v r (λ e. omega (arith, sound.from r valid)) ∙ there

  pub before_set : (mem : Bytes) (vars : Vars) (k : ℕ) (i : Instr) (s : State) (d v : ℕ) → 5 ≤ d → d ≤ 7 → Before l m mem vars k s
      → Has l.code k i → Before l m mem vars (k + 1) (set_reg s d v)
  before_set mem vars k i s d v low high before has =
      record {
        pc = next_pc mem vars k i s before has;
        count = length-with_register s.regs d v ∙ before.count;
        sp = register-with_register_other s.regs d v 2 (λ e. omega arith) ∙ before.sp;
        kept = λ r free. register-with_register_other s.regs d v r (λ e. omega (arith, free.not_temporary)) ∙ before.kept r free;
        held = λ x w found. let h = before.held x w found in
            record { valid = h.valid; word = h.word; there = holds_set s d v w (place_of x) low high h.valid h.there };
        memory = before.memory;
      }

  pub set_reach : (t k2 : ℕ) (mem : Bytes) (vars : Vars) (k : ℕ) (i : Instr) (s : State) (d v : ℕ) (r : Result flat.State Halt)
      → 5 ≤ d → d ≤ 7 → Before l m mem vars k s → Has l.code k i → effect i s ≡ gives s d v
      → ((u : State) → Before l m mem vars (k + 1) u → IsSet s u d v → Reaches (t + 1) k2 u r) → Reaches t k2 s r
  set_reach t k2 mem vars k i s d v r low high before has does on =
      let is : IsSet s (set_reg s d v) d v =
      record {
        value = register-with_register_same s.regs d v (omega arith) (omega (arith, before.count));
        others = λ q other. register-with_register_other s.regs d v q other;
        mem = refl;
      } in
      step_reach t k2 mem vars k i s (set_reg s d v) r before has (does ∙ gives_is s d v)
      (on (set_reg s d v) (before_set mem vars k i s d v low high before has) is)

  -- the run is where it should be
  pub ends_at : (t k : ℕ) (s : State) (f : flat.State) → t ≤ f.ticks → Before l m f.mem f.vars k s → Reaches t k s (Ok f)
  ends_at t k s f in_time before = (0, s, omega arith, stays (InCode l) s, before)

  pub at_place : (t k k2 : ℕ) (s : State) (r : Result flat.State Halt) → k ≡ k2 → Reaches t k s r → Reaches t k2 s r
  at_place t k k2 s r same reach = subst (λ n. Reaches t n s r) same reach

  -- a later end
  pub later : (t t1 k : ℕ) (s : State) (r : Result flat.State Halt) → t ≤ t1 → Reaches t1 k s r → Reaches t k s r
  later t t1 k s (Err h) less reach = tt
  later t t1 k s (Ok f) less reach = (reach.0, reach.1, omega (arith, reach.2), reach.3, reach.4)

  -- a run, and the run from where it ends
  pub then_reach : (t k1 k2 : ℕ) (s : State) (r : Result flat.State Halt) (next : Rule) → Reaches t k1 s r
      → ((f : flat.State) (u : State) → Before l m f.mem f.vars k1 u → Reaches f.ticks k2 u (next f))
      → Reaches t k2 s (and_then r next)
  then_reach t k1 k2 s (Err h) next reach on = tt
  then_reach t k1 k2 s (Ok f) next reach on = joined (next f) (on f reach.1 reach.4)
    where
      joined : (r : Result flat.State Halt) → Reaches f.ticks k2 reach.1 r → Reaches t k2 s r
      joined (Err h) second = tt
      joined (Ok g) second = (
        reach.0
            + second.0,
        second.1,
        omega (arith, reach.2, second.2),
        leads_then (InCode l) s reach.0 reach.1 second.0 second.1
            reach.3 second.3,
        second.4,
      )

  pub given_reach : {A : Type 0} (t k : ℕ) (s : State) (o : Option A) (next : A → Result flat.State Halt)
      → ((x : A) → o ≡ Some x → Reaches t k s (next x)) → Reaches t k s (given o next)
  given_reach t k s None next on = tt
  given_reach t k s (Some x) next on = on x refl

  pub fuelled_reach : (t k : ℕ) (s : State) (next : Rule) (f : flat.State)
      → ((n : ℕ) → Reaches t k s (next (record { fuel = n; ticks = f.ticks; mem = f.mem; vars = f.vars })))
      → Reaches t k s (fuelled next f)
  fuelled_reach t k s next f on = by_fuel f.fuel
    where
      by_fuel : (n : ℕ) → Reaches t k s (take_one n f next)
      by_fuel zero = tt
      by_fuel (suc n) = on n
