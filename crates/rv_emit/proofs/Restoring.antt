-- Registers come back from words of the frame.
use Rattle.std.proofs.Common.{◌≡◌, ℕ, zero, suc, ◌+◌, ◌*◌, ◌%◌, ◌<◌, ◌≤◌, List, [], ◌∷◌, length, Some, slice_get, refl, sym, ap}
use Rattle.std.proofs.Common.{◌∙◌, subst, arith, ◌⊎◌, inl, inr}
use Rattle.std.proofs.lemmas.Bool.{cases_eq}
use Rattle.reg_alloc.specs.declared.plan.At.TheVariants.{Slot}
use Rattle.rv_machine.specs.Word.{plus}
use Rattle.rv_machine.specs.Fields.{extended}
use Rattle.rv_machine.specs.State.{State, register, with_register, number_at}
use Rattle.rv_memory.specs.Ranges.{Bytes}
use Rattle.rv_machine.specs.Effect.{effect}
use Rattle.rv_machine.specs.Step.{gives}
use Rattle.rv_machine.proofs.laws.Registers.{length-with_register, register-with_register_other, register-with_register_same}
use Rattle.rv_machine.proofs.laws.Runs.{Leads, stays, leads_then}
use Rattle.rv_emit.specs.Code.{fetch}
use Rattle.rv_emit.specs.Whole.{restores}
use Rattle.rv_emit.proofs.Does.{loads_is, slot_offset}
use Rattle.rv_emit.proofs.Site.{Site, InCode, Sound, Memory}
use Rattle.rv_emit.proofs.Runs.{HasAll, set_reg, gives_is}
use Rattle.rv_emit.proofs.Exit.{Stood, leads_stood}

-- the body has ended at e, and the frame has not yet been given back
pub record Ending (l : Site) (e : State) (k : ℕ) (s : State) : Type 0 where
  pub pc : s.pc ≡ l.start + 4 * k
  pub count : length s.regs ≡ 32
  pub mem : s.mem ≡ e.mem
  pub sp : register s.regs 2 ≡ l.base

-- registers that no call uses for arguments, and that are not sp
pub record AreKept (rs : List ℕ) : Type 0 where
  pub from : (i r : ℕ) → slice_get rs i ≡ Some r → 8 ≤ r
  pub to : (i r : ℕ) → slice_get rs i ≡ Some r → r < 32

-- the words of the frame from a first one on hold what registers held in m
abbrev pub Keeps : Site → State → State → ℕ → List ℕ → Type 0
Keeps l m e first rs = (i r : ℕ) → slice_get rs i ≡ Some r → number_at e.mem 4 (l.base + 4 * (first + i))
    ≡ Some (register m.regs r)

module _ (l : Site) (m : State) (sound : Sound l m) (mem : Bytes) (e : State) (memory : Memory l m mem e.mem) (m0 : State) where
  pub stood_ending : (k : ℕ) (s : State) → Ending l e k s → Stood l m sound mem k s
  stood_ending k s ending = record { pc = ending.pc; memory = subst (λ b. Memory l m mem b) (sym ending.mem) memory }

  -- the registers are as they were in m0
  pub record Back (rs : List ℕ) (k : ℕ) (s u : State) : Type 0 where
    pub run : Leads (InCode l) s (length rs) u
    pub ending : Ending l e k u
    pub right : (q : ℕ) → register s.regs q ≡ register m0.regs q → register u.regs q ≡ register m0.regs q
    pub got : (i r : ℕ) → slice_get rs i ≡ Some r → register u.regs r ≡ register m0.regs r
    pub others : (q : ℕ) → ((i : ℕ) → slice_get rs i ≡ Some q → ⊥) → register u.regs q ≡ register s.regs q

  pub restores_lead : (rs : List ℕ) (first k : ℕ) (s : State) → AreKept rs → first + length rs ≤ l.words → Keeps l m0 e first rs
      → Ending l e k s → HasAll l.code k (restores first rs) → (u : State) × Back rs (k + length rs) s u
  restores_lead [] first k s are few keeps ending has =
      let none : k ≡ k + 0 = omega arith in (
        s,
        record {
          run = stays (InCode l) s;
          ending = subst (λ n. Ending l e n s) none ending;
          right = λ q same. same;
          got = λ i r found. absurd (cc);
          others = λ q out. refl;
        },
      )
  restores_lead (r ∷ rs) first k s are few keeps ending has =
      let value = register m0.regs r in
      let from = are.from 0 r refl in
      let to = are.to 0 r refl in
      let same : r % 32 ≡ r = omega arith in
      let none : first + 0 ≡ first = omega arith in
      let there : number_at s.mem 4 (l.base + 4 * first) ≡ Some value = ap (λ b. number_at b 4 (l.base + 4 * first)) ending.mem
      ∙ subst (λ n. number_at e.mem 4 (l.base + 4 * n) ≡ Some value) none (keeps 0 r refl) in
      let address : plus (register s.regs 2) (extended 2048 (4 * first % 4096))
      ≡ l.base + 4 * first = rw ending.sp
      (slot_offset l.base first (omega (arith, sound.few)) (omega (arith, sound.frame_ends))) in
      let does : effect (fetch r (Slot first)) s
      ≡ gives s r value = rw same (loads_is s r 4 _ (l.base + 4 * first) value address (omega (arith, sound.base_aligned))
      there) in
      let t : State = set_reg s r value in
      let next = has.0.next in
      let run = leads_stood l m sound mem 0 k (fetch r (Slot first)) s s t (stays (InCode l) s) (stood_ending k s ending)
      (record { stands = has.0.stands; inside = omega arith }) (does ∙ gives_is s r value) in
      let then : Ending l e (k + 1) t = record {
        pc = omega (arith, ending.pc, sound.ends);
        count = length-with_register s.regs r value ∙ ending.count;
        mem = ending.mem;
        sp = register-with_register_other s.regs r value 2 (λ q. omega arith) ∙ ending.sp;
      } in
      let rest = restores_lead rs (first + 1) (k + 1) t
      (record { from = λ i q found. are.from (suc i) q found; to = λ i q found. are.to (suc i) q found }) (omega arith)
      (λ i q found. let place : first + suc i ≡ first + 1 + i = omega arith in
      subst (λ n. number_at e.mem 4 (l.base + 4 * n) ≡ Some (register m0.regs q)) place (keeps (suc i) q found)) then has.1
      in
      let place : k + 1 + length rs ≡ k + suc (length rs) = omega arith in
      let steps : 1 + length rs ≡ suc (length rs) = omega arith in
      let here : register t.regs r ≡ value =
      register-with_register_same s.regs r value (omega arith) (omega (arith, ending.count)) in (
        rest.0,
        record {
          run = subst (λ n. Leads (InCode l) s n rest.0) steps (leads_then (InCode l) s 1 t (length rs) rest.0 run rest.1.run);
          ending = subst (λ n. Ending l e n rest.0) place rest.1.ending;
          right = λ q is. rest.1.right q (kept_right q value here is (cases_eq q r));
          got = got_of rest.0 (rest.1.right r here) rest.1.got;
          others = λ q out. rest.1.others q (λ i found. out (suc i) found)
              ∙ register-with_register_other s.regs r value q (λ is. out 0 (ap Some (sym is)));
        },
      )
    where
      kept_right : (q value : ℕ) → register (with_register s.regs r (register m0.regs r)) r ≡ register m0.regs r
          → register s.regs q ≡ register m0.regs q → (q ≡ r) ⊎ (q ≡ r → ⊥)
          → register (with_register s.regs r (register m0.regs r)) q ≡ register m0.regs q
      kept_right q value here is (inl same) =
          subst (λ x. register (with_register s.regs r (register m0.regs r)) x ≡ register m0.regs x) (sym same) here
      kept_right q value here is (inr other) = register-with_register_other s.regs r (register m0.regs r) q other ∙ is

      got_of : (u : State) → register u.regs r ≡ register m0.regs r
          → ((i q : ℕ) → slice_get rs i ≡ Some q → register u.regs q ≡ register m0.regs q) → (i q : ℕ)
          → slice_get (r ∷ rs) i ≡ Some q → register u.regs q ≡ register m0.regs q
      got_of u now later zero q found = let same : r ≡ q = cc in subst (λ x. register u.regs x ≡ register m0.regs x) same now
      got_of u now later (suc i) q found = later i q found
