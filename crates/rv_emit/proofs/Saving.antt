-- Registers go into words of the frame.
use Rattle.std.proofs.Common.{◌≡◌, ℕ, zero, suc, ◌+◌, ◌^◌, ◌<◌, ◌≤◌, List, [], ◌∷◌, length, Some, slice_get, refl, sym, ap, ◌∙◌}
use Rattle.std.proofs.Common.{subst, arith}
use Rattle.std.specs.FinMap.{get, insert}
use Rattle.flat_lang.specs.State.{Vars}
use Rattle.reg_alloc.specs.declared.plan.At.TheVariants.{Slot}
use Rattle.rv_machine.specs.State.{State, register}
use Rattle.rv_memory.specs.Ranges.{Bytes}
use Rattle.rv_memory.proofs.laws.Numbers.{get-insert_same, get-insert_other}
use Rattle.rv_machine.proofs.laws.Runs.{Leads, stays, leads_on, leads_then}
use Rattle.rv_emit.specs.Code.{place_of, save}
use Rattle.rv_emit.specs.Whole as whole
use Rattle.rv_emit.proofs.Site.{Site, InCode, IsValid, Sound, IsFree, Before, place_slot}
use Rattle.rv_emit.proofs.Runs.{HasAll, step_at}
use Rattle.rv_emit.proofs.Places.{saves}

-- registers that hold what they held at the entry
pub record AreFree (l : Site) (rs : List ℕ) : Type 0 where
  pub free : (i r : ℕ) → slice_get rs i ≡ Some r → IsFree l r
  pub below : (i r : ℕ) → slice_get rs i ≡ Some r → r < 32

module _ (l : Site) (m : State) (sound : Sound l m) (mem : Bytes) where
  -- the registers are in the slots from number j on
  pub record Saved (vars : Vars) (rs : List ℕ) (j k : ℕ) (s : State) : Type 0 where
    pub after : State
    pub vars_after : Vars
    pub run : Leads (InCode l) s (length rs) after
    pub stands : Before l m mem vars_after (k + length rs) after
    pub here : (i r : ℕ) → slice_get rs i ≡ Some r → get vars_after (32 + (j + i)) ≡ Some (register m.regs r)
    pub earlier : (x v : ℕ) → x < 32 + j → get vars x ≡ Some v → get vars_after x ≡ Some v

  pub saves_lead : (rs : List ℕ) (j k : ℕ) (vars : Vars) (s : State) → ((r : ℕ) → register m.regs r < 2 ^ 32) → AreFree l rs
      → j + length rs ≤ l.slots → Before l m mem vars k s → HasAll l.code k (whole.saves j rs) → Saved vars rs j k s
  saves_lead [] j k vars s words are few before has =
      let none : k ≡ k + 0 = omega arith in
      record {
        after = s;
        vars_after = vars;
        run = stays (InCode l) s;
        stands = subst (λ n. Before l m mem vars n s) none before;
        here = λ i r found. absurd (cc);
        earlier = λ x v below set. set;
      }
  saves_lead (r ∷ rs) j k vars s words are few before has =
      let value = register m.regs r in
      let holds = before.kept r (are.free 0 r refl) in
      let slot : j < l.slots = omega arith in
      let valid : IsValid l (place_of (32 + j)) = subst (λ p. IsValid l p) (sym (place_slot j)) slot in
      let done = saves l m sound mem vars k s r (32 + j) value (Slot j) (are.below 0 r refl) before has.0 valid (place_slot j)
      (words r) holds in
      let next = has.0.next in
      let inside : InCode l s.pc = (omega (arith, before.pc), omega (arith, before.pc)) in
      let first = leads_on (InCode l) s 0 s done.after (stays (InCode l) s) inside
      (step_at l m sound mem vars k (save r (Slot j)) s _ before has.0 done.does) in
      let rest = saves_lead rs (j + 1) (k + 1) (insert vars (32 + j) value) done.after words
      (record { free = λ i q found. are.free (suc i) q found; below = λ i q found. are.below (suc i) q found })
      (omega arith) done.stands has.1 in
      let place : k + 1 + length rs ≡ k + suc (length rs) = omega arith in
      let steps : 1 + length rs ≡ suc (length rs) = omega arith in
      record {
        after = rest.after;
        vars_after = rest.vars_after;
        run = subst (λ n. Leads (InCode l) s n rest.after) steps
            (leads_then (InCode l) s 1 done.after (length rs) rest.after first rest.run);
        stands = subst (λ n. Before l m mem rest.vars_after n rest.after) place rest.stands;
        here = here_of rest.vars_after (rest.earlier (32 + j) value (omega arith) (get-insert_same vars (32 + j) value))
            rest.here;
        earlier = λ x v below set. rest.earlier x v (omega arith)
            (get-insert_other vars (32 + j) value x (λ e. omega arith) ∙ set);
      }
    where
      here_of : (after : Vars) → get after (32 + j) ≡ Some (register m.regs r)
          → ((i q : ℕ) → slice_get rs i ≡ Some q → get after (32 + (j + 1 + i)) ≡ Some (register m.regs q)) → (i q : ℕ)
          → slice_get (r ∷ rs) i ≡ Some q → get after (32 + (j + i)) ≡ Some (register m.regs q)
      here_of after now later zero q found =
          let same : r ≡ q = cc in
          let none : 32 + j ≡ 32 + (j + 0) = omega arith in
          subst (λ x. get after x ≡ Some (register m.regs q)) none (now ∙ ap (λ x. Some (register m.regs x)) same)
      here_of after now later (suc i) q found =
          let place : 32 + (j + 1 + i) ≡ 32 + (j + suc i) = omega arith in
          subst (λ x. get after x ≡ Some (register m.regs q)) place (later i q found)
