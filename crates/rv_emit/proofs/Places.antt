-- A value is taken from its place, and put into one.
use Rattle.std.proofs.Common.{◌≡◌, ◌≢◌, ℕ, ◌+◌, ◌*◌, ◌∷◌, length, ◌%◌, ◌^◌, ◌<◌, ◌≤◌, ◌⊎◌, inl, inr, Some, IsSome, is_some}
use Rattle.std.proofs.Common.{Result, Ok, true, false, refl, sym, ap, ◌∙◌, subst, arith}
use Rattle.std.proofs.lemmas.Bool.{cases_eq}
use Rattle.std.specs.FinMap.{get, insert}
use Rattle.bed_meaning.specs.State.{spend}
use Rattle.bed_meaning.specs.declared.halt.Halt.{Halt}
use Rattle.flat_lang.specs.State.{Vars, with_var}
use Rattle.flat_lang.specs.State as flat
use Rattle.reg_alloc.specs.declared.plan.At.{At}
use Rattle.reg_alloc.specs.declared.plan.At.TheVariants.{Reg as Register, Slot}
use Rattle.rv_machine.specs.Word.{plus}
use Rattle.rv_machine.specs.Fields.{extended}
use Rattle.rv_machine.specs.State.{State, register, number_at, with_number}
use Rattle.rv_memory.specs.Ranges.{Bytes}
use Rattle.rv_machine.specs.Effect.{effect}
use Rattle.rv_machine.specs.Step.{gives}
use Rattle.rv_memory.proofs.laws.Numbers.{get-insert_same, get-insert_other, get-with_number_other, mapped-with_number}
use Rattle.rv_memory.proofs.laws.Numbers.{mapped_before_with_number, number_at-with_number, number_at-with_number_other}
use Rattle.rv_memory.proofs.laws.Numbers.{is_some-number_at}
use Rattle.rv_machine.proofs.laws.Registers.{length-with_register, register-with_register_other, register-with_register_same}
use Rattle.rv_code.specs.declared.instruction.Instr.{Instr}
use Rattle.rv_emit.specs.Code.{place_of, fetch, save, register_of, from_slot, to_slot}
use Rattle.rv_emit.proofs.Bytes.{bytes-with_number}
use Rattle.rv_emit.proofs.Does.{loads_is, stores_is, with_stored, slot_offset, nothing_added}
use Rattle.rv_emit.proofs.Site.{Site, Sound, Memory, Held, Holds, IsFree, IsValid, Before, register_number, slot_number}
use Rattle.rv_emit.proofs.Runs.{Has, HasAll, set_reg, Reaches, gives_is, next_pc, step_reach, set_reach, ends_at}

-- the register of a place holds what is in it, and only a temporary register was changed
pub record Brought (s u : State) (t v : ℕ) (p : At) : Type 0 where
  pub value : register u.regs (register_of t p) ≡ v
  pub others : (q : ℕ) → q ≢ t → register u.regs q ≡ register s.regs q

module _ (l : Site) (m : State) (sound : Sound l m) where
  pub fetch_does : (mem : Bytes) (vars : Vars) (k : ℕ) (s : State) (d v : ℕ) (p : At) → d < 32 → Before l m mem vars k s
      → IsValid l p → v < 2 ^ 32 → Holds l s p v → effect (fetch d p) s ≡ gives s d v
  fetch_does mem vars k s d v (Slot j) small before valid word there =
      let same : d % 32 ≡ d = omega arith in
      let address : plus (register s.regs 2) (extended 2048 (4 * j % 4096))
      ≡ l.base + 4 * j = rw before.sp
      (slot_offset l.base j (omega (arith, sound.few, sound.fit)) (omega (arith, sound.frame_ends, sound.fit))) in
      rw same (loads_is s d 4 _ (l.base + 4 * j) v address (omega (arith, sound.base_aligned)) there)
  fetch_does mem vars k s d v (Register r) small before valid word there =
      let same : d % 32 ≡ d = omega arith in
      let also : r % 32 ≡ r = omega (arith, sound.to r valid) in
      rw (same, also, there, nothing_added v word) refl

  brought_by : (t k2 : ℕ) (mem : Bytes) (vars : Vars) (k : ℕ) (s : State) (d v : ℕ) (p : At) (r : Result flat.State Halt) → 5 ≤ d
      → d ≤ 7 → Before l m mem vars k s → HasAll l.code k (from_slot d p) → IsValid l p → v < 2 ^ 32 → Holds l s p v
      → ((u : State) → Before l m mem vars (k + length (from_slot d p)) u → Brought s u d v p
      → Reaches l m sound (t + length (from_slot d p)) k2 u r) → Reaches l m sound t k2 s r
  brought_by t k2 mem vars k s d v (Register q) r low high before has valid word there on =
      let none : k ≡ k + 0 = omega arith in
      let time : t + 0 ≡ t = omega arith in
      subst (λ n. Reaches l m sound n k2 s r) time
      (on s (subst (λ n. Before l m mem vars n s) none before) (record { value = there; others = λ q other. refl }))
  brought_by t k2 mem vars k s d v (Slot j) r low high before has valid word there on =
      set_reach l m sound t k2 mem vars k (fetch d (Slot j)) s d v r low high before has.0
      (fetch_does mem vars k s d v (Slot j) (omega arith) before valid word there) (λ u stands is.
      on u stands (record { value = is.value; others = is.others }))

  -- an operand is in its register
  pub operand_reach : (t k2 : ℕ) (mem : Bytes) (vars : Vars) (k : ℕ) (s : State) (d x v : ℕ) (r : Result flat.State Halt) → 5 ≤ d
      → d ≤ 7 → Before l m mem vars k s → HasAll l.code k (from_slot d (place_of x)) → get vars x ≡ Some v
      → ((u : State) → Before l m mem vars (k + length (from_slot d (place_of x))) u → Brought s u d v (place_of x)
      → Reaches l m sound (t + length (from_slot d (place_of x))) k2 u r) → Reaches l m sound t k2 s r
  operand_reach t k2 mem vars k s d x v r low high before has found on =
      let h = before.held x v found in
      brought_by t k2 mem vars k s d v (place_of x) r low high before has h.valid h.word h.there on

  -- the memory after a store into a slot
  saved_memory : (mem real : Bytes) (j v : ℕ) → j < l.slots → Memory l m mem real
      → Memory l m mem (with_number real 4 (l.base + 4 * j) v)
  saved_memory mem real j v slot memory =
      record {
        seen = λ a b found. get-with_number_other 4 real (l.base + 4 * j) v a
            (λ low high. memory.off_frame a (ap (λ o. is_some o) found) (omega arith, omega (arith, sound.fit)))
            ∙ memory.seen a b found;
        off_image = memory.off_image;
        off_frame = memory.off_frame;
        others = λ a outside none. get-with_number_other 4 real (l.base + 4 * j) v a
            (λ low high. outside (omega arith, omega arith)) ∙ memory.others a outside none;
        stay = λ a there. mapped-with_number 4 real (l.base + 4 * j) v a (memory.stay a there);
        no_more = λ a there. memory.no_more a
            (mapped_before_with_number 4 real (l.base + 4 * j) v a
            (λ q low high. memory.stay q (sound.mapped q (omega arith, omega (arith, sound.fit)))) there);
        bytes = bytes-with_number 4 real (l.base + 4 * j) v memory.bytes;
      }

  -- the place that was set, and the others
  held_by : (mem : Bytes) (vars : Vars) (s u : State) (x v : ℕ) → IsValid l (place_of x) → v < 2 ^ 32 → Holds l u (place_of x) v
      → ((y w : ℕ) → y ≢ x → Holds l s (place_of y) w → Holds l u (place_of y) w)
      → ((y w : ℕ) → get vars y ≡ Some w → Held l s y w) → (y w : ℕ) → get (insert vars x v) y ≡ Some w → Held l u y w
  held_by mem vars s u x v valid word there others held y w found = by_place (cases_eq y x)
    where
      by_place : (y ≡ x) ⊎ (y ≡ x → ⊥) → Held l u y w
      by_place (inl same) =
          let first : get (insert vars x v) y
          ≡ Some v = subst (λ q. get (insert vars x v) q ≡ Some v) (sym same) (get-insert_same vars x v) in
          let is : v ≡ w = cc in
          subst (λ q. Held l u q w) (sym same)
          (record { valid = valid; word = omega (arith, word, is); there = subst (λ n. Holds l u (place_of x) n) is there })
      by_place (inr other) =
          let h = held y w (sym (get-insert_other vars x v y other) ∙ found) in
          record { valid = h.valid; word = h.word; there = others y w other h.there }

  slot_kept : (s : State) (x y j v w : ℕ) (p : At) → y ≢ x → place_of x ≡ Slot j → place_of y ≡ p → Holds l s p w
      → Holds l (with_stored s 4 (l.base + 4 * j) v) p w
  slot_kept s x y j v w (Register r) other is are there = there
  slot_kept s x y j v w (Slot i) other is are there =
      let apart : i ≢ j = λ e. other (slot_number y i are ∙ ap (λ n. 32 + n) e ∙ sym (slot_number x j is)) in
      number_at-with_number_other 4 (l.base + 4 * i) 4 s.mem (l.base + 4 * j) v (λ q low high from to. apart (omega arith))
      ∙ there

  register_kept : (s : State) (x y r v w : ℕ) (p : At) → y ≢ x → place_of x ≡ Register r → place_of y ≡ p → Holds l s p w
      → Holds l (set_reg s r v) p w
  register_kept s x y r v w (Slot i) other is are there = there
  register_kept s x y r v w (Register q) other is are there =
      let apart : q ≢ r = λ e. other (register_number y q are ∙ e ∙ sym (register_number x r is)) in
      register-with_register_other s.regs r v q apart ∙ there

  -- an instruction sets a place, and the machine stands behind it
  pub record Sets (mem : Bytes) (vars : Vars) (k : ℕ) (s : State) (x v : ℕ) (i : Instr) : Type 0 where
    pub after : State
    pub does : effect i s ≡ Ok after
    pub stands : Before l m mem (insert vars x v) (k + 1) after

  save_slot : (mem : Bytes) (vars : Vars) (k : ℕ) (s : State) (d x v j : ℕ) → d < 32 → Before l m mem vars k s
      → Has l.code k (save d (Slot j)) → IsValid l (place_of x) → place_of x ≡ Slot j → v < 2 ^ 32 → register s.regs d ≡ v
      → Sets mem vars k s x v (save d (Slot j))
  save_slot mem vars k s d x v j small before has valid is word holds =
      let slot : j < l.slots = subst (λ p. IsValid l p) is valid in
      let same : d % 32 ≡ d = omega arith in
      let address : plus (register s.regs 2) (extended 2048 (4 * j % 4096))
      ≡ l.base + 4 * j = rw before.sp
      (slot_offset l.base j (omega (arith, sound.few, sound.fit)) (omega (arith, sound.frame_ends, sound.fit))) in
      let mapped : IsSome (number_at s.mem 4 (l.base + 4 * j)) =
      is_some-number_at 4 s.mem (l.base + 4 * j)
      (λ q low high. before.memory.stay q (sound.mapped q (omega arith, omega (arith, sound.fit)))) in
      let value : register s.regs (d % 32) ≡ v = rw same holds in
      let four : v < 256 ^ 4 = omega arith in
      let stored : Holds l (with_stored s 4 (l.base + 4 * j) v) (place_of x) v =
      subst (λ p. Holds l (with_stored s 4 (l.base + 4 * j) v) p v) (sym is)
      (number_at-with_number 4 s.mem (l.base + 4 * j) v four) in
      record {
        after = with_stored s 4 (l.base + 4 * j) v;
        does = stores_is s 4 _ (l.base + 4 * j) _ v address value (omega (arith, sound.base_aligned)) mapped;
        stands = record {
          pc = next_pc l m sound mem vars k (save d (Slot j)) s before has;
          count = before.count;
          sp = before.sp;
          kept = before.kept;
          held = held_by mem vars s (with_stored s 4 (l.base + 4 * j) v) x v valid word stored
              (λ y w other there. slot_kept s x y j v w (place_of y) other is refl there) before.held;
          memory = saved_memory mem s.mem j v slot before.memory;
        };
      }

  pub register_set : (mem : Bytes) (vars : Vars) (k : ℕ) (s : State) (i : Instr) (x v r : ℕ) → Before l m mem vars k s
      → Has l.code k i → IsValid l (place_of x) → place_of x ≡ Register r → v < 2 ^ 32 → effect i s ≡ gives s r v
      → Sets mem vars k s x v i
  register_set mem vars k s i x v r before has valid is word does =
      let held : l.held r ≡ true = subst (λ p. IsValid l p) is valid in
      let from = sound.from r held in
      let to = sound.to r held in
      let stored : Holds l (set_reg s r v) (place_of x) v =
      subst (λ p. Holds l (set_reg s r v) p v) (sym is)
      (register-with_register_same s.regs r v (omega arith) (omega (arith, before.count))) in
      record {
        after = set_reg s r v;
        does = does ∙ gives_is s r v;
        stands = record {
          pc = next_pc l m sound mem vars k i s before has;
          count = length-with_register s.regs r v ∙ before.count;
          sp = register-with_register_other s.regs r v 2 (λ e. omega arith) ∙ before.sp;
          kept = λ q free. register-with_register_other s.regs r v q (λ e. held_is_not_free q free e held) ∙ before.kept q free;
          held = held_by mem vars s (set_reg s r v) x v valid word stored
              (λ y w other there. register_kept s x y r v w (place_of y) other is refl there) before.held;
          memory = before.memory;
        };
      }
    where
      held_is_not_free : (q : ℕ) → IsFree l q → q ≡ r → l.held r ≡ true → ⊥
      held_is_not_free q free e valid = let held : l.held q ≡ true = ap l.held e ∙ valid in let not : l.held q
          ≡ false = free.not_held in absurd (cc)

  pub saves : (mem : Bytes) (vars : Vars) (k : ℕ) (s : State) (d x v : ℕ) (p : At) → d < 32 → Before l m mem vars k s
      → Has l.code k (save d p) → IsValid l (place_of x) → place_of x ≡ p → v < 2 ^ 32 → register s.regs d ≡ v
      → Sets mem vars k s x v (save d p)
  saves mem vars k s d x v (Slot j) small before has valid is word holds =
      save_slot mem vars k s d x v j small before has valid is word holds
  saves mem vars k s d x v (Register r) small before has valid is word holds =
      let held : l.held r ≡ true = subst (λ p. IsValid l p) is valid in
      let same : d % 32 ≡ d = omega arith in
      let also : r % 32 ≡ r = omega (arith, sound.to r held) in
      register_set mem vars k s (save d (Register r)) x v r before has valid is word
      (rw (same, also, holds, nothing_added v word) refl)

  -- a value goes from a register into its place, and the run behind it
  pub save_on : (t k2 : ℕ) (mem : Bytes) (vars : Vars) (k : ℕ) (s : State) (d x v : ℕ) (r : Result flat.State Halt) → d < 32
      → Before l m mem vars k s → Has l.code k (save d (place_of x)) → IsValid l (place_of x) → v < 2 ^ 32 → register s.regs d ≡ v
      → ((u : State) → Before l m mem (insert vars x v) (k + 1) u → Reaches l m sound (t + 1) k2 u r) → Reaches l m sound t k2 s r
  save_on t k2 mem vars k s d x v r small before has valid word holds on =
      let done = saves mem vars k s d x v (place_of x) small before has valid refl word holds in
      step_reach l m sound t k2 mem vars k (save d (place_of x)) s done.after r before has done.does (on done.after done.stands)

  result_by : (t price : ℕ) (f : flat.State) (k : ℕ) (s : State) (i : Instr) (x v : ℕ) (p : At) → place_of x ≡ p
      → Before l m f.mem f.vars k s → HasAll l.code k (i ∷ to_slot p) → IsValid l (place_of x) → v < 2 ^ 32
      → effect i s ≡ gives s (register_of 5 p) v → t + length (i ∷ to_slot p) ≤ f.ticks + price
      → Reaches l m sound t (k + length (i ∷ to_slot p)) s (Ok (with_var x v (spend price f)))
  result_by t price f k s i x v (Register r) is before has valid word does in_time =
      let done = register_set f.mem f.vars k s i x v r before has.0 valid is word does in
      step_reach l m sound t (k + 1) f.mem f.vars k i s done.after (Ok (with_var x v (spend price f))) before has.0 done.does
      (ends_at l m sound (t + 1) (k + 1) done.after (with_var x v (spend price f)) in_time done.stands)
  result_by t price f k s i x v (Slot j) is before has valid word does in_time =
      let e : flat.State = with_var x v (spend price f) in
      set_reach l m sound t (k + 2) f.mem f.vars k i s 5 v (Ok e) (omega arith) (omega arith) before has.0 does (λ u stands set.
      let done = save_slot f.mem f.vars (k + 1) u 5 x v j (omega arith) stands has.1.0 valid is word set.value in
      let place : k + 1 + 1 ≡ k + 2 = omega arith in
      step_reach l m sound (t + 1) (k + 2) f.mem f.vars (k + 1) (save 5 (Slot j)) u done.after (Ok e) stands has.1.0 done.does
      (ends_at l m sound (t + 1 + 1) (k + 2) done.after e (omega arith)
      (subst (λ n. Before l m f.mem (insert f.vars x v) n done.after) place done.stands)))

  -- an instruction makes the result of a statement, and the statement ends
  pub result_reach : (t price : ℕ) (f : flat.State) (k : ℕ) (s : State) (i : Instr) (x v : ℕ) → Before l m f.mem f.vars k s
      → HasAll l.code k (i ∷ to_slot (place_of x)) → IsValid l (place_of x) → v < 2 ^ 32
      → effect i s ≡ gives s (register_of 5 (place_of x)) v → t + length (i ∷ to_slot (place_of x)) ≤ f.ticks + price
      → Reaches l m sound t (k + length (i ∷ to_slot (place_of x))) s (Ok (with_var x v (spend price f)))
  result_reach t price f k s i x v before has valid word does in_time =
      result_by t price f k s i x v (place_of x) refl before has valid word does in_time

  -- a value goes from a register into the slot of a variable, and the statement ends
  pub save_reach : (t price : ℕ) (f : flat.State) (k : ℕ) (s : State) (d x v j : ℕ) → d < 32 → place_of x ≡ Slot j
      → Before l m f.mem f.vars k s → Has l.code k (save d (Slot j)) → IsValid l (place_of x) → v < 2 ^ 32 → register s.regs d ≡ v
      → t + 1 ≤ f.ticks + price → Reaches l m sound t (k + 1) s (Ok (with_var x v (spend price f)))
  save_reach t price f k s d x v j small is before has valid word holds in_time =
      let done = save_slot f.mem f.vars k s d x v j small before has valid is word holds in
      step_reach l m sound t (k + 1) f.mem f.vars k (save d (Slot j)) s done.after (Ok (with_var x v (spend price f))) before has
      done.does (ends_at l m sound (t + 1) (k + 1) done.after (with_var x v (spend price f)) in_time done.stands)
