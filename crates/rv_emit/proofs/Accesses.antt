-- Loads, look-ups in tables and stores run as they mean.
use Rattle.std.proofs.Common.{◌≡◌, ℕ, ◌+◌, ◌*◌, ◌%◌, ◌^◌, ◌<◌, ◌≤◌, List, [], ◌∷◌, ◌++◌, length, length-append, Ok, Option, Some}
use Rattle.std.proofs.Common.{None, IsSome, is_some, slice_get, nat_eq, refl, sym, ap, ◌∙◌, subst, arith}
use Rattle.std.specs.FinMap.{get}
use Rattle.bed_meaning.specs.State.{spend, with_mem}
use Rattle.bed_meaning.specs.Fuelled.{given, fuelled}
use Rattle.bed_syntax.specs.declared.operation.Size.{Size}
use Rattle.bed_syntax.specs.declared.operation.Size.TheVariants as size
use Rattle.bed_syntax.specs.declared.weights.Weights.{Weights}
use Rattle.bed_meaning.specs.Access.{width, word, low_high, entry, loaded, store}
use Rattle.flat_lang.specs.State.{Vars}
use Rattle.flat_lang.specs.State as flat
use Rattle.flat_lang.specs.Meaning.{sets}
use Rattle.reg_alloc.specs.declared.plan.At.{At}
use Rattle.reg_alloc.specs.declared.plan.At.TheVariants.{Reg as Register, Slot}
use Rattle.rv_code.specs.Field.{reg, imm20}
use Rattle.rv_code.specs.declared.instruction.Instr.{Instr}
use Rattle.rv_code.specs.declared.instruction.Instr.TheVariants.{Auipc, Add}
use Rattle.rv_machine.specs.Word.{plus}
use Rattle.rv_machine.specs.Fields.{extended}
use Rattle.rv_machine.specs.State.{State, register, number_at, with_number}
use Rattle.rv_memory.specs.Ranges.{Bytes}
use Rattle.rv_machine.specs.Effect.{effect}
use Rattle.rv_machine.specs.Step.{gives}
use Rattle.rv_memory.proofs.laws.Numbers.{get-with_number_other, mapped-with_number, mapped_before_with_number}
use Rattle.rv_memory.proofs.laws.Numbers.{number_at-with_number_other, is_some-number_at}
use Rattle.rv_emit.specs.Code.{place_of, register_of, from_slot, to_slot, load_at, store_to, upper, ahead, look_up}
use Rattle.rv_emit.proofs.Bytes.{Seen, seen-with_number, bytes-with_number, Placed, found_by, load_found, store_found}
use Rattle.rv_emit.proofs.Bytes.{stored_number, tested}
use Rattle.rv_emit.proofs.Does.{loads_is, stores_is, with_stored, nothing_added, parts_sum}
use Rattle.rv_emit.proofs.Site.{Site, InFrame, InSlots, IsValid, TableAt, Sound, Memory, Holds, Before, register_small}
use Rattle.rv_emit.proofs.Site.{register_apart}
use Rattle.rv_emit.proofs.Runs.{Has, HasAll, has_front, has_back, Reaches, at_place, same_in_image, next_pc, step_reach}
use Rattle.rv_emit.proofs.Runs.{set_reach, given_reach, fuelled_reach, ends_at}
use Rattle.rv_emit.proofs.Places.{operand_reach, result_reach}
use Rattle.rv_emit.proofs.Straight.{Enough}

load_does : (z : Size) (s : State) (r a n at v : ℕ) → r % 32 ≡ r → a % 32 ≡ a
    → plus (register s.regs a) (extended 2048 (n % 4096)) ≡ at → at % width z ≡ 0 → number_at s.mem (width z) at ≡ Some v
    → effect (load_at z r a n) s ≡ gives s r v
load_does size.One s r a n at v target from address aligned there =
    rw (target, from) (loads_is s r 1 _ at v address aligned there)
load_does size.Two s r a n at v target from address aligned there =
    rw (target, from) (loads_is s r 2 _ at v address aligned there)
load_does size.Four s r a n at v target from address aligned there =
    rw (target, from) (loads_is s r 4 _ at v address aligned there)

store_does : (z : Size) (s : State) (a r at v : ℕ) → a % 32 ≡ a → r % 32 ≡ r → plus (register s.regs a) (extended 2048 (0 % 4096))
    ≡ at → register s.regs r ≡ v → at % width z ≡ 0 → IsSome (number_at s.mem (width z) at)
    → effect (store_to z a r) s ≡ Ok (with_stored s (width z) at v)
store_does size.One s a r at v to from address value aligned there =
    rw (to, from) (stores_is s 1 _ at _ v address value aligned there)
store_does size.Two s a r at v to from address value aligned there =
    rw (to, from) (stores_is s 2 _ at _ v address value aligned there)
store_does size.Four s a r at v to from address value aligned there =
    rw (to, from) (stores_is s 4 _ at _ v address value aligned there)

-- the address of an entry, by the instruction's place and the distance in two parts
address_sum : (at pc high low d : ℕ) → plus high low ≡ d → at + (pc + d) < 2 ^ 32
    → plus (plus at (plus pc high)) low ≡ at + (pc + d)
address_sum at pc high low d parts fits = omega arith

entry_aligned : (z : Size) (start at : ℕ) → start % 4 ≡ 0 → at % width z ≡ 0 → (start + at) % width z ≡ 0
entry_aligned size.One start at first second = omega arith
entry_aligned size.Two start at first second = omega arith
entry_aligned size.Four start at first second = omega arith

-- the first byte of what was found
record First (byte : ℕ → Option ℕ) (at : ℕ) : Type 0 where
  value : ℕ
  is : byte at ≡ Some value

first_of : (byte : ℕ → Option ℕ) (at v : ℕ) (o p : Option ℕ) → byte at ≡ o → low_high o p ≡ Some v → First byte at
first_of byte at v None p is found = absurd (cc)
first_of byte at v (Some b) p is found = record { value = b; is = is }

first_byte : (byte : ℕ → Option ℕ) (z : Size) (at v : ℕ) → word byte z at ≡ Some v → First byte at
first_byte byte size.One at v found = record { value = v; is = found }
first_byte byte size.Two at v found = first_of byte at v (byte at) (byte (at + 1)) refl found
first_byte byte size.Four at v found =
    first_of byte at v (byte at) (low_high (byte (at + 1)) (low_high (byte (at + 2)) (byte (at + 3)))) refl found

some_of : (mem real : Bytes) (q : ℕ) → Seen mem real → IsSome (get mem q) → IsSome (get real q)
some_of mem real q seen there = by_byte (get mem q) refl there
  where
    by_byte : (o : Option ℕ) → get mem q ≡ o → IsSome o → IsSome (get real q)
    by_byte None is some = absurd (cc)
    by_byte (Some b) is some = ap is_some (seen q b is)

module _ (l : Site) (m : State) (sound : Sound l m) where
  -- the two memories after the same store
  stored_memory : (mem real : Bytes) (n at v : ℕ) → ((q : ℕ) → at ≤ q → q < at + n → IsSome (get mem q)) → Memory l m mem real
      → Memory l m (with_number mem n at v) (with_number real n at v)
  stored_memory mem real n at v mapped memory =
      record {
        seen = seen-with_number n mem real at v memory.seen;
        off_image = λ a there. memory.off_image a (mapped_before_with_number n mem at v a mapped there);
        off_frame = λ a there. memory.off_frame a (mapped_before_with_number n mem at v a mapped there);
        others = λ a outside none. by_byte a outside none (get mem a) refl;
        stay = λ a there. mapped-with_number n real at v a (memory.stay a there);
        no_more = λ a there. memory.no_more a
            (mapped_before_with_number n real at v a (λ q low high. some_of mem real q memory.seen (mapped q low high)) there);
        bytes = bytes-with_number n real at v memory.bytes;
      }
    where
      by_byte : (a : ℕ) → (InSlots l a → ⊥) → get (with_number mem n at v) a ≡ None → (o : Option ℕ) → get mem a ≡ o
          → get (with_number real n at v) a ≡ get m.mem a
      by_byte a outside none None is =
          get-with_number_other n real at v a (λ low high. let there : IsSome (get mem a) = mapped a low high in absurd (cc))
          ∙ memory.others a outside is
      by_byte a outside none (Some b) is =
          let there : IsSome (get (with_number mem n at v) a) = mapped-with_number n mem at v a (ap is_some is) in
          absurd (cc)

  stored_held : (s : State) (n at v c : ℕ) (p : At) → ((q : ℕ) → at ≤ q → q < at + n → InFrame l q → ⊥) → IsValid l p
      → Holds l s p c → Holds l (with_stored s n at v) p c
  stored_held s n at v c (Register r) off valid there = there
  stored_held s n at v c (Slot j) off valid there =
      number_at-with_number_other 4 (l.base + 4 * j) n s.mem at v
      (λ q low high from to. off q from to (omega arith, omega (arith, sound.fit))) ∙ there

  pub before_stored : (mem : Bytes) (vars : Vars) (k : ℕ) (i : Instr) (s : State) (n at v : ℕ) → Before l m mem vars k s
      → Has l.code k i → ((q : ℕ) → at ≤ q → q < at + n → IsSome (get mem q))
      → Before l m (with_number mem n at v) vars (k + 1) (with_stored s n at v)
  before_stored mem vars k i s n at v before has mapped =
      record {
        pc = next_pc l m sound mem vars k i s before has;
        count = before.count;
        sp = before.sp;
        kept = before.kept;
        held = λ x c found. let h = before.held x c found in
            record {
              valid = h.valid;
              word = h.word;
              there = stored_held s n at v c (place_of x) (λ q low high. before.memory.off_frame q (mapped q low high)) h.valid
                  h.there;
            };
        memory = stored_memory mem s.mem n at v mapped before.memory;
      }

  table_placed : (mem real : Bytes) (offset : ℕ) (bytes : List ℕ) → Memory l m mem real → TableAt l m offset bytes
      → Placed (λ a. slice_get bytes a) real (l.start + (4 * length l.code + offset))
  table_placed mem real offset bytes memory table = λ a b found.
      let inside = table.inside a b found in
      same_in_image l m sound mem real (l.start + (4 * length l.code + offset) + a) memory (omega arith, omega arith)
      ∙ table.stands a b found

module _ (l : Site) (m : State) (sound : Sound l m) (w : Weights) (enough : Enough w l) where
  pub load_reach : (k : ℕ) (f : flat.State) (s : State) (z : Size) (x y : ℕ) → Before l m f.mem f.vars k s
      → HasAll l.code k (from_slot 5 (place_of y)
      ++ (load_at z (register_of 5 (place_of x)) (register_of 5 (place_of y)) 0 ∷ to_slot (place_of x))) → IsValid l (place_of x)
      → Reaches l m sound f.ticks (k
      + length (from_slot 5 (place_of y)
      ++ (load_at z (register_of 5 (place_of x)) (register_of 5 (place_of y)) 0 ∷ to_slot (place_of x)))) s
      (fuelled (λ g. given (get g.vars y) (λ at. given (loaded z g.mem at) (λ v. sets w.load x v g))) f)
  load_reach k f s z x y before has valid =
      let end = k + length (from_slot 5 (place_of y)
      ++ (load_at z (register_of 5 (place_of x)) (register_of 5 (place_of y)) 0 ∷ to_slot (place_of x))) in
      fuelled_reach l m sound f.ticks end s (λ g. given (get g.vars y) (λ at. given (loaded z g.mem at) (λ v. sets w.load x v g)))
      f (λ n.
      let g : flat.State = record { fuel = n; ticks = f.ticks; mem = f.mem; vars = f.vars } in
      given_reach l m sound f.ticks end s (get f.vars y) (λ at. given (loaded z f.mem at) (λ v. sets w.load x v g)) (λ at first.
      given_reach l m sound f.ticks end s (loaded z f.mem at) (λ v. sets w.load x v g) (λ v second. made n at v first second)))
    where
      made : (n at v : ℕ) → get f.vars y ≡ Some at → loaded z f.mem at ≡ Some v
          → Reaches l m sound f.ticks (k
          + length (from_slot 5 (place_of y)
          ++ (load_at z (register_of 5 (place_of x)) (register_of 5 (place_of y)) 0 ∷ to_slot (place_of x)))) s
          (sets w.load x v (record { fuel = n; ticks = f.ticks; mem = f.mem; vars = f.vars }))
      made n at v first second =
          let g : flat.State = record { fuel = n; ticks = f.ticks; mem = f.mem; vars = f.vars } in
          let r = sets w.load x v g in
          let rx = register_of 5 (place_of x) in
          let ry = register_of 5 (place_of y) in
          let front = from_slot 5 (place_of y) in
          let last = load_at z rx ry 0 ∷ to_slot (place_of x) in
          let end = k + length (front ++ last) in
          let size = length-append front last in
          let hy = before.held y at first in
          let in_time = enough.load z (place_of x) (place_of y) valid hy.valid in
          operand_reach l m sound f.ticks end f.mem f.vars k s 5 y at r (omega arith) (omega arith) before
          (has_front l.code k front last has) first (λ u b is.
          let found = load_found z f.mem u.mem at v b.memory.seen second in
          let none : 0 + at ≡ at = omega arith in
          let there : number_at u.mem (width z) at
          ≡ Some v = subst (λ a. number_at u.mem (width z) a ≡ Some v) none found.number.there in
          let address : plus (register u.regs ry) (extended 2048 (0 % 4096)) ≡ at = rw is.value (nothing_added at hy.word) in
          let word : v < 2 ^ 32 = found.number.small b.memory.bytes in
          let small = register_small l m sound 5 (place_of x) (omega arith) valid in
          let also = register_small l m sound 5 (place_of y) (omega arith) hy.valid in
          at_place l m sound (f.ticks + length front) (k + length front + length last) end u r (omega arith)
          (result_reach l m sound (f.ticks + length front) w.load g (k + length front) u (load_at z rx ry 0) x v b
          (has_back l.code k front last has) valid word
          (load_does z u rx ry 0 at v (omega arith) (omega arith) address found.aligned there) (omega (arith, in_time))))

  pub store_reach : (k : ℕ) (f : flat.State) (s : State) (z : Size) (x y : ℕ) → Before l m f.mem f.vars k s
      → HasAll l.code k (from_slot 5 (place_of x)
      ++ (from_slot 6 (place_of y) ++ store_to z (register_of 5 (place_of x)) (register_of 6 (place_of y)) ∷ []))
      → Reaches l m sound f.ticks (k
      + length (from_slot 5 (place_of x)
      ++ (from_slot 6 (place_of y) ++ store_to z (register_of 5 (place_of x)) (register_of 6 (place_of y)) ∷ []))) s
      (fuelled (λ g. given (get g.vars x)
      (λ at. given (get g.vars y) (λ v. given (store z g.mem at v) (λ mem. Ok (with_mem mem (spend w.store g)))))) f)
  store_reach k f s z x y before has =
      let end = k + length (from_slot 5 (place_of x)
      ++ (from_slot 6 (place_of y) ++ store_to z (register_of 5 (place_of x)) (register_of 6 (place_of y)) ∷ [])) in
      fuelled_reach l m sound f.ticks end s
      (λ g. given (get g.vars x) (λ at.
      given (get g.vars y) (λ v. given (store z g.mem at v) (λ mem. Ok (with_mem mem (spend w.store g)))))) f (λ n.
      let g : flat.State = record { fuel = n; ticks = f.ticks; mem = f.mem; vars = f.vars } in
      given_reach l m sound f.ticks end s (get f.vars x)
      (λ at. given (get f.vars y) (λ v. given (store z f.mem at v) (λ mem. Ok (with_mem mem (spend w.store g))))) (λ at first.
      given_reach l m sound f.ticks end s (get f.vars y)
      (λ v. given (store z f.mem at v) (λ mem. Ok (with_mem mem (spend w.store g)))) (λ v second.
      given_reach l m sound f.ticks end s (store z f.mem at v) (λ mem. Ok (with_mem mem (spend w.store g)))
      (λ mem third. made n at v mem first second third))))
    where
      made : (n at v : ℕ) (mem : Bytes) → get f.vars x ≡ Some at → get f.vars y ≡ Some v → store z f.mem at v ≡ Some mem
          → Reaches l m sound f.ticks (k
          + length (from_slot 5 (place_of x)
          ++ (from_slot 6 (place_of y) ++ store_to z (register_of 5 (place_of x)) (register_of 6 (place_of y)) ∷ []))) s
          (Ok (with_mem mem (spend w.store (record { fuel = n; ticks = f.ticks; mem = f.mem; vars = f.vars }))))
      made n at v mem first second third =
          let g : flat.State = record { fuel = n; ticks = f.ticks; mem = f.mem; vars = f.vars } in
          let e : flat.State = with_mem mem (spend w.store g) in
          let rx = register_of 5 (place_of x) in
          let ry = register_of 6 (place_of y) in
          let front = from_slot 5 (place_of x) in
          let next = from_slot 6 (place_of y) in
          let last = store_to z rx ry in
          let end = k + length (front ++ (next ++ last ∷ [])) in
          let k1 = k + length front in
          let k2 = k1 + length next in
          let t1 = f.ticks + length front in
          let t2 = t1 + length next in
          let size = length-append front (next ++ last ∷ []) in
          let size2 = length-append next (last ∷ []) in
          let hx = before.held x at first in
          let hy = before.held y v second in
          let behind = has_back l.code k front (next ++ last ∷ []) has in
          let in_time = enough.store z (place_of x) (place_of y) hx.valid hy.valid in
          operand_reach l m sound f.ticks end f.mem f.vars k s 5 x at (Ok e) (omega arith) (omega arith) before
          (has_front l.code k front (next ++ last ∷ []) has) first (λ u1 b1 is1.
          operand_reach l m sound t1 end f.mem f.vars k1 u1 6 y v (Ok e) (omega arith) (omega arith) b1
          (has_front l.code k1 next (last ∷ []) behind) second (λ u2 b2 is2.
          let done = store_found z f.mem mem at v third in
          let found = load_found z f.mem f.mem at done.old (λ a b h. h) done.loads in
          let mapped : (q : ℕ) → at ≤ q → q < at + width z
          → IsSome (get f.mem q) = λ q low high. found.number.mapped q (omega arith) (omega arith) in
          let there : IsSome (number_at u2.mem (width z) at) =
          is_some-number_at (width z) u2.mem at (λ q low high. some_of f.mem u2.mem q b2.memory.seen (mapped q low high)) in
          let holds : register u2.regs rx
          ≡ at = is2.others rx (register_apart l m sound 5 6 (place_of x) (λ q. omega arith) (omega arith) hx.valid)
          ∙ is1.value in
          let address : plus (register u2.regs rx) (extended 2048 (0 % 4096)) ≡ at = rw holds (nothing_added at hx.word) in
          let small = register_small l m sound 5 (place_of x) (omega arith) hx.valid in
          let also = register_small l m sound 6 (place_of y) (omega arith) hy.valid in
          let has_last = (has_back l.code k1 next (last ∷ []) behind).0 in
          let is : with_number f.mem (width z) at v ≡ mem = sym (done.is ∙ stored_number z f.mem at v hy.word) in
          let stands : Before l m mem f.vars (k2 + 1) (with_stored u2 (width z) at v) =
          subst (λ q. Before l m q f.vars (k2 + 1) (with_stored u2 (width z) at v)) is
          (before_stored l m sound f.mem f.vars k2 last u2 (width z) at v b2 has_last mapped) in
          let place : k2 + 1 ≡ end = omega arith in
          step_reach l m sound t2 end f.mem f.vars k2 last u2 (with_stored u2 (width z) at v) (Ok e) b2 has_last
          (store_does z u2 rx ry at v (omega arith) (omega arith) address is2.value found.aligned there)
          (ends_at l m sound (t2 + 1) end (with_stored u2 (width z) at v) e (omega (arith, in_time))
          (subst (λ q. Before l m mem f.vars q (with_stored u2 (width z) at v)) place stands))))

  pub table_reach : (k n : ℕ) (f : flat.State) (s : State) (z : Size) (x i y : ℕ) → Before l m f.mem f.vars k s
      → HasAll l.code k (look_up z (place_of x) (l.offset i) (place_of y) n)
      → k + length (look_up z (place_of x) (l.offset i) (place_of y) n) + n ≡ length l.code → IsValid l (place_of x)
      → Reaches l m sound f.ticks (k + length (look_up z (place_of x) (l.offset i) (place_of y) n)) s
      (fuelled (λ g. given (get g.vars y)
      (λ at. given (slice_get l.tables i) (λ bytes. given (entry z bytes at) (λ v. sets w.table x v g)))) f)
  table_reach k n f s z x i y before has last_are valid =
      let end = k + length (look_up z (place_of x) (l.offset i) (place_of y) n) in
      fuelled_reach l m sound f.ticks end s
      (λ g. given (get g.vars y) (λ at.
      given (slice_get l.tables i) (λ bytes. given (entry z bytes at) (λ v. sets w.table x v g)))) f (λ left.
      let g : flat.State = record { fuel = left; ticks = f.ticks; mem = f.mem; vars = f.vars } in
      given_reach l m sound f.ticks end s (get f.vars y)
      (λ at. given (slice_get l.tables i) (λ bytes. given (entry z bytes at) (λ v. sets w.table x v g))) (λ at first.
      given_reach l m sound f.ticks end s (slice_get l.tables i) (λ bytes. given (entry z bytes at) (λ v. sets w.table x v g))
      (λ bytes second.
      given_reach l m sound f.ticks end s (entry z bytes at) (λ v. sets w.table x v g)
      (λ v third. looked_up left at bytes v first second third))))
    where
      in_text : (at : ℕ) (bytes : List ℕ) (v : ℕ) → slice_get l.tables i ≡ Some bytes → entry z bytes at ≡ Some v
          → l.offset i + at < length l.text
      in_text at bytes v second third =
          let t = tested (nat_eq (at % width z) 0) (word (λ a. slice_get bytes a) z at) v third in
          let b = first_byte (λ a. slice_get bytes a) z at v t.is in
          (sound.table i bytes second).inside at b.value b.is

      looked_up : (left at : ℕ) (bytes : List ℕ) (v : ℕ) → get f.vars y ≡ Some at → slice_get l.tables i ≡ Some bytes
          → entry z bytes at ≡ Some v
          → Reaches l m sound f.ticks (k + length (look_up z (place_of x) (l.offset i) (place_of y) n)) s
          (sets w.table x v (record { fuel = left; ticks = f.ticks; mem = f.mem; vars = f.vars }))
      looked_up left at bytes v first second third =
          let g : flat.State = record { fuel = left; ticks = f.ticks; mem = f.mem; vars = f.vars } in
          let r = sets w.table x v g in
          let table = sound.table i bytes second in
          let rx = register_of 5 (place_of x) in
          let ry = register_of 5 (place_of y) in
          let d = ahead (l.offset i) (2 + length (to_slot (place_of x)) + n) in
          let high = upper d % 1048576 * 4096 in
          let front = from_slot 5 (place_of y) in
          let load = load_at z rx 5 d in
          let sum = Add (reg 5) (reg ry) (reg 6) in
          let last = Auipc (reg 6) (imm20 (upper d)) ∷ (sum ∷ (load ∷ to_slot (place_of x))) in
          let end = k + length (front ++ last) in
          let k1 = k + length front in
          let t1 = f.ticks + length front in
          let size = length-append front last in
          let hy = before.held y at first in
          let in_time = enough.table z (place_of x) (place_of y) (l.offset i) n valid hy.valid in
          let behind = has_back l.code k front last has in
          operand_reach l m sound f.ticks end f.mem f.vars k s 5 y at r (omega arith) (omega arith) before
          (has_front l.code k front last has) first (λ u1 b1 is1.
          set_reach l m sound t1 end f.mem f.vars k1 (Auipc (reg 6) (imm20 (upper d))) u1 6 (plus u1.pc high) r (omega arith)
          (omega arith) b1 behind.0 refl (λ u2 b2 is2.
          let small = register_small l m sound 5 (place_of x) (omega arith) valid in
          let also = register_small l m sound 5 (place_of y) (omega arith) hy.valid in
          let same : ry % 32 ≡ ry = omega arith in
          let holds : register u2.regs ry
          ≡ at = is2.others ry (register_apart l m sound 5 6 (place_of y) (λ q. omega arith) (omega arith) hy.valid)
          ∙ is1.value in
          let added : effect sum u2 ≡ gives u2 5 (plus at (plus u1.pc high)) = rw (same, holds, is2.value) refl in
          set_reach l m sound (t1 + 1) end f.mem f.vars (k1 + 1) sum u2 5 (plus at (plus u1.pc high)) r (omega arith)
          (omega arith) b2 behind.1.0 added (λ u3 b3 is3.
          let begins = l.start + (4 * length l.code + l.offset i) in
          let found = found_by (λ a. slice_get bytes a) z u3.mem begins at v
          (table_placed l m sound f.mem u3.mem (l.offset i) bytes b3.memory table) third in
          let within = in_text at bytes v second third in
          let pc_is = b1.pc in
          let small_far : d < 2 ^ 32 = omega (arith, sound.ends) in
          let whole : at + (u1.pc + d) ≡ begins + at = omega arith in
          let address : plus (register u3.regs 5) (extended 2048 (d % 4096))
          ≡ begins + at = rw is3.value (address_sum at u1.pc high (extended 2048 (d % 4096)) d (parts_sum d small_far)
          (omega (arith, sound.ends)) ∙ whole) in
          let aligned : (begins + at) % width z
          ≡ 0 = entry_aligned z begins at (omega (arith, sound.aligned, table.aligned)) found.aligned in
          let word : v < 2 ^ 32 = found.number.small b3.memory.bytes in
          at_place l m sound (t1 + 1 + 1) (k1 + 1 + 1 + length (load ∷ to_slot (place_of x))) end u3 r (omega arith)
          (result_reach l m sound (t1 + 1 + 1) w.table g (k1 + 1 + 1) u3 load x v b3 behind.1.1 valid word
          (load_does z u3 rx 5 d (begins + at) v (omega arith) (omega arith) address aligned found.number.there)
          (omega (arith, in_time))))))
