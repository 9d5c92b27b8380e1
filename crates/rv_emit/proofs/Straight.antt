-- Literals, copies and operations run as they mean.
use Rattle.std.proofs.Common.{◌≡◌, ℕ, ◌+◌, ◌*◌, ◌%◌, ◌^◌, ◌<◌, ◌≤◌, Bool, true, false, [], ◌∷◌, ◌++◌, length, Some, Ok, refl, ap}
use Rattle.std.proofs.Common.{◌∙◌, subst, arith, length-append}
use Rattle.std.specs.FinMap.{get}
use Rattle.bed_meaning.specs.State.{spend}
use Rattle.bed_meaning.specs.Fuelled.{given, fuelled}
use Rattle.bed_syntax.specs.declared.operation.BOp.{BOp}
use Rattle.bed_syntax.specs.declared.operation.Size.{Size}
use Rattle.bed_syntax.specs.Operation.{apply}
use Rattle.bed_syntax.specs.declared.weights.Weights.{Weights}
use Rattle.flat_lang.specs.State.{with_var}
use Rattle.flat_lang.specs.State as flat
use Rattle.flat_lang.specs.Meaning.{sets}
use Rattle.reg_alloc.specs.declared.plan.At.{At}
use Rattle.reg_alloc.specs.declared.plan.At.TheVariants.{Reg as Register, Slot}
use Rattle.rv_code.specs.Field.{reg, imm12, imm20}
use Rattle.rv_code.specs.declared.instruction.Instr.TheVariants.{Lui, Addi}
use Rattle.rv_machine.specs.Word.{plus}
use Rattle.rv_machine.specs.Fields.{extended}
use Rattle.rv_machine.specs.State.{State, register}
use Rattle.rv_machine.specs.Effect.{effect}
use Rattle.rv_machine.specs.Step.{gives}
use Rattle.rv_emit.specs.Code.{place_of, fetch, save, register_of, from_slot, to_slot, copied, is_short, literal_by, literal}
use Rattle.rv_emit.specs.Code.{operation, upper, look_up, load_at, store_to}
use Rattle.rv_emit.proofs.Does.{parts_sum}
use Rattle.rv_emit.proofs.Site.{Site, IsValid, Sound, Before, register_small, register_apart}
use Rattle.rv_emit.proofs.Runs.{HasAll, has_front, has_back, Reaches, at_place, set_reach, step_reach, ends_at, given_reach}
use Rattle.rv_emit.proofs.Runs.{fuelled_reach}
use Rattle.rv_emit.proofs.Places.{operand_reach, result_reach, save_reach, fetch_does, register_set}
use Rattle.rv_emit.proofs.Operations.{Task, operation_reach}

-- the ticks of each kind are enough for its steps, where its places are those of a site
pub record Enough (w : Weights) (l : Site) : Type 0 where
  pub literal : (p : At) (v : ℕ) → IsValid l p → length (literal (register_of 5 p) v ++ to_slot p) ≤ w.literal
  pub variable : (p q : At) → IsValid l p → IsValid l q → length (copied p q) ≤ w.variable
  pub operation : (o : BOp) (p q r : At) → IsValid l p → IsValid l q → IsValid l r
      → length (from_slot 5 q ++ (from_slot 6 r
      ++ (operation o (register_of 5 p) (register_of 5 q) (register_of 6 r) ++ to_slot p))) ≤ w.operation
  pub load : (z : Size) (p q : At) → IsValid l p → IsValid l q
      → length (from_slot 5 q ++ (load_at z (register_of 5 p) (register_of 5 q) 0 ∷ to_slot p)) ≤ w.load
  pub table : (z : Size) (p q : At) (offset n : ℕ) → IsValid l p → IsValid l q → length (look_up z p offset q n) ≤ w.table
  pub store : (z : Size) (p q : At) → IsValid l p → IsValid l q
      → length (from_slot 5 p ++ (from_slot 6 q ++ store_to z (register_of 5 p) (register_of 6 q) ∷ [])) ≤ w.store
  pub test : (p : At) → IsValid l p → length (from_slot 5 p) + 2 ≤ w.test
  pub turn : (p : At) → IsValid l p → length (from_slot 5 p) + 2 ≤ w.turn

-- a short word is its low twelve bits with their sign
short_sum : (n : ℕ) → n < 2 ^ 32 → is_short n ≡ true → plus 0 (extended 2048 (n % 4096)) ≡ n
short_sum n below short = grind (arith, short)

module _ (l : Site) (m : State) (sound : Sound l m) (w : Weights) (enough : Enough w l) where
  literal_made : (k : ℕ) (f : flat.State) (s : State) (x v r : ℕ) (b : Bool) → is_short v ≡ b → r ≡ register_of 5 (place_of x)
      → r < 32 → Before l m f.mem f.vars k s
      → HasAll l.code k ((literal_by b r v) ++ to_slot (place_of x)) → IsValid l (place_of x) → v < 2 ^ 32
      → length ((literal_by b r v) ++ to_slot (place_of x)) ≤ w.literal
      → Reaches l m sound f.ticks (k + length ((literal_by b r v) ++ to_slot (place_of x))) s
      (Ok (with_var x v (spend w.literal f)))
  literal_made k f s x v r true short is small before has valid word in_time =
      let same : r % 32 ≡ r = omega arith in
      let does : effect (Addi (reg r) (reg 0) (imm12 v)) s ≡ gives s r v = rw same (ap (gives s r) (short_sum v word short)) in
      result_reach l m sound f.ticks w.literal f k s (Addi (reg r) (reg 0) (imm12 v)) x v before has valid word
      (subst (λ q. effect (Addi (reg r) (reg 0) (imm12 v)) s ≡ gives s q v) is does) (omega (arith, in_time))
  literal_made k f s x v r false long is small before has valid word in_time =
      let same : r % 32 ≡ r = omega arith in
      let last = Addi (reg r) (reg 5) (imm12 v) in
      let end = k + length (Lui (reg 5) (imm20 (upper v)) ∷ (last ∷ to_slot (place_of x))) in
      let e : flat.State = with_var x v (spend w.literal f) in
      set_reach l m sound f.ticks end f.mem f.vars k (Lui (reg 5) (imm20 (upper v))) s 5 (upper v % 1048576 * 4096) (Ok e)
      (omega arith) (omega arith) before has.0 refl (λ u stands set.
      let does : effect last u ≡ gives u r v = rw (same, set.value) (ap (gives u r) (parts_sum v word)) in
      let place : k + 1 + length (last ∷ to_slot (place_of x)) ≡ end = omega arith in
      at_place l m sound (f.ticks + 1) (k + 1 + length (last ∷ to_slot (place_of x))) end u (Ok e) place
      (result_reach l m sound (f.ticks + 1) w.literal f (k + 1) u last x v stands has.1 valid word
      (subst (λ q. effect last u ≡ gives u q v) is does) (omega (arith, in_time))))

  pub literal_reach : (k : ℕ) (f : flat.State) (s : State) (x v : ℕ) → Before l m f.mem f.vars k s
      → HasAll l.code k (literal (register_of 5 (place_of x)) v ++ to_slot (place_of x)) → IsValid l (place_of x) → v < 2 ^ 32
      → Reaches l m sound f.ticks (k + length (literal (register_of 5 (place_of x)) v ++ to_slot (place_of x))) s
      (fuelled (λ g. sets w.literal x v g) f)
  literal_reach k f s x v before has valid word =
      fuelled_reach l m sound f.ticks (k + length (literal (register_of 5 (place_of x)) v ++ to_slot (place_of x))) s
      (λ g. sets w.literal x v g) f (λ n.
      let g : flat.State = record { fuel = n; ticks = f.ticks; mem = f.mem; vars = f.vars } in
      literal_made k g s x v (register_of 5 (place_of x)) (is_short v) refl refl
      (register_small l m sound 5 (place_of x) (omega arith) valid) before has valid word
      (enough.literal (place_of x) v valid))

  copied_by : (k : ℕ) (f : flat.State) (s : State) (x y v : ℕ) (p : At) → place_of x ≡ p → Before l m f.mem f.vars k s
      → HasAll l.code k (copied p (place_of y)) → IsValid l (place_of x) → IsValid l p → get f.vars y ≡ Some v
      → Reaches l m sound f.ticks (k + length (copied p (place_of y))) s (Ok (with_var x v (spend w.variable f)))
  copied_by k f s x y v (Register r) is before has valid also found =
      let h = before.held y v found in
      let e : flat.State = with_var x v (spend w.variable f) in
      let in_time = enough.variable (Register r) (place_of y) also h.valid in
      let done = register_set l m sound f.mem f.vars k s (fetch r (place_of y)) x v r before has.0 valid is h.word
      (fetch_does l m sound f.mem f.vars k s r v (place_of y) (sound.to r also) before h.valid h.word h.there) in
      step_reach l m sound f.ticks (k + 1) f.mem f.vars k (fetch r (place_of y)) s done.after (Ok e) before has.0 done.does
      (ends_at l m sound (f.ticks + 1) (k + 1) done.after e (omega (arith, in_time)) done.stands)
  copied_by k f s x y v (Slot j) is before has valid also found =
      let h = before.held y v found in
      let e : flat.State = with_var x v (spend w.variable f) in
      let from = from_slot 5 (place_of y) in
      let last = save (register_of 5 (place_of y)) (Slot j) in
      let in_time = enough.variable (Slot j) (place_of y) also h.valid in
      let size = length-append from (last ∷ []) in
      let end = k + length (from ++ last ∷ []) in
      operand_reach l m sound f.ticks end f.mem f.vars k s 5 y v (Ok e) (omega arith) (omega arith) before
      (has_front l.code k from (last ∷ []) has) found (λ u stands at.
      at_place l m sound (f.ticks + length from) (k + length from + 1) end u (Ok e) (omega arith)
      (save_reach l m sound (f.ticks + length from) w.variable f (k + length from) u (register_of 5 (place_of y)) x v j
      (register_small l m sound 5 (place_of y) (omega arith) h.valid) is stands (has_back l.code k from (last ∷ []) has).0
      valid h.word at.value (omega (arith, in_time))))

  pub copy_reach : (k : ℕ) (f : flat.State) (s : State) (x y : ℕ) → Before l m f.mem f.vars k s
      → HasAll l.code k (copied (place_of x) (place_of y)) → IsValid l (place_of x)
      → Reaches l m sound f.ticks (k + length (copied (place_of x) (place_of y))) s
      (fuelled (λ g. given (get g.vars y) (λ v. sets w.variable x v g)) f)
  copy_reach k f s x y before has valid =
      let end = k + length (copied (place_of x) (place_of y)) in
      fuelled_reach l m sound f.ticks end s (λ g. given (get g.vars y) (λ v. sets w.variable x v g)) f (λ n.
      let g : flat.State = record { fuel = n; ticks = f.ticks; mem = f.mem; vars = f.vars } in
      given_reach l m sound f.ticks end s (get f.vars y) (λ v. sets w.variable x v g) (λ v found.
      copied_by k g s x y v (place_of x) refl before has valid valid found))

  pub bin_reach : (k : ℕ) (f : flat.State) (s : State) (o : BOp) (x y z : ℕ) → Before l m f.mem f.vars k s
      → HasAll l.code k (from_slot 5 (place_of y)
      ++ (from_slot 6 (place_of z) ++
      (operation o (register_of 5 (place_of x)) (register_of 5 (place_of y)) (register_of 6 (place_of z))
      ++ to_slot (place_of x)))) → IsValid l (place_of x)
      → Reaches l m sound f.ticks (k
      + length (from_slot 5 (place_of y)
      ++ (from_slot 6 (place_of z) ++
      (operation o (register_of 5 (place_of x)) (register_of 5 (place_of y)) (register_of 6 (place_of z))
      ++ to_slot (place_of x))))) s (fuelled
      (λ g. given (get g.vars y) (λ a. given (get g.vars z) (λ b. sets w.operation x (apply o a b) g))) f)
  bin_reach k f s o x y z before has valid =
      let end = k + length (from_slot 5 (place_of y)
      ++ (from_slot 6 (place_of z) ++
      (operation o (register_of 5 (place_of x)) (register_of 5 (place_of y)) (register_of 6 (place_of z))
      ++ to_slot (place_of x)))) in
      fuelled_reach l m sound f.ticks end s
      (λ g. given (get g.vars y) (λ a. given (get g.vars z) (λ b. sets w.operation x (apply o a b) g))) f (λ n.
      let g : flat.State = record { fuel = n; ticks = f.ticks; mem = f.mem; vars = f.vars } in
      given_reach l m sound f.ticks end s (get f.vars y) (λ a. given (get f.vars z) (λ b. sets w.operation x (apply o a b) g))
      (λ a first.
      given_reach l m sound f.ticks end s (get f.vars z) (λ b. sets w.operation x (apply o a b) g) (λ b second.
      made n a b first second)))
    where
      made : (n a b : ℕ) → get f.vars y ≡ Some a → get f.vars z ≡ Some b
          → Reaches l m sound f.ticks (k
          + length (from_slot 5 (place_of y)
          ++ (from_slot 6 (place_of z) ++
          (operation o (register_of 5 (place_of x)) (register_of 5 (place_of y)) (register_of 6 (place_of z))
          ++ to_slot (place_of x))))) s
          (Ok (with_var x (apply o a b) (spend w.operation (record { fuel = n; ticks = f.ticks; mem = f.mem; vars = f.vars }))))
      made n a b first second =
          let g : flat.State = record { fuel = n; ticks = f.ticks; mem = f.mem; vars = f.vars } in
          let e : flat.State = with_var x (apply o a b) (spend w.operation g) in
          let ry = register_of 5 (place_of y) in
          let rz = register_of 6 (place_of z) in
          let front = from_slot 5 (place_of y) in
          let next = from_slot 6 (place_of z) in
          let last = operation o (register_of 5 (place_of x)) ry rz ++ to_slot (place_of x) in
          let end = k + length (front ++ (next ++ last)) in
          let k1 = k + length front in
          let t1 = f.ticks + length front in
          let k2 = k1 + length next in
          let t2 = t1 + length next in
          let size = length-append front (next ++ last) in
          let size2 = length-append next last in
          let hy = before.held y a first in
          let hz = before.held z b second in
          let behind = has_back l.code k front (next ++ last) has in
          let in_time = enough.operation o (place_of x) (place_of y) (place_of z) valid hy.valid hz.valid in
          operand_reach l m sound f.ticks end f.mem f.vars k s 5 y a (Ok e) (omega arith) (omega arith) before
          (has_front l.code k front (next ++ last) has) first (λ u1 b1 at1.
          operand_reach l m sound t1 end f.mem f.vars k1 u1 6 z b (Ok e) (omega arith) (omega arith) b1
          (has_front l.code k1 next last behind) second (λ u2 b2 at2.
          let holds : register u2.regs ry
          ≡ a = at2.others ry (register_apart l m sound 5 6 (place_of y) (λ q. omega arith) (omega arith) hy.valid)
          ∙ at1.value in
          let task : Task l m g k2 u2 (register_of 5 (place_of x)) ry rz a b x = record {
            target = refl;
            small = register_small l m sound 5 (place_of x) (omega arith) valid;
            first_small = register_small l m sound 5 (place_of y) (omega arith) hy.valid;
            second_small = register_small l m sound 6 (place_of z) (omega arith) hz.valid;
            first_word = hy.word;
            second_word = hz.word;
            first = holds;
            second = at2.value;
            before = b2;
            valid = valid;
          } in
          at_place l m sound t2 (k2 + length last) end u2 (Ok e) (omega arith)
          (operation_reach l m sound t2 w.operation g k2 u2 (register_of 5 (place_of x)) ry rz a b x task o
          (has_back l.code k1 next last behind) (omega (arith, in_time)))))
