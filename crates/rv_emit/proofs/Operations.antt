-- The instructions of an operation make its result.
use Rattle.std.proofs.Common.{◌≡◌, ℕ, ◌+◌, ◌%◌, ◌^◌, ◌<◌, ◌≤◌, ◌∷◌, ◌++◌, length, Ok, refl, ap, subst, arith}
use Rattle.bed_meaning.specs.State.{spend}
use Rattle.bed_syntax.specs.declared.operation.BOp.{BOp}
use Rattle.bed_syntax.specs.declared.operation.BOp.TheVariants as op
use Rattle.bed_syntax.specs.Operation.{apply}
use Rattle.flat_lang.specs.State.{with_var}
use Rattle.flat_lang.specs.State as flat
use Rattle.rv_code.specs.Field.{reg, imm12}
use Rattle.rv_code.specs.declared.instruction.Instr.{Instr}
use Rattle.rv_code.specs.declared.instruction.Instr.TheVariants.{Sltiu, Add, Sub, Sll, Slt, Sltu, Xor, Srl, Sra, Or, And, Mul}
use Rattle.rv_code.specs.declared.instruction.Instr.TheVariants.{Mulhu, Divu, Remu}
use Rattle.rv_machine.specs.Word.{minus}
use Rattle.rv_machine.specs.State.{State, register}
use Rattle.rv_machine.specs.Effect.{effect}
use Rattle.rv_machine.specs.Step.{gives}
use Rattle.rv_emit.specs.Code.{place_of, register_of, to_slot, operation}
use Rattle.rv_emit.proofs.Words.{apply_word, minus_is, less_is, shifted_is, less_signed_is}
use Rattle.rv_emit.proofs.Site.{Site, IsValid, Sound, Before}
use Rattle.rv_emit.proofs.Runs.{HasAll, Reaches, at_place, set_reach}
use Rattle.rv_emit.proofs.Places.{result_reach}

-- the operation is made in register r of the words x and y in a and b, and becomes the variable v
pub record Task (l : Site) (m : State) (f : flat.State) (k : ℕ) (s : State) (r a b x y v : ℕ) : Type 0 where
  pub target : r ≡ register_of 5 (place_of v)
  pub small : r < 32
  pub first_small : a < 32
  pub second_small : b < 32
  pub first_word : x < 2 ^ 32
  pub second_word : y < 2 ^ 32
  pub first : register s.regs a ≡ x
  pub second : register s.regs b ≡ y
  pub before : Before l m f.mem f.vars k s
  pub valid : IsValid l (place_of v)

module _ (l : Site) (m : State) (sound : Sound l m) (t price : ℕ) (f : flat.State) (k : ℕ) (s : State) (r a b x y v : ℕ)
    (task : Task l m f k s r a b x y v) where
  r_is : r % 32 ≡ r
  r_is = omega (arith, task.small)

  a_is : a % 32 ≡ a
  a_is = omega (arith, task.first_small)

  b_is : b % 32 ≡ b
  b_is = omega (arith, task.second_small)

  one_row : (o : BOp) (i : Instr) → HasAll l.code k (i ∷ to_slot (place_of v))
      → t + length (i ∷ to_slot (place_of v)) ≤ f.ticks + price → effect i s ≡ gives s r (apply o x y)
      → Reaches l m sound t (k + length (i ∷ to_slot (place_of v))) s (Ok (with_var v (apply o x y) (spend price f)))
  one_row o i has in_time does =
      result_reach l m sound t price f k s i v (apply o x y) task.before has task.valid
      (apply_word o x y task.first_word task.second_word) (subst (λ q. effect i s ≡ gives s q (apply o x y)) task.target does)
      in_time

  equal_rows : HasAll l.code k (operation op.Eq r a b ++ to_slot (place_of v))
      → t + length (operation op.Eq r a b ++ to_slot (place_of v)) ≤ f.ticks + price
      → Reaches l m sound t (k + length (operation op.Eq r a b ++ to_slot (place_of v))) s
      (Ok (with_var v (apply op.Eq x y) (spend price f)))
  equal_rows has in_time =
      let end = k + length (operation op.Eq r a b ++ to_slot (place_of v)) in
      let e : flat.State = with_var v (apply op.Eq x y) (spend price f) in
      let first : effect (Sub (reg 5) (reg a) (reg b)) s ≡ gives s 5 (minus x y) = rw (a_is, b_is, task.first, task.second) refl
      in
      set_reach l m sound t end f.mem f.vars k (Sub (reg 5) (reg a) (reg b)) s 5 (minus x y) (Ok e) (omega arith) (omega arith)
      task.before has.0 first (λ u stands is.
      let second : effect (Sltiu (reg r) (reg 5) (imm12 1)) u
      ≡ gives u r (apply op.Eq x y) = rw (r_is, is.value) (ap (gives u r) (less_is x y task.first_word task.second_word)) in
      let place : k + 1 + length (Sltiu (reg r) (reg 5) (imm12 1) ∷ to_slot (place_of v)) ≡ end = omega arith in
      at_place l m sound (t + 1) (k + 1 + length (Sltiu (reg r) (reg 5) (imm12 1) ∷ to_slot (place_of v))) end u (Ok e) place
      (result_reach l m sound (t + 1) price f (k + 1) u (Sltiu (reg r) (reg 5) (imm12 1)) v (apply op.Eq x y) stands has.1
      task.valid (apply_word op.Eq x y task.first_word task.second_word)
      (subst (λ q. effect (Sltiu (reg r) (reg 5) (imm12 1)) u ≡ gives u q (apply op.Eq x y)) task.target second)
      (omega (arith, in_time))))

  pub operation_reach : (o : BOp) → HasAll l.code k (operation o r a b ++ to_slot (place_of v))
      → t + length (operation o r a b ++ to_slot (place_of v)) ≤ f.ticks + price
      → Reaches l m sound t (k + length (operation o r a b ++ to_slot (place_of v))) s
      (Ok (with_var v (apply o x y) (spend price f)))
  operation_reach op.Add has in_time =
      one_row op.Add (Add (reg r) (reg a) (reg b)) has in_time (rw (r_is, a_is, b_is, task.first, task.second) refl)
  operation_reach op.Sub has in_time =
      one_row op.Sub (Sub (reg r) (reg a) (reg b)) has in_time
      (rw (r_is, a_is, b_is, task.first, task.second) (ap (gives s r) (minus_is x y task.second_word)))
  operation_reach op.Mul has in_time =
      one_row op.Mul (Mul (reg r) (reg a) (reg b)) has in_time (rw (r_is, a_is, b_is, task.first, task.second) refl)
  operation_reach op.Mulhuu has in_time =
      one_row op.Mulhuu (Mulhu (reg r) (reg a) (reg b)) has in_time (rw (r_is, a_is, b_is, task.first, task.second) refl)
  operation_reach op.Divu has in_time =
      one_row op.Divu (Divu (reg r) (reg a) (reg b)) has in_time (rw (r_is, a_is, b_is, task.first, task.second) refl)
  operation_reach op.Remu has in_time =
      one_row op.Remu (Remu (reg r) (reg a) (reg b)) has in_time (rw (r_is, a_is, b_is, task.first, task.second) refl)
  operation_reach op.And has in_time =
      one_row op.And (And (reg r) (reg a) (reg b)) has in_time (rw (r_is, a_is, b_is, task.first, task.second) refl)
  operation_reach op.Or has in_time =
      one_row op.Or (Or (reg r) (reg a) (reg b)) has in_time (rw (r_is, a_is, b_is, task.first, task.second) refl)
  operation_reach op.Xor has in_time =
      one_row op.Xor (Xor (reg r) (reg a) (reg b)) has in_time (rw (r_is, a_is, b_is, task.first, task.second) refl)
  operation_reach op.Sru has in_time =
      one_row op.Sru (Srl (reg r) (reg a) (reg b)) has in_time (rw (r_is, a_is, b_is, task.first, task.second) refl)
  operation_reach op.Slu has in_time =
      one_row op.Slu (Sll (reg r) (reg a) (reg b)) has in_time (rw (r_is, a_is, b_is, task.first, task.second) refl)
  operation_reach op.Srs has in_time =
      one_row op.Srs (Sra (reg r) (reg a) (reg b)) has in_time
      (rw (r_is, a_is, b_is, task.first, task.second) (ap (gives s r) (shifted_is x y task.first_word)))
  operation_reach op.Lts has in_time =
      one_row op.Lts (Slt (reg r) (reg a) (reg b)) has in_time
      (rw (r_is, a_is, b_is, task.first, task.second) (ap (gives s r) (less_signed_is x y task.first_word task.second_word)))
  operation_reach op.Ltu has in_time =
      one_row op.Ltu (Sltu (reg r) (reg a) (reg b)) has in_time (rw (r_is, a_is, b_is, task.first, task.second) refl)
  operation_reach op.Eq has in_time = equal_rows has in_time
