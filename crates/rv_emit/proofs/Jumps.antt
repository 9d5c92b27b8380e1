-- What jumps and branches do.
use Rattle.std.proofs.Common.{◌≡◌, ℕ, suc, ◌+◌, ◌-◌, ◌*◌, ◌%◌, ◌^◌, ◌<◌, ◌≤◌, length, Result, Ok, Err, Bool, true, false, not}
use Rattle.std.proofs.Common.{◌==◌, refl, subst, arith}
use Rattle.std.proofs.lemmas.Bool.{ltb-true}
use Rattle.bed_meaning.specs.declared.halt.Halt.{Halt}
use Rattle.flat_lang.specs.State.{Vars}
use Rattle.flat_lang.specs.State as flat
use Rattle.rv_code.specs.declared.instruction.Instr.{Instr}
use Rattle.rv_machine.specs.Word.{plus}
use Rattle.rv_machine.specs.Fields.{extended}
use Rattle.rv_machine.specs.State.{State, register}
use Rattle.rv_memory.specs.Ranges.{Bytes}
use Rattle.rv_machine.specs.Effect.{effect}
use Rattle.rv_machine.specs.Step.{jumps, branches}
use Rattle.rv_machine.proofs.laws.Runs.{leads_on}
use Rattle.rv_code.specs.Field.{reg, imm13}
use Rattle.rv_code.specs.declared.instruction.Instr.TheVariants.{Bne}
use Rattle.rv_emit.specs.Code.{place_of, jump, jump_back, over_by, over, branch_over, is_near}
use Rattle.rv_emit.proofs.Does.{goes_on_is}
use Rattle.reg_alloc.specs.declared.plan.At.{At}
use Rattle.reg_alloc.specs.declared.plan.At.TheVariants.{Reg as Register, Slot}
use Rattle.rv_emit.proofs.Site.{Site, InCode, Sound, Holds, Before}
use Rattle.rv_emit.proofs.Runs.{Has, HasAll, Reaches, step_at, next_pc, step_reach, later}

abbrev pub at_pc : State → ℕ → State
at_pc s pc = record { regs = s.regs; pc = pc; mem = s.mem }

jumps_is : (s : State) (a b : ℕ) → a ≡ b → b % 4 ≡ 0 → jumps s 0 a ≡ Ok (at_pc s b)
unfolding jumps
jumps_is s a b same aligned = rw (same, aligned)

branch_taken : (s : State) (a b : ℕ) (t : Bool) → t ≡ true → a ≡ b → b % 4 ≡ 0 → branches s a t ≡ Ok (at_pc s b)
unfolding branches
branch_taken s a b t taken same aligned = rw (taken, same, aligned)

branch_passed : (s : State) (a : ℕ) (t : Bool) → t ≡ false → branches s a t ≡ Ok (at_pc s (plus s.pc 4))
unfolding branches
branch_passed s a t passed = rw passed (goes_on_is s)

forward : (pc n : ℕ) → n < 260000 → pc + 4 * n < 2 ^ 32 → plus pc (extended 1048576 (2 * (2 * n % 1048576))) ≡ pc + 4 * n
forward pc n near ends = grind arith

near : (pc n : ℕ) → n < 1022 → pc + 4 * (n + 1) < 2 ^ 32 → plus pc (extended 4096 (2 * (2 * (n + 1) % 4096))) ≡ pc + 4 * (n + 1)
near pc n few ends = grind arith

is_zero : (n : ℕ) → n ≡ 0 → (n == 0) ≡ true
is_zero n h = rw h refl

not_zero : (n v : ℕ) → n ≡ suc v → (n == 0) ≡ false
not_zero n v h = rw h (grind arith)

back : (pc n : ℕ) → 0 < n → n < 260000 → 4 * n ≤ pc → pc < 2 ^ 32 → plus pc (extended 1048576 (2 * ((1048576 - 2 * n) % 1048576)))
    ≡ pc - 4 * n
back pc n some near begins word = grind arith

module _ (l : Site) (m : State) (sound : Sound l m) where
  pub moved : (mem : Bytes) (vars : Vars) (k k2 pc : ℕ) (s : State) → Before l m mem vars k s → pc ≡ l.start + 4 * k2
      → Before l m mem vars k2 (at_pc s pc)
  moved mem vars k k2 pc s before is =
      record {
        pc = is;
        count = before.count;
        sp = before.sp;
        kept = before.kept;
        held = λ x v found. let h = before.held x v found in
            record { valid = h.valid; word = h.word; there = holds s pc (place_of x) v h.there };
        memory = before.memory;
      }
    where
      holds : (s : State) (pc : ℕ) (p : At) (v : ℕ) → Holds l s p v → Holds l (at_pc s pc) p v
      holds s pc (Slot j) v there = there
      holds s pc (Register r) v there = there

  -- an instruction that only moves
  pub record Moves (mem : Bytes) (vars : Vars) (i : Instr) (k2 : ℕ) (s : State) : Type 0 where
    pub after : State
    pub does : effect i s ≡ Ok after
    pub regs : after.regs ≡ s.regs
    pub stands : Before l m mem vars k2 after

  pub jump_moves : (mem : Bytes) (vars : Vars) (k n : ℕ) (s : State) → Before l m mem vars k s → k + n < length l.code
      → Moves mem vars (jump n) (k + n) s
  jump_moves mem vars k n s before inside =
      let target : plus s.pc (extended 1048576 (2 * (2 * n % 1048576)))
      ≡ s.pc + 4 * n = forward s.pc n (omega (arith, sound.short)) (omega (arith, before.pc, sound.ends)) in
      let aligned : (s.pc + 4 * n) % 4 ≡ 0 = omega (arith, before.pc, sound.aligned) in
      record {
        after = at_pc s (s.pc + 4 * n);
        does = jumps_is s _ (s.pc + 4 * n) target aligned;
        regs = refl;
        stands = moved mem vars k (k + n) (s.pc + 4 * n) s before (omega (arith, before.pc));
      }

  pub back_moves : (mem : Bytes) (vars : Vars) (k k2 n : ℕ) (s : State) → Before l m mem vars k s → k2 + n ≡ k → 0 < n
      → k < length l.code → Moves mem vars (jump_back n) k2 s
  back_moves mem vars k k2 n s before whole some inside =
      let target : plus s.pc (extended 1048576 (2 * ((1048576 - 2 * n) % 1048576)))
      ≡ s.pc - 4 * n = back s.pc n some (omega (arith, sound.short)) (omega (arith, before.pc))
      (omega (arith, before.pc, sound.ends)) in
      let aligned : (s.pc - 4 * n) % 4 ≡ 0 = omega (arith, before.pc, sound.aligned) in
      record {
        after = at_pc s (s.pc - 4 * n);
        does = jumps_is s _ (s.pc - 4 * n) target aligned;
        regs = refl;
        stands = moved mem vars k k2 (s.pc - 4 * n) s before (omega (arith, before.pc));
      }

  -- an instruction that only moves, and the run behind it
  pub move_on : (t k2 : ℕ) (mem : Bytes) (vars : Vars) (k k1 : ℕ) (i : Instr) (s : State) (r : Result flat.State Halt)
      → Before l m mem vars k s → Has l.code k i → Moves mem vars i k1 s
      → ((u : State) → Before l m mem vars k1 u → Reaches l m sound (t + 1) k2 u r) → Reaches l m sound t k2 s r
  move_on t k2 mem vars k k1 i s r before has moves on =
      step_reach l m sound t k2 mem vars k i s moves.after r before has moves.does (on moves.after moves.stands)

  -- a run, and one instruction more that moves
  pub then_move : (t k1 k2 : ℕ) (i : Instr) (s : State) (r : Result flat.State Halt) → Reaches l m sound (t + 1) k1 s r
      → Has l.code k1 i → ((mem : Bytes) (vars : Vars) (u : State) → Before l m mem vars k1 u → Moves mem vars i k2 u)
      → Reaches l m sound t k2 s r
  then_move t k1 k2 i s (Err h) reach has moves = tt
  then_move t k1 k2 i s (Ok f) reach has moves =
      let u = reach.1 in
      let done = moves f.mem f.vars u reach.4 in
      let next = has.next in
      let stands = reach.4 in
      let here : InCode l u.pc = (omega (arith, stands.pc), omega (arith, stands.pc)) in (
        suc reach.0,
        done.after,
        omega (arith, reach.2),
        leads_on (InCode l) s reach.0 u done.after reach.3 here
            (step_at l m sound f.mem f.vars k1 i u (Ok done.after) stands has done.does),
        done.stands,
      )

  branch_stays : (t k2 : ℕ) (mem : Bytes) (vars : Vars) (k : ℕ) (s : State) (r n v : ℕ) (res : Result flat.State Halt) (b : Bool)
      → r < 32 → Before l m mem vars k s → register s.regs r ≡ suc v → HasAll l.code k (over_by b r n)
      → ((u : State) → Before l m mem vars (k + length (over_by b r n)) u → Reaches l m sound (t + 1) k2 u res)
      → Reaches l m sound t k2 s res
  branch_stays t k2 mem vars k s r n v res true small before holds has on =
      let same : r % 32 ≡ r = omega arith in
      let test : ((register s.regs r) == 0) ≡ false = not_zero (register s.regs r) v holds in
      move_on t k2 mem vars k (k + 1) (branch_over r n) s res before has.0
      (record {
        after = at_pc s (plus s.pc 4);
        does = rw same (branch_passed s _ _ test);
        regs = refl;
        stands = moved mem vars k (k + 1) (plus s.pc 4) s before (next_pc l m sound mem vars k (branch_over r n) s before has.0);
      }) on
  branch_stays t k2 mem vars k s r n v res false small before holds has on =
      let same : r % 32 ≡ r = omega arith in
      let next = has.1.0.next in
      let target : plus s.pc (extended 4096 (2 * (4 % 4096))) ≡ s.pc + 8 = omega (arith, before.pc, sound.ends) in
      let aligned : (s.pc + 8) % 4 ≡ 0 = omega (arith, before.pc, sound.aligned) in
      let test : not ((register s.regs r) == 0) ≡ true = rw (not_zero (register s.regs r) v holds) refl in
      move_on t k2 mem vars k (k + 2) (Bne (reg r) (reg 0) (imm13 4)) s res before has.0
      (record {
        after = at_pc s (s.pc + 8);
        does = rw same (branch_taken s _ (s.pc + 8) _ test target aligned);
        regs = refl;
        stands = moved mem vars k (k + 2) (s.pc + 8) s before (omega (arith, before.pc));
      }) on

  branch_goes : (t k2 : ℕ) (mem : Bytes) (vars : Vars) (k : ℕ) (s : State) (r n : ℕ) (res : Result flat.State Halt) (b : Bool)
      → (b ≡ true → n < 1022) → r < 32 → Before l m mem vars k s → register s.regs r ≡ 0 → HasAll l.code k (over_by b r n)
      → k + length (over_by b r n) + n < length l.code
      → ((u : State) → Before l m mem vars (k + length (over_by b r n) + n) u → Reaches l m sound (t + 2) k2 u res)
      → Reaches l m sound t k2 s res
  branch_goes t k2 mem vars k s r n res true few small before holds has inside on =
      let same : r % 32 ≡ r = omega arith in
      let target : plus s.pc (extended 4096 (2 * (2 * (n + 1) % 4096)))
      ≡ s.pc + 4 * (n + 1) = near s.pc n (few refl) (omega (arith, before.pc, sound.ends, inside)) in
      let aligned : (s.pc + 4 * (n + 1)) % 4 ≡ 0 = omega (arith, before.pc, sound.aligned) in
      let test : ((register s.regs r) == 0) ≡ true = is_zero (register s.regs r) holds in
      move_on t k2 mem vars k (k + 1 + n) (branch_over r n) s res before has.0
      (record {
        after = at_pc s (s.pc + 4 * (n + 1));
        does = rw same (branch_taken s _ (s.pc + 4 * (n + 1)) _ test target aligned);
        regs = refl;
        stands = moved mem vars k (k + 1 + n) (s.pc + 4 * (n + 1)) s before (omega (arith, before.pc));
      })
      (λ u stands. later l m sound (t + 1) (t + 2) k2 u res (omega arith) (on u stands))
  branch_goes t k2 mem vars k s r n res false few small before holds has inside on =
      let same : r % 32 ≡ r = omega arith in
      let test : not ((register s.regs r) == 0) ≡ false = rw (is_zero (register s.regs r) holds) refl in
      let place : k + 1 + (n + 1) ≡ k + 2 + n = omega arith in
      let time : t + 1 + 1 ≡ t + 2 = omega arith in
      move_on t k2 mem vars k (k + 1) (Bne (reg r) (reg 0) (imm13 4)) s res before has.0
      (record {
        after = at_pc s (plus s.pc 4);
        does = rw same (branch_passed s _ _ test);
        regs = refl;
        stands = moved mem vars k (k + 1) (plus s.pc 4) s before
            (next_pc l m sound mem vars k (Bne (reg r) (reg 0) (imm13 4)) s before has.0);
      }) (λ u stands.
      move_on (t + 1) k2 mem vars (k + 1) (k + 1 + (n + 1)) (jump (n + 1)) u res stands has.1.0
      (jump_moves mem vars (k + 1) (n + 1) u stands (omega (arith, inside))) (λ q ends.
      subst (λ z. Reaches l m sound z k2 q res) (let back : t + 2 ≡ t + 1 + 1 = omega arith in back)
      (on q (subst (λ z. Before l m mem vars z q) place ends))))

  -- the register is not 0: what is behind follows
  pub over_stays : (t k2 : ℕ) (mem : Bytes) (vars : Vars) (k : ℕ) (s : State) (r n v : ℕ) (res : Result flat.State Halt) → r < 32
      → Before l m mem vars k s → HasAll l.code k (over r n) → register s.regs r ≡ suc v
      → ((u : State) → Before l m mem vars (k + length (over r n)) u → Reaches l m sound (t + 1) k2 u res)
      → Reaches l m sound t k2 s res
  over_stays t k2 mem vars k s r n v res small before has holds on =
      branch_stays t k2 mem vars k s r n v res (is_near n) small before holds has on

  -- the register is 0: so many instructions are left out
  pub over_goes : (t k2 : ℕ) (mem : Bytes) (vars : Vars) (k : ℕ) (s : State) (r n : ℕ) (res : Result flat.State Halt) → r < 32
      → Before l m mem vars k s → HasAll l.code k (over r n) → register s.regs r ≡ 0 → k + length (over r n) + n < length l.code
      → ((u : State) → Before l m mem vars (k + length (over r n) + n) u → Reaches l m sound (t + 2) k2 u res)
      → Reaches l m sound t k2 s res
  over_goes t k2 mem vars k s r n res small before has holds inside on =
      branch_goes t k2 mem vars k s r n res (is_near n) (λ is. ltb-true n 1022 is) small before holds has inside on
