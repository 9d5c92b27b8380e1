-- Steps lead from machine states to machine states.
use Rattle.std.proofs.Common.{◌≡◌, ℕ, zero, suc, ◌+◌, ◌*◌, ◌/◌, ◌%◌, ◌^◌, ◌<◌, Bool, true, false, cond, List, length, Option}
use Rattle.std.proofs.Common.{Some, None, Result, Ok, Err, is_some, ◌==◌, if◌then◌else◌, refl, sym, ◌∙◌, arith, pow-suc, subst}
use Rattle.std.specs.Ordering.{nat_cmp, eq_by_cmp}
use Rattle.std.specs.Cmp.{nat_cmp_total}
use Rattle.std.specs.FinMap.{get, insert, get-insert}
use Rattle.std.proofs.lemmas.Grind.{common_steps}
use Rattle.rv_machine.specs.declared.cause.Cause.{Cause}
use Rattle.rv_machine.specs.declared.cause.Cause.TheVariants.{FetchMisaligned, Illegal, Ecall, Ebreak, JumpMisaligned}
use Rattle.rv_machine.specs.declared.cause.Cause.TheVariants.{LoadMisaligned, StoreMisaligned, StoreOutside}
use Rattle.rv_machine.specs.Word.{plus}
use Rattle.rv_machine.specs.Fields.{opcode, rd, funct3, rs1, rs2, funct7, extended, immediate_i, immediate_b, immediate_u}
use Rattle.rv_machine.specs.Fields.{immediate_j}
use Rattle.rv_memory.specs.Ranges.{Bytes}
use Rattle.rv_machine.specs.State.{State, register, with_register, joined, number_at, with_number}
use Rattle.rv_machine.specs.Step.{Answer, source1, source2, gives, goes_on, gives_if, jumps, branches, branches_if, inside}
use Rattle.rv_machine.specs.Step.{loaded, loads, load, stores, store, operation_immediate, system, executed, fetched, step}
use Rattle.rv_machine.specs.Step.{then_step, after}
use Rattle.rv_machine.specs.Machines.{IsMachine}
use Rattle.rv_machine.proofs.Bounds.{IsWord, IsWordIf, given_if, extended_below, shifted_left_below, shifted_right_below}
use Rattle.rv_machine.proofs.Bounds.{shifted_signed_below, basic_below, operation_below}
use Rattle.rv_machine.proofs.laws.Registers.{length-with_register}

-- the next state, if there is one, is a machine state
abbrev Kept : Answer → Type 0
Kept (Ok t) = IsMachine t
Kept (Err cause) = Unit {0}

kept_if : (t : Bool) (x y : Answer) → Kept x → Kept y → Kept (if t then x else y)
kept_if true x y h k = h
kept_if false x y h k = k

next_below : (pc : ℕ) → IsWord (plus pc 4)
next_below pc = omega arith

-- the registers stay words
words_with : (regs : List ℕ) (r v : ℕ) → r < length regs → IsWord v → ((q : ℕ) → IsWord (register regs q)) → (q : ℕ)
    → IsWord (register (with_register regs r v) q)
words_with regs r v inside below words q = let before : register regs q < 2 ^ 32 = words q in grind (arith, common_steps)

kept_gives : (s : State) (r v : ℕ) → IsMachine s → r < 32 → IsWord v → Kept (gives s r v)
unfolding gives
kept_gives s r v is few below =
    record {
      registers = length-with_register s.regs r v ∙ is.registers;
      words = words_with s.regs r v (omega (arith, is.registers)) below is.words;
      pc_word = next_below s.pc;
      bytes = is.bytes;
    }

kept_goes_on : (s : State) → IsMachine s → Kept (goes_on s)
unfolding goes_on
kept_goes_on s is = record { registers = is.registers; words = is.words; pc_word = next_below s.pc; bytes = is.bytes }

kept_gives_if : (s : State) (r : ℕ) (v : Option ℕ) → IsMachine s → r < 32 → IsWordIf v → Kept (gives_if s r v)
kept_gives_if s r None is few below = tt
kept_gives_if s r (Some v) is few below = kept_gives s r v is few below

kept_jumps : (s : State) (r target : ℕ) → IsMachine s → r < 32 → IsWord target → Kept (jumps s r target)
unfolding jumps
kept_jumps s r target is few below =
    kept_if (target % 4 == 0) _ (Err JumpMisaligned)
    (record {
      registers = length-with_register s.regs r (plus s.pc 4) ∙ is.registers;
      words = words_with s.regs r (plus s.pc 4) (omega (arith, is.registers)) (next_below s.pc) is.words;
      pc_word = below;
      bytes = is.bytes;
    })
    tt

kept_branches : (s : State) (target : ℕ) (is_taken : Bool) → IsMachine s → IsWord target → Kept (branches s target is_taken)
unfolding branches
kept_branches s target is_taken is below =
    kept_if is_taken _ (goes_on s)
    (kept_if (target % 4 == 0) (Ok (record { regs = s.regs; pc = target; mem = s.mem })) (Err JumpMisaligned)
    (record { registers = is.registers; words = is.words; pc_word = below; bytes = is.bytes }) tt)
    (kept_goes_on s is)

kept_branches_if : (s : State) (target : ℕ) (is_taken : Option Bool) → IsMachine s → IsWord target
    → Kept (branches_if s target is_taken)
kept_branches_if s target None is below = tt
kept_branches_if s target (Some is_taken) is below = kept_branches s target is_taken is below

abbrev AreBytes : Bytes → Type 0
AreBytes m = (address b : ℕ) → get m address ≡ Some b → b < 2 ^ 8

-- a number of so many bytes, if there is one
abbrev IsBelowIf : ℕ → Option ℕ → Type 0
IsBelowIf bound None = Unit {0}
IsBelowIf bound (Some n) = n < bound

joined_below : (size : ℕ) (low high : Option ℕ) → ((b : ℕ) → low ≡ Some b → b < 2 ^ 8) → IsBelowIf (256 ^ size) high
    → IsBelowIf (256 ^ suc size) (joined low high)
joined_below size (Some low) (Some high) first rest = let byte : low < 2 ^ 8 = first low refl in omega (arith, pow-suc 256 size)
joined_below size (Some low) None first rest = tt
joined_below size None high first rest = tt

number_below : (size : ℕ) (m : Bytes) (a : ℕ) → AreBytes m → IsBelowIf (256 ^ size) (number_at m size a)
unfolding number_at
number_below zero m a bytes = omega arith
number_below (suc size) m a bytes =
    joined_below size (get m a) (number_at m size (a + 1)) (bytes a) (number_below size m (a + 1) bytes)

abbrev IsLoadBelow : ℕ → Result ℕ Cause → Type 0
IsLoadBelow bound (Ok n) = n < bound
IsLoadBelow bound (Err cause) = Unit {0}

load_if : (bound : ℕ) (t : Bool) (x y : Result ℕ Cause) → IsLoadBelow bound x → IsLoadBelow bound y
    → IsLoadBelow bound (if t then x else y)
load_if bound true x y h k = h
load_if bound false x y h k = k

inside_below : (bound : ℕ) (n : Option ℕ) → IsBelowIf bound n → IsLoadBelow bound (inside n)
inside_below bound None below = tt
inside_below bound (Some n) below = below

loaded_below : (s : State) (size a : ℕ) → IsMachine s → IsLoadBelow (256 ^ size) (loaded s size a)
unfolding loaded
loaded_below s size a is =
    load_if (256 ^ size) (a % size == 0) (inside (number_at s.mem size a)) (Err LoadMisaligned)
    (inside_below (256 ^ size) (number_at s.mem size a) (number_below size s.mem a is.bytes)) tt

kept_loads : (bound : ℕ) (s : State) (r : ℕ) (shown : ℕ → ℕ) (n : Result ℕ Cause) → IsMachine s → r < 32
    → ((k : ℕ) → k < bound → IsWord (shown k)) → IsLoadBelow bound n → Kept (loads s r shown n)
kept_loads bound s r shown (Ok n) is few words below = kept_gives s r (shown n) is few (words n below)
kept_loads bound s r shown (Err cause) is few words below = tt

stays_below : (t : Bool) (b c : ℕ) (x : Option ℕ) → b < 2 ^ 8 → ((d : ℕ) → x ≡ Some d → d < 2 ^ 8) → cond t (Some b) x ≡ Some c
    → c < 2 ^ 8
stays_below true b c x below others e = let same : b ≡ c = cc in omega arith
stays_below false b c x below others e = others c e

bytes_inserted : (m : Bytes) (a b : ℕ) → b < 2 ^ 8 → AreBytes m → AreBytes (insert m a b)
bytes_inserted m a b below bytes q c e =
    stays_below (eq_by_cmp nat_cmp q a) b c (get m q) below (bytes q) (sym (get-insert nat_cmp_total m a b q) ∙ e)

bytes_stored : (size : ℕ) (m : Bytes) (a v : ℕ) → AreBytes m → AreBytes (with_number m size a v)
unfolding with_number
bytes_stored zero m a v bytes = bytes
bytes_stored (suc size) m a v bytes =
    bytes_stored size (insert m a (v % 256)) (a + 1) (v / 256) (bytes_inserted m a (v % 256) (omega arith) bytes)

kept_stores : (s : State) (size a v : ℕ) → IsMachine s → Kept (stores s size a v)
unfolding stores
kept_stores s size a v is =
    kept_if (a % size == 0) _ (Err StoreMisaligned)
    (kept_if (is_some (number_at s.mem size a))
    (Ok (record { regs = s.regs; pc = plus s.pc 4; mem = with_number s.mem size a v })) (Err StoreOutside)
    (record {
      registers = is.registers;
      words = is.words;
      pc_word = next_below s.pc;
      bytes = bytes_stored size s.mem a v is.bytes;
    }) tt)
    tt

rd_below : (w : ℕ) → rd w < 32
rd_below w = omega arith

immediate_i_below : (w : ℕ) → IsWord w → IsWord (immediate_i w)
immediate_i_below w fits = extended_below 2048 (w / 1048576) (omega arith) (omega arith)

kept_load : (s : State) (w : ℕ) → IsMachine s → Kept (load s w)
kept_load s w is =
    let few = rd_below w in
    kept_if (funct3 w == 0) _ _ (kept_loads (256 ^ 1) s (rd w) (extended 128) _ is few
    (λ n below. extended_below 128 n (omega arith) (omega arith)) (loaded_below s 1 _ is))
    (kept_if (funct3 w == 1) _ _ (kept_loads (256 ^ 2) s (rd w) (extended 32768) _ is few
    (λ n below. extended_below 32768 n (omega arith) (omega arith)) (loaded_below s 2 _ is))
    (kept_if (funct3 w == 2) _ _ (kept_loads (256 ^ 4) s (rd w) (λ n. n) _ is few (λ n below. omega arith)
    (loaded_below s 4 _ is))
    (kept_if (funct3 w == 4) _ _ (kept_loads (256 ^ 1) s (rd w) (λ n. n) _ is few (λ n below. omega arith)
    (loaded_below s 1 _ is))
    (kept_if (funct3 w == 5) _ (Err Illegal)
    (kept_loads (256 ^ 2) s (rd w) (λ n. n) _ is few (λ n below. omega arith) (loaded_below s 2 _ is)) tt))))

kept_store : (s : State) (w : ℕ) → IsMachine s → Kept (store s w)
kept_store s w is =
    kept_if (funct3 w == 0) _ _ (kept_stores s 1 _ _ is)
    (kept_if (funct3 w == 1) _ _ (kept_stores s 2 _ _ is)
    (kept_if (funct3 w == 2) _ (Err Illegal) (kept_stores s 4 _ _ is) tt))

operation_immediate_below : (s : State) (w : ℕ) → IsMachine s → IsWord w → IsWordIf (operation_immediate s w)
operation_immediate_below s w is fits =
    let amount : IsWord (rs2 w) = omega arith in
    let a : IsWord (source1 s w) = is.words (rs1 w) in
    given_if (funct3 w == 1) _ _ (given_if (funct7 w == 0) _ None (shifted_left_below (source1 s w) (rs2 w) a amount) tt)
    (given_if (funct3 w == 5) _ _
    (given_if (funct7 w == 0) _ _ (shifted_right_below (source1 s w) (rs2 w) a amount)
    (given_if (funct7 w == 32) _ None (shifted_signed_below (source1 s w) (rs2 w) a amount) tt))
    (basic_below (funct3 w) (source1 s w) (immediate_i w) a (immediate_i_below w fits)))

kept_system : (w : ℕ) → Kept (system w)
kept_system w = kept_if (w == 115) (Err Ecall) _ tt (kept_if (w == 1048691) (Err Ebreak) (Err Illegal) tt tt)

kept-executed : (s : State) (w : ℕ) → IsMachine s → IsWord w → Kept (executed s w)
unfolding executed
kept-executed s w is fits =
    let few = rd_below w in
    let upper : IsWord (immediate_u w) = omega arith in
    let target : IsWord (plus (source1 s w) (immediate_i w) / 2 * 2) = omega arith in
    kept_if (opcode w == 55) _ _ (kept_gives s (rd w) (immediate_u w) is few upper)
    (kept_if (opcode w == 23) _ _ (kept_gives s (rd w) (plus s.pc (immediate_u w)) is few (omega arith))
    (kept_if (opcode w == 111) _ _ (kept_jumps s (rd w) (plus s.pc (immediate_j w)) is few (omega arith))
    (kept_if (opcode w == 103) _ _ (kept_if (funct3 w == 0) _ (Err Illegal) (kept_jumps s (rd w) _ is few target) tt)
    (kept_if (opcode w == 99) _ _ (kept_branches_if s (plus s.pc (immediate_b w)) _ is (omega arith))
    (kept_if (opcode w == 3) _ _ (kept_load s w is)
    (kept_if (opcode w == 35) _ _ (kept_store s w is)
    (kept_if (opcode w == 19) _ _ (kept_gives_if s (rd w) _ is few (operation_immediate_below s w is fits))
    (kept_if (opcode w == 51) _ _ (kept_gives_if s (rd w) _ is few
    (operation_below (funct7 w) (funct3 w) (source1 s w) (source2 s w) (is.words (rs1 w)) (is.words (rs2 w))))
    (kept_if (opcode w == 15) _ _ (kept_if (funct3 w == 0) _ (Err Illegal) (kept_goes_on s is) tt) (kept_system w))))))))))

kept-fetched : (s : State) (w : Option ℕ) → IsMachine s → IsBelowIf (256 ^ 4) w → Kept (fetched s w)
kept-fetched s None is fits = tt
kept-fetched s (Some w) is fits = kept-executed s w is (omega arith)

kept-step : (s : State) → IsMachine s → Kept (step s)
unfolding step
kept-step s is =
    kept_if (s.pc % 4 == 0) _ (Err FetchMisaligned)
    (kept-fetched s (number_at s.mem 4 s.pc) is (number_below 4 s.mem s.pc is.bytes)) tt

kept-then_step : (x : Answer) → Kept x → Kept (then_step x)
kept-then_step (Ok s) is = kept-step s is
kept-then_step (Err cause) is = tt

kept-steps : (n : ℕ) (s : State) → IsMachine s → Kept (after n s)
unfolding after
kept-steps zero s is = is
kept-steps (suc n) s is = kept-then_step (after n s) (kept-steps n s is)

pub kept-after : (n : ℕ) (s t : State) → IsMachine s → after n s ≡ Ok t → IsMachine t
kept-after n s t is goes = subst Kept goes (kept-steps n s is)
