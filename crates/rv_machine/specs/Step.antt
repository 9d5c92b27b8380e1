-- One step of the machine, row by row of the table of RV32I and the M extension
-- (RISC-V Unprivileged ISA 20191213, chapters 2, 7 and 24), over the number of the word at the program counter.
use Rattle.std.specs.Prelude.{ℕ, zero, suc, ◌*◌, ◌/◌, ◌%◌, Bool, not, List, [], ◌∷◌, Option, Some, None, Result, Ok, Err, is_some}
use Rattle.std.specs.Prelude.{◌==◌, nat_lt, if◌then◌else◌, slice_get, bit_and, bit_or, bit_xor}
use Rattle.rv_machine.specs.declared.cause.Cause.{Cause}
use Rattle.rv_machine.specs.declared.cause.Cause.TheVariants.{FetchMisaligned, FetchOutside, Illegal, Ecall, Ebreak}
use Rattle.rv_machine.specs.declared.cause.Cause.TheVariants.{JumpMisaligned, LoadMisaligned, LoadOutside, StoreMisaligned}
use Rattle.rv_machine.specs.declared.cause.Cause.TheVariants.{StoreOutside}
use Rattle.rv_machine.specs.Word.{plus, minus, shifted_left, shifted_right, shifted_signed, less, is_less_signed, less_signed}
use Rattle.rv_machine.specs.Word.{product, high_signed, high_mixed, high_unsigned, quotient_signed, quotient, remainder_signed}
use Rattle.rv_machine.specs.Word.{remainder}
use Rattle.rv_machine.specs.Fields.{opcode, rd, funct3, rs1, rs2, funct7, extended, immediate_i, immediate_s, immediate_b}
use Rattle.rv_machine.specs.Fields.{immediate_u, immediate_j}
use Rattle.rv_machine.specs.State.{State, register, with_register, number_at, with_number}

abbrev pub Answer : Type 0
Answer = Result State Cause

-- the registers that the word's first and second source name
abbrev pub source1 : State → ℕ → ℕ
source1 s w = register s.regs (rs1 w)

abbrev pub source2 : State → ℕ → ℕ
source2 s w = register s.regs (rs2 w)

-- a register gets a value, and the next instruction follows
unfoldable pub gives : State → ℕ → ℕ → Answer
gives s r value = Ok (record { regs = with_register s.regs r value; pc = plus s.pc 4; mem = s.mem })

unfoldable pub goes_on : State → Answer
goes_on s = Ok (record { regs = s.regs; pc = plus s.pc 4; mem = s.mem })

abbrev pub gives_if : State → ℕ → Option ℕ → Answer
gives_if s r None = Err Illegal
gives_if s r (Some value) = gives s r value

-- LUI, AUIPC
abbrev pub load_upper : State → ℕ → Answer
load_upper s w = gives s (rd w) (immediate_u w)

abbrev pub add_upper : State → ℕ → Answer
add_upper s w = gives s (rd w) (plus s.pc (immediate_u w))

-- a jump: a register gets the place behind it
unfoldable pub jumps : State → ℕ → ℕ → Answer
jumps s r target =
    if target % 4 == 0 then Ok (record { regs = with_register s.regs r (plus s.pc 4); pc = target; mem = s.mem })
    else Err JumpMisaligned

-- JAL, JALR
abbrev pub jump : State → ℕ → Answer
jump s w = jumps s (rd w) (plus s.pc (immediate_j w))

-- the sum with its bit 0 cleared
abbrev pub jump_register : State → ℕ → Answer
jump_register s w = if funct3 w == 0 then jumps s (rd w) (plus (source1 s w) (immediate_i w) / 2 * 2) else Err Illegal

-- BEQ, BNE, none, none, BLT, BGE, BLTU, BGEU by funct3: whether the branch is taken
abbrev pub taken : ℕ → ℕ → ℕ → Option Bool
taken f3 a b =
    if f3 == 0 then Some (a == b)
    else if f3 == 1 then Some (not (a == b))
    else if f3 == 4 then Some (is_less_signed a b)
    else if f3 == 5 then Some (not (is_less_signed a b))
    else if f3 == 6 then Some (nat_lt a b)
    else if f3 == 7 then Some (not (nat_lt a b))
    else None

-- a branch to a target, if it is taken
unfoldable pub branches : State → ℕ → Bool → Answer
branches s target is_taken =
    if is_taken then (if target % 4 == 0 then Ok (record { regs = s.regs; pc = target; mem = s.mem }) else Err JumpMisaligned)
    else goes_on s

abbrev pub branches_if : State → ℕ → Option Bool → Answer
branches_if s target None = Err Illegal
branches_if s target (Some is_taken) = branches s target is_taken

abbrev pub branch : State → ℕ → Answer
branch s w = branches_if s (plus s.pc (immediate_b w)) (taken (funct3 w) (source1 s w) (source2 s w))

abbrev pub inside : Option ℕ → Result ℕ Cause
inside None = Err LoadOutside
inside (Some n) = Ok n

-- the number of so many bytes at an address, or why it can't be loaded
unfoldable pub loaded : State → ℕ → ℕ → Result ℕ Cause
loaded s size address = if address % size == 0 then inside (number_at s.mem size address) else Err LoadMisaligned

-- a register gets what was loaded, shown as a word
abbrev pub loads : State → ℕ → (ℕ → ℕ) → Result ℕ Cause → Answer
loads s r shown (Ok n) = gives s r (shown n)
loads s r shown (Err cause) = Err cause

-- LB, LH, LW, none, LBU, LHU by funct3
abbrev pub load : State → ℕ → Answer
load s w =
    if funct3 w == 0 then loads s (rd w) (extended 128) (loaded s 1 (plus (source1 s w) (immediate_i w)))
    else if funct3 w == 1 then loads s (rd w) (extended 32768) (loaded s 2 (plus (source1 s w) (immediate_i w)))
    else if funct3 w == 2 then loads s (rd w) (λ n. n) (loaded s 4 (plus (source1 s w) (immediate_i w)))
    else if funct3 w == 4 then loads s (rd w) (λ n. n) (loaded s 1 (plus (source1 s w) (immediate_i w)))
    else if funct3 w == 5 then loads s (rd w) (λ n. n) (loaded s 2 (plus (source1 s w) (immediate_i w)))
    else Err Illegal

-- a store of so many low bytes of a value
unfoldable pub stores : State → ℕ → ℕ → ℕ → Answer
stores s size address value =
    if address % size == 0
    then (if is_some (number_at s.mem size address)
    then Ok (record { regs = s.regs; pc = plus s.pc 4; mem = with_number s.mem size address value }) else Err StoreOutside)
    else Err StoreMisaligned

-- SB, SH, SW by funct3
abbrev pub store : State → ℕ → Answer
store s w =
    if funct3 w == 0 then stores s 1 (plus (source1 s w) (immediate_s w)) (source2 s w)
    else if funct3 w == 1 then stores s 2 (plus (source1 s w) (immediate_s w)) (source2 s w)
    else if funct3 w == 2 then stores s 4 (plus (source1 s w) (immediate_s w)) (source2 s w)
    else Err Illegal

-- ADD, SLL, SLT, SLTU, XOR, SRL, OR, AND by funct3, with funct7 0000000
abbrev pub basic : List (ℕ → ℕ → ℕ)
basic = plus ∷ shifted_left ∷ less_signed ∷ less ∷ bit_xor ∷ shifted_right ∷ bit_or ∷ bit_and ∷ []

-- MUL, MULH, MULHSU, MULHU, DIV, DIVU, REM, REMU by funct3, with funct7 0000001
abbrev pub multiplies : List (ℕ → ℕ → ℕ)
multiplies = product ∷ high_signed ∷ high_mixed ∷ high_unsigned ∷ quotient_signed ∷ quotient ∷ remainder_signed ∷ remainder ∷ []

abbrev pub applied : Option (ℕ → ℕ → ℕ) → ℕ → ℕ → Option ℕ
applied None a b = None
applied (Some f) a b = Some (f a b)

-- SUB and SRA have funct7 0100000
abbrev pub operation : ℕ → ℕ → ℕ → ℕ → Option ℕ
operation f7 f3 a b =
    if f7 == 0 then applied (slice_get basic f3) a b
    else if f7 == 1 then applied (slice_get multiplies f3) a b
    else if f7 == 32 then (if f3 == 0 then Some (minus a b) else if f3 == 5 then Some (shifted_signed a b) else None)
    else None

-- SLLI, SRLI and SRAI shift by the field of the second source, and have a funct7; the six others take the immediate
abbrev pub operation_immediate : State → ℕ → Option ℕ
operation_immediate s w =
    if funct3 w == 1 then (if funct7 w == 0 then Some (shifted_left (source1 s w) (rs2 w)) else None)
    else if funct3 w == 5
    then (if funct7 w == 0 then Some (shifted_right (source1 s w) (rs2 w)) else if funct7 w == 32
    then Some (shifted_signed (source1 s w) (rs2 w)) else None)
    else applied (slice_get basic (funct3 w)) (source1 s w) (immediate_i w)

-- FENCE does nothing
abbrev pub fence : State → ℕ → Answer
fence s w = if funct3 w == 0 then goes_on s else Err Illegal

-- ECALL and EBREAK trap
abbrev pub system : ℕ → Answer
system w = if w == 0x73 then Err Ecall else if w == 0x100073 then Err Ebreak else Err Illegal

-- what the word does, by its opcode
unfoldable pub executed : State → ℕ → Answer
executed s w =
    if opcode w == 0b0110111 then load_upper s w
    else if opcode w == 0b0010111 then add_upper s w
    else if opcode w == 0b1101111 then jump s w
    else if opcode w == 0b1100111 then jump_register s w
    else if opcode w == 0b1100011 then branch s w
    else if opcode w == 0b0000011 then load s w
    else if opcode w == 0b0100011 then store s w
    else if opcode w == 0b0010011 then gives_if s (rd w) (operation_immediate s w)
    else if opcode w == 0b0110011 then gives_if s (rd w) (operation (funct7 w) (funct3 w) (source1 s w) (source2 s w))
    else if opcode w == 0b0001111 then fence s w
    else system w

abbrev pub fetched : State → Option ℕ → Answer
fetched s None = Err FetchOutside
fetched s (Some w) = executed s w

-- one step: the next state, or the first cause why there is none
unfoldable pub step : State → Answer
step s = if s.pc % 4 == 0 then fetched s (number_at s.mem 4 s.pc) else Err FetchMisaligned

abbrev pub then_step : Answer → Answer
then_step (Ok s) = step s
then_step (Err cause) = Err cause

-- so many steps
unfoldable pub after : ℕ → State → Answer
after zero s = Ok s
after (suc n) s = then_step (after n s)
