-- What one step does where the word at the program counter is a known instruction.
use Rattle.std.proofs.Common.{◌≡◌, ℕ, ◌*◌, ◌/◌, ◌%◌, Some, Ok, IsSome}
use Rattle.rv_machine.specs.Word.{plus}
use Rattle.rv_machine.specs.Fields.{opcode, rd, funct3, rs1, rs2, immediate_i, immediate_s, immediate_u}
use Rattle.rv_machine.specs.State.{State, register, with_register, number_at, with_number}
use Rattle.rv_machine.specs.Step.{Answer, gives, jumps, loaded, stores, executed, step}

-- the word stands at the program counter, and does this
pub step_by : (s : State) (w : ℕ) (answer : Answer) → s.pc % 4 ≡ 0 → number_at s.mem 4 s.pc ≡ Some w → executed s w ≡ answer
    → step s ≡ answer
unfolding step
step_by s w answer aligned stands does = rw (aligned, stands) does

pub executed_lui : (s : State) (w d value : ℕ) → opcode w ≡ 55 → rd w ≡ d → immediate_u w ≡ value
    → executed s w ≡ Ok (record { regs = with_register s.regs d value; pc = plus s.pc 4; mem = s.mem })
unfolding executed gives
executed_lui s w d value row destination immediate = rw (row, destination, immediate)

pub executed_addi : (s : State) (w d r i value : ℕ) → opcode w ≡ 19 → funct3 w ≡ 0 → rd w ≡ d → rs1 w ≡ r → immediate_i w ≡ i
    → plus (register s.regs r) i ≡ value
    → executed s w ≡ Ok (record { regs = with_register s.regs d value; pc = plus s.pc 4; mem = s.mem })
unfolding executed gives
executed_addi s w d r i value row variant destination source immediate sum =
    rw (row, variant, destination, source, immediate, sum)

pub executed_lw : (s : State) (w d r i a value : ℕ) → opcode w ≡ 3 → funct3 w ≡ 2 → rd w ≡ d → rs1 w ≡ r → immediate_i w ≡ i
    → plus (register s.regs r) i ≡ a → a % 4 ≡ 0 → number_at s.mem 4 a ≡ Some value
    → executed s w ≡ Ok (record { regs = with_register s.regs d value; pc = plus s.pc 4; mem = s.mem })
unfolding executed loaded gives
executed_lw s w d r i a value row variant destination source immediate address aligned stands =
    rw (row, variant, source, immediate, address, aligned, stands, destination)

pub executed_sw : (s : State) (w q r i a value : ℕ) → opcode w ≡ 35 → funct3 w ≡ 2 → rs2 w ≡ q → rs1 w ≡ r → immediate_s w ≡ i
    → register s.regs q ≡ value → plus (register s.regs r) i ≡ a → a % 4 ≡ 0 → IsSome (number_at s.mem 4 a)
    → executed s w ≡ Ok (record { regs = s.regs; pc = plus s.pc 4; mem = with_number s.mem 4 a value })
unfolding executed stores
executed_sw s w q r i a value row variant stored source immediate value_is address aligned mapped =
    rw (row, variant, source, immediate, address, aligned, mapped, stored, value_is)

-- JALR: the destination gets the place behind it
pub executed_jalr : (s : State) (w d r i a : ℕ) → opcode w ≡ 103 → funct3 w ≡ 0 → rd w ≡ d → rs1 w ≡ r → immediate_i w ≡ i
    → plus (register s.regs r) i / 2 * 2 ≡ a → a % 4 ≡ 0
    → executed s w ≡ Ok (record { regs = with_register s.regs d (plus s.pc 4); pc = a; mem = s.mem })
unfolding executed jumps
executed_jalr s w d r i a row variant destination source immediate target aligned =
    rw (row, variant, source, immediate, target, aligned, destination)
