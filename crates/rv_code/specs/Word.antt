-- The word of an instruction (RISC-V Unprivileged ISA 20191213, sections 2.2 and 2.3, and the table of chapter 24).
-- The fields of a format are named from the highest bit to the lowest.
use Rattle.std.specs.Prelude.{ℕ, ◌+◌, ◌*◌, ◌/◌, ◌%◌}
use Rattle.rv_code.specs.declared.instruction.Instr.{Instr}
use Rattle.rv_code.specs.declared.instruction.Instr.TheVariants.{Lui, Auipc, Jal, Jalr, Beq, Bne, Blt, Bge, Bltu, Bgeu, Lb, Lh}
use Rattle.rv_code.specs.declared.instruction.Instr.TheVariants.{Lw, Lbu, Lhu, Sb, Sh, Sw, Addi, Slti, Sltiu, Xori, Ori, Andi}
use Rattle.rv_code.specs.declared.instruction.Instr.TheVariants.{Slli, Srli, Srai, Add, Sub, Sll, Slt, Sltu, Xor, Srl, Sra, Or}
use Rattle.rv_code.specs.declared.instruction.Instr.TheVariants.{And, Mul, Mulh, Mulhsu, Mulhu, Div, Divu, Rem, Remu, Fence}
use Rattle.rv_code.specs.declared.instruction.Instr.TheVariants.{Ecall, Ebreak}

-- R: funct7 31-25, rs2 24-20, rs1 19-15, funct3 14-12, rd 11-7, opcode 6-0
abbrev pub format_r : ℕ → ℕ → ℕ → ℕ → ℕ → ℕ → ℕ
format_r funct7 rs2 rs1 funct3 rd opcode =
    funct7 * 33554432 + rs2 * 1048576 + rs1 * 32768 + funct3 * 4096 + rd * 128 + opcode

-- I: imm[11:0] 31-20, rs1 19-15, funct3 14-12, rd 11-7
abbrev pub format_i : ℕ → ℕ → ℕ → ℕ → ℕ → ℕ
format_i imm rs1 funct3 rd opcode = imm * 1048576 + rs1 * 32768 + funct3 * 4096 + rd * 128 + opcode

-- S: imm[11:5] 31-25, rs2 24-20, rs1 19-15, funct3 14-12, imm[4:0] 11-7
abbrev pub format_s : ℕ → ℕ → ℕ → ℕ → ℕ → ℕ
format_s imm rs2 rs1 funct3 opcode =
    imm / 32 * 33554432 + rs2 * 1048576 + rs1 * 32768 + funct3 * 4096 + imm % 32 * 128 + opcode

-- B: imm[12] 31, imm[10:5] 30-25, rs2 24-20, rs1 19-15, funct3 14-12, imm[4:1] 11-8, imm[11] 7; `half` is imm[12:1]
abbrev pub format_b : ℕ → ℕ → ℕ → ℕ → ℕ → ℕ
format_b half rs2 rs1 funct3 opcode =
    half / 2048 * 2147483648 + half / 16 % 64 * 33554432 + rs2 * 1048576 + rs1 * 32768 + funct3 * 4096
    + half % 16 * 256 + half / 1024 % 2 * 128 + opcode

-- U: imm[31:12] 31-12, rd 11-7
abbrev pub format_u : ℕ → ℕ → ℕ → ℕ
format_u imm rd opcode = imm * 4096 + rd * 128 + opcode

-- J: imm[20] 31, imm[10:1] 30-21, imm[11] 20, imm[19:12] 19-12, rd 11-7; `half` is imm[20:1]
abbrev pub format_j : ℕ → ℕ → ℕ → ℕ
format_j half rd opcode =
    half / 524288 * 2147483648 + half % 1024 * 2097152 + half / 1024 % 2 * 1048576 + half / 2048 % 256 * 4096
    + rd * 128 + opcode

-- the word of an instruction: one line a row of the table
abbrev pub word_of : Instr → ℕ
word_of (Lui rd imm) = format_u imm.bits rd.bits 55
word_of (Auipc rd imm) = format_u imm.bits rd.bits 23
word_of (Jal rd imm) = format_j imm.half rd.bits 111
word_of (Jalr rd rs1 imm) = format_i imm.bits rs1.bits 0 rd.bits 103
word_of (Beq rs1 rs2 imm) = format_b imm.half rs2.bits rs1.bits 0 99
word_of (Bne rs1 rs2 imm) = format_b imm.half rs2.bits rs1.bits 1 99
word_of (Blt rs1 rs2 imm) = format_b imm.half rs2.bits rs1.bits 4 99
word_of (Bge rs1 rs2 imm) = format_b imm.half rs2.bits rs1.bits 5 99
word_of (Bltu rs1 rs2 imm) = format_b imm.half rs2.bits rs1.bits 6 99
word_of (Bgeu rs1 rs2 imm) = format_b imm.half rs2.bits rs1.bits 7 99
word_of (Lb rd rs1 imm) = format_i imm.bits rs1.bits 0 rd.bits 3
word_of (Lh rd rs1 imm) = format_i imm.bits rs1.bits 1 rd.bits 3
word_of (Lw rd rs1 imm) = format_i imm.bits rs1.bits 2 rd.bits 3
word_of (Lbu rd rs1 imm) = format_i imm.bits rs1.bits 4 rd.bits 3
word_of (Lhu rd rs1 imm) = format_i imm.bits rs1.bits 5 rd.bits 3
word_of (Sb rs1 rs2 imm) = format_s imm.bits rs2.bits rs1.bits 0 35
word_of (Sh rs1 rs2 imm) = format_s imm.bits rs2.bits rs1.bits 1 35
word_of (Sw rs1 rs2 imm) = format_s imm.bits rs2.bits rs1.bits 2 35
word_of (Addi rd rs1 imm) = format_i imm.bits rs1.bits 0 rd.bits 19
word_of (Slti rd rs1 imm) = format_i imm.bits rs1.bits 2 rd.bits 19
word_of (Sltiu rd rs1 imm) = format_i imm.bits rs1.bits 3 rd.bits 19
word_of (Xori rd rs1 imm) = format_i imm.bits rs1.bits 4 rd.bits 19
word_of (Ori rd rs1 imm) = format_i imm.bits rs1.bits 6 rd.bits 19
word_of (Andi rd rs1 imm) = format_i imm.bits rs1.bits 7 rd.bits 19
word_of (Slli rd rs1 shamt) = format_r 0 shamt.bits rs1.bits 1 rd.bits 19
word_of (Srli rd rs1 shamt) = format_r 0 shamt.bits rs1.bits 5 rd.bits 19
word_of (Srai rd rs1 shamt) = format_r 32 shamt.bits rs1.bits 5 rd.bits 19
word_of (Add rd rs1 rs2) = format_r 0 rs2.bits rs1.bits 0 rd.bits 51
word_of (Sub rd rs1 rs2) = format_r 32 rs2.bits rs1.bits 0 rd.bits 51
word_of (Sll rd rs1 rs2) = format_r 0 rs2.bits rs1.bits 1 rd.bits 51
word_of (Slt rd rs1 rs2) = format_r 0 rs2.bits rs1.bits 2 rd.bits 51
word_of (Sltu rd rs1 rs2) = format_r 0 rs2.bits rs1.bits 3 rd.bits 51
word_of (Xor rd rs1 rs2) = format_r 0 rs2.bits rs1.bits 4 rd.bits 51
word_of (Srl rd rs1 rs2) = format_r 0 rs2.bits rs1.bits 5 rd.bits 51
word_of (Sra rd rs1 rs2) = format_r 32 rs2.bits rs1.bits 5 rd.bits 51
word_of (Or rd rs1 rs2) = format_r 0 rs2.bits rs1.bits 6 rd.bits 51
word_of (And rd rs1 rs2) = format_r 0 rs2.bits rs1.bits 7 rd.bits 51
word_of (Mul rd rs1 rs2) = format_r 1 rs2.bits rs1.bits 0 rd.bits 51
word_of (Mulh rd rs1 rs2) = format_r 1 rs2.bits rs1.bits 1 rd.bits 51
word_of (Mulhsu rd rs1 rs2) = format_r 1 rs2.bits rs1.bits 2 rd.bits 51
word_of (Mulhu rd rs1 rs2) = format_r 1 rs2.bits rs1.bits 3 rd.bits 51
word_of (Div rd rs1 rs2) = format_r 1 rs2.bits rs1.bits 4 rd.bits 51
word_of (Divu rd rs1 rs2) = format_r 1 rs2.bits rs1.bits 5 rd.bits 51
word_of (Rem rd rs1 rs2) = format_r 1 rs2.bits rs1.bits 6 rd.bits 51
word_of (Remu rd rs1 rs2) = format_r 1 rs2.bits rs1.bits 7 rd.bits 51
word_of (Fence rd rs1 upper) = format_i upper.bits rs1.bits 0 rd.bits 15
word_of Ecall = 115
word_of Ebreak = 1048691
