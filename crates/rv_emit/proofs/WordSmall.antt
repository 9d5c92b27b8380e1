-- An instruction's word has 32 bits.
use Rattle.std.proofs.Common.{◌^◌, ◌<◌, arith}
use Rattle.rv_code.specs.declared.instruction.Instr.{Instr}
use Rattle.rv_code.specs.declared.instruction.Instr.TheVariants.{Lui, Auipc, Jal, Jalr, Beq, Bne, Blt, Bge, Bltu, Bgeu, Lb, Lh}
use Rattle.rv_code.specs.declared.instruction.Instr.TheVariants.{Lw, Lbu, Lhu, Sb, Sh, Sw, Addi, Slti, Sltiu, Xori, Ori, Andi}
use Rattle.rv_code.specs.declared.instruction.Instr.TheVariants.{Slli, Srli, Srai, Add, Sub, Sll, Slt, Sltu, Xor, Srl, Sra, Or}
use Rattle.rv_code.specs.declared.instruction.Instr.TheVariants.{And, Mul, Mulh, Mulhsu, Mulhu, Div, Divu, Rem, Remu, Fence}
use Rattle.rv_code.specs.declared.instruction.Instr.TheVariants.{Ecall, Ebreak}
use Rattle.rv_code.specs.Word.{word_of}

pub word_small : (i : Instr) → word_of i < 2 ^ 32
word_small (Lui rd imm) = omega (arith, rd.ok, imm.ok)
word_small (Auipc rd imm) = omega (arith, rd.ok, imm.ok)
word_small (Jal rd imm) = omega (arith, rd.ok, imm.ok)
word_small (Jalr rd rs1 imm) = omega (arith, rd.ok, rs1.ok, imm.ok)
word_small (Beq rs1 rs2 imm) = omega (arith, rs1.ok, rs2.ok, imm.ok)
word_small (Bne rs1 rs2 imm) = omega (arith, rs1.ok, rs2.ok, imm.ok)
word_small (Blt rs1 rs2 imm) = omega (arith, rs1.ok, rs2.ok, imm.ok)
word_small (Bge rs1 rs2 imm) = omega (arith, rs1.ok, rs2.ok, imm.ok)
word_small (Bltu rs1 rs2 imm) = omega (arith, rs1.ok, rs2.ok, imm.ok)
word_small (Bgeu rs1 rs2 imm) = omega (arith, rs1.ok, rs2.ok, imm.ok)
word_small (Lb rd rs1 imm) = omega (arith, rd.ok, rs1.ok, imm.ok)
word_small (Lh rd rs1 imm) = omega (arith, rd.ok, rs1.ok, imm.ok)
word_small (Lw rd rs1 imm) = omega (arith, rd.ok, rs1.ok, imm.ok)
word_small (Lbu rd rs1 imm) = omega (arith, rd.ok, rs1.ok, imm.ok)
word_small (Lhu rd rs1 imm) = omega (arith, rd.ok, rs1.ok, imm.ok)
word_small (Sb rs1 rs2 imm) = omega (arith, rs1.ok, rs2.ok, imm.ok)
word_small (Sh rs1 rs2 imm) = omega (arith, rs1.ok, rs2.ok, imm.ok)
word_small (Sw rs1 rs2 imm) = omega (arith, rs1.ok, rs2.ok, imm.ok)
word_small (Addi rd rs1 imm) = omega (arith, rd.ok, rs1.ok, imm.ok)
word_small (Slti rd rs1 imm) = omega (arith, rd.ok, rs1.ok, imm.ok)
word_small (Sltiu rd rs1 imm) = omega (arith, rd.ok, rs1.ok, imm.ok)
word_small (Xori rd rs1 imm) = omega (arith, rd.ok, rs1.ok, imm.ok)
word_small (Ori rd rs1 imm) = omega (arith, rd.ok, rs1.ok, imm.ok)
word_small (Andi rd rs1 imm) = omega (arith, rd.ok, rs1.ok, imm.ok)
word_small (Slli rd rs1 shamt) = omega (arith, rd.ok, rs1.ok, shamt.ok)
word_small (Srli rd rs1 shamt) = omega (arith, rd.ok, rs1.ok, shamt.ok)
word_small (Srai rd rs1 shamt) = omega (arith, rd.ok, rs1.ok, shamt.ok)
word_small (Add rd rs1 rs2) = omega (arith, rd.ok, rs1.ok, rs2.ok)
word_small (Sub rd rs1 rs2) = omega (arith, rd.ok, rs1.ok, rs2.ok)
word_small (Sll rd rs1 rs2) = omega (arith, rd.ok, rs1.ok, rs2.ok)
word_small (Slt rd rs1 rs2) = omega (arith, rd.ok, rs1.ok, rs2.ok)
word_small (Sltu rd rs1 rs2) = omega (arith, rd.ok, rs1.ok, rs2.ok)
word_small (Xor rd rs1 rs2) = omega (arith, rd.ok, rs1.ok, rs2.ok)
word_small (Srl rd rs1 rs2) = omega (arith, rd.ok, rs1.ok, rs2.ok)
word_small (Sra rd rs1 rs2) = omega (arith, rd.ok, rs1.ok, rs2.ok)
word_small (Or rd rs1 rs2) = omega (arith, rd.ok, rs1.ok, rs2.ok)
word_small (And rd rs1 rs2) = omega (arith, rd.ok, rs1.ok, rs2.ok)
word_small (Mul rd rs1 rs2) = omega (arith, rd.ok, rs1.ok, rs2.ok)
word_small (Mulh rd rs1 rs2) = omega (arith, rd.ok, rs1.ok, rs2.ok)
word_small (Mulhsu rd rs1 rs2) = omega (arith, rd.ok, rs1.ok, rs2.ok)
word_small (Mulhu rd rs1 rs2) = omega (arith, rd.ok, rs1.ok, rs2.ok)
word_small (Div rd rs1 rs2) = omega (arith, rd.ok, rs1.ok, rs2.ok)
word_small (Divu rd rs1 rs2) = omega (arith, rd.ok, rs1.ok, rs2.ok)
word_small (Rem rd rs1 rs2) = omega (arith, rd.ok, rs1.ok, rs2.ok)
word_small (Remu rd rs1 rs2) = omega (arith, rd.ok, rs1.ok, rs2.ok)
word_small (Fence rd rs1 upper) = omega (arith, rd.ok, rs1.ok, upper.ok)
word_small Ecall = omega arith
word_small Ebreak = omega arith
