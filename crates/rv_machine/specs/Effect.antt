-- What an instruction does, by its fields: the rows of the table over instructions in place of their words.
use Rattle.std.specs.Prelude.{◌*◌, ◌/◌, not, Err, ◌==◌, nat_lt, bit_and, bit_or, bit_xor}
use Rattle.rv_code.specs.declared.instruction.Instr.{Instr}
use Rattle.rv_code.specs.declared.instruction.Instr.TheVariants.{Lui, Auipc, Jal, Jalr, Beq, Bne, Blt, Bge, Bltu, Bgeu, Lb, Lh}
use Rattle.rv_code.specs.declared.instruction.Instr.TheVariants.{Lw, Lbu, Lhu, Sb, Sh, Sw, Addi, Slti, Sltiu, Xori, Ori, Andi}
use Rattle.rv_code.specs.declared.instruction.Instr.TheVariants.{Slli, Srli, Srai, Add, Sub, Sll, Slt, Sltu, Xor, Srl, Sra, Or}
use Rattle.rv_code.specs.declared.instruction.Instr.TheVariants.{And, Mul, Mulh, Mulhsu, Mulhu, Div, Divu, Rem, Remu, Fence}
use Rattle.rv_code.specs.declared.instruction.Instr.TheVariants.{Ecall as EcallCode, Ebreak as EbreakCode}
use Rattle.rv_machine.specs.declared.cause.Cause.TheVariants.{Ecall, Ebreak}
use Rattle.rv_machine.specs.Word.{plus, minus, shifted_left, shifted_right, shifted_signed, less, is_less_signed, less_signed}
use Rattle.rv_machine.specs.Word.{product, high_signed, high_mixed, high_unsigned, quotient_signed, quotient, remainder_signed}
use Rattle.rv_machine.specs.Word.{remainder}
use Rattle.rv_machine.specs.Fields.{extended}
use Rattle.rv_machine.specs.State.{State, register}
use Rattle.rv_machine.specs.Step.{Answer, gives, goes_on, jumps, branches, loaded, loads, stores}

abbrev pub effect : Instr → State → Answer
effect (Lui rd imm) s = gives s rd.bits (imm.bits * 4096)
effect (Auipc rd imm) s = gives s rd.bits (plus s.pc (imm.bits * 4096))
effect (Jal rd imm) s = jumps s rd.bits (plus s.pc (extended 1048576 (2 * imm.half)))
effect (Jalr rd rs1 imm) s = jumps s rd.bits (plus (register s.regs rs1.bits) (extended 2048 imm.bits) / 2 * 2)
effect (Beq rs1 rs2 imm) s = branches s (plus s.pc (extended 4096 (2 * imm.half)))
    ((register s.regs rs1.bits) == (register s.regs rs2.bits))
effect (Bne rs1 rs2 imm) s = branches s (plus s.pc (extended 4096 (2 * imm.half)))
    (not ((register s.regs rs1.bits) == (register s.regs rs2.bits)))
effect (Blt rs1 rs2 imm) s = branches s (plus s.pc (extended 4096 (2 * imm.half)))
    (is_less_signed (register s.regs rs1.bits) (register s.regs rs2.bits))
effect (Bge rs1 rs2 imm) s = branches s (plus s.pc (extended 4096 (2 * imm.half)))
    (not (is_less_signed (register s.regs rs1.bits) (register s.regs rs2.bits)))
effect (Bltu rs1 rs2 imm) s = branches s (plus s.pc (extended 4096 (2 * imm.half)))
    (nat_lt (register s.regs rs1.bits) (register s.regs rs2.bits))
effect (Bgeu rs1 rs2 imm) s = branches s (plus s.pc (extended 4096 (2 * imm.half)))
    (not (nat_lt (register s.regs rs1.bits) (register s.regs rs2.bits)))
effect (Lb rd rs1 imm) s = loads s rd.bits (extended 128) (loaded s 1 (plus (register s.regs rs1.bits) (extended 2048 imm.bits)))
effect (Lh rd rs1 imm) s = loads s rd.bits (extended 32768)
    (loaded s 2 (plus (register s.regs rs1.bits) (extended 2048 imm.bits)))
effect (Lw rd rs1 imm) s = loads s rd.bits (λ n. n) (loaded s 4 (plus (register s.regs rs1.bits) (extended 2048 imm.bits)))
effect (Lbu rd rs1 imm) s = loads s rd.bits (λ n. n) (loaded s 1 (plus (register s.regs rs1.bits) (extended 2048 imm.bits)))
effect (Lhu rd rs1 imm) s = loads s rd.bits (λ n. n) (loaded s 2 (plus (register s.regs rs1.bits) (extended 2048 imm.bits)))
effect (Sb rs1 rs2 imm) s = stores s 1 (plus (register s.regs rs1.bits) (extended 2048 imm.bits)) (register s.regs rs2.bits)
effect (Sh rs1 rs2 imm) s = stores s 2 (plus (register s.regs rs1.bits) (extended 2048 imm.bits)) (register s.regs rs2.bits)
effect (Sw rs1 rs2 imm) s = stores s 4 (plus (register s.regs rs1.bits) (extended 2048 imm.bits)) (register s.regs rs2.bits)
effect (Addi rd rs1 imm) s = gives s rd.bits (plus (register s.regs rs1.bits) (extended 2048 imm.bits))
effect (Slti rd rs1 imm) s = gives s rd.bits (less_signed (register s.regs rs1.bits) (extended 2048 imm.bits))
effect (Sltiu rd rs1 imm) s = gives s rd.bits (less (register s.regs rs1.bits) (extended 2048 imm.bits))
effect (Xori rd rs1 imm) s = gives s rd.bits (bit_xor (register s.regs rs1.bits) (extended 2048 imm.bits))
effect (Ori rd rs1 imm) s = gives s rd.bits (bit_or (register s.regs rs1.bits) (extended 2048 imm.bits))
effect (Andi rd rs1 imm) s = gives s rd.bits (bit_and (register s.regs rs1.bits) (extended 2048 imm.bits))
effect (Slli rd rs1 shamt) s = gives s rd.bits (shifted_left (register s.regs rs1.bits) shamt.bits)
effect (Srli rd rs1 shamt) s = gives s rd.bits (shifted_right (register s.regs rs1.bits) shamt.bits)
effect (Srai rd rs1 shamt) s = gives s rd.bits (shifted_signed (register s.regs rs1.bits) shamt.bits)
effect (Add rd rs1 rs2) s = gives s rd.bits (plus (register s.regs rs1.bits) (register s.regs rs2.bits))
effect (Sub rd rs1 rs2) s = gives s rd.bits (minus (register s.regs rs1.bits) (register s.regs rs2.bits))
effect (Sll rd rs1 rs2) s = gives s rd.bits (shifted_left (register s.regs rs1.bits) (register s.regs rs2.bits))
effect (Slt rd rs1 rs2) s = gives s rd.bits (less_signed (register s.regs rs1.bits) (register s.regs rs2.bits))
effect (Sltu rd rs1 rs2) s = gives s rd.bits (less (register s.regs rs1.bits) (register s.regs rs2.bits))
effect (Xor rd rs1 rs2) s = gives s rd.bits (bit_xor (register s.regs rs1.bits) (register s.regs rs2.bits))
effect (Srl rd rs1 rs2) s = gives s rd.bits (shifted_right (register s.regs rs1.bits) (register s.regs rs2.bits))
effect (Sra rd rs1 rs2) s = gives s rd.bits (shifted_signed (register s.regs rs1.bits) (register s.regs rs2.bits))
effect (Or rd rs1 rs2) s = gives s rd.bits (bit_or (register s.regs rs1.bits) (register s.regs rs2.bits))
effect (And rd rs1 rs2) s = gives s rd.bits (bit_and (register s.regs rs1.bits) (register s.regs rs2.bits))
effect (Mul rd rs1 rs2) s = gives s rd.bits (product (register s.regs rs1.bits) (register s.regs rs2.bits))
effect (Mulh rd rs1 rs2) s = gives s rd.bits (high_signed (register s.regs rs1.bits) (register s.regs rs2.bits))
effect (Mulhsu rd rs1 rs2) s = gives s rd.bits (high_mixed (register s.regs rs1.bits) (register s.regs rs2.bits))
effect (Mulhu rd rs1 rs2) s = gives s rd.bits (high_unsigned (register s.regs rs1.bits) (register s.regs rs2.bits))
effect (Div rd rs1 rs2) s = gives s rd.bits (quotient_signed (register s.regs rs1.bits) (register s.regs rs2.bits))
effect (Divu rd rs1 rs2) s = gives s rd.bits (quotient (register s.regs rs1.bits) (register s.regs rs2.bits))
effect (Rem rd rs1 rs2) s = gives s rd.bits (remainder_signed (register s.regs rs1.bits) (register s.regs rs2.bits))
effect (Remu rd rs1 rs2) s = gives s rd.bits (remainder (register s.regs rs1.bits) (register s.regs rs2.bits))
effect (Fence rd rs1 upper) s = goes_on s
effect EcallCode s = Err Ecall
effect EbreakCode s = Err Ebreak
