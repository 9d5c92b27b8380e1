-- The table over words and the table over instructions agree: a word that is an instruction's does what the
-- instruction does, and a word that is none is illegal.
use Rattle.std.proofs.Common.{◌≡◌, ℕ, ◌+◌, ◌*◌, ◌/◌, ◌%◌, ◌^◌, ◌<◌, Bool, true, false, not, None, Err, ◌==◌, nat_lt}
use Rattle.std.proofs.Common.{if◌then◌else◌, bit_and, bit_or, bit_xor, refl, ap, arith}
use Rattle.std.proofs.lemmas.Bool.{eqb-true}
use Rattle.rv_code.specs.declared.instruction.Instr.{Instr}
use Rattle.rv_code.specs.declared.instruction.Instr.TheVariants.{Lui, Auipc, Jal, Jalr, Beq, Bne, Blt, Bge, Bltu, Bgeu, Lb, Lh}
use Rattle.rv_code.specs.declared.instruction.Instr.TheVariants.{Lw, Lbu, Lhu, Sb, Sh, Sw, Addi, Slti, Sltiu, Xori, Ori, Andi}
use Rattle.rv_code.specs.declared.instruction.Instr.TheVariants.{Slli, Srli, Srai, Add, Sub, Sll, Slt, Sltu, Xor, Srl, Sra, Or}
use Rattle.rv_code.specs.declared.instruction.Instr.TheVariants.{And, Mul, Mulh, Mulhsu, Mulhu, Div, Divu, Rem, Remu, Fence}
use Rattle.rv_code.specs.declared.instruction.Instr.TheVariants.{Ecall as EcallCode, Ebreak as EbreakCode}
use Rattle.rv_code.specs.Word.{word_of}
use Rattle.rv_code.specs.Field.{reg, imm12, imm13, imm20, imm21, shamt, bits12}
use Rattle.rv_machine.specs.declared.cause.Cause.TheVariants.{Illegal, Ecall, Ebreak}
use Rattle.rv_machine.specs.Word.{plus, minus, shifted_left, shifted_right, shifted_signed, less, is_less_signed, less_signed}
use Rattle.rv_machine.specs.Word.{product, high_signed, high_mixed, high_unsigned, quotient_signed, quotient, remainder_signed}
use Rattle.rv_machine.specs.Word.{remainder}
use Rattle.rv_machine.specs.Fields.{extended}
use Rattle.rv_machine.specs.State.{State, register}
use Rattle.rv_machine.specs.Effect.{effect}
use Rattle.rv_machine.specs.Step.{gives, goes_on, jumps, branches, branches_if, taken, loaded, loads, stores, gives_if, operation}
use Rattle.rv_machine.specs.Step.{operation_immediate, executed}

lui_row : (s : State) (w r i : ℕ) → w % 128 ≡ 55 → w / 128 % 32 ≡ r → w / 4096 ≡ i → executed s w ≡ gives s r (i * 4096)
unfolding executed
lui_row s w r i o d e = rw (o, d, e) refl

auipc_row : (s : State) (w r i : ℕ) → w % 128 ≡ 23 → w / 128 % 32 ≡ r → w / 4096 ≡ i
    → executed s w ≡ gives s r (plus s.pc (i * 4096))
unfolding executed
auipc_row s w r i o d e = rw (o, d, e) refl

jal_row : (s : State) (w r i : ℕ) → w % 128 ≡ 111 → w / 128 % 32 ≡ r
    → w / 2147483648 * 1048576 + w / 4096 % 256 * 4096 + w / 1048576 % 2 * 2048 + w / 2097152 % 1024 * 2 ≡ 2 * i
    → executed s w ≡ jumps s r (plus s.pc (extended 1048576 (2 * i)))
unfolding executed
jal_row s w r i o d e = rw (o, d, e) refl

jalr_row : (s : State) (w r r1 i : ℕ) → w % 128 ≡ 103 → w / 4096 % 8 ≡ 0 → w / 128 % 32 ≡ r → w / 32768 % 32 ≡ r1
    → w / 1048576 ≡ i → executed s w ≡ jumps s r (plus (register s.regs r1) (extended 2048 i) / 2 * 2)
unfolding executed
jalr_row s w r r1 i o f d a e = rw (o, f, d, a, e) refl

beq_row : (s : State) (w r1 r2 i : ℕ) → w % 128 ≡ 99 → w / 4096 % 8 ≡ 0 → w / 32768 % 32 ≡ r1 → w / 1048576 % 32 ≡ r2
    → w / 2147483648 * 4096 + w / 128 % 2 * 2048 + w / 33554432 % 64 * 32 + w / 256 % 16 * 2 ≡ 2 * i
    → executed s w ≡ branches s (plus s.pc (extended 4096 (2 * i))) ((register s.regs r1) == (register s.regs r2))
unfolding executed
beq_row s w r1 r2 i o f a b e = rw (o, f, a, b, e) refl

bne_row : (s : State) (w r1 r2 i : ℕ) → w % 128 ≡ 99 → w / 4096 % 8 ≡ 1 → w / 32768 % 32 ≡ r1 → w / 1048576 % 32 ≡ r2
    → w / 2147483648 * 4096 + w / 128 % 2 * 2048 + w / 33554432 % 64 * 32 + w / 256 % 16 * 2 ≡ 2 * i
    → executed s w ≡ branches s (plus s.pc (extended 4096 (2 * i))) (not ((register s.regs r1) == (register s.regs r2)))
unfolding executed
bne_row s w r1 r2 i o f a b e = rw (o, f, a, b, e) refl

blt_row : (s : State) (w r1 r2 i : ℕ) → w % 128 ≡ 99 → w / 4096 % 8 ≡ 4 → w / 32768 % 32 ≡ r1 → w / 1048576 % 32 ≡ r2
    → w / 2147483648 * 4096 + w / 128 % 2 * 2048 + w / 33554432 % 64 * 32 + w / 256 % 16 * 2 ≡ 2 * i
    → executed s w ≡ branches s (plus s.pc (extended 4096 (2 * i))) (is_less_signed (register s.regs r1) (register s.regs r2))
unfolding executed
blt_row s w r1 r2 i o f a b e = rw (o, f, a, b, e) refl

bge_row : (s : State) (w r1 r2 i : ℕ) → w % 128 ≡ 99 → w / 4096 % 8 ≡ 5 → w / 32768 % 32 ≡ r1 → w / 1048576 % 32 ≡ r2
    → w / 2147483648 * 4096 + w / 128 % 2 * 2048 + w / 33554432 % 64 * 32 + w / 256 % 16 * 2 ≡ 2 * i
    → executed s w ≡ branches s (plus s.pc (extended 4096 (2 * i)))
    (not (is_less_signed (register s.regs r1) (register s.regs r2)))
unfolding executed
bge_row s w r1 r2 i o f a b e = rw (o, f, a, b, e) refl

bltu_row : (s : State) (w r1 r2 i : ℕ) → w % 128 ≡ 99 → w / 4096 % 8 ≡ 6 → w / 32768 % 32 ≡ r1 → w / 1048576 % 32 ≡ r2
    → w / 2147483648 * 4096 + w / 128 % 2 * 2048 + w / 33554432 % 64 * 32 + w / 256 % 16 * 2 ≡ 2 * i
    → executed s w ≡ branches s (plus s.pc (extended 4096 (2 * i))) (nat_lt (register s.regs r1) (register s.regs r2))
unfolding executed
bltu_row s w r1 r2 i o f a b e = rw (o, f, a, b, e) refl

bgeu_row : (s : State) (w r1 r2 i : ℕ) → w % 128 ≡ 99 → w / 4096 % 8 ≡ 7 → w / 32768 % 32 ≡ r1 → w / 1048576 % 32 ≡ r2
    → w / 2147483648 * 4096 + w / 128 % 2 * 2048 + w / 33554432 % 64 * 32 + w / 256 % 16 * 2 ≡ 2 * i
    → executed s w ≡ branches s (plus s.pc (extended 4096 (2 * i))) (not (nat_lt (register s.regs r1) (register s.regs r2)))
unfolding executed
bgeu_row s w r1 r2 i o f a b e = rw (o, f, a, b, e) refl

lb_row : (s : State) (w r r1 i : ℕ) → w % 128 ≡ 3 → w / 4096 % 8 ≡ 0 → w / 128 % 32 ≡ r → w / 32768 % 32 ≡ r1 → w / 1048576 ≡ i
    → executed s w ≡ loads s r (extended 128) (loaded s 1 (plus (register s.regs r1) (extended 2048 i)))
unfolding executed
lb_row s w r r1 i o f d a e = rw (o, f, d, a, e) refl

lh_row : (s : State) (w r r1 i : ℕ) → w % 128 ≡ 3 → w / 4096 % 8 ≡ 1 → w / 128 % 32 ≡ r → w / 32768 % 32 ≡ r1 → w / 1048576 ≡ i
    → executed s w ≡ loads s r (extended 32768) (loaded s 2 (plus (register s.regs r1) (extended 2048 i)))
unfolding executed
lh_row s w r r1 i o f d a e = rw (o, f, d, a, e) refl

lw_row : (s : State) (w r r1 i : ℕ) → w % 128 ≡ 3 → w / 4096 % 8 ≡ 2 → w / 128 % 32 ≡ r → w / 32768 % 32 ≡ r1 → w / 1048576 ≡ i
    → executed s w ≡ loads s r (λ n. n) (loaded s 4 (plus (register s.regs r1) (extended 2048 i)))
unfolding executed
lw_row s w r r1 i o f d a e = rw (o, f, d, a, e) refl

lbu_row : (s : State) (w r r1 i : ℕ) → w % 128 ≡ 3 → w / 4096 % 8 ≡ 4 → w / 128 % 32 ≡ r → w / 32768 % 32 ≡ r1 → w / 1048576 ≡ i
    → executed s w ≡ loads s r (λ n. n) (loaded s 1 (plus (register s.regs r1) (extended 2048 i)))
unfolding executed
lbu_row s w r r1 i o f d a e = rw (o, f, d, a, e) refl

lhu_row : (s : State) (w r r1 i : ℕ) → w % 128 ≡ 3 → w / 4096 % 8 ≡ 5 → w / 128 % 32 ≡ r → w / 32768 % 32 ≡ r1 → w / 1048576 ≡ i
    → executed s w ≡ loads s r (λ n. n) (loaded s 2 (plus (register s.regs r1) (extended 2048 i)))
unfolding executed
lhu_row s w r r1 i o f d a e = rw (o, f, d, a, e) refl

sb_row : (s : State) (w r1 r2 i : ℕ) → w % 128 ≡ 35 → w / 4096 % 8 ≡ 0 → w / 32768 % 32 ≡ r1 → w / 1048576 % 32 ≡ r2
    → w / 33554432 * 32 + w / 128 % 32 ≡ i
    → executed s w ≡ stores s 1 (plus (register s.regs r1) (extended 2048 i)) (register s.regs r2)
unfolding executed
sb_row s w r1 r2 i o f a b e = rw (o, f, a, b, e) refl

sh_row : (s : State) (w r1 r2 i : ℕ) → w % 128 ≡ 35 → w / 4096 % 8 ≡ 1 → w / 32768 % 32 ≡ r1 → w / 1048576 % 32 ≡ r2
    → w / 33554432 * 32 + w / 128 % 32 ≡ i
    → executed s w ≡ stores s 2 (plus (register s.regs r1) (extended 2048 i)) (register s.regs r2)
unfolding executed
sh_row s w r1 r2 i o f a b e = rw (o, f, a, b, e) refl

sw_row : (s : State) (w r1 r2 i : ℕ) → w % 128 ≡ 35 → w / 4096 % 8 ≡ 2 → w / 32768 % 32 ≡ r1 → w / 1048576 % 32 ≡ r2
    → w / 33554432 * 32 + w / 128 % 32 ≡ i
    → executed s w ≡ stores s 4 (plus (register s.regs r1) (extended 2048 i)) (register s.regs r2)
unfolding executed
sw_row s w r1 r2 i o f a b e = rw (o, f, a, b, e) refl

addi_row : (s : State) (w r r1 i : ℕ) → w % 128 ≡ 19 → w / 4096 % 8 ≡ 0 → w / 128 % 32 ≡ r → w / 32768 % 32 ≡ r1 → w / 1048576 ≡ i
    → executed s w ≡ gives s r (plus (register s.regs r1) (extended 2048 i))
unfolding executed
addi_row s w r r1 i o f d a e = rw (o, f, d, a, e) refl

slti_row : (s : State) (w r r1 i : ℕ) → w % 128 ≡ 19 → w / 4096 % 8 ≡ 2 → w / 128 % 32 ≡ r → w / 32768 % 32 ≡ r1 → w / 1048576 ≡ i
    → executed s w ≡ gives s r (less_signed (register s.regs r1) (extended 2048 i))
unfolding executed
slti_row s w r r1 i o f d a e = rw (o, f, d, a, e) refl

sltiu_row : (s : State) (w r r1 i : ℕ) → w % 128 ≡ 19 → w / 4096 % 8 ≡ 3 → w / 128 % 32 ≡ r → w / 32768 % 32 ≡ r1
    → w / 1048576 ≡ i → executed s w ≡ gives s r (less (register s.regs r1) (extended 2048 i))
unfolding executed
sltiu_row s w r r1 i o f d a e = rw (o, f, d, a, e) refl

xori_row : (s : State) (w r r1 i : ℕ) → w % 128 ≡ 19 → w / 4096 % 8 ≡ 4 → w / 128 % 32 ≡ r → w / 32768 % 32 ≡ r1 → w / 1048576 ≡ i
    → executed s w ≡ gives s r (bit_xor (register s.regs r1) (extended 2048 i))
unfolding executed
xori_row s w r r1 i o f d a e = rw (o, f, d, a, e) refl

ori_row : (s : State) (w r r1 i : ℕ) → w % 128 ≡ 19 → w / 4096 % 8 ≡ 6 → w / 128 % 32 ≡ r → w / 32768 % 32 ≡ r1 → w / 1048576 ≡ i
    → executed s w ≡ gives s r (bit_or (register s.regs r1) (extended 2048 i))
unfolding executed
ori_row s w r r1 i o f d a e = rw (o, f, d, a, e) refl

andi_row : (s : State) (w r r1 i : ℕ) → w % 128 ≡ 19 → w / 4096 % 8 ≡ 7 → w / 128 % 32 ≡ r → w / 32768 % 32 ≡ r1 → w / 1048576 ≡ i
    → executed s w ≡ gives s r (bit_and (register s.regs r1) (extended 2048 i))
unfolding executed
andi_row s w r r1 i o f d a e = rw (o, f, d, a, e) refl

slli_row : (s : State) (w r r1 r2 : ℕ) → w % 128 ≡ 19 → w / 4096 % 8 ≡ 1 → w / 33554432 ≡ 0 → w / 128 % 32 ≡ r
    → w / 32768 % 32 ≡ r1 → w / 1048576 % 32 ≡ r2 → executed s w ≡ gives s r (shifted_left (register s.regs r1) r2)
unfolding executed
slli_row s w r r1 r2 o f g d a b = rw (o, f, g, d, a, b) refl

srli_row : (s : State) (w r r1 r2 : ℕ) → w % 128 ≡ 19 → w / 4096 % 8 ≡ 5 → w / 33554432 ≡ 0 → w / 128 % 32 ≡ r
    → w / 32768 % 32 ≡ r1 → w / 1048576 % 32 ≡ r2 → executed s w ≡ gives s r (shifted_right (register s.regs r1) r2)
unfolding executed
srli_row s w r r1 r2 o f g d a b = rw (o, f, g, d, a, b) refl

srai_row : (s : State) (w r r1 r2 : ℕ) → w % 128 ≡ 19 → w / 4096 % 8 ≡ 5 → w / 33554432 ≡ 32 → w / 128 % 32 ≡ r
    → w / 32768 % 32 ≡ r1 → w / 1048576 % 32 ≡ r2 → executed s w ≡ gives s r (shifted_signed (register s.regs r1) r2)
unfolding executed
srai_row s w r r1 r2 o f g d a b = rw (o, f, g, d, a, b) refl

add_row : (s : State) (w r r1 r2 : ℕ) → w % 128 ≡ 51 → w / 4096 % 8 ≡ 0 → w / 33554432 ≡ 0 → w / 128 % 32 ≡ r
    → w / 32768 % 32 ≡ r1 → w / 1048576 % 32 ≡ r2 → executed s w ≡ gives s r (plus (register s.regs r1) (register s.regs r2))
unfolding executed
add_row s w r r1 r2 o f g d a b = rw (o, f, g, d, a, b) refl

sub_row : (s : State) (w r r1 r2 : ℕ) → w % 128 ≡ 51 → w / 4096 % 8 ≡ 0 → w / 33554432 ≡ 32 → w / 128 % 32 ≡ r
    → w / 32768 % 32 ≡ r1 → w / 1048576 % 32 ≡ r2 → executed s w ≡ gives s r (minus (register s.regs r1) (register s.regs r2))
unfolding executed
sub_row s w r r1 r2 o f g d a b = rw (o, f, g, d, a, b) refl

sll_row : (s : State) (w r r1 r2 : ℕ) → w % 128 ≡ 51 → w / 4096 % 8 ≡ 1 → w / 33554432 ≡ 0 → w / 128 % 32 ≡ r
    → w / 32768 % 32 ≡ r1 → w / 1048576 % 32 ≡ r2
    → executed s w ≡ gives s r (shifted_left (register s.regs r1) (register s.regs r2))
unfolding executed
sll_row s w r r1 r2 o f g d a b = rw (o, f, g, d, a, b) refl

slt_row : (s : State) (w r r1 r2 : ℕ) → w % 128 ≡ 51 → w / 4096 % 8 ≡ 2 → w / 33554432 ≡ 0 → w / 128 % 32 ≡ r
    → w / 32768 % 32 ≡ r1 → w / 1048576 % 32 ≡ r2
    → executed s w ≡ gives s r (less_signed (register s.regs r1) (register s.regs r2))
unfolding executed
slt_row s w r r1 r2 o f g d a b = rw (o, f, g, d, a, b) refl

sltu_row : (s : State) (w r r1 r2 : ℕ) → w % 128 ≡ 51 → w / 4096 % 8 ≡ 3 → w / 33554432 ≡ 0 → w / 128 % 32 ≡ r
    → w / 32768 % 32 ≡ r1 → w / 1048576 % 32 ≡ r2 → executed s w ≡ gives s r (less (register s.regs r1) (register s.regs r2))
unfolding executed
sltu_row s w r r1 r2 o f g d a b = rw (o, f, g, d, a, b) refl

xor_row : (s : State) (w r r1 r2 : ℕ) → w % 128 ≡ 51 → w / 4096 % 8 ≡ 4 → w / 33554432 ≡ 0 → w / 128 % 32 ≡ r
    → w / 32768 % 32 ≡ r1 → w / 1048576 % 32 ≡ r2 → executed s w ≡ gives s r (bit_xor (register s.regs r1) (register s.regs r2))
unfolding executed
xor_row s w r r1 r2 o f g d a b = rw (o, f, g, d, a, b) refl

srl_row : (s : State) (w r r1 r2 : ℕ) → w % 128 ≡ 51 → w / 4096 % 8 ≡ 5 → w / 33554432 ≡ 0 → w / 128 % 32 ≡ r
    → w / 32768 % 32 ≡ r1 → w / 1048576 % 32 ≡ r2
    → executed s w ≡ gives s r (shifted_right (register s.regs r1) (register s.regs r2))
unfolding executed
srl_row s w r r1 r2 o f g d a b = rw (o, f, g, d, a, b) refl

sra_row : (s : State) (w r r1 r2 : ℕ) → w % 128 ≡ 51 → w / 4096 % 8 ≡ 5 → w / 33554432 ≡ 32 → w / 128 % 32 ≡ r
    → w / 32768 % 32 ≡ r1 → w / 1048576 % 32 ≡ r2
    → executed s w ≡ gives s r (shifted_signed (register s.regs r1) (register s.regs r2))
unfolding executed
sra_row s w r r1 r2 o f g d a b = rw (o, f, g, d, a, b) refl

or_row : (s : State) (w r r1 r2 : ℕ) → w % 128 ≡ 51 → w / 4096 % 8 ≡ 6 → w / 33554432 ≡ 0 → w / 128 % 32 ≡ r → w / 32768 % 32 ≡ r1
    → w / 1048576 % 32 ≡ r2 → executed s w ≡ gives s r (bit_or (register s.regs r1) (register s.regs r2))
unfolding executed
or_row s w r r1 r2 o f g d a b = rw (o, f, g, d, a, b) refl

and_row : (s : State) (w r r1 r2 : ℕ) → w % 128 ≡ 51 → w / 4096 % 8 ≡ 7 → w / 33554432 ≡ 0 → w / 128 % 32 ≡ r
    → w / 32768 % 32 ≡ r1 → w / 1048576 % 32 ≡ r2 → executed s w ≡ gives s r (bit_and (register s.regs r1) (register s.regs r2))
unfolding executed
and_row s w r r1 r2 o f g d a b = rw (o, f, g, d, a, b) refl

mul_row : (s : State) (w r r1 r2 : ℕ) → w % 128 ≡ 51 → w / 4096 % 8 ≡ 0 → w / 33554432 ≡ 1 → w / 128 % 32 ≡ r
    → w / 32768 % 32 ≡ r1 → w / 1048576 % 32 ≡ r2 → executed s w ≡ gives s r (product (register s.regs r1) (register s.regs r2))
unfolding executed
mul_row s w r r1 r2 o f g d a b = rw (o, f, g, d, a, b) refl

mulh_row : (s : State) (w r r1 r2 : ℕ) → w % 128 ≡ 51 → w / 4096 % 8 ≡ 1 → w / 33554432 ≡ 1 → w / 128 % 32 ≡ r
    → w / 32768 % 32 ≡ r1 → w / 1048576 % 32 ≡ r2
    → executed s w ≡ gives s r (high_signed (register s.regs r1) (register s.regs r2))
unfolding executed
mulh_row s w r r1 r2 o f g d a b = rw (o, f, g, d, a, b) refl

mulhsu_row : (s : State) (w r r1 r2 : ℕ) → w % 128 ≡ 51 → w / 4096 % 8 ≡ 2 → w / 33554432 ≡ 1 → w / 128 % 32 ≡ r
    → w / 32768 % 32 ≡ r1 → w / 1048576 % 32 ≡ r2
    → executed s w ≡ gives s r (high_mixed (register s.regs r1) (register s.regs r2))
unfolding executed
mulhsu_row s w r r1 r2 o f g d a b = rw (o, f, g, d, a, b) refl

mulhu_row : (s : State) (w r r1 r2 : ℕ) → w % 128 ≡ 51 → w / 4096 % 8 ≡ 3 → w / 33554432 ≡ 1 → w / 128 % 32 ≡ r
    → w / 32768 % 32 ≡ r1 → w / 1048576 % 32 ≡ r2
    → executed s w ≡ gives s r (high_unsigned (register s.regs r1) (register s.regs r2))
unfolding executed
mulhu_row s w r r1 r2 o f g d a b = rw (o, f, g, d, a, b) refl

div_row : (s : State) (w r r1 r2 : ℕ) → w % 128 ≡ 51 → w / 4096 % 8 ≡ 4 → w / 33554432 ≡ 1 → w / 128 % 32 ≡ r
    → w / 32768 % 32 ≡ r1 → w / 1048576 % 32 ≡ r2
    → executed s w ≡ gives s r (quotient_signed (register s.regs r1) (register s.regs r2))
unfolding executed
div_row s w r r1 r2 o f g d a b = rw (o, f, g, d, a, b) refl

divu_row : (s : State) (w r r1 r2 : ℕ) → w % 128 ≡ 51 → w / 4096 % 8 ≡ 5 → w / 33554432 ≡ 1 → w / 128 % 32 ≡ r
    → w / 32768 % 32 ≡ r1 → w / 1048576 % 32 ≡ r2 → executed s w ≡ gives s r (quotient (register s.regs r1) (register s.regs r2))
unfolding executed
divu_row s w r r1 r2 o f g d a b = rw (o, f, g, d, a, b) refl

rem_row : (s : State) (w r r1 r2 : ℕ) → w % 128 ≡ 51 → w / 4096 % 8 ≡ 6 → w / 33554432 ≡ 1 → w / 128 % 32 ≡ r
    → w / 32768 % 32 ≡ r1 → w / 1048576 % 32 ≡ r2
    → executed s w ≡ gives s r (remainder_signed (register s.regs r1) (register s.regs r2))
unfolding executed
rem_row s w r r1 r2 o f g d a b = rw (o, f, g, d, a, b) refl

remu_row : (s : State) (w r r1 r2 : ℕ) → w % 128 ≡ 51 → w / 4096 % 8 ≡ 7 → w / 33554432 ≡ 1 → w / 128 % 32 ≡ r
    → w / 32768 % 32 ≡ r1 → w / 1048576 % 32 ≡ r2 → executed s w ≡ gives s r (remainder (register s.regs r1) (register s.regs r2))
unfolding executed
remu_row s w r r1 r2 o f g d a b = rw (o, f, g, d, a, b) refl

fence_row : (s : State) (w : ℕ) → w % 128 ≡ 15 → w / 4096 % 8 ≡ 0 → executed s w ≡ goes_on s
unfolding executed
fence_row s w o f = rw (o, f) refl

ecall_row : (s : State) → executed s 115 ≡ Err Ecall
unfolding executed
ecall_row s = refl

ebreak_row : (s : State) → executed s 1048691 ≡ Err Ebreak
unfolding executed
ebreak_row s = refl

-- the word of an instruction does what the instruction does
pub row_of : (s : State) (i : Instr) → executed s (word_of i) ≡ effect i s
row_of s (Lui rd imm) = lui_row s (word_of (Lui rd imm)) rd.bits imm.bits (omega (arith, rd.ok, imm.ok))
    (omega (arith, rd.ok, imm.ok)) (omega (arith, rd.ok, imm.ok))
row_of s (Auipc rd imm) = auipc_row s (word_of (Auipc rd imm)) rd.bits imm.bits (omega (arith, rd.ok, imm.ok))
    (omega (arith, rd.ok, imm.ok)) (omega (arith, rd.ok, imm.ok))
row_of s (Jal rd imm) = jal_row s (word_of (Jal rd imm)) rd.bits imm.half (omega (arith, rd.ok, imm.ok))
    (omega (arith, rd.ok, imm.ok)) (omega (arith, rd.ok, imm.ok))
row_of s (Jalr rd rs1 imm) = jalr_row s (word_of (Jalr rd rs1 imm)) rd.bits rs1.bits imm.bits
    (omega (arith, rd.ok, rs1.ok, imm.ok)) (omega (arith, rd.ok, rs1.ok, imm.ok)) (omega (arith, rd.ok, rs1.ok, imm.ok))
    (omega (arith, rd.ok, rs1.ok, imm.ok)) (omega (arith, rd.ok, rs1.ok, imm.ok))
row_of s (Beq rs1 rs2 imm) = beq_row s (word_of (Beq rs1 rs2 imm)) rs1.bits rs2.bits imm.half
    (omega (arith, rs1.ok, rs2.ok, imm.ok)) (omega (arith, rs1.ok, rs2.ok, imm.ok)) (omega (arith, rs1.ok, rs2.ok, imm.ok))
    (omega (arith, rs1.ok, rs2.ok, imm.ok)) (omega (arith, rs1.ok, rs2.ok, imm.ok))
row_of s (Bne rs1 rs2 imm) = bne_row s (word_of (Bne rs1 rs2 imm)) rs1.bits rs2.bits imm.half
    (omega (arith, rs1.ok, rs2.ok, imm.ok)) (omega (arith, rs1.ok, rs2.ok, imm.ok)) (omega (arith, rs1.ok, rs2.ok, imm.ok))
    (omega (arith, rs1.ok, rs2.ok, imm.ok)) (omega (arith, rs1.ok, rs2.ok, imm.ok))
row_of s (Blt rs1 rs2 imm) = blt_row s (word_of (Blt rs1 rs2 imm)) rs1.bits rs2.bits imm.half
    (omega (arith, rs1.ok, rs2.ok, imm.ok)) (omega (arith, rs1.ok, rs2.ok, imm.ok)) (omega (arith, rs1.ok, rs2.ok, imm.ok))
    (omega (arith, rs1.ok, rs2.ok, imm.ok)) (omega (arith, rs1.ok, rs2.ok, imm.ok))
row_of s (Bge rs1 rs2 imm) = bge_row s (word_of (Bge rs1 rs2 imm)) rs1.bits rs2.bits imm.half
    (omega (arith, rs1.ok, rs2.ok, imm.ok)) (omega (arith, rs1.ok, rs2.ok, imm.ok)) (omega (arith, rs1.ok, rs2.ok, imm.ok))
    (omega (arith, rs1.ok, rs2.ok, imm.ok)) (omega (arith, rs1.ok, rs2.ok, imm.ok))
row_of s (Bltu rs1 rs2 imm) = bltu_row s (word_of (Bltu rs1 rs2 imm)) rs1.bits rs2.bits imm.half
    (omega (arith, rs1.ok, rs2.ok, imm.ok)) (omega (arith, rs1.ok, rs2.ok, imm.ok)) (omega (arith, rs1.ok, rs2.ok, imm.ok))
    (omega (arith, rs1.ok, rs2.ok, imm.ok)) (omega (arith, rs1.ok, rs2.ok, imm.ok))
row_of s (Bgeu rs1 rs2 imm) = bgeu_row s (word_of (Bgeu rs1 rs2 imm)) rs1.bits rs2.bits imm.half
    (omega (arith, rs1.ok, rs2.ok, imm.ok)) (omega (arith, rs1.ok, rs2.ok, imm.ok)) (omega (arith, rs1.ok, rs2.ok, imm.ok))
    (omega (arith, rs1.ok, rs2.ok, imm.ok)) (omega (arith, rs1.ok, rs2.ok, imm.ok))
row_of s (Lb rd rs1 imm) = lb_row s (word_of (Lb rd rs1 imm)) rd.bits rs1.bits imm.bits (omega (arith, rd.ok, rs1.ok, imm.ok))
    (omega (arith, rd.ok, rs1.ok, imm.ok)) (omega (arith, rd.ok, rs1.ok, imm.ok)) (omega (arith, rd.ok, rs1.ok, imm.ok))
    (omega (arith, rd.ok, rs1.ok, imm.ok))
row_of s (Lh rd rs1 imm) = lh_row s (word_of (Lh rd rs1 imm)) rd.bits rs1.bits imm.bits (omega (arith, rd.ok, rs1.ok, imm.ok))
    (omega (arith, rd.ok, rs1.ok, imm.ok)) (omega (arith, rd.ok, rs1.ok, imm.ok)) (omega (arith, rd.ok, rs1.ok, imm.ok))
    (omega (arith, rd.ok, rs1.ok, imm.ok))
row_of s (Lw rd rs1 imm) = lw_row s (word_of (Lw rd rs1 imm)) rd.bits rs1.bits imm.bits (omega (arith, rd.ok, rs1.ok, imm.ok))
    (omega (arith, rd.ok, rs1.ok, imm.ok)) (omega (arith, rd.ok, rs1.ok, imm.ok)) (omega (arith, rd.ok, rs1.ok, imm.ok))
    (omega (arith, rd.ok, rs1.ok, imm.ok))
row_of s (Lbu rd rs1 imm) = lbu_row s (word_of (Lbu rd rs1 imm)) rd.bits rs1.bits imm.bits (omega (arith, rd.ok, rs1.ok, imm.ok))
    (omega (arith, rd.ok, rs1.ok, imm.ok)) (omega (arith, rd.ok, rs1.ok, imm.ok)) (omega (arith, rd.ok, rs1.ok, imm.ok))
    (omega (arith, rd.ok, rs1.ok, imm.ok))
row_of s (Lhu rd rs1 imm) = lhu_row s (word_of (Lhu rd rs1 imm)) rd.bits rs1.bits imm.bits (omega (arith, rd.ok, rs1.ok, imm.ok))
    (omega (arith, rd.ok, rs1.ok, imm.ok)) (omega (arith, rd.ok, rs1.ok, imm.ok)) (omega (arith, rd.ok, rs1.ok, imm.ok))
    (omega (arith, rd.ok, rs1.ok, imm.ok))
row_of s (Sb rs1 rs2 imm) = sb_row s (word_of (Sb rs1 rs2 imm)) rs1.bits rs2.bits imm.bits (omega (arith, rs1.ok, rs2.ok, imm.ok))
    (omega (arith, rs1.ok, rs2.ok, imm.ok)) (omega (arith, rs1.ok, rs2.ok, imm.ok)) (omega (arith, rs1.ok, rs2.ok, imm.ok))
    (omega (arith, rs1.ok, rs2.ok, imm.ok))
row_of s (Sh rs1 rs2 imm) = sh_row s (word_of (Sh rs1 rs2 imm)) rs1.bits rs2.bits imm.bits (omega (arith, rs1.ok, rs2.ok, imm.ok))
    (omega (arith, rs1.ok, rs2.ok, imm.ok)) (omega (arith, rs1.ok, rs2.ok, imm.ok)) (omega (arith, rs1.ok, rs2.ok, imm.ok))
    (omega (arith, rs1.ok, rs2.ok, imm.ok))
row_of s (Sw rs1 rs2 imm) = sw_row s (word_of (Sw rs1 rs2 imm)) rs1.bits rs2.bits imm.bits (omega (arith, rs1.ok, rs2.ok, imm.ok))
    (omega (arith, rs1.ok, rs2.ok, imm.ok)) (omega (arith, rs1.ok, rs2.ok, imm.ok)) (omega (arith, rs1.ok, rs2.ok, imm.ok))
    (omega (arith, rs1.ok, rs2.ok, imm.ok))
row_of s (Addi rd rs1 imm) = addi_row s (word_of (Addi rd rs1 imm)) rd.bits rs1.bits imm.bits
    (omega (arith, rd.ok, rs1.ok, imm.ok)) (omega (arith, rd.ok, rs1.ok, imm.ok)) (omega (arith, rd.ok, rs1.ok, imm.ok))
    (omega (arith, rd.ok, rs1.ok, imm.ok)) (omega (arith, rd.ok, rs1.ok, imm.ok))
row_of s (Slti rd rs1 imm) = slti_row s (word_of (Slti rd rs1 imm)) rd.bits rs1.bits imm.bits
    (omega (arith, rd.ok, rs1.ok, imm.ok)) (omega (arith, rd.ok, rs1.ok, imm.ok)) (omega (arith, rd.ok, rs1.ok, imm.ok))
    (omega (arith, rd.ok, rs1.ok, imm.ok)) (omega (arith, rd.ok, rs1.ok, imm.ok))
row_of s (Sltiu rd rs1 imm) = sltiu_row s (word_of (Sltiu rd rs1 imm)) rd.bits rs1.bits imm.bits
    (omega (arith, rd.ok, rs1.ok, imm.ok)) (omega (arith, rd.ok, rs1.ok, imm.ok)) (omega (arith, rd.ok, rs1.ok, imm.ok))
    (omega (arith, rd.ok, rs1.ok, imm.ok)) (omega (arith, rd.ok, rs1.ok, imm.ok))
row_of s (Xori rd rs1 imm) = xori_row s (word_of (Xori rd rs1 imm)) rd.bits rs1.bits imm.bits
    (omega (arith, rd.ok, rs1.ok, imm.ok)) (omega (arith, rd.ok, rs1.ok, imm.ok)) (omega (arith, rd.ok, rs1.ok, imm.ok))
    (omega (arith, rd.ok, rs1.ok, imm.ok)) (omega (arith, rd.ok, rs1.ok, imm.ok))
row_of s (Ori rd rs1 imm) = ori_row s (word_of (Ori rd rs1 imm)) rd.bits rs1.bits imm.bits (omega (arith, rd.ok, rs1.ok, imm.ok))
    (omega (arith, rd.ok, rs1.ok, imm.ok)) (omega (arith, rd.ok, rs1.ok, imm.ok)) (omega (arith, rd.ok, rs1.ok, imm.ok))
    (omega (arith, rd.ok, rs1.ok, imm.ok))
row_of s (Andi rd rs1 imm) = andi_row s (word_of (Andi rd rs1 imm)) rd.bits rs1.bits imm.bits
    (omega (arith, rd.ok, rs1.ok, imm.ok)) (omega (arith, rd.ok, rs1.ok, imm.ok)) (omega (arith, rd.ok, rs1.ok, imm.ok))
    (omega (arith, rd.ok, rs1.ok, imm.ok)) (omega (arith, rd.ok, rs1.ok, imm.ok))
row_of s (Slli rd rs1 shamt) =
    slli_row s (word_of (Slli rd rs1 shamt)) rd.bits rs1.bits shamt.bits (omega (arith, rd.ok, rs1.ok, shamt.ok))
    (omega (arith, rd.ok, rs1.ok, shamt.ok)) (omega (arith, rd.ok, rs1.ok, shamt.ok)) (omega (arith, rd.ok, rs1.ok, shamt.ok))
    (omega (arith, rd.ok, rs1.ok, shamt.ok)) (omega (arith, rd.ok, rs1.ok, shamt.ok))
row_of s (Srli rd rs1 shamt) =
    srli_row s (word_of (Srli rd rs1 shamt)) rd.bits rs1.bits shamt.bits (omega (arith, rd.ok, rs1.ok, shamt.ok))
    (omega (arith, rd.ok, rs1.ok, shamt.ok)) (omega (arith, rd.ok, rs1.ok, shamt.ok)) (omega (arith, rd.ok, rs1.ok, shamt.ok))
    (omega (arith, rd.ok, rs1.ok, shamt.ok)) (omega (arith, rd.ok, rs1.ok, shamt.ok))
row_of s (Srai rd rs1 shamt) =
    srai_row s (word_of (Srai rd rs1 shamt)) rd.bits rs1.bits shamt.bits (omega (arith, rd.ok, rs1.ok, shamt.ok))
    (omega (arith, rd.ok, rs1.ok, shamt.ok)) (omega (arith, rd.ok, rs1.ok, shamt.ok)) (omega (arith, rd.ok, rs1.ok, shamt.ok))
    (omega (arith, rd.ok, rs1.ok, shamt.ok)) (omega (arith, rd.ok, rs1.ok, shamt.ok))
row_of s (Add rd rs1 rs2) = add_row s (word_of (Add rd rs1 rs2)) rd.bits rs1.bits rs2.bits (omega (arith, rd.ok, rs1.ok, rs2.ok))
    (omega (arith, rd.ok, rs1.ok, rs2.ok)) (omega (arith, rd.ok, rs1.ok, rs2.ok)) (omega (arith, rd.ok, rs1.ok, rs2.ok))
    (omega (arith, rd.ok, rs1.ok, rs2.ok)) (omega (arith, rd.ok, rs1.ok, rs2.ok))
row_of s (Sub rd rs1 rs2) = sub_row s (word_of (Sub rd rs1 rs2)) rd.bits rs1.bits rs2.bits (omega (arith, rd.ok, rs1.ok, rs2.ok))
    (omega (arith, rd.ok, rs1.ok, rs2.ok)) (omega (arith, rd.ok, rs1.ok, rs2.ok)) (omega (arith, rd.ok, rs1.ok, rs2.ok))
    (omega (arith, rd.ok, rs1.ok, rs2.ok)) (omega (arith, rd.ok, rs1.ok, rs2.ok))
row_of s (Sll rd rs1 rs2) = sll_row s (word_of (Sll rd rs1 rs2)) rd.bits rs1.bits rs2.bits (omega (arith, rd.ok, rs1.ok, rs2.ok))
    (omega (arith, rd.ok, rs1.ok, rs2.ok)) (omega (arith, rd.ok, rs1.ok, rs2.ok)) (omega (arith, rd.ok, rs1.ok, rs2.ok))
    (omega (arith, rd.ok, rs1.ok, rs2.ok)) (omega (arith, rd.ok, rs1.ok, rs2.ok))
row_of s (Slt rd rs1 rs2) = slt_row s (word_of (Slt rd rs1 rs2)) rd.bits rs1.bits rs2.bits (omega (arith, rd.ok, rs1.ok, rs2.ok))
    (omega (arith, rd.ok, rs1.ok, rs2.ok)) (omega (arith, rd.ok, rs1.ok, rs2.ok)) (omega (arith, rd.ok, rs1.ok, rs2.ok))
    (omega (arith, rd.ok, rs1.ok, rs2.ok)) (omega (arith, rd.ok, rs1.ok, rs2.ok))
row_of s (Sltu rd rs1 rs2) = sltu_row s (word_of (Sltu rd rs1 rs2)) rd.bits rs1.bits rs2.bits
    (omega (arith, rd.ok, rs1.ok, rs2.ok)) (omega (arith, rd.ok, rs1.ok, rs2.ok)) (omega (arith, rd.ok, rs1.ok, rs2.ok))
    (omega (arith, rd.ok, rs1.ok, rs2.ok)) (omega (arith, rd.ok, rs1.ok, rs2.ok)) (omega (arith, rd.ok, rs1.ok, rs2.ok))
row_of s (Xor rd rs1 rs2) = xor_row s (word_of (Xor rd rs1 rs2)) rd.bits rs1.bits rs2.bits (omega (arith, rd.ok, rs1.ok, rs2.ok))
    (omega (arith, rd.ok, rs1.ok, rs2.ok)) (omega (arith, rd.ok, rs1.ok, rs2.ok)) (omega (arith, rd.ok, rs1.ok, rs2.ok))
    (omega (arith, rd.ok, rs1.ok, rs2.ok)) (omega (arith, rd.ok, rs1.ok, rs2.ok))
row_of s (Srl rd rs1 rs2) = srl_row s (word_of (Srl rd rs1 rs2)) rd.bits rs1.bits rs2.bits (omega (arith, rd.ok, rs1.ok, rs2.ok))
    (omega (arith, rd.ok, rs1.ok, rs2.ok)) (omega (arith, rd.ok, rs1.ok, rs2.ok)) (omega (arith, rd.ok, rs1.ok, rs2.ok))
    (omega (arith, rd.ok, rs1.ok, rs2.ok)) (omega (arith, rd.ok, rs1.ok, rs2.ok))
row_of s (Sra rd rs1 rs2) = sra_row s (word_of (Sra rd rs1 rs2)) rd.bits rs1.bits rs2.bits (omega (arith, rd.ok, rs1.ok, rs2.ok))
    (omega (arith, rd.ok, rs1.ok, rs2.ok)) (omega (arith, rd.ok, rs1.ok, rs2.ok)) (omega (arith, rd.ok, rs1.ok, rs2.ok))
    (omega (arith, rd.ok, rs1.ok, rs2.ok)) (omega (arith, rd.ok, rs1.ok, rs2.ok))
row_of s (Or rd rs1 rs2) = or_row s (word_of (Or rd rs1 rs2)) rd.bits rs1.bits rs2.bits (omega (arith, rd.ok, rs1.ok, rs2.ok))
    (omega (arith, rd.ok, rs1.ok, rs2.ok)) (omega (arith, rd.ok, rs1.ok, rs2.ok)) (omega (arith, rd.ok, rs1.ok, rs2.ok))
    (omega (arith, rd.ok, rs1.ok, rs2.ok)) (omega (arith, rd.ok, rs1.ok, rs2.ok))
row_of s (And rd rs1 rs2) = and_row s (word_of (And rd rs1 rs2)) rd.bits rs1.bits rs2.bits (omega (arith, rd.ok, rs1.ok, rs2.ok))
    (omega (arith, rd.ok, rs1.ok, rs2.ok)) (omega (arith, rd.ok, rs1.ok, rs2.ok)) (omega (arith, rd.ok, rs1.ok, rs2.ok))
    (omega (arith, rd.ok, rs1.ok, rs2.ok)) (omega (arith, rd.ok, rs1.ok, rs2.ok))
row_of s (Mul rd rs1 rs2) = mul_row s (word_of (Mul rd rs1 rs2)) rd.bits rs1.bits rs2.bits (omega (arith, rd.ok, rs1.ok, rs2.ok))
    (omega (arith, rd.ok, rs1.ok, rs2.ok)) (omega (arith, rd.ok, rs1.ok, rs2.ok)) (omega (arith, rd.ok, rs1.ok, rs2.ok))
    (omega (arith, rd.ok, rs1.ok, rs2.ok)) (omega (arith, rd.ok, rs1.ok, rs2.ok))
row_of s (Mulh rd rs1 rs2) = mulh_row s (word_of (Mulh rd rs1 rs2)) rd.bits rs1.bits rs2.bits
    (omega (arith, rd.ok, rs1.ok, rs2.ok)) (omega (arith, rd.ok, rs1.ok, rs2.ok)) (omega (arith, rd.ok, rs1.ok, rs2.ok))
    (omega (arith, rd.ok, rs1.ok, rs2.ok)) (omega (arith, rd.ok, rs1.ok, rs2.ok)) (omega (arith, rd.ok, rs1.ok, rs2.ok))
row_of s (Mulhsu rd rs1 rs2) =
    mulhsu_row s (word_of (Mulhsu rd rs1 rs2)) rd.bits rs1.bits rs2.bits (omega (arith, rd.ok, rs1.ok, rs2.ok))
    (omega (arith, rd.ok, rs1.ok, rs2.ok)) (omega (arith, rd.ok, rs1.ok, rs2.ok)) (omega (arith, rd.ok, rs1.ok, rs2.ok))
    (omega (arith, rd.ok, rs1.ok, rs2.ok)) (omega (arith, rd.ok, rs1.ok, rs2.ok))
row_of s (Mulhu rd rs1 rs2) = mulhu_row s (word_of (Mulhu rd rs1 rs2)) rd.bits rs1.bits rs2.bits
    (omega (arith, rd.ok, rs1.ok, rs2.ok)) (omega (arith, rd.ok, rs1.ok, rs2.ok)) (omega (arith, rd.ok, rs1.ok, rs2.ok))
    (omega (arith, rd.ok, rs1.ok, rs2.ok)) (omega (arith, rd.ok, rs1.ok, rs2.ok)) (omega (arith, rd.ok, rs1.ok, rs2.ok))
row_of s (Div rd rs1 rs2) = div_row s (word_of (Div rd rs1 rs2)) rd.bits rs1.bits rs2.bits (omega (arith, rd.ok, rs1.ok, rs2.ok))
    (omega (arith, rd.ok, rs1.ok, rs2.ok)) (omega (arith, rd.ok, rs1.ok, rs2.ok)) (omega (arith, rd.ok, rs1.ok, rs2.ok))
    (omega (arith, rd.ok, rs1.ok, rs2.ok)) (omega (arith, rd.ok, rs1.ok, rs2.ok))
row_of s (Divu rd rs1 rs2) = divu_row s (word_of (Divu rd rs1 rs2)) rd.bits rs1.bits rs2.bits
    (omega (arith, rd.ok, rs1.ok, rs2.ok)) (omega (arith, rd.ok, rs1.ok, rs2.ok)) (omega (arith, rd.ok, rs1.ok, rs2.ok))
    (omega (arith, rd.ok, rs1.ok, rs2.ok)) (omega (arith, rd.ok, rs1.ok, rs2.ok)) (omega (arith, rd.ok, rs1.ok, rs2.ok))
row_of s (Rem rd rs1 rs2) = rem_row s (word_of (Rem rd rs1 rs2)) rd.bits rs1.bits rs2.bits (omega (arith, rd.ok, rs1.ok, rs2.ok))
    (omega (arith, rd.ok, rs1.ok, rs2.ok)) (omega (arith, rd.ok, rs1.ok, rs2.ok)) (omega (arith, rd.ok, rs1.ok, rs2.ok))
    (omega (arith, rd.ok, rs1.ok, rs2.ok)) (omega (arith, rd.ok, rs1.ok, rs2.ok))
row_of s (Remu rd rs1 rs2) = remu_row s (word_of (Remu rd rs1 rs2)) rd.bits rs1.bits rs2.bits
    (omega (arith, rd.ok, rs1.ok, rs2.ok)) (omega (arith, rd.ok, rs1.ok, rs2.ok)) (omega (arith, rd.ok, rs1.ok, rs2.ok))
    (omega (arith, rd.ok, rs1.ok, rs2.ok)) (omega (arith, rd.ok, rs1.ok, rs2.ok)) (omega (arith, rd.ok, rs1.ok, rs2.ok))
row_of s (Fence rd rs1 upper) =
    fence_row s (word_of (Fence rd rs1 upper)) (omega (arith, rd.ok, rs1.ok, upper.ok)) (omega (arith, rd.ok, rs1.ok, upper.ok))
row_of s EcallCode = ecall_row s
row_of s EbreakCode = ebreak_row s

pub choose : {A : Type 0} (b : Bool) (x y z : A) → (b ≡ true → x ≡ z) → (b ≡ false → y ≡ z) → (if b then x else y) ≡ z
choose true x y z by_then by_else = by_then refl
choose false x y z by_then by_else = by_else refl

-- no instruction has the word
abbrev Unknown : ℕ → Type 0
Unknown w = (i : Instr) → w ≡ word_of i → ⊥

no_lui : (w : ℕ) → w < 2 ^ 32 → Unknown w → w % 128 ≡ 55 → ⊥
no_lui w fits none o = none (Lui (reg (w / 128)) (imm20 (w / 4096))) (omega arith)

no_auipc : (w : ℕ) → w < 2 ^ 32 → Unknown w → w % 128 ≡ 23 → ⊥
no_auipc w fits none o = none (Auipc (reg (w / 128)) (imm20 (w / 4096))) (omega arith)

no_jal : (w : ℕ) → w < 2 ^ 32 → Unknown w → w % 128 ≡ 111 → ⊥
no_jal w fits none o = none (Jal (reg (w / 128))
    (imm21 (w / 2147483648 * 524288 + w / 4096 % 256 * 2048 + w / 1048576 % 2 * 1024 + w / 2097152 % 1024))) (omega arith)

no_jalr : (w : ℕ) → w < 2 ^ 32 → Unknown w → w % 128 ≡ 103 → w / 4096 % 8 ≡ 0 → ⊥
no_jalr w fits none o f = none (Jalr (reg (w / 128)) (reg (w / 32768)) (imm12 (w / 1048576))) (omega arith)

no_beq : (w : ℕ) → w < 2 ^ 32 → Unknown w → w % 128 ≡ 99 → w / 4096 % 8 ≡ 0 → ⊥
no_beq w fits none o f = none (Beq (reg (w / 32768)) (reg (w / 1048576))
    (imm13 (w / 2147483648 * 2048 + w / 128 % 2 * 1024 + w / 33554432 % 64 * 16 + w / 256 % 16))) (omega arith)

no_bne : (w : ℕ) → w < 2 ^ 32 → Unknown w → w % 128 ≡ 99 → w / 4096 % 8 ≡ 1 → ⊥
no_bne w fits none o f = none (Bne (reg (w / 32768)) (reg (w / 1048576))
    (imm13 (w / 2147483648 * 2048 + w / 128 % 2 * 1024 + w / 33554432 % 64 * 16 + w / 256 % 16))) (omega arith)

no_blt : (w : ℕ) → w < 2 ^ 32 → Unknown w → w % 128 ≡ 99 → w / 4096 % 8 ≡ 4 → ⊥
no_blt w fits none o f = none (Blt (reg (w / 32768)) (reg (w / 1048576))
    (imm13 (w / 2147483648 * 2048 + w / 128 % 2 * 1024 + w / 33554432 % 64 * 16 + w / 256 % 16))) (omega arith)

no_bge : (w : ℕ) → w < 2 ^ 32 → Unknown w → w % 128 ≡ 99 → w / 4096 % 8 ≡ 5 → ⊥
no_bge w fits none o f = none (Bge (reg (w / 32768)) (reg (w / 1048576))
    (imm13 (w / 2147483648 * 2048 + w / 128 % 2 * 1024 + w / 33554432 % 64 * 16 + w / 256 % 16))) (omega arith)

no_bltu : (w : ℕ) → w < 2 ^ 32 → Unknown w → w % 128 ≡ 99 → w / 4096 % 8 ≡ 6 → ⊥
no_bltu w fits none o f = none
    (Bltu (reg (w / 32768)) (reg (w / 1048576))
    (imm13 (w / 2147483648 * 2048 + w / 128 % 2 * 1024 + w / 33554432 % 64 * 16 + w / 256 % 16))) (omega arith)

no_bgeu : (w : ℕ) → w < 2 ^ 32 → Unknown w → w % 128 ≡ 99 → w / 4096 % 8 ≡ 7 → ⊥
no_bgeu w fits none o f = none
    (Bgeu (reg (w / 32768)) (reg (w / 1048576))
    (imm13 (w / 2147483648 * 2048 + w / 128 % 2 * 1024 + w / 33554432 % 64 * 16 + w / 256 % 16))) (omega arith)

no_lb : (w : ℕ) → w < 2 ^ 32 → Unknown w → w % 128 ≡ 3 → w / 4096 % 8 ≡ 0 → ⊥
no_lb w fits none o f = none (Lb (reg (w / 128)) (reg (w / 32768)) (imm12 (w / 1048576))) (omega arith)

no_lh : (w : ℕ) → w < 2 ^ 32 → Unknown w → w % 128 ≡ 3 → w / 4096 % 8 ≡ 1 → ⊥
no_lh w fits none o f = none (Lh (reg (w / 128)) (reg (w / 32768)) (imm12 (w / 1048576))) (omega arith)

no_lw : (w : ℕ) → w < 2 ^ 32 → Unknown w → w % 128 ≡ 3 → w / 4096 % 8 ≡ 2 → ⊥
no_lw w fits none o f = none (Lw (reg (w / 128)) (reg (w / 32768)) (imm12 (w / 1048576))) (omega arith)

no_lbu : (w : ℕ) → w < 2 ^ 32 → Unknown w → w % 128 ≡ 3 → w / 4096 % 8 ≡ 4 → ⊥
no_lbu w fits none o f = none (Lbu (reg (w / 128)) (reg (w / 32768)) (imm12 (w / 1048576))) (omega arith)

no_lhu : (w : ℕ) → w < 2 ^ 32 → Unknown w → w % 128 ≡ 3 → w / 4096 % 8 ≡ 5 → ⊥
no_lhu w fits none o f = none (Lhu (reg (w / 128)) (reg (w / 32768)) (imm12 (w / 1048576))) (omega arith)

no_sb : (w : ℕ) → w < 2 ^ 32 → Unknown w → w % 128 ≡ 35 → w / 4096 % 8 ≡ 0 → ⊥
no_sb w fits none o f = none (Sb (reg (w / 32768)) (reg (w / 1048576)) (imm12 (w / 33554432 * 32 + w / 128 % 32))) (omega arith)

no_sh : (w : ℕ) → w < 2 ^ 32 → Unknown w → w % 128 ≡ 35 → w / 4096 % 8 ≡ 1 → ⊥
no_sh w fits none o f = none (Sh (reg (w / 32768)) (reg (w / 1048576)) (imm12 (w / 33554432 * 32 + w / 128 % 32))) (omega arith)

no_sw : (w : ℕ) → w < 2 ^ 32 → Unknown w → w % 128 ≡ 35 → w / 4096 % 8 ≡ 2 → ⊥
no_sw w fits none o f = none (Sw (reg (w / 32768)) (reg (w / 1048576)) (imm12 (w / 33554432 * 32 + w / 128 % 32))) (omega arith)

no_addi : (w : ℕ) → w < 2 ^ 32 → Unknown w → w % 128 ≡ 19 → w / 4096 % 8 ≡ 0 → ⊥
no_addi w fits none o f = none (Addi (reg (w / 128)) (reg (w / 32768)) (imm12 (w / 1048576))) (omega arith)

no_slti : (w : ℕ) → w < 2 ^ 32 → Unknown w → w % 128 ≡ 19 → w / 4096 % 8 ≡ 2 → ⊥
no_slti w fits none o f = none (Slti (reg (w / 128)) (reg (w / 32768)) (imm12 (w / 1048576))) (omega arith)

no_sltiu : (w : ℕ) → w < 2 ^ 32 → Unknown w → w % 128 ≡ 19 → w / 4096 % 8 ≡ 3 → ⊥
no_sltiu w fits none o f = none (Sltiu (reg (w / 128)) (reg (w / 32768)) (imm12 (w / 1048576))) (omega arith)

no_xori : (w : ℕ) → w < 2 ^ 32 → Unknown w → w % 128 ≡ 19 → w / 4096 % 8 ≡ 4 → ⊥
no_xori w fits none o f = none (Xori (reg (w / 128)) (reg (w / 32768)) (imm12 (w / 1048576))) (omega arith)

no_ori : (w : ℕ) → w < 2 ^ 32 → Unknown w → w % 128 ≡ 19 → w / 4096 % 8 ≡ 6 → ⊥
no_ori w fits none o f = none (Ori (reg (w / 128)) (reg (w / 32768)) (imm12 (w / 1048576))) (omega arith)

no_andi : (w : ℕ) → w < 2 ^ 32 → Unknown w → w % 128 ≡ 19 → w / 4096 % 8 ≡ 7 → ⊥
no_andi w fits none o f = none (Andi (reg (w / 128)) (reg (w / 32768)) (imm12 (w / 1048576))) (omega arith)

no_slli : (w : ℕ) → w < 2 ^ 32 → Unknown w → w % 128 ≡ 19 → w / 4096 % 8 ≡ 1 → w / 33554432 ≡ 0 → ⊥
no_slli w fits none o f g = none (Slli (reg (w / 128)) (reg (w / 32768)) (shamt (w / 1048576))) (omega arith)

no_srli : (w : ℕ) → w < 2 ^ 32 → Unknown w → w % 128 ≡ 19 → w / 4096 % 8 ≡ 5 → w / 33554432 ≡ 0 → ⊥
no_srli w fits none o f g = none (Srli (reg (w / 128)) (reg (w / 32768)) (shamt (w / 1048576))) (omega arith)

no_srai : (w : ℕ) → w < 2 ^ 32 → Unknown w → w % 128 ≡ 19 → w / 4096 % 8 ≡ 5 → w / 33554432 ≡ 32 → ⊥
no_srai w fits none o f g = none (Srai (reg (w / 128)) (reg (w / 32768)) (shamt (w / 1048576))) (omega arith)

no_add : (w : ℕ) → w < 2 ^ 32 → Unknown w → w % 128 ≡ 51 → w / 4096 % 8 ≡ 0 → w / 33554432 ≡ 0 → ⊥
no_add w fits none o f g = none (Add (reg (w / 128)) (reg (w / 32768)) (reg (w / 1048576))) (omega arith)

no_sub : (w : ℕ) → w < 2 ^ 32 → Unknown w → w % 128 ≡ 51 → w / 4096 % 8 ≡ 0 → w / 33554432 ≡ 32 → ⊥
no_sub w fits none o f g = none (Sub (reg (w / 128)) (reg (w / 32768)) (reg (w / 1048576))) (omega arith)

no_sll : (w : ℕ) → w < 2 ^ 32 → Unknown w → w % 128 ≡ 51 → w / 4096 % 8 ≡ 1 → w / 33554432 ≡ 0 → ⊥
no_sll w fits none o f g = none (Sll (reg (w / 128)) (reg (w / 32768)) (reg (w / 1048576))) (omega arith)

no_slt : (w : ℕ) → w < 2 ^ 32 → Unknown w → w % 128 ≡ 51 → w / 4096 % 8 ≡ 2 → w / 33554432 ≡ 0 → ⊥
no_slt w fits none o f g = none (Slt (reg (w / 128)) (reg (w / 32768)) (reg (w / 1048576))) (omega arith)

no_sltu : (w : ℕ) → w < 2 ^ 32 → Unknown w → w % 128 ≡ 51 → w / 4096 % 8 ≡ 3 → w / 33554432 ≡ 0 → ⊥
no_sltu w fits none o f g = none (Sltu (reg (w / 128)) (reg (w / 32768)) (reg (w / 1048576))) (omega arith)

no_xor : (w : ℕ) → w < 2 ^ 32 → Unknown w → w % 128 ≡ 51 → w / 4096 % 8 ≡ 4 → w / 33554432 ≡ 0 → ⊥
no_xor w fits none o f g = none (Xor (reg (w / 128)) (reg (w / 32768)) (reg (w / 1048576))) (omega arith)

no_srl : (w : ℕ) → w < 2 ^ 32 → Unknown w → w % 128 ≡ 51 → w / 4096 % 8 ≡ 5 → w / 33554432 ≡ 0 → ⊥
no_srl w fits none o f g = none (Srl (reg (w / 128)) (reg (w / 32768)) (reg (w / 1048576))) (omega arith)

no_sra : (w : ℕ) → w < 2 ^ 32 → Unknown w → w % 128 ≡ 51 → w / 4096 % 8 ≡ 5 → w / 33554432 ≡ 32 → ⊥
no_sra w fits none o f g = none (Sra (reg (w / 128)) (reg (w / 32768)) (reg (w / 1048576))) (omega arith)

no_or : (w : ℕ) → w < 2 ^ 32 → Unknown w → w % 128 ≡ 51 → w / 4096 % 8 ≡ 6 → w / 33554432 ≡ 0 → ⊥
no_or w fits none o f g = none (Or (reg (w / 128)) (reg (w / 32768)) (reg (w / 1048576))) (omega arith)

no_and : (w : ℕ) → w < 2 ^ 32 → Unknown w → w % 128 ≡ 51 → w / 4096 % 8 ≡ 7 → w / 33554432 ≡ 0 → ⊥
no_and w fits none o f g = none (And (reg (w / 128)) (reg (w / 32768)) (reg (w / 1048576))) (omega arith)

no_mul : (w : ℕ) → w < 2 ^ 32 → Unknown w → w % 128 ≡ 51 → w / 4096 % 8 ≡ 0 → w / 33554432 ≡ 1 → ⊥
no_mul w fits none o f g = none (Mul (reg (w / 128)) (reg (w / 32768)) (reg (w / 1048576))) (omega arith)

no_mulh : (w : ℕ) → w < 2 ^ 32 → Unknown w → w % 128 ≡ 51 → w / 4096 % 8 ≡ 1 → w / 33554432 ≡ 1 → ⊥
no_mulh w fits none o f g = none (Mulh (reg (w / 128)) (reg (w / 32768)) (reg (w / 1048576))) (omega arith)

no_mulhsu : (w : ℕ) → w < 2 ^ 32 → Unknown w → w % 128 ≡ 51 → w / 4096 % 8 ≡ 2 → w / 33554432 ≡ 1 → ⊥
no_mulhsu w fits none o f g = none (Mulhsu (reg (w / 128)) (reg (w / 32768)) (reg (w / 1048576))) (omega arith)

no_mulhu : (w : ℕ) → w < 2 ^ 32 → Unknown w → w % 128 ≡ 51 → w / 4096 % 8 ≡ 3 → w / 33554432 ≡ 1 → ⊥
no_mulhu w fits none o f g = none (Mulhu (reg (w / 128)) (reg (w / 32768)) (reg (w / 1048576))) (omega arith)

no_div : (w : ℕ) → w < 2 ^ 32 → Unknown w → w % 128 ≡ 51 → w / 4096 % 8 ≡ 4 → w / 33554432 ≡ 1 → ⊥
no_div w fits none o f g = none (Div (reg (w / 128)) (reg (w / 32768)) (reg (w / 1048576))) (omega arith)

no_divu : (w : ℕ) → w < 2 ^ 32 → Unknown w → w % 128 ≡ 51 → w / 4096 % 8 ≡ 5 → w / 33554432 ≡ 1 → ⊥
no_divu w fits none o f g = none (Divu (reg (w / 128)) (reg (w / 32768)) (reg (w / 1048576))) (omega arith)

no_rem : (w : ℕ) → w < 2 ^ 32 → Unknown w → w % 128 ≡ 51 → w / 4096 % 8 ≡ 6 → w / 33554432 ≡ 1 → ⊥
no_rem w fits none o f g = none (Rem (reg (w / 128)) (reg (w / 32768)) (reg (w / 1048576))) (omega arith)

no_remu : (w : ℕ) → w < 2 ^ 32 → Unknown w → w % 128 ≡ 51 → w / 4096 % 8 ≡ 7 → w / 33554432 ≡ 1 → ⊥
no_remu w fits none o f g = none (Remu (reg (w / 128)) (reg (w / 32768)) (reg (w / 1048576))) (omega arith)

no_fence : (w : ℕ) → w < 2 ^ 32 → Unknown w → w % 128 ≡ 15 → w / 4096 % 8 ≡ 0 → ⊥
no_fence w fits none o f = none (Fence (reg (w / 128)) (reg (w / 32768)) (bits12 (w / 1048576))) (omega arith)

unknown_branch : (w : ℕ) (a b : ℕ) → w < 2 ^ 32 → Unknown w → w % 128 ≡ 99 → taken (w / 4096 % 8) a b ≡ None
unknown_branch w a b fits none o =
    choose (w / 4096 % 8 == 0) _ _ None (λ e. absurd (no_beq w fits none o (eqb-true (w / 4096 % 8) 0 e))) (λ _.
    choose (w / 4096 % 8 == 1) _ _ None (λ e. absurd (no_bne w fits none o (eqb-true (w / 4096 % 8) 1 e))) (λ _.
    choose (w / 4096 % 8 == 4) _ _ None (λ e. absurd (no_blt w fits none o (eqb-true (w / 4096 % 8) 4 e))) (λ _.
    choose (w / 4096 % 8 == 5) _ _ None (λ e. absurd (no_bge w fits none o (eqb-true (w / 4096 % 8) 5 e))) (λ _.
    choose (w / 4096 % 8 == 6) _ _ None (λ e. absurd (no_bltu w fits none o (eqb-true (w / 4096 % 8) 6 e))) (λ _.
    choose (w / 4096 % 8 == 7) _ _ None (λ e. absurd (no_bgeu w fits none o (eqb-true (w / 4096 % 8) 7 e))) (λ _.
    refl))))))

unknown_basic : (w : ℕ) (a b : ℕ) → w < 2 ^ 32 → Unknown w → w % 128 ≡ 51 → w / 33554432 ≡ 0 → ⊥
unknown_basic w a b fits none o g =
    let n0 : w / 4096 % 8 ≡ 0 → ⊥ = λ f. no_add w fits none o f g in
    let n1 : w / 4096 % 8 ≡ 1 → ⊥ = λ f. no_sll w fits none o f g in
    let n2 : w / 4096 % 8 ≡ 2 → ⊥ = λ f. no_slt w fits none o f g in
    let n3 : w / 4096 % 8 ≡ 3 → ⊥ = λ f. no_sltu w fits none o f g in
    let n4 : w / 4096 % 8 ≡ 4 → ⊥ = λ f. no_xor w fits none o f g in
    let n5 : w / 4096 % 8 ≡ 5 → ⊥ = λ f. no_srl w fits none o f g in
    let n6 : w / 4096 % 8 ≡ 6 → ⊥ = λ f. no_or w fits none o f g in
    let n7 : w / 4096 % 8 ≡ 7 → ⊥ = λ f. no_and w fits none o f g in
    omega arith

unknown_multiply : (w : ℕ) (a b : ℕ) → w < 2 ^ 32 → Unknown w → w % 128 ≡ 51 → w / 33554432 ≡ 1 → ⊥
unknown_multiply w a b fits none o g =
    let n0 : w / 4096 % 8 ≡ 0 → ⊥ = λ f. no_mul w fits none o f g in
    let n1 : w / 4096 % 8 ≡ 1 → ⊥ = λ f. no_mulh w fits none o f g in
    let n2 : w / 4096 % 8 ≡ 2 → ⊥ = λ f. no_mulhsu w fits none o f g in
    let n3 : w / 4096 % 8 ≡ 3 → ⊥ = λ f. no_mulhu w fits none o f g in
    let n4 : w / 4096 % 8 ≡ 4 → ⊥ = λ f. no_div w fits none o f g in
    let n5 : w / 4096 % 8 ≡ 5 → ⊥ = λ f. no_divu w fits none o f g in
    let n6 : w / 4096 % 8 ≡ 6 → ⊥ = λ f. no_rem w fits none o f g in
    let n7 : w / 4096 % 8 ≡ 7 → ⊥ = λ f. no_remu w fits none o f g in
    omega arith

unknown_operation : (w : ℕ) (a b : ℕ) → w < 2 ^ 32 → Unknown w → w % 128 ≡ 51 → operation (w / 33554432) (w / 4096 % 8) a b ≡ None
unknown_operation w a b fits none o =
    choose (w / 33554432 == 0) _ _ None (λ e. absurd (unknown_basic w a b fits none o (eqb-true (w / 33554432) 0 e))) (λ _.
    choose (w / 33554432 == 1) _ _ None (λ e. absurd (unknown_multiply w a b fits none o (eqb-true (w / 33554432) 1 e))) (λ _.
    choose (w / 33554432 == 32) _ _ None (λ g.
    choose (w / 4096 % 8 == 0) _ _ None
    (λ e. absurd (no_sub w fits none o (eqb-true (w / 4096 % 8) 0 e) (eqb-true (w / 33554432) 32 g))) (λ _.
    choose (w / 4096 % 8 == 5) _ _ None
    (λ e. absurd (no_sra w fits none o (eqb-true (w / 4096 % 8) 5 e) (eqb-true (w / 33554432) 32 g))) (λ _. refl)))
    (λ _. refl)))

unknown_plain : (w : ℕ) → w < 2 ^ 32 → Unknown w → w % 128 ≡ 19 → (w / 4096 % 8 == 1) ≡ false → (w / 4096 % 8 == 5) ≡ false → ⊥
unknown_plain w fits none o not_1 not_5 =
    let n1 : w / 4096 % 8 ≡ 1 → ⊥ = λ e. cc (ap (λ x. x == 1) e) in
    let n5 : w / 4096 % 8 ≡ 5 → ⊥ = λ e. cc (ap (λ x. x == 5) e) in
    let n0 : w / 4096 % 8 ≡ 0 → ⊥ = λ f. no_addi w fits none o f in
    let n2 : w / 4096 % 8 ≡ 2 → ⊥ = λ f. no_slti w fits none o f in
    let n3 : w / 4096 % 8 ≡ 3 → ⊥ = λ f. no_sltiu w fits none o f in
    let n4 : w / 4096 % 8 ≡ 4 → ⊥ = λ f. no_xori w fits none o f in
    let n6 : w / 4096 % 8 ≡ 6 → ⊥ = λ f. no_ori w fits none o f in
    let n7 : w / 4096 % 8 ≡ 7 → ⊥ = λ f. no_andi w fits none o f in
    omega arith

unknown_immediate : (s : State) (w : ℕ) → w < 2 ^ 32 → Unknown w → w % 128 ≡ 19 → operation_immediate s w ≡ None
unknown_immediate s w fits none o =
    choose (w / 4096 % 8 == 1) _ _ None (λ f.
    choose (w / 33554432 == 0) _ _ None
    (λ g. absurd (no_slli w fits none o (eqb-true (w / 4096 % 8) 1 f) (eqb-true (w / 33554432) 0 g))) (λ _. refl))
    (λ not_1.
    choose (w / 4096 % 8 == 5) _ _ None (λ f.
    choose (w / 33554432 == 0) _ _ None
    (λ g. absurd (no_srli w fits none o (eqb-true (w / 4096 % 8) 5 f) (eqb-true (w / 33554432) 0 g))) (λ _.
    choose (w / 33554432 == 32) _ _ None
    (λ g. absurd (no_srai w fits none o (eqb-true (w / 4096 % 8) 5 f) (eqb-true (w / 33554432) 32 g))) (λ _. refl)))
    (λ not_5. absurd (unknown_plain w fits none o not_1 not_5)))

-- a word that is no instruction's is illegal
pub unknown : (s : State) (w : ℕ) → w < 2 ^ 32 → Unknown w → executed s w ≡ Err Illegal
unfolding executed
unknown s w fits none =
    choose (w % 128 == 55) _ _ (Err Illegal) (λ o. absurd (no_lui w fits none (eqb-true (w % 128) 55 o))) (λ _.
    choose (w % 128 == 23) _ _ (Err Illegal) (λ o. absurd (no_auipc w fits none (eqb-true (w % 128) 23 o))) (λ _.
    choose (w % 128 == 111) _ _ (Err Illegal) (λ o. absurd (no_jal w fits none (eqb-true (w % 128) 111 o))) (λ _.
    choose (w % 128 == 103) _ _ (Err Illegal)
    (λ o. choose (w / 4096 % 8 == 0) _ _ (Err Illegal)
    (λ f. absurd (no_jalr w fits none (eqb-true (w % 128) 103 o) (eqb-true (w / 4096 % 8) 0 f))) (λ _. refl)) (λ _.
    choose (w % 128 == 99) _ _ (Err Illegal)
    (λ o. ap (branches_if s _) (unknown_branch w _ _ fits none (eqb-true (w % 128) 99 o))) (λ _.
    choose (w % 128 == 3) _ _ (Err Illegal)
    (λ o. choose (w / 4096 % 8 == 0) _ _ (Err Illegal)
    (λ f. absurd (no_lb w fits none (eqb-true (w % 128) 3 o) (eqb-true (w / 4096 % 8) 0 f)))
    (λ _. choose (w / 4096 % 8 == 1) _ _ (Err Illegal)
    (λ f. absurd (no_lh w fits none (eqb-true (w % 128) 3 o) (eqb-true (w / 4096 % 8) 1 f)))
    (λ _. choose (w / 4096 % 8 == 2) _ _ (Err Illegal)
    (λ f. absurd (no_lw w fits none (eqb-true (w % 128) 3 o) (eqb-true (w / 4096 % 8) 2 f)))
    (λ _. choose (w / 4096 % 8 == 4) _ _ (Err Illegal)
    (λ f. absurd (no_lbu w fits none (eqb-true (w % 128) 3 o) (eqb-true (w / 4096 % 8) 4 f)))
    (λ _. choose (w / 4096 % 8 == 5) _ _ (Err Illegal)
    (λ f. absurd (no_lhu w fits none (eqb-true (w % 128) 3 o) (eqb-true (w / 4096 % 8) 5 f))) (λ _. refl)))))) (λ _.
    choose (w % 128 == 35) _ _ (Err Illegal)
    (λ o. choose (w / 4096 % 8 == 0) _ _ (Err Illegal)
    (λ f. absurd (no_sb w fits none (eqb-true (w % 128) 35 o) (eqb-true (w / 4096 % 8) 0 f)))
    (λ _. choose (w / 4096 % 8 == 1) _ _ (Err Illegal)
    (λ f. absurd (no_sh w fits none (eqb-true (w % 128) 35 o) (eqb-true (w / 4096 % 8) 1 f)))
    (λ _. choose (w / 4096 % 8 == 2) _ _ (Err Illegal)
    (λ f. absurd (no_sw w fits none (eqb-true (w % 128) 35 o) (eqb-true (w / 4096 % 8) 2 f))) (λ _. refl)))) (λ _.
    choose (w % 128 == 19) _ _ (Err Illegal) (λ o. ap (gives_if s _) (unknown_immediate s w fits none (eqb-true (w % 128) 19 o)))
    (λ _.
    choose (w % 128 == 51) _ _ (Err Illegal)
    (λ o. ap (gives_if s _) (unknown_operation w _ _ fits none (eqb-true (w % 128) 51 o))) (λ _.
    choose (w % 128 == 15) _ _ (Err Illegal)
    (λ o. choose (w / 4096 % 8 == 0) _ _ (Err Illegal)
    (λ f. absurd (no_fence w fits none (eqb-true (w % 128) 15 o) (eqb-true (w / 4096 % 8) 0 f))) (λ _. refl)) (λ _.
    choose (w == 115) _ _ (Err Illegal) (λ e. absurd (none EcallCode (eqb-true w 115 e))) (λ _.
    choose (w == 1048691) _ _ (Err Illegal) (λ e. absurd (none EbreakCode (eqb-true w 1048691 e))) (λ _. refl))))))))))))
