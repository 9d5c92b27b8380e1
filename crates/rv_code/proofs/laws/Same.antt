-- A word has one instruction at most: instructions with equal words are equal.
use Rattle.std.proofs.Common.{◌≡◌, ℕ, ◌/◌, ◌%◌, ◌<◌, cond, nat_eq, subst, ap, refl, arith, ◌∙◌, sym}
use Rattle.std.proofs.Props.{props}
use Rattle.rv_code.specs.declared.fields.Reg.{Reg}
use Rattle.rv_code.specs.declared.fields.Imm12.{Imm12}
use Rattle.rv_code.specs.declared.fields.Imm13.{Imm13}
use Rattle.rv_code.specs.declared.fields.Imm20.{Imm20}
use Rattle.rv_code.specs.declared.fields.Imm21.{Imm21}
use Rattle.rv_code.specs.declared.fields.Shamt.{Shamt}
use Rattle.rv_code.specs.declared.fields.Bits12.{Bits12}
use Rattle.rv_code.specs.declared.instruction.Instr.{Instr}
use Rattle.rv_code.specs.declared.instruction.Instr.TheVariants.{Lui, Auipc, Jal, Jalr, Beq, Bne, Blt, Bge, Bltu, Bgeu, Lb, Lh}
use Rattle.rv_code.specs.declared.instruction.Instr.TheVariants.{Lw, Lbu, Lhu, Sb, Sh, Sw, Addi, Slti, Sltiu, Xori, Ori, Andi}
use Rattle.rv_code.specs.declared.instruction.Instr.TheVariants.{Slli, Srli, Srai, Add, Sub, Sll, Slt, Sltu, Xor, Srl, Sra, Or}
use Rattle.rv_code.specs.declared.instruction.Instr.TheVariants.{And, Mul, Mulh, Mulhsu, Mulhu, Div, Divu, Rem, Remu, Fence}
use Rattle.rv_code.specs.declared.instruction.Instr.TheVariants.{Ecall, Ebreak}
use Rattle.rv_code.specs.Word.{word_of}

-- two records of a number and a bound on it are equal where the numbers are
same_below : (k m n : ℕ) (p : m < k) (q : n < k) (A : Type 0) (make : (x : ℕ) → x < k → A) → m ≡ n → make m p ≡ make n q
same_below k m n p q A make e =
    let one : (x : ℕ) → IsProp (x < k) = λ x. hlevel props in
    subst (λ x. (h : x < k) → make m p ≡ make x h) e (λ h. ap (make m) (one m p h)) q

same_reg : (a b : Reg) → a.bits ≡ b.bits → a ≡ b
same_reg a b e = same_below 32 a.bits b.bits a.ok b.ok Reg (λ x h. record { bits = x; ok = h }) e

same_imm12 : (a b : Imm12) → a.bits ≡ b.bits → a ≡ b
same_imm12 a b e = same_below 4096 a.bits b.bits a.ok b.ok Imm12 (λ x h. record { bits = x; ok = h }) e

same_imm13 : (a b : Imm13) → a.half ≡ b.half → a ≡ b
same_imm13 a b e = same_below 4096 a.half b.half a.ok b.ok Imm13 (λ x h. record { half = x; ok = h }) e

same_imm20 : (a b : Imm20) → a.bits ≡ b.bits → a ≡ b
same_imm20 a b e = same_below 1048576 a.bits b.bits a.ok b.ok Imm20 (λ x h. record { bits = x; ok = h }) e

same_imm21 : (a b : Imm21) → a.half ≡ b.half → a ≡ b
same_imm21 a b e = same_below 1048576 a.half b.half a.ok b.ok Imm21 (λ x h. record { half = x; ok = h }) e

same_shamt : (a b : Shamt) → a.bits ≡ b.bits → a ≡ b
same_shamt a b e = same_below 32 a.bits b.bits a.ok b.ok Shamt (λ x h. record { bits = x; ok = h }) e

same_bits12 : (a b : Bits12) → a.bits ≡ b.bits → a ≡ b
same_bits12 a b e = same_below 4096 a.bits b.bits a.ok b.ok Bits12 (λ x h. record { bits = x; ok = h }) e

-- the number of an instruction's row in the table
abbrev tag : Instr → ℕ
tag (Lui _ _) = 0
tag (Auipc _ _) = 1
tag (Jal _ _) = 2
tag (Jalr _ _ _) = 3
tag (Beq _ _ _) = 4
tag (Bne _ _ _) = 5
tag (Blt _ _ _) = 6
tag (Bge _ _ _) = 7
tag (Bltu _ _ _) = 8
tag (Bgeu _ _ _) = 9
tag (Lb _ _ _) = 10
tag (Lh _ _ _) = 11
tag (Lw _ _ _) = 12
tag (Lbu _ _ _) = 13
tag (Lhu _ _ _) = 14
tag (Sb _ _ _) = 15
tag (Sh _ _ _) = 16
tag (Sw _ _ _) = 17
tag (Addi _ _ _) = 18
tag (Slti _ _ _) = 19
tag (Sltiu _ _ _) = 20
tag (Xori _ _ _) = 21
tag (Ori _ _ _) = 22
tag (Andi _ _ _) = 23
tag (Slli _ _ _) = 24
tag (Srli _ _ _) = 25
tag (Srai _ _ _) = 26
tag (Add _ _ _) = 27
tag (Sub _ _ _) = 28
tag (Sll _ _ _) = 29
tag (Slt _ _ _) = 30
tag (Sltu _ _ _) = 31
tag (Xor _ _ _) = 32
tag (Srl _ _ _) = 33
tag (Sra _ _ _) = 34
tag (Or _ _ _) = 35
tag (And _ _ _) = 36
tag (Mul _ _ _) = 37
tag (Mulh _ _ _) = 38
tag (Mulhsu _ _ _) = 39
tag (Mulhu _ _ _) = 40
tag (Div _ _ _) = 41
tag (Divu _ _ _) = 42
tag (Rem _ _ _) = 43
tag (Remu _ _ _) = 44
tag (Fence _ _ _) = 45
tag Ecall = 46
tag Ebreak = 47

-- the row of a word, by its opcode, funct3, funct7 and bits 24-20
abbrev tag_at : ℕ → ℕ → ℕ → ℕ → ℕ
tag_at opcode funct3 funct7 middle =
    cond (nat_eq opcode 55) (0) (
    cond (nat_eq opcode 23) (1) (
    cond (nat_eq opcode 111) (2) (
    cond (nat_eq opcode 103) (3) (
    cond (nat_eq opcode 99) (cond (nat_eq funct3 0) (4)
    (cond (nat_eq funct3 1) (5) (cond (nat_eq funct3 4) (6) (cond (nat_eq funct3 5) (7) (cond (nat_eq funct3 6) (8) (9)))))) (
    cond (nat_eq opcode 3) (cond (nat_eq funct3 0) (10)
    (cond (nat_eq funct3 1) (11) (cond (nat_eq funct3 2) (12) (cond (nat_eq funct3 4) (13) (14))))) (
    cond (nat_eq opcode 35) (cond (nat_eq funct3 0) (15) (cond (nat_eq funct3 1) (16) (17))) (
    cond (nat_eq opcode 19) (cond (nat_eq funct3 0) (18)
    (cond (nat_eq funct3 2) (19) (cond (nat_eq funct3 3) (20)
    (cond (nat_eq funct3 4) (21) (cond (nat_eq funct3 6) (22)
    (cond (nat_eq funct3 7) (23) (cond (nat_eq funct3 1) (24) (cond (nat_eq funct7 0) 25 26)))))))) (
    cond (nat_eq opcode 51) (cond (nat_eq funct7 1)
    (cond (nat_eq funct3 0) (37) (cond (nat_eq funct3 1) (38)
    (cond (nat_eq funct3 2) (39) (cond (nat_eq funct3 3) (40)
    (cond (nat_eq funct3 4) (41) (cond (nat_eq funct3 5) (42) (cond (nat_eq funct3 6) (43) (44))))))))
    (cond (nat_eq funct7 0) (cond (nat_eq funct3 0) (27)
    (cond (nat_eq funct3 1) (29) (cond (nat_eq funct3 2) (30)
    (cond (nat_eq funct3 3) (31) (cond (nat_eq funct3 4) (32)
    (cond (nat_eq funct3 5) (33) (cond (nat_eq funct3 6) (35) (36)))))))) (cond (nat_eq funct3 0) (28) (34)))) (
    cond (nat_eq opcode 15) (45) (
    cond (nat_eq middle 0) 46 47))))))))))

tag_by : (w opcode funct3 funct7 middle t : ℕ) → w % 128 ≡ opcode → w / 4096 % 8 ≡ funct3 → w / 33554432 ≡ funct7
    → w / 1048576 % 32 ≡ middle → tag_at opcode funct3 funct7 middle ≡ t
    → tag_at (w % 128) (w / 4096 % 8) (w / 33554432) (w / 1048576 % 32) ≡ t
tag_by w opcode funct3 funct7 middle t a b c d e =
    subst (λ x. tag_at x (w / 4096 % 8) (w / 33554432) (w / 1048576 % 32) ≡ t) (sym a) (
    subst (λ x. tag_at opcode x (w / 33554432) (w / 1048576 % 32) ≡ t) (sym b) (
    subst (λ x. tag_at opcode funct3 x (w / 1048576 % 32) ≡ t) (sym c) (
    subst (λ x. tag_at opcode funct3 funct7 x ≡ t) (sym d) e)))

-- the row of an instruction's word is the instruction's row
tag_is : (i : Instr) → let w = word_of i in tag_at (w % 128) (w / 4096 % 8) (w / 33554432) (w / 1048576 % 32) ≡ tag i
tag_is (Lui rd imm) = tag_by (word_of (Lui rd imm)) 55 _ _ _ 0 (omega (arith, rd.ok, imm.ok)) refl refl refl refl
tag_is (Auipc rd imm) = tag_by (word_of (Auipc rd imm)) 23 _ _ _ 1 (omega (arith, rd.ok, imm.ok)) refl refl refl refl
tag_is (Jal rd imm) = tag_by (word_of (Jal rd imm)) 111 _ _ _ 2 (omega (arith, rd.ok, imm.ok)) refl refl refl refl
tag_is (Jalr rd rs1 imm) = tag_by (word_of (Jalr rd rs1 imm)) 103 0 _ _ 3 (omega (arith, rd.ok, rs1.ok, imm.ok))
    (omega (arith, rd.ok, rs1.ok, imm.ok)) refl refl refl
tag_is (Beq rs1 rs2 imm) = tag_by (word_of (Beq rs1 rs2 imm)) 99 0 _ _ 4 (omega (arith, rs1.ok, rs2.ok, imm.ok))
    (omega (arith, rs1.ok, rs2.ok, imm.ok)) refl refl refl
tag_is (Bne rs1 rs2 imm) = tag_by (word_of (Bne rs1 rs2 imm)) 99 1 _ _ 5 (omega (arith, rs1.ok, rs2.ok, imm.ok))
    (omega (arith, rs1.ok, rs2.ok, imm.ok)) refl refl refl
tag_is (Blt rs1 rs2 imm) = tag_by (word_of (Blt rs1 rs2 imm)) 99 4 _ _ 6 (omega (arith, rs1.ok, rs2.ok, imm.ok))
    (omega (arith, rs1.ok, rs2.ok, imm.ok)) refl refl refl
tag_is (Bge rs1 rs2 imm) = tag_by (word_of (Bge rs1 rs2 imm)) 99 5 _ _ 7 (omega (arith, rs1.ok, rs2.ok, imm.ok))
    (omega (arith, rs1.ok, rs2.ok, imm.ok)) refl refl refl
tag_is (Bltu rs1 rs2 imm) = tag_by (word_of (Bltu rs1 rs2 imm)) 99 6 _ _ 8 (omega (arith, rs1.ok, rs2.ok, imm.ok))
    (omega (arith, rs1.ok, rs2.ok, imm.ok)) refl refl refl
tag_is (Bgeu rs1 rs2 imm) = tag_by (word_of (Bgeu rs1 rs2 imm)) 99 7 _ _ 9 (omega (arith, rs1.ok, rs2.ok, imm.ok))
    (omega (arith, rs1.ok, rs2.ok, imm.ok)) refl refl refl
tag_is (Lb rd rs1 imm) = tag_by (word_of (Lb rd rs1 imm)) 3 0 _ _ 10 (omega (arith, rd.ok, rs1.ok, imm.ok))
    (omega (arith, rd.ok, rs1.ok, imm.ok)) refl refl refl
tag_is (Lh rd rs1 imm) = tag_by (word_of (Lh rd rs1 imm)) 3 1 _ _ 11 (omega (arith, rd.ok, rs1.ok, imm.ok))
    (omega (arith, rd.ok, rs1.ok, imm.ok)) refl refl refl
tag_is (Lw rd rs1 imm) = tag_by (word_of (Lw rd rs1 imm)) 3 2 _ _ 12 (omega (arith, rd.ok, rs1.ok, imm.ok))
    (omega (arith, rd.ok, rs1.ok, imm.ok)) refl refl refl
tag_is (Lbu rd rs1 imm) = tag_by (word_of (Lbu rd rs1 imm)) 3 4 _ _ 13 (omega (arith, rd.ok, rs1.ok, imm.ok))
    (omega (arith, rd.ok, rs1.ok, imm.ok)) refl refl refl
tag_is (Lhu rd rs1 imm) = tag_by (word_of (Lhu rd rs1 imm)) 3 5 _ _ 14 (omega (arith, rd.ok, rs1.ok, imm.ok))
    (omega (arith, rd.ok, rs1.ok, imm.ok)) refl refl refl
tag_is (Sb rs1 rs2 imm) = tag_by (word_of (Sb rs1 rs2 imm)) 35 0 _ _ 15 (omega (arith, rs1.ok, rs2.ok, imm.ok))
    (omega (arith, rs1.ok, rs2.ok, imm.ok)) refl refl refl
tag_is (Sh rs1 rs2 imm) = tag_by (word_of (Sh rs1 rs2 imm)) 35 1 _ _ 16 (omega (arith, rs1.ok, rs2.ok, imm.ok))
    (omega (arith, rs1.ok, rs2.ok, imm.ok)) refl refl refl
tag_is (Sw rs1 rs2 imm) = tag_by (word_of (Sw rs1 rs2 imm)) 35 2 _ _ 17 (omega (arith, rs1.ok, rs2.ok, imm.ok))
    (omega (arith, rs1.ok, rs2.ok, imm.ok)) refl refl refl
tag_is (Addi rd rs1 imm) = tag_by (word_of (Addi rd rs1 imm)) 19 0 _ _ 18 (omega (arith, rd.ok, rs1.ok, imm.ok))
    (omega (arith, rd.ok, rs1.ok, imm.ok)) refl refl refl
tag_is (Slti rd rs1 imm) = tag_by (word_of (Slti rd rs1 imm)) 19 2 _ _ 19 (omega (arith, rd.ok, rs1.ok, imm.ok))
    (omega (arith, rd.ok, rs1.ok, imm.ok)) refl refl refl
tag_is (Sltiu rd rs1 imm) = tag_by (word_of (Sltiu rd rs1 imm)) 19 3 _ _ 20 (omega (arith, rd.ok, rs1.ok, imm.ok))
    (omega (arith, rd.ok, rs1.ok, imm.ok)) refl refl refl
tag_is (Xori rd rs1 imm) = tag_by (word_of (Xori rd rs1 imm)) 19 4 _ _ 21 (omega (arith, rd.ok, rs1.ok, imm.ok))
    (omega (arith, rd.ok, rs1.ok, imm.ok)) refl refl refl
tag_is (Ori rd rs1 imm) = tag_by (word_of (Ori rd rs1 imm)) 19 6 _ _ 22 (omega (arith, rd.ok, rs1.ok, imm.ok))
    (omega (arith, rd.ok, rs1.ok, imm.ok)) refl refl refl
tag_is (Andi rd rs1 imm) = tag_by (word_of (Andi rd rs1 imm)) 19 7 _ _ 23 (omega (arith, rd.ok, rs1.ok, imm.ok))
    (omega (arith, rd.ok, rs1.ok, imm.ok)) refl refl refl
tag_is (Slli rd rs1 shamt) = tag_by (word_of (Slli rd rs1 shamt)) 19 1 0 _ 24 (omega (arith, rd.ok, rs1.ok, shamt.ok))
    (omega (arith, rd.ok, rs1.ok, shamt.ok)) (omega (arith, rd.ok, rs1.ok, shamt.ok)) refl refl
tag_is (Srli rd rs1 shamt) = tag_by (word_of (Srli rd rs1 shamt)) 19 5 0 _ 25 (omega (arith, rd.ok, rs1.ok, shamt.ok))
    (omega (arith, rd.ok, rs1.ok, shamt.ok)) (omega (arith, rd.ok, rs1.ok, shamt.ok)) refl refl
tag_is (Srai rd rs1 shamt) = tag_by (word_of (Srai rd rs1 shamt)) 19 5 32 _ 26 (omega (arith, rd.ok, rs1.ok, shamt.ok))
    (omega (arith, rd.ok, rs1.ok, shamt.ok)) (omega (arith, rd.ok, rs1.ok, shamt.ok)) refl refl
tag_is (Add rd rs1 rs2) = tag_by (word_of (Add rd rs1 rs2)) 51 0 0 _ 27 (omega (arith, rd.ok, rs1.ok, rs2.ok))
    (omega (arith, rd.ok, rs1.ok, rs2.ok)) (omega (arith, rd.ok, rs1.ok, rs2.ok)) refl refl
tag_is (Sub rd rs1 rs2) = tag_by (word_of (Sub rd rs1 rs2)) 51 0 32 _ 28 (omega (arith, rd.ok, rs1.ok, rs2.ok))
    (omega (arith, rd.ok, rs1.ok, rs2.ok)) (omega (arith, rd.ok, rs1.ok, rs2.ok)) refl refl
tag_is (Sll rd rs1 rs2) = tag_by (word_of (Sll rd rs1 rs2)) 51 1 0 _ 29 (omega (arith, rd.ok, rs1.ok, rs2.ok))
    (omega (arith, rd.ok, rs1.ok, rs2.ok)) (omega (arith, rd.ok, rs1.ok, rs2.ok)) refl refl
tag_is (Slt rd rs1 rs2) = tag_by (word_of (Slt rd rs1 rs2)) 51 2 0 _ 30 (omega (arith, rd.ok, rs1.ok, rs2.ok))
    (omega (arith, rd.ok, rs1.ok, rs2.ok)) (omega (arith, rd.ok, rs1.ok, rs2.ok)) refl refl
tag_is (Sltu rd rs1 rs2) = tag_by (word_of (Sltu rd rs1 rs2)) 51 3 0 _ 31 (omega (arith, rd.ok, rs1.ok, rs2.ok))
    (omega (arith, rd.ok, rs1.ok, rs2.ok)) (omega (arith, rd.ok, rs1.ok, rs2.ok)) refl refl
tag_is (Xor rd rs1 rs2) = tag_by (word_of (Xor rd rs1 rs2)) 51 4 0 _ 32 (omega (arith, rd.ok, rs1.ok, rs2.ok))
    (omega (arith, rd.ok, rs1.ok, rs2.ok)) (omega (arith, rd.ok, rs1.ok, rs2.ok)) refl refl
tag_is (Srl rd rs1 rs2) = tag_by (word_of (Srl rd rs1 rs2)) 51 5 0 _ 33 (omega (arith, rd.ok, rs1.ok, rs2.ok))
    (omega (arith, rd.ok, rs1.ok, rs2.ok)) (omega (arith, rd.ok, rs1.ok, rs2.ok)) refl refl
tag_is (Sra rd rs1 rs2) = tag_by (word_of (Sra rd rs1 rs2)) 51 5 32 _ 34 (omega (arith, rd.ok, rs1.ok, rs2.ok))
    (omega (arith, rd.ok, rs1.ok, rs2.ok)) (omega (arith, rd.ok, rs1.ok, rs2.ok)) refl refl
tag_is (Or rd rs1 rs2) = tag_by (word_of (Or rd rs1 rs2)) 51 6 0 _ 35 (omega (arith, rd.ok, rs1.ok, rs2.ok))
    (omega (arith, rd.ok, rs1.ok, rs2.ok)) (omega (arith, rd.ok, rs1.ok, rs2.ok)) refl refl
tag_is (And rd rs1 rs2) = tag_by (word_of (And rd rs1 rs2)) 51 7 0 _ 36 (omega (arith, rd.ok, rs1.ok, rs2.ok))
    (omega (arith, rd.ok, rs1.ok, rs2.ok)) (omega (arith, rd.ok, rs1.ok, rs2.ok)) refl refl
tag_is (Mul rd rs1 rs2) = tag_by (word_of (Mul rd rs1 rs2)) 51 0 1 _ 37 (omega (arith, rd.ok, rs1.ok, rs2.ok))
    (omega (arith, rd.ok, rs1.ok, rs2.ok)) (omega (arith, rd.ok, rs1.ok, rs2.ok)) refl refl
tag_is (Mulh rd rs1 rs2) = tag_by (word_of (Mulh rd rs1 rs2)) 51 1 1 _ 38 (omega (arith, rd.ok, rs1.ok, rs2.ok))
    (omega (arith, rd.ok, rs1.ok, rs2.ok)) (omega (arith, rd.ok, rs1.ok, rs2.ok)) refl refl
tag_is (Mulhsu rd rs1 rs2) = tag_by (word_of (Mulhsu rd rs1 rs2)) 51 2 1 _ 39 (omega (arith, rd.ok, rs1.ok, rs2.ok))
    (omega (arith, rd.ok, rs1.ok, rs2.ok)) (omega (arith, rd.ok, rs1.ok, rs2.ok)) refl refl
tag_is (Mulhu rd rs1 rs2) = tag_by (word_of (Mulhu rd rs1 rs2)) 51 3 1 _ 40 (omega (arith, rd.ok, rs1.ok, rs2.ok))
    (omega (arith, rd.ok, rs1.ok, rs2.ok)) (omega (arith, rd.ok, rs1.ok, rs2.ok)) refl refl
tag_is (Div rd rs1 rs2) = tag_by (word_of (Div rd rs1 rs2)) 51 4 1 _ 41 (omega (arith, rd.ok, rs1.ok, rs2.ok))
    (omega (arith, rd.ok, rs1.ok, rs2.ok)) (omega (arith, rd.ok, rs1.ok, rs2.ok)) refl refl
tag_is (Divu rd rs1 rs2) = tag_by (word_of (Divu rd rs1 rs2)) 51 5 1 _ 42 (omega (arith, rd.ok, rs1.ok, rs2.ok))
    (omega (arith, rd.ok, rs1.ok, rs2.ok)) (omega (arith, rd.ok, rs1.ok, rs2.ok)) refl refl
tag_is (Rem rd rs1 rs2) = tag_by (word_of (Rem rd rs1 rs2)) 51 6 1 _ 43 (omega (arith, rd.ok, rs1.ok, rs2.ok))
    (omega (arith, rd.ok, rs1.ok, rs2.ok)) (omega (arith, rd.ok, rs1.ok, rs2.ok)) refl refl
tag_is (Remu rd rs1 rs2) = tag_by (word_of (Remu rd rs1 rs2)) 51 7 1 _ 44 (omega (arith, rd.ok, rs1.ok, rs2.ok))
    (omega (arith, rd.ok, rs1.ok, rs2.ok)) (omega (arith, rd.ok, rs1.ok, rs2.ok)) refl refl
tag_is (Fence rd rs1 upper) = tag_by (word_of (Fence rd rs1 upper)) 15 0 _ _ 45 (omega (arith, rd.ok, rs1.ok, upper.ok))
    (omega (arith, rd.ok, rs1.ok, upper.ok)) refl refl refl
tag_is Ecall = refl
tag_is Ebreak = refl

by_tag : (i j : Instr) → tag i ≡ tag j → word_of i ≡ word_of j → i ≡ j
by_tag (Lui rd imm) (Lui rd' imm') t e =
    let rd_is : rd ≡ rd' = same_reg rd rd' (omega (arith, rd.ok, rd'.ok, imm.ok, imm'.ok)) in
    let imm_is : imm ≡ imm' = same_imm20 imm imm' (omega (arith, rd.ok, rd'.ok, imm.ok, imm'.ok)) in
    cc
by_tag (Auipc rd imm) (Auipc rd' imm') t e =
    let rd_is : rd ≡ rd' = same_reg rd rd' (omega (arith, rd.ok, rd'.ok, imm.ok, imm'.ok)) in
    let imm_is : imm ≡ imm' = same_imm20 imm imm' (omega (arith, rd.ok, rd'.ok, imm.ok, imm'.ok)) in
    cc
by_tag (Jal rd imm) (Jal rd' imm') t e =
    let rd_is : rd ≡ rd' = same_reg rd rd' (omega (arith, rd.ok, rd'.ok, imm.ok, imm'.ok)) in
    let imm_is : imm ≡ imm' = same_imm21 imm imm' (omega (arith, rd.ok, rd'.ok, imm.ok, imm'.ok)) in
    cc
by_tag (Jalr rd rs1 imm) (Jalr rd' rs1' imm') t e =
    let rd_is : rd ≡ rd' = same_reg rd rd' (omega (arith, rd.ok, rd'.ok, rs1.ok, rs1'.ok, imm.ok, imm'.ok)) in
    let rs1_is : rs1 ≡ rs1' = same_reg rs1 rs1' (omega (arith, rd.ok, rd'.ok, rs1.ok, rs1'.ok, imm.ok, imm'.ok)) in
    let imm_is : imm ≡ imm' = same_imm12 imm imm' (omega (arith, rd.ok, rd'.ok, rs1.ok, rs1'.ok, imm.ok, imm'.ok)) in
    cc
by_tag (Beq rs1 rs2 imm) (Beq rs1' rs2' imm') t e =
    let rs1_is : rs1 ≡ rs1' = same_reg rs1 rs1' (omega (arith, rs1.ok, rs1'.ok, rs2.ok, rs2'.ok, imm.ok, imm'.ok)) in
    let rs2_is : rs2 ≡ rs2' = same_reg rs2 rs2' (omega (arith, rs1.ok, rs1'.ok, rs2.ok, rs2'.ok, imm.ok, imm'.ok)) in
    let imm_is : imm ≡ imm' = same_imm13 imm imm' (omega (arith, rs1.ok, rs1'.ok, rs2.ok, rs2'.ok, imm.ok, imm'.ok)) in
    cc
by_tag (Bne rs1 rs2 imm) (Bne rs1' rs2' imm') t e =
    let rs1_is : rs1 ≡ rs1' = same_reg rs1 rs1' (omega (arith, rs1.ok, rs1'.ok, rs2.ok, rs2'.ok, imm.ok, imm'.ok)) in
    let rs2_is : rs2 ≡ rs2' = same_reg rs2 rs2' (omega (arith, rs1.ok, rs1'.ok, rs2.ok, rs2'.ok, imm.ok, imm'.ok)) in
    let imm_is : imm ≡ imm' = same_imm13 imm imm' (omega (arith, rs1.ok, rs1'.ok, rs2.ok, rs2'.ok, imm.ok, imm'.ok)) in
    cc
by_tag (Blt rs1 rs2 imm) (Blt rs1' rs2' imm') t e =
    let rs1_is : rs1 ≡ rs1' = same_reg rs1 rs1' (omega (arith, rs1.ok, rs1'.ok, rs2.ok, rs2'.ok, imm.ok, imm'.ok)) in
    let rs2_is : rs2 ≡ rs2' = same_reg rs2 rs2' (omega (arith, rs1.ok, rs1'.ok, rs2.ok, rs2'.ok, imm.ok, imm'.ok)) in
    let imm_is : imm ≡ imm' = same_imm13 imm imm' (omega (arith, rs1.ok, rs1'.ok, rs2.ok, rs2'.ok, imm.ok, imm'.ok)) in
    cc
by_tag (Bge rs1 rs2 imm) (Bge rs1' rs2' imm') t e =
    let rs1_is : rs1 ≡ rs1' = same_reg rs1 rs1' (omega (arith, rs1.ok, rs1'.ok, rs2.ok, rs2'.ok, imm.ok, imm'.ok)) in
    let rs2_is : rs2 ≡ rs2' = same_reg rs2 rs2' (omega (arith, rs1.ok, rs1'.ok, rs2.ok, rs2'.ok, imm.ok, imm'.ok)) in
    let imm_is : imm ≡ imm' = same_imm13 imm imm' (omega (arith, rs1.ok, rs1'.ok, rs2.ok, rs2'.ok, imm.ok, imm'.ok)) in
    cc
by_tag (Bltu rs1 rs2 imm) (Bltu rs1' rs2' imm') t e =
    let rs1_is : rs1 ≡ rs1' = same_reg rs1 rs1' (omega (arith, rs1.ok, rs1'.ok, rs2.ok, rs2'.ok, imm.ok, imm'.ok)) in
    let rs2_is : rs2 ≡ rs2' = same_reg rs2 rs2' (omega (arith, rs1.ok, rs1'.ok, rs2.ok, rs2'.ok, imm.ok, imm'.ok)) in
    let imm_is : imm ≡ imm' = same_imm13 imm imm' (omega (arith, rs1.ok, rs1'.ok, rs2.ok, rs2'.ok, imm.ok, imm'.ok)) in
    cc
by_tag (Bgeu rs1 rs2 imm) (Bgeu rs1' rs2' imm') t e =
    let rs1_is : rs1 ≡ rs1' = same_reg rs1 rs1' (omega (arith, rs1.ok, rs1'.ok, rs2.ok, rs2'.ok, imm.ok, imm'.ok)) in
    let rs2_is : rs2 ≡ rs2' = same_reg rs2 rs2' (omega (arith, rs1.ok, rs1'.ok, rs2.ok, rs2'.ok, imm.ok, imm'.ok)) in
    let imm_is : imm ≡ imm' = same_imm13 imm imm' (omega (arith, rs1.ok, rs1'.ok, rs2.ok, rs2'.ok, imm.ok, imm'.ok)) in
    cc
by_tag (Lb rd rs1 imm) (Lb rd' rs1' imm') t e =
    let rd_is : rd ≡ rd' = same_reg rd rd' (omega (arith, rd.ok, rd'.ok, rs1.ok, rs1'.ok, imm.ok, imm'.ok)) in
    let rs1_is : rs1 ≡ rs1' = same_reg rs1 rs1' (omega (arith, rd.ok, rd'.ok, rs1.ok, rs1'.ok, imm.ok, imm'.ok)) in
    let imm_is : imm ≡ imm' = same_imm12 imm imm' (omega (arith, rd.ok, rd'.ok, rs1.ok, rs1'.ok, imm.ok, imm'.ok)) in
    cc
by_tag (Lh rd rs1 imm) (Lh rd' rs1' imm') t e =
    let rd_is : rd ≡ rd' = same_reg rd rd' (omega (arith, rd.ok, rd'.ok, rs1.ok, rs1'.ok, imm.ok, imm'.ok)) in
    let rs1_is : rs1 ≡ rs1' = same_reg rs1 rs1' (omega (arith, rd.ok, rd'.ok, rs1.ok, rs1'.ok, imm.ok, imm'.ok)) in
    let imm_is : imm ≡ imm' = same_imm12 imm imm' (omega (arith, rd.ok, rd'.ok, rs1.ok, rs1'.ok, imm.ok, imm'.ok)) in
    cc
by_tag (Lw rd rs1 imm) (Lw rd' rs1' imm') t e =
    let rd_is : rd ≡ rd' = same_reg rd rd' (omega (arith, rd.ok, rd'.ok, rs1.ok, rs1'.ok, imm.ok, imm'.ok)) in
    let rs1_is : rs1 ≡ rs1' = same_reg rs1 rs1' (omega (arith, rd.ok, rd'.ok, rs1.ok, rs1'.ok, imm.ok, imm'.ok)) in
    let imm_is : imm ≡ imm' = same_imm12 imm imm' (omega (arith, rd.ok, rd'.ok, rs1.ok, rs1'.ok, imm.ok, imm'.ok)) in
    cc
by_tag (Lbu rd rs1 imm) (Lbu rd' rs1' imm') t e =
    let rd_is : rd ≡ rd' = same_reg rd rd' (omega (arith, rd.ok, rd'.ok, rs1.ok, rs1'.ok, imm.ok, imm'.ok)) in
    let rs1_is : rs1 ≡ rs1' = same_reg rs1 rs1' (omega (arith, rd.ok, rd'.ok, rs1.ok, rs1'.ok, imm.ok, imm'.ok)) in
    let imm_is : imm ≡ imm' = same_imm12 imm imm' (omega (arith, rd.ok, rd'.ok, rs1.ok, rs1'.ok, imm.ok, imm'.ok)) in
    cc
by_tag (Lhu rd rs1 imm) (Lhu rd' rs1' imm') t e =
    let rd_is : rd ≡ rd' = same_reg rd rd' (omega (arith, rd.ok, rd'.ok, rs1.ok, rs1'.ok, imm.ok, imm'.ok)) in
    let rs1_is : rs1 ≡ rs1' = same_reg rs1 rs1' (omega (arith, rd.ok, rd'.ok, rs1.ok, rs1'.ok, imm.ok, imm'.ok)) in
    let imm_is : imm ≡ imm' = same_imm12 imm imm' (omega (arith, rd.ok, rd'.ok, rs1.ok, rs1'.ok, imm.ok, imm'.ok)) in
    cc
by_tag (Sb rs1 rs2 imm) (Sb rs1' rs2' imm') t e =
    let rs1_is : rs1 ≡ rs1' = same_reg rs1 rs1' (omega (arith, rs1.ok, rs1'.ok, rs2.ok, rs2'.ok, imm.ok, imm'.ok)) in
    let rs2_is : rs2 ≡ rs2' = same_reg rs2 rs2' (omega (arith, rs1.ok, rs1'.ok, rs2.ok, rs2'.ok, imm.ok, imm'.ok)) in
    let imm_is : imm ≡ imm' = same_imm12 imm imm' (omega (arith, rs1.ok, rs1'.ok, rs2.ok, rs2'.ok, imm.ok, imm'.ok)) in
    cc
by_tag (Sh rs1 rs2 imm) (Sh rs1' rs2' imm') t e =
    let rs1_is : rs1 ≡ rs1' = same_reg rs1 rs1' (omega (arith, rs1.ok, rs1'.ok, rs2.ok, rs2'.ok, imm.ok, imm'.ok)) in
    let rs2_is : rs2 ≡ rs2' = same_reg rs2 rs2' (omega (arith, rs1.ok, rs1'.ok, rs2.ok, rs2'.ok, imm.ok, imm'.ok)) in
    let imm_is : imm ≡ imm' = same_imm12 imm imm' (omega (arith, rs1.ok, rs1'.ok, rs2.ok, rs2'.ok, imm.ok, imm'.ok)) in
    cc
by_tag (Sw rs1 rs2 imm) (Sw rs1' rs2' imm') t e =
    let rs1_is : rs1 ≡ rs1' = same_reg rs1 rs1' (omega (arith, rs1.ok, rs1'.ok, rs2.ok, rs2'.ok, imm.ok, imm'.ok)) in
    let rs2_is : rs2 ≡ rs2' = same_reg rs2 rs2' (omega (arith, rs1.ok, rs1'.ok, rs2.ok, rs2'.ok, imm.ok, imm'.ok)) in
    let imm_is : imm ≡ imm' = same_imm12 imm imm' (omega (arith, rs1.ok, rs1'.ok, rs2.ok, rs2'.ok, imm.ok, imm'.ok)) in
    cc
by_tag (Addi rd rs1 imm) (Addi rd' rs1' imm') t e =
    let rd_is : rd ≡ rd' = same_reg rd rd' (omega (arith, rd.ok, rd'.ok, rs1.ok, rs1'.ok, imm.ok, imm'.ok)) in
    let rs1_is : rs1 ≡ rs1' = same_reg rs1 rs1' (omega (arith, rd.ok, rd'.ok, rs1.ok, rs1'.ok, imm.ok, imm'.ok)) in
    let imm_is : imm ≡ imm' = same_imm12 imm imm' (omega (arith, rd.ok, rd'.ok, rs1.ok, rs1'.ok, imm.ok, imm'.ok)) in
    cc
by_tag (Slti rd rs1 imm) (Slti rd' rs1' imm') t e =
    let rd_is : rd ≡ rd' = same_reg rd rd' (omega (arith, rd.ok, rd'.ok, rs1.ok, rs1'.ok, imm.ok, imm'.ok)) in
    let rs1_is : rs1 ≡ rs1' = same_reg rs1 rs1' (omega (arith, rd.ok, rd'.ok, rs1.ok, rs1'.ok, imm.ok, imm'.ok)) in
    let imm_is : imm ≡ imm' = same_imm12 imm imm' (omega (arith, rd.ok, rd'.ok, rs1.ok, rs1'.ok, imm.ok, imm'.ok)) in
    cc
by_tag (Sltiu rd rs1 imm) (Sltiu rd' rs1' imm') t e =
    let rd_is : rd ≡ rd' = same_reg rd rd' (omega (arith, rd.ok, rd'.ok, rs1.ok, rs1'.ok, imm.ok, imm'.ok)) in
    let rs1_is : rs1 ≡ rs1' = same_reg rs1 rs1' (omega (arith, rd.ok, rd'.ok, rs1.ok, rs1'.ok, imm.ok, imm'.ok)) in
    let imm_is : imm ≡ imm' = same_imm12 imm imm' (omega (arith, rd.ok, rd'.ok, rs1.ok, rs1'.ok, imm.ok, imm'.ok)) in
    cc
by_tag (Xori rd rs1 imm) (Xori rd' rs1' imm') t e =
    let rd_is : rd ≡ rd' = same_reg rd rd' (omega (arith, rd.ok, rd'.ok, rs1.ok, rs1'.ok, imm.ok, imm'.ok)) in
    let rs1_is : rs1 ≡ rs1' = same_reg rs1 rs1' (omega (arith, rd.ok, rd'.ok, rs1.ok, rs1'.ok, imm.ok, imm'.ok)) in
    let imm_is : imm ≡ imm' = same_imm12 imm imm' (omega (arith, rd.ok, rd'.ok, rs1.ok, rs1'.ok, imm.ok, imm'.ok)) in
    cc
by_tag (Ori rd rs1 imm) (Ori rd' rs1' imm') t e =
    let rd_is : rd ≡ rd' = same_reg rd rd' (omega (arith, rd.ok, rd'.ok, rs1.ok, rs1'.ok, imm.ok, imm'.ok)) in
    let rs1_is : rs1 ≡ rs1' = same_reg rs1 rs1' (omega (arith, rd.ok, rd'.ok, rs1.ok, rs1'.ok, imm.ok, imm'.ok)) in
    let imm_is : imm ≡ imm' = same_imm12 imm imm' (omega (arith, rd.ok, rd'.ok, rs1.ok, rs1'.ok, imm.ok, imm'.ok)) in
    cc
by_tag (Andi rd rs1 imm) (Andi rd' rs1' imm') t e =
    let rd_is : rd ≡ rd' = same_reg rd rd' (omega (arith, rd.ok, rd'.ok, rs1.ok, rs1'.ok, imm.ok, imm'.ok)) in
    let rs1_is : rs1 ≡ rs1' = same_reg rs1 rs1' (omega (arith, rd.ok, rd'.ok, rs1.ok, rs1'.ok, imm.ok, imm'.ok)) in
    let imm_is : imm ≡ imm' = same_imm12 imm imm' (omega (arith, rd.ok, rd'.ok, rs1.ok, rs1'.ok, imm.ok, imm'.ok)) in
    cc
by_tag (Slli rd rs1 shamt) (Slli rd' rs1' shamt') t e =
    let rd_is : rd ≡ rd' = same_reg rd rd' (omega (arith, rd.ok, rd'.ok, rs1.ok, rs1'.ok, shamt.ok, shamt'.ok)) in
    let rs1_is : rs1 ≡ rs1' = same_reg rs1 rs1' (omega (arith, rd.ok, rd'.ok, rs1.ok, rs1'.ok, shamt.ok, shamt'.ok)) in
    let shamt_is : shamt ≡ shamt' = same_shamt shamt shamt' (omega (arith, rd.ok, rd'.ok, rs1.ok, rs1'.ok, shamt.ok, shamt'.ok))
    in
    cc
by_tag (Srli rd rs1 shamt) (Srli rd' rs1' shamt') t e =
    let rd_is : rd ≡ rd' = same_reg rd rd' (omega (arith, rd.ok, rd'.ok, rs1.ok, rs1'.ok, shamt.ok, shamt'.ok)) in
    let rs1_is : rs1 ≡ rs1' = same_reg rs1 rs1' (omega (arith, rd.ok, rd'.ok, rs1.ok, rs1'.ok, shamt.ok, shamt'.ok)) in
    let shamt_is : shamt ≡ shamt' = same_shamt shamt shamt' (omega (arith, rd.ok, rd'.ok, rs1.ok, rs1'.ok, shamt.ok, shamt'.ok))
    in
    cc
by_tag (Srai rd rs1 shamt) (Srai rd' rs1' shamt') t e =
    let rd_is : rd ≡ rd' = same_reg rd rd' (omega (arith, rd.ok, rd'.ok, rs1.ok, rs1'.ok, shamt.ok, shamt'.ok)) in
    let rs1_is : rs1 ≡ rs1' = same_reg rs1 rs1' (omega (arith, rd.ok, rd'.ok, rs1.ok, rs1'.ok, shamt.ok, shamt'.ok)) in
    let shamt_is : shamt ≡ shamt' = same_shamt shamt shamt' (omega (arith, rd.ok, rd'.ok, rs1.ok, rs1'.ok, shamt.ok, shamt'.ok))
    in
    cc
by_tag (Add rd rs1 rs2) (Add rd' rs1' rs2') t e =
    let rd_is : rd ≡ rd' = same_reg rd rd' (omega (arith, rd.ok, rd'.ok, rs1.ok, rs1'.ok, rs2.ok, rs2'.ok)) in
    let rs1_is : rs1 ≡ rs1' = same_reg rs1 rs1' (omega (arith, rd.ok, rd'.ok, rs1.ok, rs1'.ok, rs2.ok, rs2'.ok)) in
    let rs2_is : rs2 ≡ rs2' = same_reg rs2 rs2' (omega (arith, rd.ok, rd'.ok, rs1.ok, rs1'.ok, rs2.ok, rs2'.ok)) in
    cc
by_tag (Sub rd rs1 rs2) (Sub rd' rs1' rs2') t e =
    let rd_is : rd ≡ rd' = same_reg rd rd' (omega (arith, rd.ok, rd'.ok, rs1.ok, rs1'.ok, rs2.ok, rs2'.ok)) in
    let rs1_is : rs1 ≡ rs1' = same_reg rs1 rs1' (omega (arith, rd.ok, rd'.ok, rs1.ok, rs1'.ok, rs2.ok, rs2'.ok)) in
    let rs2_is : rs2 ≡ rs2' = same_reg rs2 rs2' (omega (arith, rd.ok, rd'.ok, rs1.ok, rs1'.ok, rs2.ok, rs2'.ok)) in
    cc
by_tag (Sll rd rs1 rs2) (Sll rd' rs1' rs2') t e =
    let rd_is : rd ≡ rd' = same_reg rd rd' (omega (arith, rd.ok, rd'.ok, rs1.ok, rs1'.ok, rs2.ok, rs2'.ok)) in
    let rs1_is : rs1 ≡ rs1' = same_reg rs1 rs1' (omega (arith, rd.ok, rd'.ok, rs1.ok, rs1'.ok, rs2.ok, rs2'.ok)) in
    let rs2_is : rs2 ≡ rs2' = same_reg rs2 rs2' (omega (arith, rd.ok, rd'.ok, rs1.ok, rs1'.ok, rs2.ok, rs2'.ok)) in
    cc
by_tag (Slt rd rs1 rs2) (Slt rd' rs1' rs2') t e =
    let rd_is : rd ≡ rd' = same_reg rd rd' (omega (arith, rd.ok, rd'.ok, rs1.ok, rs1'.ok, rs2.ok, rs2'.ok)) in
    let rs1_is : rs1 ≡ rs1' = same_reg rs1 rs1' (omega (arith, rd.ok, rd'.ok, rs1.ok, rs1'.ok, rs2.ok, rs2'.ok)) in
    let rs2_is : rs2 ≡ rs2' = same_reg rs2 rs2' (omega (arith, rd.ok, rd'.ok, rs1.ok, rs1'.ok, rs2.ok, rs2'.ok)) in
    cc
by_tag (Sltu rd rs1 rs2) (Sltu rd' rs1' rs2') t e =
    let rd_is : rd ≡ rd' = same_reg rd rd' (omega (arith, rd.ok, rd'.ok, rs1.ok, rs1'.ok, rs2.ok, rs2'.ok)) in
    let rs1_is : rs1 ≡ rs1' = same_reg rs1 rs1' (omega (arith, rd.ok, rd'.ok, rs1.ok, rs1'.ok, rs2.ok, rs2'.ok)) in
    let rs2_is : rs2 ≡ rs2' = same_reg rs2 rs2' (omega (arith, rd.ok, rd'.ok, rs1.ok, rs1'.ok, rs2.ok, rs2'.ok)) in
    cc
by_tag (Xor rd rs1 rs2) (Xor rd' rs1' rs2') t e =
    let rd_is : rd ≡ rd' = same_reg rd rd' (omega (arith, rd.ok, rd'.ok, rs1.ok, rs1'.ok, rs2.ok, rs2'.ok)) in
    let rs1_is : rs1 ≡ rs1' = same_reg rs1 rs1' (omega (arith, rd.ok, rd'.ok, rs1.ok, rs1'.ok, rs2.ok, rs2'.ok)) in
    let rs2_is : rs2 ≡ rs2' = same_reg rs2 rs2' (omega (arith, rd.ok, rd'.ok, rs1.ok, rs1'.ok, rs2.ok, rs2'.ok)) in
    cc
by_tag (Srl rd rs1 rs2) (Srl rd' rs1' rs2') t e =
    let rd_is : rd ≡ rd' = same_reg rd rd' (omega (arith, rd.ok, rd'.ok, rs1.ok, rs1'.ok, rs2.ok, rs2'.ok)) in
    let rs1_is : rs1 ≡ rs1' = same_reg rs1 rs1' (omega (arith, rd.ok, rd'.ok, rs1.ok, rs1'.ok, rs2.ok, rs2'.ok)) in
    let rs2_is : rs2 ≡ rs2' = same_reg rs2 rs2' (omega (arith, rd.ok, rd'.ok, rs1.ok, rs1'.ok, rs2.ok, rs2'.ok)) in
    cc
by_tag (Sra rd rs1 rs2) (Sra rd' rs1' rs2') t e =
    let rd_is : rd ≡ rd' = same_reg rd rd' (omega (arith, rd.ok, rd'.ok, rs1.ok, rs1'.ok, rs2.ok, rs2'.ok)) in
    let rs1_is : rs1 ≡ rs1' = same_reg rs1 rs1' (omega (arith, rd.ok, rd'.ok, rs1.ok, rs1'.ok, rs2.ok, rs2'.ok)) in
    let rs2_is : rs2 ≡ rs2' = same_reg rs2 rs2' (omega (arith, rd.ok, rd'.ok, rs1.ok, rs1'.ok, rs2.ok, rs2'.ok)) in
    cc
by_tag (Or rd rs1 rs2) (Or rd' rs1' rs2') t e =
    let rd_is : rd ≡ rd' = same_reg rd rd' (omega (arith, rd.ok, rd'.ok, rs1.ok, rs1'.ok, rs2.ok, rs2'.ok)) in
    let rs1_is : rs1 ≡ rs1' = same_reg rs1 rs1' (omega (arith, rd.ok, rd'.ok, rs1.ok, rs1'.ok, rs2.ok, rs2'.ok)) in
    let rs2_is : rs2 ≡ rs2' = same_reg rs2 rs2' (omega (arith, rd.ok, rd'.ok, rs1.ok, rs1'.ok, rs2.ok, rs2'.ok)) in
    cc
by_tag (And rd rs1 rs2) (And rd' rs1' rs2') t e =
    let rd_is : rd ≡ rd' = same_reg rd rd' (omega (arith, rd.ok, rd'.ok, rs1.ok, rs1'.ok, rs2.ok, rs2'.ok)) in
    let rs1_is : rs1 ≡ rs1' = same_reg rs1 rs1' (omega (arith, rd.ok, rd'.ok, rs1.ok, rs1'.ok, rs2.ok, rs2'.ok)) in
    let rs2_is : rs2 ≡ rs2' = same_reg rs2 rs2' (omega (arith, rd.ok, rd'.ok, rs1.ok, rs1'.ok, rs2.ok, rs2'.ok)) in
    cc
by_tag (Mul rd rs1 rs2) (Mul rd' rs1' rs2') t e =
    let rd_is : rd ≡ rd' = same_reg rd rd' (omega (arith, rd.ok, rd'.ok, rs1.ok, rs1'.ok, rs2.ok, rs2'.ok)) in
    let rs1_is : rs1 ≡ rs1' = same_reg rs1 rs1' (omega (arith, rd.ok, rd'.ok, rs1.ok, rs1'.ok, rs2.ok, rs2'.ok)) in
    let rs2_is : rs2 ≡ rs2' = same_reg rs2 rs2' (omega (arith, rd.ok, rd'.ok, rs1.ok, rs1'.ok, rs2.ok, rs2'.ok)) in
    cc
by_tag (Mulh rd rs1 rs2) (Mulh rd' rs1' rs2') t e =
    let rd_is : rd ≡ rd' = same_reg rd rd' (omega (arith, rd.ok, rd'.ok, rs1.ok, rs1'.ok, rs2.ok, rs2'.ok)) in
    let rs1_is : rs1 ≡ rs1' = same_reg rs1 rs1' (omega (arith, rd.ok, rd'.ok, rs1.ok, rs1'.ok, rs2.ok, rs2'.ok)) in
    let rs2_is : rs2 ≡ rs2' = same_reg rs2 rs2' (omega (arith, rd.ok, rd'.ok, rs1.ok, rs1'.ok, rs2.ok, rs2'.ok)) in
    cc
by_tag (Mulhsu rd rs1 rs2) (Mulhsu rd' rs1' rs2') t e =
    let rd_is : rd ≡ rd' = same_reg rd rd' (omega (arith, rd.ok, rd'.ok, rs1.ok, rs1'.ok, rs2.ok, rs2'.ok)) in
    let rs1_is : rs1 ≡ rs1' = same_reg rs1 rs1' (omega (arith, rd.ok, rd'.ok, rs1.ok, rs1'.ok, rs2.ok, rs2'.ok)) in
    let rs2_is : rs2 ≡ rs2' = same_reg rs2 rs2' (omega (arith, rd.ok, rd'.ok, rs1.ok, rs1'.ok, rs2.ok, rs2'.ok)) in
    cc
by_tag (Mulhu rd rs1 rs2) (Mulhu rd' rs1' rs2') t e =
    let rd_is : rd ≡ rd' = same_reg rd rd' (omega (arith, rd.ok, rd'.ok, rs1.ok, rs1'.ok, rs2.ok, rs2'.ok)) in
    let rs1_is : rs1 ≡ rs1' = same_reg rs1 rs1' (omega (arith, rd.ok, rd'.ok, rs1.ok, rs1'.ok, rs2.ok, rs2'.ok)) in
    let rs2_is : rs2 ≡ rs2' = same_reg rs2 rs2' (omega (arith, rd.ok, rd'.ok, rs1.ok, rs1'.ok, rs2.ok, rs2'.ok)) in
    cc
by_tag (Div rd rs1 rs2) (Div rd' rs1' rs2') t e =
    let rd_is : rd ≡ rd' = same_reg rd rd' (omega (arith, rd.ok, rd'.ok, rs1.ok, rs1'.ok, rs2.ok, rs2'.ok)) in
    let rs1_is : rs1 ≡ rs1' = same_reg rs1 rs1' (omega (arith, rd.ok, rd'.ok, rs1.ok, rs1'.ok, rs2.ok, rs2'.ok)) in
    let rs2_is : rs2 ≡ rs2' = same_reg rs2 rs2' (omega (arith, rd.ok, rd'.ok, rs1.ok, rs1'.ok, rs2.ok, rs2'.ok)) in
    cc
by_tag (Divu rd rs1 rs2) (Divu rd' rs1' rs2') t e =
    let rd_is : rd ≡ rd' = same_reg rd rd' (omega (arith, rd.ok, rd'.ok, rs1.ok, rs1'.ok, rs2.ok, rs2'.ok)) in
    let rs1_is : rs1 ≡ rs1' = same_reg rs1 rs1' (omega (arith, rd.ok, rd'.ok, rs1.ok, rs1'.ok, rs2.ok, rs2'.ok)) in
    let rs2_is : rs2 ≡ rs2' = same_reg rs2 rs2' (omega (arith, rd.ok, rd'.ok, rs1.ok, rs1'.ok, rs2.ok, rs2'.ok)) in
    cc
by_tag (Rem rd rs1 rs2) (Rem rd' rs1' rs2') t e =
    let rd_is : rd ≡ rd' = same_reg rd rd' (omega (arith, rd.ok, rd'.ok, rs1.ok, rs1'.ok, rs2.ok, rs2'.ok)) in
    let rs1_is : rs1 ≡ rs1' = same_reg rs1 rs1' (omega (arith, rd.ok, rd'.ok, rs1.ok, rs1'.ok, rs2.ok, rs2'.ok)) in
    let rs2_is : rs2 ≡ rs2' = same_reg rs2 rs2' (omega (arith, rd.ok, rd'.ok, rs1.ok, rs1'.ok, rs2.ok, rs2'.ok)) in
    cc
by_tag (Remu rd rs1 rs2) (Remu rd' rs1' rs2') t e =
    let rd_is : rd ≡ rd' = same_reg rd rd' (omega (arith, rd.ok, rd'.ok, rs1.ok, rs1'.ok, rs2.ok, rs2'.ok)) in
    let rs1_is : rs1 ≡ rs1' = same_reg rs1 rs1' (omega (arith, rd.ok, rd'.ok, rs1.ok, rs1'.ok, rs2.ok, rs2'.ok)) in
    let rs2_is : rs2 ≡ rs2' = same_reg rs2 rs2' (omega (arith, rd.ok, rd'.ok, rs1.ok, rs1'.ok, rs2.ok, rs2'.ok)) in
    cc
by_tag (Fence rd rs1 upper) (Fence rd' rs1' upper') t e =
    let rd_is : rd ≡ rd' = same_reg rd rd' (omega (arith, rd.ok, rd'.ok, rs1.ok, rs1'.ok, upper.ok, upper'.ok)) in
    let rs1_is : rs1 ≡ rs1' = same_reg rs1 rs1' (omega (arith, rd.ok, rd'.ok, rs1.ok, rs1'.ok, upper.ok, upper'.ok)) in
    let upper_is : upper ≡ upper' = same_bits12 upper upper' (omega (arith, rd.ok, rd'.ok, rs1.ok, rs1'.ok, upper.ok, upper'.ok))
    in
    cc
by_tag Ecall Ecall t e = refl
by_tag Ebreak Ebreak t e = refl
by_tag i j t e = absurd (omega arith)

-- a word has one instruction at most
pub same : (i j : Instr) → word_of i ≡ word_of j → i ≡ j
same i j e =
    by_tag i j (sym (tag_is i) ∙ ap (λ w. tag_at (w % 128) (w / 4096 % 8) (w / 33554432) (w / 1048576 % 32)) e ∙ tag_is j) e
