-- The names of the words of code are those of the instructions that the words are of.
use Rattle.std.proofs.Common.{◌≡◌, ◌≢◌, refl, sym, ap, ◌∙◌, arith, ℕ, ◌⊎◌, inl, inr, Bool, true, false, nat_eq, List, [], ◌∷◌}
use Rattle.std.proofs.Common.{◌++◌, map}
use Rattle.std.proofs.lemmas.Bool.{eqb-true, eq-eqb}
use Rattle.rv_code.proofs.laws.Same.{same}
use Rattle.rv_code.specs.Word.{word_of}
use Rattle.rv_code.specs.declared.instruction.Instr.{Instr}
use Rattle.rv_code.specs.declared.instruction.Instr.TheVariants.{Lui, Auipc, Jal, Jalr, Beq, Bne, Blt, Bge, Bltu, Bgeu, Lb, Lh}
use Rattle.rv_code.specs.declared.instruction.Instr.TheVariants.{Lw, Lbu, Lhu, Sb, Sh, Sw, Addi, Slti, Sltiu, Xori, Ori, Andi}
use Rattle.rv_code.specs.declared.instruction.Instr.TheVariants.{Slli, Srli, Srai, Add, Sub, Sll, Slt, Sltu, Xor, Srl, Sra, Or}
use Rattle.rv_code.specs.declared.instruction.Instr.TheVariants.{And, Mul, Mulh, Mulhsu, Mulhu, Div, Divu, Rem, Remu, Fence}
use Rattle.rv_code.specs.declared.instruction.Instr.TheVariants.{Ecall, Ebreak}
use Rattle.rv_emit.specs.Names.{instr_names, named_in, named_by, first_named, word_names, op_words}

-- the word is that of an instruction of the list
abbrev Among : ℕ → List Instr → Type 0
Among w [] = ⊥
Among w (i ∷ is) = (w ≡ word_of i) ⊎ Among w is

-- a word that an instruction of the list has is named as its one instruction is
found : (w : ℕ) (i : Instr) (js : List Instr) → w ≡ word_of i → Among w js → first_named w js ≡ instr_names i
found w i [] is among = absurd among
found w i (j ∷ js) is among = by (nat_eq w (word_of j)) refl among (λ there. found w i js is there)
  where
    by : (b : Bool) → nat_eq w (word_of j) ≡ b → (w ≡ word_of j) ⊎ Among w js → (Among w js → first_named w js ≡ instr_names i)
        → first_named w (j ∷ js) ≡ instr_names i
    by true e at more = rw e (ap instr_names (same j i (sym (eqb-true w (word_of j) e) ∙ is)))
    by false e (inl here) more = let equal : nat_eq w (word_of j) ≡ true = eq-eqb w (word_of j) here in absurd (cc)
    by false e (inr there) more = rw e (more there)

-- the word of an instruction without a name has none, whatever the list
nameless : (w : ℕ) (i : Instr) (js : List Instr) → w ≡ word_of i → instr_names i ≡ [] → first_named w js ≡ []
nameless w i [] is none = refl
nameless w i (j ∷ js) is none = by (nat_eq w (word_of j)) refl (nameless w i js is none)
  where
    by : (b : Bool) → nat_eq w (word_of j) ≡ b → first_named w js ≡ [] → first_named w (j ∷ js) ≡ []
    by true e more = rw e (ap instr_names (same j i (sym (eqb-true w (word_of j) e) ∙ is)) ∙ none)
    by false e more = rw e more

no_instruction : (w : ℕ) (js : List Instr) → ((i : Instr) → w ≢ word_of i) → first_named w js ≡ []
no_instruction w [] off = refl
no_instruction w (j ∷ js) off = by (nat_eq w (word_of j)) refl (no_instruction w js off)
  where
    by : (b : Bool) → nat_eq w (word_of j) ≡ b → first_named w js ≡ [] → first_named w (j ∷ js) ≡ []
    by true e more = absurd (off j (eqb-true w (word_of j) e))
    by false e more = rw e more

-- a word that no instruction has names no operation
pub refused_unnamed : (w : ℕ) → ((i : Instr) → w ≢ word_of i) → word_names w ≡ []
refused_unnamed w off = no_instruction w (named_by w) off

-- the word of an instruction has the instruction's names
pub word_named : (i : Instr) → word_names (word_of i) ≡ instr_names i
word_named (Lui rd imm) = nameless _ (Lui rd imm) (named_by (word_of (Lui rd imm))) refl refl
word_named (Auipc rd imm) = nameless _ (Auipc rd imm) (named_by (word_of (Auipc rd imm))) refl refl
word_named (Jal rd imm) = nameless _ (Jal rd imm) (named_by (word_of (Jal rd imm))) refl refl
word_named (Jalr rd rs1 imm) = nameless _ (Jalr rd rs1 imm) (named_by (word_of (Jalr rd rs1 imm))) refl refl
word_named (Beq rs1 rs2 imm) = nameless _ (Beq rs1 rs2 imm) (named_by (word_of (Beq rs1 rs2 imm))) refl refl
word_named (Bne rs1 rs2 imm) = nameless _ (Bne rs1 rs2 imm) (named_by (word_of (Bne rs1 rs2 imm))) refl refl
word_named (Blt rs1 rs2 imm) = nameless _ (Blt rs1 rs2 imm) (named_by (word_of (Blt rs1 rs2 imm))) refl refl
word_named (Bge rs1 rs2 imm) = nameless _ (Bge rs1 rs2 imm) (named_by (word_of (Bge rs1 rs2 imm))) refl refl
word_named (Bltu rs1 rs2 imm) = nameless _ (Bltu rs1 rs2 imm) (named_by (word_of (Bltu rs1 rs2 imm))) refl refl
word_named (Bgeu rs1 rs2 imm) = nameless _ (Bgeu rs1 rs2 imm) (named_by (word_of (Bgeu rs1 rs2 imm))) refl refl
word_named (Lb rd rs1 imm) = nameless _ (Lb rd rs1 imm) (named_by (word_of (Lb rd rs1 imm))) refl refl
word_named (Lh rd rs1 imm) = nameless _ (Lh rd rs1 imm) (named_by (word_of (Lh rd rs1 imm))) refl refl
word_named (Lw rd rs1 imm) = nameless _ (Lw rd rs1 imm) (named_by (word_of (Lw rd rs1 imm))) refl refl
word_named (Lbu rd rs1 imm) = found _ (Lbu rd rs1 imm) (named_by (word_of (Lbu rd rs1 imm))) refl
    (inr (inr (inr (inr (inr (inr (inr (inr (inr (inr (inl (omega (arith, rd.ok, rs1.ok, imm.ok)))))))))))))
word_named (Lhu rd rs1 imm) = found _ (Lhu rd rs1 imm) (named_by (word_of (Lhu rd rs1 imm))) refl
    (inr (inr (inr (inr (inr (inr (inr (inr (inr (inr (inr (inl (omega (arith, rd.ok, rs1.ok, imm.ok))))))))))))))
word_named (Sb rs1 rs2 imm) = found _ (Sb rs1 rs2 imm) (named_by (word_of (Sb rs1 rs2 imm))) refl
    (inr (inr (inr (inr (inr (inr (inr (inr (inr (inr (inr (inr (inl (omega (arith, rs1.ok, rs2.ok, imm.ok)))))))))))))))
word_named (Sh rs1 rs2 imm) = found _ (Sh rs1 rs2 imm) (named_by (word_of (Sh rs1 rs2 imm))) refl
    (inr (inr (inr (inr (inr (inr (inr (inr (inr (inr (inr (inr (inr (inl (omega (arith, rs1.ok, rs2.ok, imm.ok))))))))))))))))
word_named (Sw rs1 rs2 imm) = nameless _ (Sw rs1 rs2 imm) (named_by (word_of (Sw rs1 rs2 imm))) refl refl
word_named (Addi rd rs1 imm) = nameless _ (Addi rd rs1 imm) (named_by (word_of (Addi rd rs1 imm))) refl refl
word_named (Slti rd rs1 imm) = nameless _ (Slti rd rs1 imm) (named_by (word_of (Slti rd rs1 imm))) refl refl
word_named (Sltiu rd rs1 imm) = nameless _ (Sltiu rd rs1 imm) (named_by (word_of (Sltiu rd rs1 imm))) refl refl
word_named (Xori rd rs1 imm) = nameless _ (Xori rd rs1 imm) (named_by (word_of (Xori rd rs1 imm))) refl refl
word_named (Ori rd rs1 imm) = nameless _ (Ori rd rs1 imm) (named_by (word_of (Ori rd rs1 imm))) refl refl
word_named (Andi rd rs1 imm) = nameless _ (Andi rd rs1 imm) (named_by (word_of (Andi rd rs1 imm))) refl refl
word_named (Slli rd rs1 shamt) = nameless _ (Slli rd rs1 shamt) (named_by (word_of (Slli rd rs1 shamt))) refl refl
word_named (Srli rd rs1 shamt) = nameless _ (Srli rd rs1 shamt) (named_by (word_of (Srli rd rs1 shamt))) refl refl
word_named (Srai rd rs1 shamt) = nameless _ (Srai rd rs1 shamt) (named_by (word_of (Srai rd rs1 shamt))) refl refl
word_named (Add rd rs1 rs2) = nameless _ (Add rd rs1 rs2) (named_by (word_of (Add rd rs1 rs2))) refl refl
word_named (Sub rd rs1 rs2) = nameless _ (Sub rd rs1 rs2) (named_by (word_of (Sub rd rs1 rs2))) refl refl
word_named (Sll rd rs1 rs2) = found _ (Sll rd rs1 rs2) (named_by (word_of (Sll rd rs1 rs2))) refl
    (inr (inr (inr (inr (inr (inr (inl (omega (arith, rd.ok, rs1.ok, rs2.ok)))))))))
word_named (Slt rd rs1 rs2) = found _ (Slt rd rs1 rs2) (named_by (word_of (Slt rd rs1 rs2))) refl
    (inr (inr (inr (inr (inr (inr (inr (inr (inr (inl (omega (arith, rd.ok, rs1.ok, rs2.ok))))))))))))
word_named (Sltu rd rs1 rs2) = nameless _ (Sltu rd rs1 rs2) (named_by (word_of (Sltu rd rs1 rs2))) refl refl
word_named (Xor rd rs1 rs2) = nameless _ (Xor rd rs1 rs2) (named_by (word_of (Xor rd rs1 rs2))) refl refl
word_named (Srl rd rs1 rs2) = found _ (Srl rd rs1 rs2) (named_by (word_of (Srl rd rs1 rs2))) refl
    (inr (inr (inr (inr (inr (inr (inr (inl (omega (arith, rd.ok, rs1.ok, rs2.ok))))))))))
word_named (Sra rd rs1 rs2) = found _ (Sra rd rs1 rs2) (named_by (word_of (Sra rd rs1 rs2))) refl
    (inr (inr (inr (inr (inr (inr (inr (inr (inl (omega (arith, rd.ok, rs1.ok, rs2.ok)))))))))))
word_named (Or rd rs1 rs2) = found _ (Or rd rs1 rs2) (named_by (word_of (Or rd rs1 rs2))) refl
    (inr (inr (inr (inr (inr (inl (omega (arith, rd.ok, rs1.ok, rs2.ok))))))))
word_named (And rd rs1 rs2) = found _ (And rd rs1 rs2) (named_by (word_of (And rd rs1 rs2))) refl
    (inr (inr (inr (inr (inl (omega (arith, rd.ok, rs1.ok, rs2.ok)))))))
word_named (Mul rd rs1 rs2) = found _ (Mul rd rs1 rs2) (named_by (word_of (Mul rd rs1 rs2))) refl
    (inl (omega (arith, rd.ok, rs1.ok, rs2.ok)))
word_named (Mulh rd rs1 rs2) = nameless _ (Mulh rd rs1 rs2) (named_by (word_of (Mulh rd rs1 rs2))) refl refl
word_named (Mulhsu rd rs1 rs2) = nameless _ (Mulhsu rd rs1 rs2) (named_by (word_of (Mulhsu rd rs1 rs2))) refl refl
word_named (Mulhu rd rs1 rs2) =
    found _ (Mulhu rd rs1 rs2) (named_by (word_of (Mulhu rd rs1 rs2))) refl (inr (inl (omega (arith, rd.ok, rs1.ok, rs2.ok))))
word_named (Div rd rs1 rs2) = nameless _ (Div rd rs1 rs2) (named_by (word_of (Div rd rs1 rs2))) refl refl
word_named (Divu rd rs1 rs2) =
    found _ (Divu rd rs1 rs2) (named_by (word_of (Divu rd rs1 rs2))) refl (inr (inr (inl (omega (arith, rd.ok, rs1.ok, rs2.ok)))))
word_named (Rem rd rs1 rs2) = nameless _ (Rem rd rs1 rs2) (named_by (word_of (Rem rd rs1 rs2))) refl refl
word_named (Remu rd rs1 rs2) =
    found _ (Remu rd rs1 rs2) (named_by (word_of (Remu rd rs1 rs2))) refl
    (inr (inr (inr (inl (omega (arith, rd.ok, rs1.ok, rs2.ok))))))
word_named (Fence rd rs1 upper) = nameless _ (Fence rd rs1 upper) (named_by (word_of (Fence rd rs1 upper))) refl refl
word_named Ecall = nameless _ Ecall (named_by (word_of Ecall)) refl refl
word_named Ebreak = nameless _ Ebreak (named_by (word_of Ebreak)) refl refl

-- the named operations of the words of instructions are those of the instructions
pub words_named : (code : List Instr) → op_words (map word_of code) ≡ named_in code
words_named [] = refl
words_named (i ∷ code) = ap (λ x. x ++ op_words (map word_of code)) (word_named i)
    ∙ ap (λ x. instr_names i ++ x) (words_named code)
