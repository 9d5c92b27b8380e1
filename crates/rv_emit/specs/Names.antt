-- The named operations among instructions, and among the words of code, in their order.
use Rattle.std.specs.Prelude.{ℕ, ◌+◌, ◌*◌, ◌/◌, ◌%◌, nat_eq, List, [], ◌∷◌, map, if◌then◌else◌}
use Rattle.rup_base.specs.Gather.{joined}
use Rattle.bed_syntax.specs.Named.{Name, MUL, MULHU, DIVU, REMU, AND, OR, SLL, SRL, SRA, SLT, LBU, LHU, SB, SH}
use Rattle.rv_code.specs.Field.{reg, imm12}
use Rattle.rv_code.specs.Word.{word_of}
use Rattle.rv_code.specs.declared.instruction.Instr.{Instr}
use Rattle.rv_code.specs.declared.instruction.Instr.TheVariants.{Lbu, Lhu, Sb, Sh, Sll, Slt, Srl, Sra, Or, And, Mul, Mulhu, Divu}
use Rattle.rv_code.specs.declared.instruction.Instr.TheVariants.{Remu}

abbrev pub instr_names : Instr → List Name
instr_names (Mul rd rs1 rs2) = MUL ∷ []
instr_names (Mulhu rd rs1 rs2) = MULHU ∷ []
instr_names (Divu rd rs1 rs2) = DIVU ∷ []
instr_names (Remu rd rs1 rs2) = REMU ∷ []
instr_names (And rd rs1 rs2) = AND ∷ []
instr_names (Or rd rs1 rs2) = OR ∷ []
instr_names (Sll rd rs1 rs2) = SLL ∷ []
instr_names (Srl rd rs1 rs2) = SRL ∷ []
instr_names (Sra rd rs1 rs2) = SRA ∷ []
instr_names (Slt rd rs1 rs2) = SLT ∷ []
instr_names (Lbu rd rs1 imm) = LBU ∷ []
instr_names (Lhu rd rs1 imm) = LHU ∷ []
instr_names (Sb rs1 rs2 imm) = SB ∷ []
instr_names (Sh rs1 rs2 imm) = SH ∷ []
instr_names i = []

abbrev pub named_in : List Instr → List Name
named_in code = joined (map instr_names code)

-- the named instructions over the fields of a word: rd 11-7, rs1 19-15, rs2 24-20; the immediate of a load 31-20, that of a
-- store 31-25 and 11-7 (RISC-V Unprivileged ISA 20191213, section 2.2)
abbrev pub named_by : ℕ → List Instr
named_by w =
    let rd = reg (w / 128) in
    let rs1 = reg (w / 32768) in
    let rs2 = reg (w / 1048576) in
    let loaded = imm12 (w / 1048576) in
    let stored = imm12 (w / 33554432 * 32 + w / 128 % 32) in
    Mul rd rs1 rs2 ∷ Mulhu rd rs1 rs2 ∷ Divu rd rs1 rs2 ∷ Remu rd rs1 rs2 ∷ And rd rs1 rs2 ∷ Or rd rs1 rs2
    ∷ Sll rd rs1 rs2 ∷ Srl rd rs1 rs2 ∷ Sra rd rs1 rs2 ∷ Slt rd rs1 rs2
    ∷ Lbu rd rs1 loaded ∷ Lhu rd rs1 loaded ∷ Sb rs1 rs2 stored ∷ Sh rs1 rs2 stored ∷ []

-- the names of the first instruction of a list whose word is the given one, none where there is no such instruction
abbrev pub first_named : ℕ → List Instr → List Name
first_named w [] = []
first_named w (i ∷ is) = if nat_eq w (word_of i) then instr_names i else first_named w is

-- the name of a word of code: a word that is no instruction's, or that of an instruction without a name, has none
abbrev pub word_names : ℕ → List Name
word_names w = first_named w (named_by w)

abbrev pub op_words : List ℕ → List Name
op_words code = joined (map word_names code)
