-- The branches and jumps of code, and how many the code of statements has at most: two for each conditional and loop, and one
-- more where the first side, or the body, weighs more than a branch is sure to reach over.
use Rattle.std.specs.Prelude.{ℕ, ◌+◌, nat_lt, sum, List, [], ◌∷◌, map, if◌then◌else◌}
use Rattle.bed_syntax.specs.declared.weights.TheConstants as weights
use Rattle.flat_lang.specs.Count.{stmt_weight_step}
use Rattle.flat_lang.specs.declared.flat.FStmt.{FStmt, FStmt-F, fold-FStmt, map-FStmt}
use Rattle.flat_lang.specs.declared.flat.FStmt.TheOpen as f
use Rattle.rv_code.specs.declared.instruction.Instr.{Instr}
use Rattle.rv_code.specs.declared.instruction.Instr.TheVariants.{Jal, Jalr, Beq, Bne, Blt, Bge, Bltu, Bgeu}

-- 1 of a branch, JAL or JALR, 0 of all others
abbrev pub jump_count : Instr → ℕ
jump_count (Jal rd imm) = 1
jump_count (Jalr rd rs1 imm) = 1
jump_count (Beq rs1 rs2 imm) = 1
jump_count (Bne rs1 rs2 imm) = 1
jump_count (Blt rs1 rs2 imm) = 1
jump_count (Bge rs1 rs2 imm) = 1
jump_count (Bltu rs1 rs2 imm) = 1
jump_count (Bgeu rs1 rs2 imm) = 1
jump_count i = 0

abbrev pub jumps_in : List Instr → ℕ
jumps_in [] = 0
jumps_in (i ∷ is) = jump_count i + jumps_in is

-- what a statement weighs, and how many branches and jumps its code has at most
pub record Branching : Type 0 where
  pub weight : ℕ
  pub jumps : ℕ

abbrev pub one_if_far : ℕ → ℕ
one_if_far weight = if nat_lt 1020 weight then 1 else 0

abbrev pub all_weight : List Branching → ℕ
all_weight bs = sum (map (λ b. b.weight) bs)

abbrev pub all_jumps : List Branching → ℕ
all_jumps bs = sum (map (λ b. b.jumps) bs)

abbrev pub jumps_step : FStmt-F Branching → ℕ
jumps_step (f.If x a b) = 2 + one_if_far (all_weight a) + (all_jumps a + all_jumps b)
jumps_step (f.While a x b) = 2 + one_if_far (all_weight b) + (all_jumps a + all_jumps b)
jumps_step y = 0

abbrev pub branching_step : FStmt-F Branching → Branching
branching_step y = record {
  weight = stmt_weight_step weights.Weights.LARGE (map-FStmt Branching ℕ (λ b. b.weight) y);
  jumps = jumps_step y;
}

abbrev pub branching : FStmt → Branching
branching = fold-FStmt Branching branching_step

abbrev pub code_jumps : List FStmt → ℕ
code_jumps body = all_jumps (map branching body)
