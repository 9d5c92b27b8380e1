-- What the emission does to the code that is there, which is made from its end to its start.
use Rattle.std.specs.Prelude.{◌≡◌, ℕ, ◌<◌, ◌≤◌, true, List, [], ◌∷◌, ◌++◌, length, map, slice_index_or}
use Rattle.rup_base.specs.Gather.{all_true}
use Rattle.reg_alloc.specs.PlanOk.{is_place}
use Rattle.reg_alloc.specs.declared.plan.At.{At}
use Rattle.reg_alloc.specs.declared.plan.At.TheVariants.{Reg as Register, Slot}
use Rattle.reg_alloc.specs.declared.plan.Plan.{Plan}
use Rattle.rv_code.specs.declared.instruction.Instr.{Instr}
use Rattle.rv_code.specs.Word.{word_of}

-- a register there is, or a slot that an offset of twelve bits with a sign reaches
abbrev pub IsNear : At → Type 0
IsNear (Register r) = r < 32
IsNear (Slot j) = j < 512

-- each variable has a place that code may use
pub record IsPlan (plan : Plan) : Type 0 where
  pub places : all_true (map (is_place (length plan.places)) plan.places) ≡ true
  pub few : length plan.places ≤ 400

-- the words of instructions, from the last to the first
abbrev pub backwards : List Instr → List ℕ
backwards [] = []
backwards (i ∷ is) = backwards is ++ word_of i ∷ []

-- these instructions were put before those that were there
abbrev pub Puts : List Instr → List Instr → List Instr → Type 0
Puts old new more = map word_of new ≡ map word_of old ++ backwards more

-- where a table begins in the text of the tables
abbrev pub offset_of : List ℕ → ℕ → ℕ
offset_of offsets k = slice_index_or offsets k 0
