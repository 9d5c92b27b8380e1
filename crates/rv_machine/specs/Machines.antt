-- States whose numbers are those of a machine, and the registers that a call keeps.
use Rattle.std.specs.Prelude.{◌≡◌, ℕ, ◌^◌, ◌<◌, ◌≤◌, ◌⊎◌, length, Some}
use Rattle.std.specs.FinMap.{get}
use Rattle.rv_machine.specs.State.{State, register}

-- the state's numbers are words and bytes
pub record IsMachine (s : State) : Type 0 where
  pub registers : length s.regs ≡ 32
  pub words : (r : ℕ) → register s.regs r < 2 ^ 32
  pub pc_word : s.pc < 2 ^ 32
  pub bytes : (address b : ℕ) → get s.mem address ≡ Some b → b < 2 ^ 8

-- sp, gp and tp are x2 to x4; s0 and s1 are x8 and x9; s2 to s11 are x18 to x27
abbrev pub IsSaved : ℕ → Type 0
IsSaved r = ((2 ≤ r) × (r ≤ 4)) ⊎ (((8 ≤ r) × (r ≤ 9)) ⊎ ((18 ≤ r) × (r ≤ 27)))
