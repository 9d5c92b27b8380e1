-- The state of the machine, and its memory: a finite map from addresses to bytes
-- (RISC-V Unprivileged ISA 20191213, sections 1.4 and 2.1).
use Rattle.std.specs.Prelude.{ℕ, List, ◌==◌, if◌then◌else◌, slice_index, slice_set}
use Rattle.rv_memory.specs.Ranges.{Bytes}
pub use Rattle.rv_memory.specs.Numbers.{joined}
unfoldable pub use Rattle.rv_memory.specs.Numbers.{number_at, with_number}

-- thirty-two registers, the place of the next instruction, and the memory
pub record State : Type 0 where
  pub regs : List ℕ
  pub pc : ℕ
  pub mem : Bytes

-- register x0 reads 0
abbrev pub register : List ℕ → ℕ → ℕ
register regs r = if r == 0 then 0 else slice_index regs r

-- a write to x0 is dropped
abbrev pub with_register : List ℕ → ℕ → ℕ → List ℕ
with_register regs r v = if r == 0 then regs else slice_set regs r v
