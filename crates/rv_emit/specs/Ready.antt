-- When a state of the machine is ready for a call of code that stands, with the text of its tables behind it, in the
-- range of an image.
use Rattle.std.specs.Prelude.{◌≡◌, ℕ, ◌+◌, ◌-◌, ◌%◌, ◌≤◌, ◌⊎◌, List, [], ◌∷◌, ◌++◌, length, Some, ◌↔◌, zero, suc}
use Rattle.std.specs.List.{AllByRecursion, flat_map}
use Rattle.std.specs.Int.{w32, to_le_bytes}
use Rattle.std.specs.FinMap.{get, insert, empty}
use Rattle.flat_lang.specs.State.{Vars}
use Rattle.rv_machine.specs.State.{State, register}
use Rattle.rv_memory.specs.Ranges.{Bytes, Range, Within, IsMapped, AllApart, Stands}
use Rattle.rv_machine.specs.Machines.{IsMachine}

-- the words of code, little endian, and the tables behind them
abbrev pub code_bytes : List ℕ → List ℕ → List ℕ
code_bytes words tables = flat_map (to_le_bytes w32) words ++ tables

-- the stack range lies directly below sp, which is x2
abbrev pub stack_range : ℕ → State → Range
stack_range stack s = record { start = register s.regs 2 - stack; size = stack }

-- The words begin at `start`; ra, which is x1, is where they return to.
pub record Ready (words tables : List ℕ) (stack : ℕ) (image : Range) (start : ℕ) (arrays : List Range) (s : State) : Type 0 where
  pub machine : IsMachine s
  pub aligned : start % 4 ≡ 0
  pub from : image.start ≤ start
  pub to : start + length (code_bytes words tables) ≤ image.start + image.size
  pub code_stands : Stands s.mem start (code_bytes words tables)
  pub starts : s.pc ≡ start
  pub stack_aligned : register s.regs 2 % 16 ≡ 0
  pub stack_fits : stack ≤ register s.regs 2
  pub mapped : AllByRecursion (IsMapped s.mem) (image ∷ stack_range stack s ∷ arrays)
  pub apart : AllApart (image ∷ stack_range stack s ∷ arrays)
  pub return_aligned : register s.regs 1 % 4 ≡ 0
  pub return_outside : Within image (register s.regs 1) → ⊥

-- an address in one of the ranges
abbrev pub InOne : List Range → ℕ → Type 0
InOne [] address = ⊥
InOne (r ∷ rs) address = Within r address ⊎ InOne rs address

-- a memory is the part of another that lies in the ranges
abbrev pub IsPart : List Range → Bytes → Bytes → Type 0
IsPart ranges part whole = (address b : ℕ) → (get part address ≡ Some b) ↔ (InOne ranges address × (get whole address ≡ Some b))

-- the variables below a number hold what is in a0, which is x10, and on
abbrev pub arguments : List ℕ → ℕ → Vars
arguments regs zero = empty
arguments regs (suc n) = insert (arguments regs n) n (register regs (10 + n))
