-- What loads, stores and moves do, where their addresses are in the memory.
use Rattle.std.proofs.Common.{◌≡◌, ℕ, ◌+◌, ◌*◌, ◌/◌, ◌%◌, ◌^◌, ◌<◌, Some, IsSome, Ok, refl, arith}
use Rattle.rv_machine.specs.Word.{plus}
use Rattle.rv_machine.specs.Fields.{extended}
use Rattle.rv_machine.specs.State.{State, number_at, with_number}
use Rattle.rv_machine.specs.Step.{gives, goes_on, loaded, loads, stores}

pub loaded_is : (s : State) (size a v : ℕ) → a % size ≡ 0 → number_at s.mem size a ≡ Some v → loaded s size a ≡ Ok v
unfolding loaded
loaded_is s size a v aligned there = rw (aligned, there)

pub loads_is : (s : State) (d size a b v : ℕ) → a ≡ b → b % size ≡ 0 → number_at s.mem size b ≡ Some v
    → loads s d (λ n. n) (loaded s size a) ≡ gives s d v
loads_is s d size a b v same aligned there = rw (same, loaded_is s size b v aligned there) refl

-- the machine's memory after a store, and the next place
abbrev pub with_stored : State → ℕ → ℕ → ℕ → State
with_stored s size a v = record { regs = s.regs; pc = plus s.pc 4; mem = with_number s.mem size a v }

pub stores_is : (s : State) (size a b v n : ℕ) → a ≡ b → v ≡ n → b % size ≡ 0 → IsSome (number_at s.mem size b)
    → stores s size a v ≡ Ok (with_stored s size b n)
unfolding stores
stores_is s size a b v n same value aligned there = rw (same, value, aligned, there)

pub extended_small : (i : ℕ) → i < 2048 → extended 2048 i ≡ i
extended_small i below = grind arith

-- the distance of a slot from the stack pointer
pub slot_offset : (sp j : ℕ) → j < 512 → sp + 4 * j < 2 ^ 32 → plus sp (extended 2048 (4 * j % 4096)) ≡ sp + 4 * j
slot_offset sp j near ends =
    let small : 4 * j % 4096 ≡ 4 * j = omega arith in
    rw (small, extended_small (4 * j) (omega arith)) (omega arith)

pub nothing_added : (n : ℕ) → n < 2 ^ 32 → plus n (extended 2048 (0 % 4096)) ≡ n
nothing_added n below = let none : extended 2048 (0 % 4096) ≡ 0 = refl in rw none (omega arith)

-- a number is the sum of its upper twenty bits and its low twelve bits with their sign
pub parts_sum : (n : ℕ) → n < 2 ^ 32 → plus ((n + 2048) / 4096 % 1048576 * 4096) (extended 2048 (n % 4096)) ≡ n
parts_sum n below = grind arith

pub goes_on_is : (s : State) → goes_on s ≡ Ok (record { regs = s.regs; pc = plus s.pc 4; mem = s.mem })
unfolding goes_on
goes_on_is s = refl
