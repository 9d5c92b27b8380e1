-- Bytes by their addresses, ranges of addresses, and what stands where.
use Rattle.std.specs.Prelude.{◌≡◌, ℕ, ◌+◌, ◌^◌, ◌<◌, ◌≤◌, List, [], ◌∷◌, Some, IsSome, slice_get, ⊤}
use Rattle.std.specs.List.{AllByRecursion}
use Rattle.std.specs.Ordering.{nat_cmp}
use Rattle.std.specs.FinMap.{FinMap, get}

-- a memory: a finite map from addresses to bytes
abbrev pub Bytes : Type 0
Bytes = FinMap nat_cmp ℕ

-- so many addresses from a first one on
pub record Range : Type 0 where
  pub start : ℕ
  pub size : ℕ

abbrev pub Within : Range → ℕ → Type 0
Within r address = (r.start ≤ address) × (address < r.start + r.size)

-- the range ends at or below 2^32, and its addresses are in the memory
pub record IsMapped (mem : Bytes) (r : Range) : Type 0 where
  pub ends : r.start + r.size ≤ 2 ^ 32
  pub inside : (address : ℕ) → Within r address → IsSome (get mem address)

-- no address is in both; an empty range overlaps nothing
abbrev pub Apart : Range → Range → Type 0
Apart r q = (address : ℕ) → Within r address → Within q address → ⊥

abbrev pub AllApart : List Range → Type 0
AllApart [] = ⊤
AllApart (r ∷ rs) = AllByRecursion (Apart r) rs × AllApart rs

-- the bytes stand in the memory from an address on
abbrev pub Stands : Bytes → ℕ → List ℕ → Type 0
Stands mem start bytes = (k b : ℕ) → slice_get bytes k ≡ Some b → get mem (start + k) ≡ Some b
