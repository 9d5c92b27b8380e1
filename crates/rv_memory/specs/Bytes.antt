-- A memory as contracts see it: a finite map from addresses to bytes, made of regions that are given by the address
-- of their first byte and their bytes.
use Rattle.std.specs.Prelude.{ℕ, ◌+◌, ◌<◌, ◌≤◌, List, [], ◌∷◌, ◌++◌, length, All}
use Rattle.std.specs.Ordering.{nat_cmp}
use Rattle.std.specs.FinMap.{FinMap, from_entries}

-- the bytes, each with its address, from a first address on
abbrev pub numbered : ℕ → List ℕ → List (ℕ × ℕ)
numbered at [] = []
numbered at (b ∷ bs) = (at, b) ∷ numbered (at + 1) bs

-- the bytes of all regions, each with its address
abbrev pub entries : List (ℕ × List ℕ) → List (ℕ × ℕ)
entries [] = []
entries (r ∷ rs) = numbered r.0 r.1 ++ entries rs

-- the map of the regions' bytes
unfoldable pub bytes_of : List (ℕ × List ℕ) → FinMap nat_cmp ℕ
bytes_of rs = from_entries (entries rs)

-- no address stands in both regions
abbrev pub IsApart : ℕ × List ℕ → ℕ × List ℕ → Type 0
IsApart r s = (a : ℕ) → r.0 ≤ a → a < r.0 + length r.1 → s.0 ≤ a → a < s.0 + length s.1 → ⊥

-- no address stands in two regions
abbrev pub AreDisjoint : List (ℕ × List ℕ) → Type 0
AreDisjoint [] = Unit {0}
AreDisjoint (r ∷ rs) = All (IsApart r) rs × AreDisjoint rs
