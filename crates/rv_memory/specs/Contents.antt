-- The map of a list of pages.
use Rattle.std.specs.Prelude.{◌≡◌, ℕ, ◌+◌, Bool, ◌&&◌, nat_le, nat_lt, List, map, length, if◌then◌else◌}
use Rattle.std.specs.Ordering.{nat_cmp}
use Rattle.std.specs.FinMap.{FinMap}
use Rattle.rv_memory.specs.declared.page.Page.{Page}
use Rattle.rv_memory.specs.Bytes.{entries, bytes_of, AreDisjoint}
use Rattle.rv_memory.specs.Numbers.{with_number}

-- a byte of the page has the address
abbrev pub holds : ℕ → Page → Bool
holds at r = nat_le r.start at && nat_lt at (r.start + length r.bytes.items)

-- the pages as their first addresses and their bytes
abbrev pub parts : List Page → List (ℕ × List ℕ)
parts rs = map (λ r. (r.start, r.bytes.items)) rs

abbrev pub contents : List Page → FinMap nat_cmp ℕ
contents rs = bytes_of (parts rs)

-- the map after a store of so many bytes, if it is done
abbrev pub stored_if : Bool → ℕ → List Page → ℕ → ℕ → FinMap nat_cmp ℕ
stored_if done size rs at value = if done then with_number (contents rs) size at value else contents rs

-- other regions with the same bytes at the same addresses, which are disjoint where the first are
abbrev pub IsRecut : List (ℕ × List ℕ) → List (ℕ × List ℕ) → Type 0
IsRecut rs qs = (entries qs ≡ entries rs) × (AreDisjoint rs → AreDisjoint qs)
