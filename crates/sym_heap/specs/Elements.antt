-- One element of an array in memory: bytes and words by their size.
use Rattle.std.specs.Prelude.{ℕ, List, [], ◌∷◌, nat_eq, if◌then◌else◌}
use Rattle.std.specs.Int.{w32, to_le_bytes}

-- the bytes of an element of this size, in little endian
abbrev pub element_bytes : ℕ → ℕ → List ℕ
element_bytes size n = if nat_eq size 1 then n ∷ [] else to_le_bytes w32 n

-- the greatest element of this size
abbrev pub element_top : ℕ → ℕ
element_top size = if nat_eq size 1 then 255 else 4294967295
