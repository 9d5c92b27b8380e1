-- The text of tables, one behind another, each filled with zeros up to a multiple of four bytes.
use Rattle.std.specs.Prelude.{◌≡◌, ℕ, ◌+◌, ◌%◌, List, [], ◌∷◌, ◌++◌, length, map, Some, slice_get, ◌==◌, if◌then◌else◌}
use Rattle.rup_base.specs.Gather.{joined}

-- the zeros that bring so many bytes up to a multiple of four
abbrev pub fill : ℕ → List ℕ
fill n = if n % 4 == 1 then 0 ∷ 0 ∷ 0 ∷ [] else if n % 4 == 2 then 0 ∷ 0 ∷ [] else if n % 4 == 3 then 0 ∷ [] else []

abbrev pub filled : List ℕ → List ℕ
filled bytes = bytes ++ fill (length bytes)

abbrev pub text_of : List (List ℕ) → List ℕ
text_of tables = joined (map filled tables)

-- where each table begins, if the first begins at a given place
abbrev pub offsets_from : ℕ → List (List ℕ) → List ℕ
offsets_from start [] = []
offsets_from start (bytes ∷ tables) = start ∷ offsets_from (start + length (filled bytes)) tables

-- each table stands in the text, and begins at a multiple of four
abbrev pub AreAligned : List (List ℕ) → List ℕ → Type 0
AreAligned tables text = (k : ℕ) (bytes : List ℕ) → slice_get tables k ≡ Some bytes
    → (offset : ℕ) × (offset % 4 ≡ 0) × ((a b : ℕ) → slice_get bytes a ≡ Some b → slice_get text (offset + a) ≡ Some b)
