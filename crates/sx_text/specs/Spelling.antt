-- The canonical spelling of forms: one space between forms, none beside a parenthesis's inside.
use Rattle.std.specs.Prelude.{◌≡◌, ℕ, ◌+◌, Bool, false, ◌&&◌, List, [], ◌∷◌, ◌++◌, Ok}
use Rattle.std.specs.List.{list_all}
use Rattle.rup_base.specs.Spelling.{behind_spaces}
use Rattle.rup_base.specs.Gather.{greatest, all_true}
use Rattle.sx_text.specs.Bytes.{in_atom}
use Rattle.sx_text.specs.Forms.{place, read}
use Rattle.sx_text.specs.declared.tree.Sx.{Sx, Sx-F, fold-Sx}
use Rattle.sx_text.specs.declared.tree.Sx.TheVariants.{Atom, Kids}
use Rattle.sx_text.specs.declared.tree.Sx.TheOpen as x

-- texts with a space between each two
abbrev pub spaced : List (List ℕ) → List ℕ
spaced [] = []
spaced (t ∷ ts) = t ++ behind_spaces ts

-- the spelling of a form: an atom's bytes, or `(`, 40, the forms inside and `)`, 41
abbrev pub text_step : Sx-F (List ℕ) → List ℕ
text_step (x.Atom p bytes) = bytes
text_step (x.Kids p texts) = 40 ∷ spaced texts ++ 41 ∷ []

abbrev pub text : Sx → List ℕ
text = fold-Sx (List ℕ) text_step

-- how many lists are open inside the form at most
abbrev pub levels_step : Sx-F ℕ → ℕ
levels_step (x.Atom p bytes) = 0
levels_step (x.Kids p depths) = 1 + greatest depths

abbrev pub levels : Sx → ℕ
levels = fold-Sx ℕ levels_step

-- at least one byte, and only bytes that stand in atoms
abbrev pub is_atom : List ℕ → Bool
is_atom [] = false
is_atom (b ∷ bs) = in_atom b && list_all in_atom bs

-- each atom of the form is one
abbrev pub is_spelled_step : Sx-F Bool → Bool
is_spelled_step (x.Atom p bytes) = is_atom bytes
is_spelled_step (x.Kids p spelled) = all_true spelled

abbrev pub is_spelled : Sx → Bool
is_spelled = fold-Sx Bool is_spelled_step

-- the form at no place: two forms are the same but for their places where these are equal
abbrev pub bare_step : Sx-F Sx → Sx
bare_step (x.Atom p bytes) = Atom (place 0 0) bytes
bare_step (x.Kids p kids) = Kids (place 0 0) kids

abbrev pub bare : Sx → Sx
bare = fold-Sx Sx bare_step

-- reading the spelling of a form, and a line feed behind it, gives that form alone, but for its places
abbrev pub IsReadBack : ℕ → Sx → Type 0
IsReadBack word s = (t : Sx) × (read word (text s ++ 10 ∷ []) ≡ Ok (t ∷ [])) × (bare t ≡ bare s)
