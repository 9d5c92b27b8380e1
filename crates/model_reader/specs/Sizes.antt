-- How large forms are: each reader of a form goes down to smaller ones.
use Rattle.std.specs.Prelude.{ℕ, ◌+◌, List, [], ◌∷◌, map}
use Rattle.sx_text.specs.declared.tree.Sx.{Sx, Sx-F, fold-Sx}
use Rattle.sx_text.specs.declared.tree.Sx.TheOpen as x

abbrev pub total : List ℕ → ℕ
total [] = 0
total (n ∷ ns) = n + total ns

abbrev pub size_step : Sx-F ℕ → ℕ
size_step (x.Atom p t) = 1
size_step (x.Kids p sizes) = 3 + total sizes

abbrev pub size : Sx → ℕ
size = fold-Sx ℕ size_step

abbrev pub sizes : List Sx → ℕ
sizes forms = total (map size forms)
