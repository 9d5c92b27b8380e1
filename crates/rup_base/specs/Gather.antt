-- What a definition over a tree makes of the results at a node's children.
use Rattle.std.specs.Prelude.{ℕ, max, Bool, true, ◌&&◌, List, [], ◌∷◌, ◌++◌}

-- the lists, one behind another
abbrev pub joined : {T : Type 0} → List (List T) → List T
joined [] = []
joined (part ∷ parts) = part ++ joined parts

-- the greatest of the numbers, 0 where there are none
abbrev pub greatest : List ℕ → ℕ
greatest [] = 0
greatest (n ∷ ns) = max n (greatest ns)

-- each of them is true
abbrev pub all_true : List Bool → Bool
all_true [] = true
all_true (holds ∷ rest) = holds && all_true rest
