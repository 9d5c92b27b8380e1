-- The names that a block may change, and their values at its end.
use Rattle.std.specs.Prelude.{◌≡◌, false, List, [], ◌∷◌, ◌++◌, fold, Option, if◌then◌else◌}
use Rattle.rup_base.specs.declared.arg.Arg.{Arg}
use Rattle.model_syntax.specs.declared.stmt.Stmt.{Stmt, Stmt-F, fold-Stmt}
use Rattle.model_syntax.specs.declared.stmt.Stmt.TheOpen as s
use Rattle.model_syntax.specs.Environment.{Env, value_of}
use Rattle.model_syntax.specs.Names.{Name, same, listed}

-- the names that may have other values after a statement: of a block's names only the listed ones
abbrev pub changes_step : Stmt-F (List Name) → List Name
changes_step (s.Let x a) = x ∷ []
changes_step (s.Put a i v) = a ∷ []
changes_step (s.Move b a i v) = b ∷ []
changes_step (s.If test xs keep first second) = xs
changes_step (s.For x low high xs keep body) = xs
changes_step (s.Map a x v) = a ∷ []
changes_step (s.Fold t a x v) = t ∷ []

abbrev pub changes : Stmt → List Name
changes = fold-Stmt (List Name) changes_step

-- the names with one more, unless it is listed or already there
abbrev pub add : List Name → List Name → Name → List Name
add xs back y = if listed y xs then back else (if listed y back then back else back ++ y ∷ [])

-- the names that a block may change and does not list: their values come back at its end
abbrev pub come_back : List Name → List Stmt → List Name
come_back xs ws = fold (λ back w. fold (add xs) back (changes w)) [] ws

-- what names have: the values that were kept of some of them, of which the last counts, and else those of an environment
abbrev pub handed_back : List Name → List (Option Arg) → (Name → Option Arg) → Name → Option Arg
handed_back [] vs of = of
handed_back (x ∷ xs) [] of = of
handed_back (x ∷ xs) (v ∷ vs) of = handed_back xs vs (λ y. if same x y then v else of y)

-- after a block the names that come back have their values from before it, and each other its value from the block's end
abbrev pub Restores : List Name → Env → Env → Env → Type 0
Restores back outer inner after = (y : Name) → value_of after y ≡ (if listed y back then value_of outer y else value_of inner y)

-- all other names have the same values in both
abbrev pub SameButFor : List Name → Env → Env → Type 0
SameButFor hidden one two = (y : Name) → listed y hidden ≡ false → value_of one y ≡ value_of two y
