-- The names that a model declares and binds.
use Rattle.std.specs.Prelude.{ℕ, Bool, List, [], ◌∷◌, ◌++◌, map, fold, nat_eq, if◌then◌else◌}
use Rattle.std.specs.List.{list_any}
use Rattle.std.specs.Cmp.Lexicographic.{pointwise}
use Rattle.rup_base.specs.Gather.{joined}
use Rattle.model_syntax.specs.declared.program.Len.{Len}
use Rattle.model_syntax.specs.declared.program.Len.TheVariants.{Fixed, Named}
use Rattle.model_syntax.specs.declared.program.Param.{Param}
use Rattle.model_syntax.specs.declared.program.Param.TheVariants as param
use Rattle.model_syntax.specs.declared.program.Model.{Model}
use Rattle.model_syntax.specs.declared.stmt.Stmt.{Stmt, Stmt-F, fold-Stmt}
use Rattle.model_syntax.specs.declared.stmt.Stmt.TheOpen as s

-- a name is its bytes
abbrev pub Name : Type 0
Name = List ℕ

-- the names are equal
abbrev pub same : Name → Name → Bool
same = pointwise nat_eq

-- the name is one of them
abbrev pub listed : Name → List Name → Bool
listed x xs = list_any (same x) xs

-- the name of a length, if it has one
abbrev pub length_names : Len → List Name
length_names (Fixed n) = []
length_names (Named n) = n ∷ []

-- the name of a parameter, and then that of its length
abbrev pub param_names : Param → List Name
param_names (param.Word x) = x ∷ []
param_names (param.Byte x) = x ∷ []
param_names (param.Bytes a n) = a ∷ length_names n
param_names (param.Words a n) = a ∷ length_names n

-- the name is a parameter's or a length's
abbrev pub declared : List Param → Name → Bool
declared ps x = list_any (λ p. listed x (param_names p)) ps

-- the names that a statement binds in a let, for, map or fold, in the order of the text
abbrev pub binds_step : Stmt-F (List Name) → List Name
binds_step (s.Let x a) = x ∷ []
binds_step (s.Put a i v) = []
binds_step (s.Move b a i v) = []
binds_step (s.If test xs keep first second) = joined first ++ joined second
binds_step (s.For x low high xs keep body) = x ∷ joined body
binds_step (s.Map a x v) = x ∷ []
binds_step (s.Fold t a x v) = t ∷ x ∷ []

abbrev pub binds : Stmt → List Name
binds = fold-Stmt (List Name) binds_step

-- the names after the sight of one: it goes last, unless it was seen or declared
abbrev pub sight : List Param → List Name → Name → List Name
sight ps seen x = if declared ps x then seen else (if listed x seen then seen else seen ++ x ∷ [])

-- the names that a model binds and does not declare, in order of first sight
abbrev pub first_names : Model → List Name
first_names m = fold (sight m.params) [] (joined (map binds m.body))
