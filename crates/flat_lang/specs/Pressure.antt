-- The pressure of a code: the greatest number of its variables whose intervals cover one point (intervals: Poletto and Sarkar,
-- Linear Scan Register Allocation, TOPLAS 21(5), 1999, as in bed_syntax's Intervals).
use Rattle.std.specs.Prelude.{ℕ, ◌||◌, nat_eq, List, [], ◌∷◌, ◌++◌, map}
use Rattle.rup_base.specs.Gather.{joined}
use Rattle.bed_syntax.specs.Intervals.{Point, throughout, with_ends, from, most_covering}
use Rattle.flat_lang.specs.declared.flat.FStmt.{FStmt, FStmt-F, fold-FStmt}
use Rattle.flat_lang.specs.declared.flat.FStmt.TheOpen as f
use Rattle.flat_lang.specs.declared.flat.Flat.{Flat}
use Rattle.flat_lang.specs.Backwards.{returned, flat_need}

-- the points of statements in preorder, a loop's own before those of its test, and these before those of its body
abbrev pub points_step : FStmt-F (List Point) → List Point
points_step (f.Lit x n) = (λ v. nat_eq x v) ∷ []
points_step (f.Copy x y) = (λ v. nat_eq x v || nat_eq y v) ∷ []
points_step (f.Bin op x y z) = (λ v. nat_eq x v || (nat_eq y v || nat_eq z v)) ∷ []
points_step (f.Load size x y) = (λ v. nat_eq x v || nat_eq y v) ∷ []
points_step (f.Table size x k y) = (λ v. nat_eq x v || nat_eq y v) ∷ []
points_step (f.Store size x y) = (λ v. nat_eq x v || nat_eq y v) ∷ []
points_step (f.If x a b) = (λ v. nat_eq x v) ∷ (joined a ++ joined b)
points_step (f.While a x b) = throughout ((λ v. nat_eq x v) ∷ (joined a ++ joined b))

abbrev pub stmt_points : FStmt → List Point
stmt_points = fold-FStmt (List Point) points_step

abbrev pub body_points : List FStmt → List Point
body_points body = joined (map stmt_points body)

-- the entry before them and the end behind them: the results are read at the end
abbrev pub interval_points : Flat → List Point
interval_points flat = with_ends flat.args (returned flat.rets) (flat_need flat) (body_points flat.body)

-- the greatest number of the variables' intervals that cover one point
abbrev pub flat_pressure : Flat → ℕ
flat_pressure flat = most_covering (interval_points flat) (from 0 flat.vars)
