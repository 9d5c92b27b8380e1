-- e-rw: a step of the book takes the expression to another one, of which all else is said. Condition 3: the argument is from 0 to
-- 4294967295. Condition 4, before the kid: the book applies the step.
use Rattle.std.specs.Prelude.{ℕ, ℤ, List, [], ◌∷◌, Option, None}
use Rattle.expr_rules.specs.Words.{most, in_range}

-- the number of the step
abbrev pub step_of : List ℤ → Option ℕ
step_of [] = None
step_of (k ∷ rest) = in_range 0 most k
