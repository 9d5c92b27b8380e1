-- Sets of variables, as lists with a truth for each variable.
use Rattle.std.specs.Prelude.{ℕ, zero, suc, ◌+◌, ◌++◌, Bool, true, false, not, ◌&&◌, ◌||◌, nat_eq, List, [], ◌∷◌, length}
use Rattle.std.specs.Prelude.{replicate, slice_index_or, if◌then◌else◌}

abbrev pub Marks : Type 0
Marks = List Bool

-- as many variables, none in the set
abbrev pub blank : Marks → Marks
blank set = replicate (length set) false

-- what is in the first or in the second, as far as the first goes
abbrev pub either : Marks → Marks → Marks
either [] other = []
either (a ∷ set) [] = a ∷ either set []
either (a ∷ set) (b ∷ other) = (a || b) ∷ either set other

-- the numbers below n for which something holds, in their order
abbrev pub below : ℕ → (ℕ → Bool) → List ℕ
below zero test = []
below (suc n) test = if test n then below n test ++ n ∷ [] else below n test

-- the variables in the set
abbrev pub listed : ℕ → Marks → List ℕ
listed vars set = below vars (λ v. slice_index_or set v false)

-- no variable in the set but x has the place q, where v is the first of the set
abbrev pub alone_from : ℕ → ℕ → ℕ → List ℕ → Marks → Bool
alone_from q x v [] set = true
alone_from q x v (n ∷ places) [] = true
alone_from q x v (n ∷ places) (live ∷ set) = (not (live && nat_eq n q) || nat_eq v x) && alone_from q x (v + 1) places set

-- no variable in the set but x has the place of x; 0 is no place
abbrev pub alone : List ℕ → ℕ → Marks → Bool
alone places x set = alone_from (slice_index_or places x 0) x 0 places set
