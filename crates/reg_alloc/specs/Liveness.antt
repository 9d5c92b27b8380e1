-- The variables that are live at the start of a code, and after each of its statements.
use Rattle.std.specs.Prelude.{◌≡◌, ℕ, suc, false, List, ◌∷◌, map}
use Rattle.flat_lang.specs.declared.flat.Flat.{Flat}
use Rattle.flat_lang.specs.Paths.{Ways, some_takes, flat_steps, flat_ways}
use Rattle.reg_alloc.specs.Marks.{below}

-- the variables, in their order, that one of the paths reads before it writes them
abbrev pub read_first : ℕ → Ways → List ℕ
read_first vars ways = below vars (λ v. some_takes v ways false)

-- First those live at the start, then for each statement in preorder those live after it. More turns of the loops make
-- none live that isn't with one, so the lists are those of the paths with at most n + 1 turns, for every n.
abbrev pub IsLiveness : Flat → List (List ℕ) → Type 0
IsLiveness flat lists = (n : ℕ)
    → lists ≡ map (read_first flat.vars) (flat_ways (suc n) flat ∷ map (λ step. step.after) (flat_steps (suc n) flat))
