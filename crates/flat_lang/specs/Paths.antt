-- The paths of three-address code. A variable is live where some path from there reads it before it writes it
-- (A. W. Appel, Modern Compiler Implementation, chapter 10, liveness analysis).
use Rattle.std.specs.Prelude.{◌≡◌, ℕ, zero, suc, Bool, true, false, not, ◌&&◌, ◌||◌, nat_eq, List, [], ◌∷◌, ◌++◌, map, Option}
use Rattle.std.specs.Prelude.{Some, None, if◌then◌else◌, slice_get}
use Rattle.flat_lang.specs.declared.flat.FStmt.{FStmt, FStmt-F, fold-FStmt}
use Rattle.flat_lang.specs.declared.flat.FStmt.TheOpen as f
use Rattle.flat_lang.specs.declared.flat.Flat.{Flat}

-- what happens to a variable at a point of a path: it is written, or else read
pub record Event : Type 0 where
  pub written : Bool
  pub var : ℕ

abbrev pub read : ℕ → Event
read x = record { written = false; var = x }

abbrev pub write : ℕ → Event
write x = record { written = true; var = x }

-- the paths through a piece of code
abbrev pub Ways : Type 0
Ways = List (List Event)

abbrev pub only : List Event → Ways
only es = es ∷ []

-- a path of the first, and then one of the second
abbrev pub both : Ways → Ways → Ways
both [] second = []
both (a ∷ first) second = map (λ b. a ++ b) second ++ both first second

-- a loop's paths with at most so many turns, over those of its test and of its body
abbrev pub loops : ℕ → Ways → Ways → Ways
loops zero test body = test
loops (suc n) test body = both test ([] ∷ both body (loops n test body))

-- whether a path takes what v holds at its start: it reads v before it writes v, or does neither and what follows takes it
abbrev pub takes : ℕ → List Event → Bool → Bool
takes v [] follows = follows
takes v (e ∷ es) follows = if e.written then (not (nat_eq v e.var) && takes v es follows)
    else (nat_eq v e.var || takes v es follows)

-- whether one of the paths does
abbrev pub some_takes : ℕ → Ways → Bool → Bool
some_takes v [] follows = false
some_takes v (way ∷ ways) follows = takes v way follows || some_takes v ways follows

-- a statement: what it writes itself, and the paths from behind it to the end
pub record Step : Type 0 where
  pub writes : Option ℕ
  pub after : Ways

-- a piece of code: its paths, and its statements in preorder, given the paths from behind it to the end
pub record Route : Type 0 where
  pub ways : Ways
  pub steps : Ways → List Step

abbrev pub routes : List Route → Route
routes [] = record { ways = only []; steps = λ after. [] }
routes (a ∷ rest) = record {
  ways = both a.ways (routes rest).ways;
  steps = λ after. a.steps (both (routes rest).ways after) ++ (routes rest).steps after;
}

abbrev pub single : Option ℕ → List Event → Route
single writes es = record { ways = only es; steps = λ after. record { writes = writes; after = after } ∷ [] }

-- what a statement does on its paths, with at most so many turns of each loop; a loop's test comes before its body
abbrev pub route_step : ℕ → FStmt-F Route → Route
route_step n (f.Lit x value) = single (Some x) (write x ∷ [])
route_step n (f.Copy x y) = single (Some x) (read y ∷ write x ∷ [])
route_step n (f.Bin op x y z) = single (Some x) (read y ∷ read z ∷ write x ∷ [])
route_step n (f.Load size x y) = single (Some x) (read y ∷ write x ∷ [])
route_step n (f.Table size x k y) = single (Some x) (read y ∷ write x ∷ [])
route_step n (f.Store size x y) = single None (read x ∷ read y ∷ [])
route_step n (f.If x a b) = record {
  ways = both (only (read x ∷ [])) ((routes a).ways ++ (routes b).ways);
  steps = λ after. record { writes = None; after = after } ∷ ((routes a).steps after ++ (routes b).steps after);
}
route_step n (f.While a x b) =
    let around = loops n (both (routes a).ways (only (read x ∷ []))) (routes b).ways in
    record {
      ways = around;
      steps = λ after. record { writes = None; after = after }
          ∷ ((routes a).steps (both (only (read x ∷ [])) (after ++ both (routes b).ways (both around after)))
          ++ (routes b).steps (both around after));
    }

abbrev pub route : ℕ → FStmt → Route
route n = fold-FStmt Route (route_step n)

abbrev pub code_route : ℕ → List FStmt → Route
code_route n body = routes (map (route n) body)

-- at the end the results are read
abbrev pub ends : List ℕ → Ways
ends rets = only (map read rets)

-- each statement of a whole code, and the paths from its start
abbrev pub flat_steps : ℕ → Flat → List Step
flat_steps n flat = (code_route n flat.body).steps (ends flat.rets)

abbrev pub flat_ways : ℕ → Flat → Ways
flat_ways n flat = both (code_route n flat.body).ways (ends flat.rets)

-- Live at the start: a path with some number of turns reads v before it writes it.
abbrev pub LiveAtStart : Flat → ℕ → Type 0
LiveAtStart flat v = (n : ℕ) × (some_takes v (flat_ways (suc n) flat) false ≡ true)

-- The same behind the statement of a number in preorder.
abbrev pub LiveAfter : Flat → ℕ → ℕ → Type 0
LiveAfter flat i v = (n : ℕ) × (step : Step)
    × ((slice_get (flat_steps (suc n) flat) i ≡ Some step) × (some_takes v step.after false ≡ true))
