-- What code needs of one variable, from the end to the start: whether its value at the start is wanted, where it is known
-- whether the value at the end is. A loop needs no rounds: what a turn more would add is known from the first.
use Rattle.std.specs.Prelude.{ℕ, Bool, false, not, ◌&&◌, ◌||◌, nat_eq, List, [], ◌∷◌, ◌++◌, map, Option, Some, None}
use Rattle.flat_lang.specs.declared.flat.FStmt.{FStmt, FStmt-F, fold-FStmt}
use Rattle.flat_lang.specs.declared.flat.FStmt.TheOpen as f
use Rattle.flat_lang.specs.declared.flat.Flat.{Flat}
use Rattle.flat_lang.specs.Paths.{some_takes, ends}

-- the variables of which something holds
abbrev pub Lives : Type 0
Lives = ℕ → Bool

-- a statement: what it writes itself, and what is live after it
pub record Point : Type 0 where
  pub writes : Option ℕ
  pub after : Lives

-- a piece of code: what it needs, and its statements in preorder, given what is live after it
pub record Walk : Type 0 where
  pub need : ℕ → Bool → Bool
  pub points : Lives → List Point

-- x is read, and then written
abbrev pub reads : ℕ → ℕ → Bool → Bool
reads x v k = nat_eq v x || k

abbrev pub sets : ℕ → ℕ → Bool → Bool
sets x v k = not (nat_eq v x) && k

abbrev pub walks : List Walk → Walk
walks [] = record { need = λ v k. k; points = λ l. [] }
walks (a ∷ rest) = record {
  need = λ v k. a.need v ((walks rest).need v k);
  points = λ l. a.points (λ v. (walks rest).need v (l v)) ++ (walks rest).points l;
}

-- what is needed before a loop's test, and behind what is done before it
abbrev pub turned : Walk → ℕ → Walk → ℕ → Bool → Bool
turned a x b v k = a.need v (reads x v (k || b.need v false))

abbrev pub tested : Walk → ℕ → Walk → ℕ → Bool → Bool
tested a x b v k = reads x v (k || b.need v (turned a x b v k))

abbrev pub one : Option ℕ → (ℕ → Bool → Bool) → Walk
one writes need = record { need = need; points = λ l. record { writes = writes; after = l } ∷ [] }

abbrev pub walk_step : FStmt-F Walk → Walk
walk_step (f.Lit x value) = one (Some x) (λ v k. sets x v k)
walk_step (f.Copy x y) = one (Some x) (λ v k. reads y v (sets x v k))
walk_step (f.Bin op x y z) = one (Some x) (λ v k. reads y v (reads z v (sets x v k)))
walk_step (f.Load size x y) = one (Some x) (λ v k. reads y v (sets x v k))
walk_step (f.Table size x n y) = one (Some x) (λ v k. reads y v (sets x v k))
walk_step (f.Store size x y) = one None (λ v k. reads x v (reads y v k))
walk_step (f.If x a b) = record {
  need = λ v k. reads x v ((walks a).need v k || (walks b).need v k);
  points = λ l. record { writes = None; after = l } ∷ ((walks a).points l ++ (walks b).points l);
}
walk_step (f.While a x b) = record {
  need = λ v k. turned (walks a) x (walks b) v k;
  points = λ l. record { writes = None; after = l }
      ∷ ((walks a).points (λ v. tested (walks a) x (walks b) v (l v))
      ++ (walks b).points (λ v. turned (walks a) x (walks b) v (l v)));
}

abbrev pub walk : FStmt → Walk
walk = fold-FStmt Walk walk_step

abbrev pub code_walk : List FStmt → Walk
code_walk body = walks (map walk body)

-- live at the end are the results
abbrev pub returned : List ℕ → Lives
returned rets v = some_takes v (ends rets) false

-- of a whole code: each statement, and what is live at the start
abbrev pub flat_points : Flat → List Point
flat_points flat = (code_walk flat.body).points (returned flat.rets)

abbrev pub flat_need : Flat → Lives
flat_need flat v = (code_walk flat.body).need v (returned flat.rets v)
