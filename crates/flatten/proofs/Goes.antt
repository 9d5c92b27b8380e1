-- Three-address code that goes from one state to another, whatever fuel is left over.
use Rattle.std.proofs.Common.{◌≡◌, refl, ap, ◌∙◌, arith, ℕ, suc, ◌+◌, List, [], ◌∷◌, ◌++◌, Result, Ok, Err}
use Rattle.bed_meaning.specs.Fuelled.{and_then, fuelled, take_one, in_turn}
use Rattle.rv_memory.specs.Ranges.{Bytes}
use Rattle.bed_syntax.specs.declared.weights.Weights.{Weights}
use Rattle.bed_meaning.specs.declared.halt.Halt.{Halt}
use Rattle.flat_lang.specs.declared.flat.FStmt.{FStmt}
use Rattle.flat_lang.specs.State.{State, Vars}
use Rattle.flat_lang.specs.Meaning.{Rule, run, run_all}

abbrev pub at : ℕ → ℕ → Bytes → Vars → State
at fuel ticks mem vars = record { fuel = fuel; ticks = ticks; mem = mem; vars = vars }

then_joined : (r : Result State Halt) (whole first second : Rule) → ((s : State) → whole s ≡ and_then (first s) second)
    → and_then r whole ≡ and_then (and_then r first) second
then_joined (Ok s) whole first second h = h s
then_joined (Err e) whole first second h = refl

-- code in two parts does the one and then the other
pub run_joined : (w : Weights) (tables : List (List ℕ)) (a b : List FStmt) (s : State)
    → run_all w tables (a ++ b) s ≡ and_then (run_all w tables a s) (run_all w tables b)
run_joined w tables [] b s = refl
run_joined w tables (f ∷ fs) b s =
    then_joined (run w tables f s) (run_all w tables (fs ++ b)) (run_all w tables fs) (run_all w tables b)
    (λ t. run_joined w tables fs b t)

-- with k for itself and any j left over, the code goes from the first state to the second, at a price
abbrev pub Goes : Weights → List (List ℕ) → List FStmt → Bytes → Vars → ℕ → Bytes → Vars → Type 0
Goes w tables fs m v t m1 v1 = (k : ℕ) × ((j u : ℕ) → run_all w tables fs (at (k + j) u m v) ≡ Ok (at j (u + t) m1 v1))

pub goes_none : (w : Weights) (tables : List (List ℕ)) (m : Bytes) (v : Vars) → Goes w tables [] m v 0 m v
goes_none w tables m v = (
  0,
  λ j u. let f : 0 + j ≡ j = omega arith in let p : u ≡ u + 0 = omega arith in
      ap (λ n. Ok (at n u m v)) f ∙ ap (λ n. Ok (at j n m v)) p,
)

pub goes_both : (w : Weights) (tables : List (List ℕ)) (a b : List FStmt) (m m1 m2 : Bytes) (v v1 v2 : Vars) (t t1 : ℕ)
    → Goes w tables a m v t m1 v1 → Goes w tables b m1 v1 t1 m2 v2 → Goes w tables (a ++ b) m v (t + t1) m2 v2
goes_both w tables a b m m1 m2 v v1 v2 t t1 g h = (
  g.0 + h.0,
  λ j u.
      let f : g.0 + h.0 + j ≡ g.0 + (h.0 + j) = omega arith in
      let p : u + t + t1 ≡ u + (t + t1) = omega arith in
      ap (λ n. run_all w tables (a ++ b) (at n u m v)) f
      ∙ run_joined w tables a b (at (g.0 + (h.0 + j)) u m v)
      ∙ ap (λ r. and_then r (run_all w tables b)) (g.1 (h.0 + j) u)
      ∙ h.1 j (u + t)
      ∙ ap (λ n. Ok (at j n m2 v2)) p,
)

-- a statement that takes one from the fuel and then does what its rule does
pub goes_inside : (w : Weights) (tables : List (List ℕ)) (s : FStmt) (rule : Rule) (m m1 : Bytes) (v v1 : Vars) (t : ℕ)
    → run w tables s ≡ fuelled rule → (k : ℕ) × ((j u : ℕ) → rule (at (k + j) u m v) ≡ Ok (at j (u + t) m1 v1))
    → Goes w tables (s ∷ []) m v t m1 v1
goes_inside w tables s rule m m1 v v1 t opened goes = (
  suc goes.0,
  λ j u.
      let f : suc goes.0 + j ≡ suc (goes.0 + j) = omega arith in
      ap (λ r. and_then (r (at (suc goes.0 + j) u m v)) (in_turn [])) opened
      ∙ ap (λ n. and_then (take_one n (at (suc goes.0 + j) u m v) rule) (in_turn [])) f
      ∙ ap (λ r. and_then r (in_turn [])) (goes.1 j u),
)

-- one whose rule takes no more
pub goes_one : (w : Weights) (tables : List (List ℕ)) (s : FStmt) (rule : Rule) (m m1 : Bytes) (v v1 : Vars) (t : ℕ)
    → run w tables s ≡ fuelled rule → ((j u : ℕ) → rule (at j u m v) ≡ Ok (at j (u + t) m1 v1))
    → Goes w tables (s ∷ []) m v t m1 v1
goes_one w tables s rule m m1 v v1 t opened goes =
    goes_inside w tables s rule m m1 v v1 t opened
    (0, λ j u. let f : 0 + j ≡ j = omega arith in ap (λ n. rule (at n u m v)) f ∙ goes j u)
