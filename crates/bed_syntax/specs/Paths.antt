-- The paths through a command, each as what it reads and sets in order. A loop is passed in so many turns or fewer.
use Rattle.std.specs.Prelude.{◌≡◌, ℕ, zero, suc, Bool, false, ◌||◌, ◌&&◌, not, nat_eq, List, [], ◌∷◌, ◌++◌, map}
use Rattle.bed_syntax.specs.Pressure.{early}
use Rattle.bed_syntax.specs.declared.expression.BExpr.{BExpr, BExpr-F, fold-BExpr}
use Rattle.bed_syntax.specs.declared.expression.BExpr.TheOpen as e
use Rattle.bed_syntax.specs.declared.command.Cmd.{Cmd, Cmd-F, fold-Cmd}
use Rattle.bed_syntax.specs.declared.command.Cmd.TheOpen as c

-- a local is read, or set
pub data Event : Type 0 where
  Reads : ℕ → Event
  Sets : ℕ → Event

abbrev pub Path : Type 0
Path = List Event

-- what an expression reads, from left to right
abbrev pub read_by_step : BExpr-F Path → Path
read_by_step (e.Lit n) = []
read_by_step (e.Var x) = Reads x ∷ []
read_by_step (e.Bin op a b) = a ++ b
read_by_step (e.Load size a) = a
read_by_step (e.Table size bytes i) = i

abbrev pub read_by : BExpr → Path
read_by = fold-BExpr Path read_by_step

-- each of the first paths with each of the second behind it
abbrev pub followed : List Path → List Path → List Path
followed [] qs = []
followed (a ∷ ps) qs = map (λ b. a ++ b) qs ++ followed ps qs

abbrev pub all_followed : List (List Path) → List Path
all_followed [] = [] ∷ []
all_followed (ps ∷ rest) = followed ps (all_followed rest)

-- a test, and then no more or a body and the loop again
abbrev pub turns : ℕ → List Path → List Path → List Path
turns zero test body = test
turns (suc n) test body = followed test ([] ∷ followed body (turns n test body))

abbrev pub paths_step : ℕ → Cmd-F (List Path) → List Path
paths_step n (c.Set y e) = (read_by e ++ Sets y ∷ []) ∷ []
paths_step n (c.Store size a e) = (read_by a ++ read_by e) ∷ []
paths_step n (c.Cond e p q) = followed (read_by e ∷ []) (p ++ q)
paths_step n (c.Seq cs) = all_followed cs
paths_step n (c.While e p) = turns n (read_by e ∷ []) p

abbrev pub paths : ℕ → Cmd → List Path
paths n = fold-Cmd (List Path) (paths_step n)

-- a path reads a local before it sets it; `later` is what holds where it does neither
abbrev pub reads_first : ℕ → Path → Bool → Bool
reads_first x [] later = later
reads_first x (Reads y ∷ path) later = nat_eq y x || reads_first x path later
reads_first x (Sets y ∷ path) later = not (nat_eq y x) && reads_first x path later

abbrev pub some_first : ℕ → List Path → Bool → Bool
some_first x [] later = false
some_first x (path ∷ paths) later = reads_first x path later || some_first x paths later

-- what is read early is what some path reads first, whatever the number of turns from one on
abbrev pub EarlyIsSomePath : Type 0
EarlyIsSomePath = (n : ℕ) (a : Cmd) (x : ℕ) (later : Bool) → some_first x (paths (suc n) a) later ≡ early a x later
