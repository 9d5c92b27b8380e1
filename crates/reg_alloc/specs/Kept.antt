-- The code over places does what the code over variables does.
use Rattle.std.specs.Prelude.{◌≡◌, ℕ, ◌+◌, List, Option, Some, None, Ok, slice_get}
use Rattle.std.specs.FinMap.{get}
use Rattle.rv_memory.specs.Ranges.{Bytes}
use Rattle.bed_syntax.specs.declared.weights.Weights.{Weights}
use Rattle.flat_lang.specs.declared.flat.FStmt.{FStmt}
use Rattle.flat_lang.specs.declared.flat.Flat.{Flat}
use Rattle.flat_lang.specs.State.{State, Vars}
use Rattle.flat_lang.specs.Meaning.{run_all}
use Rattle.flat_lang.specs.Paths.{LiveAtStart}
use Rattle.flat_lang.specs.Renamed.{code_renamed}
use Rattle.reg_alloc.specs.declared.plan.At.{At}
use Rattle.reg_alloc.specs.declared.plan.At.TheVariants.{Reg, Slot}
use Rattle.reg_alloc.specs.declared.plan.Plan.{Plan}
use Rattle.reg_alloc.specs.PlanOk.{PlanOk}

-- a place as a number: a register's own is below 32, and the slots follow
abbrev pub number : At → ℕ
number (Reg r) = r
number (Slot n) = 32 + n

-- past the last variable nothing has a place; the number there is that of no place
abbrev pub numbered : ℕ → Option At → ℕ
numbered x None = 32 + x
numbered x (Some at) = number at

abbrev pub place_number : Plan → ℕ → ℕ
place_number plan x = numbered x (slice_get plan.places x)

-- the code over places: each variable is the number of its place
abbrev pub placed : Flat → Plan → List FStmt
placed flat plan = code_renamed (place_number plan) flat.body

abbrev pub state : ℕ → ℕ → Bytes → Vars → State
state fuel ticks mem vars = record { fuel = fuel; ticks = ticks; mem = mem; vars = vars }

-- what is set and live at the start is in its place
abbrev pub Starts : Flat → Plan → Vars → Vars → Type 0
Starts flat plan vars places = (x n : ℕ) → LiveAtStart flat x → get vars x ≡ Some n → get places (place_number plan x) ≡ Some n

-- The same fuel is left, at the same ticks, with the same memory, and each result that is set is in its place.
pub record Ends (w : Weights) (flat : Flat) (plan : Plan) (s : State) (places : Vars) (t : State) : Type 0 where
  pub places_after : Vars
  pub runs : run_all w flat.tables (placed flat plan) (state s.fuel s.ticks s.mem places)
      ≡ Ok (state t.fuel t.ticks t.mem places_after)
  pub results : (i r n : ℕ) → slice_get flat.rets i ≡ Some r → get t.vars r ≡ Some n → get places_after (place_number plan r)
      ≡ Some n

abbrev pub PlacesKeep : Type 0
PlacesKeep = (flat : Flat) (plan : Plan) → PlanOk flat plan → (w : Weights) (s t : State) (places : Vars)
    → Starts flat plan s.vars places
    → run_all w flat.tables flat.body s ≡ Ok t → Ends w flat plan s places t
