-- Which plans serve a code: of no two variables that are needed at once does one overwrite the other.
use Rattle.std.specs.Prelude.{◌≡◌, ℕ, suc, ◌<◌, Bool, true, false, ◌&&◌, ◌||◌, nat_eq, nat_lt, nat_le, List, map, length, Some}
use Rattle.std.specs.Prelude.{slice_get}
use Rattle.std.specs.List.{AllByRecursion}
use Rattle.rup_base.specs.Gather.{all_true}
use Rattle.flat_lang.specs.declared.flat.Flat.{Flat}
use Rattle.flat_lang.specs.Paths.{Step, some_takes, flat_steps, LiveAtStart}
use Rattle.reg_alloc.specs.declared.plan.At.{At}
use Rattle.reg_alloc.specs.declared.plan.At.TheVariants.{Reg, Slot}
use Rattle.reg_alloc.specs.declared.plan.Plan.{Plan}

-- s0 and s1, s2 to s11, t3 to t6; a slot is one of as many as there are variables
abbrev pub is_place : ℕ → At → Bool
is_place vars (Reg r) = (nat_eq r 8 || nat_eq r 9) || (nat_le 18 r && nat_le r 31)
is_place vars (Slot n) = nat_lt n vars

-- the two have one place
abbrev pub Share : List At → ℕ → ℕ → Type 0
Share places u v = (at : At) × ((slice_get places u ≡ Some at) × (slice_get places v ≡ Some at))

-- the statement writes no variable whose place is that of another, live after it
abbrev pub Clear : List At → Step → Type 0
Clear places step = (x v : ℕ) → step.writes ≡ Some x → some_takes v step.after false ≡ true → (v ≡ x → ⊥) → Share places v x → ⊥

-- Said of the paths with at most n + 1 turns of each loop, for every n; each path is one of these.
pub record PlanOk (flat : Flat) (plan : Plan) : Type 0 where
  pub one_each : length plan.places ≡ flat.vars
  pub places : all_true (map (is_place flat.vars) plan.places) ≡ true
  pub writes : (n : ℕ) → AllByRecursion (Clear plan.places) (flat_steps (suc n) flat)
  pub arguments : (u v : ℕ) → u < flat.args → v < flat.args → LiveAtStart flat u → LiveAtStart flat v → (u ≡ v → ⊥)
      → Share plan.places u v → ⊥
