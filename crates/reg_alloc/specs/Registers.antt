-- The places in the order in which they are taken, and the plan in which each variable has a place of its own.
use Rattle.std.specs.Prelude.{◌≡◌, ℕ, zero, suc, ◌+◌, ◌-◌, min, nat_lt, List, [], ◌∷◌, ◌++◌, Option, Some, None, slice_get}
use Rattle.std.specs.Prelude.{if◌then◌else◌}
use Rattle.reg_alloc.specs.declared.plan.At.{At}
use Rattle.reg_alloc.specs.declared.plan.At.TheVariants.{Reg, Slot}
use Rattle.reg_alloc.specs.declared.plan.Plan.{Plan}

-- the sixteen registers: first t3 to t6, which are 28 to 31 and need not be kept for the caller, then s2 to s11, which are 18
-- to 27, and s0 and s1, which are 8 and 9; the slots follow
abbrev pub own_place : ℕ → At
own_place v = if nat_lt v 4 then Reg (28 + v)
    else (if nat_lt v 14 then Reg (14 + v) else (if nat_lt v 16 then Reg (v - 6) else Slot (v - 16)))

abbrev pub own_places : ℕ → List At
own_places zero = []
own_places (suc n) = own_places n ++ own_place n ∷ []

-- the place of a colour, where no more colours are used than there are variables
abbrev pub place_in : ℕ → Option ℕ → At
place_in vars None = own_place 0
place_in vars (Some colour) = own_place (min colour (vars - 1))

abbrev pub HasNoSlot : Plan → Type 0
HasNoSlot plan = (i n : ℕ) → slice_get plan.places i ≡ Some (Slot n) → ⊥
