-- Locals: by number, the value of each that was set.
use Rattle.std.specs.Prelude.{ℕ, List, length, nat_lt, Option, Some, None, slice_get, slice_set, if◌then◌else◌}

abbrev pub Vars : Type 0
Vars = List (Option ℕ)

abbrev pub value_of : Option (Option ℕ) → Option ℕ
value_of None = None
value_of (Some v) = v

-- the value of a local; none where it was not set
abbrev pub local_at : Vars → ℕ → Option ℕ
local_at vars x = value_of (slice_get vars x)

-- the locals with one set; none where it is not below their number
abbrev pub assigned : ℕ → ℕ → Vars → Option Vars
assigned x v vars = if nat_lt x (length vars) then Some (slice_set vars x (Some v)) else None
