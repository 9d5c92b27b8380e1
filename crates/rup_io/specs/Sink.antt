-- What a write does to a sink.
use Rattle.std.specs.Prelude.{ℕ, ◌≤◌, List, Option, Result, Ok, Err, OnErr, take}
use Rattle.std.specs.Io.KnownBytes.{Appends}
use Rattle.rup_io.specs.Count.{Rose}

-- the count never falls, and a write fails only where it rose
pub record HasCause {T E : Type 0} (before now : ℕ) (result : Result T E) : Type 0 where
  pub later : before ≤ now
  pub failed : OnErr result (Rose before now)

-- known bytes grow by a prefix of these
abbrev pub AppendsPrefix : Option (List ℕ) → Option (List ℕ) → List ℕ → Type 0
AppendsPrefix old new bytes = (n : ℕ) × Appends old new (take n bytes)

-- known bytes grow by all of these, or by a prefix of them where the write fails
abbrev pub Takes : {T E : Type 0} → Option (List ℕ) → Option (List ℕ) → List ℕ → Result T E → Type 0
Takes old new bytes (Ok _) = Appends old new bytes
Takes old new bytes (Err _) = AppendsPrefix old new bytes
