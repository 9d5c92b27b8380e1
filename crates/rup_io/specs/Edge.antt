-- What the trusted edge keeps of itself, and how it reads and writes where the bytes of a file or a writer are known.
use Rattle.std.specs.Prelude.{◌≡◌, ℕ, ◌≤◌, List, Option, Some, Result, Ok, Err, ⊤, ◌+◌, length}
use Rattle.std.specs.Io.KnownBytes.{Consumes, IsAtEnd}
use Rattle.rup_io.specs.declared.fetch.FetchFault.{FetchFault}
use Rattle.rup_io.specs.declared.fetch.FetchFault.TheVariants.{Failed, TooLong, NoMemory}
use Rattle.rup_io.specs.Count.{raised}

-- how many fetches failed, and the last name that failed
pub record Failures : Type 0 where
  pub faults : ℕ
  pub last : Option (List ℕ)

-- the failures after a fetch of this name with this answer
abbrev pub after_fetch : Failures → List ℕ → Result (List ℕ) FetchFault → Failures
after_fetch m name (Ok bytes) = m
after_fetch m name (Err Failed) = record { faults = raised m.faults; last = Some name }
after_fetch m name (Err TooLong) = m
after_fetch m name (Err NoMemory) = m

-- all bytes of a reader were read, within the limit; or just one more than the limit of them, where it is too long
abbrev pub ReadsWithin : Option (List ℕ) → Option (List ℕ) → ℕ → Result (List ℕ) FetchFault → Type 0
ReadsWithin known left limit (Ok bytes) = (length bytes ≤ limit) × Consumes known left bytes × IsAtEnd left
ReadsWithin known left limit (Err Failed) = ⊤
ReadsWithin known left limit (Err TooLong) = (bytes : List ℕ) × Consumes known left bytes × (length bytes ≡ limit + 1)
ReadsWithin known left limit (Err NoMemory) = ⊤
