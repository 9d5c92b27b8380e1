-- Files in memory, of which each answer is known.
use Rattle.std.specs.Prelude.{◌≡◌, ℕ, Bool, true, false, List, Option, Some, None, Result, Ok, Err, ⊤, if◌then◌else◌, nat_le}
use Rattle.std.specs.Prelude.{length}
use Rattle.rup_io.specs.declared.fetch.FetchFault.{FetchFault}
use Rattle.rup_io.specs.declared.fetch.FetchFault.TheVariants.{Failed, TooLong, NoMemory}
use Rattle.rup_io.specs.Count.{raised, is_to_fail}
use Rattle.rup_io.specs.Files.{file_of}

-- the files by name, the numbers of the calls that are to fail, how many
-- calls came, how many failed, and the last name that failed
pub record MemoryFiles : Type 0 where
  pub files : List (List ℕ × List ℕ)
  pub fails : List ℕ
  pub calls : ℕ
  pub faults : ℕ
  pub last : Option (List ℕ)

-- what a call answers for the file that is there, where it is to fail or not
abbrev pub answer_of : Bool → Option (List ℕ) → ℕ → Result (List ℕ) FetchFault
answer_of true file limit = Err Failed
answer_of false None limit = Err Failed
answer_of false (Some bytes) limit = if nat_le (length bytes) limit then Ok bytes else Err TooLong

-- what a fetch answers with ample memory
abbrev pub fetched : MemoryFiles → List ℕ → ℕ → Result (List ℕ) FetchFault
fetched m name limit = answer_of (is_to_fail m.fails m.calls) (file_of m.files name) limit

-- the answer is this one, unless memory ran out
abbrev pub IsAnswer : Result (List ℕ) FetchFault → Result (List ℕ) FetchFault → Type 0
IsAnswer (Ok bytes) wanted = wanted ≡ Ok bytes
IsAnswer (Err Failed) wanted = wanted ≡ Err Failed
IsAnswer (Err TooLong) wanted = wanted ≡ Err TooLong
IsAnswer (Err NoMemory) wanted = ⊤

-- the files after a fetch of this name with this answer
abbrev pub after_fetch : MemoryFiles → List ℕ → Result (List ℕ) FetchFault → MemoryFiles
after_fetch m name (Ok bytes) = record m { calls = raised m.calls }
after_fetch m name (Err Failed) = record m { calls = raised m.calls; faults = raised m.faults; last = Some name }
after_fetch m name (Err TooLong) = record m { calls = raised m.calls }
after_fetch m name (Err NoMemory) = record m { calls = raised m.calls }
