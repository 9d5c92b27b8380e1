-- What a fetch gives, and what each of its answers is due to.
use Rattle.std.specs.Prelude.{◌≡◌, ℕ, ◌<◌, ◌≤◌, List, Option, Some, None, Result, Ok, Err, ⊤, bytes_eq, find, option_map, length}
use Rattle.rup_io.specs.declared.fetch.FetchFault.{FetchFault}
use Rattle.rup_io.specs.declared.fetch.FetchFault.TheVariants.{Failed, TooLong, NoMemory}
use Rattle.rup_io.specs.Count.{Rose}

-- the bytes of the first file with this name
abbrev pub file_of : List (List ℕ × List ℕ) → List ℕ → Option (List ℕ)
file_of files name = option_map (λ pair. pair.1) (find (λ pair. bytes_eq pair.0 name) files)

-- the file with this name has these bytes, where the files are told
abbrev pub Holds : Option (List (List ℕ × List ℕ)) → List ℕ → List ℕ → Type 0
Holds None name bytes = ⊤
Holds (Some files) name bytes = file_of files name ≡ Some bytes

-- a fetch fails only where the count of faults rose, and then keeps the name; otherwise count and last name stay
abbrev pub FetchCause : ℕ → ℕ → Option (List ℕ) → Option (List ℕ) → List ℕ → Result (List ℕ) FetchFault → Type 0
FetchCause before now last last_now name (Ok bytes) = (now ≡ before) × (last_now ≡ last)
FetchCause before now last last_now name (Err Failed) = (before ≤ now) × Rose before now × (last_now ≡ Some name)
FetchCause before now last last_now name (Err TooLong) = (now ≡ before) × (last_now ≡ last)
FetchCause before now last last_now name (Err NoMemory) = (now ≡ before) × (last_now ≡ last)

-- a fetch gives the file where it is within the limit, and is too long where it is longer
abbrev pub FetchGives : Option (List (List ℕ × List ℕ)) → List ℕ → ℕ → Result (List ℕ) FetchFault → Type 0
FetchGives held name limit (Ok bytes) = (length bytes ≤ limit) × Holds held name bytes
FetchGives held name limit (Err Failed) = ⊤
FetchGives held name limit (Err TooLong) = (bytes : List ℕ) × Holds held name bytes × (limit < length bytes)
FetchGives held name limit (Err NoMemory) = ⊤
