-- How the words of a command line are read as arguments, over files that may be told or not.
use Rattle.std.specs.Prelude.{◌≡◌, ◌≢◌, ◌⊎◌, ℕ, ◌+◌, ◌-◌, ◌<◌, ◌≤◌, List, [], ◌∷◌, length, take, Option, Some, None, Result, Ok}
use Rattle.std.specs.Prelude.{Err, slice_get, nat_eq, if◌then◌else◌, ⊤}
use Rattle.rup_base.specs.declared.arg.Kind.{Kind}
use Rattle.rup_base.specs.declared.arg.Arg.{Arg}
use Rattle.rup_base.specs.declared.refusal.ArgFault.{ArgFault}
use Rattle.rup_base.specs.declared.refusal.ArgFault.TheVariants.{Count, Param}
use Rattle.rup_base.specs.declared.refusal.Refusal.{Refusal}
use Rattle.rup_base.specs.declared.refusal.Refusal.TheVariants.{BadArguments, TooLong}
use Rattle.rup_io.specs.Count.{Rose}
use Rattle.rup_io.specs.Files.{Holds}
use Rattle.run_setup.specs.declared.reading.ArgsFail.{ArgsFail}
use Rattle.run_setup.specs.declared.reading.ArgsFail.TheVariants.{Refused, ReadFault, NoMemory}
use Rattle.run_setup.specs.declared.arguments.Source.{Source}
use Rattle.run_setup.specs.declared.arguments.Source.TheVariants.{ByItself, ByFile}
use Rattle.run_setup.specs.Arguments.{source_of, array_of, array_limit}

abbrev pub refused : ArgFault → ArgsFail
refused which = Refused (BadArguments which)

-- the files by name, where they are told
abbrev pub Files : Type 0
Files = Option (List (List ℕ × List ℕ))

-- a file of this name, where files are told, has so many bytes at most, and gives this for the parameter
abbrev pub FileGives : Files → Kind → List ℕ → Option Arg → Type 0
FileGives held kind text given = (bytes : List ℕ) × Holds held text bytes × (length bytes ≤ array_limit)
    × (array_of kind bytes ≡ given)

abbrev pub FileIsTooLong : Files → List ℕ → Type 0
FileIsTooLong held text = (bytes : List ℕ) × Holds held text bytes × (array_limit < length bytes)

-- the word gives the argument
abbrev pub GivesFrom : Files → Kind → List ℕ → Source → Arg → Type 0
GivesFrom held kind text (ByItself given) a = given ≡ Some a
GivesFrom held kind text ByFile a = FileGives held kind text (Some a)

abbrev pub Gives : Files → Kind → List ℕ → Arg → Type 0
Gives held kind text a = GivesFrom held kind text (source_of kind text) a

-- the word at a place, for parameter k, is refused
abbrev pub RefusesFrom : Files → ℕ → ℕ → Kind → List ℕ → Source → Refusal → Type 0
RefusesFrom held place k kind text (ByItself given) refusal = (given ≡ None) × (refusal ≡ BadArguments (Param k))
RefusesFrom held place k kind text ByFile refusal =
    (FileGives held kind text None × (refusal ≡ BadArguments (Param k)))
    ⊎ (FileIsTooLong held text × (refusal ≡ TooLong place array_limit))

-- What reading one word answers. A read fault can come only where the word names a file.
abbrev pub ReadsFrom : Files → ℕ → ℕ → Kind → List ℕ → Source → Result Arg ArgsFail → Type 0
ReadsFrom held place k kind text source (Ok a) = GivesFrom held kind text source a
ReadsFrom held place k kind text source (Err (Refused refusal)) = RefusesFrom held place k kind text source refusal
ReadsFrom held place k kind text source (Err (ReadFault at)) = (at ≡ place) × (source ≡ ByFile)
ReadsFrom held place k kind text source (Err NoMemory) = ⊤

abbrev pub ReadsOne : Files → ℕ → ℕ → Kind → List ℕ → Result Arg ArgsFail → Type 0
ReadsOne held place k kind text result = ReadsFrom held place k kind text (source_of kind text) result

-- each word gives its parameter's argument
abbrev pub AllGive : Files → List Kind → List (List ℕ) → List Arg → Type 0
AllGive held [] [] [] = ⊤
AllGive held (kind ∷ kinds) (text ∷ texts) (a ∷ args) = Gives held kind text a × AllGive held kinds texts args
AllGive held kinds texts args = ⊥

-- the words before number k give arguments, and word k, at place first + k, answers this
pub record ComesTo (held : Files) (first : ℕ) (kinds : List Kind) (texts : List (List ℕ)) (k : ℕ) (answer : Result Arg ArgsFail) :
    Type 0 where
  pub args : List Arg
  pub kind : Kind
  pub text : List ℕ
  pub before : AllGive held (take k kinds) (take k texts) args
  pub kind_is : slice_get kinds k ≡ Some kind
  pub text_is : slice_get texts k ≡ Some text
  pub here : ReadsOne held (first + k) k kind text answer

-- what reading as many words as there are parameters answers: all arguments, or the first fault
abbrev pub ReadsEach : Files → ℕ → List Kind → List (List ℕ) → Result (List Arg) ArgsFail → Type 0
ReadsEach held first kinds texts (Ok args) = AllGive held kinds texts args
ReadsEach held first kinds texts (Err (Refused refusal)) = (k : ℕ) × ComesTo held first kinds texts k (Err (Refused refusal))
ReadsEach held first kinds texts (Err (ReadFault at)) = (k : ℕ) × ComesTo held first kinds texts k (Err (ReadFault at))
ReadsEach held first kinds texts (Err NoMemory) = ⊤

-- there are not as many words as parameters
abbrev pub Miscounted : List Kind → List (List ℕ) → Refusal → Type 0
Miscounted kinds texts refusal = (length texts ≢ length kinds) × (refusal ≡ BadArguments Count)

-- what reading the words from the first place on answers; their count is judged before each of them
abbrev pub ReadsAll : Files → ℕ → List Kind → List (List ℕ) → Result (List Arg) ArgsFail → Type 0
ReadsAll held first kinds texts (Ok args) = AllGive held kinds texts args
ReadsAll held first kinds texts (Err (Refused refusal)) =
    Miscounted kinds texts refusal
    ⊎ ((length texts ≡ length kinds) × ((k : ℕ) × ComesTo held first kinds texts k (Err (Refused refusal))))
ReadsAll held first kinds texts (Err (ReadFault at)) =
    (length texts ≡ length kinds) × ((k : ℕ) × ComesTo held first kinds texts k (Err (ReadFault at)))
ReadsAll held first kinds texts (Err NoMemory) = ⊤

-- the name of a word at its place: of one word, and of words from a first place on
abbrev pub only : ℕ → List ℕ → ℕ → Option (List ℕ)
only place text at = if nat_eq at place then Some text else None

abbrev pub name_from : ℕ → List (List ℕ) → ℕ → Option (List ℕ)
name_from first texts at = slice_get texts (at - first)

-- a read fault comes only where the count of faults rose, and the last name is that of the word at its place; every
-- other answer leaves both as they were
abbrev pub HasCause : {A : Type 0} → ℕ → ℕ → Option (List ℕ) → Option (List ℕ) → (ℕ → Option (List ℕ)) → Result A ArgsFail
    → Type 0
HasCause before now last last_now name (Ok a) = (now ≡ before) × (last_now ≡ last)
HasCause before now last last_now name (Err (Refused refusal)) = (now ≡ before) × (last_now ≡ last)
HasCause before now last last_now name (Err (ReadFault at)) = (before ≤ now) × Rose before now × (last_now ≡ name at)
HasCause before now last last_now name (Err NoMemory) = (now ≡ before) × (last_now ≡ last)
