-- The frame of the top call, which knows no command: what a command asks of the files and comes to, how its answer is
-- delivered, and how a call ends.
use Rattle.std.specs.Prelude.{◌≡◌, ℕ, ◌-◌, ◌<◌, ◌≤◌, List, ◌++◌, length, take, Option, Some, Ok, Err, ◌⊎◌, slice_get}
use Rattle.std.specs.Io.KnownBytes.{Appends, Keeps}
use Rattle.rup_base.specs.declared.arg.Arg.{Arg}
use Rattle.rup_base.specs.declared.arg.Kind.{Kind}
use Rattle.rup_base.specs.declared.refusal.Refusal.{Refusal}
use Rattle.rup_base.specs.declared.refusal.Refusal.TheVariants.{TooLong}
use Rattle.rup_io.specs.Count.{Rose}
use Rattle.rup_io.specs.Files.{Holds}
use Rattle.rup_io.specs.Sink.{AppendsPrefix}
use Rattle.run_setup.specs.declared.reading.ArgsFail.TheVariants.{Refused, ReadFault}
use Rattle.run_setup.specs.Reading.{ReadsAll}
use Rattle.rup_top.specs.declared.answer.Answer.{Answer}
use Rattle.rup_top.specs.Answer.{refused, read_fault}

-- ---- A call.

-- the files by name, where they are told
abbrev pub Told : Type 0
Told = Option (List (List ℕ × List ℕ))

-- files before and after: what they hold, their count of faults, and the name of the last fetch that failed
pub record Read : Type 0 where
  pub held : Told
  pub before : ℕ
  pub now : ℕ
  pub last : Option (List ℕ)
  pub last_now : Option (List ℕ)

-- a sink before and after: its count of faults, and the bytes that it took, where they are told
pub record Sunk : Type 0 where
  pub before : ℕ
  pub now : ℕ
  pub taken : Option (List ℕ)
  pub taken_now : Option (List ℕ)

-- a call: its files, its two sinks, and its status
pub record Call : Type 0 where
  pub files : Read
  pub out : Sunk
  pub notes : Sunk
  pub status : ℕ

-- files of a type with these meanings, before and after
abbrev pub read_between : {F : Type 0} → (F → Told) → (F → ℕ) → (F → Option (List ℕ)) → F → F → Read
read_between held count last old new =
    record { held = held old; before = count old; now = count new; last = last old; last_now = last new }

-- a sink of a type with these meanings, before and after
abbrev pub sunk_between : {S : Type 0} → (S → ℕ) → (S → Option (List ℕ)) → S → S → Sunk
sunk_between count taken old new = record { before = count old; now = count new; taken = taken old; taken_now = taken new }

abbrev pub call_with : Read → Sunk → Sunk → ℕ → Call
call_with files out notes status = record { files = files; out = out; notes = notes; status = status }

-- no fetch failed: the count of faults stands still, and so does the last name
pub record IsStill (files : Read) : Type 0 where
  pub same_count : files.now ≡ files.before
  pub same_last : files.last_now ≡ files.last

-- no count rose in the call
pub record IsUndisturbed (call : Call) : Type 0 where
  pub files_same : Rose call.files.before call.files.now → ⊥
  pub out_same : Rose call.out.before call.out.now → ⊥
  pub notes_same : Rose call.notes.before call.notes.now → ⊥

-- ---- What a command asks of the files and comes to.

-- which answers a command may give in the end; each command hands in its own
abbrev pub Verdict : Type 1
Verdict = Answer → Type 0

abbrev pub exactly : Answer → Answer → Type 0
exactly wanted a = a ≡ wanted

-- A verdict; or the place of a word, the file's name, its limit, and what follows from the bytes; or the place of the first
-- of the words that name arguments, the kinds of parameters, these words, and the verdict on their arguments.
pub data Script : Type 1 where
  comes_to : Verdict → Script
  asks : ℕ → List ℕ → ℕ → (List ℕ → Script) → Script
  takes : ℕ → List Kind → List (List ℕ) → (List Arg → Verdict) → Script

-- The outcome: a file over its limit is refused, and else the script goes on with its bytes; a file that is absent
-- never gives bytes. Arguments are read in order, and the first that is refused ends the script.
abbrev pub Comes : Told → Script → Answer → Type 0
Comes held (comes_to verdict) a = verdict a
Comes held (asks place name limit next) a =
    (bytes : List ℕ) × Holds held name bytes
    × (((length bytes ≤ limit) × Comes held (next bytes) a) ⊎ ((limit < length bytes) × (a ≡ refused (TooLong place limit))))
Comes held (takes first kinds texts verdict) a =
    ((args : List Arg) × ReadsAll held first kinds texts (Ok args) × verdict args a)
    ⊎ ((refusal : Refusal) × ReadsAll held first kinds texts (Err (Refused refusal)) × (a ≡ refused refusal))

-- The words whose files are fetched, as long as each fetch gives its bytes and no refusal comes before; where the files
-- are not told, any bytes may come.
abbrev pub Reaches : Told → Script → ℕ → List ℕ → Type 0
Reaches held (comes_to verdict) place word = ⊥
Reaches held (asks at name limit next) place word =
    ((place ≡ at) × (word ≡ name))
    ⊎ ((bytes : List ℕ) × Holds held name bytes × (length bytes ≤ limit) × Reaches held (next bytes) place word)
Reaches held (takes first kinds texts verdict) place word =
    ReadsAll held first kinds texts (Err (ReadFault place)) × (slice_get texts (place - first) ≡ Some word)

-- the outcome of a call in which no fetch failed
pub record Came (script : Script) (files : Read) (a : Answer) : Type 0 where
  pub comes : Comes files.held script a
  pub still : IsStill files

-- a fetch that the script reaches has failed in this call
pub record Faulted (script : Script) (files : Read) : Type 0 where
  pub place : ℕ
  pub word : List ℕ
  pub reached : Reaches files.held script place word
  pub rose : Rose files.before files.now
  pub named : files.last_now ≡ Some word

-- the answer is the outcome, or that of a fetch that failed
abbrev pub Answers : Script → Read → Answer → Type 0
Answers script files a = Came script files a ⊎ ((faulted : Faulted script files) × (a ≡ read_fault faulted.place))

-- ---- How an answer is delivered.

-- all of it
pub record Whole (a : Answer) (out notes : Sunk) (status : ℕ) : Type 0 where
  pub status_is : status ≡ a.status
  pub out_takes : Appends out.taken out.taken_now a.out
  pub notes_take : Appends notes.taken notes.taken_now a.note

-- the write to `out` failed, and nothing further was written
pub record CutOut (a : Answer) (out notes : Sunk) (status : ℕ) : Type 0 where
  pub status_is : status ≡ 4
  pub rose : Rose out.before out.now
  pub out_takes : AppendsPrefix out.taken out.taken_now a.out
  pub notes_keep : Keeps notes.taken notes.taken_now

-- the write to `notes` failed
pub record CutNotes (a : Answer) (out notes : Sunk) (status : ℕ) : Type 0 where
  pub status_is : status ≡ 4
  pub rose : Rose notes.before notes.now
  pub out_takes : Appends out.taken out.taken_now a.out
  pub notes_take : AppendsPrefix notes.taken notes.taken_now a.note

abbrev pub Delivers : Answer → Sunk → Sunk → ℕ → Type 0
Delivers a out notes status = Whole a out notes status ⊎ (CutOut a out notes status ⊎ CutNotes a out notes status)

-- ---- How a call ends.

-- memory ran out before the first write
pub record OutOfMemory (call : Call) : Type 0 where
  pub status_is : call.status ≡ 5
  pub out_same : call.out.taken_now ≡ call.out.taken
  pub notes_same : call.notes.taken_now ≡ call.notes.taken

-- an answer of the script was delivered, whole or in part
pub record Answered (script : Script) (call : Call) : Type 0 where
  pub answer : Answer
  pub answers : Answers script call.files answer
  pub delivers : Delivers answer call.out call.notes call.status

-- how every call ends; of files and sinks that are not told it says what can be said
abbrev pub Ends : Script → Call → Type 0
Ends script call = OutOfMemory call ⊎ Answered script call

-- ---- The four ways, where files and sinks are told; the sinks had taken o and n before.

-- the outcome
pub record AsOutcome (script : Script) (call : Call) (o n : List ℕ) : Type 0 where
  pub answer : Answer
  pub came : Came script call.files answer
  pub status_is : call.status ≡ answer.status
  pub out_is : call.out.taken_now ≡ Some (o ++ answer.out)
  pub notes_are : call.notes.taken_now ≡ Some (n ++ answer.note)

-- a fetch failed
pub record AsReadFault (script : Script) (call : Call) (o n : List ℕ) : Type 0 where
  pub status_is : call.status ≡ 3
  pub faulted : Faulted script call.files
  pub out_is : call.out.taken_now ≡ Some o
  pub notes_are : call.notes.taken_now ≡ Some (n ++ (read_fault faulted.place).note)

-- a write failed: a prefix of the outcome was written, or a prefix of a read fault's line
pub record OutCut (script : Script) (call : Call) (o n : List ℕ) : Type 0 where
  pub rose : Rose call.out.before call.out.now
  pub answer : Answer
  pub came : Came script call.files answer
  pub taken : ℕ
  pub out_is : call.out.taken_now ≡ Some (o ++ take taken answer.out)
  pub notes_are : call.notes.taken_now ≡ Some n

pub record NotesCut (script : Script) (call : Call) (o n : List ℕ) : Type 0 where
  pub rose : Rose call.notes.before call.notes.now
  pub answer : Answer
  pub came : Came script call.files answer
  pub taken : ℕ
  pub out_is : call.out.taken_now ≡ Some (o ++ answer.out)
  pub notes_are : call.notes.taken_now ≡ Some (n ++ take taken answer.note)

pub record FaultCut (script : Script) (call : Call) (o n : List ℕ) : Type 0 where
  pub rose : Rose call.out.before call.out.now ⊎ Rose call.notes.before call.notes.now
  pub faulted : Faulted script call.files
  pub taken : ℕ
  pub out_is : call.out.taken_now ≡ Some o
  pub notes_are : call.notes.taken_now ≡ Some (n ++ take taken (read_fault faulted.place).note)

abbrev pub AsWriteFault : Script → Call → List ℕ → List ℕ → Type 0
AsWriteFault script call o n = (call.status ≡ 4)
    × (OutCut script call o n ⊎ (NotesCut script call o n ⊎ FaultCut script call o n))

-- want of memory, with both sinks as they were
pub record AsNoMemory (call : Call) (o n : List ℕ) : Type 0 where
  pub status_is : call.status ≡ 5
  pub out_is : call.out.taken_now ≡ Some o
  pub notes_are : call.notes.taken_now ≡ Some n

abbrev pub FourWays : Script → Call → List ℕ → List ℕ → Type 0
FourWays script call o n = AsOutcome script call o n
    ⊎ (AsReadFault script call o n ⊎ (AsWriteFault script call o n ⊎ AsNoMemory call o n))

-- where files and sinks are told, a call ends in one of four ways
abbrev pub IsTold : Script → Call → Type 0
IsTold script call =
    (held : List (List ℕ × List ℕ)) (o n : List ℕ) → call.files.held ≡ Some held → call.out.taken ≡ Some o
    → call.notes.taken ≡ Some n → FourWays script call o n

-- ---- What promises of commands say.

-- status 0, and `out` took exactly these bytes; or memory ran out
abbrev pub Writes : List ℕ → Call → Type 0
Writes bytes call = ((call.status ≡ 0) × Appends call.out.taken call.out.taken_now bytes) ⊎ (call.status ≡ 5)
