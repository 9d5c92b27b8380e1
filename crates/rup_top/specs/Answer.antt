-- Answers: a status, the bytes for `out`, and the line for `notes`. A text that is empty is not written.
use Rattle.std.specs.Prelude.{ℕ, List, [], ◌∷◌, ◌++◌, codes}
use Rattle.std.specs.Fmt.{decimal}
use Rattle.rup_base.specs.RefusalLine.{line_of}
use Rattle.rup_base.specs.declared.refusal.Refusal.{Refusal}
use Rattle.rup_base.specs.declared.refusal.Refusal.TheVariants.{Stuck}
use Rattle.rup_top.specs.declared.answer.Answer.{Answer}

-- a text and a line feed, which is 10
abbrev pub line : List ℕ → List ℕ
line text = text ++ 10 ∷ []

-- done: what is written, and the note
abbrev pub done : List ℕ → List ℕ → Answer
done out note = record { status = 0; out = out; note = note }

-- a search that is stuck has a status of its own
abbrev pub status_of : Refusal → ℕ
status_of (Stuck stmt goal) = 6
status_of refusal = 1

abbrev pub refused : Refusal → Answer
refused refusal = record { status = status_of refusal; out = []; note = line_of refusal }

abbrev pub usage_line : List ℕ
usage_line = line (codes "usage: rup compile M LEMMAS* / replay M D [size=N] / code M D / run IMAGE ARG* / eval M ARG* / show IMAGE / bench SEED COUNT")

abbrev pub usage_answer : Answer
usage_answer = record { status = 2; out = []; note = usage_line }

-- the file of the word at this place could not be read
abbrev pub read_fault : ℕ → Answer
read_fault place = record { status = 3; out = []; note = line (codes "read fault at word " ++ decimal place) }

-- a run that trapped or had no steps left
abbrev pub unfinished : List ℕ → Answer
unfinished text = record { status = 7; out = []; note = line text }
