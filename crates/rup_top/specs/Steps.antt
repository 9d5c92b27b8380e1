-- What the steps of a command answer. No clause of the top call speaks of these.
use Rattle.std.specs.Prelude.{◌≡◌, ℕ, ◌≤◌, List, length, Result, Ok, Err, ⊤}
use Rattle.rup_base.specs.declared.arg.Arg.{Arg}
use Rattle.rup_base.specs.declared.fail.Fail.{Fail}
use Rattle.rup_base.specs.declared.fail.Fail.TheVariants as fails
use Rattle.rup_base.specs.declared.arg.Kind.{Kind}
use Rattle.rup_io.specs.Files.{Holds}
use Rattle.run_setup.specs.Reading.{ReadsAll}
use Rattle.rup_top.specs.declared.answer.Answer.{Answer}
use Rattle.rup_top.specs.declared.answer.Stop.{Stop}
use Rattle.rup_top.specs.declared.answer.Stop.TheVariants as stop
use Rattle.rup_top.specs.Answer.{refused, read_fault}
use Rattle.rup_top.specs.Frame.{Read, IsStill, Script, comes_to, asks, takes, Answers}
use Rattle.rup_top.specs.commands.Derivations.{Refuses}

-- a fetch gave the bytes of the file, within the limit, and did not fail
pub record Fetched (name : List ℕ) (limit : ℕ) (bytes : List ℕ) (files : Read) : Type 0 where
  pub fits : length bytes ≤ limit
  pub holds : Holds files.held name bytes
  pub still : IsStill files

-- the words are arguments of these kinds, and no fetch failed
pub record Taken (first : ℕ) (kinds : List Kind) (texts : List (List ℕ)) (args : List Arg) (files : Read) : Type 0 where
  pub reads : ReadsAll files.held first kinds texts (Ok args)
  pub still : IsStill files

-- a step that ends the command has an answer with this property, or memory ran out
abbrev pub Stops : Stop → (Answer → Type 0) → Type 0
Stops (stop.Refused refusal) P = P (refused refusal)
Stops (stop.ReadFault place) P = P (read_fault place)
Stops stop.NoMemory P = ⊤

abbrev pub Gives : Result Answer Stop → (Answer → Type 0) → Type 0
Gives (Ok a) P = P a
Gives (Err stop) P = Stops stop P

-- the answer is one of the script, or memory ran out
abbrev pub Follows : Script → Read → Result Answer Stop → Type 0
Follows script files result = Gives result (λ a. Answers script files a)

-- a step ends the command with an answer of the script, or memory ran out
abbrev pub Breaks : Script → Read → Stop → Type 0
Breaks script files stop = Stops stop (λ a. Answers script files a)

-- a fetch whose bytes come to nothing, and arguments that do: what a step answers that gives none
abbrev pub fetch_alone : ℕ → List ℕ → ℕ → Script
fetch_alone place name limit = asks place name limit (λ bytes. comes_to (λ a. ⊥))

abbrev pub arguments_alone : ℕ → List Kind → List (List ℕ) → Script
arguments_alone first kinds texts = takes first kinds texts (λ args a. ⊥)

-- the answer of a command that came to one or ended early
abbrev pub Tells : Result Answer Stop → Answer → Type 0
Tells (Ok given) a = a ≡ given
Tells (Err (stop.Refused refusal)) a = a ≡ refused refusal
Tells (Err (stop.ReadFault place)) a = a ≡ read_fault place
Tells (Err stop.NoMemory) a = ⊥

-- the bytes of a model and a derivation are refused, or memory ran out
abbrev pub EndsOnDerivation : ℕ → List ℕ → List ℕ → Fail → Type 0
EndsOnDerivation size model tree (fails.Refused refusal) = Refuses size model tree refusal
EndsOnDerivation size model tree fails.NoMemory = ⊤
