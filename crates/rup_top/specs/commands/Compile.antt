-- `compile M LEMMAS*`: what it asks of the files and answers, the file of
-- the derivation that the search finds with the lemmas, and
-- what it promises: that file, of an instance of the model, which `replay` reads back and accepts within its limits.
use Rattle.std.specs.Prelude.{◌≡◌, ℕ, ◌+◌, ◌≤◌, List, [], ◌∷◌, ◌++◌, length, Some, Result, Ok, Err, ⊤, codes}
use Rattle.std.specs.Fmt.{decimal}
use Rattle.std.specs.Io.KnownBytes.{Appends}
use Rattle.rup_base.specs.Answers.{and_then}
use Rattle.rup_base.specs.declared.refusal.Refusal.{Refusal}
use Rattle.rup_base.specs.declared.refusal.Refusal.TheVariants.{OverSlots, OverBound, OverSize}
use Rattle.rup_io.specs.Files.{Holds}
use Rattle.deriv_file.specs.File.{File}
use Rattle.deriv_file.specs.FileText.{text_of}
use Rattle.deriv_tree.specs.declared.tree.Derivation.{Derivation}
use Rattle.deriv_tree.specs.Measure.{depth, size}
use Rattle.derive_search.specs.Derive.{derived}
use Rattle.derive_search.specs.Instance.{IsInstance}
use Rattle.equations.specs.Equations.{turn}
use Rattle.lemma_files.specs.Reading.{read_lemmas}
use Rattle.lemma_files.specs.declared.terms.Lemma.{Lemma}
use Rattle.model_syntax.specs.declared.program.Model.{Model}
use Rattle.replayer.specs.Replayed.{replayed}
use Rattle.rup_top.specs.declared.answer.Answer.{Answer}
use Rattle.rup_top.specs.Answer.{line, done, refused}
use Rattle.rup_top.specs.Frame.{Told, Call, IsUndisturbed, Script, asks, comes_to, exactly, Writes}
use Rattle.rup_top.specs.Inputs.{model_limit, lemma_limit, typed_model}

-- ---- What it answers.

-- the lemmas of the file of this word, behind others
abbrev pub with_file : List Lemma → ℕ → List ℕ → Result (List Lemma) Refusal
with_file done word bytes = and_then (read_lemmas word bytes) (λ more. Ok (done ++ more))

-- the lemmas of files in order, the first of which is that of this word, behind others; or the first refusal
abbrev pub lemmas_of : List Lemma → ℕ → List (List ℕ) → Result (List Lemma) Refusal
lemmas_of done word [] = Ok done
lemmas_of done word (bytes ∷ files) = and_then (with_file done word bytes) (λ all. lemmas_of all (word + 1) files)

-- The derivation that the search finds for the model of these bytes,
-- with the lemmas of these files, the first of which is that of
-- word 2; or the first refusal: the model's, the first one of the files in order, or the search's.
abbrev pub searched : List ℕ → List (List ℕ) → Result Derivation Refusal
searched bytes files = and_then (typed_model bytes) (λ m. and_then (lemmas_of [] 2 files) (λ lemmas. derived lemmas turn m))

-- the number of nodes
abbrev pub compile_line : Derivation → List ℕ
compile_line d = line (codes "compile: nodes " ++ decimal (size d))

abbrev pub compile_answer : Result Derivation Refusal → Answer
compile_answer (Ok d) = done (text_of d) (compile_line d)
compile_answer (Err refusal) = refused refusal

-- the files of lemmas from a word on, after the model's bytes and those of the files before: all are fetched before any is judged
abbrev pub lemmas_script : List ℕ → List (List ℕ) → ℕ → List (List ℕ) → Script
lemmas_script model done place [] = comes_to (λ a. exactly (compile_answer (searched model done)) a)
lemmas_script model done place (word ∷ words) =
    asks place word lemma_limit (λ bytes. lemmas_script model (done ++ bytes ∷ []) (place + 1) words)

abbrev pub compile_script : List ℕ → List (List ℕ) → Script
compile_script model words = asks 1 model model_limit (λ bytes. lemmas_script bytes [] 2 words)

-- ---- What it promises.

-- a refusal of what is too large for an image
abbrev pub IsOver : Refusal → Type 0
IsOver (OverSlots count) = ⊤
IsOver (OverBound node degree coefficient) = ⊤
IsOver (OverSize bytes) = ⊤
IsOver refusal = ⊥

-- accepted, or over the limit of slots, of the bound or of the size
abbrev pub AcceptedOrOver : {A : Type 0} → Result A Refusal → Type 0
AcceptedOrOver (Ok accepted) = ⊤
AcceptedOrOver (Err refusal) = IsOver refusal

-- The derivation is an instance of the model; its file is read back as it
-- unless it is too deep, as it never is without lemmas; and
-- the replayer accepts it up to the limits of slots, of the bound and of the size.
pub record IsCompiled (lemmas : List Lemma) (m : Model) (d : Derivation) : Type 0 where
  pub instance : IsInstance lemmas turn m d
  pub shallow : lemmas ≡ [] → depth d ≤ 1000
  pub reads_back : depth d ≤ 1000 → File (text_of d) d
  pub replays : (most : ℕ) → AcceptedOrOver (replayed turn m d most)

-- the words name these files, each within its limit
abbrev pub HoldsEach : Told → List (List ℕ) → List (List ℕ) → Type 0
HoldsEach held [] [] = ⊤
HoldsEach held (word ∷ words) (bytes ∷ files) = Holds held word bytes
    × ((length bytes ≤ lemma_limit) × HoldsEach held words files)
HoldsEach held words files = ⊥

-- the files are a well typed model and lemmas, within their limits, for which the search finds a derivation
pub record FindsDerivation (held : Told) (model : List ℕ) (words : List (List ℕ)) : Type 0 where
  pub bytes : List ℕ
  pub model_held : Holds held model bytes
  pub model_fits : length bytes ≤ model_limit
  pub files : List (List ℕ)
  pub files_held : HoldsEach held words files
  pub m : Model
  pub model_is : typed_model bytes ≡ Ok m
  pub lemmas : List Lemma
  pub lemmas_are : lemmas_of [] 2 files ≡ Ok lemmas
  pub d : Derivation
  pub found : derived lemmas turn m ≡ Ok d

-- `out` grew by the file of the derivation that the search finds for the files' model and lemmas
pub record WritesDerivation (model : List ℕ) (words : List (List ℕ)) (call : Call) : Type 0 where
  pub finds : FindsDerivation call.files.held model words
  pub out_takes : Appends call.out.taken call.out.taken_now (text_of finds.d)
  pub compiled : IsCompiled finds.lemmas finds.m finds.d

-- status 0 comes with such a file; where the search finds a derivation, its file is written, or memory runs out
pub record CompileKeeps (model : List ℕ) (words : List (List ℕ)) (call : Call) : Type 0 where
  pub writes_only : call.status ≡ 0 → WritesDerivation model words call
  pub writes_all : (held : List (List ℕ × List ℕ)) → call.files.held ≡ Some held
      → (given : FindsDerivation call.files.held model words) → IsUndisturbed call
      → Writes (text_of given.d) call
