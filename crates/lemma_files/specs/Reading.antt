-- What each form is read as, and what each text is.
use Rattle.std.specs.Prelude.{◌≡◌, ℕ, ◌+◌, List, map, length, Result, Ok, Err}
use Rattle.rup_base.specs.declared.arg.Place.{Place}
use Rattle.rup_base.specs.Answers.{and_then}
use Rattle.rup_base.specs.declared.refusal.Refusal.{Refusal}
use Rattle.rup_base.specs.declared.refusal.Refusal.TheVariants.{NotLemma}
use Rattle.sx_text.specs.declared.tree.Sx.{Sx, Sx-F, fold-Sx}
use Rattle.sx_text.specs.declared.tree.Sx.TheOpen as x
use Rattle.sx_text.specs.Forms.{place, read}
use Rattle.model_reader.specs.Parts.{Answer, Reading, wrong}
use Rattle.model_reader.specs.Reading.{atom_reading, list_reading}
use Rattle.lemma_files.specs.declared.terms.Lemma.{Lemma}
use Rattle.lemma_files.specs.Parts.{Part}
use Rattle.lemma_files.specs.Patterns.{atom_pattern, list_pattern}
use Rattle.lemma_files.specs.Lemmas.{steps_of, list_shape, list_lemma, file_of, whole}

abbrev pub atom_part : Place → List ℕ → Part
atom_part p t = record {
  model = atom_reading p t;
  pattern = atom_pattern p t;
  steps = wrong p;
  shape = wrong p;
  lemma = wrong p;
  file = wrong p;
}

-- the forms as parts of a model
abbrev pub models : List Part → List Reading
models fs = map (λ (f : Part). f.model) fs

abbrev pub list_part : Place → List Part → Part
list_part p fs = record {
  model = list_reading p (models fs);
  pattern = list_pattern p fs;
  steps = steps_of p fs;
  shape = list_shape p fs;
  lemma = list_lemma p fs;
  file = file_of p fs;
}

abbrev pub part_step : Sx-F Part → Part
part_step (x.Atom p t) = atom_part p t
part_step (x.Kids p fs) = list_part p fs

abbrev pub part : Sx → Part
part = fold-Sx Part part_step

-- the forms of a text as lemmas; on the outermost level a form is missing at the text's end
abbrev pub lemmas_of_forms : ℕ → List Sx → Answer (List Lemma)
lemmas_of_forms size forms = whole (place 0 (size + 1)) (map part forms)

-- the bytes are a text of these lemmas; their forms do not depend on the word, here 0, that names their file
abbrev pub Reads : List ℕ → List Lemma → Type 0
Reads bytes ls = (forms : List Sx) × (read 0 bytes ≡ Ok forms) × (lemmas_of_forms (length bytes) forms ≡ Ok ls)

-- what the forms of a lemma file are read as; its grammar is refused as no lemma
abbrev pub not_lemma : {A : Type 0} → ℕ → Answer A → Result A Refusal
not_lemma word (Ok a) = Ok a
not_lemma word (Err at) = Err (NotLemma word at)

-- the lemmas of a file's bytes: first the text, then the grammar
abbrev pub read_lemmas : ℕ → List ℕ → Result (List Lemma) Refusal
read_lemmas word bytes = and_then (read word bytes) (λ forms. not_lemma word (lemmas_of_forms (length bytes) forms))
