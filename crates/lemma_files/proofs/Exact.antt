-- The reader's definition and the relation between texts and lemmas.
use Rattle.std.proofs.Common.{◌≡◌, subst, refl, ap, ℕ, List, length, Option, Some, None, Ok, IfOk, Result, Err}
use Rattle.rup_base.specs.Answers.{Answers, and_then}
use Rattle.rup_base.specs.declared.fail.Fail.{Fail}
use Rattle.rup_base.specs.declared.refusal.Refusal.{Refusal}
use Rattle.rup_base.specs.declared.refusal.TextWhy.{TextWhy}
use Rattle.sx_text.specs.declared.tree.Sx.{Sx}
use Rattle.sx_text.specs.Forms.{read, judged, fault, rest_of}
use Rattle.model_reader.specs.Parts.{Answer}
use Rattle.lemma_files.specs.declared.terms.Lemma.{Lemma}
use Rattle.lemma_files.specs.Reading.{Reads, read_lemmas, lemmas_of_forms, not_lemma}

-- an answer that goes on to a value is a value that goes on to it
first_part : {A B : Type 0} (a : Result A Refusal) (next : A → Result B Refusal) (b : B) → and_then a next ≡ Ok b
    → (x : A) × (a ≡ Ok x) × (next x ≡ Ok b)
first_part (Ok x) next b h = (x, refl, h)
first_part (Err r) next b h = absurd cc

abbrev answer_of : List Lemma → Answer (List Lemma)
answer_of ls = Ok ls

lemmas_of : (word : ℕ) (a : Answer (List Lemma)) (ls : List Lemma) → not_lemma word a ≡ Ok ls → a ≡ Ok ls
lemmas_of word (Ok ks) ls h = let same : ks ≡ ls = cc in ap answer_of same
lemmas_of word (Err at) ls h = absurd cc

-- the forms of a text do not depend on the word that names its file
any_word : (v w : ℕ) (f : Option (ℕ × TextWhy)) (found forms : List Sx) → judged v f found ≡ Ok forms
    → judged w f found ≡ Ok forms
any_word v w None found forms h = h
any_word v w (Some fault) found forms h = absurd cc

same_forms : (v w : ℕ) (bytes : List ℕ) (forms : List Sx) → read v bytes ≡ Ok forms → read w bytes ≡ Ok forms
same_forms v w bytes forms h = any_word v w (fault 0 0 0 bytes) (rest_of 0 0 bytes).0 forms h

-- a file that is read, and its lemmas
read_parts : (word : ℕ) (bytes : List ℕ) (ls : List Lemma) → read_lemmas word bytes ≡ Ok ls → Reads bytes ls
read_parts word bytes ls h =
    let (forms, r, rest) =
    first_part (read word bytes) (λ forms. not_lemma word (lemmas_of_forms (length bytes) forms)) ls h in
    (forms, same_forms word 0 bytes forms r, lemmas_of word (lemmas_of_forms (length bytes) forms) ls rest)

composed : (word : ℕ) (bytes : List ℕ) (ls : List Lemma) (forms : List Sx) → read word bytes ≡ Ok forms
    → lemmas_of_forms (length bytes) forms ≡ Ok ls → read_lemmas word bytes ≡ Ok ls
composed word bytes ls forms r s = rw (r, s) refl

is_read : (word : ℕ) (bytes : List ℕ) (ls : List Lemma) → Reads bytes ls → read_lemmas word bytes ≡ Ok ls
is_read word bytes ls (forms, r, s) = composed word bytes ls forms (same_forms 0 word bytes forms r) s

-- what a call answers that answers as the definition does
pub answered_only : (word : ℕ) (bytes : List ℕ) (r : Result (List Lemma) Fail) → Answers r (read_lemmas word bytes)
    → IfOk r (λ ls. Reads bytes ls)
answered_only word bytes (Ok ls) h = read_parts word bytes ls h
answered_only word bytes (Err e) h = tt

pub answered_all : (word : ℕ) (bytes : List ℕ) (r : Result (List Lemma) Fail) (ls : List Lemma) → Reads bytes ls
    → Answers r (read_lemmas word bytes) → Answers r (Ok ls)
answered_all word bytes r ls reads h =
    let P : Result (List Lemma) Refusal → Type 0 = λ a. Answers r a in
    subst P (is_read word bytes ls reads) h
