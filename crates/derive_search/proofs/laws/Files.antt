-- Each lemma that is read of a file and rewrites has a step.
use Rattle.std.proofs.Common.{◌≡◌, refl, sym, ap, subst, ℕ, zero, suc, ◌+◌, Bool, true, false, List, [], ◌∷◌, ◌++◌, take, drop}
use Rattle.std.proofs.Common.{map, length, Result, Ok, Err, is_ok, if◌then◌else◌}
use Rattle.std.proofs.lemmas.Bool.{and_parts}
use Rattle.std.specs.Prelude.{codes}
use Rattle.rup_base.specs.Answers.{and_then}
use Rattle.rup_base.specs.declared.arg.Place.{Place}
use Rattle.rup_base.specs.declared.refusal.Refusal.{Refusal}
use Rattle.model_syntax.specs.Names.{same}
use Rattle.sx_text.specs.declared.tree.Sx.{Sx, Sx-F, map-Sx, roll-Sx, ind-Sx, fold-roll-Sx}
use Rattle.sx_text.specs.declared.tree.Sx.TheOpen as x
use Rattle.sx_text.specs.Forms.{place, read}
use Rattle.model_reader.specs.Parts.{Answer, ◌>>=◌, wrong, nth, each, some}
use Rattle.lemma_files.specs.declared.terms.Lemma.{Lemma}
use Rattle.lemma_files.specs.declared.terms.Lemma.TheVariants.{Rewrite, Note}
use Rattle.lemma_files.specs.Parts.{Part, Kind, end, behind, name, number, fact, pattern}
use Rattle.lemma_files.specs.Lemmas.{most_steps, steps_of, steps, a_shape, rewrite_of, note_of, worded_lemma, list_lemma, lemma}
use Rattle.lemma_files.specs.Lemmas.{file_of, file, whole}
use Rattle.lemma_files.specs.Reading.{part, part_step, not_lemma, lemmas_of_forms, read_lemmas}
use Rattle.derive_search.specs.Derive.{is_full, has_step, have_steps}

-- where something is read, it passes
abbrev Passes : {A : Type 0} → (A → Bool) → Answer A → Type 0
Passes test (Ok a) = test a ≡ true
Passes test (Err at) = Unit {0}

module _ {A B : Type 0} (test : B → Bool) (next : A → Answer B) where
  then_passes : (first : A → Bool) (r : Answer A) → Passes first r → ((a : A) → first a ≡ true → Passes test (next a))
      → Passes test (r >>= next)
  then_passes first (Ok a) is more = more a is
  then_passes first (Err at) is more = tt

  any_passes : (r : Answer A) → ((a : A) → Passes test (next a)) → Passes test (r >>= next)
  any_passes (Ok a) more = more a
  any_passes (Err at) more = tt

if_passes : {A : Type 0} (test : A → Bool) (b : Bool) (r s : Answer A) → Passes test r → Passes test s
    → Passes test (if b then r else s)
if_passes test true r s one two = one
if_passes test false r s one two = two

-- ---- Forms.

record Fine (f : Part) : Type 0 where
  steps : Passes is_full f.steps
  lemma : Passes has_step f.lemma
  file : Passes have_steps f.file

abbrev AllFine : List Part → Type 0
AllFine [] = Unit {0}
AllFine (f ∷ fs) = Fine f × AllFine fs

nth_passes : {A : Type 0} (test : A → Bool) (i : ℕ) (kind : Kind A) (p : Place) (fs : List Part) → AllFine fs
    → ((f : Part) → Fine f → Passes test (kind f)) → Passes test (nth i kind p fs)
nth_passes test i kind p [] fine more = tt
nth_passes test zero kind p (f ∷ fs) fine more = more f fine.0
nth_passes test (suc i) kind p (f ∷ fs) fine more = nth_passes test i kind p fs fine.1 more

some_full : (p : Place) (fs : List Part) → Passes is_full (some number p fs)
some_full p [] = tt
some_full p (f ∷ fs) = any_passes is_full (λ a. each number fs >>= (λ more. Ok (a ∷ more))) (number f)
    (λ a. any_passes is_full (λ more. Ok (a ∷ more)) (each number fs) (λ more. refl))

steps_fine : (p : Place) (fs : List Part) → Passes is_full (steps_of p fs)
steps_fine p fs =
    any_passes is_full (λ numbers. some number p (take most_steps numbers)
    >>= (λ found. end most_steps numbers >>= (λ _. Ok found))) (behind (codes "steps") p fs)
    (λ numbers. then_passes is_full (λ found. end most_steps numbers >>= (λ _. Ok found)) is_full
    (some number p (take most_steps numbers)) (some_full p (take most_steps numbers))
    (λ found is. any_passes is_full (λ _. Ok found) (end most_steps numbers) (λ _. is)))

module _ (p : Place) (fs : List Part) (fine : AllFine fs) where
  rewrite_fine : Passes has_step (rewrite_of p fs)
  rewrite_fine =
      any_passes has_step (λ n. nth 1 pattern p fs
      >>= (λ a. nth 2 steps p fs >>= (λ found. end 3 fs >>= (λ _. Ok (Rewrite n a found))))) (nth 0 name p fs)
      (λ n. any_passes has_step (λ a. nth 2 steps p fs >>= (λ found. end 3 fs >>= (λ _. Ok (Rewrite n a found))))
      (nth 1 pattern p fs)
      (λ a. then_passes has_step (λ found. end 3 fs >>= (λ _. Ok (Rewrite n a found))) is_full (nth 2 steps p fs)
      (nth_passes is_full 2 steps p fs fine (λ f is. is.steps))
      (λ found is. any_passes has_step (λ _. Ok (Rewrite n a found)) (end 3 fs) (λ _. is))))

  note_fine : Passes has_step (note_of p fs)
  note_fine =
      any_passes has_step (λ n. nth 1 a_shape p fs >>= (λ s. some fact p (drop 2 fs) >>= (λ facts. Ok (Note n s facts))))
      (nth 0 name p fs)
      (λ n. any_passes has_step (λ s. some fact p (drop 2 fs) >>= (λ facts. Ok (Note n s facts))) (nth 1 a_shape p fs)
      (λ s. any_passes has_step (λ facts. Ok (Note n s facts)) (some fact p (drop 2 fs)) (λ facts. refl)))

  worded_fine : (w : List ℕ) → Passes has_step (worded_lemma w p fs)
  worded_fine w =
      if_passes has_step (same w (codes "rewrite")) (rewrite_of p fs) (if same w (codes "note") then note_of p fs else wrong p)
      rewrite_fine
      (if_passes has_step (same w (codes "note")) (note_of p fs) (wrong p) note_fine tt)

  each_fine : Passes have_steps (each lemma fs)
  each_fine = go fs fine where
    go : (gs : List Part) → AllFine gs → Passes have_steps (each lemma gs)
    go [] all = refl
    go (f ∷ gs) all =
        then_passes have_steps (λ a. each lemma gs >>= (λ more. Ok (a ∷ more))) has_step (lemma f) all.0.lemma
        (λ a is. then_passes have_steps (λ more. Ok (a ∷ more)) have_steps (each lemma gs) (go gs all.1)
        (λ more rest. rw (is, rest) refl))

lemma_fine : (p : Place) (fs : List Part) → AllFine fs → Passes has_step (list_lemma p fs)
lemma_fine p [] fine = tt
lemma_fine p (f ∷ fs) fine = worded_fine p fs fine.1 f.model.text

file_fine : (p : Place) (fs : List Part) → AllFine fs → Passes have_steps (file_of p fs)
file_fine p [] fine = tt
file_fine p (f ∷ fs) fine = by (same f.model.text (codes "lemmas")) where
  by : (b : Bool) → Passes have_steps ((if b then Ok fs else wrong p) >>= each lemma)
  by true = each_fine p fs fine.1
  by false = tt

list_fine : (p : Place) (fs : List Part) → AllFine fs → Fine (part_step (x.Kids p fs))
list_fine p fs fine = record { steps = steps_fine p fs; lemma = lemma_fine p fs fine; file = file_fine p fs fine }

-- ---- Texts.

abbrev Holds : Sx → Type 0
Holds form = Fine (part form)

abbrev Proved : Type 0
Proved = (form : Sx) × Holds form

abbrev forms_of : List Proved → List Sx
forms_of ks = map (λ (k : Proved). k.0) ks

all_fine : (ks : List Proved) → AllFine (map part (forms_of ks))
all_fine [] = tt
all_fine (k ∷ ks) = (k.1, all_fine ks)

layer : (y : Sx-F Proved) → Holds (roll-Sx (map-Sx Proved Sx (λ k. k.0) y))
layer (x.Atom p t) = subst Fine (sym (fold-roll-Sx Part part_step (x.Atom p t))) (record { steps = tt; lemma = tt; file = tt })
layer (x.Kids p ks) = subst Fine (sym (fold-roll-Sx Part part_step (x.Kids p (forms_of ks))))
    (list_fine p (map part (forms_of ks)) (all_fine ks))

fine : (form : Sx) → Fine (part form)
fine = ind-Sx Holds (λ z y is. subst (λ form. Holds (roll-Sx form)) is (layer y))

parts_fine : (forms : List Sx) → AllFine (map part forms)
parts_fine [] = tt
parts_fine (form ∷ forms) = (fine form, parts_fine forms)

whole_fine : (p : Place) (forms : List Sx) → Passes have_steps (whole p (map part forms))
whole_fine p forms =
    then_passes have_steps (λ lemmas. end 1 (map part forms) >>= (λ _. Ok lemmas)) have_steps (nth 0 file p (map part forms))
    (nth_passes have_steps 0 file p (map part forms) (parts_fine forms) (λ f is. is.file))
    (λ lemmas is. any_passes have_steps (λ _. Ok lemmas) (end 1 (map part forms)) (λ _. is))

abbrev or_these : List Lemma → Result (List Lemma) Refusal → List Lemma
or_these ls (Ok found) = found
or_these ls (Err refusal) = ls

pub lemmas_have_steps : (word : ℕ) (bytes : List ℕ) (ls : List Lemma) → read_lemmas word bytes ≡ Ok ls → have_steps ls ≡ true
lemmas_have_steps word bytes ls is = by (read word bytes) is where
  last : (a : Answer (List Lemma)) → Passes have_steps a → not_lemma word a ≡ Ok ls → have_steps ls ≡ true
  last (Ok found) passes found_is = subst (λ (l : List Lemma). have_steps l ≡ true) (ap (or_these ls) found_is) passes
  last (Err at) passes found_is = absurd (let bad : false ≡ true = ap is_ok found_is in cc)

  by : (r : Result (List Sx) Refusal) → and_then r (λ forms. not_lemma word (lemmas_of_forms (length bytes) forms)) ≡ Ok ls
      → have_steps ls ≡ true
  by (Ok forms) found_is = last (lemmas_of_forms (length bytes) forms) (whole_fine (place 0 (length bytes + 1)) forms) found_is
  by (Err refusal) found_is = absurd (let bad : false ≡ true = ap is_ok found_is in cc)

pub more_have_steps : (ls more : List Lemma) → have_steps ls ≡ true → have_steps more ≡ true → have_steps (ls ++ more) ≡ true
more_have_steps [] more one two = two
more_have_steps (l ∷ ls) more one two = let p = and_parts (has_step l) (have_steps ls) one in
    rw (p.0, more_have_steps ls more p.1 two) refl
