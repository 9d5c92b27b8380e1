-- The rules of lemmas and of their files.
use Rattle.std.specs.Prelude.{ℕ, List, take, drop, Ok, codes, if◌then◌else◌}
use Rattle.model_syntax.specs.Names.{same, Name}
use Rattle.model_reader.specs.Parts.{◌>>=◌, wrong, nth, each, some}
use Rattle.lemma_files.specs.declared.terms.Shape.{Shape}
use Rattle.lemma_files.specs.declared.terms.Shape.TheVariants as shape
use Rattle.lemma_files.specs.declared.terms.Lemma.{Lemma}
use Rattle.lemma_files.specs.declared.terms.Lemma.TheVariants.{Rewrite, Note}
use Rattle.lemma_files.specs.Parts.{Kind, Rule, end, headed, behind, name, number, fact, pattern}

-- the greatest number of steps
abbrev pub most_steps : ℕ
most_steps = 8

-- (steps number+)
abbrev pub steps_of : Rule (List ℕ)
steps_of p fs = do
  numbers ← behind (codes "steps") p fs
  found ← some number p (take most_steps numbers)
  _ ← end most_steps numbers
  Ok found

abbrev pub steps : Kind (List ℕ)
steps f = f.steps

-- the one name of a shape
abbrev pub one_name : Rule Name
one_name p fs = do
  x ← nth 0 name p fs
  _ ← end 1 fs
  Ok x

-- what stands behind the word that begins the list
abbrev pub worded_shape : List ℕ → Rule Shape
worded_shape w p fs =
    if same w (codes "let") then (one_name p fs >>= λ x. Ok (shape.Let x))
    else (if same w (codes "put") then (one_name p fs >>= λ x. Ok (shape.Put x))
    else (if same w (codes "move") then (one_name p fs >>= λ x. Ok (shape.Move x))
    else (if same w (codes "map") then (one_name p fs >>= λ x. Ok (shape.Map x))
    else (if same w (codes "fold") then (one_name p fs >>= λ x. Ok (shape.Fold x))
    else (if same w (codes "for") then (one_name p fs >>= λ x. Ok (shape.For x))
    else (if same w (codes "if") then (end 0 fs >>= λ _. Ok shape.If)
    else wrong p))))))

-- (let x), (put a), (move a), (map a), (fold s), (for x), (if)
abbrev pub list_shape : Rule Shape
list_shape p fs = headed p fs >>= λ h. worded_shape h.0 p h.1

abbrev pub a_shape : Kind Shape
a_shape f = f.shape

-- (rewrite NAME PATTERN (steps number+))
abbrev pub rewrite_of : Rule Lemma
rewrite_of p fs = do
  x ← nth 0 name p fs
  a ← nth 1 pattern p fs
  found ← nth 2 steps p fs
  _ ← end 3 fs
  Ok (Rewrite x a found)

-- (note NAME SHAPE C+)
abbrev pub note_of : Rule Lemma
note_of p fs = do
  x ← nth 0 name p fs
  s ← nth 1 a_shape p fs
  facts ← some fact p (drop 2 fs)
  Ok (Note x s facts)

-- what stands behind the word that begins the list
abbrev pub worded_lemma : List ℕ → Rule Lemma
worded_lemma w p fs =
    if same w (codes "rewrite") then rewrite_of p fs
    else (if same w (codes "note") then note_of p fs
    else wrong p)

abbrev pub list_lemma : Rule Lemma
list_lemma p fs = headed p fs >>= λ h. worded_lemma h.0 p h.1

abbrev pub lemma : Kind Lemma
lemma f = f.lemma

-- (lemmas LEMMA*)
abbrev pub file_of : Rule (List Lemma)
file_of p fs = behind (codes "lemmas") p fs >>= each lemma

abbrev pub file : Kind (List Lemma)
file f = f.file

-- a text is one file
abbrev pub whole : Rule (List Lemma)
whole p fs = do
  lemmas ← nth 0 file p fs
  _ ← end 1 fs
  Ok lemmas
