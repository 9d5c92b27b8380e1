-- What a form of a lemma file is read as, and the parts of a list, as in models: each rule of the grammar is a list of
-- its parts in the order of the text, and the first part that is refused is the first form that is not of its kind.
use Rattle.std.specs.Prelude.{ℕ, zero, suc, List, [], ◌∷◌, Ok, if◌then◌else◌}
use Rattle.rup_base.specs.declared.arg.Place.{Place}
use Rattle.model_syntax.specs.Names.{same, Name}
use Rattle.model_syntax.specs.declared.stmt.Le.{Le}
use Rattle.model_reader.specs.Parts as model
use Rattle.model_reader.specs.Parts.{Answer, Reading, ◌>>=◌, wrong, missing}
use Rattle.lemma_files.specs.declared.terms.Pattern.{Pattern}
use Rattle.lemma_files.specs.declared.terms.Shape.{Shape}
use Rattle.lemma_files.specs.declared.terms.Lemma.{Lemma}

-- a form as each kind of the grammar
pub record Part : Type 0 where
  -- a part of a model
  pub model : Reading
  -- PATTERN
  pub pattern : Answer Pattern
  -- (steps number+)
  pub steps : Answer (List ℕ)
  -- SHAPE
  pub shape : Answer Shape
  -- LEMMA
  pub lemma : Answer Lemma
  -- FILE
  pub file : Answer (List Lemma)

abbrev pub Kind : Type 0 → Type 0
Kind A = Part → Answer A

-- the forms of a list that stands at a place; its first one has number 0
abbrev pub Rule : Type 0 → Type 0
Rule A = Place → List Part → Answer A

-- no form with this number
abbrev pub end : ℕ → List Part → Answer (Unit {0})
end i [] = Ok tt
end zero (f ∷ fs) = wrong f.model.at
end (suc i) (f ∷ fs) = end i fs

-- the bytes of a list's first form, none where it is a list, and the forms behind it
abbrev pub headed : Rule (List ℕ × List Part)
headed p [] = wrong p
headed p (head ∷ fs) = Ok (head.model.text, fs)

-- the forms behind a word that begins a list
abbrev pub behind : List ℕ → Rule (List Part)
behind word p fs = do
  h ← headed p fs
  if same h.0 word then Ok h.1 else wrong p

-- NAME
abbrev pub name : Kind Name
name f = model.name f.model

-- number
abbrev pub number : Kind ℕ
number f = model.number f.model

-- C
abbrev pub fact : Kind Le
fact f = f.model.fact

abbrev pub pattern : Kind Pattern
pattern f = f.pattern
