-- The rules of patterns: those of expressions, and holes.
use Rattle.std.specs.Prelude.{ℕ, nat_eq, List, [], ◌∷◌, Ok, Option, Some, None, if◌then◌else◌}
use Rattle.model_syntax.specs.Names.{Name}
use Rattle.rup_base.specs.Name.{name_of}
use Rattle.rup_base.specs.declared.arg.Place.{Place}
use Rattle.model_syntax.specs.declared.expr.Scalar.{Scalar}
use Rattle.rup_base.specs.Number as numbers
use Rattle.model_reader.specs.Parts.{Answer, ◌>>=◌, known, nth}
use Rattle.model_reader.specs.Expressions as model
use Rattle.lemma_files.specs.declared.words.Word.{Word}
use Rattle.lemma_files.specs.declared.words.Word.TheVariants as word
use Rattle.lemma_files.specs.declared.terms.Pattern.{Pattern}
use Rattle.lemma_files.specs.declared.terms.Pattern.TheVariants as p
use Rattle.lemma_files.specs.Words.{word_of}
use Rattle.lemma_files.specs.Parts.{Kind, Rule, end, headed, name, pattern}

-- byte or word, before a table
abbrev pub scalar : Kind Scalar
scalar f = model.table_scalar f.model

-- (N+), of a type
abbrev pub entries : Scalar → Kind (List ℕ)
entries t f = model.entries t f.model

-- an operand
abbrev pub one_of : Rule Pattern
one_of at fs = do
  a ← nth 0 pattern at fs
  _ ← end 1 fs
  Ok a

-- two operands
abbrev pub two_of : Rule (Pattern × Pattern)
two_of at fs = do
  a ← nth 0 pattern at fs
  b ← nth 1 pattern at fs
  _ ← end 2 fs
  Ok (a, b)

-- (len a)
abbrev pub length_of : Rule Pattern
length_of at fs = do
  a ← nth 0 name at fs
  _ ← end 1 fs
  Ok (p.Length a)

-- (get a PATTERN)
abbrev pub get_of : Rule Pattern
get_of at fs = do
  a ← nth 0 name at fs
  i ← nth 1 pattern at fs
  _ ← end 2 fs
  Ok (p.Get a i)

-- (tab byte (N+) PATTERN), (tab word (N+) PATTERN)
abbrev pub tab_of : Rule Pattern
tab_of at fs = do
  t ← nth 0 scalar at fs
  ns ← nth 1 (entries t) at fs
  i ← nth 2 pattern at fs
  _ ← end 3 fs
  Ok (p.Tab t ns i)

-- what stands behind the word that begins the list
abbrev pub worded_pattern : Word → Rule Pattern
worded_pattern (word.Bin op) at fs = two_of at fs >>= λ ab. Ok (p.Bin op ab.0 ab.1)
worded_pattern (word.Test cmp) at fs = two_of at fs >>= λ ab. Ok (p.Test cmp ab.0 ab.1)
worded_pattern word.Length at fs = length_of at fs
worded_pattern word.Not at fs = one_of at fs >>= λ a. Ok (p.Not a)
worded_pattern word.Both at fs = two_of at fs >>= λ ab. Ok (p.Both ab.0 ab.1)
worded_pattern word.Either at fs = two_of at fs >>= λ ab. Ok (p.Either ab.0 ab.1)
worded_pattern word.ToWord at fs = one_of at fs >>= λ a. Ok (p.ToWord a)
worded_pattern word.ToByte at fs = one_of at fs >>= λ a. Ok (p.ToByte a)
worded_pattern word.Get at fs = get_of at fs
worded_pattern word.Tab at fs = tab_of at fs

abbrev pub list_pattern : Rule Pattern
list_pattern at fs = do
  h ← headed at fs
  word ← known at (word_of h.0)
  worded_pattern word at h.1

-- the name behind a `?`, which is 63
abbrev pub hole_of : List ℕ → Option Name
hole_of [] = None
hole_of (b ∷ t) = if nat_eq b 63 then name_of t else None

-- `?` and a name
abbrev pub hole : Place → List ℕ → Answer Pattern
hole at t = known at (hole_of t) >>= λ x. Ok (p.Hole x)

-- a number, a name or a hole
abbrev pub atom_pattern : Place → List ℕ → Answer Pattern
atom_pattern at t = elim (numbers.number t) [
  | Some n ↦ Ok (p.Lit n)
  | None ↦ elim (name_of t) [ Some x ↦ Ok (p.Var x) | None ↦ hole at t ]
]
