-- The rules of expressions.
use Rattle.std.specs.Prelude.{ℕ, nat_le, Bool, true, false, List, Ok, Some, None, if◌then◌else◌}
use Rattle.rup_base.specs.Name.{is_name}
use Rattle.rup_base.specs.declared.arg.Place.{Place}
use Rattle.model_syntax.specs.declared.expr.Scalar.{Scalar}
use Rattle.model_syntax.specs.declared.expr.Scalar.TheVariants as scalar
use Rattle.model_syntax.specs.declared.expr.Expr.{Expr}
use Rattle.model_syntax.specs.declared.expr.Expr.TheVariants as e
use Rattle.model_reader.specs.declared.words.ExprWord.{ExprWord}
use Rattle.model_reader.specs.declared.words.ExprWord.TheVariants as word
use Rattle.rup_base.specs.Number as numbers
use Rattle.model_reader.specs.Words.{expr_word, scalar_of}
use Rattle.model_reader.specs.Parts.{Answer, Kind, Rule, ◌>>=◌, wrong, nth, end, headed, some, name, number, known}

abbrev pub expr : Kind Expr
expr f = f.expr

-- byte or word, before a table
abbrev pub table_scalar : Kind Scalar
table_scalar f = known f.at (scalar_of f.text)

-- an entry of a byte table is at most 255
abbrev pub fits : Scalar → ℕ → Bool
fits scalar.Word n = true
fits scalar.Byte n = nat_le n 255
fits scalar.Flag n = false

abbrev pub entry : Scalar → Kind ℕ
entry t f = do
  n ← number f
  if fits t n then Ok n else wrong f.at

-- (N+)
abbrev pub entries_of : Scalar → Rule (List ℕ)
entries_of t = some (entry t)

abbrev pub entries : Scalar → Kind (List ℕ)
entries t f = f.entries t

-- an operand
abbrev pub one_of : Rule Expr
one_of p fs = do
  a ← nth 0 expr p fs
  _ ← end 1 fs
  Ok a

-- two operands
abbrev pub two_of : Rule (Expr × Expr)
two_of p fs = do
  a ← nth 0 expr p fs
  b ← nth 1 expr p fs
  _ ← end 2 fs
  Ok (a, b)

-- (len a)
abbrev pub length_of : Rule Expr
length_of p fs = do
  a ← nth 0 name p fs
  _ ← end 1 fs
  Ok (e.Length a)

-- (get a e)
abbrev pub get_of : Rule Expr
get_of p fs = do
  a ← nth 0 name p fs
  i ← nth 1 expr p fs
  _ ← end 2 fs
  Ok (e.Get a i)

-- (tab byte (N+) e), (tab word (N+) e)
abbrev pub tab_of : Rule Expr
tab_of p fs = do
  t ← nth 0 table_scalar p fs
  ns ← nth 1 (entries t) p fs
  i ← nth 2 expr p fs
  _ ← end 3 fs
  Ok (e.Tab t ns i)

-- what stands behind the word that begins the list
abbrev pub worded_expr : ExprWord → Rule Expr
worded_expr (word.Bin op) p fs = two_of p fs >>= λ ab. Ok (e.Bin op ab.0 ab.1)
worded_expr (word.Test cmp) p fs = two_of p fs >>= λ ab. Ok (e.Test cmp ab.0 ab.1)
worded_expr word.Length p fs = length_of p fs
worded_expr word.Not p fs = one_of p fs >>= λ a. Ok (e.Not a)
worded_expr word.Both p fs = two_of p fs >>= λ ab. Ok (e.Both ab.0 ab.1)
worded_expr word.Either p fs = two_of p fs >>= λ ab. Ok (e.Either ab.0 ab.1)
worded_expr word.ToWord p fs = one_of p fs >>= λ a. Ok (e.ToWord a)
worded_expr word.ToByte p fs = one_of p fs >>= λ a. Ok (e.ToByte a)
worded_expr word.Get p fs = get_of p fs
worded_expr word.Tab p fs = tab_of p fs

abbrev pub list_expr : Rule Expr
list_expr p fs = do
  h ← headed p fs
  word ← known p (expr_word h.0)
  worded_expr word p h.1

-- a number or a name
abbrev pub atom_expr : Place → List ℕ → Answer Expr
atom_expr p t = elim (numbers.number t) [
  | Some n ↦ Ok (e.Lit n)
  | None ↦ if is_name t then Ok (e.Var t) else wrong p
]
