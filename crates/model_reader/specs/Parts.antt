-- What a form is read as, and the parts of a list. Each rule of the grammar is a list of parts in the order
-- of the text, so the first part that is refused is the first form that is not of its kind.
use Rattle.std.specs.Prelude.{ℕ, zero, suc, ◌-◌, List, [], ◌∷◌, Result, Ok, Err, Option, Some, None, if◌then◌else◌}
use Rattle.rup_base.specs.Name.{name_of}
use Rattle.rup_base.specs.declared.arg.Place.{Place}
use Rattle.model_syntax.specs.Names.{same, Name}
use Rattle.model_syntax.specs.declared.expr.Scalar.{Scalar}
use Rattle.model_syntax.specs.declared.expr.Expr.{Expr}
use Rattle.model_syntax.specs.declared.stmt.Lin.{Lin}
use Rattle.model_syntax.specs.declared.stmt.Le.{Le}
use Rattle.model_syntax.specs.declared.stmt.Stmt.{Stmt}
use Rattle.model_syntax.specs.declared.program.Param.{Param}
use Rattle.model_syntax.specs.declared.program.Ret.{Ret}
use Rattle.model_syntax.specs.declared.program.Model.{Model}
use Rattle.rup_base.specs.Number as numbers

-- what forms are read as, or the offset of the first form that is not of the kind that its place asks for
abbrev pub Answer : Type 0 → Type 0
Answer A = Result A ℕ

-- a form as each kind of the grammar
pub record Reading : Type 0 where
  -- where it stands
  pub at : Place
  -- the bytes of an atom, none of a list
  pub text : List ℕ
  -- e
  pub expr : Answer Expr
  -- (N+), of a type
  pub entries : Scalar → Answer (List ℕ)
  -- L
  pub side : Answer Lin
  -- C
  pub fact : Answer Le
  -- (keep C*)
  pub keep : Answer (List Le)
  -- (NAME*)
  pub names : Answer (List Name)
  -- (NAME)
  pub element : Answer Name
  -- S
  pub stmt : Answer Stmt
  -- (do S*)
  pub block : Answer (List Stmt)
  -- a parameter's type, of a name
  pub sort : Name → Answer Param
  -- P
  pub param : Answer Param
  -- (params P*)
  pub params : Answer (List Param)
  -- (require C*)
  pub requires_ : Answer (List Le)
  -- R
  pub ret : Answer Ret
  -- (ret R*)
  pub rets : Answer (List Ret)
  -- MODEL
  pub model : Answer Model

abbrev pub Kind : Type 0 → Type 0
Kind A = Reading → Answer A

-- the forms of a list that stands at a place; its first one has number 0
abbrev pub Rule : Type 0 → Type 0
Rule A = Place → List Reading → Answer A

infixl 10 ◌>>=◌
abbrev pub ◌>>=◌ : {A B : Type 0} → Answer A → (A → Answer B) → Answer B
Ok a >>= next = next a
Err at >>= next = Err at

-- the form at a place is not of the kind that is expected there
abbrev pub wrong : {A : Type 0} → Place → Answer A
wrong p = Err p.start

-- a form is missing in the list at a place: at its closing parenthesis
abbrev pub missing : {A : Type 0} → Place → Answer A
missing p = Err (p.end - 1)

-- the form with a number; the forms of a list may be those of lemma files too
abbrev pub form : {F : Type 0} → ℕ → Place → List F → Answer F
form i p [] = missing p
form zero p (f ∷ fs) = Ok f
form (suc i) p (f ∷ fs) = form i p fs

-- the form with a number, as a kind
abbrev pub nth : {F A : Type 0} → ℕ → (F → Answer A) → Place → List F → Answer A
nth i kind p fs = form i p fs >>= kind

-- no form with this number
abbrev pub end : ℕ → List Reading → Answer (Unit {0})
end i [] = Ok tt
end zero (f ∷ fs) = wrong f.at
end (suc i) (f ∷ fs) = end i fs

-- a value, where no form with this number is left
abbrev pub finished : {A : Type 0} → A → ℕ → List Reading → Answer A
finished a i fs = end i fs >>= λ _. Ok a

-- each form, as one kind
abbrev pub each : {F A : Type 0} → (F → Answer A) → List F → Answer (List A)
each kind [] = Ok []
each kind (f ∷ fs) = do
  a ← kind f
  more ← each kind fs
  Ok (a ∷ more)

-- the bytes of a list's first form, none where it is a list, and the forms behind it
abbrev pub headed : Rule (List ℕ × List Reading)
headed p [] = wrong p
headed p (head ∷ fs) = Ok (head.text, fs)

-- the forms behind a word that begins a list
abbrev pub behind : List ℕ → Rule (List Reading)
behind word p fs = do
  h ← headed p fs
  if same h.0 word then Ok h.1 else wrong p

-- one form of a kind, and no more
abbrev pub alone : {A : Type 0} → Kind A → Rule A
alone kind p fs = do
  a ← nth 0 kind p fs
  _ ← end 1 fs
  Ok a

-- at least one form, each of one kind
abbrev pub some : {F A : Type 0} → (F → Answer A) → Place → List F → Answer (List A)
some kind p [] = missing p
some kind p (f ∷ fs) = each kind (f ∷ fs)

-- what is there, else the form is wrong
abbrev pub known : {A : Type 0} → Place → Option A → Answer A
known p None = wrong p
known p (Some a) = Ok a

-- NAME
abbrev pub name : Kind Name
name f = known f.at (name_of f.text)

-- number
abbrev pub number : Kind ℕ
number f = known f.at (numbers.number f.text)

-- a word of the grammar
abbrev pub word : List ℕ → Kind (Unit {0})
word w f = if same f.text w then Ok tt else wrong f.at
