-- What a form is read as is formed, and its tables are those that the text of models can spell: the parts of a list.
use Rattle.std.proofs.Common.{◌≡◌, refl, ℕ, zero, suc, Bool, true, false, List, [], ◌∷◌, map, Some, None, if◌then◌else◌}
use Rattle.rup_base.specs.Name.{is_name, name_of}
use Rattle.rup_base.specs.Gather.{all_true}
use Rattle.rup_base.specs.declared.arg.Place.{Place}
use Rattle.model_syntax.specs.Names.{same, Name}
use Rattle.model_syntax.specs.Formed.{numbers_formed, expr_formed, side_formed, fact_formed, facts_formed, names_formed}
use Rattle.model_syntax.specs.Formed.{stmt_formed, param_formed, ret_formed, model_formed}
use Rattle.model_syntax.specs.Spelling.{Spellable, expr_spellable, stmt_spellable, is_table}
use Rattle.model_syntax.specs.declared.expr.Scalar.{Scalar}
use Rattle.model_syntax.specs.declared.expr.Expr.{Expr}
use Rattle.model_syntax.specs.declared.stmt.Lin.{Lin}
use Rattle.model_syntax.specs.declared.stmt.Le.{Le}
use Rattle.model_syntax.specs.declared.stmt.Stmt.{Stmt}
use Rattle.model_syntax.specs.declared.program.Param.{Param}
use Rattle.model_syntax.specs.declared.program.Ret.{Ret}
use Rattle.model_syntax.specs.declared.program.Model.{Model}
use Rattle.model_reader.specs.Parts as parts
use Rattle.model_reader.specs.Parts.{Answer, Reading, Kind, ◌>>=◌, known, form, nth, end, each, headed, behind}
use Rattle.model_reader.specs.Expressions as exprs
use Rattle.model_reader.specs.Facts as facts
use Rattle.model_reader.specs.Statements as stmts
use Rattle.model_reader.specs.Models as models
use Rattle.model_reader.proofs.Gives.{Gives, given, refused, any, ◌⊳◌, tested, weaker, All, all_pass}
use Rattle.model_reader.proofs.WordNumbers.{IsWord, known_number}

abbrev pub IsName : Name → Type 0
IsName x = is_name x ≡ true

abbrev pub AreNames : List Name → Type 0
AreNames xs = names_formed xs ≡ true

abbrev pub IsTable : Scalar → List ℕ → Type 0
IsTable t ns = (is_table t ns ≡ true) × (numbers_formed ns ≡ true)

abbrev pub IsExpr : Expr → Type 0
IsExpr a = (expr_spellable a ≡ true) × (expr_formed a ≡ true)

abbrev pub IsSide : Lin → Type 0
IsSide a = side_formed a ≡ true

abbrev pub IsFact : Le → Type 0
IsFact a = fact_formed a ≡ true

abbrev pub AreFacts : List Le → Type 0
AreFacts found = facts_formed found ≡ true

abbrev pub IsStmt : Stmt → Type 0
IsStmt a = (stmt_spellable a ≡ true) × (stmt_formed a ≡ true)

abbrev pub AreStmts : List Stmt → Type 0
AreStmts found = (all_true (map stmt_spellable found) ≡ true) × (all_true (map stmt_formed found) ≡ true)

abbrev pub IsParam : Param → Type 0
IsParam a = param_formed a ≡ true

abbrev pub AreParams : List Param → Type 0
AreParams found = all_true (map param_formed found) ≡ true

abbrev pub IsRet : Ret → Type 0
IsRet a = ret_formed a ≡ true

abbrev pub AreRets : List Ret → Type 0
AreRets found = all_true (map ret_formed found) ≡ true

abbrev pub IsModel : Model → Type 0
IsModel m = Spellable m × (model_formed m ≡ true)

pub record IsFine (r : Reading) : Type 0 where
  pub expr : Gives r.expr IsExpr
  pub entries : (t : Scalar) → Gives (r.entries t) (IsTable t)
  pub side : Gives r.side IsSide
  pub fact : Gives r.fact IsFact
  pub keep : Gives r.keep AreFacts
  pub names : Gives r.names AreNames
  pub element : Gives r.element IsName
  pub stmt : Gives r.stmt IsStmt
  pub block : Gives r.block AreStmts
  pub sort : (x : Name) → IsName x → Gives (r.sort x) IsParam
  pub param : Gives r.param IsParam
  pub params : Gives r.params AreParams
  pub requires_ : Gives r.requires_ AreFacts
  pub ret : Gives r.ret IsRet
  pub rets : Gives r.rets AreRets
  pub model : Gives r.model IsModel

abbrev pub AreFine : List Reading → Type 0
AreFine = All IsFine

-- names and numbers
named : (p : Place) (t : Name) (test : Bool) → is_name t ≡ test → Gives (known p (if test then Some t else None)) IsName
named p t true h = given h
named p t false h = refused

pub known_name : (p : Place) (t : Name) → Gives (known p (name_of t)) IsName
known_name p t = named p t (is_name t) refl

pub name_gives : (f : Reading) → Gives (parts.name f) IsName
name_gives f = known_name f.at f.text

pub number_gives : (f : Reading) → Gives (parts.number f) IsWord
number_gives f = known_number f.at f.text

pub no_more : (i : ℕ) (fs : List Reading) → Gives (end i fs) (λ _. Unit {0})
no_more i fs = any

-- each form of a list
pub each_gives : {A : Type 0} {P : A → Type 0} (kind : Kind A) → ((f : Reading) → IsFine f → Gives (kind f) P)
    → (fs : List Reading) → AreFine fs → Gives (each kind fs) (All P)
each_gives kind one [] h = given tt
each_gives kind one (f ∷ fs) h = one f h.0 ⊳ λ a k. each_gives kind one fs h.1 ⊳ λ more l. given (k, l)

pub each_passes : {A : Type 0} (test : A → Bool) (kind : Kind A)
    → ((f : Reading) → IsFine f → Gives (kind f) (λ a. test a ≡ true))
    → (fs : List Reading) → AreFine fs → Gives (each kind fs) (λ found. all_true (map test found) ≡ true)
each_passes test kind one fs h = weaker (all_pass test) (each_gives kind one fs h)

-- the forms behind the first one of a list
pub headed_gives : (p : Place) (fs : List Reading) → AreFine fs → Gives (headed p fs) (λ h. AreFine h.1)
headed_gives p [] h = refused
headed_gives p (head ∷ fs) h = given h.1

pub behind_gives : (word : List ℕ) (p : Place) (fs : List Reading) → AreFine fs → Gives (behind word p fs) AreFine
behind_gives word p fs h = headed_gives p fs h ⊳ λ d k. tested (same d.0 word) (λ _. given k) refused

-- the form with a number, in a list whose forms are fine
form_gives : (p : Place) (fs : List Reading) → AreFine fs → (i : ℕ) → Gives (form i p fs) IsFine
form_gives p [] h i = refused
form_gives p (f ∷ fs) h zero = given h.0
form_gives p (f ∷ fs) h (suc i) = form_gives p fs h.1 i

pub nth_gives : {A : Type 0} {P : A → Type 0} (kind : Kind A) → ((f : Reading) → IsFine f → Gives (kind f) P)
    → (p : Place) (fs : List Reading) → AreFine fs → (i : ℕ) → Gives (nth i kind p fs) P
nth_gives kind one p fs h i = form_gives p fs h i ⊳ one

module _ (p : Place) (fs : List Reading) (h : AreFine fs) where
  pub name_part : (i : ℕ) → Gives (nth i parts.name p fs) IsName
  name_part = nth_gives parts.name (λ f k. name_gives f) p fs h

  pub number_part : (i : ℕ) → Gives (nth i parts.number p fs) IsWord
  number_part = nth_gives parts.number (λ f k. number_gives f) p fs h

  pub expr_part : (i : ℕ) → Gives (nth i exprs.expr p fs) IsExpr
  expr_part = nth_gives exprs.expr (λ f k. k.expr) p fs h

  pub entries_part : (t : Scalar) (i : ℕ) → Gives (nth i (exprs.entries t) p fs) (IsTable t)
  entries_part t = nth_gives (exprs.entries t) (λ f k. k.entries t) p fs h

  pub side_part : (i : ℕ) → Gives (nth i facts.side p fs) IsSide
  side_part = nth_gives facts.side (λ f k. k.side) p fs h

  pub keep_part : (i : ℕ) → Gives (nth i stmts.keep p fs) AreFacts
  keep_part = nth_gives stmts.keep (λ f k. k.keep) p fs h

  pub names_part : (i : ℕ) → Gives (nth i stmts.names p fs) AreNames
  names_part = nth_gives stmts.names (λ f k. k.names) p fs h

  pub element_part : (i : ℕ) → Gives (nth i stmts.element p fs) IsName
  element_part = nth_gives stmts.element (λ f k. k.element) p fs h

  pub block_part : (i : ℕ) → Gives (nth i stmts.block p fs) AreStmts
  block_part = nth_gives stmts.block (λ f k. k.block) p fs h

  pub sort_part : (x : Name) → IsName x → (i : ℕ) → Gives (nth i (models.sort x) p fs) IsParam
  sort_part x j = nth_gives (models.sort x) (λ f k. k.sort x j) p fs h

  pub params_part : (i : ℕ) → Gives (nth i models.params p fs) AreParams
  params_part = nth_gives models.params (λ f k. k.params) p fs h

  pub requires_part : (i : ℕ) → Gives (nth i models.requires_ p fs) AreFacts
  requires_part = nth_gives models.requires_ (λ f k. k.requires_) p fs h

  pub rets_part : (i : ℕ) → Gives (nth i models.rets p fs) AreRets
  rets_part = nth_gives models.rets (λ f k. k.rets) p fs h

  pub model_part : (i : ℕ) → Gives (nth i models.model p fs) IsModel
  model_part = nth_gives models.model (λ f k. k.model) p fs h
