-- Statements, parameters, results and models that are read are formed, and their tables can be spelled.
use Rattle.std.proofs.Common.{◌≡◌, refl, sym, ◌∙◌, ap, ℕ, ◌+◌, Bool, true, List, [], ◌∷◌, Ok, Option, Some, None, if◌then◌else◌}
use Rattle.std.proofs.Common.{codes}
use Rattle.model_syntax.specs.Names.{Name}
use Rattle.rup_base.specs.Name.{is_name}
use Rattle.rup_base.specs.declared.arg.Place.{Place}
use Rattle.model_syntax.specs.Formed.{stmt_formed, stmt_formed_step, param_formed, ret_formed, len_formed}
use Rattle.model_syntax.specs.Spelling.{stmt_spellable, stmt_spellable_step}
use Rattle.model_syntax.specs.declared.expr.Scalar.{Scalar}
use Rattle.model_syntax.specs.declared.expr.Scalar.TheVariants.{Word, Byte, Flag}
use Rattle.model_syntax.specs.declared.expr.Expr.{Expr}
use Rattle.model_syntax.specs.declared.stmt.Le.{Le}
use Rattle.model_syntax.specs.declared.stmt.Stmt.{Stmt, Stmt-F, roll-Stmt, map-Stmt, fold-roll-Stmt}
use Rattle.model_syntax.specs.declared.stmt.Stmt.TheOpen as s
use Rattle.model_syntax.specs.declared.stmt.Stmt.TheVariants as w
use Rattle.model_syntax.specs.declared.program.Len.{Len}
use Rattle.model_syntax.specs.declared.program.Len.TheVariants.{Fixed, Named}
use Rattle.model_syntax.specs.declared.program.Ret.TheVariants as result
use Rattle.model_reader.specs.declared.words.StmtWord.{StmtWord}
use Rattle.model_reader.specs.declared.words.StmtWord.TheVariants as word
use Rattle.rup_base.specs.Number as numbers
use Rattle.model_reader.specs.Words.{scalar_of, array_of, stmt_word}
use Rattle.model_reader.specs.Parts.{Reading, nth, wrong, known}
use Rattle.model_reader.specs.Statements.{stmt, let_of, put_of, move_of, carried, choice_of, if_of, for_of, range_of, map_of}
use Rattle.model_reader.specs.Statements.{fold_of, worded_stmt, list_stmt, block_of}
use Rattle.model_reader.specs.Models.{len, in_word, scalar_param, array_param, atom_sort, array_of_length, list_sort, list_param}
use Rattle.model_reader.specs.Models.{params_of, list_ret, atom_ret, rets_of, model_of, list_model, param, ret}
use Rattle.model_reader.proofs.Gives.{Gives, given, refused, any, ◌⊳◌, tested, weaker, All}
use Rattle.model_reader.proofs.WordNumbers.{OfWord, number_is_word}
use Rattle.model_reader.proofs.Fine.{IsName, AreNames, AreFacts, IsExpr, IsStmt, AreStmts, IsParam, AreParams, IsRet, AreRets}
use Rattle.model_reader.proofs.Fine.{IsModel, AreFine, no_more, each_gives, each_passes, headed_gives, behind_gives, known_name}
use Rattle.model_reader.proofs.Fine.{nth_gives, name_part, expr_part, keep_part, names_part, element_part, block_part, sort_part}
use Rattle.model_reader.proofs.Fine.{params_part, requires_part, rets_part}

layer : (y : Stmt-F Stmt) {a : Stmt} → roll-Stmt y ≡ a → stmt_spellable_step (map-Stmt Stmt Bool stmt_spellable y) ≡ true
    → stmt_formed_step (map-Stmt Stmt Bool stmt_formed y) ≡ true → IsStmt a
layer y is h k = (
  ap stmt_spellable (sym is) ∙ fold-roll-Stmt Bool stmt_spellable_step y ∙ h,
  ap stmt_formed (sym is) ∙ fold-roll-Stmt Bool stmt_formed_step y ∙ k,
)

abbrev IsRange : Name × Expr × Expr → Type 0
IsRange range = IsName range.0 × IsExpr range.1 × IsExpr range.2

abbrev IsChoice : Expr × List Name × List Le → Type 0
IsChoice c = IsExpr c.0 × AreNames c.1 × AreFacts c.2

abbrev AreCarried : List Name × List Le → Type 0
AreCarried c = AreNames c.0 × AreFacts c.1

module _ (p : Place) (fs : List Reading) (h : AreFine fs) where
  let_gives : Gives (let_of p fs) IsStmt
  let_gives =
      name_part p fs h 0 ⊳ λ x j. expr_part p fs h 1 ⊳ λ a k. no_more 2 fs ⊳ λ u _.
      given (layer (s.Let x a) (w.rolls-Let x a) k.0 (rw (j, k.1) refl))

  put_gives : Gives (put_of p fs) IsStmt
  put_gives =
      name_part p fs h 0 ⊳ λ a j. expr_part p fs h 1 ⊳ λ i k. expr_part p fs h 2 ⊳ λ v l. no_more 3 fs ⊳ λ u _.
      given (layer (s.Put a i v) (w.rolls-Put a i v) (rw (k.0, l.0) refl) (rw (j, k.1, l.1) refl))

  move_gives : Gives (move_of p fs) IsStmt
  move_gives =
      name_part p fs h 0 ⊳ λ b c. name_part p fs h 1 ⊳ λ a j. expr_part p fs h 2 ⊳ λ i k. expr_part p fs h 3 ⊳ λ v l.
      no_more 4 fs ⊳ λ u _.
      given (layer (s.Move b a i v) (w.rolls-Move b a i v) (rw (k.0, l.0) refl) (rw (c, j, k.1, l.1) refl))

  carried_gives : (i : ℕ) → Gives (carried i p fs) AreCarried
  carried_gives i = names_part p fs h i ⊳ λ xs k. keep_part p fs h (i + 1) ⊳ λ facts l. given (k, l)

  choice_gives : Gives (choice_of p fs) IsChoice
  choice_gives = expr_part p fs h 0 ⊳ λ test k. carried_gives 1 ⊳ λ c l. given (k, l.0, l.1)

  if_gives : Gives (if_of p fs) IsStmt
  if_gives =
      choice_gives ⊳ λ c k. block_part p fs h 3 ⊳ λ one n. block_part p fs h 4 ⊳ λ two o. no_more 5 fs ⊳ λ u _.
      given (layer (s.If c.0 c.1 c.2 one two) (w.rolls-If c.0 c.1 c.2 one two) (rw (k.0.0, n.0, o.0) refl)
      (rw (k.0.1, k.1, k.2, n.1, o.1) refl))

  range_gives : Gives (range_of p fs) IsRange
  range_gives = name_part p fs h 0 ⊳ λ x j. expr_part p fs h 1 ⊳ λ low k. expr_part p fs h 2 ⊳ λ high l. given (j, k, l)

  for_gives : Gives (for_of p fs) IsStmt
  for_gives =
      range_gives ⊳ λ r k. carried_gives 3 ⊳ λ c l. block_part p fs h 5 ⊳ λ body n. no_more 6 fs ⊳ λ u _.
      given (layer (s.For r.0 r.1 r.2 c.0 c.1 body) (w.rolls-For r.0 r.1 r.2 c.0 c.1 body)
      (rw (k.1.0, k.2.0, n.0) refl) (rw (k.0, k.1.1, k.2.1, l.0, l.1, n.1) refl))

  map_gives : Gives (map_of p fs) IsStmt
  map_gives =
      name_part p fs h 0 ⊳ λ a j. element_part p fs h 1 ⊳ λ x k. expr_part p fs h 2 ⊳ λ v l. no_more 3 fs ⊳ λ u _.
      given (layer (s.Map a x v) (w.rolls-Map a x v) l.0 (rw (j, k, l.1) refl))

  fold_gives : Gives (fold_of p fs) IsStmt
  fold_gives =
      name_part p fs h 0 ⊳ λ t i. name_part p fs h 1 ⊳ λ a j. element_part p fs h 2 ⊳ λ x k. expr_part p fs h 3 ⊳ λ v l.
      no_more 4 fs ⊳ λ u _.
      given (layer (s.Fold t a x v) (w.rolls-Fold t a x v) l.0 (rw (i, j, k, l.1) refl))

  worded_gives : (word : StmtWord) → Gives (worded_stmt word p fs) IsStmt
  worded_gives word.Let = let_gives
  worded_gives word.Put = put_gives
  worded_gives word.Move = move_gives
  worded_gives word.If = if_gives
  worded_gives word.For = for_gives
  worded_gives word.Map = map_gives
  worded_gives word.Fold = fold_gives

pub list_stmt_gives : (p : Place) (fs : List Reading) → AreFine fs → Gives (list_stmt p fs) IsStmt
list_stmt_gives p fs h =
    headed_gives p fs h ⊳ λ d k. any {answer = known p (stmt_word d.0)} ⊳ λ word _. worded_gives p d.1 k word

are_stmts : (found : List Stmt) → All IsStmt found → AreStmts found
are_stmts [] h = (refl, refl)
are_stmts (a ∷ more) h = let k = are_stmts more h.1 in (rw (h.0.0, k.0) refl, rw (h.0.1, k.1) refl)

pub block_gives : (p : Place) (fs : List Reading) → AreFine fs → Gives (block_of p fs) AreStmts
block_gives p fs h = behind_gives (codes "do") p fs h ⊳ λ args k. weaker are_stmts (each_gives stmt (λ f k. k.stmt) args k)

-- parameters
abbrev IsLen : Len → Type 0
IsLen n = len_formed n ≡ true

length_of : (p : Place) (t : List ℕ) (number : Option ℕ) → OfWord number
    → Gives (elim number [ Some n ↦ Ok (Fixed n) | None ↦ if is_name t then Ok (Named t) else wrong p ]) IsLen
length_of p t (Some n) h = given (h n refl)
length_of p t None h = tested (is_name t) (λ k. given k) refused

len_gives : (f : Reading) → Gives (len f) IsLen
len_gives f = length_of f.at f.text (numbers.number f.text) (number_is_word f.text)

scalar_formed : (x : Name) (t : Scalar) → IsName x → IsParam (scalar_param x t)
scalar_formed x Word h = h
scalar_formed x Byte h = h
scalar_formed x Flag h = h

array_formed : (x : Name) (n : Len) (t : Scalar) → IsName x → IsLen n → IsParam (array_param x n t)
array_formed x n Word h k = rw (h, k) refl
array_formed x n Byte h k = rw (h, k) refl
array_formed x n Flag h k = rw (h, k) refl

pub atom_sort_gives : (p : Place) (t : List ℕ) (x : Name) → IsName x → Gives (atom_sort p t x) IsParam
atom_sort_gives p t x h = any {answer = known p (scalar_of t)} ⊳ λ s _. given (scalar_formed x s h)

array_gives : (x : Name) (t : Scalar) (p : Place) (fs : List Reading) → AreFine fs → IsName x
    → Gives (array_of_length x t p fs) IsParam
array_gives x t p fs h j =
    nth_gives len (λ f k. len_gives f) p fs h 0 ⊳ λ n k. no_more 1 fs ⊳ λ u _. given (array_formed x n t j k)

pub list_sort_gives : (p : Place) (fs : List Reading) → AreFine fs → (x : Name) → IsName x → Gives (list_sort p fs x) IsParam
list_sort_gives p fs h x j =
    headed_gives p fs h ⊳ λ d k. any {answer = known p (array_of d.0)} ⊳ λ t _. array_gives x t p d.1 k j

pub list_param_gives : (p : Place) (fs : List Reading) → AreFine fs → Gives (list_param p fs) IsParam
list_param_gives p fs h =
    headed_gives p fs h ⊳ λ d k. known_name p d.0 ⊳ λ x j. sort_part p d.1 k x j 0 ⊳ λ t l. no_more 1 d.1 ⊳ λ u _. given l

pub params_gives : (p : Place) (fs : List Reading) → AreFine fs → Gives (params_of p fs) AreParams
params_gives p fs h =
    behind_gives (codes "params") p fs h ⊳ λ args k. each_passes param_formed param (λ f l. l.param) args k

-- results
pub list_ret_gives : (p : Place) (fs : List Reading) → AreFine fs → Gives (list_ret p fs) IsRet
list_ret_gives p fs h =
    headed_gives p fs h ⊳ λ d k. known_name p d.0 ⊳ λ a j. any {answer = nth 0 in_word p d.1} ⊳ λ u _.
    name_part p d.1 k 1 ⊳ λ owner l. no_more 2 d.1 ⊳ λ u _. given {a = result.Array a owner} (rw (j, l) refl)

pub atom_ret_gives : (p : Place) (t : List ℕ) → Gives (atom_ret p t) IsRet
atom_ret_gives p t = known_name p t ⊳ λ x h. given {a = result.Scalar x} h

pub rets_gives : (p : Place) (fs : List Reading) → AreFine fs → Gives (rets_of p fs) AreRets
rets_gives p fs h = behind_gives (codes "ret") p fs h ⊳ λ args k. each_passes ret_formed ret (λ f l. l.ret) args k

-- models
model_gives : (p : Place) (fs : List Reading) → AreFine fs → Gives (model_of p fs) IsModel
model_gives p fs h =
    name_part p fs h 0 ⊳ λ x i. params_part p fs h 1 ⊳ λ ps j. requires_part p fs h 2 ⊳ λ cs k.
    block_part p fs h 3 ⊳ λ body l. rets_part p fs h 4 ⊳ λ rs m. no_more 5 fs ⊳ λ u _.
    given {a = record { name = x; params = ps; requires_ = cs; body = body; rets = rs }} (l.0, rw (i, j, k, l.1, m) refl)

pub list_model_gives : (p : Place) (fs : List Reading) → AreFine fs → Gives (list_model p fs) IsModel
list_model_gives p fs h = behind_gives (codes "model") p fs h ⊳ λ args k. model_gives p args k
