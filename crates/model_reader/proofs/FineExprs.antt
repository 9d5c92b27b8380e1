-- Expressions and sides that are read are formed, and their tables can be spelled.
use Rattle.std.proofs.Common.{◌≡◌, refl, sym, ◌∙◌, ap, ℕ, nat_le, Bool, true, List, [], ◌∷◌, map, Ok, Option, Some, None}
use Rattle.std.proofs.Common.{if◌then◌else◌, codes}
use Rattle.std.specs.List.{list_all}
use Rattle.rup_base.specs.Name.{is_name}
use Rattle.rup_base.specs.Gather.{all_true}
use Rattle.rup_base.specs.declared.arg.Place.{Place}
use Rattle.model_syntax.specs.Names.{same}
use Rattle.model_syntax.specs.Kinds.{is_word}
use Rattle.model_syntax.specs.Formed.{expr_formed, expr_formed_step, side_formed, side_formed_step}
use Rattle.model_syntax.specs.Spelling.{expr_spellable, expr_spellable_step}
use Rattle.model_syntax.specs.declared.expr.Scalar.{Scalar}
use Rattle.model_syntax.specs.declared.expr.Scalar.TheVariants.{Word, Byte, Flag}
use Rattle.model_syntax.specs.declared.expr.Expr.{Expr, Expr-F, roll-Expr, map-Expr, fold-roll-Expr}
use Rattle.model_syntax.specs.declared.expr.Expr.TheOpen as e
use Rattle.model_syntax.specs.declared.expr.Expr.TheVariants as v
use Rattle.model_syntax.specs.declared.stmt.Lin.{Lin, Lin-F, roll-Lin, map-Lin, fold-roll-Lin}
use Rattle.model_syntax.specs.declared.stmt.Lin.TheOpen as l
use Rattle.model_syntax.specs.declared.stmt.Lin.TheVariants as m
use Rattle.model_reader.specs.declared.words.ExprWord.{ExprWord}
use Rattle.model_reader.specs.declared.words.ExprWord.TheVariants as word
use Rattle.rup_base.specs.Number as numbers
use Rattle.model_reader.specs.Words.{expr_word}
use Rattle.model_reader.specs.Parts.{Reading, nth, each, some, wrong, known}
use Rattle.model_reader.specs.Expressions.{table_scalar, entry, fits, one_of, two_of, length_of, get_of, tab_of, worded_expr}
use Rattle.model_reader.specs.Expressions.{list_expr, atom_expr}
use Rattle.model_reader.specs.Facts.{sum_of, scale_of, worded_side, list_side, atom_side, list_fact}
use Rattle.model_reader.proofs.Gives.{Gives, given, refused, any, ◌⊳◌, tested, All}
use Rattle.model_reader.proofs.WordNumbers.{IsWord, OfWord, number_is_word}
use Rattle.model_reader.proofs.Fine.{IsExpr, IsTable, IsSide, IsFact, AreFine, no_more, headed_gives, behind_gives, number_gives}
use Rattle.model_reader.proofs.Fine.{name_part, number_part, expr_part, entries_part, side_part}

-- tables
abbrev Fits : Scalar → ℕ → Type 0
Fits t n = (fits t n ≡ true) × IsWord n

entry_gives : (t : Scalar) (f : Reading) → Gives (entry t f) (Fits t)
entry_gives t f = number_gives f ⊳ λ n w. tested (fits t n) (λ h. given (h, w)) refused

entries_give : (t : Scalar) (fs : List Reading) → Gives (each (entry t) fs) (All (Fits t))
entries_give t [] = given tt
entries_give t (f ∷ fs) = entry_gives t f ⊳ λ n h. entries_give t fs ⊳ λ more k. given (h, k)

all_words : (t : Scalar) (ns : List ℕ) → All (Fits t) ns → all_true (map is_word ns) ≡ true
all_words t [] h = refl
all_words t (n ∷ ns) h = rw (h.0.1, all_words t ns h.1) refl

all_bytes : (ns : List ℕ) → All (Fits Byte) ns → list_all (λ n. nat_le n 255) ns ≡ true
all_bytes [] h = refl
all_bytes (n ∷ ns) h = rw (h.0.0, all_bytes ns h.1) refl

table : (t : Scalar) (n : ℕ) (ns : List ℕ) → All (Fits t) (n ∷ ns) → IsTable t (n ∷ ns)
table Word n ns h = (refl, all_words Word (n ∷ ns) h)
table Byte n ns h = (all_bytes (n ∷ ns) h, all_words Byte (n ∷ ns) h)
table Flag n ns h = absurd cc

pub table_gives : (t : Scalar) (p : Place) (fs : List Reading) → Gives (some (entry t) p fs) (IsTable t)
table_gives t p [] = refused
table_gives t p (f ∷ fs) = entry_gives t f ⊳ λ n h. entries_give t fs ⊳ λ ns k. given (table t n ns (h, k))

-- expressions
layer : (y : Expr-F Expr) {a : Expr} → roll-Expr y ≡ a → expr_spellable_step (map-Expr Expr Bool expr_spellable y) ≡ true
    → expr_formed_step (map-Expr Expr Bool expr_formed y) ≡ true → IsExpr a
layer y is h k = (
  ap expr_spellable (sym is) ∙ fold-roll-Expr Bool expr_spellable_step y ∙ h,
  ap expr_formed (sym is) ∙ fold-roll-Expr Bool expr_formed_step y ∙ k,
)

abbrev AreExprs : Expr × Expr → Type 0
AreExprs ab = IsExpr ab.0 × IsExpr ab.1

module _ (p : Place) (fs : List Reading) (h : AreFine fs) where
  one_gives : Gives (one_of p fs) IsExpr
  one_gives = expr_part p fs h 0 ⊳ λ a k. no_more 1 fs ⊳ λ u _. given k

  two_gives : Gives (two_of p fs) AreExprs
  two_gives = expr_part p fs h 0 ⊳ λ a k. expr_part p fs h 1 ⊳ λ b n. no_more 2 fs ⊳ λ u _. given (k, n)

  length_gives : Gives (length_of p fs) IsExpr
  length_gives = name_part p fs h 0 ⊳ λ a k. no_more 1 fs ⊳ λ u _. given (layer (e.Length a) (v.rolls-Length a) refl k)

  get_gives : Gives (get_of p fs) IsExpr
  get_gives =
      name_part p fs h 0 ⊳ λ a k. expr_part p fs h 1 ⊳ λ i n. no_more 2 fs ⊳ λ u _.
      given (layer (e.Get a i) (v.rolls-Get a i) n.0 (rw (k, n.1) refl))

  tab_gives : Gives (tab_of p fs) IsExpr
  tab_gives =
      any {answer = nth 0 table_scalar p fs} ⊳ λ t _. entries_part p fs h t 1 ⊳ λ ns k.
      expr_part p fs h 2 ⊳ λ i n. no_more 3 fs ⊳ λ u _.
      given (layer (e.Tab t ns i) (v.rolls-Tab t ns i) (rw (k.0, n.0) refl) (rw (k.1, n.1) refl))

  worded_gives : (w : ExprWord) → Gives (worded_expr w p fs) IsExpr
  worded_gives (word.Bin op) =
      two_gives ⊳ λ ab k.
      given (layer (e.Bin op ab.0 ab.1) (v.rolls-Bin op ab.0 ab.1) (rw (k.0.0, k.1.0) refl) (rw (k.0.1, k.1.1) refl))
  worded_gives (word.Test cmp) =
      two_gives ⊳ λ ab k.
      given (layer (e.Test cmp ab.0 ab.1) (v.rolls-Test cmp ab.0 ab.1) (rw (k.0.0, k.1.0) refl) (rw (k.0.1, k.1.1) refl))
  worded_gives word.Length = length_gives
  worded_gives word.Not = one_gives ⊳ λ a k. given (layer (e.Not a) (v.rolls-Not a) k.0 k.1)
  worded_gives word.Both =
      two_gives ⊳ λ ab k.
      given (layer (e.Both ab.0 ab.1) (v.rolls-Both ab.0 ab.1) (rw (k.0.0, k.1.0) refl) (rw (k.0.1, k.1.1) refl))
  worded_gives word.Either =
      two_gives ⊳ λ ab k.
      given (layer (e.Either ab.0 ab.1) (v.rolls-Either ab.0 ab.1) (rw (k.0.0, k.1.0) refl) (rw (k.0.1, k.1.1) refl))
  worded_gives word.ToWord = one_gives ⊳ λ a k. given (layer (e.ToWord a) (v.rolls-ToWord a) k.0 k.1)
  worded_gives word.ToByte = one_gives ⊳ λ a k. given (layer (e.ToByte a) (v.rolls-ToByte a) k.0 k.1)
  worded_gives word.Get = get_gives
  worded_gives word.Tab = tab_gives

pub list_expr_gives : (p : Place) (fs : List Reading) → AreFine fs → Gives (list_expr p fs) IsExpr
list_expr_gives p fs h =
    headed_gives p fs h ⊳ λ d k. any {answer = known p (expr_word d.0)} ⊳ λ w _. worded_gives p d.1 k w

named : (p : Place) (t : List ℕ) → Gives (if is_name t then Ok (v.Var t) else wrong p) IsExpr
named p t = tested (is_name t) (λ h. given (layer (e.Var t) (v.rolls-Var t) refl h)) refused

numbered : (p : Place) (t : List ℕ) (number : Option ℕ) → OfWord number
    → Gives (elim number [ Some n ↦ Ok (v.Lit n) | None ↦ if is_name t then Ok (v.Var t) else wrong p ]) IsExpr
numbered p t (Some n) h = given (layer (e.Lit n) (v.rolls-Lit n) refl (h n refl))
numbered p t None h = named p t

pub atom_expr_gives : (p : Place) (t : List ℕ) → Gives (atom_expr p t) IsExpr
atom_expr_gives p t = numbered p t (numbers.number t) (number_is_word t)

-- sides and facts
side_layer : (y : Lin-F Lin) {a : Lin} → roll-Lin y ≡ a → side_formed_step (map-Lin Lin Bool side_formed y) ≡ true → IsSide a
side_layer y is h = ap side_formed (sym is) ∙ fold-roll-Lin Bool side_formed_step y ∙ h

module _ (p : Place) (fs : List Reading) (h : AreFine fs) where
  sum_gives : Gives (sum_of p fs) IsSide
  sum_gives =
      side_part p fs h 0 ⊳ λ a k. side_part p fs h 1 ⊳ λ b n. no_more 2 fs ⊳ λ u _.
      given (side_layer (l.Sum a b) (m.rolls-Sum a b) (rw (k, n) refl))

  scale_gives : Gives (scale_of p fs) IsSide
  scale_gives =
      number_part p fs h 0 ⊳ λ c k. side_part p fs h 1 ⊳ λ a n. no_more 2 fs ⊳ λ u _.
      given (side_layer (l.Scale c a) (m.rolls-Scale c a) (rw (k, n) refl))

  worded_side_gives : (word : List ℕ) → Gives (worded_side word p fs) IsSide
  worded_side_gives word =
      tested (same word (codes "add")) (λ _. sum_gives) (tested (same word (codes "mul")) (λ _. scale_gives) refused)

pub list_side_gives : (p : Place) (fs : List Reading) → AreFine fs → Gives (list_side p fs) IsSide
list_side_gives p fs h = headed_gives p fs h ⊳ λ d k. worded_side_gives p d.1 k d.0

named_side : (p : Place) (t : List ℕ) → Gives (if is_name t then Ok (m.Var t) else wrong p) IsSide
named_side p t = tested (is_name t) (λ h. given (side_layer (l.Var t) (m.rolls-Var t) h)) refused

numbered_side : (p : Place) (t : List ℕ) (number : Option ℕ) → OfWord number
    → Gives (elim number [ Some n ↦ Ok (m.Const n) | None ↦ if is_name t then Ok (m.Var t) else wrong p ]) IsSide
numbered_side p t (Some n) h = given (side_layer (l.Const n) (m.rolls-Const n) (h n refl))
numbered_side p t None h = named_side p t

pub atom_side_gives : (p : Place) (t : List ℕ) → Gives (atom_side p t) IsSide
atom_side_gives p t = numbered_side p t (numbers.number t) (number_is_word t)

pub list_fact_gives : (p : Place) (fs : List Reading) → AreFine fs → Gives (list_fact p fs) IsFact
list_fact_gives p fs h =
    behind_gives (codes "le") p fs h ⊳ λ args g. side_part p args g 0 ⊳ λ a k. side_part p args g 1 ⊳ λ b n.
    no_more 2 args ⊳ λ u _.
    given {a = record { low = a; high = b }} (rw (k, n) refl)
