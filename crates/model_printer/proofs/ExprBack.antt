-- The form of an expression is read as that expression.
use Rattle.std.proofs.Common.{◌≡◌, refl, sym, ◌∙◌, ap, subst, ℕ, nat_le, Bool, true, List, [], ◌∷◌, map, codes, Ok}
use Rattle.std.specs.Fmt.{decimal}
use Rattle.std.specs.List.{list_all}
use Rattle.rup_base.specs.declared.arg.Place.{Place}
use Rattle.rup_base.specs.Name.{is_name}
use Rattle.rup_base.specs.Gather.{all_true}
use Rattle.sx_text.specs.declared.tree.Sx.{Sx}
use Rattle.sx_text.specs.Spelling.{bare}
use Rattle.sx_text.proofs.laws.Atoms.{and_parts}
use Rattle.model_syntax.specs.declared.expr.Op.{Op}
use Rattle.model_syntax.specs.declared.expr.Op.TheVariants.{Add, Sub, Mul, Mulhuu, Divu, Remu, And, Or, Xor, Shl, Shr, Sar}
use Rattle.model_syntax.specs.declared.expr.Cmp.{Cmp}
use Rattle.model_syntax.specs.declared.expr.Cmp.TheVariants.{Eq, Lt, Slt}
use Rattle.model_syntax.specs.declared.expr.Scalar.{Scalar}
use Rattle.model_syntax.specs.declared.expr.Scalar.TheVariants.{Word, Byte, Flag}
use Rattle.model_syntax.specs.declared.expr.Expr.{Expr, Expr-F, ind-Expr, map-Expr, roll-Expr, fold-roll-Expr}
use Rattle.model_syntax.specs.declared.expr.Expr.TheOpen as e
use Rattle.model_syntax.specs.declared.expr.Expr.TheVariants as v
use Rattle.model_syntax.specs.Spelling.{expr_spellable, expr_spellable_step, is_table, has_entry}
use Rattle.model_reader.specs.Parts as parts
use Rattle.model_reader.specs.Parts.{Answer, Reading}
use Rattle.model_reader.specs.Reading.{reading, atom_reading}
use Rattle.model_reader.specs.Expressions.{expr, list_expr, entry, table_scalar, fits}
use Rattle.model_syntax.specs.Kinds.{is_word}
use Rattle.model_syntax.specs.Formed.{expr_formed, expr_formed_step}
use Rattle.model_printer.specs.Printing as printing
use Rattle.model_printer.specs.Printing.{atom, list, expr_step, op_word, cmp_word, scalar_word}
use Rattle.model_printer.proofs.Backs.{at_atom, at_list, at_worded, IsBack, AreBack, each_back}
use Rattle.model_printer.proofs.Atomic.{name_back, number_back, literal_back, variable_back}

-- the rules, where each part is read back
module _ (p q : Place) (r s : Reading) (a b : Expr) (left : r.expr ≡ Ok a) (right : s.expr ≡ Ok b) where
  bin_reads : (op : Op) → list_expr p (atom_reading q (op_word op) ∷ r ∷ s ∷ []) ≡ Ok (v.Bin op a b)
  bin_reads Add = rw (left, right) refl
  bin_reads Sub = rw (left, right) refl
  bin_reads Mul = rw (left, right) refl
  bin_reads Mulhuu = rw (left, right) refl
  bin_reads Divu = rw (left, right) refl
  bin_reads Remu = rw (left, right) refl
  bin_reads And = rw (left, right) refl
  bin_reads Or = rw (left, right) refl
  bin_reads Xor = rw (left, right) refl
  bin_reads Shl = rw (left, right) refl
  bin_reads Shr = rw (left, right) refl
  bin_reads Sar = rw (left, right) refl

  test_reads : (cmp : Cmp) → list_expr p (atom_reading q (cmp_word cmp) ∷ r ∷ s ∷ []) ≡ Ok (v.Test cmp a b)
  test_reads Eq = rw (left, right) refl
  test_reads Lt = rw (left, right) refl
  test_reads Slt = rw (left, right) refl

  both_reads : list_expr p (atom_reading q (codes "both") ∷ r ∷ s ∷ []) ≡ Ok (v.Both a b)
  both_reads = rw (left, right) refl

  either_reads : list_expr p (atom_reading q (codes "either") ∷ r ∷ s ∷ []) ≡ Ok (v.Either a b)
  either_reads = rw (left, right) refl

module _ (p q : Place) (r : Reading) (a : Expr) (part : r.expr ≡ Ok a) where
  not_reads : list_expr p (atom_reading q (codes "not") ∷ r ∷ []) ≡ Ok (v.Not a)
  not_reads = rw part refl

  to_word_reads : list_expr p (atom_reading q (codes "word") ∷ r ∷ []) ≡ Ok (v.ToWord a)
  to_word_reads = rw part refl

  to_byte_reads : list_expr p (atom_reading q (codes "byte") ∷ r ∷ []) ≡ Ok (v.ToByte a)
  to_byte_reads = rw part refl

length_reads : (p q : Place) (r : Reading) (x : List ℕ) → parts.name r ≡ Ok x
    → list_expr p (atom_reading q (codes "len") ∷ r ∷ []) ≡ Ok (v.Length x)
length_reads p q r x h = rw h refl

get_reads : (p q : Place) (r s : Reading) (x : List ℕ) (i : Expr) → parts.name r ≡ Ok x → s.expr ≡ Ok i
    → list_expr p (atom_reading q (codes "get") ∷ r ∷ s ∷ []) ≡ Ok (v.Get x i)
get_reads p q r s x i h k = rw (h, k) refl

tab_reads : (p q : Place) (r s u : Reading) (t : Scalar) (ns : List ℕ) (i : Expr)
    → table_scalar r ≡ Ok t → s.entries t ≡ Ok ns → u.expr ≡ Ok i
    → list_expr p (atom_reading q (codes "tab") ∷ r ∷ s ∷ u ∷ []) ≡ Ok (v.Tab t ns i)
tab_reads p q r s u t ns i h k j = rw (h, k, j) refl

-- tables
fitting : (ns : List ℕ) → list_all (λ n. nat_le n 255) ns ≡ true → all_true (map (fits Byte) ns) ≡ true
fitting [] h = refl
fitting (n ∷ ns) h =
    let p = and_parts (nat_le n 255) (list_all (λ m. nat_le m 255) ns) h in
    rw (p.0, fitting ns p.1) refl

words_fit : (ns : List ℕ) → all_true (map (fits Word) ns) ≡ true
words_fit [] = refl
words_fit (n ∷ ns) = words_fit ns

table_parts : (t : Scalar) (ns : List ℕ) → is_table t ns ≡ true → (has_entry ns ≡ true) × (all_true (map (fits t) ns) ≡ true)
table_parts Word ns h = (h, words_fit ns)
table_parts Byte ns h =
    let p = and_parts (has_entry ns) (list_all (λ n. nat_le n 255) ns) h in
    (p.0, fitting ns p.1)
table_parts Flag ns h = absurd cc

entry_back : (t : Scalar) (n : ℕ) → is_word n ≡ true → fits t n ≡ true → IsBack (entry t) printing.number n
entry_back t n h f c b = rw (number_back n h c b) (rw f refl)

entries_are_back : (t : Scalar) (ns : List ℕ) → all_true (map is_word ns) ≡ true → all_true (map (fits t) ns) ≡ true
    → AreBack (entry t) printing.number ns
entries_are_back t [] h f = tt
entries_are_back t (n ∷ ns) h f =
    let p = and_parts (is_word n) (all_true (map is_word ns)) h in
    let q = and_parts (fits t n) (all_true (map (fits t) ns)) f in
    (entry_back t n p.0 q.0, entries_are_back t ns p.1 q.1)

some_back : (t : Scalar) (p : Place) (ns : List ℕ) (cs : List Sx) → has_entry ns ≡ true → AreBack (entry t) printing.number ns
    → map bare cs ≡ map bare (map printing.number ns) → parts.some (entry t) p (map reading cs) ≡ Ok ns
some_back t p [] cs h back m = absurd cc
some_back t p (n ∷ ns) [] h back m = absurd cc
some_back t p (n ∷ ns) (c ∷ cs) h back m = each_back (entry t) printing.number (n ∷ ns) (c ∷ cs) back m

entries_back : (t : Scalar) (ns : List ℕ) → is_table t ns ≡ true → all_true (map is_word ns) ≡ true
    → (c : Sx) → bare c ≡ bare (list (map printing.number ns)) → (reading c).entries t ≡ Ok ns
entries_back t ns h f c b =
    let q = table_parts t ns h in
    at_list (map printing.number ns) c (λ r. r.entries t ≡ Ok ns) b
    (λ p cs m. some_back t p ns cs q.0 (entries_are_back t ns f q.1) m)

scalar_back : (t : Scalar) (ns : List ℕ) → is_table t ns ≡ true → (c : Sx) → bare c ≡ bare (atom (scalar_word t))
    → table_scalar (reading c) ≡ Ok t
scalar_back Word ns h c b = at_atom (codes "word") c (λ r. table_scalar r ≡ Ok Word) b (λ p. refl)
scalar_back Byte ns h c b = at_atom (codes "byte") c (λ r. table_scalar r ≡ Ok Byte) b (λ p. refl)
scalar_back Flag ns h c b = absurd cc

-- expressions
abbrev IsExprBack : Expr → Type 0
IsExprBack w = expr_formed w ≡ true → expr_spellable w ≡ true → IsBack expr printing.expr w

abbrev Proved : Type 0
Proved = (w : Expr) × IsExprBack w

abbrev answer_of : Expr → Answer Expr
answer_of w = Ok w

at_layer : (y : Expr-F Expr) (w : Expr) → roll-Expr y ≡ w
    → (expr_formed_step (map-Expr Expr Bool expr_formed y) ≡ true → expr_spellable_step (map-Expr Expr Bool expr_spellable y)
    ≡ true
    → (c : Sx) → bare c ≡ bare (expr_step (map-Expr Expr Sx printing.expr y)) → (reading c).expr ≡ Ok w)
    → IsExprBack (roll-Expr y)
at_layer y w is f h s c b =
    f (sym (fold-roll-Expr Bool expr_formed_step y) ∙ h) (sym (fold-roll-Expr Bool expr_spellable_step y) ∙ s) c
    (b ∙ ap bare (fold-roll-Expr Sx expr_step y)) ∙ ap answer_of (sym is)

node : (y : Expr-F Proved) → IsExprBack (roll-Expr (map-Expr Proved Expr (λ k. k.0) y))
node (e.Lit n) =
    at_layer (e.Lit n) (v.Lit n) (v.rolls-Lit n)
    (λ h s c b. at_atom (decimal n) c (λ r. r.expr ≡ Ok (v.Lit n)) b (λ p. literal_back p n h))
node (e.Var x) =
    at_layer (e.Var x) (v.Var x) (v.rolls-Var x)
    (λ h s c b. at_atom x c (λ r. r.expr ≡ Ok (v.Var x)) b (λ p. variable_back p x h))
node (e.Length a) =
    at_layer (e.Length a) (v.Length a) (v.rolls-Length a)
    (λ h s c b. at_worded (codes "len") (atom a ∷ []) c (λ r. r.expr ≡ Ok (v.Length a)) b
    (λ p q d bd. length_reads p q (reading d) a (name_back a h d bd)))
node (e.Bin op k m) =
    at_layer (e.Bin op k.0 m.0) (v.Bin op k.0 m.0) (v.rolls-Bin op k.0 m.0)
    (λ h s c b.
    let f = and_parts (expr_formed k.0) (expr_formed m.0) h in
    let g = and_parts (expr_spellable k.0) (expr_spellable m.0) s in
    at_worded (op_word op) (printing.expr k.0 ∷ printing.expr m.0 ∷ []) c (λ r. r.expr ≡ Ok (v.Bin op k.0 m.0)) b
    (λ p q d bd i bi. bin_reads p q (reading d) (reading i) k.0 m.0 (k.1 f.0 g.0 d bd) (m.1 f.1 g.1 i bi) op))
node (e.Test cmp k m) =
    at_layer (e.Test cmp k.0 m.0) (v.Test cmp k.0 m.0) (v.rolls-Test cmp k.0 m.0)
    (λ h s c b.
    let f = and_parts (expr_formed k.0) (expr_formed m.0) h in
    let g = and_parts (expr_spellable k.0) (expr_spellable m.0) s in
    at_worded (cmp_word cmp) (printing.expr k.0 ∷ printing.expr m.0 ∷ []) c (λ r. r.expr ≡ Ok (v.Test cmp k.0 m.0)) b
    (λ p q d bd i bi. test_reads p q (reading d) (reading i) k.0 m.0 (k.1 f.0 g.0 d bd) (m.1 f.1 g.1 i bi) cmp))
node (e.Not k) =
    at_layer (e.Not k.0) (v.Not k.0) (v.rolls-Not k.0)
    (λ h s c b. at_worded (codes "not") (printing.expr k.0 ∷ []) c (λ r. r.expr ≡ Ok (v.Not k.0)) b
    (λ p q d bd. not_reads p q (reading d) k.0 (k.1 h s d bd)))
node (e.Both k m) =
    at_layer (e.Both k.0 m.0) (v.Both k.0 m.0) (v.rolls-Both k.0 m.0)
    (λ h s c b.
    let f = and_parts (expr_formed k.0) (expr_formed m.0) h in
    let g = and_parts (expr_spellable k.0) (expr_spellable m.0) s in
    at_worded (codes "both") (printing.expr k.0 ∷ printing.expr m.0 ∷ []) c (λ r. r.expr ≡ Ok (v.Both k.0 m.0)) b
    (λ p q d bd i bi. both_reads p q (reading d) (reading i) k.0 m.0 (k.1 f.0 g.0 d bd) (m.1 f.1 g.1 i bi)))
node (e.Either k m) =
    at_layer (e.Either k.0 m.0) (v.Either k.0 m.0) (v.rolls-Either k.0 m.0)
    (λ h s c b.
    let f = and_parts (expr_formed k.0) (expr_formed m.0) h in
    let g = and_parts (expr_spellable k.0) (expr_spellable m.0) s in
    at_worded (codes "either") (printing.expr k.0 ∷ printing.expr m.0 ∷ []) c (λ r. r.expr ≡ Ok (v.Either k.0 m.0)) b
    (λ p q d bd i bi. either_reads p q (reading d) (reading i) k.0 m.0 (k.1 f.0 g.0 d bd) (m.1 f.1 g.1 i bi)))
node (e.ToWord k) =
    at_layer (e.ToWord k.0) (v.ToWord k.0) (v.rolls-ToWord k.0)
    (λ h s c b. at_worded (codes "word") (printing.expr k.0 ∷ []) c (λ r. r.expr ≡ Ok (v.ToWord k.0)) b
    (λ p q d bd. to_word_reads p q (reading d) k.0 (k.1 h s d bd)))
node (e.ToByte k) =
    at_layer (e.ToByte k.0) (v.ToByte k.0) (v.rolls-ToByte k.0)
    (λ h s c b. at_worded (codes "byte") (printing.expr k.0 ∷ []) c (λ r. r.expr ≡ Ok (v.ToByte k.0)) b
    (λ p q d bd. to_byte_reads p q (reading d) k.0 (k.1 h s d bd)))
node (e.Get a k) =
    at_layer (e.Get a k.0) (v.Get a k.0) (v.rolls-Get a k.0)
    (λ h s c b.
    let f = and_parts (is_name a) (expr_formed k.0) h in
    at_worded (codes "get") (atom a ∷ printing.expr k.0 ∷ []) c (λ r. r.expr ≡ Ok (v.Get a k.0)) b
    (λ p q d bd i bi. get_reads p q (reading d) (reading i) a k.0 (name_back a f.0 d bd) (k.1 f.1 s i bi)))
node (e.Tab t ns k) =
    at_layer (e.Tab t ns k.0) (v.Tab t ns k.0) (v.rolls-Tab t ns k.0)
    (λ h s c b.
    let f = and_parts (all_true (map is_word ns)) (expr_formed k.0) h in
    let g = and_parts (is_table t ns) (expr_spellable k.0) s in
    at_worded (codes "tab") (atom (scalar_word t) ∷ list (map printing.number ns) ∷ printing.expr k.0 ∷ []) c
    (λ r. r.expr ≡ Ok (v.Tab t ns k.0)) b
    (λ p q d bd i bi j bj. tab_reads p q (reading d) (reading i) (reading j) t ns k.0
    (scalar_back t ns g.0 d bd) (entries_back t ns g.0 f.0 i bi) (k.1 f.1 g.1 j bj)))

pub expr_back : (w : Expr) → IsExprBack w
expr_back = ind-Expr IsExprBack (λ z y is. subst (λ w. IsExprBack (roll-Expr w)) is (node y))
