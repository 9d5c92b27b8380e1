-- The generated statements are formed and spellable, and within the limits.
use Rattle.std.proofs.Common.{◌≡◌, refl, ◌∙◌, subst, arith, ℕ, zero, suc, ◌+◌, ◌%◌, ◌<◌, ◌≤◌, sum, nat_eq, Bool, true, false}
use Rattle.std.proofs.Common.{List, [], ◌∷◌, ◌++◌, map, if◌then◌else◌}
use Rattle.std.proofs.Math.Nat.{max-le}
use Rattle.std.specs.List.{range_with_len}
use Rattle.std.proofs.lemmas.List.Sums.{sum_by-cons}
use Rattle.rup_base.specs.Gather.{all_true, greatest}
use Rattle.rup_base.specs.Name.{is_name}
use Rattle.model_syntax.specs.Formed.{expr_formed, expr_formed_step, stmt_formed, stmt_formed_step}
use Rattle.model_syntax.specs.Kinds.{is_word}
use Rattle.model_syntax.specs.Limits.{expr_depth, expr_depth_step, expr_tables, expr_tables_step, stmt_count, stmt_count_step}
use Rattle.model_syntax.specs.Limits.{stmt_depth, stmt_depth_step, stmt_blocks, stmt_blocks_step, stmt_tables, stmt_tables_step}
use Rattle.model_syntax.specs.Names.{Name}
use Rattle.model_syntax.specs.Spelling.{expr_spellable, expr_spellable_step, stmt_spellable, stmt_spellable_step}
use Rattle.model_syntax.specs.declared.expr.Expr.{Expr}
use Rattle.model_syntax.specs.declared.expr.Expr.TheVariants.{Lit, Var, Bin, ToWord}
use Rattle.model_syntax.specs.declared.expr.Op.{Op}
use Rattle.model_syntax.specs.declared.expr.Op.TheVariants as op
use Rattle.model_syntax.specs.declared.stmt.Stmt.{Stmt}
use Rattle.model_syntax.specs.declared.stmt.Stmt.TheOpen as s
use Rattle.model_syntax.specs.declared.stmt.Stmt.TheVariants as w
use Rattle.bench_gen.specs.Generator.{next, after_four, drawn, scalar, word_name, array_name, element_name, var, first}
use Rattle.bench_gen.specs.Generator.{sum as add, mix, shift, hash, of_kind, statement, statements}
use Rattle.bench_gen.proofs.Nodes.{below_eight, at_lit, at_var, at_bin, at_word, at_stmt}

-- Expressions.

-- an expression of depth d at most, with no tables
pub record Modest (d : ℕ) (p : Expr) : Type 0 where
  pub formed : expr_formed p ≡ true
  pub spelled : expr_spellable p ≡ true
  pub depth : expr_depth p ≤ d
  pub tables : expr_tables p ≡ 0

lit_modest : (n : ℕ) → is_word n ≡ true → Modest 1 (Lit n)
lit_modest n is = record {
  formed = at_lit Bool expr_formed_step n ∙ is;
  spelled = at_lit Bool expr_spellable_step n;
  depth = omega (arith, at_lit ℕ expr_depth_step n);
  tables = at_lit ℕ expr_tables_step n;
}

var_modest : (x : Name) → is_name x ≡ true → Modest 1 (Var x)
var_modest x is = record {
  formed = at_var Bool expr_formed_step x ∙ is;
  spelled = at_var Bool expr_spellable_step x;
  depth = omega (arith, at_var ℕ expr_depth_step x);
  tables = at_var ℕ expr_tables_step x;
}

bin_modest : (o : Op) (d : ℕ) (p q : Expr) → Modest d p → Modest d q → Modest (d + 1) (Bin o p q)
bin_modest o d p q one two = record {
  formed = at_bin Bool expr_formed_step o p q ∙ rw (one.formed, two.formed) refl;
  spelled = at_bin Bool expr_spellable_step o p q ∙ rw (one.spelled, two.spelled) refl;
  depth = omega (arith, at_bin ℕ expr_depth_step o p q, one.depth, two.depth, max-le one.depth two.depth);
  tables = at_bin ℕ expr_tables_step o p q ∙ rw (one.tables, two.tables) refl;
}

word_modest : (d : ℕ) (p : Expr) → Modest d p → Modest (d + 1) (ToWord p)
word_modest d p is = record {
  formed = at_word Bool expr_formed_step p ∙ is.formed;
  spelled = at_word Bool expr_spellable_step p ∙ is.spelled;
  depth = omega (arith, at_word ℕ expr_depth_step p, is.depth);
  tables = at_word ℕ expr_tables_step p ∙ is.tables;
}

deeper : (d e : ℕ) (p : Expr) → d ≤ e → Modest d p → Modest e p
deeper d e p more is = record {
  formed = is.formed;
  spelled = is.spelled;
  depth = omega (arith, more, is.depth);
  tables = is.tables;
}

-- Statements.

-- one statement with no block and no table
pub record Single (x : Stmt) : Type 0 where
  pub formed : stmt_formed x ≡ true
  pub spelled : stmt_spellable x ≡ true
  pub count : stmt_count x ≡ 1
  pub depth : stmt_depth x ≤ 64
  pub blocks : stmt_blocks x ≡ 0
  pub tables : stmt_tables x ≡ 0

let_single : (x : Name) (p : Expr) → is_name x ≡ true → Modest 64 p → Single (w.Let x p)
let_single x p is of = record {
  formed = at_stmt Bool stmt_formed_step (s.Let x p) _ (w.rolls-Let x p) ∙ rw (is, of.formed) refl;
  spelled = at_stmt Bool stmt_spellable_step (s.Let x p) _ (w.rolls-Let x p) ∙ of.spelled;
  count = at_stmt ℕ stmt_count_step (s.Let x p) _ (w.rolls-Let x p);
  depth = omega (arith, at_stmt ℕ stmt_depth_step (s.Let x p) _ (w.rolls-Let x p), of.depth);
  blocks = at_stmt ℕ stmt_blocks_step (s.Let x p) _ (w.rolls-Let x p);
  tables = at_stmt ℕ stmt_tables_step (s.Let x p) _ (w.rolls-Let x p) ∙ of.tables;
}

fold_single : (t a x : Name) (p : Expr) → is_name t ≡ true → is_name a ≡ true → is_name x ≡ true → Modest 64 p
    → Single (w.Fold t a x p)
fold_single t a x p one two three of = record {
  formed = at_stmt Bool stmt_formed_step (s.Fold t a x p) _ (w.rolls-Fold t a x p) ∙ rw (one, two, three, of.formed) refl;
  spelled = at_stmt Bool stmt_spellable_step (s.Fold t a x p) _ (w.rolls-Fold t a x p) ∙ of.spelled;
  count = at_stmt ℕ stmt_count_step (s.Fold t a x p) _ (w.rolls-Fold t a x p);
  depth = omega (arith, at_stmt ℕ stmt_depth_step (s.Fold t a x p) _ (w.rolls-Fold t a x p), of.depth);
  blocks = at_stmt ℕ stmt_blocks_step (s.Fold t a x p) _ (w.rolls-Fold t a x p);
  tables = at_stmt ℕ stmt_tables_step (s.Fold t a x p) _ (w.rolls-Fold t a x p) ∙ of.tables;
}

-- The generator's statements.

-- x0 to x7 are names
scalar_name : (k : ℕ) → k < 8 → is_name (scalar k) ≡ true
scalar_name = below_eight (λ k. is_name (scalar k) ≡ true) refl refl refl refl refl refl refl refl

pub var_is : (k : ℕ) → k < 8 → Modest 1 (var k)
var_is k few = var_modest (scalar k) (scalar_name k few)

pub first_single : (k : ℕ) → k < 8 → Single (first k)
first_single k few =
    let_single (scalar k) _ (scalar_name k few)
    (deeper 2 64 _ (omega arith) (bin_modest op.Add 1 _ _ (var_modest word_name refl) (lit_modest k (small k few))))
  where
    small : (n : ℕ) → n < 8 → is_word n ≡ true
    small n below = grind (arith, below)

sum_single : (a b c : ℕ) → a < 8 → b < 8 → c < 8 → Single (add a b c)
sum_single a b c i j k =
    let_single (scalar a) _ (scalar_name a i) (deeper 2 64 _ (omega arith) (bin_modest op.Add 1 _ _ (var_is b j) (var_is c k)))

mix_single : (a b c : ℕ) → a < 8 → b < 8 → c < 8 → Single (mix a b c)
mix_single a b c i j k =
    let_single (scalar a) _ (scalar_name a i)
    (deeper 3 64 _ (omega arith) (bin_modest op.Xor 2 _ _ (deeper 1 2 _ (omega arith) (var_is b j))
    (bin_modest op.Mul 1 _ _ (var_is c k) (lit_modest 31 refl))))

shift_single : (a b c : ℕ) → a < 8 → b < 8 → c < 8 → Single (shift a b c)
shift_single a b c i j k =
    let_single (scalar a) _ (scalar_name a i)
    (deeper 3 64 _ (omega arith) (bin_modest op.Sub 2 _ _ (bin_modest op.Shr 1 _ _ (var_is b j) (lit_modest 3 refl))
    (deeper 1 2 _ (omega arith) (var_is c k))))

hash_single : (a : ℕ) → a < 8 → Single (hash a)
hash_single a i =
    fold_single (scalar a) array_name element_name _ (scalar_name a i) refl refl
    (deeper 3 64 _ (omega arith) (bin_modest op.Add 2 _ _ (bin_modest op.Mul 1 _ _ (var_is a i) (lit_modest 31 refl))
    (word_modest 1 _ (var_modest element_name refl))))

kind_single : (kind a b c : ℕ) → a < 8 → b < 8 → c < 8 → Single (of_kind kind a b c)
kind_single kind a b c i j k = by (nat_eq kind 0) (nat_eq kind 1) (nat_eq kind 2)
  where
    by : (p q r : Bool) → Single (if p then add a b c else (if q then mix a b c else (if r then shift a b c else hash a)))
    by true q r = sum_single a b c i j k
    by false true r = mix_single a b c i j k
    by false false true = shift_single a b c i j k
    by false false false = hash_single a i

pub statement_single : (state : ℕ) → Single (statement state)
statement_single state = kind_single (drawn (next state) % 4) _ _ _ (omega arith) (omega arith) (omega arith)

-- Lists of statements.

pub record Singles (n : ℕ) (xs : List Stmt) : Type 0 where
  pub formed : all_true (map stmt_formed xs) ≡ true
  pub spelled : all_true (map stmt_spellable xs) ≡ true
  pub count : sum (map stmt_count xs) ≡ n
  pub depth : greatest (map stmt_depth xs) ≤ 64
  pub blocks : greatest (map stmt_blocks xs) ≡ 0
  pub tables : sum (map stmt_tables xs) ≡ 0

sum_cons : (n : ℕ) (ns : List ℕ) → sum (n ∷ ns) ≡ n + sum ns
sum_cons n ns = sum_by-cons (λ m. m) n ns

pub no_singles : Singles 0 []
no_singles = record { formed = refl; spelled = refl; count = refl; depth = omega arith; blocks = refl; tables = refl }

pub one_more : (n : ℕ) (x : Stmt) (xs : List Stmt) → Single x → Singles n xs → Singles (n + 1) (x ∷ xs)
one_more n x xs here more = record {
  formed = rw (here.formed, more.formed) refl;
  spelled = rw (here.spelled, more.spelled) refl;
  count = omega (arith, sum_cons (stmt_count x) (map stmt_count xs), here.count, more.count);
  depth = max-le here.depth more.depth;
  blocks = rw (here.blocks, more.blocks) refl;
  tables = omega (arith, sum_cons (stmt_tables x) (map stmt_tables xs), here.tables, more.tables);
}

pub drawn_singles : (count state : ℕ) → Singles count (statements count state)
drawn_singles zero state = no_singles
drawn_singles (suc count) state =
    subst (λ z. Singles z (statements (suc count) state)) (omega arith)
    (one_more count (statement state) (statements count (after_four state)) (statement_single state)
    (drawn_singles count (after_four state)))

-- n of the eight from k on, and m behind them
pub first_singles : (n k m all : ℕ) (xs : List Stmt) → k + n ≤ 8 → all ≡ n + m → Singles m xs
    → Singles all (map first (range_with_len k n) ++ xs)
first_singles zero k m all xs few is more = subst (λ z. Singles z xs) (omega (arith, is)) more
first_singles (suc n) k m all xs few is more =
    let rest = first_singles n (k + 1) m (n + m) xs (omega (arith, few)) refl more in
    subst (λ z. Singles z (map first (range_with_len k (suc n)) ++ xs)) (omega (arith, is))
    (one_more (n + m) (first k) (map first (range_with_len (k + 1) n) ++ xs) (first_single k (omega (arith, few))) rest)
