-- Environments that tell the same have the same values of expressions, and after statements they tell the same.
use Rattle.std.proofs.Common.{◌≡◌, refl, sym, ◌∙◌, ap, subst, ℕ, ◌%◌, Bool, true, false, not, ◌&&◌, ◌||◌, List, [], ◌∷◌, map}
use Rattle.std.proofs.Common.{fold, get_or, Some, None, if◌then◌else◌}
use Rattle.rup_base.specs.declared.arg.Arg.TheVariants.{Word}
use Rattle.model_syntax.specs.declared.expr.Expr.{Expr, Expr-F, map-Expr, roll-Expr, fold-roll-Expr, ind-Expr}
use Rattle.model_syntax.specs.declared.expr.Expr.TheOpen as e
use Rattle.model_syntax.specs.declared.stmt.Stmt.{Stmt, Stmt-F, map-Stmt, roll-Stmt, fold-roll-Stmt, ind-Stmt}
use Rattle.model_syntax.specs.declared.stmt.Stmt.TheOpen as s
use Rattle.model_syntax.specs.declared.program.Ret.{Ret}
use Rattle.model_syntax.specs.declared.program.Ret.TheVariants as ret
use Rattle.model_syntax.specs.Environment.{Env, value_of, put, number, elements, size, with_element, with_each, carry}
use Rattle.model_syntax.specs.Names.{Name}
use Rattle.model_syntax.specs.Operation.{apply, holds}
use Rattle.model_syntax.specs.Value.{eval, eval_step, flag, is_true, Turn, in_turn, folded, numbers, loop_turn, run, run_step}
use Rattle.model_syntax.specs.Value.{result_of}
use Rattle.model_value.specs.Bindings.{SameValues}
use Rattle.model_value.proofs.Puts.{put_alike, some_alike, carry_alike}

-- Expressions.

abbrev IsAlike : Expr → Type 0
IsAlike w = (one two : Env) → SameValues one two → eval w one ≡ eval w two

abbrev Part : Type 0
Part = (w : Expr) × IsAlike w

expr_layer : (y : Expr-F Expr)
    → ((one two : Env) → SameValues one two → eval_step (map-Expr Expr (Env → ℕ) eval y) one
    ≡ eval_step (map-Expr Expr (Env → ℕ) eval y) two)
    → IsAlike (roll-Expr y)
expr_layer y alike one two like =
    let is : eval (roll-Expr y) ≡ eval_step (map-Expr Expr (Env → ℕ) eval y) = fold-roll-Expr (Env → ℕ) eval_step y in
    ap (λ (f : Env → ℕ). f one) is ∙ alike one two like ∙ sym (ap (λ (f : Env → ℕ). f two) is)

expr_node : (y : Expr-F Part) → IsAlike (roll-Expr (map-Expr Part Expr (λ p. p.0) y))
expr_node (e.Lit n) = expr_layer (e.Lit n) (λ one two like. refl)
expr_node (e.Var x) = expr_layer (e.Var x) (λ one two like. ap number (like x))
expr_node (e.Length a) = expr_layer (e.Length a) (λ one two like. ap (λ v. size (elements v)) (like a))
expr_node (e.Bin op p q) = expr_layer (e.Bin op p.0 q.0) (λ one two like. λ j. apply op (p.1 one two like j) (q.1 one two like j))
expr_node (e.Test op p q) = expr_layer (e.Test op p.0 q.0)
    (λ one two like. λ j. flag (holds op (p.1 one two like j) (q.1 one two like j)))
expr_node (e.Not p) = expr_layer (e.Not p.0) (λ one two like. λ j. flag (not (is_true (p.1 one two like j))))
expr_node (e.Both p q) = expr_layer (e.Both p.0 q.0)
    (λ one two like. λ j. flag (is_true (p.1 one two like j) && is_true (q.1 one two like j)))
expr_node (e.Either p q) = expr_layer (e.Either p.0 q.0)
    (λ one two like. λ j. flag (is_true (p.1 one two like j) || is_true (q.1 one two like j)))
expr_node (e.ToWord p) = expr_layer (e.ToWord p.0) (λ one two like. p.1 one two like)
expr_node (e.ToByte p) = expr_layer (e.ToByte p.0) (λ one two like. λ j. p.1 one two like j % 256)
expr_node (e.Get a i) = expr_layer (e.Get a i.0) (λ one two like. λ j. get_or (elements (like a j)) (i.1 one two like j) 0)
expr_node (e.Tab t ns i) = expr_layer (e.Tab t ns i.0) (λ one two like. λ j. get_or ns (i.1 one two like j) 0)

pub eval_alike : (w : Expr) → IsAlike w
eval_alike = ind-Expr IsAlike (λ z y is. subst (λ w. IsAlike (roll-Expr w)) is (expr_node y))

-- Statements.

abbrev AreAlike : Turn → Type 0
AreAlike turn = (one two : Env) → SameValues one two → SameValues (turn one) (turn two)

abbrev Proved : Type 0
Proved = (w : Stmt) × AreAlike (run w)

abbrev stmts : List Proved → List Stmt
stmts ks = map (λ k. k.0) ks

stmt_layer : (y : Stmt-F Stmt) → AreAlike (run_step (map-Stmt Stmt Turn run y)) → AreAlike (run (roll-Stmt y))
stmt_layer y alike = subst AreAlike (sym (fold-roll-Stmt Turn run_step y)) alike

turns_alike : (turn : ℕ → Turn) → ((i : ℕ) → AreAlike (turn i)) → (ns : List ℕ) → AreAlike (folded turn ns)
turns_alike turn each [] one two like = like
turns_alike turn each (n ∷ ns) one two like = turns_alike turn each ns (turn n one) (turn n two) (each n one two like)

in_turn_alike : (ks : List Proved) → AreAlike (in_turn (map run (stmts ks)))
in_turn_alike [] one two like = like
in_turn_alike (k ∷ ks) one two like = in_turn_alike ks (run k.0 one) (run k.0 two) (k.1 one two like)

carried_alike : (xs : List Name) (turn : Turn) → AreAlike turn → AreAlike (λ env. carry xs (turn env) env)
carried_alike xs turn alike one two like = carry_alike xs (turn one) (turn two) one two (alike one two like) like

loop_alike : (x : Name) (xs : List Name) (body : List Turn) → AreAlike (in_turn body) → (i : ℕ) → AreAlike (loop_turn x xs body i)
loop_alike x xs body alike i one two like =
    carry_alike xs (in_turn body (put x (Word i) one)) (in_turn body (put x (Word i) two)) one two
    (alike (put x (Word i) one) (put x (Word i) two) (put_alike x (Word i) (Word i) one two refl like)) like

if_alike : (p q r t : Env) (b c : Bool) → b ≡ c → SameValues p r → SameValues q t
    → SameValues (if b then p else q) (if c then r else t)
if_alike p q r t b c is first second = λ y. (λ j. value_of (if is j then p else q) y) ∙ by c y
  where
    by : (d : Bool) → SameValues (if d then p else q) (if d then r else t)
    by true = first
    by false = second

node : (y : Stmt-F Proved) → AreAlike (run (roll-Stmt (map-Stmt Proved Stmt (λ k. k.0) y)))
node (s.Let x a) = stmt_layer (s.Let x a) (λ one two like. put_alike x _ _ one two (λ j. Word (eval_alike a one two like j)) like)
node (s.Put a i v) =
    stmt_layer (s.Put a i v) (λ one two like.
    some_alike a _ _ one two (λ j. with_element (eval_alike i one two like j) (eval_alike v one two like j) (like a j)) like)
node (s.Move b a i v) =
    stmt_layer (s.Move b a i v) (λ one two like.
    some_alike b _ _ one two (λ j. with_element (eval_alike i one two like j) (eval_alike v one two like j) (like a j)) like)
node (s.If test xs rs ks ms) =
    stmt_layer (s.If test xs rs (stmts ks) (stmts ms)) (λ one two like.
    if_alike _ _ _ _ (is_true (eval test one)) (is_true (eval test two)) (λ j. is_true (eval_alike test one two like j))
    (carried_alike xs (in_turn (map run (stmts ks))) (in_turn_alike ks) one two like)
    (carried_alike xs (in_turn (map run (stmts ms))) (in_turn_alike ms) one two like))
node (s.For x low high xs rs ks) =
    stmt_layer (s.For x low high xs rs (stmts ks)) (λ one two like. λ y.
    (λ j. value_of (folded (loop_turn x xs (map run (stmts ks)))
    (numbers (eval_alike low one two like j) (eval_alike high one two like j)) one) y)
    ∙ turns_alike (loop_turn x xs (map run (stmts ks))) (loop_alike x xs (map run (stmts ks)) (in_turn_alike ks))
    (numbers (eval low two) (eval high two)) one two like y)
node (s.Map a x v) =
    stmt_layer (s.Map a x v) (λ one two like.
    some_alike a _ _ one two (λ j.
    with_each (λ old. eval_alike v (put x (Word old) one) (put x (Word old) two)
    (put_alike x (Word old) (Word old) one two refl like) j) (like a j)) like)
node (s.Fold t a x v) =
    stmt_layer (s.Fold t a x v) (λ one two like.
    put_alike t _ _ one two (λ j. Word (fold (λ so_far element.
    eval_alike v (put x (Word element) (put t (Word so_far) one)) (put x (Word element) (put t (Word so_far) two))
    (put_alike x (Word element) (Word element) _ _ refl (put_alike t (Word so_far) (Word so_far) one two refl like)) j)
    (number (like t j)) (elements (like a j)))) like)

pub run_alike : (w : Stmt) → AreAlike (run w)
run_alike = ind-Stmt (λ w. AreAlike (run w)) (λ z y is. subst (λ w. AreAlike (run (roll-Stmt w))) is (node y))

pub block_alike : (ws : List Stmt) → AreAlike (in_turn (map run ws))
block_alike [] one two like = like
block_alike (w ∷ ws) one two like = block_alike ws (run w one) (run w two) (run_alike w one two like)

-- Results.

result_alike : (one two : Env) → SameValues one two → (r : Ret) → result_of one r ≡ result_of two r
result_alike one two like (ret.Scalar x) = ap (λ v. Word (number v)) (like x)
result_alike one two like (ret.Array a p) = ap (λ v. elim v [ Some w ↦ w | None ↦ Word 0 ]) (like a)

pub results_alike : (one two : Env) → SameValues one two → (rs : List Ret) → map (result_of one) rs ≡ map (result_of two) rs
results_alike one two like [] = refl
results_alike one two like (r ∷ rs) = λ j. result_alike one two like r j ∷ results_alike one two like rs j
