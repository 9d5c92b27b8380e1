-- A property of environments that each put of some names keeps is kept by statements that change only them.
use Rattle.std.proofs.Common.{◌≡◌, refl, sym, ◌∙◌, ap, subst, ℕ, Bool, true, false, ◌||◌, List, [], ◌∷◌, map, Option, Some, None}
use Rattle.std.proofs.Common.{if◌then◌else◌}
use Rattle.rup_base.specs.declared.arg.Arg.{Arg}
use Rattle.model_syntax.specs.declared.stmt.Stmt.{Stmt, Stmt-F, map-Stmt, roll-Stmt, fold-roll-Stmt, ind-Stmt}
use Rattle.model_syntax.specs.declared.stmt.Stmt.TheOpen as s
use Rattle.model_syntax.specs.Environment.{Env, value_of, put, put_some, carry}
use Rattle.model_syntax.specs.Names.{Name, same, listed}
use Rattle.model_syntax.specs.Value as model
use Rattle.model_syntax.specs.Value.{Turn}
use Rattle.model_syntax.proofs.laws.Bindings.{same_self}
use Rattle.model_value.specs.Blocks.{changes, changes_step}

pub listed_more : (y x : Name) (xs : List Name) → listed y xs ≡ true → listed y (x ∷ xs) ≡ true
listed_more y x xs is = by (same y x) refl
  where
    by : (one : Bool) → same y x ≡ one → (same y x || listed y xs) ≡ true
    by true one = rw one refl
    by false one = rw one is

pub listed_first : (x : Name) (xs : List Name) → listed x (x ∷ xs) ≡ true
listed_first x xs = rw (same_self x) refl

module _ (P : Env → Type 0) (May : Name → Type 0) (closed : (y : Name) (v : Arg) (env : Env) → May y → P env → P (put y v env))
  where
    -- each of the names may be put
    abbrev pub AllMay : List Name → Type 0
    AllMay xs = (y : Name) → listed y xs ≡ true → May y

    some_kept : (y : Name) (v : Option Arg) (env : Env) → May y → P env → P (put_some y v env)
    some_kept y None env may p = p
    some_kept y (Some v) env may p = closed y v env may p

    carry_kept : (xs : List Name) (inner env : Env) → AllMay xs → P env → P (carry xs inner env)
    carry_kept [] inner env may p = p
    carry_kept (x ∷ xs) inner env may p =
        carry_kept xs inner (put_some x (value_of inner x) env) (λ y is. may y (listed_more y x xs is))
        (some_kept x (value_of inner x) env (may x (listed_first x xs)) p)

    folded_kept : (turn : ℕ → Turn) → ((i : ℕ) (env : Env) → P env → P (turn i env)) → (ns : List ℕ) (env : Env) → P env
        → P (model.folded turn ns env)
    folded_kept turn each [] env p = p
    folded_kept turn each (n ∷ ns) env p = folded_kept turn each ns (turn n env) (each n env p)

    abbrev Kept : List Name → Turn → Type 0
    Kept changing turn = AllMay changing → (env : Env) → P env → P (turn env)

    abbrev IsKept : Stmt → Type 0
    IsKept w = Kept (changes w) (model.run w)

    abbrev Proved : Type 0
    Proved = (w : Stmt) × IsKept w

    abbrev stmts : List Proved → List Stmt
    stmts ks = map (λ k. k.0) ks

    at_layer : (y : Stmt-F Stmt)
        → Kept (changes_step (map-Stmt Stmt (List Name) changes y)) (model.run_step (map-Stmt Stmt Turn model.run y))
        → IsKept (roll-Stmt y)
    at_layer y kept may env p =
        subst (λ (t : Turn). P (t env)) (sym (fold-roll-Stmt Turn model.run_step y))
        (kept (λ n is. may n (ap (listed n) (fold-roll-Stmt (List Name) changes_step y) ∙ is)) env p)

    if_kept : (xs : List Name) (one two : Env) (taken : Bool) (env : Env) → AllMay xs → P env
        → P (if taken then carry xs one env else carry xs two env)
    if_kept xs one two true env may p = carry_kept xs one env may p
    if_kept xs one two false env may p = carry_kept xs two env may p

    node : (y : Stmt-F Proved) → IsKept (roll-Stmt (map-Stmt Proved Stmt (λ k. k.0) y))
    node (s.Let x a) = at_layer (s.Let x a) (λ may env p. closed x _ env (may x (listed_first x [])) p)
    node (s.Put a i v) = at_layer (s.Put a i v) (λ may env p. some_kept a _ env (may a (listed_first a [])) p)
    node (s.Move b a i v) = at_layer (s.Move b a i v) (λ may env p. some_kept b _ env (may b (listed_first b [])) p)
    node (s.If test xs rs ks ms) =
        at_layer (s.If test xs rs (stmts ks) (stmts ms))
        (λ may env p. if_kept xs _ _ (model.is_true (model.eval test env)) env may p)
    node (s.For x low high xs rs ks) =
        at_layer (s.For x low high xs rs (stmts ks)) (λ may env p.
        folded_kept (model.loop_turn x xs (map model.run (stmts ks))) (λ i at_turn so_far. carry_kept xs _ at_turn may so_far)
        (model.numbers (model.eval low env) (model.eval high env)) env p)
    node (s.Map a x v) = at_layer (s.Map a x v) (λ may env p. some_kept a _ env (may a (listed_first a [])) p)
    node (s.Fold t a x v) = at_layer (s.Fold t a x v) (λ may env p. closed t _ env (may t (listed_first t [])) p)

    stmt_kept : (w : Stmt) → IsKept w
    stmt_kept = ind-Stmt IsKept (λ z y is. subst (λ w. IsKept (roll-Stmt w)) is (node y))

    -- what each statement of a block may change may be put
    abbrev pub BlockMay : List Stmt → Type 0
    BlockMay [] = Unit {0}
    BlockMay (w ∷ ws) = AllMay (changes w) × BlockMay ws

    pub block_kept : (ws : List Stmt) → BlockMay ws → (env : Env) → P env → P (model.in_turn (map model.run ws) env)
    block_kept [] may env p = p
    block_kept (w ∷ ws) may env p = block_kept ws may.1 (model.run w env) (stmt_kept w may.0 env p)
