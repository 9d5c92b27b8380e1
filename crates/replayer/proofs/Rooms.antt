-- Where there is room for the locals of commands, there is room for those that they set.
use Rattle.std.proofs.Common.{◌≡◌, refl, subst, arith, ℕ, ◌<◌, nat_eq, nat_lt, Bool, true, false, ◌&&◌, ◌||◌, List, [], ◌∷◌, ◌++◌}
use Rattle.std.proofs.Common.{map, ⊎_elim}
use Rattle.std.proofs.lemmas.Bool.Decides.{eqb_tells, nat_tests}
use Rattle.rup_base.specs.Gather.{all_true}
use Rattle.bed_syntax.specs.Shape.{is_known, noted, expr_locals, expr_locals_step, cmd_locals, cmd_locals_step, in_turn}
use Rattle.bed_syntax.specs.declared.expression.BExpr.{BExpr, BExpr-F, map-BExpr, roll-BExpr, fold-roll-BExpr, ind-BExpr}
use Rattle.bed_syntax.specs.declared.expression.BExpr.TheOpen as e
use Rattle.bed_syntax.specs.declared.command.Cmd.{Cmd, Cmd-F, map-Cmd, roll-Cmd, fold-roll-Cmd, ind-Cmd}
use Rattle.bed_syntax.specs.declared.command.Cmd.TheOpen as c
use Rattle.stmt_rules.specs.Bound.{sets_below, sets_below_step}

abbrev Noting : Type 0
Noting = List ℕ → List ℕ

-- what was noted stays
abbrev Grows : Noting → Type 0
Grows f = (xs : List ℕ) (l : ℕ) → is_known xs l ≡ true → is_known (f xs) l ≡ true

-- Lists.

or_more : (a p q : Bool) → (a || p) ≡ true → (p ≡ true → q ≡ true) → (a || q) ≡ true
or_more true p q is more = refl
or_more false p q is more = more is

or_last : (a p : Bool) → p ≡ true → (a || p) ≡ true
or_last true p is = refl
or_last false p is = is

known_before : (xs ys : List ℕ) (l : ℕ) → is_known xs l ≡ true → is_known (xs ++ ys) l ≡ true
known_before [] ys l is = absurd (let bad : false ≡ true = is in cc)
known_before (x ∷ xs) ys l is = or_more (nat_eq x l) (is_known xs l) (is_known (xs ++ ys) l) is (known_before xs ys l)

equal : (l : ℕ) → nat_eq l l ≡ true
equal l = ⊎_elim (λ p. p.0) (λ p. absurd (p.1 refl)) (eqb_tells l l)

known_last : (xs : List ℕ) (l : ℕ) → is_known (xs ++ l ∷ []) l ≡ true
known_last [] l = rw (equal l) refl
known_last (x ∷ xs) l = or_last (nat_eq x l) (is_known (xs ++ l ∷ []) l) (known_last xs l)

noted_knows : (l : ℕ) (xs : List ℕ) → is_known (noted l xs) l ≡ true
noted_knows l xs = by (is_known xs l) refl where
  by : (b : Bool) → is_known xs l ≡ b → is_known (noted l xs) l ≡ true
  by true is = rw is is
  by false is = rw is (known_last xs l)

noted_grows : (x : ℕ) → Grows (noted x)
noted_grows x xs l known = by (is_known xs x) refl where
  by : (b : Bool) → is_known xs x ≡ b → is_known (noted x xs) l ≡ true
  by true is = rw is known
  by false is = rw is (known_before xs (x ∷ []) l known)

self_grows : Grows (λ xs. xs)
self_grows xs l known = known

grows_then : (f g : Noting) → Grows f → Grows g → Grows (λ xs. g (f xs))
grows_then f g one two xs l known = two (f xs) l (one xs l known)

-- Expressions.

abbrev ExprProved : Type 0
ExprProved = (a : BExpr) × Grows (expr_locals a)

abbrev bare_expr : BExpr-F ExprProved → BExpr-F BExpr
bare_expr y = map-BExpr ExprProved BExpr (λ p. p.0) y

expr_step_grows : (y : BExpr-F ExprProved) → Grows (expr_locals_step (map-BExpr BExpr Noting expr_locals (bare_expr y)))
expr_step_grows (e.Lit n) = self_grows
expr_step_grows (e.Var x) = noted_grows x
expr_step_grows (e.Bin op a b) = grows_then (expr_locals a.0) (expr_locals b.0) a.1 b.1
expr_step_grows (e.Load size a) = a.1
expr_step_grows (e.Table size bytes a) = a.1

expr_rolled : (y : BExpr-F BExpr) → Grows (expr_locals_step (map-BExpr BExpr Noting expr_locals y))
    → Grows (expr_locals (roll-BExpr y))
expr_rolled y h = rw (fold-roll-BExpr Noting expr_locals_step y) h

expr_grows : (a : BExpr) → Grows (expr_locals a)
expr_grows = ind-BExpr (λ a. Grows (expr_locals a))
    (λ z y is. subst (λ r. Grows (expr_locals (roll-BExpr r))) is (expr_rolled (bare_expr y) (expr_step_grows y)))

-- Commands.

module _ (n : ℕ) where
  abbrev Roomy : Noting → Bool → Type 0
  Roomy f below = (xs : List ℕ) → ((l : ℕ) → is_known (f xs) l ≡ true → l < n) → below ≡ true

  record IsRoomy (f : Noting) (below : Bool) : Type 0 where
    grows : Grows f
    room : Roomy f below

  abbrev Right : Cmd → Type 0
  Right a = IsRoomy (cmd_locals a) (sets_below n a)

  abbrev Proved : Type 0
  Proved = (a : Cmd) × Right a

  abbrev bare : Cmd-F Proved → Cmd-F Cmd
  bare y = map-Cmd Proved Cmd (λ p. p.0) y

  abbrev StepRight : Cmd-F Cmd → Type 0
  StepRight y = IsRoomy (cmd_locals_step (map-Cmd Cmd Noting cmd_locals y))
      (sets_below_step n (map-Cmd Cmd Bool (sets_below n) y))

  both : (a b : Bool) → a ≡ true → b ≡ true → (a && b) ≡ true
  both true b one two = two
  both false b one two = absurd (let bad : false ≡ true = one in cc)

  none_roomy : IsRoomy (λ xs. xs) true
  none_roomy = record { grows = self_grows; room = λ xs below. refl }

  then_roomy : (f g : Noting) (a b : Bool) → IsRoomy f a → IsRoomy g b → IsRoomy (λ xs. g (f xs)) (a && b)
  then_roomy f g a b one two = record {
    grows = grows_then f g one.grows two.grows;
    room = λ xs below. both a b (one.room xs (λ l known. below l (two.grows (f xs) l known))) (two.room (f xs) below);
  }

  after_roomy : (f g : Noting) (b : Bool) → Grows f → IsRoomy g b → IsRoomy (λ xs. g (f xs)) b
  after_roomy f g b one two = record { grows = grows_then f g one two.grows; room = λ xs below. two.room (f xs) below }

  set_roomy : (x : ℕ) → IsRoomy (noted x) (nat_lt x n)
  set_roomy x = record {
    grows = noted_grows x;
    room = λ xs below. (let less : x < n = below x (noted_knows x xs) in grind (arith, nat_tests));
  }

  store_roomy : (f : Noting) → Grows f → IsRoomy f true
  store_roomy f grows = record { grows = grows; room = λ xs below. refl }

  all_right : (cs : List Proved)
      → IsRoomy (in_turn (map cmd_locals (map (λ p. p.0) cs))) (all_true (map (sets_below n) (map (λ p. p.0) cs)))
  all_right [] = none_roomy
  all_right (a ∷ cs) =
      then_roomy (cmd_locals a.0) (in_turn (map cmd_locals (map (λ p. p.0) cs))) (sets_below n a.0)
      (all_true (map (sets_below n) (map (λ p. p.0) cs))) a.1 (all_right cs)

  step_right : (y : Cmd-F Proved) → StepRight (bare y)
  step_right (c.Set x e) = after_roomy (expr_locals e) (noted x) (nat_lt x n) (expr_grows e) (set_roomy x)
  step_right (c.Store size a e) =
      store_roomy (λ xs. expr_locals e (expr_locals a xs))
      (grows_then (expr_locals a) (expr_locals e) (expr_grows a) (expr_grows e))
  step_right (c.Cond e p q) =
      after_roomy (expr_locals e) (λ xs. cmd_locals q.0 (cmd_locals p.0 xs)) (sets_below n p.0 && sets_below n q.0) (expr_grows e)
      (then_roomy (cmd_locals p.0) (cmd_locals q.0) (sets_below n p.0) (sets_below n q.0) p.1 q.1)
  step_right (c.Seq cs) = all_right cs
  step_right (c.While e p) = after_roomy (expr_locals e) (cmd_locals p.0) (sets_below n p.0) (expr_grows e) p.1

  rolled : (y : Cmd-F Cmd) → StepRight y → Right (roll-Cmd y)
  rolled y h = rw (fold-roll-Cmd Noting cmd_locals_step y, fold-roll-Cmd Bool (sets_below_step n) y) h

  right : (a : Cmd) → Right a
  right = ind-Cmd Right (λ z y is. subst (λ r. Right (roll-Cmd r)) is (rolled (bare y) (step_right y)))

  pub has_room : (a : Cmd) (xs : List ℕ) → ((l : ℕ) → is_known (cmd_locals a xs) l ≡ true → l < n) → sets_below n a ≡ true
  has_room a = (right a).room
