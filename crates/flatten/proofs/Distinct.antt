-- No local stands twice among the locals of a command.
use Rattle.std.proofs.Common.{◌≡◌, refl, ap, subst, ◌∙◌, arith, ℕ, zero, suc, ◌<◌, min, Bool, true, false, ◌||◌, nat_eq, List, []}
use Rattle.std.proofs.Common.{◌∷◌, ◌++◌, length, map, if◌then◌else◌}
use Rattle.bed_syntax.specs.Shape.{is_known, noted, all_noted, numbers, locals_of, expr_locals, expr_locals_step, cmd_locals}
use Rattle.bed_syntax.specs.Shape.{cmd_locals_step, in_turn}
use Rattle.bed_syntax.specs.declared.expression.BExpr.{BExpr, BExpr-F, map-BExpr, roll-BExpr, fold-roll-BExpr, ind-BExpr}
use Rattle.bed_syntax.specs.declared.expression.BExpr.TheOpen as e
use Rattle.bed_syntax.specs.declared.command.Cmd.{Cmd, Cmd-F, map-Cmd, roll-Cmd, fold-roll-Cmd, ind-Cmd}
use Rattle.bed_syntax.specs.declared.command.Cmd.TheOpen as c
use Rattle.flatten.specs.Code.{place}
use Rattle.flatten.proofs.Places.{known_place, length-numbers, place-numbers}

abbrev pub Unique : List ℕ → Type 0
Unique [] = Unit {0}
Unique (x ∷ xs) = (is_known xs x ≡ false) × Unique xs

neither : (a b : Bool) → (a || b) ≡ false → (a ≡ false) × (b ≡ false)
neither true b h = absurd (let bad : true ≡ false = h in cc)
neither false b h = (refl, h)

not_known_behind : (xs : List ℕ) (x y : ℕ) → is_known xs y ≡ false → nat_eq x y ≡ false → is_known (xs ++ x ∷ []) y ≡ false
not_known_behind [] x y h other = rw (other) refl
not_known_behind (z ∷ xs) x y h other =
    let parts = neither (nat_eq z y) (is_known xs y) h in
    ap (λ b. b || is_known (xs ++ x ∷ []) y) parts.0 ∙ not_known_behind xs x y parts.1 other

other_way : (x y : ℕ) → nat_eq y x ≡ false → nat_eq x y ≡ false
other_way x y h = grind (arith, h)

unique_behind : (xs : List ℕ) (x : ℕ) → Unique xs → is_known xs x ≡ false → Unique (xs ++ x ∷ [])
unique_behind [] x unique new = (refl, tt)
unique_behind (y ∷ xs) x unique new =
    let parts = neither (nat_eq y x) (is_known xs x) new in
    (not_known_behind xs x y unique.0 (other_way x y parts.0), unique_behind xs x unique.1 parts.1)

unique_noted : (x : ℕ) (xs : List ℕ) → Unique xs → Unique (noted x xs)
unique_noted x xs unique = by_known (is_known xs x) refl
  where
    by_known : (b : Bool) → is_known xs x ≡ b → Unique (if b then xs else xs ++ x ∷ [])
    by_known true is = unique
    by_known false is = unique_behind xs x unique is

unique_all_noted : (ys xs : List ℕ) → Unique xs → Unique (all_noted ys xs)
unique_all_noted [] xs unique = unique
unique_all_noted (y ∷ ys) xs unique = unique_all_noted ys (noted y xs) (unique_noted y xs unique)

unknown_number : (n : ℕ) (b : Bool) → is_known (numbers n) n ≡ b → b ≡ false
unknown_number n false h = refl
unknown_number n true h =
    let k : place (numbers n) n < length (numbers n) = known_place (numbers n) n h in
    let p : place (numbers n) n ≡ min n n = place-numbers n n in
    let l : length (numbers n) ≡ n = length-numbers n in
    absurd (omega arith)

unique_numbers : (n : ℕ) → Unique (numbers n)
unique_numbers zero = tt
unique_numbers (suc n) = unique_behind (numbers n) n (unique_numbers n) (unknown_number n (is_known (numbers n) n) refl)

abbrev Keeps : (List ℕ → List ℕ) → Type 0
Keeps locals = (ms : List ℕ) → Unique ms → Unique (locals ms)

abbrev ExprProved : Type 0
ExprProved = (a : BExpr) × Keeps (expr_locals a)

abbrev bare_expr : BExpr-F ExprProved → BExpr-F BExpr
bare_expr y = map-BExpr ExprProved BExpr (λ p. p.0) y

expr_step_keeps : (y : BExpr-F ExprProved)
    → Keeps (expr_locals_step (map-BExpr BExpr (List ℕ → List ℕ) expr_locals (bare_expr y)))
expr_step_keeps (e.Lit n) ms unique = unique
expr_step_keeps (e.Var x) ms unique = unique_noted x ms unique
expr_step_keeps (e.Bin op a b) ms unique = b.1 (expr_locals a.0 ms) (a.1 ms unique)
expr_step_keeps (e.Load size a) ms unique = a.1 ms unique
expr_step_keeps (e.Table size bytes a) ms unique = a.1 ms unique

expr_rolled : (y : BExpr-F BExpr) → Keeps (expr_locals_step (map-BExpr BExpr (List ℕ → List ℕ) expr_locals y))
    → Keeps (expr_locals (roll-BExpr y))
expr_rolled y h = rw (fold-roll-BExpr (List ℕ → List ℕ) expr_locals_step y) h

expr_keeps : (a : BExpr) → Keeps (expr_locals a)
expr_keeps = ind-BExpr (λ a. Keeps (expr_locals a))
    (λ z y is. subst (λ r. Keeps (expr_locals (roll-BExpr r))) is (expr_rolled (bare_expr y) (expr_step_keeps y)))

abbrev CmdProved : Type 0
CmdProved = (a : Cmd) × Keeps (cmd_locals a)

abbrev bare_cmd : Cmd-F CmdProved → Cmd-F Cmd
bare_cmd y = map-Cmd CmdProved Cmd (λ p. p.0) y

all_keep : (cs : List CmdProved) → Keeps (in_turn (map cmd_locals (map (λ p. p.0) cs)))
all_keep [] ms unique = unique
all_keep (a ∷ cs) ms unique = all_keep cs (cmd_locals a.0 ms) (a.1 ms unique)

cmd_step_keeps : (y : Cmd-F CmdProved) → Keeps (cmd_locals_step (map-Cmd Cmd (List ℕ → List ℕ) cmd_locals (bare_cmd y)))
cmd_step_keeps (c.Set x e) ms unique = unique_noted x (expr_locals e ms) (expr_keeps e ms unique)
cmd_step_keeps (c.Store size a e) ms unique = expr_keeps e (expr_locals a ms) (expr_keeps a ms unique)
cmd_step_keeps (c.Cond e p q) ms unique =
    q.1 (cmd_locals p.0 (expr_locals e ms)) (p.1 (expr_locals e ms) (expr_keeps e ms unique))
cmd_step_keeps (c.Seq cs) ms unique = all_keep cs ms unique
cmd_step_keeps (c.While e p) ms unique = p.1 (expr_locals e ms) (expr_keeps e ms unique)

cmd_rolled : (y : Cmd-F Cmd) → Keeps (cmd_locals_step (map-Cmd Cmd (List ℕ → List ℕ) cmd_locals y))
    → Keeps (cmd_locals (roll-Cmd y))
cmd_rolled y h = rw (fold-roll-Cmd (List ℕ → List ℕ) cmd_locals_step y) h

cmd_keeps : (a : Cmd) → Keeps (cmd_locals a)
cmd_keeps = ind-Cmd (λ a. Keeps (cmd_locals a))
    (λ z y is. subst (λ r. Keeps (cmd_locals (roll-Cmd r))) is (cmd_rolled (bare_cmd y) (cmd_step_keeps y)))

pub locals_unique : (a : Cmd) (args : ℕ) (rets : List ℕ) → Unique (locals_of a args rets)
locals_unique a args rets = unique_all_noted rets (cmd_locals a (numbers args)) (cmd_keeps a (numbers args) (unique_numbers args))
