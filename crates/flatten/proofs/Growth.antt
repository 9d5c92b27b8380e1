-- The lists of the locals of expressions and commands keep what was in them, at its place.
use Rattle.std.proofs.Common.{subst, ℕ, List, [], ◌∷◌, map}
use Rattle.bed_syntax.specs.Shape.{noted, expr_locals, expr_locals_step, cmd_locals, cmd_locals_step, in_turn}
use Rattle.bed_syntax.specs.declared.expression.BExpr.{BExpr, BExpr-F, map-BExpr, roll-BExpr, fold-roll-BExpr, ind-BExpr}
use Rattle.bed_syntax.specs.declared.expression.BExpr.TheOpen as e
use Rattle.bed_syntax.specs.declared.command.Cmd.{Cmd, Cmd-F, map-Cmd, roll-Cmd, fold-roll-Cmd, ind-Cmd}
use Rattle.bed_syntax.specs.declared.command.Cmd.TheOpen as c
use Rattle.flatten.proofs.Places.{Extends, extends_self, extends_through, extends_noted}

abbrev pub Grows : (List ℕ → List ℕ) → Type 0
Grows locals = (ms : List ℕ) → Extends ms (locals ms)

pub grows_then : (f g : List ℕ → List ℕ) → Grows f → Grows g → Grows (λ ms. g (f ms))
grows_then f g x y ms = extends_through ms (f ms) (g (f ms)) (x ms) (y (f ms))

abbrev ExprProved : Type 0
ExprProved = (a : BExpr) × Grows (expr_locals a)

abbrev bare_expr : BExpr-F ExprProved → BExpr-F BExpr
bare_expr y = map-BExpr ExprProved BExpr (λ p. p.0) y

expr_step_grows : (y : BExpr-F ExprProved)
    → Grows (expr_locals_step (map-BExpr BExpr (List ℕ → List ℕ) expr_locals (bare_expr y)))
expr_step_grows (e.Lit n) = extends_self
expr_step_grows (e.Var x) = extends_noted x
expr_step_grows (e.Bin op a b) = grows_then (expr_locals a.0) (expr_locals b.0) a.1 b.1
expr_step_grows (e.Load size a) = a.1
expr_step_grows (e.Table size bytes a) = a.1

expr_rolled : (y : BExpr-F BExpr) → Grows (expr_locals_step (map-BExpr BExpr (List ℕ → List ℕ) expr_locals y))
    → Grows (expr_locals (roll-BExpr y))
expr_rolled y h = rw (fold-roll-BExpr (List ℕ → List ℕ) expr_locals_step y) h

pub expr_grows : (a : BExpr) → Grows (expr_locals a)
expr_grows = ind-BExpr (λ a. Grows (expr_locals a))
    (λ z y is. subst (λ r. Grows (expr_locals (roll-BExpr r))) is (expr_rolled (bare_expr y) (expr_step_grows y)))

abbrev CmdProved : Type 0
CmdProved = (a : Cmd) × Grows (cmd_locals a)

abbrev bare_cmd : Cmd-F CmdProved → Cmd-F Cmd
bare_cmd y = map-Cmd CmdProved Cmd (λ p. p.0) y

all_grow : (cs : List CmdProved) → Grows (in_turn (map cmd_locals (map (λ p. p.0) cs)))
all_grow [] = extends_self
all_grow (a ∷ cs) = grows_then (cmd_locals a.0) (in_turn (map cmd_locals (map (λ p. p.0) cs))) a.1 (all_grow cs)

cmd_step_grows : (y : Cmd-F CmdProved) → Grows (cmd_locals_step (map-Cmd Cmd (List ℕ → List ℕ) cmd_locals (bare_cmd y)))
cmd_step_grows (c.Set x e) = grows_then (expr_locals e) (λ ms. noted x ms) (expr_grows e) (extends_noted x)
cmd_step_grows (c.Store size a e) = grows_then (expr_locals a) (expr_locals e) (expr_grows a) (expr_grows e)
cmd_step_grows (c.Cond e p q) =
    grows_then (expr_locals e) (λ ms. cmd_locals q.0 (cmd_locals p.0 ms)) (expr_grows e)
    (grows_then (cmd_locals p.0) (cmd_locals q.0) p.1 q.1)
cmd_step_grows (c.Seq cs) = all_grow cs
cmd_step_grows (c.While e p) = grows_then (expr_locals e) (cmd_locals p.0) (expr_grows e) p.1

cmd_rolled : (y : Cmd-F Cmd) → Grows (cmd_locals_step (map-Cmd Cmd (List ℕ → List ℕ) cmd_locals y))
    → Grows (cmd_locals (roll-Cmd y))
cmd_rolled y h = rw (fold-roll-Cmd (List ℕ → List ℕ) cmd_locals_step y) h

pub cmd_grows : (a : Cmd) → Grows (cmd_locals a)
cmd_grows = ind-Cmd (λ a. Grows (cmd_locals a))
    (λ z y is. subst (λ r. Grows (cmd_locals (roll-Cmd r))) is (cmd_rolled (bare_cmd y) (cmd_step_grows y)))

pub all_locals_grow : (cs : List Cmd) → Grows (in_turn (map cmd_locals cs))
all_locals_grow [] = extends_self
all_locals_grow (a ∷ cs) = grows_then (cmd_locals a) (in_turn (map cmd_locals cs)) (cmd_grows a) (all_locals_grow cs)
