-- The pressure of a command: the greatest number of its locals whose intervals cover one point, and its depth, which is the
-- room for what an expression holds while it is evaluated (intervals: Poletto and Sarkar 1999, as in Intervals).
use Rattle.std.specs.Prelude.{ℕ, ◌+◌, Bool, false, ◌||◌, ◌&&◌, not, nat_eq, List, [], ◌∷◌, ◌++◌}
use Rattle.rup_base.specs.Gather.{joined}
use Rattle.bed_syntax.specs.Intervals.{Point, throughout, with_ends, most_covering}
use Rattle.bed_syntax.specs.Shape.{is_known, cmd_depth, locals_of}
use Rattle.bed_syntax.specs.declared.expression.BExpr.{BExpr, BExpr-F, fold-BExpr}
use Rattle.bed_syntax.specs.declared.expression.BExpr.TheOpen as e
use Rattle.bed_syntax.specs.declared.command.Cmd.{Cmd, Cmd-F, fold-Cmd}
use Rattle.bed_syntax.specs.declared.command.Cmd.TheOpen as c

-- the locals that an expression reads
abbrev pub occurs_step : BExpr-F Point → Point
occurs_step (e.Lit n) x = false
occurs_step (e.Var y) x = nat_eq y x
occurs_step (e.Bin op a b) x = a x || b x
occurs_step (e.Load size a) x = a x
occurs_step (e.Table size bytes i) x = i x

abbrev pub occurs : BExpr → Point
occurs = fold-BExpr Point occurs_step

-- the points of a command, one for each Set, Store, Cond and While in preorder: a test before the sides and the body
abbrev pub points_step : Cmd-F (List Point) → List Point
points_step (c.Set y e) = (λ x. nat_eq y x || occurs e x) ∷ []
points_step (c.Store size a e) = (λ x. occurs a x || occurs e x) ∷ []
points_step (c.Cond e p q) = occurs e ∷ (p ++ q)
points_step (c.Seq cs) = joined cs
points_step (c.While e p) = throughout (occurs e ∷ p)

abbrev pub points : Cmd → List Point
points = fold-Cmd (List Point) points_step

-- Some path through a command, and then through what comes behind it, reads a local before it sets it; `later` says so of what
-- comes behind.
abbrev pub Early : Type 0
Early = ℕ → Bool → Bool

-- of commands in a row
abbrev pub early_in_turn : List Early → Early
early_in_turn [] x later = later
early_in_turn (p ∷ ps) x later = p x (early_in_turn ps x later)

-- Of a loop: its test reads the local, or it ends with that test and the local is read later, or its body reads it first. A path
-- that passes the body without a read is at a test again, and one more turn shows nothing that these three don't.
abbrev pub early_step : Cmd-F Early → Early
early_step (c.Set y e) x later = occurs e x || (not (nat_eq y x) && later)
early_step (c.Store size a e) x later = occurs a x || (occurs e x || later)
early_step (c.Cond e p q) x later = occurs e x || (p x later || q x later)
early_step (c.Seq cs) x later = early_in_turn cs x later
early_step (c.While e p) x later = occurs e x || (later || p x false)

abbrev pub early : Cmd → Early
early = fold-Cmd Early early_step

-- the points of a command with so many arguments and these results, which are read at the end
abbrev pub all_points : Cmd → ℕ → List ℕ → List Point
all_points c args rets = with_ends args (is_known rets) (λ x. early c x (is_known rets x)) (points c)

abbrev pub pressure : Cmd → ℕ → List ℕ → ℕ
pressure c args rets = most_covering (all_points c args rets) (locals_of c args rets) + cmd_depth c
