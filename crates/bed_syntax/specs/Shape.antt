-- What is counted of a command: its nodes, its depth and its locals.
use Rattle.std.specs.Prelude.{ℕ, zero, suc, ◌+◌, max, sum, Bool, false, ◌||◌, nat_eq, List, [], ◌∷◌, ◌++◌, if◌then◌else◌}
use Rattle.rup_base.specs.Gather.{greatest}
use Rattle.bed_syntax.specs.declared.expression.BExpr.{BExpr, BExpr-F, fold-BExpr}
use Rattle.bed_syntax.specs.declared.expression.BExpr.TheOpen as e
use Rattle.bed_syntax.specs.declared.command.Cmd.{Cmd, Cmd-F, fold-Cmd}
use Rattle.bed_syntax.specs.declared.command.Cmd.TheOpen as c

-- the nodes of an expression
abbrev pub expr_size_step : BExpr-F ℕ → ℕ
expr_size_step (e.Lit n) = 1
expr_size_step (e.Var x) = 1
expr_size_step (e.Bin op a b) = 1 + (a + b)
expr_size_step (e.Load size a) = 1 + a
expr_size_step (e.Table size bytes i) = 1 + i

abbrev pub expr_size : BExpr → ℕ
expr_size = fold-BExpr ℕ expr_size_step

-- the nodes of a command, those of its expressions among them
abbrev pub cmd_size_step : Cmd-F ℕ → ℕ
cmd_size_step (c.Set x e) = 1 + expr_size e
cmd_size_step (c.Store size a e) = 1 + (expr_size a + expr_size e)
cmd_size_step (c.Cond e p q) = 1 + (expr_size e + (p + q))
cmd_size_step (c.Seq cs) = 1 + sum cs
cmd_size_step (c.While e p) = 1 + (expr_size e + p)

abbrev pub cmd_size : Cmd → ℕ
cmd_size = fold-Cmd ℕ cmd_size_step

-- a literal or a local has depth 1, another expression one more than the greatest depth inside
abbrev pub expr_depth_step : BExpr-F ℕ → ℕ
expr_depth_step (e.Lit n) = 1
expr_depth_step (e.Var x) = 1
expr_depth_step (e.Bin op a b) = 1 + max a b
expr_depth_step (e.Load size a) = 1 + a
expr_depth_step (e.Table size bytes i) = 1 + i

abbrev pub expr_depth : BExpr → ℕ
expr_depth = fold-BExpr ℕ expr_depth_step

-- the greatest depth in a command, where a store counts one more than the greater of its two; 0 where there is none
abbrev pub cmd_depth_step : Cmd-F ℕ → ℕ
cmd_depth_step (c.Set x e) = expr_depth e
cmd_depth_step (c.Store size a e) = 1 + max (expr_depth a) (expr_depth e)
cmd_depth_step (c.Cond e p q) = max (expr_depth e) (max p q)
cmd_depth_step (c.Seq cs) = greatest cs
cmd_depth_step (c.While e p) = max (expr_depth e) p

abbrev pub cmd_depth : Cmd → ℕ
cmd_depth = fold-Cmd ℕ cmd_depth_step

-- a local is in the list
abbrev pub is_known : List ℕ → ℕ → Bool
is_known [] x = false
is_known (y ∷ ys) x = nat_eq y x || is_known ys x

-- the list of distinct locals with one more behind it, unless that is there
abbrev pub noted : ℕ → List ℕ → List ℕ
noted x xs = if is_known xs x then xs else xs ++ x ∷ []

-- the list with each of the locals noted
abbrev pub all_noted : List ℕ → List ℕ → List ℕ
all_noted [] xs = xs
all_noted (y ∷ ys) xs = all_noted ys (noted y xs)

-- the list with the locals of an expression noted, from left to right
abbrev pub expr_locals_step : BExpr-F (List ℕ → List ℕ) → List ℕ → List ℕ
expr_locals_step (e.Lit n) xs = xs
expr_locals_step (e.Var x) xs = noted x xs
expr_locals_step (e.Bin op a b) xs = b (a xs)
expr_locals_step (e.Load size a) xs = a xs
expr_locals_step (e.Table size bytes i) xs = i xs

abbrev pub expr_locals : BExpr → List ℕ → List ℕ
expr_locals = fold-BExpr (List ℕ → List ℕ) expr_locals_step

-- one after another
abbrev pub in_turn : List (List ℕ → List ℕ) → List ℕ → List ℕ
in_turn [] xs = xs
in_turn (f ∷ fs) xs = in_turn fs (f xs)

-- the list with the locals of a command noted: those of its expressions, and those that it sets
abbrev pub cmd_locals_step : Cmd-F (List ℕ → List ℕ) → List ℕ → List ℕ
cmd_locals_step (c.Set x e) xs = noted x (expr_locals e xs)
cmd_locals_step (c.Store size a e) xs = expr_locals e (expr_locals a xs)
cmd_locals_step (c.Cond e p q) xs = q (p (expr_locals e xs))
cmd_locals_step (c.Seq cs) xs = in_turn cs xs
cmd_locals_step (c.While e p) xs = p (expr_locals e xs)

abbrev pub cmd_locals : Cmd → List ℕ → List ℕ
cmd_locals = fold-Cmd (List ℕ → List ℕ) cmd_locals_step

-- the numbers below one
abbrev pub numbers : ℕ → List ℕ
numbers zero = []
numbers (suc n) = numbers n ++ n ∷ []

-- the distinct locals of a command with its arguments and results: the arguments, which are the first locals, then the other
-- locals of the command in order of first sight, then the results that are not among them
abbrev pub locals_of : Cmd → ℕ → List ℕ → List ℕ
locals_of c args rets = all_noted rets (cmd_locals c (numbers args))
