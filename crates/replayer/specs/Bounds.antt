-- The bound of what a derivation gives: a polynomial of the entry symbols, or the first sum or product that passes a limit.
--
-- Bounds are made node by node in the order of ending: those of a block's nodes, then the block's sum for the node that has the
-- block, then that node's own. Each node but a note has the next command, and a loop's node the sets before its loop too. What a
-- rule adds to the commands of its block stands behind them. A loop takes the first trip form that is left. The derivation only
-- says for which node a sum is made: the bound is that of the commands and trip forms, whatever the derivation is.
use Rattle.std.specs.Prelude.{ℕ, ◌+◌, Bool, true, false, List, [], ◌∷◌, map, sum, Option, Some, None, Result, Ok, Err}
use Rattle.std.specs.Prelude.{if◌then◌else◌}
use Rattle.rup_base.specs.Answers.{and_then, and_then_with}
use Rattle.rup_base.specs.declared.refusal.Refusal.{Refusal}
use Rattle.rup_base.specs.declared.refusal.Refusal.TheVariants.{OverBound}
use Rattle.side_certs.specs.LinearForm.{LinearForm}
use Rattle.cost_poly.specs.declared.term.Term.{Term}
use Rattle.cost_poly.specs.declared.wide.Wide.{Wide}
use Rattle.cost_poly.specs.Polynomial as poly
use Rattle.cost_poly.specs.Polynomial.{product_count}
use Rattle.deriv_tree.specs.Measure.{expr_size, stmt_size, block_size, size}
use Rattle.deriv_tree.specs.declared.rule.Rule as deriv
use Rattle.deriv_tree.specs.declared.rule.Rule.TheVariants as rule
use Rattle.deriv_tree.specs.declared.tree.Derivation.{Derivation}
use Rattle.deriv_tree.specs.declared.tree.StmtNode.{StmtNode, out-StmtNode}
use Rattle.deriv_tree.specs.declared.tree.Block.{Block, out-Block}
use Rattle.bed_syntax.specs.Weight.{expr_weight}
use Rattle.bed_syntax.specs.declared.weights.Weights.{Weights}
use Rattle.bed_syntax.specs.declared.command.Cmd.{Cmd, Cmd-F, fold-Cmd}
use Rattle.bed_syntax.specs.declared.command.Cmd.TheOpen as c

abbrev pub Poly : Type 0
Poly = List Term

-- trip forms that no loop has taken yet
abbrev pub Trips : Type 0
Trips = List LinearForm

-- a bound, and the trip forms that are left
abbrev pub Made : Type 0
Made = Result (Poly × Trips) Refusal

-- Sums and products, each made for the node of a number.

abbrev pub limited_at : ℕ → Result Poly Wide → Result Poly Refusal
limited_at at (Ok p) = Ok p
limited_at at (Err wide) = Err (OverBound at wide.degree wide.coefficient)

abbrev pub sum_at : ℕ → Poly → Poly → Result Poly Refusal
sum_at at p q = limited_at at (poly.within (poly.sum p q))

abbrev pub product_at : ℕ → Poly → LinearForm → Result Poly Refusal
product_at at p trips = limited_at at (poly.scaled p trips)

-- a number, which is no sum of its own
abbrev pub constant_of : ℕ → ℕ → Option Poly → Result Poly Refusal
constant_of at n (Some p) = Ok p
constant_of at n None = Err (OverBound at 0 n)

abbrev pub constant_at : ℕ → ℕ → Result Poly Refusal
constant_at at n = constant_of at n (poly.term None None n)

abbrev pub with_constant : ℕ → Poly → ℕ → Result Poly Refusal
with_constant at p n = and_then (constant_at at n) (λ q. sum_at at p q)

-- the product with a trip form, and then a number
abbrev pub turned : ℕ → Poly → LinearForm → ℕ → Result Poly Refusal
turned at p trips n = and_then (product_at at p trips) (λ turns. with_constant at turns n)

-- the sum with one bound more
abbrev pub added : ℕ → Result Poly Refusal → Poly → Result Poly Refusal
added at so_far p = and_then so_far (λ s. sum_at at s p)

abbrev pub leaving : Trips → Result Poly Refusal → Made
leaving ts made = and_then made (λ p. Ok (p, ts))

-- Nodes.

-- blocks, and the number of the first node in them
abbrev pub Inside : Type 0
Inside = ℕ × List Block

abbrev pub nodes_of : List Block → List StmtNode
nodes_of [] = []
nodes_of (b ∷ bs) = (out-Block b).nodes

-- the blocks behind the first
abbrev pub others : Inside → Inside
others (k, []) = (k, [])
others (k, b ∷ bs) = (k + block_size b, bs)

-- the blocks of the node of a number
abbrev pub inside : ℕ → StmtNode → Inside
inside at n = (at + 1 + sum (map expr_size (out-StmtNode n).kids), (out-StmtNode n).blocks)

-- the rule gives commands
abbrev pub gives : deriv.Rule → Bool
gives rule.SNote = false
gives _ = true

-- the rule gives sets and then a loop
abbrev pub is_loop : deriv.Rule → Bool
is_loop rule.SFor = true
is_loop rule.SMap = true
is_loop rule.SFold = true
is_loop _ = false

-- Commands.

-- a command's bound for a node: of the node's number, a number that the node adds, its blocks, and the trip forms that are left
abbrev pub Bound : Type 0
Bound = ℕ → ℕ → Inside → Trips → Made

-- what a command comes to: its weight, if it is a set or a store, and its bound
pub record Priced : Type 0 where
  pub weight : Option ℕ
  pub bound : Bound

abbrev pub plain : ℕ → Priced
plain n = record { weight = Some n; bound = λ at more inside ts. leaving ts (constant_at at (more + n)) }

-- the weights of the sets and stores in front, after others, and the commands from the first other on
abbrev pub sets_on : Option ℕ → (ℕ → ℕ × List Priced) → List Priced → ℕ → ℕ × List Priced
sets_on (Some n) rest cs held = rest (held + n)
sets_on None rest cs held = (held, cs)

abbrev pub sets : List Priced → ℕ → ℕ × List Priced
sets [] held = (held, [])
sets (p ∷ cs) held = sets_on p.weight (sets cs) (p ∷ cs) held

-- what a node's sets weigh, and the commands from its last on
abbrev pub begun : deriv.Rule → List Priced → ℕ × List Priced
begun r cs = if is_loop r then sets cs 0 else (0, cs)

-- the bound of a node: that of its last command, to which the weights of its sets are added
abbrev pub last_bound : ℕ → Inside → ℕ × List Priced → Trips → Made
last_bound at within (held, []) ts = leaving ts (constant_at at held)
last_bound at within (held, p ∷ cs) ts = p.bound at held within ts

abbrev pub behind : List Priced → List Priced
behind [] = []
behind (p ∷ cs) = cs

-- The commands of a block behind those of its nodes are the rule's own. They are sets and stores, whose weights are added to the
-- number; of another command the bound would be one of the block's.
abbrev pub own_on : Option ℕ → (ℕ → Result Poly Refusal → Trips → Made) → Priced → ℕ → ℕ → Result Poly Refusal → Trips → Made
own_on (Some n) rest p at more so_far ts = rest (more + n) so_far ts
own_on None rest p at more so_far ts = and_then_with (p.bound at 0 (0, []) ts) (λ q left. rest more (added at so_far q) left)

abbrev pub own : ℕ → List Priced → ℕ → Result Poly Refusal → Trips → Made
own at [] more so_far ts = leaving ts (and_then so_far (λ s. with_constant at s more))
own at (p ∷ cs) more so_far ts = own_on p.weight (own at cs) p at more so_far ts

-- the sum of the bounds of nodes in order, the first of which has the number k, and then the number that the rule adds
abbrev pub in_order : ℕ → ℕ → ℕ → List StmtNode → List Priced → Result Poly Refusal → Trips → Made
in_order at more k [] cs so_far ts = own at cs more so_far ts
in_order at more k (n ∷ ns) cs so_far ts =
    if gives (out-StmtNode n).step.rule then
    and_then_with (last_bound k (inside k n) (begun (out-StmtNode n).step.rule cs) ts)
    (λ p left. in_order at more (k + stmt_size n) ns (behind (begun (out-StmtNode n).step.rule cs).1) (added at so_far p) left)
    else in_order at more (k + stmt_size n) ns cs so_far ts

-- the greater of two sides, and then the test
abbrev pub choice : ℕ → Priced → Priced → Bound
choice test p q at more within ts =
    and_then_with (p.bound at 0 within ts) (λ one left.
    and_then_with (q.bound at 0 (others within) left) (λ two left.
    leaving left (with_constant at (poly.listed (poly.greater one two) product_count) (more + test))))

-- the body with the test of one turn, then the product, then the last test; no turn where no trip form is left
abbrev pub loop : ℕ → Priced → Bound
loop test p at more within [] = leaving [] (constant_at at more)
loop test p at more within (t ∷ ts) =
    and_then_with (p.bound at test within ts) (λ body left.
    leaving left (turned at body t (more + test)))

abbrev pub other : Bound → Priced
other bound = record { weight = None; bound = bound }

abbrev pub priced_step : Weights → Cmd-F Priced → Priced
priced_step w (c.Set x e) = plain (expr_weight w e + w.set)
priced_step w (c.Store size a e) = plain (expr_weight w a + expr_weight w e + w.store)
priced_step w (c.Cond e p q) = other (choice (expr_weight w e + w.test) p q)
priced_step w (c.Seq cs) = other (λ at more within ts. in_order at more within.0 (nodes_of within.1) cs (Ok []) ts)
priced_step w (c.While e p) = other (loop (expr_weight w e + w.turn) p)

abbrev pub priced : Weights → Cmd → Priced
priced w = fold-Cmd Priced (priced_step w)

-- The whole: the outer block's sum, the entry first, is made last, for the number that follows that of the last node.
abbrev pub whole : Weights → Derivation → List Cmd → Trips → Made
whole w d cs ts = in_order (size d) 0 0 (out-Block d.body).nodes (map (priced w) cs) (constant_at (size d) w.entry) ts

abbrev pub bound : Weights → Derivation → List Cmd → Trips → Result Poly Refusal
bound w d cs ts = and_then (whole w d cs ts) (λ made. Ok made.0)
