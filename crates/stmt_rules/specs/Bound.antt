-- What commands cost at most: a conditional its test and the greater of its sides, a loop as many turns as its trip form says.
-- The trip forms stand in the order of the loops, an outer one's before those of the loops inside it.
use Rattle.std.specs.Prelude.{ℕ, ◌+◌, ◌*◌, max, List, [], ◌∷◌, map, ℤ, pos, negsuc, slice_index_or, nat_lt, Bool, true, ◌&&◌}
use Rattle.rup_base.specs.Gather.{all_true}
use Rattle.side_certs.specs.LinearForm.{LinearForm, value_at}
use Rattle.bed_syntax.specs.Weight.{expr_weight}
use Rattle.bed_syntax.specs.declared.weights.Weights.{Weights}
use Rattle.bed_syntax.specs.declared.command.Cmd.{Cmd, Cmd-F, fold-Cmd}
use Rattle.bed_syntax.specs.declared.command.Cmd.TheOpen as c
use Rattle.sym_heap.specs.Fits.{Call}

-- the cost, and the trip forms that are left
abbrev pub Cost : Type 0
Cost = List LinearForm → ℕ × List LinearForm

abbrev pub nat_of : ℤ → ℕ
nat_of (pos n) = n
nat_of (negsuc n) = 0

-- a trip form at the numbers of the entry symbols
abbrev pub trip_at : Call → LinearForm → ℕ
trip_at call t = nat_of (value_at (λ s. slice_index_or call.entries s 0) t)

abbrev pub costs_on : ℕ × List LinearForm → Cost → ℕ × List LinearForm
costs_on first next = (first.0 + (next first.1).0, (next first.1).1)

abbrev pub costs : List Cost → Cost
costs [] ts = (0, ts)
costs (k ∷ ks) ts = costs_on (k ts) (costs ks)

abbrev pub sides : ℕ → Cost → ℕ × List LinearForm → ℕ × List LinearForm
sides test second first = (test + max first.0 (second first.1).0, (second first.1).1)

abbrev pub turned : ℕ → ℕ → ℕ × List LinearForm → ℕ × List LinearForm
turned trips test body = (trips * (test + body.0) + test, body.1)

abbrev pub loop : Call → ℕ → Cost → Cost
loop call test body [] = (0, [])
loop call test body (t ∷ ts) = turned (trip_at call t) test (body ts)

abbrev pub cost_step : Weights → Call → Cmd-F Cost → Cost
cost_step w call (c.Set x e) ts = (expr_weight w e + w.set, ts)
cost_step w call (c.Store size a e) ts = (expr_weight w a + expr_weight w e + w.store, ts)
cost_step w call (c.Cond e p q) ts = sides (expr_weight w e + w.test) q (p ts)
cost_step w call (c.Seq cs) ts = costs cs ts
cost_step w call (c.While e p) ts = loop call (expr_weight w e + w.turn) p ts

abbrev pub cost : Weights → Call → Cmd → Cost
cost w call = fold-Cmd Cost (cost_step w call)

abbrev pub cost_all : Weights → Call → List Cmd → Cost
cost_all w call cs = costs (map (cost w call) cs)

-- Room.

-- each local that the command sets is below this number
abbrev pub sets_below_step : ℕ → Cmd-F Bool → Bool
sets_below_step n (c.Set x e) = nat_lt x n
sets_below_step n (c.Store size a e) = true
sets_below_step n (c.Cond e p q) = p && q
sets_below_step n (c.Seq cs) = all_true cs
sets_below_step n (c.While e p) = p

abbrev pub sets_below : ℕ → Cmd → Bool
sets_below n = fold-Cmd Bool (sets_below_step n)

abbrev pub all_below : ℕ → List Cmd → Bool
all_below n cs = all_true (map (sets_below n) cs)
