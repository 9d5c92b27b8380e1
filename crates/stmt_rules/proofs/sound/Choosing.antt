-- The command of a conditional: what it costs at most, its trip forms, and that it runs as one of its sides does.
use Rattle.std.proofs.Common.{◌≡◌, sym, ◌∙◌, ap, subst, arith, ℕ, zero, suc, ◌+◌, max, Bool, true, false, ◌&&◌, List, [], ◌++◌}
use Rattle.std.proofs.Common.{append_assoc, Some}
use Rattle.std.proofs.lemmas.List.{append-nil}
use Rattle.rv_memory.specs.Ranges.{Bytes}
use Rattle.side_certs.specs.LinearForm.{LinearForm}
use Rattle.model_syntax.specs.Value.{is_true}
use Rattle.sym_heap.specs.Fits.{Call}
use Rattle.bed_syntax.specs.Weight.{expr_weight}
use Rattle.bed_syntax.specs.declared.weights.Weights.{Weights}
use Rattle.bed_syntax.specs.declared.expression.BExpr.{BExpr}
use Rattle.bed_syntax.specs.declared.command.Cmd.{Cmd, roll-Cmd, fold-roll-Cmd}
use Rattle.bed_syntax.specs.declared.command.Cmd.TheOpen as c
use Rattle.bed_meaning.specs.Locals.{Vars}
use Rattle.bed_meaning.specs.Runs.{All, One, Runs, firsts, seconds, seqs, done, next}
use Rattle.bed_meaning.specs.Value.{value}
use Rattle.stmt_rules.specs.Bound.{Cost, cost, cost_step, cost_all, sides, all_below, sets_below, sets_below_step}
use Rattle.stmt_rules.specs.declared.output.StmtOut.{StmtOut}
use Rattle.stmt_rules.specs.rules.If.{sequence, choosing}
use Rattle.stmt_rules.proofs.Sequence.{and_parts}

-- the commands have as many loops as there are trip forms
abbrev pub HasTrips : Weights → Call → StmtOut → Type 0
HasTrips w call p = (rest : List LinearForm) → cost_all w call p.cmds (p.trips ++ rest)
    ≡ ((cost_all w call p.cmds p.trips).0, rest)

module _ (w : Weights) (call : Call) where
  cost_seq : (p : StmtOut) (ts : List LinearForm) → cost w call (sequence p) ts ≡ cost_all w call p.cmds ts
  cost_seq p ts = ap (λ (k : Cost). k ts) (fold-roll-Cmd Cost (cost_step w call) (c.Seq p.cmds))

  cost_cond : (e : BExpr) (p q : Cmd) (ts : List LinearForm)
      → cost w call (roll-Cmd (c.Cond e p q)) ts ≡ sides (expr_weight w e + w.test) (cost w call q) (cost w call p ts)
  cost_cond e p q ts = ap (λ (k : Cost). k ts) (fold-roll-Cmd Cost (cost_step w call) (c.Cond e p q))

  -- the test and the greater of the two sides, the first side's trip forms before those of the second
  pub choosing_cost : (e : BExpr) (p q : StmtOut) → HasTrips w call p → HasTrips w call q → (rest : List LinearForm)
      → cost_all w call (choosing e p q).cmds (p.trips ++ (q.trips ++ rest))
      ≡ (expr_weight w e + w.test + max (cost_all w call p.cmds p.trips).0 (cost_all w call q.cmds q.trips).0, rest)
  choosing_cost e p q trips_p trips_q rest =
      let test = expr_weight w e + w.test in
      let one = (cost_all w call p.cmds p.trips).0 in
      let two = (cost_all w call q.cmds q.trips).0 in
      let whole : cost w call (roll-Cmd (c.Cond e (sequence p) (sequence q))) (p.trips ++ (q.trips ++ rest))
      ≡ (test + max one two, rest) =
      cost_cond e (sequence p) (sequence q) (p.trips ++ (q.trips ++ rest))
      ∙ ap (sides test (cost w call (sequence q))) (cost_seq p (p.trips ++ (q.trips ++ rest)) ∙ trips_p (q.trips ++ rest))
      ∙ ap (λ (r : ℕ × List LinearForm). (test + max one r.0, r.1)) (cost_seq q (q.trips ++ rest) ∙ trips_q rest) in
      let none : test + max one two + 0 ≡ test + max one two = omega arith in
      ap (λ (r : ℕ × List LinearForm). (r.0 + 0, r.1)) whole ∙ ap (λ n. (n, rest)) none

  -- what it costs with its own trip forms alone
  pub choosing_bound : (e : BExpr) (p q : StmtOut) → HasTrips w call p → HasTrips w call q
      → (cost_all w call (choosing e p q).cmds (p.trips ++ q.trips)).0
      ≡ expr_weight w e + w.test + max (cost_all w call p.cmds p.trips).0 (cost_all w call q.cmds q.trips).0
  choosing_bound e p q trips_p trips_q =
      let no_more : p.trips ++ (q.trips ++ []) ≡ p.trips ++ q.trips = ap (λ l. p.trips ++ l) (append-nil q.trips) in
      ap (λ l. (cost_all w call (choosing e p q).cmds l).0) (sym no_more)
      ∙ ap (λ (r : ℕ × List LinearForm). r.0) (choosing_cost e p q trips_p trips_q [])

  pub choosing_trips : (e : BExpr) (p q : StmtOut) → HasTrips w call p → HasTrips w call q → HasTrips w call (choosing e p q)
  choosing_trips e p q trips_p trips_q rest =
      let shape : p.trips ++ q.trips ++ rest ≡ p.trips ++ (q.trips ++ rest) = append_assoc p.trips q.trips rest in
      ap (cost_all w call (choosing e p q).cmds) shape ∙ choosing_cost e p q trips_p trips_q rest
      ∙ ap (λ n. (n, rest)) (sym (choosing_bound e p q trips_p trips_q))

module _ (w : Weights) (e : BExpr) (p q : StmtOut) (mem after : Bytes) (vars left : Vars) (ticks : ℕ) where
  abbrev Chosen : ℕ → Type 0
  Chosen n = Runs w (All (choosing e p q).cmds) mem vars after left n

  alone : (n : ℕ) → Runs w (One (roll-Cmd (c.Cond e (sequence p) (sequence q)))) mem vars after left n → Chosen n
  alone n run =
      let none : n + 0 ≡ n = omega arith in
      subst Chosen none (next (roll-Cmd (c.Cond e (sequence p) (sequence q))) [] n 0 mem after after vars left left run
      (done after left))

  -- where the test is not 0 the first side runs
  pub first_chosen : (n : ℕ) → value e mem vars ≡ Some n → is_true n ≡ true → Runs w (All p.cmds) mem vars after left ticks
      → Chosen (expr_weight w e + w.test + ticks)
  first_chosen zero at is run = absurd (let bad : false ≡ true = is in cc)
  first_chosen (suc n) at is run =
      alone (expr_weight w e + w.test + ticks)
      (firsts e (sequence p) (sequence q) n ticks mem after vars left at (seqs p.cmds ticks mem after vars left run))

  -- where it is 0 the second does
  pub second_chosen : (n : ℕ) → value e mem vars ≡ Some n → is_true n ≡ false → Runs w (All q.cmds) mem vars after left ticks
      → Chosen (expr_weight w e + w.test + ticks)
  second_chosen zero at is run =
      alone (expr_weight w e + w.test + ticks)
      (seconds e (sequence p) (sequence q) ticks mem after vars left at (seqs q.cmds ticks mem after vars left run))
  second_chosen (suc n) at is run = absurd (by n is) where
    by : (m : ℕ) → is_true (suc m) ≡ false → ⊥
    by m bad = grind (arith, bad)

-- each local that the command sets is below a number where the sides' are
pub sides_below : (n : ℕ) (e : BExpr) (p q : StmtOut) → all_below n (choosing e p q).cmds ≡ true
    → (all_below n p.cmds ≡ true) × (all_below n q.cmds ≡ true)
sides_below n e p q is =
    let whole = and_parts (sets_below n (roll-Cmd (c.Cond e (sequence p) (sequence q)))) true is in
    let open_one : sets_below n (roll-Cmd (c.Cond e (sequence p) (sequence q)))
    ≡ (sets_below n (sequence p) && sets_below n (sequence q)) =
    fold-roll-Cmd Bool (sets_below_step n) (c.Cond e (sequence p) (sequence q)) in
    let both = and_parts (sets_below n (sequence p)) (sets_below n (sequence q)) (sym open_one ∙ whole.0) in (
      sym (fold-roll-Cmd Bool (sets_below_step n) (c.Seq p.cmds)) ∙ both.0,
      sym (fold-roll-Cmd Bool (sets_below_step n) (c.Seq q.cmds)) ∙ both.1,
    )
