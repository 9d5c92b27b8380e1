-- The commands of a loop that counts: what they cost at most, the locals that they set, and that they run.
use Rattle.std.proofs.Common.{◌≡◌, refl, sym, ◌∙◌, ap, arith, ℕ, ◌+◌, ◌*◌, ◌<◌, Bool, true, List, [], ◌∷◌, ◌++◌, length, Some}
use Rattle.std.proofs.Common.{nat_lt, slice_set}
use Rattle.std.proofs.lemmas.Bool.{ltb-true, lt-ltb}
use Rattle.rv_memory.specs.Ranges.{Bytes}
use Rattle.side_certs.specs.LinearForm.{LinearForm}
use Rattle.sym_heap.specs.Fits.{Call}
use Rattle.bed_syntax.specs.Weight.{expr_weight}
use Rattle.bed_syntax.specs.declared.weights.Weights.{Weights}
use Rattle.bed_syntax.specs.declared.operation.BOp.TheVariants as bop
use Rattle.bed_syntax.specs.declared.expression.BExpr.{BExpr}
use Rattle.bed_syntax.specs.declared.expression.BExpr.TheVariants as b
use Rattle.bed_syntax.specs.declared.command.Cmd.{Cmd, roll-Cmd, fold-roll-Cmd}
use Rattle.bed_syntax.specs.declared.command.Cmd.TheOpen as c
use Rattle.bed_meaning.specs.Locals.{Vars, local_at, assigned}
use Rattle.bed_meaning.specs.Locals as locals
use Rattle.bed_meaning.specs.Runs.{All, One, Loop, Runs, sets, seqs, whiles, done, next}
use Rattle.bed_meaning.specs.Value.{value}
use Rattle.bed_meaning.proofs.laws.Running.{runs_append}
use Rattle.stmt_rules.specs.Bound.{Cost, cost, cost_step, cost_all, trip_at, all_below, sets_below, sets_below_step}
use Rattle.stmt_rules.specs.Loops.{is_below, increased, turn_of, counting}
use Rattle.stmt_rules.proofs.Sequence.{and_parts, below_parts, costs_append}
use Rattle.stmt_rules.proofs.sound.Let.{set_here, set_other}

abbrev pub more_code : ℕ → BExpr
more_code li = b.Bin bop.Add (b.Var li) (b.Lit 1)

-- What it costs.

module _ (w : Weights) (call : Call) where
  pub set_cost : (l : ℕ) (e : BExpr) (ts : List LinearForm)
      → cost w call (roll-Cmd (c.Set l e)) ts ≡ (expr_weight w e + w.set, ts)
  set_cost l e ts = ap (λ (k : Cost). k ts) (fold-roll-Cmd Cost (cost_step w call) (c.Set l e))

  -- a test, and the increase
  abbrev pub test_price : ℕ → ℕ → ℕ
  test_price li lh = expr_weight w (is_below li lh) + w.turn

  abbrev pub more_price : ℕ → ℕ
  more_price li = expr_weight w (more_code li) + w.set

  -- a turn of commands that cost so much
  turn_cost : (li : ℕ) (cmds : List Cmd) (ts : List LinearForm) (n : ℕ) (rest : List LinearForm)
      → cost_all w call cmds ts ≡ (n, rest) → cost w call (turn_of li cmds) ts ≡ (n + more_price li, rest)
  turn_cost li cmds ts n rest is =
      let last : cost_all w call (increased li ∷ []) rest
      ≡ (more_price li + 0, rest) = ap (λ (r : ℕ × List LinearForm). (r.0 + 0, r.1)) (set_cost li (more_code li) rest) in
      let none : n + (more_price li + 0) ≡ n + more_price li = omega arith in
      ap (λ (k : Cost). k ts) (fold-roll-Cmd Cost (cost_step w call) (c.Seq (cmds ++ increased li ∷ [])))
      ∙ costs_append w call cmds (increased li ∷ []) ts
      ∙ ap (λ (r : ℕ × List LinearForm).
      (r.0 + (cost_all w call (increased li ∷ []) r.1).0, (cost_all w call (increased li ∷ []) r.1).1)) is
      ∙ ap (λ (r : ℕ × List LinearForm). (n + r.0, r.1)) last
      ∙ ap (λ (m : ℕ). (m, rest)) none

  abbrev pub loop_price : ℕ → ℕ → LinearForm → ℕ → ℕ
  loop_price li lh t n = trip_at call t * (test_price li lh + (n + more_price li)) + test_price li lh

  abbrev pub counting_price : ℕ → ℕ → BExpr → BExpr → LinearForm → ℕ → ℕ
  counting_price li lh low high t n = expr_weight w low + w.set + (expr_weight w high + w.set + (loop_price li lh t n + 0))

  pub counting_cost : (li lh : ℕ) (low high : BExpr) (cmds : List Cmd) (t : LinearForm) (ts : List LinearForm) (n : ℕ)
      (rest : List LinearForm) → cost_all w call cmds ts ≡ (n, rest)
      → cost_all w call (counting li lh low high cmds) (t ∷ ts) ≡ (counting_price li lh low high t n, rest)
  counting_cost li lh low high cmds t ts n rest is =
      let body = turn_cost li cmds ts n rest is in
      let whole : cost w call (roll-Cmd (c.While (is_below li lh) (turn_of li cmds))) (t ∷ ts) ≡ (loop_price li lh t n, rest) =
      ap (λ (k : Cost). k (t ∷ ts)) (fold-roll-Cmd Cost (cost_step w call) (c.While (is_below li lh) (turn_of li cmds)))
      ∙ ap (λ (r : ℕ × List LinearForm). (trip_at call t * (test_price li lh + r.0) + test_price li lh, r.1)) body in
      let third : cost_all w call (roll-Cmd (c.While (is_below li lh) (turn_of li cmds)) ∷ []) (t ∷ ts)
      ≡ (loop_price li lh t n + 0, rest) =
      ap (λ (r : ℕ × List LinearForm). (r.0 + 0, r.1)) whole in
      let second : cost_all w call (roll-Cmd (c.Set lh high) ∷ roll-Cmd (c.While (is_below li lh) (turn_of li cmds)) ∷ [])
      (t ∷ ts) ≡ (expr_weight w high + w.set + (loop_price li lh t n + 0), rest) =
      ap (λ (r : ℕ × List LinearForm). (
        r.0 + (cost_all w call (roll-Cmd (c.While (is_below li lh) (turn_of li cmds)) ∷ []) r.1).0,
        (cost_all w call (roll-Cmd (c.While (is_below li lh) (turn_of li cmds)) ∷ []) r.1).1,
      )) (set_cost lh high (t ∷ ts))
      ∙ ap (λ (r : ℕ × List LinearForm). (expr_weight w high + w.set + r.0, r.1)) third in
      let others = roll-Cmd (c.Set lh high) ∷ roll-Cmd (c.While (is_below li lh) (turn_of li cmds)) ∷ [] in
      ap (λ (r : ℕ × List LinearForm). (r.0 + (cost_all w call others r.1).0, (cost_all w call others r.1).1))
      (set_cost li low (t ∷ ts))
      ∙ ap (λ (r : ℕ × List LinearForm). (expr_weight w low + w.set + r.0, r.1)) second

-- The locals that it sets.

set_below : (n l : ℕ) (e : BExpr) → sets_below n (roll-Cmd (c.Set l e)) ≡ true → l < n
set_below n l e is = ltb-true l n (sym (fold-roll-Cmd Bool (sets_below_step n) (c.Set l e)) ∙ is)

pub record CountsBelow (n li lh : ℕ) (cmds : List Cmd) : Type 0 where
  pub count : li < n
  pub last : lh < n
  pub inner : all_below n cmds ≡ true

pub counting_below : (n li lh : ℕ) (low high : BExpr) (cmds : List Cmd) → all_below n (counting li lh low high cmds) ≡ true
    → CountsBelow n li lh cmds
counting_below n li lh low high cmds is =
    let loop = roll-Cmd (c.While (is_below li lh) (turn_of li cmds)) in
    let one = and_parts (sets_below n (roll-Cmd (c.Set li low))) (all_below n (roll-Cmd (c.Set lh high) ∷ loop ∷ [])) is in
    let two = and_parts (sets_below n (roll-Cmd (c.Set lh high))) (all_below n (loop ∷ [])) one.1 in
    let three = and_parts (sets_below n loop) true two.1 in
    let inner : all_below n (cmds ++ increased li ∷ []) ≡ true =
    sym (fold-roll-Cmd Bool (sets_below_step n) (c.While (is_below li lh) (turn_of li cmds))
    ∙ fold-roll-Cmd Bool (sets_below_step n) (c.Seq (cmds ++ increased li ∷ []))) ∙ three.0 in
    record {
      count = set_below n li low one.0;
      last = set_below n lh high two.0;
      inner = (below_parts n cmds (increased li ∷ []) inner).0;
    }

-- Runs.

-- a local is set
pub set_put : (vars : Vars) (l n : ℕ) → l < length vars → assigned l n vars ≡ Some (slice_set vars l (Some n))
set_put vars l n room = let test : nat_lt l (length vars) ≡ true = lt-ltb l (length vars) room in rw test refl

pub set_value : (vars : Vars) (l n : ℕ) → l < length vars → local_at (slice_set vars l (Some n)) l ≡ Some n
set_value vars l n room = ap locals.value_of (set_here vars l (Some n) room)

pub set_apart : (vars : Vars) (l n j : ℕ) → (j ≡ l → ⊥) → local_at (slice_set vars l (Some n)) j ≡ local_at vars j
set_apart vars l n j apart = ap locals.value_of (set_other vars l j (Some n) apart)

module _ (w : Weights) where
  -- the commands of a turn, and then the increase
  pub turn_runs : (li n ticks : ℕ) (cmds : List Cmd) (mem between : Bytes) (vars left : Vars)
      → Runs w (All cmds) mem vars between left ticks
      → li < length left → value (more_code li) between left ≡ Some (n + 1)
      → Runs w (One (turn_of li cmds)) mem vars between (slice_set left li (Some (n + 1)))
      (ticks + (expr_weight w (more_code li) + w.set + 0))
  turn_runs li n ticks cmds mem between vars left run room value_is =
      let last = slice_set left li (Some (n + 1)) in
      seqs (cmds ++ increased li ∷ []) (ticks + (expr_weight w (more_code li) + w.set + 0)) mem between vars last
      (runs_append w cmds (increased li ∷ []) mem between between vars left last ticks (expr_weight w (more_code li) + w.set + 0)
      run
      (next (increased li) [] (expr_weight w (more_code li) + w.set) 0 between between between left last last
      (sets li (more_code li) (n + 1) between left last value_is (set_put left li (n + 1) room)) (done between last)))

  -- the sets of both locals, and then the loop
  pub counting_runs : (li lh n m ticks : ℕ) (low high : BExpr) (cmds : List Cmd) (mem after : Bytes) (vars one two left : Vars)
      → value low mem vars ≡ Some n → assigned li n vars ≡ Some one
      → value high mem one ≡ Some m → assigned lh m one ≡ Some two
      → Runs w (Loop (is_below li lh) (turn_of li cmds)) mem two after left ticks
      → Runs w (All (counting li lh low high cmds)) mem vars after left
      (expr_weight w low + w.set + (expr_weight w high + w.set + (ticks + 0)))
  counting_runs li lh n m ticks low high cmds mem after vars one two left low_is put_low high_is put_high run =
      let loop = roll-Cmd (c.While (is_below li lh) (turn_of li cmds)) in
      next (roll-Cmd (c.Set li low)) (roll-Cmd (c.Set lh high) ∷ loop ∷ []) (expr_weight w low + w.set)
      (expr_weight w high + w.set + (ticks + 0)) mem mem after vars one left
      (sets li low n mem vars one low_is put_low)
      (next (roll-Cmd (c.Set lh high)) (loop ∷ []) (expr_weight w high + w.set) (ticks + 0) mem mem after one two left
      (sets lh high m mem one two high_is put_high)
      (next loop [] ticks 0 mem after after two left left (whiles (is_below li lh) (turn_of li cmds) ticks mem after two left run)
      (done after left)))
