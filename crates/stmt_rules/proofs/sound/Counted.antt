-- Loops that count: from a number in one local up to that in another, whatever a turn does.
use Rattle.std.proofs.Common.{◌≡◌, sym, ◌∙◌, ap, arith, ℕ, zero, suc, ◌+◌, ◌-◌, ◌*◌, ◌%◌, ◌^◌, ◌<◌, ◌≤◌, true, false, Option}
use Rattle.std.proofs.Common.{Some, nat_lt}
use Rattle.std.proofs.lemmas.Bool.{lt-ltb}
use Rattle.std.proofs.lemmas.Bool.Decides.{nat_tests}
use Rattle.rv_memory.specs.Ranges.{Bytes}
use Rattle.bed_syntax.specs.Operation.{apply, flag}
use Rattle.bed_syntax.specs.Weight.{expr_weight}
use Rattle.bed_syntax.specs.declared.weights.Weights.{Weights}
use Rattle.bed_syntax.specs.declared.operation.BOp.{BOp}
use Rattle.bed_syntax.specs.declared.operation.BOp.TheVariants as bop
use Rattle.bed_syntax.specs.declared.expression.BExpr.{BExpr, fold-roll-BExpr}
use Rattle.bed_syntax.specs.declared.expression.BExpr.TheOpen as o
use Rattle.bed_syntax.specs.declared.expression.BExpr.TheVariants as b
use Rattle.bed_syntax.specs.declared.command.Cmd.{Cmd}
use Rattle.bed_meaning.specs.Locals.{Vars, local_at}
use Rattle.bed_meaning.specs.Runs.{One, Loop, Runs, ends, turns}
use Rattle.bed_meaning.specs.Value.{value, value_step, both}
use Rattle.stmt_rules.specs.Loops.{is_below}

-- Values.

abbrev pub Value : Type 0
Value = Bytes → Vars → Option ℕ

module _ (mem : Bytes) (vars : Vars) where
  pub value_lit : (n : ℕ) → value (b.Lit n) mem vars ≡ Some n
  value_lit n = ap (λ (f : Value). f mem vars) (ap value (sym (b.rolls-Lit n)) ∙ fold-roll-BExpr Value value_step (o.Lit n))

  pub value_var : (x : ℕ) → value (b.Var x) mem vars ≡ local_at vars x
  value_var x = ap (λ (f : Value). f mem vars) (ap value (sym (b.rolls-Var x)) ∙ fold-roll-BExpr Value value_step (o.Var x))

  pub value_bin : (op : BOp) (p q : BExpr) (m n : ℕ) → value p mem vars ≡ Some m → value q mem vars ≡ Some n
      → value (b.Bin op p q) mem vars ≡ Some (apply op m n)
  value_bin op p q m n one two =
      ap (λ (f : Value). f mem vars) (ap value (sym (b.rolls-Bin op p q)) ∙ fold-roll-BExpr Value value_step (o.Bin op p q))
      ∙ ap (λ z. both (apply op) z (value q mem vars)) one
      ∙ ap (λ z. both (apply op) (Some m) z) two

  -- one more, where that is a word
  pub value_more : (x n : ℕ) → local_at vars x ≡ Some n → n < 4294967295 → value (b.Bin bop.Add (b.Var x) (b.Lit 1)) mem vars
      ≡ Some (n + 1)
  value_more x n at small =
      let word : (n + 1) % 2 ^ 32 ≡ n + 1 = omega (arith, small) in
      value_bin bop.Add (b.Var x) (b.Lit 1) n 1 (value_var x ∙ at) (value_lit 1) ∙ ap Some word

  pub value_below : (li lh n m : ℕ) → local_at vars li ≡ Some n → local_at vars lh ≡ Some m
      → value (is_below li lh) mem vars ≡ Some (flag (nat_lt n m))
  value_below li lh n m at_n at_m = value_bin bop.Ltu (b.Var li) (b.Var lh) n m (value_var li ∙ at_n) (value_var lh ∙ at_m)

-- Turns.

-- what a turn does at the count k: afterwards the claim holds of the next one
pub record Turned (w : Weights) (body : Cmd) (most : ℕ) (I : ℕ → Bytes → Vars → Type 0) (k : ℕ) (mem : Bytes) (vars : Vars) : Type
    0 where
  pub left_mem : Bytes
  pub left : Vars
  pub ticks : ℕ
  pub runs : Runs w (One body) mem vars left_mem left ticks
  pub next : I (k + 1) left_mem left
  pub time : ticks ≤ most

-- the turns that are left have been made
pub record Counted (w : Weights) (li lh last most n : ℕ) (body : Cmd) (I : ℕ → Bytes → Vars → Type 0) (mem : Bytes)
    (vars : Vars) : Type 0 where
  pub stop : ℕ
  pub over : last ≤ stop
  pub left_mem : Bytes
  pub left : Vars
  pub ticks : ℕ
  pub runs : Runs w (Loop (is_below li lh) body) mem vars left_mem left ticks
  pub holds : I stop left_mem left
  pub time : ticks ≤ n * (expr_weight w (is_below li lh) + w.turn + most) + (expr_weight w (is_below li lh) + w.turn)

not_below : (k last : ℕ) → zero ≡ last - k → nat_lt k last ≡ false
not_below k last none = grind (arith, nat_tests, none)

is_less : (n k last : ℕ) → suc n ≡ last - k → k < last
is_less n k last some = omega (arith, some)

module _ (w : Weights) (li lh last most : ℕ) (body : Cmd) (I : ℕ → Bytes → Vars → Type 0)
    (stand : (k : ℕ) (mem : Bytes) (vars : Vars) → I k mem vars → (local_at vars li ≡ Some k) × (local_at vars lh ≡ Some last))
    (turn : (k : ℕ) (mem : Bytes) (vars : Vars) → k < last → I k mem vars → Turned w body most I k mem vars) where
  abbrev test : ℕ
  test = expr_weight w (is_below li lh) + w.turn

  one_turn : (n k : ℕ) (mem : Bytes) (vars : Vars) → k < last → I k mem vars → (t : Turned w body most I k mem vars)
      → Counted w li lh last most n body I t.left_mem t.left → Counted w li lh last most (suc n) body I mem vars
  one_turn n k mem vars less holds t rest =
      let at = stand k mem vars holds in
      let below : nat_lt k last ≡ true = lt-ltb k last less in
      let again : value (is_below li lh) mem vars
      ≡ Some 1 = value_below mem vars li lh k last at.0 at.1 ∙ ap (λ z. Some (flag z)) below in
      let one = t.time in
      let more = rest.time in
      let sum : suc n * (test + most) + test ≡ test + most + (n * (test + most) + test) = omega arith in
      record {
        stop = rest.stop;
        over = rest.over;
        left_mem = rest.left_mem;
        left = rest.left;
        ticks = test + t.ticks + rest.ticks;
        runs = turns (is_below li lh) body 0 t.ticks rest.ticks mem t.left_mem rest.left_mem vars t.left rest.left again t.runs
            rest.runs;
        holds = rest.holds;
        time = omega (arith, one, more, sum);
      }

  pub counted : (n k : ℕ) (mem : Bytes) (vars : Vars) → n ≡ last - k → I k mem vars → Counted w li lh last most n body I mem vars
  counted zero k mem vars left holds =
      let at = stand k mem vars holds in
      let over : value (is_below li lh) mem vars
      ≡ Some 0 = value_below mem vars li lh k last at.0 at.1 ∙ ap (λ z. Some (flag z)) (not_below k last left) in
      record {
        stop = k;
        over = omega (arith, left);
        left_mem = mem;
        left = vars;
        ticks = test;
        runs = ends (is_below li lh) body mem vars over;
        holds = holds;
        time = omega arith;
      }
  counted (suc n) k mem vars left holds =
      let less = is_less n k last left in
      let t = turn k mem vars less holds in
      one_turn n k mem vars less holds t (counted n (k + 1) t.left_mem t.left (omega (arith, left)) t.next)
