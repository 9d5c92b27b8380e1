-- What holds of runs: fuel from which on the meaning ends as the run does, and what no run changes.
use Rattle.std.proofs.Common.{◌≡◌, refl, sym, ◌∙◌, ap, subst, arith, ℕ, zero, suc, ◌+◌, ◌-◌, ◌/◌, ◌%◌, ◌<◌, ◌≤◌, Bool, true}
use Rattle.std.proofs.Common.{false, List, [], ◌∷◌, ◌++◌, length, map, Option, Some, None, Result, Ok, nat_eq, nat_lt, slice_set}
use Rattle.std.specs.Prelude.{is_some}
use Rattle.std.specs.FinMap.{get, insert}
use Rattle.std.proofs.lemmas.Bool.{eqb-true}
use Rattle.std.proofs.lemmas.Bool.Decides.{nat_tests}
use Rattle.std.proofs.lemmas.List.{length-set}
use Rattle.bed_meaning.specs.Fuelled.{and_then, in_turn, finish}
use Rattle.rv_memory.specs.Ranges.{Bytes}
use Rattle.rv_memory.proofs.laws.Numbers.{get-insert_same, get-insert_other}
use Rattle.bed_syntax.specs.Weight.{expr_weight}
use Rattle.bed_syntax.specs.declared.weights.Weights.{Weights}
use Rattle.bed_syntax.specs.declared.operation.Size.{Size}
use Rattle.bed_syntax.specs.declared.operation.Size.TheVariants as size
use Rattle.bed_syntax.specs.declared.expression.BExpr.{BExpr}
use Rattle.bed_syntax.specs.declared.command.Cmd.{Cmd, Cmd-F, roll-Cmd, map-Cmd, fold-roll-Cmd}
use Rattle.bed_syntax.specs.declared.command.Cmd.TheOpen as c
use Rattle.bed_meaning.specs.declared.halt.Halt.{Halt}
use Rattle.bed_meaning.specs.Access.{width, low_high, word, stored, where_some, store}
use Rattle.bed_meaning.specs.Locals.{Vars, assigned}
use Rattle.bed_meaning.specs.State.{State}
use Rattle.bed_meaning.specs.Meaning.{Rule, loop_of, run_step, run}
use Rattle.bed_meaning.specs.Runs.{Part, One, All, Loop, Runs, sets, stores, firsts, seconds, seqs, whiles, done, next, ends}
use Rattle.bed_meaning.specs.Runs.{turns, FuelFor, Shape}

-- Fuel.

-- a sum that computes: n before m
abbrev more : ℕ → ℕ → ℕ
more zero m = m
more (suc n) m = suc (more n m)

more_more : (n k m : ℕ) → more (more n k) m ≡ more n (more k m)
more_more zero k m = refl
more_more (suc n) k m = ap suc (more_more n k m)

more_least : (n m : ℕ) → n ≤ more n m
more_least zero m = omega arith
more_least (suc n) m = let rest = more_least n m in omega (arith, rest)

more_last : (n m : ℕ) → m ≤ more n m
more_last zero m = omega arith
more_last (suc n) m = let rest = more_last n m in omega (arith, rest)

more_back : (n fuel : ℕ) → n ≤ fuel → more n (fuel - n) ≡ fuel
more_back zero fuel less = omega arith
more_back (suc n) fuel less =
    let rest = more_back n (fuel - 1) (omega (arith, less)) in
    let left : fuel - suc n ≡ fuel - 1 - n = omega arith in
    ap (λ k. suc (more n k)) left ∙ ap suc rest ∙ omega (arith, less)

abbrev state : ℕ → ℕ → Bytes → Vars → State
state fuel ticks mem vars = record { fuel = fuel; ticks = ticks; mem = mem; vars = vars }

-- the rule takes n, whatever more there is
abbrev Takes : Rule → Bytes → Vars → Bytes → Vars → ℕ → Type 0
Takes rule mem vars after left i = (n : ℕ) × ((m k : ℕ) → rule (state (more n m) k mem vars) ≡ Ok (state m (k + i) after left))

-- the loop takes n, with any greater number of tests
abbrev TakesIn : Weights → BExpr → Cmd → Bytes → Vars → Bytes → Vars → ℕ → Type 0
TakesIn w e p mem vars after left i =
    (n : ℕ) × ((b m k : ℕ) → n < b → loop_of w b e (run w p) (state (more n m) k mem vars) ≡ Ok (state m (k + i) after left))

abbrev Claim : Weights → Part → Bytes → Vars → Bytes → Vars → ℕ → Type 0
Claim w (One p) mem vars after left i = Takes (run w p) mem vars after left i
Claim w (All ps) mem vars after left i = Takes (in_turn (map (run w) ps)) mem vars after left i
Claim w (Loop e p) mem vars after left i = TakesIn w e p mem vars after left i

-- a command's rule is that of its parts
by_parts : (w : Weights) (x : Cmd-F Cmd) (s : State) (o : Result State Halt) → run_step w (map-Cmd Cmd Rule (run w) x) s ≡ o
    → run w (roll-Cmd x) s ≡ o
by_parts w x s o is = ap (λ (r : Rule). r s) (fold-roll-Cmd Rule (run_step w) x) ∙ is

later : (m k one rest : ℕ) (after : Bytes) (left : Vars)
    → ◌≡◌ {A = Result State Halt} (Ok (state m (k + one + rest) after left)) (Ok (state m (k + (one + rest)) after left))
later m k one rest after left = let sum : k + one + rest ≡ k + (one + rest) = omega arith in
    ap (λ t. Ok (state m t after left)) sum

claimed : (w : Weights) (part : Part) (mem : Bytes) (vars : Vars) (after : Bytes) (left : Vars) (i : ℕ)
    → Runs w part mem vars after left i → Claim w part mem vars after left i
claimed w part mem vars after left i (sets x e v m vs put is put_is) =
    (1, λ n k. by_parts w (c.Set x e) (state (suc n) k m vs) _ (rw (is, put_is) refl))
claimed w part mem vars after left i (stores size a e at v m stored_mem vs at_is is store_is) =
    (1, λ n k. by_parts w (c.Store size a e) (state (suc n) k m vs) _ (rw (at_is, is, store_is) refl))
claimed w part mem vars after left i (firsts e p q v ticks m m1 vs vs1 is runs) =
    let h : Takes (run w p) m vs m1 vs1 ticks = claimed w (One p) m vs m1 vs1 ticks runs in (
      suc h.0,
      λ n k. by_parts w (c.Cond e p q) (state (suc (more h.0 n)) k m vs) _
          (rw is (h.1 n (k + (expr_weight w e + w.test)) ∙ later n k (expr_weight w e + w.test) ticks m1 vs1)),
    )
claimed w part mem vars after left i (seconds e p q ticks m m1 vs vs1 is runs) =
    let h : Takes (run w q) m vs m1 vs1 ticks = claimed w (One q) m vs m1 vs1 ticks runs in (
      suc h.0,
      λ n k. by_parts w (c.Cond e p q) (state (suc (more h.0 n)) k m vs) _
          (rw is (h.1 n (k + (expr_weight w e + w.test)) ∙ later n k (expr_weight w e + w.test) ticks m1 vs1)),
    )
claimed w part mem vars after left i (seqs cs ticks m m1 vs vs1 runs) =
    let h : Takes (in_turn (map (run w) cs)) m vs m1 vs1 ticks = claimed w (All cs) m vs m1 vs1 ticks runs in
    (suc h.0, λ n k. by_parts w (c.Seq cs) (state (suc (more h.0 n)) k m vs) _ (h.1 n k))
claimed w part mem vars after left i (whiles e p ticks m m1 vs vs1 runs) =
    let h : TakesIn w e p m vs m1 vs1 ticks = claimed w (Loop e p) m vs m1 vs1 ticks runs in (
      suc h.0,
      λ n k. by_parts w (c.While e p) (state (suc (more h.0 n)) k m vs) _
          (let least = more_least h.0 n in h.1 (suc (more h.0 n)) n k (omega (arith, least))),
    )
claimed w part mem vars after left i (done m vs) =
    (0, λ n k. (let same_ticks : k ≡ k + 0 = omega arith in ap (λ t. Ok (state n t m vs)) same_ticks))
claimed w part mem vars after left i (next p ps one rest m m1 m2 vs vs1 vs2 first others) =
    let h : Takes (run w p) m vs m1 vs1 one = claimed w (One p) m vs m1 vs1 one first in
    let g : Takes (in_turn (map (run w) ps)) m1 vs1 m2 vs2 rest = claimed w (All ps) m1 vs1 m2 vs2 rest others in (
      more h.0 g.0,
      λ n k.
          ap (λ f. and_then (run w p (state f k m vs)) (in_turn (map (run w) ps))) (more_more h.0 g.0 n)
          ∙ ap (λ r. and_then r (in_turn (map (run w) ps))) (h.1 (more g.0 n) k)
          ∙ g.1 n (k + one)
          ∙ later n k one rest m2 vs2,
    )
claimed w part mem vars after left i (ends e p m vs is) =
    (0, λ b n k less. at_end b n k less)
  where
    at_end : (b n k : ℕ) → 0 < b → loop_of w b e (run w p) (state n k m vs) ≡ Ok (state n (k + (expr_weight w e + w.turn)) m vs)
    at_end zero n k less = absurd (omega (arith, less))
    at_end (suc b) n k less = rw is refl
claimed w part mem vars after left i (turns e p v one rest m m1 m2 vs vs1 vs2 is first others) =
    turned (claimed w (One p) m vs m1 vs1 one first) (claimed w (Loop e p) m1 vs1 m2 vs2 rest others)
  where
    turned : Takes (run w p) m vs m1 vs1 one → TakesIn w e p m1 vs1 m2 vs2 rest
        → TakesIn w e p m vs m2 vs2 (expr_weight w e + w.turn + one + rest)
    turned h g = (suc (more h.0 g.0), at_turn) where
      at_turn : (b n k : ℕ) → suc (more h.0 g.0) < b → loop_of w b e (run w p) (state (suc (more (more h.0 g.0) n)) k m vs)
          ≡ Ok (state n (k + (expr_weight w e + w.turn + one + rest)) m2 vs2)
      at_turn zero n k less = absurd (omega (arith, less))
      at_turn (suc b) n k less =
          let price = expr_weight w e + w.turn in
          let last = more_last h.0 g.0 in
          let sum : k + price + one + rest ≡ k + (price + one + rest) = omega arith in
          rw is
          (ap (λ f. and_then (run w p (state f (k + price) m vs)) (loop_of w b e (run w p))) (more_more h.0 g.0 n)
          ∙ ap (λ r. and_then r (loop_of w b e (run w p))) (h.1 (more g.0 n) (k + price))
          ∙ g.1 b n (k + price + one) (omega (arith, less, last))
          ∙ ap (λ t. Ok (state n t m2 vs2)) sum)

-- a run gives a fuel from which on the meaning ends as it does
pub fuel_of_run : (w : Weights) (p : Cmd) (mem : Bytes) (vars : Vars) (after : Bytes) (left : Vars) (ticks : ℕ)
    → Runs w (One p) mem vars after left ticks → FuelFor w p mem vars after left ticks
fuel_of_run w p mem vars after left ticks runs =
    let h : Takes (run w p) mem vars after left ticks = claimed w (One p) mem vars after left ticks runs in (
      h.0,
      λ fuel enough. ap (λ f. finish (run w p (state f 0 mem vars))) (sym (more_back h.0 fuel enough))
          ∙ ap finish (h.1 (fuel - h.0) 0) ∙ ends_so,
    )
  where
    ends_so : finish (Ok (state 0 (0 + ticks) after left)) ≡ Ok (ticks, after, left)
    ends_so = let same_ticks : 0 + ticks ≡ ticks = omega arith in ap (λ t. Ok (t, after, left)) same_ticks

-- What stays.

kept_there : (mem : Bytes) (a b q : ℕ) → is_some (get mem a) ≡ true → (t : Bool) → nat_eq q a ≡ t
    → is_some (get (insert mem a b) q) ≡ is_some (get mem q)
kept_there mem a b q there true e =
    let is : q ≡ a = eqb-true q a e in
    subst (λ (p : ℕ). is_some (get (insert mem a b) p) ≡ is_some (get mem p)) (sym is)
    (ap is_some (get-insert_same mem a b) ∙ sym there)
kept_there mem a b q there false e = ap is_some (get-insert_other mem a b q (grind (arith, nat_tests, e)))

-- a byte put where there was one
pub insert_kept : (mem : Bytes) (a b q : ℕ) → is_some (get mem a) ≡ true → is_some (get (insert mem a b) q) ≡ is_some (get mem q)
insert_kept mem a b q there = kept_there mem a b q there (nat_eq q a) refl

both_there : (x y : Option ℕ) (n : ℕ) → low_high x y ≡ Some n → (is_some x ≡ true) × (is_some y ≡ true)
both_there None y n is = absurd (cc)
both_there (Some a) None n is = absurd (cc)
both_there (Some a) (Some b) n is = (refl, refl)

some_of : (x : Option ℕ) → is_some x ≡ true → (n : ℕ) × (x ≡ Some n)
some_of None is = absurd (let bad : false ≡ true = is in cc)
some_of (Some n) is = (n, refl)

stored_kept : (s : Size) (mem : Bytes) (a v n q : ℕ) → word (λ p. get mem p) s a ≡ Some n
    → is_some (get (stored s mem a v) q) ≡ is_some (get mem q)
stored_kept size.One mem a v n q is = insert_kept mem a (v % 256) q (ap is_some is)
stored_kept size.Two mem a v n q is =
    let t = both_there (get mem a) (get mem (a + 1)) n is in
    let m1 : Bytes = insert mem a (v % 256) in
    insert_kept m1 (a + 1) (v / 256 % 256) q (insert_kept mem a (v % 256) (a + 1) t.0 ∙ t.1) ∙ insert_kept mem a (v % 256) q t.0
stored_kept size.Four mem a v n q is =
    let t = both_there (get mem a) (low_high (get mem (a + 1)) (low_high (get mem (a + 2)) (get mem (a + 3)))) n is in
    let u = some_of (low_high (get mem (a + 1)) (low_high (get mem (a + 2)) (get mem (a + 3)))) t.1 in
    let t1 = both_there (get mem (a + 1)) (low_high (get mem (a + 2)) (get mem (a + 3))) u.0 u.1 in
    let u1 = some_of (low_high (get mem (a + 2)) (get mem (a + 3))) t1.1 in
    let t2 = both_there (get mem (a + 2)) (get mem (a + 3)) u1.0 u1.1 in
    let m1 : Bytes = insert mem a (v % 256) in
    let m2 : Bytes = insert m1 (a + 1) (v / 256 % 256) in
    let m3 : Bytes = insert m2 (a + 2) (v / 65536 % 256) in
    let one : (p : ℕ) → is_some (get m1 p) ≡ is_some (get mem p) = λ p. insert_kept mem a (v % 256) p t.0 in
    let two : (p : ℕ) → is_some (get m2 p)
    ≡ is_some (get mem p) = λ p. insert_kept m1 (a + 1) (v / 256 % 256) p (one (a + 1) ∙ t1.0) ∙ one p in
    let three : (p : ℕ) → is_some (get m3 p)
    ≡ is_some (get mem p) = λ p. insert_kept m2 (a + 2) (v / 65536 % 256) p (two (a + 2) ∙ t2.0) ∙ two p in
    insert_kept m3 (a + 3) (v / 16777216) q (three (a + 3) ∙ t2.1) ∙ three q

-- a store changes no address
pub store_kept : (s : Size) (mem after : Bytes) (a v q : ℕ) → store s mem a v ≡ Some after
    → is_some (get after q) ≡ is_some (get mem q)
store_kept s mem after a v q is = by (nat_eq (a % width s) 0) refl where
  found : (o : Option ℕ) → word (λ p. get mem p) s a ≡ o → where_some o (stored s mem a v) ≡ Some after
      → is_some (get after q) ≡ is_some (get mem q)
  found None at none = absurd (let bad : None ≡ Some after = none in cc)
  found (Some n) at some =
      let one : stored s mem a v ≡ after = cc in
      ap (λ (m : Bytes). is_some (get m q)) (sym one) ∙ stored_kept s mem a v n q at

  by : (b : Bool) → nat_eq (a % width s) 0 ≡ b → is_some (get after q) ≡ is_some (get mem q)
  by true e = found (word (λ p. get mem p) s a) refl (rw e at is)
  by false e = absurd (let bad : None ≡ Some after = rw e at is in cc)

assigned_count : (x v : ℕ) (vars after : Vars) → assigned x v vars ≡ Some after → length after ≡ length vars
assigned_count x v vars after is = by (nat_lt x (length vars)) refl where
  by : (b : Bool) → nat_lt x (length vars) ≡ b → length after ≡ length vars
  by true e =
      let some : Some (slice_set vars x (Some v)) ≡ Some after = rw e at is in
      let one : slice_set vars x (Some v) ≡ after = cc in
      ap length (sym one) ∙ length-set vars x (Some v)
  by false e = absurd (let bad : None ≡ Some after = rw e at is in cc)

same_shape : (mem : Bytes) (vars : Vars) → Shape mem vars mem vars
same_shape mem vars = record { addresses = λ a. refl; count = refl }

shape_on : (m1 m2 m3 : Bytes) (v1 v2 v3 : Vars) → Shape m1 v1 m2 v2 → Shape m2 v2 m3 v3 → Shape m1 v1 m3 v3
shape_on m1 m2 m3 v1 v2 v3 a b = record { addresses = λ q. b.addresses q ∙ a.addresses q; count = b.count ∙ a.count }

-- a run changes no address of the memory, and not the number of the locals
pub shape_of_run : (w : Weights) (part : Part) (mem : Bytes) (vars : Vars) (after : Bytes) (left : Vars) (i : ℕ)
    → Runs w part mem vars after left i → Shape mem vars after left
shape_of_run w part mem vars after left i (sets x e v m vs put is put_is) =
    record { addresses = λ a. refl; count = assigned_count x v vs put put_is }
shape_of_run w part mem vars after left i (stores s a e at v m m1 vs at_is is store_is) =
    record { addresses = λ q. store_kept s m m1 at v q store_is; count = refl }
shape_of_run w part mem vars after left i (firsts e p q v ticks m m1 vs vs1 is runs) =
    shape_of_run w (One p) m vs m1 vs1 ticks runs
shape_of_run w part mem vars after left i (seconds e p q ticks m m1 vs vs1 is runs) =
    shape_of_run w (One q) m vs m1 vs1 ticks runs
shape_of_run w part mem vars after left i (seqs cs ticks m m1 vs vs1 runs) = shape_of_run w (All cs) m vs m1 vs1 ticks runs
shape_of_run w part mem vars after left i (whiles e p ticks m m1 vs vs1 runs) = shape_of_run w (Loop e p) m vs m1 vs1 ticks runs
shape_of_run w part mem vars after left i (done m vs) = same_shape m vs
shape_of_run w part mem vars after left i (next p ps one rest m m1 m2 vs vs1 vs2 first others) =
    shape_on m m1 m2 vs vs1 vs2 (shape_of_run w (One p) m vs m1 vs1 one first) (shape_of_run w (All ps) m1 vs1 m2 vs2 rest others)
shape_of_run w part mem vars after left i (ends e p m vs is) = same_shape m vs
shape_of_run w part mem vars after left i (turns e p v one rest m m1 m2 vs vs1 vs2 is first others) =
    shape_on m m1 m2 vs vs1 vs2 (shape_of_run w (One p) m vs m1 vs1 one first)
    (shape_of_run w (Loop e p) m1 vs1 m2 vs2 rest others)

-- the commands of both lists, one after the other
pub runs_append : (w : Weights) (ps qs : List Cmd) (mem between after : Bytes) (vars middle left : Vars) (i j : ℕ)
    → Runs w (All ps) mem vars between middle i
    → Runs w (All qs) between middle after left j → Runs w (All (ps ++ qs)) mem vars after left (i + j)
runs_append w ps qs mem between after vars middle left i j (done m v) second =
    let sum : j ≡ 0 + j = omega arith in
    subst (λ (n : ℕ). Runs w (All qs) m v after left n) sum second
runs_append w ps qs mem between after vars middle left i j (next p others one rest m m1 m2 v v1 v2 first more_runs) second =
    let sum : one + (rest + j) ≡ one + rest + j = omega arith in
    subst (λ (n : ℕ). Runs w (All (p ∷ others ++ qs)) m v after left n) sum
    (next p (others ++ qs) one (rest + j) m m1 after v v1 left first
    (runs_append w others qs m1 m2 after v1 v2 left rest j more_runs second))
