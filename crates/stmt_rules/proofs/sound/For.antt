-- s-for is sound, from its bounds and its block.
use Rattle.std.proofs.Common.{◌≡◌, ◌≢◌, refl, sym, ◌∙◌, ap, subst, arith, ℕ, ◌+◌, ◌-◌, ◌<◌, ◌≤◌, ◌≤ℤ◌, ◌*ℤ◌, ◌+ℤ◌, neg_ℤ, true}
use Rattle.std.proofs.Common.{false, not, ◌&&◌, ℤ, pos, negsuc, nat_eq, List, [], ◌∷◌, ◌++◌, drop, length, map, Some, None}
use Rattle.std.proofs.Common.{slice_get, slice_set, slice_index_or}
use Rattle.std.specs.List.{list_all, range_with_len}
use Rattle.std.proofs.Math.Nat.{mul-le-mul_right}
use Rattle.std.proofs.lemmas.Bool.Decides.{nat_tests}
use Rattle.std.proofs.lemmas.Int.{ints}
use Rattle.std.proofs.lemmas.List.{append-nil, length-set}
use Rattle.std.proofs.lemmas.Option.{slice_get-get_or}
use Rattle.rv_memory.specs.Ranges.{Bytes}
use Rattle.side_certs.specs.LinearForm.{LinearForm, value_at, constant, times, plus}
use Rattle.side_certs.specs.Closes.{Holds}
use Rattle.side_certs.specs.declared.certificate.Cert.{Cert}
use Rattle.side_certs.proofs.laws.Values.{value_plus, value_times, value_constant}
use Rattle.model_syntax.specs.declared.expr.Expr.{Expr}
use Rattle.model_syntax.specs.declared.expr.Scalar.TheVariants.{Word}
use Rattle.model_syntax.specs.declared.program.Param.{Param}
use Rattle.model_syntax.specs.declared.stmt.Le.{Le}
use Rattle.model_syntax.specs.declared.stmt.Stmt.{Stmt}
use Rattle.model_syntax.specs.Environment.{Env, value_of}
use Rattle.model_syntax.specs.Names.{Name}
use Rattle.model_syntax.specs.Scope.{Scope}
use Rattle.model_syntax.specs.Sound.{IsTyped}
use Rattle.model_syntax.specs.Value.{run, eval, folded, loop_turn, numbers}
use Rattle.sym_heap.specs.Context.{Context, has, is_free, leaves_free}
use Rattle.sym_heap.specs.Fits.{Call, Known, FitsBy, FitsOn}
use Rattle.sym_heap.specs.Moves.{Moves}
use Rattle.sym_heap.specs.Sides.{form_in}
use Rattle.sym_heap.specs.Start.{with_facts}
use Rattle.sym_heap.specs.Turns.{EndsLike}
use Rattle.sym_heap.proofs.laws.Moves.{moves_on}
use Rattle.sym_heap.proofs.laws.States.{known_same, agree_on, taken_length, moved_locals, free_reserved}
use Rattle.sym_heap.proofs.laws.Turns.{first_turn, loop_leaves}
use Rattle.bed_syntax.specs.Weight.{expr_weight}
use Rattle.bed_syntax.specs.declared.weights.Weights.{Weights}
use Rattle.bed_meaning.specs.Locals.{Vars, local_at}
use Rattle.expr_rules.specs.declared.output.ExprOut.{ExprOut}
use Rattle.expr_rules.specs.Sound.{AllHold, ExprRan, ExprDone, Yields}
use Rattle.expr_rules.specs.Words.{◌>>=◌, shown}
use Rattle.expr_rules.proofs.laws.Yields.{yields_need, yields_shown, yields_more}
use Rattle.stmt_rules.specs.declared.loops.Counter.{Counter}
use Rattle.stmt_rules.specs.declared.output.StmtOut.{StmtOut}
use Rattle.stmt_rules.specs.Bound.{cost_all, trip_at, nat_of, all_below}
use Rattle.stmt_rules.specs.Loops.{turn_of, given_first}
use Rattle.stmt_rules.specs.Nesting.{all_shown}
use Rattle.stmt_rules.specs.Sound.{UnwrittenKept, StmtRan, StmtDone}
use Rattle.stmt_rules.specs.rules.For as for_rule
use Rattle.stmt_rules.proofs.Sequence.{and_parts}
use Rattle.stmt_rules.proofs.sound.Begun.{facts_fit}
use Rattle.stmt_rules.proofs.sound.Counted.{Counted, counted}
use Rattle.stmt_rules.proofs.sound.Counting.{more_price, test_price, counting_price, counting_cost, CountsBelow, counting_below}
use Rattle.stmt_rules.proofs.sound.Counting.{set_put, set_value, set_apart, counting_runs}
use Rattle.stmt_rules.proofs.sound.ForEnd.{loop_over, left_loop, after_facts, after_known, after_good, after_scoped, loop_moves}
use Rattle.stmt_rules.proofs.sound.ForEnd.{left_array}
use Rattle.stmt_rules.proofs.sound.ForTurn.{LoopDone, TurnAt, turn_made, like, follows, more_tops, entries_same}
use Rattle.stmt_rules.proofs.sound.ForValues.{nums, start_nums, left_nums}
use Rattle.stmt_rules.proofs.sound.Joined.{forms_of, Shown, all_shown_hold}
use Rattle.stmt_rules.proofs.sound.Kept.{forms_hold}
use Rattle.stmt_rules.proofs.sound.Let.{extends_moves}
use Rattle.stmt_rules.proofs.sound.Mentioned.{without_hold}

-- The trips.

-- a form of entry symbols has the value of the numbers of the call
pub trips_value : (call : Call) (v : ℕ → ℕ) (t : LinearForm) (c : Context) (env : Env) (mem : Bytes) (vars : Vars)
    → FitsBy call v c env mem (local_at vars) → Known c.entries t
    → value_at v t ≡ value_at (λ s. slice_index_or call.entries s 0) t
trips_value call v t c env mem vars fits known =
    known_same c.entries t (λ s. slice_index_or call.entries s 0) v known
    (λ s less. numbers_are s (subst (λ (n : ℕ). s < n) fits.entry_count less)) where
      numbers_are : (s : ℕ) → s < length call.entries → v s ≡ slice_index_or call.entries s 0
      numbers_are s less = fits.entries s (slice_index_or call.entries s 0) (slice_get-get_or call.entries s 0 less)

-- no more turns than the trip form says
few_turns : (z : ℤ) (n m : ℕ) → pos 0 ≤ℤ (z +ℤ (neg_ℤ (pos m) +ℤ pos n)) → m - n ≤ nat_of z
few_turns (pos k) n m shown = omega (arith, ints, shown)
few_turns (negsuc k) n m shown = omega (arith, ints, shown)

-- Before the block.

-- what is shown at the start
pub record LoopStarted (x : Name) (keep : List Le) (k : Counter) (low high : LinearForm) (c d : Context) : Type 0 where
  pub is : d ≡ c
  pub unused : for_rule.are_unused k c ≡ true
  pub trips : (v : ℕ → ℕ) → Holds v c.facts c.tops → pos 0 ≤ℤ value_at v (for_rule.spare_trips k.trips low high)
  pub facts : (v : ℕ → ℕ) → Holds v c.facts c.tops → AllHold v (forms_of (given_first x low (form_in c.scalars)) keep)

pub starts_yield : (at : ℕ) (x : Name) (keep : List Le) (certs : List Cert) (k : Counter) (low high : LinearForm) (c : Context)
    → Yields (λ _ d. LoopStarted x keep k low high c d) (for_rule.starts at x keep certs k low high c)
starts_yield at x keep certs k low high c =
    yields_need Q c (for_rule.are_unused k c) at 4
    (λ _. shown at certs (for_rule.spare_trips k.trips low high)
    >>= (λ _. all_shown at 1 (drop 1 certs) (given_first x low (form_in c.scalars)) keep))
    (λ unused. yields_shown Q c at certs (for_rule.spare_trips k.trips low high)
    (λ _. all_shown at 1 (drop 1 certs) (given_first x low (form_in c.scalars)) keep)
    (λ trips. yields_more (Shown c (forms_of (given_first x low (form_in c.scalars)) keep)) Q
    (λ u d is. record { is = is.0; unused = unused; trips = trips; facts = is.1 })
    (all_shown at 1 (drop 1 certs) (given_first x low (form_in c.scalars)) keep c)
    (all_shown_hold at 1 (drop 1 certs) (given_first x low (form_in c.scalars)) keep c)))
  where
    Q : Unit {0} → Context → Type 0
    Q u d = LoopStarted x keep k low high c d

-- the locals are free and differ
pub unused_parts : (k : Counter) (c : Context) → for_rule.are_unused k c ≡ true
    → (is_free c k.count None ≡ true) × ((is_free c k.last None ≡ true) × (k.count ≢ k.last))
unused_parts k c is =
    let one = and_parts (is_free c k.count None) (is_free c k.last None && not (nat_eq k.count k.last)) is in
    let two = and_parts (is_free c k.last None) (not (nat_eq k.count k.last)) one.1 in
    (one.0, (two.0, λ same_one. absurd (differ k.count k.last same_one two.1)))
  where
    differ : (a b : ℕ) → a ≡ b → not (nat_eq a b) ≡ true → ⊥
    differ a b same_one other = grind (arith, nat_tests, same_one, other)

-- what a local is to a context it is to one with these scalars and reserved locals
free_as : (c d : Context) (l : ℕ) → d.scalars ≡ c.scalars → d.reserved ≡ c.reserved → is_free d l None ≡ true
    → is_free c l None ≡ true
free_as c d l scalars reserved is = ap (λ hs. not (has l c.reserved) && list_all (leaves_free l None) hs) (sym scalars)
    ∙ ap (λ ls. not (has l ls) && list_all (leaves_free l None) d.scalars) (sym reserved) ∙ is

spare_value : (v : ℕ → ℕ) (t low high : LinearForm) (n m : ℕ) → value_at v low ≡ pos n → value_at v high ≡ pos m
    → value_at v (for_rule.spare_trips t low high) ≡ value_at v t +ℤ (neg_ℤ (pos m) +ℤ pos n)
spare_value v t low high n m low_is high_is =
    let zero_is = value_constant v (pos 0) in
    let one = value_times v (pos 1) t in
    let two = value_times v (negsuc 0) high in
    let three = value_times v (pos 1) low in
    let four = value_plus v (times (pos 1) low) (constant (pos 0)) in
    let five = value_plus v (times (negsuc 0) high) (plus (times (pos 1) low) (constant (pos 0))) in
    let six = value_plus v (times (pos 1) t) (plus (times (negsuc 0) high) (plus (times (pos 1) low) (constant (pos 0)))) in
    let a : (pos 1 *ℤ value_at v t) ≡ value_at v t = once (value_at v t) in
    let b : (negsuc 0 *ℤ value_at v high) ≡ neg_ℤ (pos m) = ap (λ z. negsuc 0 *ℤ z) high_is ∙ omega (arith, ints) in
    let e : (pos 1 *ℤ value_at v low) ≡ pos n = ap (λ z. pos 1 *ℤ z) low_is ∙ omega (arith, ints) in
    omega (arith, ints, zero_is, one, two, three, four, five, six, a, b, e)
  where
    once : (z : ℤ) → (pos 1 *ℤ z) ≡ z
    once (pos j) = omega (arith, ints)
    once (negsuc j) = omega (arith, ints)

-- The whole.

module _ (ps : List Param) (scope last : Scope) (x : Name) (names : List Name) (keep : List Le) (body : List Stmt)
    (low high : Expr) (k : Counter) (c0 mid c : Context) (p q : ExprOut)
    (one : ExprDone ps scope (eval low) Word c0 p mid) (two : ExprDone ps scope (eval high) Word mid q c)
    (trips_known : Known c.entries k.trips)
    (out : StmtOut) (e : Context) (d : LoopDone ps scope last x names keep body k p.form q.form c out e)
    (spare : (v : ℕ → ℕ) → Holds v c.facts c.tops → pos 0 ≤ℤ value_at v (for_rule.spare_trips k.trips p.form q.form))
    (shown : (v : ℕ → ℕ) → Holds v c.facts c.tops → AllHold v (forms_of (given_first x p.form (form_in c.scalars)) keep))
    (typed : (lengths : Name → ℕ) (env : Env) → IsTyped lengths scope env
    → IsTyped lengths scope (folded (loop_turn x names (map run body)) (numbers (eval low env) (eval high env)) env)) where
  abbrev sem : Env → Env
  sem env = folded (loop_turn x names (map run body)) (numbers (eval low env) (eval high env)) env

  abbrev looped : StmtOut
  looped = for_rule.looping k p.code q.code out

  abbrev left_over : Context
  left_over = left_loop ps x names keep scope last c e d.good d.done.consistent d.scoped d.done.scoped d.kept
      (follows ps scope last x names keep body k p.form q.form c out e d)
      (more_tops ps scope last x names keep body k p.form q.form c out e d)
      (entries_same ps scope last x names keep body k p.form q.form c out e d) d.places d.arrays

  abbrev facts_over : List LinearForm
  facts_over = after_facts ps x names keep scope last c e d.good d.done.consistent d.scoped d.done.scoped d.kept
      (follows ps scope last x names keep body k p.form q.form c out e d)
      (more_tops ps scope last x names keep body k p.form q.form c out e d)
      (entries_same ps scope last x names keep body k p.form q.form c out e d) d.places d.arrays

  abbrev pub over : Context
  over = with_facts facts_over left_over

  -- what it costs
  looped_cost : (w : Weights) (call : Call) (rest : List LinearForm)
      → cost_all w call looped.cmds (looped.trips ++ rest)
      ≡ (counting_price w call k.count k.last p.code q.code k.trips (cost_all w call out.cmds out.trips).0, rest)
  looped_cost w call rest =
      counting_cost w call k.count k.last p.code q.code out.cmds k.trips (out.trips ++ rest)
      (cost_all w call out.cmds out.trips).0 rest (d.done.trips w call rest)

  looped_price : (w : Weights) (call : Call) → (cost_all w call looped.cmds looped.trips).0
      ≡ counting_price w call k.count k.last p.code q.code k.trips (cost_all w call out.cmds out.trips).0
  looped_price w call =
      let none : out.trips ++ [] ≡ out.trips = append-nil out.trips in
      ap (λ (l : List LinearForm). (cost_all w call looped.cmds (k.trips ∷ l)).0) (sym none)
      ∙ ap (λ (r : ℕ × List LinearForm). r.0) (looped_cost w call [])

  kids_move : Moves c0 c
  kids_move = moves_on c0 mid c (extends_moves c0 mid one.extends) (extends_moves mid c two.extends)

  free_before : (l : ℕ) → is_free c l None ≡ true → is_free mid l None ≡ true
  free_before l is = free_as mid c l two.extends.scalars two.extends.reserved is

  clauses_are : c.clauses ≡ c0.clauses
  clauses_are = two.extends.clauses ∙ one.extends.clauses

  reserved_are : c.reserved ≡ c0.reserved
  reserved_are = two.extends.reserved ∙ one.extends.reserved

  -- a run
  module _ (lengths : Name → ℕ) (w : Weights) (call : Call) (v0 : ℕ → ℕ) (env : Env) (mem : Bytes) (vars : Vars)
      (is : IsTyped lengths scope env) (fits : FitsBy call v0 c0 env mem (local_at vars))
      (room : all_below (length vars) looped.cmds ≡ true) where
    abbrev n : ℕ
    n = eval low env

    abbrev m : ℕ
    m = eval high env

    abbrev below : CountsBelow (length vars) k.count k.last out.cmds
    below = counting_below (length vars) k.count k.last p.code q.code out.cmds room

    abbrev a : ExprRan call n Word c0 p mid v0 env mem vars
    a = one.runs lengths call v0 env mem vars is fits

    abbrev first_vars : Vars
    first_vars = slice_set vars k.count (Some n)

    first_fits : FitsBy call a.others mid env mem (local_at first_vars)
    first_fits = moved_locals call a.others mid env mem k.count (local_at vars) (local_at first_vars)
        (free_before k.count d.free_count) (λ j apart. set_apart vars k.count n j apart) a.fits

    abbrev b : ExprRan call m Word mid q c a.others env mem first_vars
    b = two.runs lengths call a.others env mem first_vars is first_fits

    abbrev loop_vars : Vars
    loop_vars = slice_set first_vars k.last (Some m)

    first_length : length first_vars ≡ length vars
    first_length = length-set vars k.count (Some n)

    last_room : k.last < length first_vars
    last_room = subst (λ (j : ℕ). k.last < j) (sym first_length) below.last

    abbrev v : ℕ → ℕ
    v = b.others

    loop_fits : FitsBy call v c env mem (local_at loop_vars)
    loop_fits = moved_locals call v c env mem k.last (local_at first_vars) (local_at loop_vars) d.free_last
        (λ j apart. set_apart first_vars k.last m j apart) b.fits

    low_is : value_at v p.form ≡ pos n
    low_is = known_same (length mid.tops) p.form a.others v one.known b.agree ∙ a.form

    abbrev At : ℕ → Bytes → Vars → Type 0
    At = TurnAt ps scope last x names keep body k p.form q.form c out e d lengths w call v n m b.small low_is b.form env mem vars
        below.inner below.count

    not_free : (l j : ℕ) → has l c.reserved ≡ true → is_free c j None ≡ true → l ≢ j
    not_free l j reserved free same_one =
        absurd (let bad : true ≡ false = sym reserved ∙ ap (λ z. has z c.reserved) same_one ∙ free_reserved c j None free in cc)

    loop_like : EndsLike names c e
    loop_like = like ps scope last x names keep body k p.form q.form c out e d

    begin : At n mem loop_vars
    begin = record {
      env = env;
      rest = refl;
      from = omega arith;
      typed = is;
      begins = first_turn names call v c env mem (local_at loop_vars) loop_fits;
      at = set_apart first_vars k.last m k.count d.apart ∙ set_value vars k.count n below.count;
      to = set_value first_vars k.last m last_room;
      facts = forms_hold v v (given_first x p.form (form_in c.scalars)) (nums c x n env)
          (start_nums call v v c x p.form n env mem (local_at loop_vars) loop_fits low_is) keep (shown v loop_fits.holds);
      count = length-set first_vars k.last (Some m) ∙ first_length;
      kept = λ l reserved. set_apart first_vars k.last m l (not_free l k.last reserved d.free_last)
          ∙ set_apart vars k.count n l (not_free l k.count reserved d.free_count);
      outside = λ address beyond. refl;
      unwritten = λ i j l at_j at_l writes. ap (value_of env) (loop_like.named i j l at_j at_l);
    }

    abbrev most : ℕ
    most = (cost_all w call out.cmds out.trips).0 + more_price w call k.count

    turns : Counted w k.count k.last m most (m - n) (turn_of k.count out.cmds) At mem loop_vars
    turns =
        counted w k.count k.last m most (turn_of k.count out.cmds) At (λ i mem_i vars_i t. (t.at, t.to))
        (λ i mem_i vars_i less t. turn_made ps scope last x names keep body k p.form q.form c out e d lengths w call v n m b.small
        low_is b.form env mem vars below.inner below.count i mem_i vars_i less t)
        (m - n) n mem loop_vars refl begin

    abbrev last_turn : TurnAt ps scope last x names keep body k p.form q.form c out e d lengths w call v n m b.small low_is b.form
        env mem vars below.inner below.count turns.stop turns.left_mem turns.left
    last_turn = turns.holds

    -- the values after are those of the last turn
    last_env : last_turn.env ≡ sem env
    last_env =
        let over_now = turns.over in
        let none : m - turns.stop ≡ 0 = omega (arith, over_now) in
        sym (ap (λ j. folded (loop_turn x names (map run body)) (range_with_len turns.stop j) last_turn.env) none)
        ∙ last_turn.rest

    left_fits : FitsOn call (length c.tops) v left_over last_turn.env turns.left_mem (local_at turns.left)
    left_fits =
        loop_leaves names call v c e last_turn.env turns.left_mem (local_at turns.left) last_turn.begins loop_like
        d.done.consistent
        (more_tops ps scope last x names keep body k p.form q.form c out e d)
        (entries_same ps scope last x names keep body k p.form q.form c out e d)

    over_fits : FitsBy call left_fits.0 over last_turn.env turns.left_mem (local_at turns.left)
    over_fits =
        facts_fit call left_fits.0 last_turn.env turns.left_mem (local_at turns.left) facts_over left_over
        (after_known ps x names keep scope last c e d.good d.done.consistent d.scoped d.done.scoped d.kept
        (follows ps scope last x names keep body k p.form q.form c out e d)
        (more_tops ps scope last x names keep body k p.form q.form c out e d)
        (entries_same ps scope last x names keep body k p.form q.form c out e d) d.places d.arrays)
        (without_hold v left_fits.0 (nums c x turns.stop last_turn.env) (form_in left_over.scalars) x
        (left_nums call left_fits.0 v names c
        (loop_over ps x names keep scope last c e d.good d.done.consistent d.scoped d.done.scoped d.kept
        (follows ps scope last x names keep body k p.form q.form c out e d)
        (more_tops ps scope last x names keep body k p.form q.form c out e d)
        (entries_same ps scope last x names keep body k p.form q.form c out e d) d.places d.arrays)
        x turns.stop last_turn.env turns.left_mem (local_at turns.left) left_fits.2 refl) keep last_turn.facts)
        left_fits.2

    few : m - n ≤ trip_at call k.trips
    few = few_turns (value_at (λ s. slice_index_or call.entries s 0) k.trips) n m
        (subst (λ (z : ℤ). pos 0 ≤ℤ (z +ℤ (neg_ℤ (pos m) +ℤ pos n)))
        (trips_value call v k.trips c env mem loop_vars loop_fits trips_known)
        (subst (λ (z : ℤ). pos 0 ≤ℤ z) (spare_value v k.trips p.form q.form n m low_is b.form) (spare v loop_fits.holds)))

    unwritten_after : UnwrittenKept c0.clauses over.clauses env last_turn.env
    unwritten_after i j l at_j at_l writes =
        let after = left_array ps x names keep scope last c e d.good d.done.consistent d.scoped d.done.scoped d.kept
        (follows ps scope last x names keep body k p.form q.form c out e d)
        (more_tops ps scope last x names keep body k p.form q.form c out e d)
        (entries_same ps scope last x names keep body k p.form q.form c out e d) d.places d.arrays i l at_l in
        ap (value_of last_turn.env) after.name
        ∙ last_turn.unwritten i j after.end_clause (ap (λ ks. slice_get ks i) clauses_are ∙ at_j) after.at_end
        (after.writes ∙ writes)

    pub ran : StmtRan w call sem c0 looped over v0 env mem vars
    ran = record {
      others = left_fits.0;
      agree = agree_on (length c0.tops) (length c.tops) v0 v left_fits.0 (taken_length c0.tops c.tops kids_move.tops)
          (agree_on (length c0.tops) (length mid.tops) v0 a.others v (taken_length c0.tops mid.tops one.extends.tops) a.agree
          b.agree) left_fits.1;
      left_mem = turns.left_mem;
      left = turns.left;
      ticks = expr_weight w p.code + w.set + (expr_weight w q.code + w.set + (turns.ticks + 0));
      runs = counting_runs w k.count k.last n m turns.ticks p.code q.code out.cmds mem turns.left_mem vars first_vars loop_vars
          turns.left a.value (set_put vars k.count n below.count)
          b.value (set_put first_vars k.last m last_room) turns.runs;
      fits = subst (λ (g : Env). FitsBy call left_fits.0 over g turns.left_mem (local_at turns.left)) last_env over_fits;
      kept = λ l reserved. last_turn.kept l (ap (has l) reserved_are ∙ reserved);
      unwritten = subst (λ (g : Env). UnwrittenKept c0.clauses over.clauses env g) last_env unwritten_after;
      outside = λ address beyond. last_turn.outside address
          (λ j r at within. beyond j r (sym (ap (λ ks. slice_get ks j) clauses_are) ∙ at) within);
      time = (
          let spent = turns.time in
          let price = looped_price w call in
          let more = mul-le-mul_right (test_price w call k.count k.last + most) few in
          omega (arith, spent, price, more));
    }

  pub for_done : StmtDone ps scope scope sem c0 looped over
  for_done = record {
    moves = moves_on c0 c over kids_move
        (loop_moves ps x names keep scope last c e d.good d.done.consistent d.scoped d.done.scoped d.kept
        (follows ps scope last x names keep body k p.form q.form c out e d)
        (more_tops ps scope last x names keep body k p.form q.form c out e d)
        (entries_same ps scope last x names keep body k p.form q.form c out e d) d.places d.arrays);
    consistent = after_good ps x names keep scope last c e d.good d.done.consistent d.scoped d.done.scoped d.kept
        (follows ps scope last x names keep body k p.form q.form c out e d)
        (more_tops ps scope last x names keep body k p.form q.form c out e d)
        (entries_same ps scope last x names keep body k p.form q.form c out e d) d.places d.arrays;
    scoped = after_scoped ps x names keep scope last c e d.good d.done.consistent d.scoped d.done.scoped d.kept
        (follows ps scope last x names keep body k p.form q.form c out e d)
        (more_tops ps scope last x names keep body k p.form q.form c out e d)
        (entries_same ps scope last x names keep body k p.form q.form c out e d) d.places d.arrays;
    typed = typed;
    trips = λ w call rest. looped_cost w call rest ∙ ap (λ (j : ℕ). (j, rest)) (sym (looped_price w call));
    runs = λ lengths w call v0 env mem vars is fits room. ran lengths w call v0 env mem vars is fits room;
  }
