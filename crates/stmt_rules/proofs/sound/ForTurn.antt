-- The turns of s-for: from the state in which a turn begins to that in which the next one does.
use Rattle.std.proofs.Common.{◌≡◌, ◌≢◌, refl, sym, ◌∙◌, ap, subst, arith, ℕ, zero, suc, ◌+◌, ◌-◌, ◌<◌, ◌≤◌, ◌≤ℤ◌, ◌*ℤ◌, neg_ℤ}
use Rattle.std.proofs.Common.{Bool, true, false, pos, negsuc, List, [], ◌∷◌, ◌++◌, length, map, take, Option, Some, None, Ok}
use Rattle.std.proofs.Common.{slice_get, slice_set, nat_eq}
use Rattle.std.specs.List.{list_all, range_with_len}
use Rattle.std.specs.FinMap.{get}
use Rattle.std.proofs.lemmas.Bool.{le-leb}
use Rattle.std.proofs.lemmas.Bool.Decides.{nat_tests}
use Rattle.std.proofs.lemmas.Int.{ints}
use Rattle.rup_base.specs.declared.arg.Arg.{Arg}
use Rattle.rup_base.specs.declared.arg.Arg.TheVariants as arg
use Rattle.rv_memory.specs.Ranges.{Bytes}
use Rattle.side_certs.specs.LinearForm.{LinearForm, value_at, symbol, constant, times, plus}
use Rattle.side_certs.specs.Closes.{Holds}
use Rattle.side_certs.proofs.laws.Values.{value_plus, value_times, value_constant, value_symbol}
use Rattle.model_syntax.specs.declared.expr.Scalar.TheVariants.{Word}
use Rattle.model_syntax.specs.declared.program.Param.{Param}
use Rattle.model_syntax.specs.declared.scope.NameType.TheVariants.{Scalar as One}
use Rattle.model_syntax.specs.declared.stmt.Le.{Le}
use Rattle.model_syntax.specs.declared.stmt.Stmt.{Stmt}
use Rattle.model_syntax.specs.Environment.{Env, value_of, put, carry}
use Rattle.model_syntax.specs.Names.{Name, same, listed}
use Rattle.model_syntax.specs.Scope.{Scope, look_up, bind, scalar_may_take}
use Rattle.model_syntax.specs.Sound.{IsTyped}
use Rattle.model_syntax.specs.Types as types
use Rattle.model_syntax.specs.Value.{run, in_turn, folded, loop_turn}
use Rattle.model_syntax.proofs.laws.Bindings.{same_is, value_else}
use Rattle.model_syntax.proofs.laws.Statements.{bound_typed}
use Rattle.sym_heap.specs.declared.parts.Held.{Held}
use Rattle.sym_heap.specs.declared.parts.Clause.{Clause}
use Rattle.sym_heap.specs.Context.{Context, scalar, own, has, is_free, with_fact}
use Rattle.sym_heap.specs.Fits.{Call, IsArray, Known, IsConsistent, FitsBy, FitsOn, Agree, ReservedKept}
use Rattle.sym_heap.specs.Moves.{Follow}
use Rattle.sym_heap.specs.Scoped.{IsScoped}
use Rattle.sym_heap.specs.Settle.{settle}
use Rattle.sym_heap.specs.Sides.{form_in}
use Rattle.sym_heap.specs.Start.{with_facts}
use Rattle.sym_heap.specs.Turns.{unlisted_locals, TurnBegins, EndsLike, TurnLeaves}
use Rattle.sym_heap.proofs.laws.Extending.{fits_fact}
use Rattle.sym_heap.proofs.laws.Lookups.{scalar_stands, clause_found}
use Rattle.sym_heap.proofs.laws.Moves.{take_front}
use Rattle.sym_heap.proofs.laws.States.{free_reserved, known_same, agree_on, taken_length}
use Rattle.sym_heap.proofs.laws.Turns.{carried, carried_else, settled_self, block_starts, turn_ends, turn_counts}
use Rattle.bed_syntax.specs.Weight.{expr_weight}
use Rattle.bed_syntax.specs.declared.weights.Weights.{Weights}
use Rattle.bed_meaning.specs.Locals.{Vars, local_at}
use Rattle.bed_meaning.specs.Runs.{All, One, Runs}
use Rattle.bed_meaning.proofs.laws.Running.{shape_of_run}
use Rattle.expr_rules.specs.Sound.{AllHold}
use Rattle.stmt_rules.specs.declared.loops.Counter.{Counter}
use Rattle.stmt_rules.specs.declared.output.StmtOut.{StmtOut}
use Rattle.stmt_rules.specs.Bound.{cost_all, all_below}
use Rattle.stmt_rules.specs.Loops.{turn_of, all_named}
use Rattle.stmt_rules.specs.Sound.{UnwrittenKept, IsOutside, StmtRan, StmtDone}
use Rattle.stmt_rules.specs.rules.For.{stands_still, from_low, below_high}
use Rattle.stmt_rules.proofs.sound.Begun.{facts_fit, more_reserved}
use Rattle.stmt_rules.proofs.sound.Counted.{Turned, value_more}
use Rattle.stmt_rules.proofs.sound.Counting.{more_code, more_price, set_value, set_apart, turn_runs}
use Rattle.stmt_rules.proofs.sound.ForEnd.{last_forms, ends_like}
use Rattle.stmt_rules.proofs.sound.ForStart.{count_symbol, bare_start, begun_loop, bare_good, kept_known, low_known_there}
use Rattle.stmt_rules.proofs.sound.ForStart.{high_known_there, sum_known, symbol_known, loop_began}
use Rattle.stmt_rules.proofs.sound.ForTyped.{carried_typed}
use Rattle.stmt_rules.proofs.sound.ForValues.{nums, block_symbol, block_nums, end_nums}
use Rattle.stmt_rules.proofs.sound.Joined.{forms_of}
use Rattle.stmt_rules.proofs.sound.Kept.{forms_hold}
use Rattle.stmt_rules.proofs.sound.Let.{no_array}

-- Values of the facts of a turn.

low_holds : (u : ℕ → ℕ) (s : ℕ) (low : LinearForm) (k n : ℕ) → u s ≡ k → value_at u low ≡ pos n → n ≤ k
    → pos 0 ≤ℤ value_at u (from_low (symbol s) low)
low_holds u s low k n at low_is less =
    let one = value_symbol u s ∙ ap pos at in
    let two = value_times u (pos 1) (symbol s) in
    let three = value_times u (negsuc 0) low in
    let four = value_constant u (pos 0) in
    let five = value_plus u (times (negsuc 0) low) (constant (pos 0)) in
    let six = value_plus u (times (pos 1) (symbol s)) (plus (times (negsuc 0) low) (constant (pos 0))) in
    let a : (pos 1 *ℤ value_at u (symbol s)) ≡ pos k = ap (λ z. pos 1 *ℤ z) one ∙ omega (arith, ints) in
    let b : (negsuc 0 *ℤ value_at u low) ≡ neg_ℤ (pos n) = ap (λ z. negsuc 0 *ℤ z) low_is ∙ omega (arith, ints) in
    omega (arith, ints, two, three, four, five, six, a, b, less)

high_holds : (u : ℕ → ℕ) (s : ℕ) (high : LinearForm) (k n : ℕ) → u s ≡ k → value_at u high ≡ pos n → k < n
    → pos 0 ≤ℤ value_at u (below_high (symbol s) high)
high_holds u s high k n at high_is less =
    let one = value_symbol u s ∙ ap pos at in
    let two = value_times u (pos 1) high in
    let three = value_times u (negsuc 0) (symbol s) in
    let four = value_constant u (negsuc 0) in
    let five = value_plus u (times (negsuc 0) (symbol s)) (constant (negsuc 0)) in
    let six = value_plus u (times (pos 1) high) (plus (times (negsuc 0) (symbol s)) (constant (negsuc 0))) in
    let a : (pos 1 *ℤ value_at u high) ≡ pos n = ap (λ z. pos 1 *ℤ z) high_is ∙ omega (arith, ints) in
    let b : (negsuc 0 *ℤ value_at u (symbol s)) ≡ neg_ℤ (pos k) = ap (λ z. negsuc 0 *ℤ z) one ∙ omega (arith, ints) in
    omega (arith, ints, two, three, four, five, six, a, b, less)

-- Reserved locals.

pub has_right : (l : ℕ) (ns ms : List ℕ) → has l ms ≡ true → has l (ns ++ ms) ≡ true
has_right l [] ms is = is
has_right l (n ∷ ns) ms is = by (nat_eq n l) refl (has_right l ns ms is) where
  by : (b : Bool) → nat_eq n l ≡ b → has l (ns ++ ms) ≡ true → has l (n ∷ (ns ++ ms)) ≡ true
  by true e more = rw e refl
  by false e more = rw e more

has_first : (l : ℕ) (ns : List ℕ) → has l (l ∷ ns) ≡ true
has_first l ns = let self : nat_eq l l ≡ true = grind (arith, nat_tests) in rw self refl

unlisted_has : (names : List Name) (hs : List Held) (i : ℕ) (h : Held) → slice_get hs i ≡ Some h → listed h.name names ≡ false
    → has h.local (unlisted_locals names hs) ≡ true
unlisted_has names [] i h at out = absurd (let bad : None ≡ Some h = at in cc)
unlisted_has names (g ∷ hs) zero h at out =
    let is : g ≡ h = cc in
    let test : listed g.name names ≡ false = ap (λ (z : Held). listed z.name names) is ∙ out in
    rw test (ap (λ (z : Held). has h.local (z.local ∷ unlisted_locals names hs)) is
    ∙ has_first h.local (unlisted_locals names hs))
unlisted_has names (g ∷ hs) (suc i) h at out = by (listed g.name names) refl (unlisted_has names hs i h at out) where
  by : (b : Bool) → listed g.name names ≡ b → has h.local (unlisted_locals names hs) ≡ true
      → has h.local (unlisted_locals names (g ∷ hs)) ≡ true
  by true e more = rw e more
  by false e more = rw e (has_right h.local (g.local ∷ []) (unlisted_locals names hs) more)

-- the name of no array is none of theirs
pub not_array : (x : Name) (c : Context) → own c x ≡ None → (a : Name) (p : Clause) → own c a ≡ Some p → same x a ≡ false
not_array x c gone a p at = by (same x a) refl where
  by : (b : Bool) → same x a ≡ b → same x a ≡ false
  by false e = e
  by true e = absurd (let bad : None ≡ Some p = sym gone ∙ ap (own c) (same_is x a e) ∙ at in cc)

-- What is known of the loop, whatever state there is.

pub record LoopDone (ps : List Param) (scope last : Scope) (x : Name) (names : List Name) (keep : List Le) (body : List Stmt)
    (k : Counter) (low high : LinearForm) (c : Context) (out : StmtOut) (e : Context) : Type 0 where
  pub good : IsConsistent c
  pub scoped : IsScoped ps scope c
  pub low_known : Known (length c.tops) low
  pub high_known : Known (length c.tops) high
  pub free_count : is_free c k.count None ≡ true
  pub free_last : is_free c k.last None ≡ true
  pub apart : k.count ≢ k.last
  pub may : scalar_may_take (look_up scope x) ≡ Ok tt
  pub kept : types.kept names scope last ≡ Ok tt
  pub done : StmtDone ps (bind x (One Word) scope) last (in_turn (map run body)) (begun_loop x names keep k low high c) out e
  pub places : list_all (stands_still c.scalars e.scalars) names ≡ true
  pub arrays : all_named names c.clauses e.clauses ≡ true
  pub hold : (v : ℕ → ℕ) → Holds v e.facts e.tops
      → AllHold v (forms_of (last_forms x names (begun_loop x names keep k low high c).scalars e) keep)

module _ (ps : List Param) (scope last : Scope) (x : Name) (names : List Name) (keep : List Le) (body : List Stmt) (k : Counter)
    (low high : LinearForm) (c : Context) (out : StmtOut) (e : Context)
    (d : LoopDone ps scope last x names keep body k low high c out e) where
  abbrev pub begun : Context
  begun = begun_loop x names keep k low high c

  abbrev pub bare : Context
  bare = bare_start x names keep k low high c

  pub clauses_same : begun.clauses ≡ c.clauses
  clauses_same = (settled_self names c).clauses

  pub follows : Follow c.clauses e.clauses
  follows = subst (λ (ks : List Clause). Follow ks e.clauses) clauses_same d.done.moves.arrays

  pub more_tops : take (length c.tops) e.tops ≡ c.tops
  more_tops = (loop_began x names keep k low high c e d.done.moves).tops

  pub entries_same : e.entries ≡ c.entries
  entries_same = (loop_began x names keep k low high c e d.done.moves).entries

  pub like : EndsLike names c e
  like = ends_like ps x names keep scope last c e d.good d.done.consistent d.scoped d.done.scoped d.kept follows more_tops
      entries_same d.places d.arrays

  pub array_none : own c x ≡ None
  array_none = no_array ps scope c x d.may d.scoped

  pub symbols_more : length c.tops ≤ length begun.tops
  symbols_more =
      let one = taken_length c.tops (settle names c c).tops (settled_self names c).tops in
      let two = taken_length (settle names c c).tops begun.tops (take_front (settle names c c).tops (4294967295 ∷ [])) in
      omega (arith, one, two)

  count_reserved : has k.count begun.reserved ≡ true
  count_reserved = has_right k.count (settle names c c).reserved (unlisted_locals names c.scalars ++ k.count ∷ k.last ∷ [])
      (has_right k.count (unlisted_locals names c.scalars) (k.count ∷ k.last ∷ []) (has_first k.count (k.last ∷ [])))

  last_reserved : has k.last begun.reserved ≡ true
  last_reserved = has_right k.last (settle names c c).reserved (unlisted_locals names c.scalars ++ k.count ∷ k.last ∷ [])
      (has_right k.last (unlisted_locals names c.scalars) (k.count ∷ k.last ∷ [])
      (has_right k.last (k.count ∷ []) (k.last ∷ []) (has_first k.last [])))

  scalar_reserved : (y : Name) (h : Held) → scalar c y ≡ Some h → listed y names ≡ false → has h.local begun.reserved ≡ true
  scalar_reserved y h at unlisted =
      let p = scalar_stands c y h at in
      has_right h.local (settle names c c).reserved (unlisted_locals names c.scalars ++ k.count ∷ k.last ∷ [])
      (more_reserved h.local (unlisted_locals names c.scalars) (k.count ∷ k.last ∷ [])
      (unlisted_has names c.scalars p.place h p.at (ap (λ z. listed z names) p.named ∙ unlisted)))

  kept_reserved : (l : ℕ) → has l c.reserved ≡ true → has l begun.reserved ≡ true
  kept_reserved l is = more_reserved l (settle names c c).reserved (unlisted_locals names c.scalars ++ k.count ∷ k.last ∷ [])
      (ap (has l) (settled_self names c).reserved ∙ is)

  -- The states: v has the numbers of the symbols of c in all turns, and the bounds are the numbers n and m.
  module _ (lengths : Name → ℕ) (w : Weights) (call : Call) (v : ℕ → ℕ) (n m : ℕ) (small : m ≤ 4294967295)
      (low_is : value_at v low ≡ pos n) (high_is : value_at v high ≡ pos m)
      (env0 : Env) (mem0 : Bytes) (vars0 : Vars) (room : all_below (length vars0) out.cmds ≡ true)
      (count_room : k.count < length vars0) where
    abbrev pub sem : ℕ → Env → Env
    sem = loop_turn x names (map run body)

    -- where the turn at the count i begins
    pub record TurnAt (i : ℕ) (mem : Bytes) (vars : Vars) : Type 0 where
      pub env : Env
      pub rest : folded sem (range_with_len i (m - i)) env ≡ folded sem (range_with_len n (m - n)) env0
      pub from : n ≤ i
      pub typed : IsTyped lengths scope env
      pub begins : TurnBegins names call v c env mem (local_at vars)
      pub at : local_at vars k.count ≡ Some i
      pub to : local_at vars k.last ≡ Some m
      pub facts : AllHold v (forms_of (nums c x i env) keep)
      pub count : length vars ≡ length vars0
      pub kept : ReservedKept c (local_at vars0) (local_at vars)
      pub outside : (address : ℕ) → IsOutside call c.clauses address → get mem address ≡ get mem0 address
      pub unwritten : UnwrittenKept c.clauses e.clauses env0 env

    module _ (i : ℕ) (mem : Bytes) (vars : Vars) (less : i < m) (t : TurnAt i mem vars) where
      abbrev inner : Env
      inner = put x (arg.Word i) t.env

      bare_fits : FitsOn call (length c.tops) v bare inner mem (local_at vars)
      bare_fits = block_starts names x k.count k.last i call v c t.env mem (local_at vars) t.begins d.free_count array_none
          (omega (arith, less, small)) t.at

      symbol_is : (u : ℕ → ℕ) → FitsBy call u bare inner mem (local_at vars) → u (length (settle names c c).tops) ≡ i
      symbol_is u fits = block_symbol call names x k.count k.last i c u t.env mem (local_at vars) fits

      begun_fits : (u : ℕ → ℕ) → Agree (length c.tops) v u → FitsBy call u bare inner mem (local_at vars)
          → FitsBy call u begun inner mem (local_at vars)
      begun_fits u agree fits =
          let fs = forms_of (form_in bare.scalars) keep in
          let kept = with_facts fs bare in
          let lower = from_low (count_symbol x names keep k low high c) low in
          let upper = below_high (count_symbol x names keep k low high c) high in
          let s = length (settle names c c).tops in
          let low_there : value_at u low ≡ pos n = known_same (length c.tops) low v u d.low_known agree ∙ low_is in
          let high_there : value_at u high ≡ pos m = known_same (length c.tops) high v u d.high_known agree ∙ high_is in
          let known_low = (sum_known x names keep k low high c (length begun.tops) (count_symbol x names keep k low high c) low
          (symbol_known x names keep k low high c)
          (low_known_there x names keep k low high c d.good d.low_known d.high_known d.free_count)).0 in
          let known_high = (sum_known x names keep k low high c (length begun.tops) (count_symbol x names keep k low high c) high
          (symbol_known x names keep k low high c)
          (high_known_there x names keep k low high c d.good d.low_known d.high_known d.free_count)).1 in
          let with_kept = facts_fit call u inner mem (local_at vars) fs bare
          (kept_known x names keep k low high c d.good d.low_known d.high_known d.free_count)
          (forms_hold v u (nums c x i t.env) (form_in bare.scalars)
          (block_nums call names x k.count k.last i c u t.env mem (local_at vars) fits v) keep t.facts) fits in
          fits_fact call u (with_fact lower kept) upper inner mem (local_at vars) known_high
          (high_holds u s high i m (symbol_is u fits) high_there less)
          (fits_fact call u kept lower inner mem (local_at vars) known_low
          (low_holds u s low i n (symbol_is u fits) low_there t.from) with_kept)

      typed_inner : IsTyped lengths (bind x (One Word) scope) inner
      typed_inner = bound_typed lengths scope t.env x (One Word) (arg.Word i) (le-leb i 4294967295 (omega (arith, less, small)))
          t.typed

      block_ran : (u : ℕ → ℕ) → Agree (length c.tops) v u → FitsBy call u bare inner mem (local_at vars)
          → StmtRan w call (in_turn (map run body)) begun out e u inner mem vars
      block_ran u agree fits = d.done.runs lengths w call u inner mem vars typed_inner (begun_fits u agree fits)
          (ap (λ j. all_below j out.cmds) t.count ∙ room)

      -- after the block
      module _ (u : ℕ → ℕ) (agree : Agree (length c.tops) v u) (fits : FitsBy call u bare inner mem (local_at vars))
          (r : StmtRan w call (in_turn (map run body)) begun out e u inner mem vars) where
        abbrev end_env : Env
        end_env = in_turn (map run body) inner

        abbrev next_env : Env
        next_env = carry names end_env t.env

        abbrev next_vars : Vars
        next_vars = slice_set r.left k.count (Some (i + 1))

        left_count : length r.left ≡ length vars0
        left_count = (shape_of_run w (All out.cmds) mem vars r.left_mem r.left r.ticks r.runs).count ∙ t.count

        room_there : k.count < length r.left
        room_there = subst (λ (j : ℕ). k.count < j) (sym left_count) count_room

        count_there : local_at r.left k.count ≡ Some i
        count_there = r.kept k.count count_reserved ∙ t.at

        agree_end : Agree (length c.tops) v r.others
        agree_end = agree_on (length c.tops) (length begun.tops) v u r.others symbols_more agree r.agree

        leaves : TurnLeaves names c e t.env end_env (local_at vars) (local_at r.left)
        leaves = record {
          unwritten = λ j p l at_p at_l writes. r.unwritten j p l (ap (λ ks. slice_get ks j) clauses_same ∙ at_p) at_l writes
              ∙ value_else x p.name (arg.Word i) t.env (not_array x c array_none p.name p (clause_found c d.good j p at_p));
          locals_kept = λ y h at unlisted. r.kept h.local (scalar_reserved y h at unlisted);
        }

        begins_next : TurnBegins names call v c next_env r.left_mem (local_at next_vars)
        begins_next =
            turn_counts names call v c next_env r.left_mem k.count (local_at r.left) (local_at next_vars)
            (turn_ends names call v r.others c e t.env end_env mem r.left_mem (local_at vars) (local_at r.left) t.begins r.fits
            agree_end like leaves)
            d.free_count (λ j apart. set_apart r.left k.count (i + 1) j apart)

        facts_next : AllHold v (forms_of (nums c x (i + 1) next_env) keep)
        facts_next =
            forms_hold r.others v (last_forms x names begun.scalars e) (nums c x (i + 1) next_env)
            (end_nums call names x k.count k.last i c u t.env mem (local_at vars) fits
            (bare_good x names keep k low high c d.good d.low_known d.high_known d.free_count)
            e r.others end_env r.left_mem (local_at r.left) r.fits r.agree like v) keep (d.hold r.others r.fits.holds)

        rest_next : folded sem (range_with_len (i + 1) (m - (i + 1))) next_env ≡ folded sem (range_with_len n (m - n)) env0
        rest_next =
            let count : m - i ≡ suc (m - (i + 1)) = omega (arith, less) in
            sym (ap (λ j. folded sem (range_with_len i j) t.env) count) ∙ t.rest

        next_array : (j : ℕ) (p l : Clause) → slice_get c.clauses j ≡ Some p → slice_get e.clauses j ≡ Some l
            → l.writes ≡ p.writes → value_of next_env l.name ≡ value_of t.env l.name
        next_array j p l at_p at_l writes = by (listed l.name names) refl where
          name : p.name ≡ l.name
          name = sym (like.named j p l at_p at_l)

          some : (o : Option Arg) → value_of end_env l.name ≡ o → listed l.name names ≡ true
              → value_of next_env l.name ≡ value_of end_env l.name
          some None at in_list = absurd (subst (λ (o : Option Arg). IsArray l.size o) at
              (r.fits.clauses l.name l (clause_found e d.done.consistent j l at_l)).array)
          some (Some a) at in_list = carried names end_env t.env l.name a in_list at ∙ sym at

          by : (b : Bool) → listed l.name names ≡ b → value_of next_env l.name ≡ value_of t.env l.name
          by false unlisted = carried_else names end_env t.env l.name unlisted
          by true in_list = some (value_of end_env l.name) refl in_list ∙ leaves.unwritten j p l at_p at_l writes
              ∙ ap (value_of t.env) name

        not_count : (l : ℕ) → has l c.reserved ≡ true → l ≢ k.count
        not_count l is same_one =
            absurd (let bad : true ≡ false = sym is ∙ ap (λ j. has j c.reserved) same_one
            ∙ free_reserved c k.count None d.free_count in cc)

        turn_run : Runs w (One (turn_of k.count out.cmds)) mem vars r.left_mem next_vars
            (r.ticks + (expr_weight w (more_code k.count) + w.set + 0))
        turn_run = turn_runs w k.count i r.ticks out.cmds mem r.left_mem vars r.left r.runs room_there
            (value_more r.left_mem r.left k.count i count_there (omega (arith, less, small)))

        next_turn : TurnAt (i + 1) r.left_mem next_vars
        next_turn = record {
          env = next_env;
          rest = rest_next;
          from = (let before = t.from in omega (arith, before));
          typed = carried_typed names scope last lengths end_env t.env d.kept (d.done.typed lengths inner typed_inner) t.typed;
          begins = begins_next;
          at = set_value r.left k.count (i + 1) room_there;
          to = set_apart r.left k.count (i + 1) k.last (λ same_one. d.apart (sym same_one)) ∙ r.kept k.last last_reserved ∙ t.to;
          facts = facts_next;
          count = (shape_of_run w (One (turn_of k.count out.cmds)) mem vars r.left_mem next_vars
              (r.ticks + (expr_weight w (more_code k.count) + w.set + 0)) turn_run).count ∙ t.count;
          kept = λ l is. set_apart r.left k.count (i + 1) l (not_count l is) ∙ r.kept l (kept_reserved l is) ∙ t.kept l is;
          outside = λ address beyond. r.outside address
              (λ j p at within. beyond j p (sym (ap (λ ks. slice_get ks j) clauses_same) ∙ at) within) ∙ t.outside address beyond;
          unwritten = λ j p l at_p at_l writes. next_array j p l at_p at_l writes ∙ t.unwritten j p l at_p at_l writes;
        }

        turned : Turned w (turn_of k.count out.cmds) ((cost_all w call out.cmds out.trips).0 + more_price w call k.count) TurnAt i
            mem vars
        turned = record {
          left_mem = r.left_mem;
          left = next_vars;
          ticks = r.ticks + (expr_weight w (more_code k.count) + w.set + 0);
          runs = turn_run;
          next = next_turn;
          time = (let spent = r.time in omega (arith, spent));
        }

      pub turn_made : Turned w (turn_of k.count out.cmds) ((cost_all w call out.cmds out.trips).0 + more_price w call k.count)
          TurnAt i mem vars
      turn_made =
          let b = bare_fits in
          turned b.0 b.1 b.2 (block_ran b.0 b.1 b.2)
