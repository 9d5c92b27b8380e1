-- s-map is sound, from its kid on.
use Rattle.std.proofs.Common.{◌≡◌, ◌≢◌, refl, sym, ◌∙◌, ap, subst, arith, ℕ, zero, suc, ◌+◌, ◌-◌, ◌*◌, ◌%◌, ◌<◌, ◌≤◌, Bool, true}
use Rattle.std.proofs.Common.{false, not, pos, List, [], ◌∷◌, ◌++◌, get_or, length, map, set, Option, Some, None, Ok, slice_get}
use Rattle.std.proofs.Common.{slice_set}
use Rattle.std.specs.FinMap.{get}
use Rattle.std.specs.List.{list_all}
use Rattle.std.proofs.lemmas.Bool.{ltb-true}
use Rattle.std.proofs.lemmas.List.{length-set}
use Rattle.std.proofs.lemmas.Option.{slice_get-get_or}
use Rattle.rup_base.specs.declared.arg.Arg.{Arg}
use Rattle.rup_base.specs.declared.arg.Arg.TheVariants as arg
use Rattle.rv_memory.specs.Ranges.{Bytes, Stands, Within}
use Rattle.side_certs.specs.LinearForm.{LinearForm, symbol}
use Rattle.side_certs.proofs.laws.Values.{value_symbol}
use Rattle.model_syntax.specs.declared.expr.Expr.{Expr}
use Rattle.model_syntax.specs.declared.expr.Scalar.{Scalar}
use Rattle.model_syntax.specs.declared.program.Param.{Param}
use Rattle.model_syntax.specs.declared.scope.NameType.TheVariants.{Scalar as One}
use Rattle.model_syntax.specs.Environment.{Env, value_of, elements, put, put_some, with_element, with_each}
use Rattle.model_syntax.specs.Names.{Name, same}
use Rattle.model_syntax.specs.Scope.{Scope, look_up, bind, scalar_may_take}
use Rattle.model_syntax.specs.Sound.{IsTyped}
use Rattle.model_syntax.specs.Value.{eval, element_of, array_mapped}
use Rattle.model_syntax.proofs.laws.Bindings.{same_is}
use Rattle.model_syntax.proofs.laws.Statements.{bound_typed}
use Rattle.sym_heap.specs.declared.parts.Held.{Held}
use Rattle.sym_heap.specs.declared.parts.Clause.{Clause}
use Rattle.sym_heap.specs.Context.{Context, own, has, is_free, leaves_free, held, top_of, with_top, with_scalar, with_clause}
use Rattle.sym_heap.specs.Context.{without_clause, written, back_to}
use Rattle.sym_heap.specs.Elements.{element_bytes, element_top}
use Rattle.sym_heap.specs.Ends.{standing, restored}
use Rattle.sym_heap.specs.Fits.{Call, Known, IsArray, IsConsistent, ClauseFits, FitsBy, range_of}
use Rattle.sym_heap.specs.Moves.{Moves, Began}
use Rattle.sym_heap.specs.Scoped.{IsScoped}
use Rattle.sym_heap.specs.Settle.{or_nothing}
use Rattle.sym_heap.proofs.laws.Elements.{element_read}
use Rattle.sym_heap.proofs.laws.EndScopes.{later}
use Rattle.sym_heap.proofs.laws.Extending.{longer, known_symbol, given, given_here, consistent_top, fits_top}
use Rattle.sym_heap.proofs.laws.Lookups.{clause_stands, clause_found, own_counted}
use Rattle.sym_heap.proofs.laws.Moves.{take_all, take_front, take_on, moves_on, restored_moves, written_moves}
use Rattle.sym_heap.proofs.laws.Scopes.{fresh_scoped, bound_scoped, back_scoped, dropped_scoped, written_scoped}
use Rattle.sym_heap.proofs.laws.States.{bound_consistent, bind_fits, fits_after_block, nothing_agrees, wider_consistent}
use Rattle.sym_heap.proofs.laws.States.{moved_locals}
use Rattle.sym_heap.proofs.laws.Writes.{written_fits, counted_fits, counted_consistent}
use Rattle.bed_syntax.specs.Weight.{expr_weight}
use Rattle.bed_syntax.specs.declared.weights.Weights.{Weights}
use Rattle.bed_syntax.specs.declared.expression.BExpr.{BExpr}
use Rattle.bed_syntax.specs.declared.expression.BExpr.TheVariants as b
use Rattle.bed_syntax.specs.declared.command.Cmd.{Cmd, roll-Cmd, fold-roll-Cmd}
use Rattle.bed_syntax.specs.declared.command.Cmd.TheOpen as cmd
use Rattle.bed_meaning.specs.Locals.{Vars, local_at}
use Rattle.bed_meaning.specs.Runs.{All, One, Runs, sets, stores, done, next}
use Rattle.bed_meaning.specs.Value.{value}
use Rattle.expr_rules.specs.declared.output.ExprOut.{ExprOut}
use Rattle.expr_rules.specs.Elements.{size_of}
use Rattle.expr_rules.specs.Sound.{ExprDone, ExprRan}
use Rattle.expr_rules.specs.rules.Len as len
use Rattle.stmt_rules.specs.declared.loops.ElementLocals.{ElementLocals}
use Rattle.stmt_rules.specs.declared.output.StmtOut.{StmtOut}
use Rattle.stmt_rules.specs.Bound.{Cost, cost_step, cost_all, trip_at, nat_of, all_below, sets_below, sets_below_step}
use Rattle.stmt_rules.specs.Loops.{turn_of, loaded, place_of, element_kind}
use Rattle.stmt_rules.specs.Sound.{UnwrittenKept, StmtRan, StmtDone}
use Rattle.stmt_rules.specs.rules.Map as map_rule
use Rattle.stmt_rules.proofs.Sequence.{and_parts}
use Rattle.stmt_rules.proofs.sound.Around.{reserved_apart, ArrayIs, number_is}
use Rattle.stmt_rules.proofs.sound.Counted.{Turned, Counted, counted, value_lit, value_more}
use Rattle.stmt_rules.proofs.sound.Counting.{more_code, more_price, test_price, counting_price, set_cost, counting_cost}
use Rattle.stmt_rules.proofs.sound.Counting.{CountsBelow, counting_below, set_put, set_value, set_apart, turn_runs, counting_runs}
use Rattle.stmt_rules.proofs.sound.Dropped.{dropped_good, dropped_fits, fits_alike}
use Rattle.stmt_rules.proofs.sound.For.{trips_value}
use Rattle.stmt_rules.proofs.sound.Lengths.{StandsAt, length_value, element_value, element_stands, kind_is}
use Rattle.stmt_rules.proofs.sound.Let.{no_array}
use Rattle.stmt_rules.proofs.sound.Put.{there, put_here, put_else, element_inside}
use Rattle.stmt_rules.proofs.sound.Stores.{IsStored, element_stored}

-- Lists of which the first elements are new.

abbrev mapped_to : (ℕ → ℕ) → ℕ → List ℕ → List ℕ
mapped_to f zero ns = ns
mapped_to f (suc i) [] = []
mapped_to f (suc i) (n ∷ ns) = f n ∷ mapped_to f i ns

mapped_next : (f : ℕ → ℕ) (i : ℕ) (ns : List ℕ) → i < length ns → set (mapped_to f i ns) i (f (get_or ns i 0))
    ≡ mapped_to f (suc i) ns
mapped_next f i [] less = absurd (omega (arith, less))
mapped_next f zero (n ∷ ns) less = refl
mapped_next f (suc i) (n ∷ ns) less = ap (λ (z : List ℕ). f n ∷ z) (mapped_next f i ns (omega (arith, less)))

mapped_at : (f : ℕ → ℕ) (i : ℕ) (ns : List ℕ) → slice_get (mapped_to f i ns) i ≡ slice_get ns i
mapped_at f zero ns = refl
mapped_at f (suc i) [] = refl
mapped_at f (suc i) (n ∷ ns) = mapped_at f i ns

mapped_length : (f : ℕ → ℕ) (i : ℕ) (ns : List ℕ) → length (mapped_to f i ns) ≡ length ns
mapped_length f zero ns = refl
mapped_length f (suc i) [] = refl
mapped_length f (suc i) (n ∷ ns) = ap suc (mapped_length f i ns)

mapped_all : (f : ℕ → ℕ) (i : ℕ) (ns : List ℕ) → length ns ≤ i → mapped_to f i ns ≡ map f ns
mapped_all f zero [] many = refl
mapped_all f (suc i) [] many = refl
mapped_all f zero (n ∷ ns) many = absurd (omega (arith, many))
mapped_all f (suc i) (n ∷ ns) many = ap (λ (z : List ℕ). f n ∷ z) (mapped_all f i ns (omega (arith, many)))

low_bytes : (f : ℕ → ℕ) (ns : List ℕ) → map (λ n. f n % 256) ns ≡ map (λ n. n % 256) (map f ns)
low_bytes f [] = refl
low_bytes f (n ∷ ns) = ap (λ (z : List ℕ). f n % 256 ∷ z) (low_bytes f ns)

-- Arrays of which the first elements are new.

abbrev partly : (ℕ → ℕ) → ℕ → Option Arg → Option Arg
partly f i (Some (arg.Bytes ns)) = Some (arg.Bytes (mapped_to (λ n. f n % 256) i ns))
partly f i (Some (arg.Words ns)) = Some (arg.Words (mapped_to f i ns))
partly f i v = v

partly_none : (f : ℕ → ℕ) (o : Option Arg) → partly f 0 o ≡ o
partly_none f None = refl
partly_none f (Some (arg.Word n)) = refl
partly_none f (Some (arg.Bytes ns)) = refl
partly_none f (Some (arg.Words ns)) = refl

partly_next : (f : ℕ → ℕ) (i : ℕ) (o : Option Arg) → i < length (elements o)
    → with_element i (f (get_or (elements o) i 0)) (partly f i o) ≡ partly f (suc i) o
partly_next f i None less = refl
partly_next f i (Some (arg.Word n)) less = refl
partly_next f i (Some (arg.Bytes ns)) less = ap (λ (z : List ℕ). Some (arg.Bytes z)) (mapped_next (λ n. f n % 256) i ns less)
partly_next f i (Some (arg.Words ns)) less = ap (λ (z : List ℕ). Some (arg.Words z)) (mapped_next f i ns less)

partly_at : (f : ℕ → ℕ) (i : ℕ) (o : Option Arg) → slice_get (elements (partly f i o)) i ≡ slice_get (elements o) i
partly_at f i None = refl
partly_at f i (Some (arg.Word n)) = refl
partly_at f i (Some (arg.Bytes ns)) = mapped_at (λ n. f n % 256) i ns
partly_at f i (Some (arg.Words ns)) = mapped_at f i ns

partly_length : (f : ℕ → ℕ) (i : ℕ) (o : Option Arg) → length (elements (partly f i o)) ≡ length (elements o)
partly_length f i None = refl
partly_length f i (Some (arg.Word n)) = refl
partly_length f i (Some (arg.Bytes ns)) = mapped_length (λ n. f n % 256) i ns
partly_length f i (Some (arg.Words ns)) = mapped_length f i ns

partly_all : (f : ℕ → ℕ) (i : ℕ) (o : Option Arg) → length (elements o) ≤ i → partly f i o ≡ with_each f o
partly_all f i None many = refl
partly_all f i (Some (arg.Word n)) many = refl
partly_all f i (Some (arg.Bytes ns)) many =
    ap (λ (z : List ℕ). Some (arg.Bytes z)) (mapped_all (λ n. f n % 256) i ns many ∙ low_bytes f ns)
partly_all f i (Some (arg.Words ns)) many = ap (λ (z : List ℕ). Some (arg.Words z)) (mapped_all f i ns many)

each_there : (size : ℕ) (f : ℕ → ℕ) (o : Option Arg) → IsArray size o → (v : Arg) × (with_each f o ≡ Some v)
each_there size f None is = absurd is
each_there size f (Some (arg.Word m)) is = absurd is
each_there size f (Some (arg.Bytes ns)) is = (arg.Bytes (map (λ n. n % 256) (map f ns)), refl)
each_there size f (Some (arg.Words ns)) is = (arg.Words (map f ns), refl)

-- Contexts.

free_any : (c : Context) (l : ℕ) (x : Name) → is_free c l None ≡ true → is_free c l (Some x) ≡ true
free_any c l x free =
    let parts = and_parts (not (has l c.reserved)) (list_all (leaves_free l None) c.scalars) free in
    rw parts.0 (all c.scalars parts.1)
  where
    one : (g : Held) → leaves_free l None g ≡ true → leaves_free l (Some x) g ≡ true
    one g is = rw is refl

    all : (ks : List Held) → list_all (leaves_free l None) ks ≡ true → list_all (leaves_free l (Some x)) ks ≡ true
    all [] each = refl
    all (k ∷ ks) each =
        let both = and_parts (leaves_free l None k) (list_all (leaves_free l None) ks) each in
        rw (one k both.0) (all ks both.1)

-- the context where the kid begins
abbrev pub kid_start : Name → Name → ElementLocals → Clause → Context → Context
kid_start a x l k c =
    with_scalar (held x l.element (symbol (length (without_clause a c).tops)) (element_kind k))
    (with_top (element_top k.size) (without_clause a c))

-- What is known of the statement, whatever state there is.
pub record MapDone (ps : List Param) (scope : Scope) (a x : Name) (v : Expr) (w : Scalar) (l : ElementLocals) (k : Clause)
    (c : Context) (p : ExprOut) (d : Context) (high : BExpr) : Type 0 where
  pub good : IsConsistent c
  pub scoped : IsScoped ps scope c
  pub owned : own c a ≡ Some k
  pub array : ArrayIs ps w k c.entries
  pub may : scalar_may_take (look_up scope x) ≡ Ok tt
  pub free_count : is_free c l.count None ≡ true
  pub free_last : is_free c l.last None ≡ true
  pub free_element : is_free c l.element None ≡ true
  pub count_last : l.count ≢ l.last
  pub count_element : l.count ≢ l.element
  pub last_element : l.last ≢ l.element
  pub length_code : len.code k ≡ Some high
  pub kid : ExprDone ps (bind x (One w) scope) (eval v) w (kid_start a x l k c) p d

module _ (ps : List Param) (scope : Scope) (a x : Name) (l : ElementLocals) (k : Clause) (w : Scalar) (c : Context)
    (good : IsConsistent c) (scoped : IsScoped ps scope c) (free_element : is_free c l.element None ≡ true) where
  pub symbol_there : Known (length (c.tops ++ element_top k.size ∷ [])) (symbol (length c.tops))
  symbol_there =
      let more : length (c.tops ++ element_top k.size ∷ []) ≡ suc (length c.tops) = longer c.tops (element_top k.size) in
      known_symbol (length (c.tops ++ element_top k.size ∷ [])) (length c.tops) (omega (arith, more))

  pub start_good : IsConsistent (kid_start a x l k c)
  start_good =
      bound_consistent (with_top (element_top k.size) (without_clause a c))
      (held x l.element (symbol (length c.tops)) (element_kind k)) symbol_there (free_any c l.element x free_element)
      (consistent_top (without_clause a c) (element_top k.size) (dropped_good c a good))

  pub start_scoped : scalar_may_take (look_up scope x) ≡ Ok tt → element_kind k ≡ w
      → IsScoped ps (bind x (One w) scope) (kid_start a x l k c)
  start_scoped may kind =
      subst (λ (t : Scalar). IsScoped ps (bind x (One t) scope) (kid_start a x l k c)) kind
      (bound_scoped ps scope (with_top (element_top k.size) (without_clause a c))
      (held x l.element (symbol (length c.tops)) (element_kind k)) may
      (fresh_scoped ps scope (without_clause a c) (element_top k.size) (dropped_scoped ps scope c a scoped)))

module _ (ps : List Param) (scope : Scope) (a x : Name) (v : Expr) (w : Scalar) (l : ElementLocals) (k : Clause) (c : Context)
    (p : ExprOut) (d : Context) (high : BExpr)
    (f : MapDone ps scope a x v w l k c p d high)
    (typed : (lengths : Name → ℕ) (env : Env) → IsTyped lengths scope env → IsTyped lengths scope (array_mapped a x v env))
  where
    abbrev li : ℕ
    li = l.count

    abbrev lh : ℕ
    lh = l.last

    abbrev lx : ℕ
    lx = l.element

    abbrev start : Context
    start = kid_start a x l k c

    abbrev back : Context
    back = back_to c d

    abbrev over : Context
    over = with_clause a written back

    began : Began c d
    began = record {
      reserved = rw f.kid.extends.reserved (take_all c.reserved);
      facts = f.kid.extends.facts;
      tops = take_on c.tops start.tops d.tops (take_front c.tops (element_top k.size ∷ [])) f.kid.extends.tops;
      entries = f.kid.extends.entries;
    }

    pub returns : restored (standing c) d ≡ back
    returns = (restored_moves c d began).0

    back_good : IsConsistent back
    back_good = subst (λ (n : ℕ). IsConsistent (record c { tops = d.tops; entries = n })) (sym began.entries)
        (wider_consistent c d.tops began.tops f.good)

    over_good : IsConsistent over
    over_good = counted_consistent back a back_good

    over_scoped : IsScoped ps scope over
    over_scoped = written_scoped ps scope back a (back_scoped ps scope c d f.scoped began.entries)

    back_moves : Moves c back
    back_moves = subst (λ (z : Context). Moves c z) returns (restored_moves c d began).1

    over_moves : Moves c over
    over_moves = moves_on c back over back_moves (written_moves back a)

    element_none : own (without_clause a c) x ≡ None
    element_none = no_array ps scope (without_clause a c) x f.may (dropped_scoped ps scope c a f.scoped)

    kinds : (element_kind k ≡ w) × (element_top k.size ≡ top_of w)
    kinds = kind_is w k f.array.size

    abbrev body : List Cmd
    body = map_rule.turn l k p.code

    abbrev looped : StmtOut
    looped = map_rule.mapping l k high p.code

    -- What it costs.

    abbrev store_price : Weights → ℕ
    store_price wt = expr_weight wt (place_of k li) + expr_weight wt p.code + wt.store

    abbrev storing : Cmd
    storing = roll-Cmd (cmd.Store (size_of k.size) (place_of k li) p.code)

    abbrev body_price : Weights → ℕ
    body_price wt = expr_weight wt (b.Load (size_of k.size) (place_of k li)) + wt.set + (store_price wt + 0)

    body_cost : (wt : Weights) (call : Call) (ts : List LinearForm) → cost_all wt call body ts ≡ (body_price wt, ts)
    body_cost wt call ts =
        let alone = fold-roll-Cmd Cost (cost_step wt call) (cmd.Store (size_of k.size) (place_of k li) p.code) in
        let second : cost_all wt call (storing ∷ []) ts
        ≡ (store_price wt + 0, ts) = ap (λ (n : Cost). ((n ts).0 + 0, (n ts).1)) alone in
        ap (λ (r : ℕ × List LinearForm). (r.0 + (cost_all wt call (storing ∷ []) r.1).0, (cost_all wt call (storing ∷ []) r.1).1))
        (set_cost wt call lx (b.Load (size_of k.size) (place_of k li)) ts)
        ∙ ap (λ (r : ℕ × List LinearForm). (expr_weight wt (b.Load (size_of k.size) (place_of k li)) + wt.set + r.0, r.1)) second

    abbrev whole_price : Weights → Call → ℕ
    whole_price wt call = counting_price wt call li lh (b.Lit 0) high k.length (body_price wt)

    looped_cost : (wt : Weights) (call : Call) (rest : List LinearForm) → cost_all wt call looped.cmds (looped.trips ++ rest)
        ≡ (whole_price wt call, rest)
    looped_cost wt call rest = counting_cost wt call li lh (b.Lit 0) high body k.length rest (body_price wt) rest
        (body_cost wt call rest)

    -- Runs.

    module _ (lengths : Name → ℕ) (wt : Weights) (call : Call) (v0 : ℕ → ℕ) (env : Env) (mem : Bytes) (vars : Vars)
        (is : IsTyped lengths scope env) (fits : FitsBy call v0 c env mem (local_at vars))
        (room : all_below (length vars) looped.cmds ≡ true) where
      abbrev old : Option Arg
      old = value_of env a

      abbrev items : List ℕ
      items = elements old

      abbrev step : ℕ → ℕ
      step = element_of x v env

      array_fits : ClauseFits call v0 k old mem (local_at vars)
      array_fits = fits.clauses a k f.owned

      -- only the locals of the statement have other values
      abbrev Near : Vars → Type 0
      Near after = (j : ℕ) → j ≢ li → j ≢ lh → j ≢ lx → local_at after j ≡ local_at vars j

      kept_reserved : (after : Vars) → Near after → (j : ℕ) → has j c.reserved ≡ true → local_at after j ≡ local_at vars j
      kept_reserved after near j is_kept =
          near j (reserved_apart c li None f.free_count j is_kept) (reserved_apart c lh None f.free_last j is_kept)
          (reserved_apart c lx None f.free_element j is_kept)

      -- where the turn at the index i begins
      record MapAt (i : ℕ) (mem_i : Bytes) (vars_i : Vars) : Type 0 where
        pub env_i : Env
        pub fits_i : FitsBy call v0 c env_i mem_i (local_at vars_i)
        pub new : value_of env_i a ≡ partly step i old
        pub others : (y : Name) → same a y ≡ false → value_of env_i y ≡ value_of env y
        pub far : (address : ℕ) → (Within (range_of call k.param) address → ⊥) → get mem_i address ≡ get mem address
        pub at : local_at vars_i li ≡ Some i
        pub to : local_at vars_i lh ≡ Some (length items)
        pub near : Near vars_i
        pub count : length vars_i ≡ length vars

      below : CountsBelow (length vars) li lh body
      below = counting_below (length vars) li lh (b.Lit 0) high body room

      element_below : lx < length vars
      element_below =
          let one = and_parts (sets_below (length vars) (loaded k li lx)) (all_below (length vars) (storing ∷ [])) below.inner in
          ltb-true lx (length vars) (sym
          (fold-roll-Cmd Bool (sets_below_step (length vars)) (cmd.Set lx (b.Load (size_of k.size) (place_of k li)))) ∙ one.0)

      module _ (i : ℕ) (mem_i : Bytes) (vars_i : Vars) (less : i < length items) (t : MapAt i mem_i vars_i) where
        abbrev item : ℕ
        item = get_or items i 0

        abbrev here : Option Arg
        here = value_of t.env_i a

        item_at : slice_get (elements here) i ≡ Some item
        item_at = ap (λ (o : Option Arg). slice_get (elements o) i) t.new ∙ partly_at step i old ∙ slice_get-get_or items i 0 less

        less_here : i < length (elements here)
        less_here = let same_length : length (elements here) ≡ length items = ap (λ (o : Option Arg). length (elements o)) t.new
            ∙ partly_length step i old in omega (arith, less, same_length)

        abbrev element : (value (place_of k li) mem_i vars_i ≡ Some (call.pointers k.param + k.size * i))
            × ((value (b.Load (size_of k.size) (place_of k li)) mem_i vars_i ≡ Some item) × (item ≤ element_top k.size))
        element = element_value call v0 k here mem_i vars_i li i item (t.fits_i.clauses a k f.owned) t.at item_at

        abbrev with_item : Vars
        with_item = slice_set vars_i lx (Some item)

        element_room : lx < length vars_i
        element_room = subst (λ (n : ℕ). lx < n) (sym t.count) element_below

        item_fits : FitsBy call v0 c t.env_i mem_i (local_at with_item)
        item_fits = moved_locals call v0 c t.env_i mem_i lx (local_at vars_i) (local_at with_item) f.free_element
            (λ j apart. set_apart vars_i lx item j apart) t.fits_i

        item_count : local_at with_item li ≡ Some i
        item_count = set_apart vars_i lx item li f.count_element ∙ t.at

        abbrev array_i : ClauseFits call v0 k here mem_i (local_at with_item)
        array_i = item_fits.clauses a k f.owned

        place_value : value (place_of k li) mem_i with_item ≡ Some (call.pointers k.param + k.size * i)
        place_value = (element_value call v0 k here mem_i with_item li i item array_i item_count item_at).0

        abbrev numbers : ℕ → ℕ
        numbers = given v0 (length c.tops) item

        dropped_here : FitsBy call v0 (without_clause a c) env mem_i (local_at with_item)
        dropped_here = dropped_fits call v0 c a k t.env_i env mem_i (local_at with_item) f.owned item_fits
            (λ y apart. sym (t.others y apart))

        inner_fits : FitsBy call numbers start (put x (arg.Word item) env) mem_i (local_at with_item)
        inner_fits =
            bind_fits call numbers (with_top (element_top k.size) (without_clause a c))
            (held x lx (symbol (length c.tops)) (element_kind k)) item env mem_i (local_at with_item) (local_at with_item)
            (fits_top call v0 (without_clause a c) (element_top k.size) item env mem_i (local_at with_item) element.1.1
            dropped_here)
            (symbol_there ps scope a x l k w c f.good f.scoped f.free_element) (free_any c lx x f.free_element) element_none
            (subst (λ (q : Scalar). item ≤ top_of q) (sym kinds.0) (subst (λ (m : ℕ). item ≤ m) kinds.1 element.1.1))
            (value_symbol numbers (length c.tops) ∙ ap pos (given_here v0 (length c.tops) item))
            (set_value vars_i lx item element_room)
            (record { scalars = λ j g at other. refl; pointers = λ j g at. refl; lengths = λ j g m at is_there. refl })

        inner_typed : IsTyped lengths (bind x (One w) scope) (put x (arg.Word item) env)
        inner_typed = bound_typed lengths scope env x (One w) (arg.Word item)
            (number_is w item (subst (λ (m : ℕ). item ≤ m) kinds.1 element.1.1)) is

        abbrev r : ExprRan call (step item) w start p d numbers (put x (arg.Word item) env) mem_i with_item
        r = f.kid.runs lengths call numbers (put x (arg.Word item) env) mem_i with_item inner_typed inner_fits

        small : step item ≤ element_top k.size
        small = subst (λ (m : ℕ). step item ≤ m) (sym kinds.1) r.small

        abbrev address : ℕ
        address = call.pointers k.param + k.size * i

        stands_here : StandsAt call k i
        stands_here = element_stands call v0 k here mem_i with_item i array_i less_here

        old_bytes : Stands mem_i (call.pointers k.param + k.size * i) (element_bytes k.size item)
        old_bytes = (element_read k.size here mem_i (call.pointers k.param) i item array_i.array array_i.stands item_at).0

        stored_here : (after : Bytes) × IsStored k.size address (step item) mem_i after
        stored_here = element_stored k.size address item (step item) mem_i stands_here.sized stands_here.aligned small old_bytes

        abbrev left_mem : Bytes
        left_mem = stored_here.0

        abbrev with_count : Vars
        with_count = slice_set with_item li (Some (i + 1))

        item_length : length with_item ≡ length vars
        item_length = length-set vars_i lx (Some item) ∙ t.count

        count_room : li < length with_item
        count_room = subst (λ (n : ℕ). li < n) (sym item_length) below.count

        abbrev new_here : (z : Arg) × (with_element i (step item) here ≡ Some z)
        new_here = there k.size i (step item) here array_i.array

        abbrev env_next : Env
        env_next = put_some a (with_element i (step item) here) t.env_i

        value_next : value_of env_next a ≡ with_element i (step item) here
        value_next = put_here a (with_element i (step item) here) new_here.0 t.env_i new_here.1

        next_fits : FitsBy call v0 c env_next left_mem (local_at with_count)
        next_fits =
            moved_locals call v0 c env_next left_mem li (local_at with_item) (local_at with_count) f.free_count
            (λ j apart. set_apart with_item li (i + 1) j apart)
            (written_fits call v0 c a k i (step item) t.env_i env_next mem_i left_mem (local_at with_item) item_fits f.owned
            (record {
              inside = less_here;
              small = small;
              value = value_next;
              values = λ y apart. put_else a y (with_element i (step item) here) t.env_i apart;
              bytes = stored_here.1.stands;
              others = stored_here.1.others;
            }))

        next_new : value_of env_next a ≡ partly step (i + 1) old
        next_new =
            let more : suc i ≡ i + 1 = omega arith in
            value_next ∙ ap (with_element i (step item)) t.new ∙ partly_next step i old less
            ∙ ap (λ (n : ℕ). partly step n old) more

        next_turn : MapAt (i + 1) left_mem with_count
        next_turn = record {
          env_i = env_next;
          fits_i = next_fits;
          new = next_new;
          others = λ y apart. put_else a y (with_element i (step item) here) t.env_i apart ∙ t.others y apart;
          far = λ at out. stored_here.1.others at
              (λ within. out (element_inside call v0 k i here mem_i (local_at with_item) array_i less_here at within))
              ∙ t.far at out;
          at = set_value with_item li (i + 1) count_room;
          to = set_apart with_item li (i + 1) lh (λ same_one. f.count_last (sym same_one))
              ∙ set_apart vars_i lx item lh f.last_element ∙ t.to;
          near = λ j one two three. set_apart with_item li (i + 1) j one ∙ set_apart vars_i lx item j three
              ∙ t.near j one two three;
          count = length-set with_item li (Some (i + 1)) ∙ item_length;
        }

        few : length items ≤ 4294967295
        few = array_fits.few

        body_runs : Runs wt (All body) mem_i vars_i left_mem with_item (body_price wt)
        body_runs =
            next (loaded k li lx) (storing ∷ []) (expr_weight wt (b.Load (size_of k.size) (place_of k li)) + wt.set)
            (store_price wt + 0) mem_i mem_i left_mem vars_i with_item with_item
            (sets lx (b.Load (size_of k.size) (place_of k li)) item mem_i vars_i with_item element.1.0
            (set_put vars_i lx item element_room))
            (next storing [] (store_price wt) 0 mem_i left_mem left_mem with_item with_item with_item
            (stores (size_of k.size) (place_of k li) p.code address (step item) mem_i left_mem with_item place_value r.value
            stored_here.1.store) (done left_mem with_item))

        turn_run : Runs wt (One (turn_of li body)) mem_i vars_i left_mem with_count
            (body_price wt + (expr_weight wt (more_code li) + wt.set + 0))
        turn_run = turn_runs wt li i (body_price wt) body mem_i left_mem vars_i with_item body_runs count_room
            (value_more left_mem with_item li i item_count (omega (arith, less, few)))

        turned : Turned wt (turn_of li body) (body_price wt + more_price wt call li) MapAt i mem_i vars_i
        turned = record {
          left_mem = left_mem;
          left = with_count;
          ticks = body_price wt + (expr_weight wt (more_code li) + wt.set + 0);
          runs = turn_run;
          next = next_turn;
          time = omega arith;
        }

      abbrev zero_vars : Vars
      zero_vars = slice_set vars li (Some 0)

      abbrev loop_vars : Vars
      loop_vars = slice_set zero_vars lh (Some (length items))

      zero_length : length zero_vars ≡ length vars
      zero_length = length-set vars li (Some 0)

      last_room : lh < length zero_vars
      last_room = subst (λ (n : ℕ). lh < n) (sym zero_length) below.last

      zero_fits : FitsBy call v0 c env mem (local_at zero_vars)
      zero_fits = moved_locals call v0 c env mem li (local_at vars) (local_at zero_vars) f.free_count
          (λ j apart. set_apart vars li 0 j apart) fits

      high_value : value high mem zero_vars ≡ Some (length items)
      high_value = length_value call v0 k old mem zero_vars high (zero_fits.clauses a k f.owned) f.length_code

      begin : MapAt 0 mem loop_vars
      begin = record {
        env_i = env;
        fits_i = moved_locals call v0 c env mem lh (local_at zero_vars) (local_at loop_vars) f.free_last
            (λ j apart. set_apart zero_vars lh (length items) j apart) zero_fits;
        new = sym (partly_none step old);
        others = λ y apart. refl;
        far = λ at out. refl;
        at = set_apart zero_vars lh (length items) li f.count_last ∙ set_value vars li 0 below.count;
        to = set_value zero_vars lh (length items) last_room;
        near = λ j one two three. set_apart zero_vars lh (length items) j two ∙ set_apart vars li 0 j one;
        count = length-set zero_vars lh (Some (length items)) ∙ zero_length;
      }

      abbrev most : ℕ
      most = body_price wt + more_price wt call li

      turns : Counted wt li lh (length items) most (length items - 0) (turn_of li body) MapAt mem loop_vars
      turns = counted wt li lh (length items) most (turn_of li body) MapAt (λ i mem_i vars_i t. (t.at, t.to))
          (λ i mem_i vars_i less t. turned i mem_i vars_i less t) (length items - 0) 0 mem loop_vars refl begin

      abbrev last : MapAt turns.stop turns.left_mem turns.left
      last = turns.holds

      abbrev final : Env
      final = array_mapped a x v env

      alike : (y : Name) → value_of final y ≡ value_of last.env_i y
      alike y = by (same a y) refl where
        by : (e : Bool) → same a y ≡ e → value_of final y ≡ value_of last.env_i y
        by true e =
            let name : a ≡ y = same_is a y e in
            let new = each_there k.size step old array_fits.array in
            subst (λ (z : Name). value_of final z ≡ value_of last.env_i z) name
            (put_here a (with_each step old) new.0 env new.1 ∙ sym (partly_all step turns.stop old turns.over) ∙ sym last.new)
        by false e = put_else a y (with_each step old) env e ∙ sym (last.others y e)

      abbrev numbers_back : ℕ → ℕ
      numbers_back = or_nothing (length c.tops) v0

      over_fits : FitsBy call numbers_back over final turns.left_mem (local_at turns.left)
      over_fits =
          counted_fits call numbers_back back a final turns.left_mem (local_at turns.left)
          (fits_after_block call v0 c d final turns.left_mem (local_at turns.left) began.tops began.entries
          (fits_alike call v0 c last.env_i final turns.left_mem (local_at turns.left) alike last.fits_i))

      trips_are : trip_at call k.length ≡ length items
      trips_are = ap nat_of (sym (trips_value call v0 k.length c env mem vars fits f.array.known) ∙ array_fits.form)

      unwritten_after : UnwrittenKept c.clauses over.clauses env final
      unwritten_after i j m at_j at_m writes = by (same a j.name) refl where
        name : m.name ≡ j.name
        name =
            let z = later back.clauses over.clauses i j (written_moves back a).arrays at_j in
            let both : Some z.clause ≡ Some m = sym z.at ∙ at_m in
            let one : z.clause ≡ m = cc in
            subst (λ (y : Clause). y.writes ≡ j.writes → y.name ≡ j.name) one z.same_one.name writes

        by : (e : Bool) → same a j.name ≡ e → value_of final m.name ≡ value_of env j.name
        by false e = ap (value_of final) name ∙ put_else a j.name (with_each step old) env e
        by true e =
            let found : own over j.name ≡ Some m = ap (own over) (sym name) ∙ clause_found over over_good i m at_m in
            let mine : own back j.name ≡ Some j = clause_found back back_good i j at_j in
            let both : Some (written j) ≡ Some m = sym (own_counted back a j.name ∙ rw (e, mine) refl) ∙ found in
            let one : written j ≡ m = cc in
            let more : m.writes ≡ j.writes + 1 = ap (λ (z : Clause). z.writes) (sym one) in
            absurd (omega (arith, more, writes))

      ran : StmtRan wt call (array_mapped a x v) c looped over v0 env mem vars
      ran = record {
        others = numbers_back;
        agree = nothing_agrees (length c.tops) v0;
        left_mem = turns.left_mem;
        left = turns.left;
        ticks = expr_weight wt (b.Lit 0) + wt.set + (expr_weight wt high + wt.set + (turns.ticks + 0));
        runs = counting_runs wt li lh 0 (length items) turns.ticks (b.Lit 0) high body mem turns.left_mem vars zero_vars loop_vars
            turns.left (value_lit mem vars 0) (set_put vars li 0 below.count)
            high_value (set_put zero_vars lh (length items) last_room) turns.runs;
        fits = over_fits;
        kept = λ j is_kept. kept_reserved turns.left last.near j is_kept;
        unwritten = unwritten_after;
        outside = λ address beyond. last.far address (λ within.
            let stands = clause_stands c a k f.owned in
            beyond stands.place k stands.at within);
        time = (
            let spent = turns.time in
            let price = ap (λ (q : ℕ × List LinearForm). q.0) (looped_cost wt call []) in
            let whole : length items - 0 ≡ length items = omega arith in
            let same_turns = ap (λ n. n * (test_price wt call li lh + most)) (whole ∙ sym trips_are) in
            omega (arith, spent, price, same_turns));
      }

    pub map_done : StmtDone ps scope scope (array_mapped a x v) c looped over
    map_done = record {
      moves = over_moves;
      consistent = over_good;
      scoped = over_scoped;
      typed = typed;
      trips = λ wt call rest. looped_cost wt call rest
          ∙ ap (λ (n : ℕ). (n, rest)) (ap (λ (q : ℕ × List LinearForm). q.0) (sym (looped_cost wt call [])));
      runs = λ lengths wt call v0 env mem vars is fits room. ran lengths wt call v0 env mem vars is fits room;
    }
