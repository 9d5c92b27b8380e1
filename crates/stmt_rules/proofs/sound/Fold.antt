-- s-fold is sound, from its kid on.
use Rattle.std.proofs.Common.{◌≡◌, ◌≢◌, refl, sym, ◌∙◌, ap, subst, arith, ℕ, suc, ◌+◌, ◌-◌, ◌*◌, ◌<◌, ◌≤◌, Bool, true, pos, List}
use Rattle.std.proofs.Common.{[], ◌∷◌, ◌++◌, drop, fold, get_or, length, Some, None, Ok, slice_get, slice_set}
use Rattle.std.specs.FinMap.{get}
use Rattle.std.proofs.lemmas.Bool.{ltb-true}
use Rattle.std.proofs.lemmas.List.{length-set}
use Rattle.std.proofs.lemmas.Option.{slice_get-get_or}
use Rattle.rup_base.specs.declared.arg.Arg.TheVariants as arg
use Rattle.rv_memory.specs.Ranges.{Bytes}
use Rattle.side_certs.specs.LinearForm.{LinearForm, symbol}
use Rattle.side_certs.proofs.laws.Values.{value_symbol}
use Rattle.model_syntax.specs.declared.expr.Expr.{Expr}
use Rattle.model_syntax.specs.declared.expr.Scalar.{Scalar}
use Rattle.model_syntax.specs.declared.program.Param.{Param}
use Rattle.model_syntax.specs.declared.scope.NameType.TheVariants.{Scalar as One}
use Rattle.model_syntax.specs.Environment.{Env, value_of, number, elements, put}
use Rattle.model_syntax.specs.Names.{Name, same}
use Rattle.model_syntax.specs.Scope.{Scope, look_up, bind, scalar_may_take}
use Rattle.model_syntax.specs.Sound.{IsTyped}
use Rattle.model_syntax.specs.Value.{eval, fold_turn, array_folded}
use Rattle.model_syntax.proofs.laws.Bindings.{value_else}
use Rattle.model_syntax.proofs.laws.Statements.{bound_typed}
use Rattle.sym_heap.specs.declared.parts.Held.{Held}
use Rattle.sym_heap.specs.declared.parts.Clause.{Clause}
use Rattle.sym_heap.specs.Context.{Context, scalar, own, has, is_free, held, top_of, with_top, with_scalar, back_to}
use Rattle.sym_heap.specs.Elements.{element_top}
use Rattle.sym_heap.specs.Ends.{standing, restored}
use Rattle.sym_heap.specs.Fits.{Call, Known, IsConsistent, ScalarFits, ClauseFits, FitsBy}
use Rattle.sym_heap.specs.Moves.{Moves, Began}
use Rattle.sym_heap.specs.Scoped.{IsScoped}
use Rattle.sym_heap.specs.Settle.{LocalsKept, or_nothing}
use Rattle.sym_heap.proofs.laws.Extending.{longer, known_symbol, given, given_here, given_agrees, consistent_top, fits_top}
use Rattle.sym_heap.proofs.laws.Lookups.{clause_stands, clause_found, differ_back}
use Rattle.sym_heap.proofs.laws.Moves.{take_all, take_front, take_on, moves_on, fresh_moves, bound_moves, restored_moves}
use Rattle.sym_heap.proofs.laws.Scopes.{fresh_scoped, bound_scoped, back_scoped}
use Rattle.sym_heap.proofs.laws.States.{agree_on, taken_length, bound_consistent, bind_fits, clause_moved, free_scalars}
use Rattle.sym_heap.proofs.laws.States.{leaves_none, leaves_other, fits_after_block, nothing_agrees, wider_consistent}
use Rattle.bed_syntax.specs.Weight.{expr_weight}
use Rattle.bed_syntax.specs.declared.weights.Weights.{Weights}
use Rattle.bed_syntax.specs.declared.expression.BExpr.{BExpr}
use Rattle.bed_syntax.specs.declared.expression.BExpr.TheVariants as b
use Rattle.bed_syntax.specs.declared.command.Cmd.{Cmd, roll-Cmd, fold-roll-Cmd}
use Rattle.bed_syntax.specs.declared.command.Cmd.TheOpen as cmd
use Rattle.bed_meaning.specs.Locals.{Vars, local_at}
use Rattle.bed_meaning.specs.Runs.{All, One, Runs, sets, done, next}
use Rattle.bed_meaning.specs.Value.{value}
use Rattle.expr_rules.specs.declared.output.ExprOut.{ExprOut}
use Rattle.expr_rules.specs.Elements.{size_of}
use Rattle.expr_rules.specs.Sound.{ExprDone, ExprRan}
use Rattle.expr_rules.specs.rules.Len as len
use Rattle.stmt_rules.specs.declared.loops.FoldLocals.{FoldLocals}
use Rattle.stmt_rules.specs.declared.output.StmtOut.{StmtOut}
use Rattle.stmt_rules.specs.Bound.{cost_all, trip_at, nat_of, all_below, sets_below, sets_below_step}
use Rattle.stmt_rules.specs.Loops.{turn_of, counting, loaded, place_of, element_kind}
use Rattle.stmt_rules.specs.Sound.{UnwrittenKept, StmtRan, StmtDone}
use Rattle.stmt_rules.specs.rules.Fold as fold_rule
use Rattle.stmt_rules.proofs.Sequence.{and_parts}
use Rattle.stmt_rules.proofs.Terms.{drop_at}
use Rattle.stmt_rules.proofs.sound.Around.{reserved_apart, free_bound, rebound, rebound_scoped, type_of_scalar, ArrayIs}
use Rattle.stmt_rules.proofs.sound.Around.{number_is, drop_all}
use Rattle.stmt_rules.proofs.sound.Counted.{Turned, Counted, counted, value_lit, value_var, value_more}
use Rattle.stmt_rules.proofs.sound.Counting.{more_code, more_price, test_price, counting_price, set_cost, counting_cost}
use Rattle.stmt_rules.proofs.sound.Counting.{CountsBelow, counting_below, set_put, set_value, set_apart, turn_runs, counting_runs}
use Rattle.stmt_rules.proofs.sound.For.{trips_value}
use Rattle.stmt_rules.proofs.sound.ForTurn.{not_array}
use Rattle.stmt_rules.proofs.sound.Lengths.{length_value, element_value, kind_is}
use Rattle.stmt_rules.proofs.sound.Let.{no_array}

-- Contexts.

-- the context where the kid begins
abbrev pub summed : Name → ℕ → Scalar → Context → Context
summed s ls t c = with_scalar (held s ls (symbol (length c.tops)) t) (with_top (top_of t) c)

abbrev pub kid_start : Name → Name → FoldLocals → Clause → Scalar → Context → Context
kid_start s x l k t c =
    with_scalar (held x l.turn.element (symbol (length (summed s l.so_far t c).tops)) (element_kind k))
    (with_top (element_top k.size) (summed s l.so_far t c))

-- What is known of the fold, whatever state there is.
pub record FoldDone (ps : List Param) (scope : Scope) (s a x : Name) (v : Expr) (u w : Scalar) (l : FoldLocals) (h : Held)
    (k : Clause) (c : Context) (p : ExprOut) (d : Context) (high : BExpr) : Type 0 where
  pub good : IsConsistent c
  pub scoped : IsScoped ps scope c
  pub sum : scalar c s ≡ Some h
  pub kind : h.kind ≡ u
  pub owned : own c a ≡ Some k
  pub array : ArrayIs ps w k c.entries
  pub may : scalar_may_take (look_up scope x) ≡ Ok tt
  pub free_count : is_free c l.turn.count None ≡ true
  pub free_last : is_free c l.turn.last None ≡ true
  pub free_element : is_free c l.turn.element None ≡ true
  pub free_sum : is_free c l.so_far (Some s) ≡ true
  pub count_last : l.turn.count ≢ l.turn.last
  pub count_element : l.turn.count ≢ l.turn.element
  pub last_element : l.turn.last ≢ l.turn.element
  pub count_sum : l.turn.count ≢ l.so_far
  pub last_sum : l.turn.last ≢ l.so_far
  pub element_sum : l.turn.element ≢ l.so_far
  pub length_code : len.code k ≡ Some high
  pub kid : ExprDone ps (bind x (One w) scope) (eval v) u (kid_start s x l k h.kind c) p d

-- How it begins.

module _ (ps : List Param) (scope : Scope) (s x : Name) (l : FoldLocals) (h : Held) (k : Clause) (w : Scalar) (c : Context)
    (good : IsConsistent c) (scoped : IsScoped ps scope c) (sum : scalar c s ≡ Some h)
    (free_sum : is_free c l.so_far (Some s) ≡ true) (free_element : is_free c l.turn.element None ≡ true)
    (apart : l.turn.element ≢ l.so_far) where
  pub symbol_there : (n : ℕ) (tops : List ℕ) → Known (length (tops ++ n ∷ [])) (symbol (length tops))
  symbol_there n tops = let more : length (tops ++ n ∷ []) ≡ suc (length tops) = longer tops n in
      known_symbol (length (tops ++ n ∷ [])) (length tops) (omega (arith, more))

  pub summed_good : IsConsistent (summed s l.so_far h.kind c)
  summed_good =
      bound_consistent (with_top (top_of h.kind) c) (held s l.so_far (symbol (length c.tops)) h.kind)
      (symbol_there (top_of h.kind) c.tops) free_sum (consistent_top c (top_of h.kind) good)

  pub free_there : is_free (summed s l.so_far h.kind c) l.turn.element (Some x) ≡ true
  free_there = free_bound (with_top (top_of h.kind) c) (held s l.so_far (symbol (length c.tops)) h.kind) l.turn.element x
      free_element (λ is. apart (sym is))

  pub start_good : IsConsistent (kid_start s x l k h.kind c)
  start_good =
      let m = summed s l.so_far h.kind c in
      bound_consistent (with_top (element_top k.size) m) (held x l.turn.element (symbol (length m.tops)) (element_kind k))
      (symbol_there (element_top k.size) m.tops) free_there (consistent_top m (element_top k.size) summed_good)

  pub start_scoped : scalar_may_take (look_up scope x) ≡ Ok tt → element_kind k ≡ w
      → IsScoped ps (bind x (One w) scope) (kid_start s x l k h.kind c)
  start_scoped may kind =
      let m = summed s l.so_far h.kind c in
      subst (λ (t : Scalar). IsScoped ps (bind x (One t) scope) (kid_start s x l k h.kind c)) kind
      (bound_scoped ps scope (with_top (element_top k.size) m) (held x l.turn.element (symbol (length m.tops)) (element_kind k))
      may
      (fresh_scoped ps scope m (element_top k.size)
      (rebound_scoped ps scope (with_top (top_of h.kind) c) (held s l.so_far (symbol (length c.tops)) h.kind)
      (type_of_scalar ps scope c scoped s h sum) (fresh_scoped ps scope c (top_of h.kind) scoped))))

module _ (ps : List Param) (scope : Scope) (s a x : Name) (v : Expr) (u w : Scalar) (l : FoldLocals) (h : Held) (k : Clause)
    (c : Context) (p : ExprOut) (d : Context) (high : BExpr)
    (f : FoldDone ps scope s a x v u w l h k c p d high)
    (typed : (lengths : Name → ℕ) (env : Env) → IsTyped lengths scope env → IsTyped lengths scope (array_folded s a x v env))
  where
    abbrev li : ℕ
    li = l.turn.count

    abbrev lh : ℕ
    lh = l.turn.last

    abbrev lx : ℕ
    lx = l.turn.element

    abbrev ls : ℕ
    ls = l.so_far

    abbrev start : Context
    start = kid_start s x l k h.kind c

    abbrev middle : Context
    middle = summed s ls h.kind c

    abbrev over : Context
    over = summed s ls h.kind (back_to c d)

    began : Began c d
    began = record {
      reserved = rw f.kid.extends.reserved (take_all c.reserved);
      facts = f.kid.extends.facts;
      tops = take_on c.tops start.tops d.tops
          (take_on c.tops middle.tops start.tops (take_front c.tops (top_of h.kind ∷ []))
          (take_front middle.tops (element_top k.size ∷ []))) f.kid.extends.tops;
      entries = f.kid.extends.entries;
    }

    pub returns : restored (standing c) d ≡ back_to c d
    returns = (restored_moves c d began).0

    back_good : IsConsistent (back_to c d)
    back_good = subst (λ (n : ℕ). IsConsistent (record c { tops = d.tops; entries = n })) (sym began.entries)
        (wider_consistent c d.tops began.tops f.good)

    over_good : IsConsistent over
    over_good =
        bound_consistent (with_top (top_of h.kind) (back_to c d)) (held s ls (symbol (length d.tops)) h.kind)
        (symbol_there ps scope s x l h k w c f.good f.scoped f.sum f.free_sum f.free_element f.element_sum (top_of h.kind) d.tops)
        f.free_sum (consistent_top (back_to c d) (top_of h.kind) back_good)

    type_of_sum : look_up scope s ≡ Some (One h.kind)
    type_of_sum = type_of_scalar ps scope c f.scoped s h f.sum

    over_scoped : IsScoped ps scope over
    over_scoped =
        rebound_scoped ps scope (with_top (top_of h.kind) (back_to c d)) (held s ls (symbol (length d.tops)) h.kind) type_of_sum
        (fresh_scoped ps scope (back_to c d) (top_of h.kind) (back_scoped ps scope c d f.scoped began.entries))

    back_moves : Moves c (back_to c d)
    back_moves = subst (λ (z : Context). Moves c z) returns (restored_moves c d began).1

    over_moves : Moves c over
    over_moves =
        moves_on c (back_to c d) over back_moves
        (moves_on (back_to c d) (with_top (top_of h.kind) (back_to c d)) over (fresh_moves (back_to c d) (top_of h.kind))
        (bound_moves (with_top (top_of h.kind) (back_to c d)) (held s ls (symbol (length d.tops)) h.kind) f.free_sum))

    sum_none : own c s ≡ None
    sum_none = no_array ps scope c s (ap scalar_may_take type_of_sum) f.scoped

    element_none : own c x ≡ None
    element_none = no_array ps scope c x f.may f.scoped

    kinds : (element_kind k ≡ w) × (element_top k.size ≡ top_of w)
    kinds = kind_is w k f.array.size

    abbrev looped : StmtOut
    looped = fold_rule.folding l k h.local high p.code

    abbrev body : List Cmd
    body = fold_rule.turn l k p.code

    -- What it costs.

    abbrev body_price : Weights → ℕ
    body_price wt = expr_weight wt (b.Load (size_of k.size) (place_of k li)) + wt.set + (expr_weight wt p.code + wt.set + 0)

    body_cost : (wt : Weights) (call : Call) (ts : List LinearForm) → cost_all wt call body ts ≡ (body_price wt, ts)
    body_cost wt call ts =
        let second : cost_all wt call (roll-Cmd (cmd.Set ls p.code) ∷ []) ts ≡ (expr_weight wt p.code + wt.set + 0, ts) =
        ap (λ (r : ℕ × List LinearForm). (r.0 + 0, r.1)) (set_cost wt call ls p.code ts) in
        ap (λ (r : ℕ × List LinearForm). (
          r.0 + (cost_all wt call (roll-Cmd (cmd.Set ls p.code) ∷ []) r.1).0,
          (cost_all wt call (roll-Cmd (cmd.Set ls p.code) ∷ []) r.1).1,
        ))
        (set_cost wt call lx (b.Load (size_of k.size) (place_of k li)) ts)
        ∙ ap (λ (r : ℕ × List LinearForm). (expr_weight wt (b.Load (size_of k.size) (place_of k li)) + wt.set + r.0, r.1)) second

    abbrev whole_price : Weights → Call → ℕ
    whole_price wt call = expr_weight wt (b.Var h.local) + wt.set
        + counting_price wt call li lh (b.Lit 0) high k.length (body_price wt)

    looped_cost : (wt : Weights) (call : Call) (rest : List LinearForm) → cost_all wt call looped.cmds (looped.trips ++ rest)
        ≡ (whole_price wt call, rest)
    looped_cost wt call rest =
        let others = counting li lh (b.Lit 0) high body in
        ap (λ (r : ℕ × List LinearForm). (r.0 + (cost_all wt call others r.1).0, (cost_all wt call others r.1).1))
        (set_cost wt call ls (b.Var h.local) (k.length ∷ rest))
        ∙ ap (λ (r : ℕ × List LinearForm). (expr_weight wt (b.Var h.local) + wt.set + r.0, r.1))
        (counting_cost wt call li lh (b.Lit 0) high body k.length rest (body_price wt) rest (body_cost wt call rest))

    -- Runs.

    module _ (lengths : Name → ℕ) (wt : Weights) (call : Call) (v0 : ℕ → ℕ) (env : Env) (mem : Bytes) (vars : Vars)
        (is : IsTyped lengths scope env) (fits : FitsBy call v0 c env mem (local_at vars))
        (room : all_below (length vars) looped.cmds ≡ true) where
      abbrev items : List ℕ
      items = elements (value_of env a)

      abbrev step : ℕ → ℕ → ℕ
      step = fold_turn s x v env

      at_start : ScalarFits v0 h (value_of env s) (local_at vars)
      at_start = fits.scalars s h f.sum

      abbrev first : ℕ
      first = number (value_of env s)

      first_is : at_start.number ≡ first
      first_is = ap number (sym at_start.value)

      array_fits : ClauseFits call v0 k (value_of env a) mem (local_at vars)
      array_fits = fits.clauses a k f.owned

      -- only the locals of the fold have other values
      abbrev Near : Vars → Type 0
      Near after = (j : ℕ) → j ≢ li → j ≢ lh → j ≢ lx → j ≢ ls → local_at after j ≡ local_at vars j

      kept_near : (after : Vars) → Near after → LocalsKept (same s) c (local_at vars) (local_at after)
      kept_near after near = record {
        scalars = λ i g at other. near g.local (leaves_none li g (free_scalars c li None f.free_count i g at))
            (leaves_none lh g (free_scalars c lh None f.free_last i g at))
            (leaves_none lx g (free_scalars c lx None f.free_element i g at))
            (leaves_other ls s g (free_scalars c ls (Some s) f.free_sum i g at) (differ_back s g.name other));
        pointers = λ i g at. reserved g.pointer (f.good.pointers_reserved i g at);
        lengths = λ i g m at there. reserved m (f.good.lengths_reserved i g m at there);
      } where
        reserved : (j : ℕ) → has j c.reserved ≡ true → local_at after j ≡ local_at vars j
        reserved j there =
            near j (reserved_apart c li None f.free_count j there) (reserved_apart c lh None f.free_last j there)
            (reserved_apart c lx None f.free_element j there) (reserved_apart c ls (Some s) f.free_sum j there)

      kept_reserved : (after : Vars) → Near after → (j : ℕ) → has j c.reserved ≡ true → local_at after j ≡ local_at vars j
      kept_reserved after near j there =
          near j (reserved_apart c li None f.free_count j there) (reserved_apart c lh None f.free_last j there)
          (reserved_apart c lx None f.free_element j there) (reserved_apart c ls (Some s) f.free_sum j there)

      array_near : (after : Vars) → Near after → ClauseFits call v0 k (value_of env a) mem (local_at after)
      array_near after near =
          let at = clause_stands c a k f.owned in
          let kept = kept_near after near in
          clause_moved call v0 k (value_of env a) mem (local_at vars) (local_at after) (kept.pointers at.place k at.at)
          (λ m there. kept.lengths at.place k m at.at there) array_fits

      -- where the turn at the index i begins
      record SumAt (i : ℕ) (mem_i : Bytes) (vars_i : Vars) : Type 0 where
        pub same_mem : mem_i ≡ mem
        pub sum : ℕ
        pub rest : fold step sum (drop i items) ≡ fold step first items
        pub small : sum ≤ top_of h.kind
        pub at : local_at vars_i li ≡ Some i
        pub to : local_at vars_i lh ≡ Some (length items)
        pub stands : local_at vars_i ls ≡ Some sum
        pub near : Near vars_i
        pub count : length vars_i ≡ length vars

      -- in a state where the scalar has a number it fits as one
      sum_fits : (sum : ℕ) (after : Vars) → sum ≤ top_of h.kind → local_at after ls ≡ Some sum → Near after
          → FitsBy call (given v0 (length c.tops) sum) middle (put s (arg.Word sum) env) mem (local_at after)
      sum_fits sum after small stands near =
          bind_fits call (given v0 (length c.tops) sum) (with_top (top_of h.kind) c) (held s ls (symbol (length c.tops)) h.kind)
          sum
          env mem (local_at vars) (local_at after)
          (fits_top call v0 c (top_of h.kind) sum env mem (local_at vars) small fits)
          (symbol_there ps scope s x l h k w c f.good f.scoped f.sum f.free_sum f.free_element f.element_sum (top_of h.kind)
          c.tops)
          f.free_sum sum_none small (value_symbol (given v0 (length c.tops) sum) (length c.tops)
          ∙ ap pos (given_here v0 (length c.tops) sum)) stands
          (record {
            scalars = λ i g at other. (kept_near after near).scalars i g at other;
            pointers = λ i g at. (kept_near after near).pointers i g at;
            lengths = λ i g m at there. (kept_near after near).lengths i g m at there;
          })

      sum_typed : (sum : ℕ) → sum ≤ top_of h.kind → IsTyped lengths scope (put s (arg.Word sum) env)
      sum_typed sum small y t found =
          bound_typed lengths scope env s (One h.kind) (arg.Word sum) (number_is h.kind sum small) is y t
          (rebound scope s (One h.kind) type_of_sum y ∙ found)

      module _ (i : ℕ) (mem_i : Bytes) (vars_i : Vars) (less : i < length items) (t : SumAt i mem_i vars_i) where
        abbrev item : ℕ
        item = get_or items i 0

        item_at : slice_get items i ≡ Some item
        item_at = slice_get-get_or items i 0 less

        abbrev element : (value (place_of k li) mem vars_i ≡ Some (call.pointers k.param + k.size * i))
            × ((value (b.Load (size_of k.size) (place_of k li)) mem vars_i ≡ Some item) × (item ≤ element_top k.size))
        element = element_value call v0 k (value_of env a) mem vars_i li i item (array_near vars_i t.near) t.at item_at

        abbrev with_item : Vars
        with_item = slice_set vars_i lx (Some item)

        below : CountsBelow (length vars) li lh body
        below = counting_below (length vars) li lh (b.Lit 0) high body
            (and_parts (sets_below (length vars) (roll-Cmd (cmd.Set ls (b.Var h.local))))
            (all_below (length vars) (counting li lh (b.Lit 0) high body)) room).1

        sets_there : (lx < length vars) × (ls < length vars)
        sets_there =
            let one = and_parts (sets_below (length vars) (loaded k li lx))
            (all_below (length vars) (roll-Cmd (cmd.Set ls p.code) ∷ [])) below.inner in
            let two = and_parts (sets_below (length vars) (roll-Cmd (cmd.Set ls p.code))) true one.1 in (
              ltb-true lx (length vars) (sym
                  (fold-roll-Cmd Bool (sets_below_step (length vars)) (cmd.Set lx (b.Load (size_of k.size) (place_of k li))))
                  ∙ one.0),
              ltb-true ls (length vars) (sym (fold-roll-Cmd Bool (sets_below_step (length vars)) (cmd.Set ls p.code)) ∙ two.0),
            )

        element_room : lx < length vars_i
        element_room = subst (λ (n : ℕ). lx < n) (sym t.count) sets_there.0

        near_item : Near with_item
        near_item j one two three four = set_apart vars_i lx item j three ∙ t.near j one two three four

        inner_fits : FitsBy call (given (given v0 (length c.tops) t.sum) (length middle.tops) item) start
            (put x (arg.Word item) (put s (arg.Word t.sum) env)) mem (local_at with_item)
        inner_fits =
            let v1 = given v0 (length c.tops) t.sum in
            let before = sum_fits t.sum with_item t.small
            (set_apart vars_i lx item ls (λ same_one. f.element_sum (sym same_one)) ∙ t.stands) near_item in
            bind_fits call (given v1 (length middle.tops) item) (with_top (element_top k.size) middle)
            (held x lx (symbol (length middle.tops)) (element_kind k)) item (put s (arg.Word t.sum) env) mem
            (local_at with_item) (local_at with_item)
            (fits_top call v1 middle (element_top k.size) item (put s (arg.Word t.sum) env) mem (local_at with_item) element.1.1
            before)
            (symbol_there ps scope s x l h k w c f.good f.scoped f.sum f.free_sum f.free_element f.element_sum
            (element_top k.size)
            middle.tops)
            (free_there ps scope s x l h k w c f.good f.scoped f.sum f.free_sum f.free_element f.element_sum) element_none
            (subst (λ (q : Scalar). item ≤ top_of q) (sym kinds.0) (subst (λ (m : ℕ). item ≤ m) kinds.1 element.1.1))
            (value_symbol (given v1 (length middle.tops) item) (length middle.tops)
            ∙ ap pos (given_here v1 (length middle.tops) item)) (set_value vars_i lx item element_room)
            (record { scalars = λ j g at other. refl; pointers = λ j g at. refl; lengths = λ j g m at there. refl })

        inner_typed : IsTyped lengths (bind x (One w) scope) (put x (arg.Word item) (put s (arg.Word t.sum) env))
        inner_typed =
            bound_typed lengths scope (put s (arg.Word t.sum) env) x (One w) (arg.Word item)
            (number_is w item (subst (λ (m : ℕ). item ≤ m) kinds.1 element.1.1)) (sum_typed t.sum t.small)

        abbrev r : ExprRan call (step t.sum item) u start p d (given (given v0 (length c.tops) t.sum) (length middle.tops) item)
            (put x (arg.Word item) (put s (arg.Word t.sum) env)) mem with_item
        r = f.kid.runs lengths call (given (given v0 (length c.tops) t.sum) (length middle.tops) item)
            (put x (arg.Word item) (put s (arg.Word t.sum) env)) mem with_item inner_typed inner_fits

        abbrev with_sum : Vars
        with_sum = slice_set with_item ls (Some (step t.sum item))

        abbrev with_count : Vars
        with_count = slice_set with_sum li (Some (i + 1))

        length_item : length with_item ≡ length vars
        length_item = length-set vars_i lx (Some item) ∙ t.count

        length_sum : length with_sum ≡ length vars
        length_sum = length-set with_item ls (Some (step t.sum item)) ∙ length_item

        sum_room : ls < length with_item
        sum_room = subst (λ (n : ℕ). ls < n) (sym length_item) sets_there.1

        count_room : li < length with_sum
        count_room = subst (λ (n : ℕ). li < n) (sym length_sum) below.count

        count_there : local_at with_sum li ≡ Some i
        count_there = set_apart with_item ls (step t.sum item) li f.count_sum ∙ set_apart vars_i lx item li f.count_element ∙ t.at

        few : length items ≤ 4294967295
        few = array_fits.few

        body_runs : Runs wt (All body) mem vars_i mem with_sum (body_price wt)
        body_runs =
            next (loaded k li lx) (roll-Cmd (cmd.Set ls p.code) ∷ [])
            (expr_weight wt (b.Load (size_of k.size) (place_of k li)) + wt.set) (expr_weight wt p.code + wt.set + 0) mem mem mem
            vars_i with_item with_sum
            (sets lx (b.Load (size_of k.size) (place_of k li)) item mem vars_i with_item element.1.0
            (set_put vars_i lx item element_room))
            (next (roll-Cmd (cmd.Set ls p.code)) [] (expr_weight wt p.code + wt.set) 0 mem mem mem with_item with_sum with_sum
            (sets ls p.code (step t.sum item) mem with_item with_sum r.value (set_put with_item ls (step t.sum item) sum_room))
            (done mem with_sum))

        turn_run : Runs wt (One (turn_of li body)) mem vars_i mem with_count
            (body_price wt + (expr_weight wt (more_code li) + wt.set + 0))
        turn_run = turn_runs wt li i (body_price wt) body mem mem vars_i with_sum body_runs count_room
            (value_more mem with_sum li i count_there (omega (arith, less, few)))

        next_rest : fold step (step t.sum item) (drop (i + 1) items) ≡ fold step first items
        next_rest = sym (ap (fold step t.sum) (drop_at items i item item_at)) ∙ t.rest

        next_turn : SumAt (i + 1) mem with_count
        next_turn = record {
          same_mem = refl;
          sum = step t.sum item;
          rest = next_rest;
          small = subst (λ (q : Scalar). step t.sum item ≤ top_of q) (sym f.kind) r.small;
          at = set_value with_sum li (i + 1) count_room;
          to = set_apart with_sum li (i + 1) lh (λ same_one. f.count_last (sym same_one))
              ∙ set_apart with_item ls (step t.sum item) lh f.last_sum ∙ set_apart vars_i lx item lh f.last_element ∙ t.to;
          stands = set_apart with_sum li (i + 1) ls (λ same_one. f.count_sum (sym same_one))
              ∙ set_value with_item ls (step t.sum item) sum_room;
          near = λ j one two three four. set_apart with_sum li (i + 1) j one ∙ set_apart with_item ls (step t.sum item) j four
              ∙ near_item j one two three four;
          count = length-set with_sum li (Some (i + 1)) ∙ length_sum;
        }

        turned : Turned wt (turn_of li body) (body_price wt + more_price wt call li) SumAt i mem_i vars_i
        turned = record {
          left_mem = mem;
          left = with_count;
          ticks = body_price wt + (expr_weight wt (more_code li) + wt.set + 0);
          runs = subst (λ (z : Bytes). Runs wt (One (turn_of li body)) z vars_i mem with_count
              (body_price wt + (expr_weight wt (more_code li) + wt.set + 0))) (sym t.same_mem) turn_run;
          next = next_turn;
          time = omega arith;
        }

      whole_below : (ls < length vars) × CountsBelow (length vars) li lh body
      whole_below =
          let parts = and_parts (sets_below (length vars) (roll-Cmd (cmd.Set ls (b.Var h.local))))
          (all_below (length vars) (counting li lh (b.Lit 0) high body)) room in (
            ltb-true ls (length vars) (sym (fold-roll-Cmd Bool (sets_below_step (length vars)) (cmd.Set ls (b.Var h.local)))
                ∙ parts.0),
            counting_below (length vars) li lh (b.Lit 0) high body parts.1,
          )

      abbrev first_vars : Vars
      first_vars = slice_set vars ls (Some first)

      abbrev zero_vars : Vars
      zero_vars = slice_set first_vars li (Some 0)

      abbrev loop_vars : Vars
      loop_vars = slice_set zero_vars lh (Some (length items))

      first_length : length first_vars ≡ length vars
      first_length = length-set vars ls (Some first)

      zero_length : length zero_vars ≡ length vars
      zero_length = length-set first_vars li (Some 0) ∙ first_length

      zero_room : li < length first_vars
      zero_room = subst (λ (n : ℕ). li < n) (sym first_length) whole_below.1.count

      last_room : lh < length zero_vars
      last_room = subst (λ (n : ℕ). lh < n) (sym zero_length) whole_below.1.last

      first_value : value (b.Var h.local) mem vars ≡ Some first
      first_value = value_var mem vars h.local ∙ at_start.local ∙ ap Some first_is

      near_zero : Near zero_vars
      near_zero j one two three four = set_apart first_vars li 0 j one ∙ set_apart vars ls first j four

      high_value : value high mem zero_vars ≡ Some (length items)
      high_value = length_value call v0 k (value_of env a) mem zero_vars high (array_near zero_vars near_zero) f.length_code

      begin : SumAt 0 mem loop_vars
      begin = record {
        same_mem = refl;
        sum = first;
        rest = refl;
        small = subst (λ (n : ℕ). n ≤ top_of h.kind) first_is at_start.kind;
        at = set_apart zero_vars lh (length items) li f.count_last ∙ set_value first_vars li 0 zero_room;
        to = set_value zero_vars lh (length items) last_room;
        stands = set_apart zero_vars lh (length items) ls (λ is_last. f.last_sum (sym is_last))
            ∙ set_apart first_vars li 0 ls (λ is_count. f.count_sum (sym is_count)) ∙ set_value vars ls first whole_below.0;
        near = λ j one two three four. set_apart zero_vars lh (length items) j two ∙ near_zero j one two three four;
        count = length-set zero_vars lh (Some (length items)) ∙ zero_length;
      }

      abbrev most : ℕ
      most = body_price wt + more_price wt call li

      turns : Counted wt li lh (length items) most (length items - 0) (turn_of li body) SumAt mem loop_vars
      turns = counted wt li lh (length items) most (turn_of li body) SumAt (λ i mem_i vars_i t. (t.at, t.to))
          (λ i mem_i vars_i less t. turned i mem_i vars_i less t) (length items - 0) 0 mem loop_vars refl begin

      abbrev last : SumAt turns.stop turns.left_mem turns.left
      last = turns.holds

      last_sum_is : last.sum ≡ fold step first items
      last_sum_is = sym (ap (fold step last.sum) (drop_all items turns.stop turns.over)) ∙ last.rest

      abbrev numbers_back : ℕ → ℕ
      numbers_back = or_nothing (length c.tops) v0

      abbrev numbers_left : ℕ → ℕ
      numbers_left = given numbers_back (length d.tops) last.sum

      over_fits : FitsBy call numbers_left over (put s (arg.Word last.sum) env) mem (local_at turns.left)
      over_fits =
          let kept = kept_near turns.left last.near in
          bind_fits call numbers_left (with_top (top_of h.kind) (back_to c d)) (held s ls (symbol (length d.tops)) h.kind)
          last.sum
          env mem (local_at vars) (local_at turns.left)
          (fits_top call numbers_back (back_to c d) (top_of h.kind) last.sum env mem (local_at vars) last.small
          (fits_after_block call v0 c d env mem (local_at vars) began.tops began.entries fits))
          (symbol_there ps scope s x l h k w c f.good f.scoped f.sum f.free_sum f.free_element f.element_sum (top_of h.kind)
          d.tops)
          f.free_sum sum_none last.small
          (value_symbol numbers_left (length d.tops) ∙ ap pos (given_here numbers_back (length d.tops) last.sum)) last.stands
          (record {
            scalars = λ i g at other. kept.scalars i g at other;
            pointers = λ i g at. kept.pointers i g at;
            lengths = λ i g m at there. kept.lengths i g m at there;
          })

      trips_are : trip_at call k.length ≡ length items
      trips_are = ap nat_of (sym (trips_value call v0 k.length c env mem vars fits f.array.known) ∙ array_fits.form)

      unwritten_after : UnwrittenKept c.clauses over.clauses env (array_folded s a x v env)
      unwritten_after i j m at_j at_m writes =
          let both : Some j ≡ Some m = sym at_j ∙ at_m in
          let one : j ≡ m = cc in
          ap (λ (z : Clause). value_of (array_folded s a x v env) z.name) (sym one)
          ∙ value_else s j.name (arg.Word (fold step first items)) env
          (not_array s c sum_none j.name j (clause_found c f.good i j at_j))

      ran : StmtRan wt call (array_folded s a x v) c looped over v0 env mem vars
      ran = record {
        others = numbers_left;
        agree = agree_on (length c.tops) (length d.tops) v0 numbers_back numbers_left (taken_length c.tops d.tops began.tops)
            (nothing_agrees (length c.tops) v0) (given_agrees numbers_back (length d.tops) last.sum);
        left_mem = turns.left_mem;
        left = turns.left;
        ticks = expr_weight wt (b.Var h.local) + wt.set
            + (expr_weight wt (b.Lit 0) + wt.set + (expr_weight wt high + wt.set + (turns.ticks + 0)));
        runs = next (roll-Cmd (cmd.Set ls (b.Var h.local))) (counting li lh (b.Lit 0) high body)
            (expr_weight wt (b.Var h.local) + wt.set)
            (expr_weight wt (b.Lit 0) + wt.set + (expr_weight wt high + wt.set + (turns.ticks + 0)))
            mem mem turns.left_mem vars first_vars turns.left
            (sets ls (b.Var h.local) first mem vars first_vars first_value (set_put vars ls first whole_below.0))
            (counting_runs wt li lh 0 (length items) turns.ticks (b.Lit 0) high body mem turns.left_mem first_vars zero_vars
            loop_vars turns.left (value_lit mem first_vars 0) (set_put first_vars li 0 zero_room)
            high_value (set_put zero_vars lh (length items) last_room) turns.runs);
        fits = subst (λ (z : Bytes). FitsBy call numbers_left over (array_folded s a x v env) z (local_at turns.left))
            (sym last.same_mem)
            (subst (λ (n : ℕ). FitsBy call numbers_left over (put s (arg.Word n) env) mem (local_at turns.left)) last_sum_is
            over_fits);
        kept = λ j there. kept_reserved turns.left last.near j there;
        unwritten = unwritten_after;
        outside = λ address beyond. ap (λ (z : Bytes). get z address) last.same_mem;
        time = (
            let spent = turns.time in
            let price = ap (λ (q : ℕ × List LinearForm). q.0) (looped_cost wt call []) in
            let whole : length items - 0 ≡ length items = omega arith in
            let same_turns = ap (λ n. n * (test_price wt call li lh + most)) (whole ∙ sym trips_are) in
            omega (arith, spent, price, same_turns));
      }

    pub fold_done : StmtDone ps scope scope (array_folded s a x v) c looped over
    fold_done = record {
      moves = over_moves;
      consistent = over_good;
      scoped = over_scoped;
      typed = typed;
      trips = λ wt call rest. looped_cost wt call rest
          ∙ ap (λ (n : ℕ). (n, rest)) (ap (λ (q : ℕ × List LinearForm). q.0) (sym (looped_cost wt call [])));
      runs = λ lengths wt call v0 env mem vars is fits room. ran lengths wt call v0 env mem vars is fits room;
    }
