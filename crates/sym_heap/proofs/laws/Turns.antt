-- Turns of a loop: each begins where the one before has ended, and the context at the start of the block fits.
use Rattle.std.proofs.Common.{◌≡◌, ◌≢◌, refl, sym, ◌∙◌, ap, subst, arith, ℕ, suc, ◌≤◌, Bool, true, false, ◌||◌, List, [], ◌∷◌}
use Rattle.std.proofs.Common.{◌++◌, length, take, Option, Some, None, pos, slice_get, nat_eq}
use Rattle.std.specs.List.{find, list_all}
use Rattle.std.proofs.lemmas.Bool.Decides.{nat_tests}
use Rattle.rup_base.specs.declared.arg.Arg.{Arg}
use Rattle.rup_base.specs.declared.arg.Arg.TheVariants as arg
use Rattle.rv_memory.specs.Ranges.{Bytes}
use Rattle.side_certs.specs.LinearForm.{symbol}
use Rattle.side_certs.proofs.laws.Values.{value_symbol}
use Rattle.model_syntax.specs.declared.expr.Scalar.{Scalar}
use Rattle.model_syntax.specs.declared.expr.Scalar.TheVariants.{Word}
use Rattle.model_syntax.specs.Environment.{Env, value_of, put, put_some, carry}
use Rattle.model_syntax.specs.Names.{Name, same, listed}
use Rattle.model_syntax.proofs.laws.Bindings.{same_is, value_here, value_else}
use Rattle.sym_heap.specs.declared.parts.Held.{Held}
use Rattle.sym_heap.specs.declared.parts.Clause.{Clause}
use Rattle.sym_heap.specs.Context.{Context, scalar, own, is_clause, has, is_free, leaves_free, held, top_of, with_top, back_to}
use Rattle.sym_heap.specs.Ends.{standing, with_ends}
use Rattle.sym_heap.specs.Fits.{Call, Locals, IsArray, IsConsistent, FitsBy, FitsOn, Agree}
use Rattle.sym_heap.specs.Moves.{local_of}
use Rattle.sym_heap.specs.Settle.{FitsRest, none, among, or_nothing, settle, target, Stood}
use Rattle.sym_heap.specs.Turns.{reserving, with_count, unlisted_locals, block_start, after_loop, TurnBegins, EndsLike}
use Rattle.sym_heap.specs.Turns.{TurnLeaves, IsSet}
use Rattle.sym_heap.proofs.laws.Ending.{EndsHold, EndsFollow, ended, ends_over, over_self, ends_rest}
use Rattle.sym_heap.proofs.laws.Extending.{longer, known_symbol, given, given_here, given_agrees, fits_top}
use Rattle.sym_heap.proofs.laws.Lookups.{scalar_stands, scalar_found, clause_found, name_of_scalar, names_differ, differ_back}
use Rattle.sym_heap.proofs.laws.Moves.{take_all, follow_self, params_once}
use Rattle.sym_heap.proofs.laws.Settling.{place_in, IsSettled, TargetsApart, beside, settle_static, settle_fits}
use Rattle.sym_heap.proofs.laws.States.{agree_on, rest_of_fits, rest_locals, set_kept, free_reserved, free_scalars, leaves_none}
use Rattle.sym_heap.proofs.laws.States.{taken_length, bind_fits, nothing_agrees, nothing_below}

-- Names that carry over.

neither : (p q : Bool) → (p || q) ≡ false → (p ≡ false) × (q ≡ false)
neither true q is = absurd (let bad : true ≡ false = is in cc)
neither false q is = (refl, is)

put_else : (x : Name) (o : Option Arg) (env : Env) (y : Name) → same y x ≡ false → value_of (put_some x o env) y ≡ value_of env y
put_else x None env y apart = refl
put_else x (Some v) env y apart = value_else x y v env (differ_back y x apart)

-- a name that is not listed has its value of outside
pub carried_else : (xs : List Name) (inner outer : Env) (y : Name) → listed y xs ≡ false
    → value_of (carry xs inner outer) y ≡ value_of outer y
carried_else [] inner outer y out = refl
carried_else (x ∷ xs) inner outer y out =
    let p = neither (same y x) (listed y xs) out in
    carried_else xs inner (put_some x (value_of inner x) outer) y p.1 ∙ put_else x (value_of inner x) outer y p.0

-- a listed name has its value of inside
pub carried : (xs : List Name) (inner outer : Env) (y : Name) (v : Arg) → listed y xs ≡ true → value_of inner y ≡ Some v
    → value_of (carry xs inner outer) y ≡ Some v
carried [] inner outer y v is at = absurd (let bad : false ≡ true = is in cc)
carried (x ∷ xs) inner outer y v is at = by (listed y xs) refl (same y x) refl (λ o more. carried xs inner o y v more at) where
  by : (b : Bool) → listed y xs ≡ b → (d : Bool) → same y x ≡ d
      → ((o : Env) → listed y xs ≡ true → value_of (carry xs inner o) y ≡ Some v)
      → value_of (carry xs inner (put_some x (value_of inner x) outer)) y ≡ Some v
  by true e d f more = more (put_some x (value_of inner x) outer) e
  by false e true f more =
      let one : y ≡ x = same_is y x f in
      let there : value_of inner x ≡ Some v = ap (value_of inner) (sym one) ∙ at in
      let found : value_of (put x v outer) y ≡ Some v = ap (value_of (put x v outer)) one ∙ value_here x v outer in
      carried_else xs inner (put_some x (value_of inner x) outer) y e ∙ ap (λ o. value_of (put_some x o outer) y) there ∙ found
  by false e false f more =
      let off : listed y (x ∷ xs) ≡ false = rw (f, e) refl in
      absurd (let bad : false ≡ true = sym off ∙ is in cc)

-- The first turn, and other counts.

pub first_turn : (names : List Name) (call : Call) (v : ℕ → ℕ) (c : Context) (env : Env) (mem : Bytes) (locals : Locals)
    → FitsBy call v c env mem locals → TurnBegins names call v c env mem locals
first_turn names call v c env mem locals fits = record {
  consistent = fits.consistent;
  fits = rest_of_fits (among names) call v c env mem locals fits;
  stood = λ y in_list. by y (scalar c y) refl;
} where
  by : (y : Name) (o : Option Held) → scalar c y ≡ o → Stood (scalar c y) (scalar c y) (value_of env y) locals
  by y None at = rw at refl
  by y (Some h) at = rw at (let f = fits.scalars y h at in (f.number, f.value, f.kind, f.local))

pub turn_counts : (names : List Name) (call : Call) (v : ℕ → ℕ) (c : Context) (env : Env) (mem : Bytes) (l : ℕ)
    (locals after : Locals) → TurnBegins names call v c env mem locals
    → is_free c l None ≡ true → IsSet l locals after → TurnBegins names call v c env mem after
turn_counts names call v c env mem l locals after b free set = record {
  consistent = b.consistent;
  fits = rest_locals (among names) call v c env mem locals after (set_kept (among names) c l locals after b.consistent free set)
      b.fits;
  stood = λ y in_list. by y (scalar c y) refl (b.stood y in_list);
} where
  by : (y : Name) (o : Option Held) → scalar c y ≡ o → Stood (scalar c y) (scalar c y) (value_of env y) locals
      → Stood (scalar c y) (scalar c y) (value_of env y) after
  by y None at s = rw at refl
  by y (Some h) at s =
      let p : (n : ℕ) × (value_of env y ≡ Some (arg.Word n)) × (n ≤ top_of h.kind) × (locals h.local ≡ Some n) = rw at at s in
      let place = scalar_stands c y h at in
      let kept : after h.local ≡ locals h.local =
      (set_kept none c l locals after b.consistent free set).scalars place.place h place.at refl in
      rw at (p.0, p.1, p.2, kept ∙ p.3)

-- The start of the block.

-- listed or not, a scalar has its place in the context itself
pub target_self : (names : List Name) (c : Context) (x : Name) → target names c c x ≡ scalar c x
target_self names c x = by (listed x names) refl where
  by : (b : Bool) → listed x names ≡ b → target names c c x ≡ scalar c x
  by true e = rw e refl
  by false e = rw e refl

apart_self : (names : List Name) (c : Context) → IsConsistent c → TargetsApart names c c
apart_self names c s x y h k at_x at_y differ is =
    let one = scalar_stands c x h (sym (target_self names c x) ∙ at_x) in
    let two = scalar_stands c y k (sym (target_self names c y) ∙ at_y) in
    (s.scalars_apart one.place two.place h k one.at two.at (λ place.
    let both : Some h ≡ Some k = sym one.at ∙ ap (slice_get c.scalars) place ∙ two.at in
    let one_scalar : h ≡ k = cc in
    names_differ x y differ (sym one.named ∙ ap name_of_scalar one_scalar ∙ two.named))).1 is

pub settled_self : (names : List Name) (c : Context) → IsSettled names c c (settle names c c)
settled_self names c = settle_static names c c (λ y in_list gone. gone)

all_of : {A : Type 0} (test : A → Bool) (xs : List A) → ((i : ℕ) (x : A) → slice_get xs i ≡ Some x → test x ≡ true)
    → list_all test xs ≡ true
all_of test [] each = refl
all_of test (x ∷ xs) each = rw (each 0 x refl) (all_of test xs (λ i y at. each (suc i) y at))

-- a local that is free before the block is free for the loop's name where the listed scalars have settled
free_settled : (names : List Name) (x : Name) (l : ℕ) (c : Context) → IsConsistent (settle names c c) → is_free c l None ≡ true
    → is_free (settle names c c) l (Some x) ≡ true
free_settled names x l c after free =
    let unreserved : has l (settle names c c).reserved ≡ false = ap (has l) s.reserved ∙ free_reserved c l None free in
    rw unreserved (all_of (leaves_free l (Some x)) (settle names c c).scalars (λ i h at. leaves i h at (nat_eq h.local l) refl))
  where
    s : IsSettled names c c (settle names c c)
    s = settled_self names c

    other : (i : ℕ) (h : Held) → slice_get (settle names c c).scalars i ≡ Some h → h.local ≢ l
    other i h at is =
        let b = beside (scalar (settle names c c) h.name) (scalar c h.name) h (scalar_found (settle names c c) after i h at)
        (s.places h.name ∙ ap place_in (target_self names c h.name)) in
        let p = scalar_stands c h.name b.scalar_there b.is in
        leaves_none l b.scalar_there (free_scalars c l None free p.place b.scalar_there p.at) (sym b.local ∙ is)

    leaves : (i : ℕ) (h : Held) → slice_get (settle names c c).scalars i ≡ Some h → (b : Bool) → nat_eq h.local l ≡ b
        → leaves_free l (Some x) h ≡ true
    leaves i h at false e = rw e refl
    leaves i h at true e = absurd (other i h at (grind (arith, nat_tests, e)))

-- a scalar gets the count, in a fresh symbol and the local in which it is
count_fits : (x : Name) (li n : ℕ) (call : Call) (v : ℕ → ℕ) (c : Context) (env : Env) (mem : Bytes) (locals : Locals)
    → FitsBy call v c env mem locals
    → is_free c li (Some x) ≡ true → own c x ≡ None → n ≤ 4294967295 → locals li ≡ Some n
    → FitsBy call (given v (length c.tops) n) (with_count x li c) (put x (arg.Word n) env) mem locals
count_fits x li n call v c env mem locals fits free no_array small at =
    let more : length (c.tops ++ top_of Word ∷ []) ≡ suc (length c.tops) = longer c.tops (top_of Word) in
    bind_fits call (given v (length c.tops) n) (with_top (top_of Word) c) (held x li (symbol (length c.tops)) Word) n env mem
    locals locals
    (fits_top call v c (top_of Word) n env mem locals small fits)
    (known_symbol (length (c.tops ++ top_of Word ∷ [])) (length c.tops) (omega (arith, more))) free no_array small
    (value_symbol (given v (length c.tops) n) (length c.tops) ∙ ap pos (given_here v (length c.tops) n)) at
    (record { scalars = λ i h at_h apart. refl; pointers = λ i k at_k. refl; lengths = λ i k l at_k is. refl })

has_more : (n : ℕ) (ns ms : List ℕ) → has n ns ≡ true → has n (ns ++ ms) ≡ true
has_more n [] ms is = absurd (let bad : false ≡ true = is in cc)
has_more n (k ∷ ns) ms is = by (nat_eq k n) refl (λ rest. has_more n ns ms rest) where
  by : (b : Bool) → nat_eq k n ≡ b → (has n ns ≡ true → has n (ns ++ ms) ≡ true) → has n (k ∷ (ns ++ ms)) ≡ true
  by true e more = rw e refl
  by false e more = rw e (more (rw e at is))

-- a context fits where further locals are reserved
pub reserving_fits : (call : Call) (v : ℕ → ℕ) (c : Context) (ls : List ℕ) (env : Env) (mem : Bytes) (locals : Locals)
    → FitsBy call v c env mem locals → FitsBy call v (reserving ls c) env mem locals
reserving_fits call v c ls env mem locals fits = record {
  consistent = record {
    entries_known = s.entries_known;
    scalars_known = s.scalars_known;
    lengths_known = s.lengths_known;
    facts_known = s.facts_known;
    scalars_apart = s.scalars_apart;
    clauses_apart = s.clauses_apart;
    pointers_reserved = λ i k at. has_more k.pointer c.reserved ls (s.pointers_reserved i k at);
    lengths_reserved = λ i k l at is. has_more l c.reserved ls (s.lengths_reserved i k l at is);
  };
  entry_count = fits.entry_count;
  entries = fits.entries;
  holds = fits.holds;
  scalars = fits.scalars;
  clauses = fits.clauses;
  ranges = fits.ranges;
} where
  s : IsConsistent c
  s = fits.consistent

pub block_starts : (names : List Name) (x : Name) (li lh n : ℕ) (call : Call) (v : ℕ → ℕ) (c : Context) (env : Env) (mem : Bytes)
    (locals : Locals) → TurnBegins names call v c env mem locals
    → is_free c li None ≡ true → own c x ≡ None → n ≤ 4294967295 → locals li ≡ Some n
    → FitsOn call (length c.tops) v (block_start names x li lh c) (put x (arg.Word n) env) mem locals
block_starts names x li lh n call v c env mem locals b free no_array small at =
    let r = settle_fits names c call v c env mem locals b.stood (apart_self names c b.consistent) b.fits in
    let s = settled_self names c in
    let symbols = length (settle names c c).tops in
    let no_clause : own (settle names c c) x ≡ None = ap (find (is_clause x)) s.clauses ∙ no_array in (
      given r.0 symbols n,
      agree_on (length c.tops) symbols v r.0 (given r.0 symbols n) (taken_length c.tops (settle names c c).tops s.tops) r.1
          (given_agrees r.0 symbols n),
      reserving_fits call (given r.0 symbols n) (with_count x li (settle names c c))
          (unlisted_locals names c.scalars ++ li ∷ lh ∷ []) (put x (arg.Word n) env) mem locals
          (count_fits x li n call r.0 (settle names c c) env mem locals r.2 (free_settled names x li c r.2.consistent free)
          no_clause small at),
    )

-- The end of the block.

pub turn_ends : (names : List Name) (call : Call) (v u : ℕ → ℕ) (c end_ : Context) (env end_env : Env) (mem end_mem : Bytes)
    (locals end_locals : Locals) → TurnBegins names call v c env mem locals
    → FitsBy call u end_ end_env end_mem end_locals → Agree (length c.tops) v u → EndsLike names c end_
    → TurnLeaves names c end_ env end_env locals end_locals
    → TurnBegins names call v c (carry names end_env env) end_mem end_locals
turn_ends names call v u c end_ env end_env mem end_mem locals end_locals b end_fits agree like leaves = record {
  consistent = b.consistent;
  fits = ends_rest none names call v u v c c end_ env end_env (carry names end_env env) mem end_mem locals end_locals
      (over_self c b.consistent (take_all c.tops)) like.follow b.fits
      (rest_of_fits none call u end_ end_env end_mem end_locals end_fits) agree (λ s less. refl) b.fits.holds.1 hold;
  stood = λ y in_list. scalars y in_list (scalar c y) refl (scalar end_ y) refl;
} where
  listed_array : (j l : Clause) (o : Option Arg) → value_of end_env l.name ≡ o → IsArray l.size (value_of end_env l.name)
      → l.name ≡ j.name → listed j.name names ≡ true
      → value_of (carry names end_env env) j.name ≡ value_of end_env l.name
  listed_array j l None at is named in_list = absurd (subst (λ (o : Option Arg). IsArray l.size o) at is)
  listed_array j l (Some v) at is named in_list =
      carried names end_env env j.name v in_list (ap (value_of end_env) (sym named) ∙ at) ∙ sym at

  array : (i : ℕ) (j l : Clause) → slice_get c.clauses i ≡ Some j → slice_get end_.clauses i ≡ Some l → (t : Bool)
      → listed j.name names ≡ t
      → value_of (carry names end_env env) j.name ≡ value_of end_env l.name
  array i j l at_j at_l false out = carried_else names end_env env j.name out
      ∙ sym (leaves.unwritten i j l at_j at_l (like.counted i j l at_j at_l out))
  array i j l at_j at_l true in_list =
      listed_array j l (value_of end_env l.name) refl
      (end_fits.clauses l.name l (clause_found end_ end_fits.consistent i l at_l)).array (like.named i j l at_j at_l) in_list

  hold : EndsHold names c c end_ env end_env (carry names end_env env) locals end_locals
  hold = record {
    arrays = λ i j l at_j at_l. array i j l at_j at_l (listed j.name names) refl;
    values = λ x h at out. carried_else names end_env env x out;
    locals_kept = leaves.locals_kept;
  }

  scalars : (y : Name) → listed y names ≡ true → (o : Option Held) → scalar c y ≡ o → (p : Option Held) → scalar end_ y ≡ p
      → Stood (scalar c y) (scalar c y) (value_of (carry names end_env env) y) end_locals
  scalars y in_list None at p at_end = rw at refl
  scalars y in_list (Some h) at None at_end =
      absurd (let bad : None ≡ Some h.local = sym (ap local_of at_end) ∙ like.places y in_list ∙ ap local_of at in cc)
  scalars y in_list (Some h) at (Some l) at_end =
      let f = end_fits.scalars y l at_end in
      let places : Some l.local ≡ Some h.local = sym (ap local_of at_end) ∙ like.places y in_list ∙ ap local_of at in
      let local : l.local ≡ h.local = cc in
      let kind : f.number ≤ top_of h.kind =
      subst (λ (k : Scalar). f.number ≤ top_of k) (like.kinds y h l in_list at at_end) f.kind in
      rw at (f.number, carried names end_env env y (arg.Word f.number) in_list f.value, kind, ap end_locals (sym local) ∙ f.local)

pub turn_again : (names : List Name) (x : Name) (li lh n : ℕ) (call : Call) (v u : ℕ → ℕ) (c end_ : Context) (env end_env : Env)
    (mem end_mem : Bytes) (locals end_locals after : Locals)
    → TurnBegins names call v c env mem locals → FitsBy call u end_ end_env end_mem end_locals → Agree (length c.tops) v u
    → EndsLike names c end_ → TurnLeaves names c end_ env end_env locals end_locals
    → is_free c li None ≡ true → own c x ≡ None → IsSet li end_locals after → n ≤ 4294967295 → after li ≡ Some n
    → FitsOn call (length c.tops) v (block_start names x li lh c) (put x (arg.Word n) (carry names end_env env)) end_mem after
turn_again names x li lh n call v u c end_ env end_env mem end_mem locals end_locals after b end_fits agree like leaves free
    no_array set small at =
    let ended_turn = turn_ends names call v u c end_ env end_env mem end_mem locals end_locals b end_fits agree like leaves in
    block_starts names x li lh n call v c (carry names end_env env) end_mem after
    (turn_counts names call v c (carry names end_env env) end_mem li end_locals after ended_turn free set) free no_array small at

-- After the loop.

pub loop_leaves : (names : List Name) (call : Call) (v : ℕ → ℕ) (c end_ : Context) (env : Env) (mem : Bytes) (locals : Locals)
    → TurnBegins names call v c env mem locals
    → EndsLike names c end_ → IsConsistent end_ → take (length c.tops) end_.tops ≡ c.tops → end_.entries ≡ c.entries
    → FitsOn call (length c.tops) v (after_loop names end_ c) env mem locals
loop_leaves names call v c end_ env mem locals b like s tops entries =
    let w = or_nothing (length c.tops) v in
    let d = with_ends names (standing end_) (standing end_) (back_to c end_) in
    let rest : FitsRest (among names) call w d env mem locals =
    ends_rest (among names) names call v v w c d c env env env mem mem locals locals
    (ends_over names c end_ end_ b.consistent follow) (follow_self c.clauses) b.fits b.fits
    (λ s less. refl) (nothing_agrees (length c.tops) v) (nothing_below c end_.tops v tops b.fits.holds.1) hold in
    let r = settle_fits names c call w d env mem locals b.stood (apart_self names c b.consistent) rest in (
      r.0,
      agree_on (length c.tops) (length end_.tops) v w r.0 (taken_length c.tops end_.tops tops)
          (nothing_agrees (length c.tops) v) r.1,
      r.2,
    )
  where
    follow : EndsFollow names c end_ end_
    follow = record {
      follow_one = like.follow;
      follow_two = like.follow;
      once_one = params_once end_ s;
      once_two = params_once end_ s;
      names_once = λ i j k l at_i at_j differ. (s.clauses_apart i j k l at_i at_j differ).0;
      unlisted = λ i k l at_k at_l out. sym (like.named i k l at_k at_l);
      tops = tops;
      entries = entries;
    }

    hold : EndsHold names c (with_ends names (standing end_) (standing end_) (back_to c end_)) c env env env locals locals
    hold = record {
      arrays = λ i j l at_j at_l. (let e = ended names c end_ end_ follow i j at_j in
          ap (value_of env) (e.name ∙ like.named i l e.last at_l e.at_last));
      values = λ x h at out. refl;
      locals_kept = λ x h at out. refl;
    }
