-- A loop that writes to a listed array, from the start of a model.
use Rattle.std.proofs.Common.{◌≡◌, refl, sym, ◌∙◌, ap, subst, arith, ℕ, ◌+◌, ◌≤◌, Bool, true, false, List, [], length, Option}
use Rattle.std.proofs.Common.{Some, None, slice_get, option_map, if◌then◌else◌}
use Rattle.std.specs.List.{find}
use Rattle.rup_base.specs.declared.arg.Arg.TheVariants as arg
use Rattle.rv_memory.specs.Ranges.{Bytes}
use Rattle.side_certs.specs.LinearForm.{symbol}
use Rattle.model_syntax.specs.declared.expr.Scalar.{Scalar}
use Rattle.model_syntax.specs.declared.expr.Scalar.TheVariants.{Word}
use Rattle.model_syntax.specs.Environment.{Env, value_of, put}
use Rattle.model_syntax.specs.Names.{Name, same, listed}
use Rattle.model_syntax.specs.Value as value
use Rattle.model_syntax.proofs.laws.Bindings.{same_is, value_else}
use Rattle.sym_heap.specs.declared.parts.Held.{Held}
use Rattle.sym_heap.specs.declared.parts.Clause.{Clause}
use Rattle.sym_heap.specs.Context.{Context, scalar, own, is_clause, change_first, held, top_of, with_top, with_clause, written}
use Rattle.sym_heap.specs.Fits.{Call, Locals, call_of, IsConsistent, FitsBy}
use Rattle.sym_heap.specs.Arrival.{numbers_of}
use Rattle.sym_heap.specs.Start.{start}
use Rattle.sym_heap.specs.Moves.{Follow, local_of}
use Rattle.sym_heap.specs.Settle.{settle}
use Rattle.sym_heap.specs.Turns.{block_start, EndsLike, TurnLeaves}
use Rattle.sym_heap.specs.Writes.{IsWritten}
use Rattle.sym_heap.specs.Rehearsal.{GoesRound, LoopsRehearsed}
use Rattle.sym_heap.proofs.Fitting.{start_fits}
use Rattle.sym_heap.proofs.Named.{ChangedAt, here, there, changed_at}
use Rattle.sym_heap.proofs.Scoping.{start_is_scoped}
use Rattle.sym_heap.proofs.laws.Lookups.{clause_found, scalar_bound, name_of_clause, own_counted}
use Rattle.sym_heap.proofs.laws.Moves.{written_moves}
use Rattle.sym_heap.proofs.laws.Settling.{place_in}
use Rattle.sym_heap.proofs.laws.Turns.{first_turn, block_starts, turn_again, settled_self, target_self}
use Rattle.sym_heap.proofs.laws.Writes.{written_fits, counted_fits}

-- The context at the end of such a block.

local_at : (o p : Option Held) → place_in o ≡ place_in p → local_of o ≡ local_of p
local_at None None is = refl
local_at None (Some k) is = absurd (let bad : None ≡ Some (k.local, k.kind) = is in cc)
local_at (Some h) None is = absurd (let bad : Some (h.local, h.kind) ≡ None = is in cc)
local_at (Some h) (Some k) is =
    let both : Some (h.local, h.kind) ≡ Some (k.local, k.kind) = is in
    let pair : (h.local, h.kind) ≡ (k.local, k.kind) = cc in
    ap Some (ap (λ (q : ℕ × Scalar). q.0) pair)

kind_at : (h k : Held) → place_in (Some h) ≡ place_in (Some k) → h.kind ≡ k.kind
kind_at h k is =
    let both : Some (h.local, h.kind) ≡ Some (k.local, k.kind) = is in
    let pair : (h.local, h.kind) ≡ (k.local, k.kind) = cc in
    ap (λ (q : ℕ × Scalar). q.1) pair

-- the end of the block, in which an element of a was written
abbrev last_of : List Name → Name → Name → ℕ → ℕ → Context → Context
last_of names x a li lh c = with_clause a written (block_start names x li lh c)

own_begun : (names : List Name) (x : Name) (li lh : ℕ) (c : Context) (z : Name) → own (block_start names x li lh c) z ≡ own c z
own_begun names x li lh c z = ap (find (is_clause z)) (settled_self names c).clauses

other_name : (names : List Name) (x y : Name) → listed x names ≡ false → listed y names ≡ true → same x y ≡ false
other_name names x y out in_list = by (same x y) refl where
  by : (b : Bool) → same x y ≡ b → same x y ≡ false
  by true e = absurd (let bad : false ≡ true = sym out ∙ ap (λ z. listed z names) (same_is x y e) ∙ in_list in cc)
  by false e = e

-- a listed scalar has its place at the end
place_same : (names : List Name) (x a : Name) (li lh : ℕ) (c : Context) → listed x names ≡ false → (y : Name)
    → listed y names ≡ true
    → place_in (scalar (last_of names x a li lh c) y) ≡ place_in (scalar c y)
place_same names x a li lh c out y in_list =
    let settled_one = settle names c c in
    let apart : same x y ≡ false = other_name names x y out in_list in
    let new = held x li (symbol (length settled_one.tops)) Word in
    let found : scalar (last_of names x a li lh c) y ≡ (if same x y then Some new else scalar settled_one y) =
    scalar_bound (with_top (top_of Word) settled_one) new y in
    let same_scalar : scalar (last_of names x a li lh c) y ≡ scalar settled_one y = rw apart at found in
    ap place_in same_scalar ∙ (settled_self names c).places y ∙ ap place_in (target_self names c y)

named : (names : List Name) (x a : Name) (li lh : ℕ) (c : Context) (i : ℕ) (k l : Clause) → slice_get c.clauses i ≡ Some k
    → slice_get (last_of names x a li lh c).clauses i ≡ Some l → l.name ≡ k.name
named names x a li lh c i k l at_k at_l =
    by (changed_at name_of_clause a written c.clauses i l
    (ap (λ ks. slice_get (change_first (is_clause a) written ks) i) (sym (settled_self names c).clauses) ∙ at_l))
  where
    by : ChangedAt name_of_clause a written c.clauses i l → l.name ≡ k.name
    by (here y at named_y place is) =
        let both : Some y ≡ Some k = sym at ∙ at_k in
        let one : y ≡ k = cc in
        ap name_of_clause is ∙ ap name_of_clause one
    by (there at) =
        let both : Some l ≡ Some k = sym at ∙ at_k in
        let one : l ≡ k = cc in
        ap name_of_clause one

-- the clause of a has one more write, and the others are as before
abbrev Later : Name → Clause → Clause → Type 0
Later a k l = (same a k.name ≡ true → l ≡ written k) × (same a k.name ≡ false → l ≡ k)

later : (names : List Name) (x a : Name) (li lh : ℕ) (c : Context) → IsConsistent c → IsConsistent (last_of names x a li lh c)
    → (i : ℕ) (k l : Clause)
    → slice_get c.clauses i ≡ Some k → slice_get (last_of names x a li lh c).clauses i ≡ Some l → Later a k l
later names x a li lh c s t i k l at_k at_l = (one_more, as_before) where
  was : own (block_start names x li lh c) k.name ≡ Some k
  was = own_begun names x li lh c k.name ∙ clause_found c s i k at_k

  found : (if same a k.name then option_map written (own (block_start names x li lh c) k.name)
      else own (block_start names x li lh c) k.name) ≡ Some l
  found = sym (own_counted (block_start names x li lh c) a k.name)
      ∙ ap (own (last_of names x a li lh c)) (sym (named names x a li lh c i k l at_k at_l))
      ∙ clause_found (last_of names x a li lh c) t i l at_l

  one_more : same a k.name ≡ true → l ≡ written k
  one_more e =
      let at : option_map written (own (block_start names x li lh c) k.name) ≡ Some l = rw e at found in
      let both : Some (written k) ≡ Some l = sym (ap (option_map written) was) ∙ at in
      cc

  as_before : same a k.name ≡ false → l ≡ k
  as_before e =
      let at : own (block_start names x li lh c) k.name ≡ Some l = rw e at found in
      let both : Some k ≡ Some l = sym was ∙ at in
      cc

ends_like : (names : List Name) (x a : Name) (li lh : ℕ) (c : Context) → IsConsistent c → IsConsistent (last_of names x a li lh c)
    → listed x names ≡ false → listed a names ≡ true
    → EndsLike names c (last_of names x a li lh c)
ends_like names x a li lh c s t out in_list = record {
  places = λ y is. local_at (scalar (last_of names x a li lh c) y) (scalar c y) (place_same names x a li lh c out y is);
  kinds = λ y h l is at at_end. kind_at l h (sym (ap place_in at_end) ∙ place_same names x a li lh c out y is ∙ ap place_in at);
  follow = subst (λ (ks : List Clause). Follow c.clauses (change_first (is_clause a) written ks))
      (sym (settled_self names c).clauses) (written_moves c a).arrays;
  named = named names x a li lh c;
  counted = λ i k l at_k at_l unlisted.
      ap (λ (z : Clause). z.writes) ((later names x a li lh c s t i k l at_k at_l).1 (other k unlisted));
} where
  other : (k : Clause) → listed k.name names ≡ false → same a k.name ≡ false
  other k unlisted = by (same a k.name) refl where
    by : (b : Bool) → same a k.name ≡ b → same a k.name ≡ false
    by true e = absurd (let bad : true ≡ false = sym in_list ∙ ap (λ z. listed z names) (same_is a k.name e) ∙ unlisted in cc)
    by false e = e

-- The values at the end.

turn_leaves : (names : List Name) (x a : Name) (li lh n i m : ℕ) (k : Clause) (c : Context) (call : Call) (env end_env : Env)
    (mem end_mem : Bytes) (locals : Locals)
    → IsConsistent c → IsConsistent (last_of names x a li lh c) → own c x ≡ None
    → IsWritten call a k i m (put x (arg.Word n) env) end_env mem end_mem
    → TurnLeaves names c (last_of names x a li lh c) env end_env locals locals
turn_leaves names x a li lh n i m k c call env end_env mem end_mem locals s t no_array w = record {
  unwritten = λ j g l at_g at_l as_many. values g l (later names x a li lh c s t j g l at_g at_l) as_many j at_g (same a g.name)
      refl;
  locals_kept = λ y h at out. refl;
} where
  far : (j : ℕ) (g : Clause) → slice_get c.clauses j ≡ Some g → (b : Bool) → same x g.name ≡ b → same x g.name ≡ false
  far j g at true e = absurd (let bad : None ≡ Some g = sym no_array ∙ ap (own c) (same_is x g.name e) ∙ clause_found c s j g at
      in cc)
  far j g at false e = e

  values : (g l : Clause) → Later a g l → l.writes ≡ g.writes → (j : ℕ) → slice_get c.clauses j ≡ Some g → (b : Bool)
      → same a g.name ≡ b → value_of end_env l.name ≡ value_of env g.name
  values g l after as_many j at true e =
      let more : l.writes ≡ g.writes + 1 = ap (λ (z : Clause). z.writes) (after.0 e) in
      absurd (omega (arith, more, as_many))
  values g l after as_many j at false e =
      ap (λ (z : Clause). value_of end_env z.name) (after.1 e) ∙ w.values g.name e
      ∙ value_else x g.name (arg.Word n) env (far j g at (same x g.name) refl)

pub goes_round : (call : Call) (v : ℕ → ℕ) (c : Context) (env : Env) (mem : Bytes) (locals : Locals)
    → FitsBy call v c env mem locals → GoesRound call v c env mem locals
goes_round call v c env mem locals fits names x a li lh n i m k end_env end_mem after free no_array out at small is in_list w set
    next =
    let begins = first_turn names call v c env mem locals fits in
    let few : n ≤ 4294967295 = omega (arith, small) in
    let r = block_starts names x li lh n call v c env mem locals begins free no_array few at in
    let stays = written_fits call r.0 (block_start names x li lh c) a k i m (put x (arg.Word n) env) end_env mem end_mem locals
    r.2 (own_begun names x li lh c a ∙ is) w in
    let last = counted_fits call r.0 (block_start names x li lh c) a end_env end_mem locals stays in
    turn_again names x li lh (n + 1) call v r.0 c (last_of names x a li lh c) env end_env mem end_mem locals locals after begins
    last r.1
    (ends_like names x a li lh c fits.consistent last.consistent out in_list)
    (turn_leaves names x a li lh n i m k c call env end_env mem end_mem locals fits.consistent last.consistent no_array w) free
    no_array set small next

pub loops_rehearsed : LoopsRehearsed
loops_rehearsed m well scope declared args meets pointers mem locals stand apart =
    let start_of = start_fits m well args meets pointers mem locals stand apart in
    record {
      scoped = start_is_scoped m well scope declared;
      fits = start_of.0;
      held = start_of.1;
      round = goes_round (call_of m args pointers) (numbers_of (call_of m args pointers)) (start m) (value.start m.params args [])
          mem locals start_of.0;
    }
