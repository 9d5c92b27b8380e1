-- How the block of s-for begins: the context there, whatever state there is.
use Rattle.std.proofs.Common.{◌≡◌, ◌≢◌, refl, sym, ◌∙◌, ap, subst, arith, ℕ, suc, ◌≤◌, Bool, true, false, nat_eq, pos, negsuc}
use Rattle.std.proofs.Common.{List, [], ◌∷◌, ◌++◌, append_assoc, length, take, Option, Some, None, Ok, slice_get}
use Rattle.std.specs.Prelude.{is_some}
use Rattle.std.specs.List.{list_all}
use Rattle.std.proofs.lemmas.Bool.Decides.{nat_tests}
use Rattle.side_certs.specs.LinearForm.{LinearForm, symbol, constant, times, plus, is_within}
use Rattle.model_syntax.specs.declared.expr.Scalar.{Scalar}
use Rattle.model_syntax.specs.declared.expr.Scalar.TheVariants.{Word}
use Rattle.model_syntax.specs.declared.program.Param.{Param}
use Rattle.model_syntax.specs.declared.scope.NameType.TheVariants.{Scalar as One}
use Rattle.model_syntax.specs.declared.stmt.Le.{Le}
use Rattle.model_syntax.specs.Names.{Name, listed}
use Rattle.model_syntax.specs.Scope.{Scope, look_up, bind, scalar_may_take}
use Rattle.sym_heap.specs.declared.parts.Held.{Held}
use Rattle.sym_heap.specs.Context.{Context, scalar, has, held, is_free, leaves_free, has_room, top_of, with_top, with_fact}
use Rattle.sym_heap.specs.Context.{with_reserved}
use Rattle.sym_heap.specs.Fits.{Known, IsConsistent}
use Rattle.sym_heap.specs.Moves.{Moves, Began}
use Rattle.sym_heap.specs.Scoped.{IsScoped}
use Rattle.sym_heap.specs.Settle.{settle, target}
use Rattle.sym_heap.specs.Sides.{form_in, form_or_nothing}
use Rattle.sym_heap.specs.Start.{with_facts}
use Rattle.sym_heap.specs.Turns.{reserving, with_count, unlisted_locals, block_start}
use Rattle.sym_heap.proofs.laws.Extending.{longer, known_symbol, known_constant, known_plus, known_times, consistent_top}
use Rattle.sym_heap.proofs.laws.Extending.{consistent_fact}
use Rattle.sym_heap.proofs.laws.Lookups.{scalar_stands, scalar_found, name_of_scalar, names_differ}
use Rattle.sym_heap.proofs.laws.Moves.{take_all, take_front, take_on}
use Rattle.sym_heap.proofs.laws.Scopes.{fresh_scoped, bound_scoped}
use Rattle.sym_heap.proofs.laws.Settling.{place_in, IsSettled, TargetsApart, settle_static, settle_consistent}
use Rattle.sym_heap.proofs.laws.States.{known_of, known_more, free_reserved, free_scalars, leaves_none, taken_length}
use Rattle.sym_heap.proofs.laws.States.{bound_consistent}
use Rattle.sym_heap.proofs.laws.Turns.{settled_self}
use Rattle.expr_rules.specs.Sound.{AllKnown, Yields}
use Rattle.expr_rules.specs.Words.{◌>>=◌, Rule, fresh, fact, sum_of}
use Rattle.expr_rules.proofs.laws.Yields.{yields_then, yields_fresh, yields_fact, yields_more}
use Rattle.stmt_rules.specs.declared.loops.Counter.{Counter}
use Rattle.stmt_rules.specs.Nesting.{all_kept, all_renewed, placed}
use Rattle.stmt_rules.specs.rules.For.{begins, from_low, below_high, loop_reserved}
use Rattle.stmt_rules.proofs.sound.Begun.{facts_consistent, more_reserved}
use Rattle.stmt_rules.proofs.sound.Joined.{forms_of, all_kept_are, all_renewed_are}
use Rattle.stmt_rules.proofs.sound.Kept.{forms_known}

-- Listed scalars that settle where they stand.

-- of a context in which the scalars stand as in c, every name is placed as it was
pub settles_places : (names : List Name) (c d : Context) → d.scalars ≡ c.scalars → (x : Name)
    → place_in (scalar (settle names c d) x) ≡ place_in (scalar c x)
settles_places names c d stood x = s.places x ∙ ap place_in (by (listed x names) refl) where
  as_in : (y : Name) → scalar d y ≡ scalar c y
  as_in y = ap (λ hs. scalar (record c { scalars = hs }) y) stood

  s : IsSettled names c d (settle names c d)
  s = settle_static names c d (λ y in_list gone. as_in y ∙ gone)

  by : (b : Bool) → listed x names ≡ b → target names c d x ≡ scalar c x
  by true e = rw e refl
  by false e = rw e (as_in x)

pub settles_apart : (names : List Name) (c d : Context) → IsConsistent c → d.scalars ≡ c.scalars → TargetsApart names c d
settles_apart names c d s stood x y h k at_x at_y differ is =
    let one = scalar_stands c x h (sym (self x) ∙ at_x) in
    let two = scalar_stands c y k (sym (self y) ∙ at_y) in
    (s.scalars_apart one.place two.place h k one.at two.at (λ place.
    let both : Some h ≡ Some k = sym one.at ∙ ap (slice_get c.scalars) place ∙ two.at in
    let one_scalar : h ≡ k = cc in
    names_differ x y differ (sym one.named ∙ ap name_of_scalar one_scalar ∙ two.named))).1 is
  where
    self : (z : Name) → target names c d z ≡ scalar c z
    self z = by (listed z names) refl where
      by : (b : Bool) → listed z names ≡ b → target names c d z ≡ scalar c z
      by true e = rw e refl
      by false e = rw e (ap (λ hs. scalar (record c { scalars = hs }) z) stood)

-- a scalar after has local and type of before
pub record Placed (c : Context) (x : Name) (h : Held) : Type 0 where
  pub before : Held
  pub at : scalar c x ≡ Some before
  pub local : h.local ≡ before.local
  pub kind : h.kind ≡ before.kind

pub placed_of : (c : Context) (x : Name) (o : Option Held) (h : Held) → o ≡ Some h → place_in o ≡ place_in (scalar c x)
    → Placed c x h
placed_of c x o h at places = by (scalar c x) refl where
  by : (p : Option Held) → scalar c x ≡ p → Placed c x h
  by None e = absurd (let bad : Some (h.local, h.kind) ≡ None = sym (ap place_in at) ∙ places ∙ ap place_in e in cc)
  by (Some k) e =
      let both : Some (h.local, h.kind) ≡ Some (k.local, k.kind) = sym (ap place_in at) ∙ places ∙ ap place_in e in
      let pair : (h.local, h.kind) ≡ (k.local, k.kind) = cc in
      record { before = k; at = e; local = ap (λ (q : ℕ × Scalar). q.0) pair; kind = ap (λ (q : ℕ × Scalar). q.1) pair }

pub there_too : (o p : Option Held) → place_in o ≡ place_in p → is_some p ≡ true → is_some o ≡ true
there_too None None is there = there
there_too (Some h) p is there = refl
there_too None (Some h) is there = absurd (let bad : None ≡ Some (h.local, h.kind) = is in cc)

pub settles_scoped : (ps : List Param) (scope : Scope) (names : List Name) (c d : Context) → IsConsistent (settle names c d)
    → d.scalars ≡ c.scalars → IsScoped ps scope d
    → IsScoped ps scope (settle names c d)
settles_scoped ps scope names c d good stood scoped = record {
  scalars = λ i h at. scalar_type i h at;
  every_scalar = λ x t at. there_too (scalar (settle names c d) x) (scalar d x) (places x) (scoped.every_scalar x t at);
  clauses = λ i k at. scoped.clauses i k (ap (λ ks. slice_get ks i) (sym s.clauses) ∙ at);
  scalars_once = λ i j h k at_i at_j differ. (good.scalars_apart i j h k at_i at_j differ).0;
  clauses_once = λ i j k l at_i at_j differ. (good.clauses_apart i j k l at_i at_j differ).0;
  entries = s.entries ∙ scoped.entries;
  few = subst (λ (n : ℕ). n ≤ 8) (sym s.entries) scoped.few;
} where
  as_in : (y : Name) → scalar d y ≡ scalar c y
  as_in y = ap (λ hs. scalar (record c { scalars = hs }) y) stood

  s : IsSettled names c d (settle names c d)
  s = settle_static names c d (λ y in_list gone. as_in y ∙ gone)

  places : (x : Name) → place_in (scalar (settle names c d) x) ≡ place_in (scalar d x)
  places x = settles_places names c d stood x ∙ ap place_in (sym (as_in x))

  scalar_type : (i : ℕ) (h : Held) → slice_get (settle names c d).scalars i ≡ Some h → look_up scope h.name ≡ Some (One h.kind)
  scalar_type i h at =
      let was = placed_of d h.name (scalar (settle names c d) h.name) h (scalar_found (settle names c d) good i h at)
      (places h.name) in
      let stands = scalar_stands d h.name was.before was.at in
      ap (look_up scope) (sym stands.named) ∙ scoped.scalars stands.place was.before stands.at
      ∙ ap (λ (t : Scalar). Some (One t)) (sym was.kind)

-- a context whose scalars, clauses and entries are those of another says of names what that does
pub scoped_as : (ps : List Param) (scope : Scope) (c : Context) (facts : List LinearForm) (tops reserved : List ℕ)
    → IsScoped ps scope c
    → IsScoped ps scope (record c { facts = facts; tops = tops; reserved = reserved })
scoped_as ps scope c facts tops reserved s = record {
  scalars = s.scalars;
  every_scalar = s.every_scalar;
  clauses = s.clauses;
  scalars_once = s.scalars_once;
  clauses_once = s.clauses_once;
  entries = s.entries;
  few = s.few;
}

-- with further reserved locals it stays consistent
pub reserving_consistent : (c : Context) (ls : List ℕ) → IsConsistent c → IsConsistent (reserving ls c)
reserving_consistent c ls s = record {
  entries_known = s.entries_known;
  scalars_known = s.scalars_known;
  lengths_known = s.lengths_known;
  facts_known = s.facts_known;
  scalars_apart = s.scalars_apart;
  clauses_apart = s.clauses_apart;
  pointers_reserved = λ i k at. more_reserved k.pointer c.reserved ls (s.pointers_reserved i k at);
  lengths_reserved = λ i k l at is. more_reserved l c.reserved ls (s.lengths_reserved i k l at is);
}

all_of : {A : Type 0} (test : A → Bool) (xs : List A) → ((i : ℕ) (x : A) → slice_get xs i ≡ Some x → test x ≡ true)
    → list_all test xs ≡ true
all_of test [] each = refl
all_of test (x ∷ xs) each = rw (each 0 x refl) (all_of test xs (λ i y at. each (suc i) y at))

fact_is : (at : ℕ) (f : LinearForm) (c : Context) → Yields (λ _ d. d ≡ with_fact f c) (fact at f c)
fact_is at f c = within_is (is_within f) refl where
  room : (b : Bool) → has_room c ≡ b → is_within f ≡ true → Yields (λ _ d. d ≡ with_fact f c) (fact at f c)
  room true e within = rw (within, e) refl
  room false e within = rw (within, e) tt

  within_is : (b : Bool) → is_within f ≡ b → Yields (λ _ d. d ≡ with_fact f c) (fact at f c)
  within_is true e = room (has_room c) refl e
  within_is false e = rw e tt

-- The start.

module _ (x : Name) (names : List Name) (keep : List Le) (k : Counter) (low high : LinearForm) (c : Context) where
  -- each listed scalar has settled
  abbrev pub listed_new : Context
  listed_new = settle names c c

  -- the symbol of x
  abbrev pub count_symbol : LinearForm
  count_symbol = symbol (length listed_new.tops)

  abbrev pub bare_start : Context
  bare_start = block_start names x k.count k.last c

  -- with the facts
  abbrev pub begun_loop : Context
  begun_loop = with_fact (below_high count_symbol high)
      (with_fact (from_low count_symbol low) (with_facts (forms_of (form_in bare_start.scalars) keep) bare_start))

  reserved_is : with_reserved k.last
      (with_reserved k.count (reserving (unlisted_locals names c.scalars) (with_count x k.count listed_new))) ≡ bare_start
  reserved_is =
      let us = unlisted_locals names c.scalars in
      let r = (with_count x k.count listed_new).reserved in
      let shape : r ++ us ++ k.count ∷ [] ++ k.last ∷ [] ≡ r ++ (us ++ k.count ∷ k.last ∷ []) =
      append_assoc (r ++ us) (k.count ∷ []) (k.last ∷ []) ∙ append_assoc r us (k.count ∷ k.last ∷ []) in
      ap (λ (l : List ℕ). record (with_count x k.count listed_new) { reserved = l }) shape

  abbrev Is : Unit {0} → Context → Type 0
  Is u d = d ≡ begun_loop

  with_the_facts : (at : ℕ) (d : Context) → d ≡ bare_start
      → Yields Is ((all_kept at keep
      >>= (λ _. fact at (from_low count_symbol low) >>= (λ _. fact at (below_high count_symbol high)))) d)
  with_the_facts at d is = subst
      (λ (z : Context). Yields Is ((all_kept at keep
      >>= (λ _. fact at (from_low count_symbol low) >>= (λ _. fact at (below_high count_symbol high)))) z)) (sym is)
      (yields_then Is bare_start (λ _ e. e ≡ kept) (all_kept at keep)
      (λ _. fact at (from_low count_symbol low) >>= (λ _. fact at (below_high count_symbol high)))
      (all_kept_are at keep bare_start)
      (λ u e e_is. subst (λ (z : Context).
      Yields Is ((fact at (from_low count_symbol low) >>= (λ _. fact at (below_high count_symbol high))) z)) (sym e_is)
      (yields_fact Is kept at (from_low count_symbol low) (λ _. fact at (below_high count_symbol high))
      (last_fact (with_fact (from_low count_symbol low) kept) refl))))
    where
      kept : Context
      kept = with_facts (forms_of (form_in bare_start.scalars) keep) bare_start

      last_fact : (e : Context) → e ≡ with_fact (from_low count_symbol low) kept
          → Yields Is (fact at (below_high count_symbol high) e)
      last_fact e e_is =
          yields_more (λ _ d. d ≡ with_fact (below_high count_symbol high) e) Is
          (λ u d d_is. d_is ∙ ap (with_fact (below_high count_symbol high)) e_is)
          (fact at (below_high count_symbol high) e) (fact_is at (below_high count_symbol high) e)

  pub begins_are : (at : ℕ) → Yields Is (begins at x names keep k low high c.scalars c)
  begins_are at =
      yields_then Is c (λ _ d. d ≡ listed_new) (all_renewed at names c.scalars) rest (all_renewed_are at names c c)
      (λ u d is. subst (λ (z : Context). Yields Is (rest u z)) (sym is)
      (yields_fresh Is listed_new at (top_of Word)
      (λ s. placed x k.count s Word >>= (λ _. loop_reserved names k c.scalars >>= facts s))
      (with_the_facts at (with_reserved k.last
      (with_reserved k.count (reserving (unlisted_locals names c.scalars) (with_count x k.count listed_new)))) reserved_is)))
    where
      facts : LinearForm → Unit {0} → Rule (Unit {0})
      facts s u = all_kept at keep >>= (λ _. fact at (from_low s low) >>= (λ _. fact at (below_high s high)))

      rest : Unit {0} → Rule (Unit {0})
      rest u = fresh at (top_of Word) >>= (λ s. placed x k.count s Word >>= (λ _. loop_reserved names k c.scalars >>= facts s))

  -- a local that is free before is free for x where the listed scalars have settled
  free_new : IsConsistent listed_new → (l : ℕ) → is_free c l None ≡ true → is_free listed_new l (Some x) ≡ true
  free_new good l free =
      let unreserved : has l listed_new.reserved
      ≡ false = ap (has l) (settled_self names c).reserved ∙ free_reserved c l None free in
      rw unreserved (all_of (leaves_free l (Some x)) listed_new.scalars (λ i h at. leaves i h at (nat_eq h.local l) refl))
    where
      other : (i : ℕ) (h : Held) → slice_get listed_new.scalars i ≡ Some h → h.local ≢ l
      other i h at is =
          let was = placed_of c h.name (scalar listed_new h.name) h (scalar_found listed_new good i h at)
          (settles_places names c c refl h.name) in
          let p = scalar_stands c h.name was.before was.at in
          leaves_none l was.before (free_scalars c l None free p.place was.before p.at) (sym was.local ∙ is)

      leaves : (i : ℕ) (h : Held) → slice_get listed_new.scalars i ≡ Some h → (b : Bool) → nat_eq h.local l ≡ b
          → leaves_free l (Some x) h ≡ true
      leaves i h at false e = rw e refl
      leaves i h at true e = absurd (other i h at (grind (arith, nat_tests, e)))

  more_symbols : length c.tops ≤ length begun_loop.tops
  more_symbols =
      let one = taken_length c.tops listed_new.tops (settled_self names c).tops in
      let two = longer listed_new.tops (top_of Word) in
      omega (arith, one, two)

  pub sum_known : (n : ℕ) (f g : LinearForm) → Known n f → Known n g → Known n (sum_of (pos 0) ((pos 1, f) ∷ (negsuc 0, g) ∷ []))
      × Known n (sum_of (negsuc 0) ((pos 1, g) ∷ (negsuc 0, f) ∷ []))
  sum_known n f g one two = (
    known_plus n (times (pos 1) f) (plus (times (negsuc 0) g) (constant (pos 0))) (known_times n (pos 1) f one)
        (known_plus n (times (negsuc 0) g) (constant (pos 0)) (known_times n (negsuc 0) g two) (known_constant n (pos 0))),
    known_plus n (times (pos 1) g) (plus (times (negsuc 0) f) (constant (negsuc 0))) (known_times n (pos 1) g two)
        (known_plus n (times (negsuc 0) f) (constant (negsuc 0)) (known_times n (negsuc 0) f one) (known_constant n (negsuc 0))),
  )

  pub symbol_known : Known (length begun_loop.tops) count_symbol
  symbol_known = let two = longer listed_new.tops (top_of Word) in
      known_symbol (length begun_loop.tops) (length listed_new.tops) (omega (arith, two))

  module _ (good : IsConsistent c) (low_known : Known (length c.tops) low) (high_known : Known (length c.tops) high)
      (free : is_free c k.count None ≡ true) where
    listed_good : IsConsistent listed_new
    listed_good = settle_consistent names c c (known_of c good) (λ y in_list gone. gone) (settles_apart names c c good refl)

    pub bare_good : IsConsistent bare_start
    bare_good =
        let symbols : length (listed_new.tops ++ top_of Word ∷ [])
        ≡ suc (length listed_new.tops) = longer listed_new.tops (top_of Word) in
        reserving_consistent (with_count x k.count listed_new) (unlisted_locals names c.scalars ++ k.count ∷ k.last ∷ [])
        (bound_consistent (with_top (top_of Word) listed_new) (held x k.count count_symbol Word)
        (known_symbol (length (listed_new.tops ++ top_of Word ∷ [])) (length listed_new.tops) (omega (arith, symbols)))
        (free_new listed_good k.count free) (consistent_top listed_new (top_of Word) listed_good))

    pub kept_known : AllKnown (length bare_start.tops) (forms_of (form_in bare_start.scalars) keep)
    kept_known = forms_known (length bare_start.tops) (form_in bare_start.scalars) (λ y. by y (scalar bare_start y) refl) keep
      where
        by : (y : Name) (o : Option Held) → scalar bare_start y ≡ o
            → Known (length bare_start.tops) (form_or_nothing (scalar bare_start y))
        by y None at = rw at (known_constant (length bare_start.tops) (pos 0))
        by y (Some h) at = rw at (let p = scalar_stands bare_start y h at in bare_good.scalars_known p.place h p.at)

    pub low_known_there : Known (length begun_loop.tops) low
    low_known_there = known_more (length c.tops) (length begun_loop.tops) low more_symbols low_known

    pub high_known_there : Known (length begun_loop.tops) high
    high_known_there = known_more (length c.tops) (length begun_loop.tops) high more_symbols high_known

    pub begun_good : IsConsistent begun_loop
    begun_good =
        let kept = with_facts (forms_of (form_in bare_start.scalars) keep) bare_start in
        let from_known : Known (length begun_loop.tops) (from_low count_symbol low) =
        (sum_known (length begun_loop.tops) count_symbol low symbol_known low_known_there).0 in
        consistent_fact (with_fact (from_low count_symbol low) kept) (below_high count_symbol high)
        (sum_known (length begun_loop.tops) count_symbol high symbol_known high_known_there).1
        (consistent_fact kept (from_low count_symbol low) from_known
        (facts_consistent (forms_of (form_in bare_start.scalars) keep) bare_start kept_known bare_good))

    pub begun_scoped : (ps : List Param) (scope : Scope) → scalar_may_take (look_up scope x) ≡ Ok tt → IsScoped ps scope c
        → IsScoped ps (bind x (One Word) scope) begun_loop
    begun_scoped ps scope may scoped =
        scoped_as ps (bind x (One Word) scope) (with_count x k.count listed_new) begun_loop.facts begun_loop.tops
        begun_loop.reserved
        (bound_scoped ps scope (with_top (top_of Word) listed_new) (held x k.count count_symbol Word) may
        (fresh_scoped ps scope listed_new (top_of Word) (settles_scoped ps scope names c c listed_good refl scoped)))

  -- what the block makes of its start is the beginning of the way back
  pub loop_began : (end_ : Context) → Moves begun_loop end_ → Began c end_
  loop_began end_ m = record {
    reserved = rw m.reserved (take_on c.reserved listed_new.reserved begun_loop.reserved
        (front c.reserved listed_new.reserved s.reserved)
        (take_front listed_new.reserved (unlisted_locals names c.scalars ++ k.count ∷ k.last ∷ [])));
    facts = take_on c.facts begun_loop.facts end_.facts facts_front m.facts;
    tops = take_on c.tops begun_loop.tops end_.tops
        (take_on c.tops listed_new.tops begun_loop.tops s.tops (take_front listed_new.tops (top_of Word ∷ []))) m.tops;
    entries = m.entries ∙ s.entries;
  } where
    s : IsSettled names c c listed_new
    s = settled_self names c

    front : {A : Type 0} (xs ys : List A) → ys ≡ xs → take (length xs) ys ≡ xs
    front xs ys is = rw is (take_all xs)

    facts_front : take (length c.facts) begun_loop.facts ≡ c.facts
    facts_front =
        let fs = forms_of (form_in bare_start.scalars) keep in
        let one = listed_new.facts ++ fs in
        let two = one ++ from_low count_symbol low ∷ [] in
        take_on c.facts listed_new.facts begun_loop.facts (front c.facts listed_new.facts s.facts)
        (take_on listed_new.facts one begun_loop.facts (take_front listed_new.facts fs)
        (take_on one two begun_loop.facts (take_front one (from_low count_symbol low ∷ []))
        (take_front two (below_high count_symbol high ∷ []))))
