-- The arguments, one parameter after another: what the context says of them is so.
use Rattle.std.proofs.Common.{◌≡◌, ◌≢◌, refl, sym, ◌∙◌, ap, subst, arith, ℕ, zero, suc, ◌+◌, ◌<◌, ◌≤◌, ◌⊎◌, inl, inr, Bool, true}
use Rattle.std.proofs.Common.{false, List, [], ◌∷◌, ◌++◌, length, Option, Some, None, slice_get, length-append}
use Rattle.std.proofs.lemmas.Int.{ints}
use Rattle.std.proofs.lemmas.Slice.Eq.{bytes_eq-Decides as bytes_decides}
use Rattle.rup_base.specs.declared.arg.Arg.{Arg}
use Rattle.rup_base.specs.declared.arg.Arg.TheVariants as arg
use Rattle.side_certs.specs.LinearForm.{LinearForm, symbol}
use Rattle.model_syntax.specs.declared.expr.Scalar.{Scalar}
use Rattle.model_syntax.specs.declared.scope.NameType.{NameType}
use Rattle.model_syntax.specs.Environment.{Env, value_of, put}
use Rattle.model_syntax.specs.Names.{Name, same}
use Rattle.model_syntax.specs.Scope.{Scope, look_up, bind}
use Rattle.sym_heap.specs.declared.parts.Held.{Held}
use Rattle.sym_heap.specs.declared.parts.Clause.{Clause}
use Rattle.sym_heap.specs.Context.{Context, held, top_of, with_reserved}
use Rattle.rv_memory.specs.Ranges.{Bytes}
use Rattle.sym_heap.specs.Fits.{Locals, Call, Known, ScalarFits, ClauseFits}
use Rattle.sym_heap.specs.Start.{next_local, with_argument, clause, with_pointer}
use Rattle.sym_heap.proofs.Formed.{look_bound}
use Rattle.sym_heap.proofs.Starting.{after_argument, after_pointer}

-- an element of a list with one more at its end
pub at_end : {A : Type 0} (xs : List A) (y : A) (i : ℕ) (h : A) → slice_get (xs ++ y ∷ []) i ≡ Some h
    → (slice_get xs i ≡ Some h) ⊎ ((i ≡ length xs) × (y ≡ h))
at_end [] y zero h is = inr (refl, cc)
at_end [] y (suc i) h is = absurd (let bad : None ≡ Some h = is in cc)
at_end (x ∷ xs) y zero h is = inl is
at_end (x ∷ xs) y (suc i) h is = by (at_end xs y i h is) where
  by : (slice_get xs i ≡ Some h) ⊎ ((i ≡ length xs) × (y ≡ h)) → (slice_get xs i ≡ Some h) ⊎ ((suc i ≡ suc (length xs)) × (y ≡ h))
  by (inl before) = inl before
  by (inr last) = inr (ap suc last.0, last.1)

-- Names.

differs : (x y : Name) → (x ≡ y → ⊥) → same x y ≡ false
differs x y apart = by (same x y) refl where
  by : (b : Bool) → same x y ≡ b → same x y ≡ false
  by true e = absurd (apart ((bytes_decides x y).0 e))
  by false e = e

value_here : (x : Name) (v : Arg) (env : Env) → value_of (put x v env) x ≡ Some v
value_here x v [] = rw ((bytes_decides x x).1 refl) refl
value_here x v (b ∷ bs) = by (same b.name x) refl (value_here x v bs) where
  by : (is : Bool) → same b.name x ≡ is → value_of (put x v bs) x ≡ Some v → value_of (put x v (b ∷ bs)) x ≡ Some v
  by true is more = rw is (rw ((bytes_decides x x).1 refl) refl)
  by false is more = rw is (rw is more)

value_else : (x y : Name) (v : Arg) (env : Env) → (x ≡ y → ⊥) → value_of (put x v env) y ≡ value_of env y
value_else x y v [] apart = rw (differs x y apart) refl
value_else x y v (b ∷ bs) apart = by (same b.name x) refl (same b.name y) refl (value_else x y v bs apart) where
  by : (is : Bool) → same b.name x ≡ is → (of : Bool) → same b.name y ≡ of → value_of (put x v bs) y ≡ value_of bs y
      → value_of (put x v (b ∷ bs)) y ≡ value_of (b ∷ bs) y
  by true is true at more = absurd (apart (sym ((bytes_decides b.name x).0 is) ∙ (bytes_decides b.name y).0 at))
  by true is false at more = rw is (rw (differs x y apart, at) refl)
  by false is true at more = rw is (rw at refl)
  by false is false at more = rw is (rw at more)

abbrev pub InScope : Scope → Name → Type 0
InScope scope x = look_up scope x ≡ None → ⊥

still : (x : Name) (t : NameType) (scope : Scope) (y : Name) → InScope scope y → InScope (bind x t scope) y
still x t scope y known gone = by (same x y) refl where
  by : (b : Bool) → same x y ≡ b → ⊥
  by true e = let bad : Some t ≡ None = sym (look_bound x t scope y ∙ rw e refl) ∙ gone in cc
  by false e = known (sym (look_bound x t scope y ∙ rw e refl) ∙ gone)

now_known : (x : Name) (t : NameType) (scope : Scope) → InScope (bind x t scope) x
now_known x t scope gone = let bad : Some t ≡ None = sym (look_bound x t scope x ∙ rw ((bytes_decides x x).1 refl) refl) ∙ gone in
    cc

new_name : (scope : Scope) (x y : Name) → look_up scope x ≡ None → InScope scope y → x ≡ y → ⊥
new_name scope x y new known is = known (ap (λ z. look_up scope z) (sym is) ∙ new)

module _ (args : List Arg) (call : Call) (mem : Bytes) (locals : Locals) (numbers : ℕ → ℕ) where
  pub record ScalarIn (scope : Scope) (env : Env) (most i : ℕ) (h : Held) : Type 0 where
    pub form : h.form ≡ symbol i
    pub local : h.local < most
    pub known : InScope scope h.name
    pub fits : ScalarFits numbers h (value_of env h.name) locals

  pub record ClauseIn (scope : Scope) (env : Env) (p : ℕ) (k : Clause) : Type 0 where
    pub length_known : Known (length call.entries) k.length
    pub param : k.param < p
    pub known : InScope scope k.name
    pub fits : ClauseFits call numbers k (value_of env k.name) mem locals
    pub given : value_of env k.name ≡ slice_get args k.param

  abbrev pub ScalarsApart : List Held → Type 0
  ScalarsApart hs = (i j : ℕ) (h k : Held) → slice_get hs i ≡ Some h → slice_get hs j ≡ Some k → i ≢ j
      → (same h.name k.name ≡ false) × (h.local ≢ k.local)

  abbrev pub ClausesApart : List Clause → Type 0
  ClausesApart ks = (i j : ℕ) (k l : Clause) → slice_get ks i ≡ Some k → slice_get ks j ≡ Some l → i ≢ j
      → (same k.name l.name ≡ false) × (k.param ≢ l.param)

  -- the context of the first parameters, the next of which has the number p
  pub record Arrived (scope : Scope) (c : Context) (env : Env) (p : ℕ) : Type 0 where
    pub scalars : (i : ℕ) (h : Held) → slice_get c.scalars i ≡ Some h → ScalarIn scope env (next_local c) i h
    pub scalars_apart : ScalarsApart c.scalars
    pub clauses : (i : ℕ) (k : Clause) → slice_get c.clauses i ≡ Some k → ClauseIn scope env p k
    pub clauses_apart : ClausesApart c.clauses
    pub tops : length c.tops ≡ length c.scalars
    pub below : (s top : ℕ) → slice_get c.tops s ≡ Some top → numbers s ≤ top

  scalar_stays : (scope : Scope) (env : Env) (most more i : ℕ) (h : Held) (x : Name) (t : NameType) (v : Arg)
      → look_up scope x ≡ None → most ≤ more
      → ScalarIn scope env most i h → ScalarIn (bind x t scope) (put x v env) more i h
  scalar_stays scope env most more i h x t v new le s = record {
    form = s.form;
    local = (let a = s.local in omega (arith, a, le));
    known = still x t scope h.name s.known;
    fits = subst (λ (f : Option Arg). ScalarFits numbers h f locals)
        (sym (value_else x h.name v env (new_name scope x h.name new s.known))) s.fits;
  }

  clause_stays : (scope : Scope) (env : Env) (p q : ℕ) (k : Clause) (x : Name) (t : NameType) (v : Arg) → look_up scope x ≡ None
      → p ≤ q
      → ClauseIn scope env p k → ClauseIn (bind x t scope) (put x v env) q k
  clause_stays scope env p q k x t v new le s = record {
    length_known = s.length_known;
    param = (let a = s.param in omega (arith, a, le));
    known = still x t scope k.name s.known;
    fits = subst (λ (f : Option Arg). ClauseFits call numbers k f mem locals)
        (sym (value_else x k.name v env (new_name scope x k.name new s.known))) s.fits;
    given = value_else x k.name v env (new_name scope x k.name new s.known) ∙ s.given;
  }

  -- a number in the next local
  pub argument_arrived : (scope : Scope) (c : Context) (env : Env) (p : ℕ) (x : Name) (t : Scalar) (shape : NameType) (n : ℕ)
      → Arrived scope c env p → look_up scope x ≡ None
      → numbers (length c.scalars) ≡ n → n ≤ top_of t → locals (next_local c) ≡ Some n
      → Arrived (bind x shape scope) (with_argument x t c) (put x (arg.Word n) env) p
  argument_arrived scope c env p x t shape n a new number small local = record {
    scalars = λ i h at. in_scalars i h (at_end c.scalars new_one i h at);
    scalars_apart = λ i j h k at_i at_j differ. apart i j h k (at_end c.scalars new_one i h at_i)
        (at_end c.scalars new_one j k at_j) differ;
    clauses = λ i k at. clause_stays scope env p p k x shape (arg.Word n) new (omega arith) (a.clauses i k at);
    clauses_apart = a.clauses_apart;
    tops = (let one = a.tops in omega (arith, one, length-append c.tops (top_of t ∷ []), length-append c.scalars (new_one ∷ [])));
    below = λ s top at. in_tops s top (at_end c.tops (top_of t) s top at);
  } where
    new_one : Held
    new_one = held x (next_local c) (symbol (length c.scalars)) t

    fits : ScalarFits numbers new_one (value_of (put x (arg.Word n) env) x) locals
    fits = record {
      number = n;
      value = value_here x (arg.Word n) env;
      kind = small;
      form = rw number (omega (arith, ints));
      local = local;
    }

    last : ScalarIn (bind x shape scope) (put x (arg.Word n) env) (next_local (with_argument x t c)) (length c.scalars) new_one
    last = record {
      form = refl;
      local = (let more = after_argument x t c in omega (arith, more));
      known = now_known x shape scope;
      fits = fits;
    }

    in_scalars : (i : ℕ) (h : Held) → (slice_get c.scalars i ≡ Some h) ⊎ ((i ≡ length c.scalars) × (new_one ≡ h))
        → ScalarIn (bind x shape scope) (put x (arg.Word n) env) (next_local (with_argument x t c)) i h
    in_scalars i h (inl before) = scalar_stays scope env (next_local c) _ i h x shape (arg.Word n) new
        (let more = after_argument x t c in omega (arith, more)) (a.scalars i h before)
    in_scalars i h (inr at) = subst
        (λ (g : Held). ScalarIn (bind x shape scope) (put x (arg.Word n) env) (next_local (with_argument x t c)) i g) at.1
        (subst (λ (j : ℕ). ScalarIn (bind x shape scope) (put x (arg.Word n) env) (next_local (with_argument x t c)) j new_one)
        (sym at.0) last)

    other : (i : ℕ) (h : Held) → slice_get c.scalars i ≡ Some h → (same h.name x ≡ false) × (same x h.name ≡ false)
        × (h.local ≢ next_local c)
    other i h at =
        let s = a.scalars i h at in (
          differs h.name x (λ e. new_name scope x h.name new s.known (sym e)),
          differs x h.name
              (new_name scope x h.name new s.known),
          (λ e. let less = s.local in omega (arith, less, e)),
        )

    apart : (i j : ℕ) (h k : Held) → (slice_get c.scalars i ≡ Some h) ⊎ ((i ≡ length c.scalars) × (new_one ≡ h))
        → (slice_get c.scalars j ≡ Some k) ⊎ ((j ≡ length c.scalars) × (new_one ≡ k))
        → i ≢ j → (same h.name k.name ≡ false) × (h.local ≢ k.local)
    apart i j h k (inl at_i) (inl at_j) differ = a.scalars_apart i j h k at_i at_j differ
    apart i j h k (inl at_i) (inr at_j) differ = let o = other i h at_i in
        subst (λ (g : Held). (same h.name g.name ≡ false) × (h.local ≢ g.local)) at_j.1 (o.0, o.2)
    apart i j h k (inr at_i) (inl at_j) differ = let o = other j k at_j in
        subst (λ (g : Held). (same g.name k.name ≡ false) × (g.local ≢ k.local)) at_i.1 (o.1, (λ e. o.2 (sym e)))
    apart i j h k (inr at_i) (inr at_j) differ = absurd (differ (at_i.0 ∙ sym at_j.0))

    in_tops : (s top : ℕ) → (slice_get c.tops s ≡ Some top) ⊎ ((s ≡ length c.tops) × (top_of t ≡ top)) → numbers s ≤ top
    in_tops s top (inl before) = a.below s top before
    in_tops s top (inr at) = (let number_is : numbers s ≡ n = ap numbers (at.0 ∙ a.tops) ∙ number in let top_is = at.1 in
        omega (arith, number_is, small, top_is))

  -- a pointer in the next local
  pub pointer_arrived : (scope : Scope) (c : Context) (env : Env) (p : ℕ) (a : Name) (size : ℕ) (f : LinearForm) (l : Option ℕ)
      (shape : NameType) (v : Arg) → Arrived scope c env p → look_up scope a ≡ None
      → Known (length call.entries) f → ClauseFits call numbers (clause a p size (next_local c) f l) (Some v) mem locals
      → slice_get args p ≡ Some v → Arrived (bind a shape scope) (with_pointer p a size f l c) (put a v env) (p + 1)
  pointer_arrived scope c env p a size f l shape v arrived new known fits given = record {
    scalars = λ i h at. scalar_stays scope env (next_local c) _ i h a shape v new
        (let more = after_pointer p a size f l c in omega (arith, more)) (arrived.scalars i h at);
    scalars_apart = arrived.scalars_apart;
    clauses = λ i k at. in_clauses i k (at_end c.clauses new_one i k at);
    clauses_apart = λ i j k o at_i at_j differ. apart i j k o (at_end c.clauses new_one i k at_i)
        (at_end c.clauses new_one j o at_j) differ;
    tops = arrived.tops;
    below = arrived.below;
  } where
    new_one : Clause
    new_one = clause a p size (next_local c) f l

    last : ClauseIn (bind a shape scope) (put a v env) (p + 1) new_one
    last = record {
      length_known = known;
      param = omega arith;
      known = now_known a shape scope;
      fits = subst (λ (found : Option Arg). ClauseFits call numbers new_one found mem locals) (sym (value_here a v env)) fits;
      given = value_here a v env ∙ sym given;
    }

    in_clauses : (i : ℕ) (k : Clause) → (slice_get c.clauses i ≡ Some k) ⊎ ((i ≡ length c.clauses) × (new_one ≡ k))
        → ClauseIn (bind a shape scope) (put a v env) (p + 1) k
    in_clauses i k (inl before) = clause_stays scope env p (p + 1) k a shape v new (omega arith) (arrived.clauses i k before)
    in_clauses i k (inr at) = subst (λ (g : Clause). ClauseIn (bind a shape scope) (put a v env) (p + 1) g) at.1 last

    other : (i : ℕ) (k : Clause) → slice_get c.clauses i ≡ Some k → (same k.name a ≡ false) × (same a k.name ≡ false)
        × (k.param ≢ p)
    other i k at =
        let s = arrived.clauses i k at in (
          differs k.name a (λ e. new_name scope a k.name new s.known (sym e)),
          differs a k.name
              (new_name scope a k.name new s.known),
          (λ e. let less = s.param in omega (arith, less, e)),
        )

    apart : (i j : ℕ) (k o : Clause) → (slice_get c.clauses i ≡ Some k) ⊎ ((i ≡ length c.clauses) × (new_one ≡ k))
        → (slice_get c.clauses j ≡ Some o) ⊎ ((j ≡ length c.clauses) × (new_one ≡ o))
        → i ≢ j → (same k.name o.name ≡ false) × (k.param ≢ o.param)
    apart i j k o (inl at_i) (inl at_j) differ = arrived.clauses_apart i j k o at_i at_j differ
    apart i j k o (inl at_i) (inr at_j) differ = let r = other i k at_i in
        subst (λ (g : Clause). (same k.name g.name ≡ false) × (k.param ≢ g.param)) at_j.1 (r.0, r.2)
    apart i j k o (inr at_i) (inl at_j) differ = let r = other j o at_j in
        subst (λ (g : Clause). (same g.name o.name ≡ false) × (g.param ≢ o.param)) at_i.1 (r.1, (λ e. r.2 (sym e)))
    apart i j k o (inr at_i) (inr at_j) differ = absurd (differ (at_i.0 ∙ sym at_j.0))

  pub reserved_arrived : (scope : Scope) (c : Context) (env : Env) (p l : ℕ) → Arrived scope c env p
      → Arrived scope (with_reserved l c) env p
  reserved_arrived scope c env p l a =
      record {
        scalars = a.scalars;
        scalars_apart = a.scalars_apart;
        clauses = a.clauses;
        clauses_apart = a.clauses_apart;
        tops = a.tops;
        below = a.below;
      }
