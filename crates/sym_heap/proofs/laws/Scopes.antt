-- Each call of a context keeps what the context says of a scope, or says it of the scope that its name was bound in.
use Rattle.std.proofs.Common.{◌≡◌, ◌≢◌, refl, sym, ◌∙◌, ap, subst, ℕ, ◌≤◌, inl, inr, Bool, true, false, List, Some, None, Ok, Err}
use Rattle.std.proofs.Common.{slice_get}
use Rattle.std.specs.Prelude.{is_some}
use Rattle.rup_base.specs.declared.refusal.TypeWhy.TheVariants.{NameTaken}
use Rattle.side_certs.specs.LinearForm.{LinearForm}
use Rattle.model_syntax.specs.declared.expr.Scalar.{Scalar}
use Rattle.model_syntax.specs.declared.program.Len.{Len}
use Rattle.model_syntax.specs.declared.program.Param.{Param}
use Rattle.model_syntax.specs.declared.scope.NameType.{NameType}
use Rattle.model_syntax.specs.declared.scope.NameType.TheVariants.{Scalar as One, Array as Many}
use Rattle.model_syntax.specs.Names.{Name, same}
use Rattle.model_syntax.specs.Scope.{Scope, look_up, bind, scalar_may_take}
use Rattle.model_syntax.proofs.laws.Bindings.{same_self, up_here, up_else}
use Rattle.model_syntax.specs.Entries.{entry_names}
use Rattle.sym_heap.specs.declared.parts.Held.{Held}
use Rattle.sym_heap.specs.declared.parts.Clause.{Clause}
use Rattle.sym_heap.specs.Context.{Context, is_clause, scalar, renamed, written, with_top, with_scalar, with_fact, with_reserved}
use Rattle.sym_heap.specs.Context.{with_clause, without_clause, back_to}
use Rattle.sym_heap.specs.Scoped.{IsScoped, IsArrayOf}
use Rattle.sym_heap.proofs.Named.{differs, apart_back, PutAt, put_at, put_once, find_put, ChangedAt, here, there, changed_at}
use Rattle.sym_heap.proofs.Named.{skip, left_at, skip_apart}

pub fresh_scoped : (ps : List Param) (scope : Scope) (c : Context) (top : ℕ) → IsScoped ps scope c
    → IsScoped ps scope (with_top top c)
fresh_scoped ps scope c top s = record {
  scalars = s.scalars;
  every_scalar = s.every_scalar;
  clauses = s.clauses;
  scalars_once = s.scalars_once;
  clauses_once = s.clauses_once;
  entries = s.entries;
  few = s.few;
}

pub fact_scoped : (ps : List Param) (scope : Scope) (c : Context) (f : LinearForm) → IsScoped ps scope c
    → IsScoped ps scope (with_fact f c)
fact_scoped ps scope c f s = record {
  scalars = s.scalars;
  every_scalar = s.every_scalar;
  clauses = s.clauses;
  scalars_once = s.scalars_once;
  clauses_once = s.clauses_once;
  entries = s.entries;
  few = s.few;
}

pub reserved_scoped : (ps : List Param) (scope : Scope) (c : Context) (l : ℕ) → IsScoped ps scope c
    → IsScoped ps scope (with_reserved l c)
reserved_scoped ps scope c l s = record {
  scalars = s.scalars;
  every_scalar = s.every_scalar;
  clauses = s.clauses;
  scalars_once = s.scalars_once;
  clauses_once = s.clauses_once;
  entries = s.entries;
  few = s.few;
}

-- going back gives the scope of the old context
pub back_scoped : (ps : List Param) (scope : Scope) (old c : Context) → IsScoped ps scope old → c.entries ≡ old.entries
    → IsScoped ps scope (back_to old c)
back_scoped ps scope old c s same = record {
  scalars = s.scalars;
  every_scalar = s.every_scalar;
  clauses = s.clauses;
  scalars_once = s.scalars_once;
  clauses_once = s.clauses_once;
  entries = same ∙ s.entries;
  few = subst (λ (n : ℕ). n ≤ 8) (sym same) s.few;
}

same_array : (names : List Name) (scope after : Scope) (k : Clause)
    → (t : (u : NameType) → look_up scope k.name ≡ Some u → look_up after k.name ≡ Some u) → IsArrayOf names scope k
    → IsArrayOf names after k
same_array names scope after k t a =
    record { element = a.element; len = a.len; type = t (Many a.element a.len) a.type; size = a.size; length_is = a.length_is }

-- a name that a scalar may take is no array's
no_array : (scope : Scope) (x y : Name) (t : Scalar) (n : Len) → scalar_may_take (look_up scope x) ≡ Ok tt
    → look_up scope y ≡ Some (Many t n) → same x y ≡ false
no_array scope x y t n free at =
    differs x y (λ is. absurd (let bad : Err NameTaken ≡ Ok tt = sym (ap scalar_may_take (ap (look_up scope) is ∙ at)) ∙ free in
    cc))

-- a scalar is bound that takes no array's name
pub bound_scoped : (ps : List Param) (scope : Scope) (c : Context) (h : Held) → scalar_may_take (look_up scope h.name) ≡ Ok tt
    → IsScoped ps scope c → IsScoped ps (bind h.name (One h.kind) scope) (with_scalar h c)
bound_scoped ps scope c h free s = record {
  scalars = λ i k at. scalars i k (put_at (λ (z : Held). z.name) h c.scalars s.scalars_once i k at);
  every_scalar = λ y t at. every y t (same h.name y) refl at;
  clauses = λ i k at. (let a = s.clauses i k at in let far = no_array scope h.name k.name a.element a.len free a.type in
      same_array (entry_names ps) scope (bind h.name (One h.kind) scope) k
      (λ u is. up_else scope h.name k.name (One h.kind) far ∙ is) a);
  scalars_once = put_once (λ (z : Held). z.name) h c.scalars s.scalars_once;
  clauses_once = s.clauses_once;
  entries = s.entries;
  few = s.few;
} where
  scalars : (i : ℕ) (k : Held) → PutAt (λ (z : Held). z.name) h c.scalars i k → look_up (bind h.name (One h.kind) scope) k.name
      ≡ Some (One k.kind)
  scalars i k (inl new) = subst (λ (z : Held). look_up (bind h.name (One h.kind) scope) z.name ≡ Some (One z.kind)) (sym new.1)
      (up_here scope h.name h.name (One h.kind) (same_self h.name))
  scalars i k (inr before) = up_else scope h.name k.name (One h.kind) before.1 ∙ s.scalars i k before.0

  every : (y : Name) (t : Scalar) (b : Bool) → same h.name y ≡ b → look_up (bind h.name (One h.kind) scope) y ≡ Some (One t)
      → is_some (scalar (with_scalar h c) y) ≡ true
  every y t true e at = let found : scalar (with_scalar h c) y
      ≡ Some h = find_put (λ (z : Held). z.name) h c.scalars y ∙ rw e refl in ap is_some found
  every y t false e at = let found : scalar (with_scalar h c) y ≡ scalar c y = find_put (λ (z : Held). z.name) h c.scalars y
      ∙ rw e refl in ap is_some found ∙ s.every_scalar y t (sym (up_else scope h.name y (One h.kind) e) ∙ at)

-- an array takes a new name
pub moved_scoped : (ps : List Param) (scope : Scope) (c : Context) (a b : Name) (t : Scalar) (n : Len)
    → look_up scope a ≡ Some (Many t n) → look_up scope b ≡ None
    → IsScoped ps scope c → IsScoped ps (bind b (Many t n) scope) (with_clause a (renamed b) c)
moved_scoped ps scope c a b t n array new s = record {
  scalars = λ i h at. kept h.name (One h.kind) (s.scalars i h at);
  every_scalar = λ y u at. every y u (same b y) refl at;
  clauses = λ i k at. clauses i k (changed_at (λ (z : Clause). z.name) a (renamed b) c.clauses i k at);
  scalars_once = s.scalars_once;
  clauses_once = λ i j k l at_i at_j differ. once i j k l (changed_at (λ (z : Clause). z.name) a (renamed b) c.clauses i k at_i)
      (changed_at (λ (z : Clause). z.name) a (renamed b) c.clauses j l at_j) differ;
  entries = s.entries;
  few = s.few;
} where
  other : (y : Name) (u : NameType) → look_up scope y ≡ Some u → same b y ≡ false
  other y u at = differs b y (λ is. absurd (let bad : None ≡ Some u = sym new ∙ ap (look_up scope) is ∙ at in cc))

  kept : (y : Name) (u : NameType) → look_up scope y ≡ Some u → look_up (bind b (Many t n) scope) y ≡ Some u
  kept y u at = up_else scope b y (Many t n) (other y u at) ∙ at

  every : (y : Name) (u : Scalar) (is : Bool) → same b y ≡ is → look_up (bind b (Many t n) scope) y ≡ Some (One u)
      → is_some (scalar c y) ≡ true
  every y u true e at = absurd (let bad : Some (Many t n) ≡ Some (One u) = sym (up_here scope b y (Many t n) e) ∙ at in cc)
  every y u false e at = s.every_scalar y u (sym (up_else scope b y (Many t n) e) ∙ at)

  clauses : (i : ℕ) (k : Clause) → ChangedAt (λ (z : Clause). z.name) a (renamed b) c.clauses i k
      → IsArrayOf (entry_names ps) (bind b (Many t n) scope) k
  clauses i k (there at) = same_array (entry_names ps) scope (bind b (Many t n) scope) k (λ u is. kept k.name u is)
      (s.clauses i k at)
  clauses i k (here l at named place is) =
      let o = s.clauses i l at in
      let type : Some (Many t n) ≡ Some (Many o.element o.len) = sym array ∙ ap (look_up scope) (sym named) ∙ o.type in
      subst (λ (z : Clause). IsArrayOf (entry_names ps) (bind b (Many t n) scope) z) (sym is)
      (record {
        element = o.element;
        len = o.len;
        type = up_here scope b b (Many t n) (same_self b) ∙ type;
        size = o.size;
        length_is = o.length_is;
      })

  far : (i : ℕ) (k : Clause) → slice_get c.clauses i ≡ Some k → same b k.name ≡ false
  far i k at = let o = s.clauses i k at in other k.name (Many o.element o.len) o.type

  once : (i j : ℕ) (k l : Clause) → ChangedAt (λ (z : Clause). z.name) a (renamed b) c.clauses i k
      → ChangedAt (λ (z : Clause). z.name) a (renamed b) c.clauses j l → i ≢ j → same k.name l.name ≡ false
  once i j k l (there at_i) (there at_j) differ = s.clauses_once i j k l at_i at_j differ
  once i j k l (here x at_i named place is) (there at_j) differ =
      subst (λ (z : Clause). same z.name l.name ≡ false) (sym is) (far j l at_j)
  once i j k l (there at_i) (here x at_j named place is) differ =
      subst (λ (z : Clause). same k.name z.name ≡ false) (sym is) (apart_back b k.name (far i k at_i))
  once i j k l (here x at_i named_i place_i is_i) (here y at_j named_j place_j is_j) differ =
      absurd (differ (place_i ∙ sym place_j))

-- a clause that is one of before with more writes
abbrev IsLike : Clause → Clause → Type 0
IsLike k l = (k.name ≡ l.name) × ((names : List Name) (scope : Scope) → IsArrayOf names scope l → IsArrayOf names scope k)

record Before (c : Context) (i : ℕ) (k : Clause) : Type 0 where
  pub clause : Clause
  pub at : slice_get c.clauses i ≡ Some clause
  pub like : IsLike k clause

-- a write changes nothing of this
pub written_scoped : (ps : List Param) (scope : Scope) (c : Context) (a : Name) → IsScoped ps scope c
    → IsScoped ps scope (with_clause a written c)
written_scoped ps scope c a s = record {
  scalars = s.scalars;
  every_scalar = s.every_scalar;
  clauses = λ i k at. (let b = before i k at in b.like.1 (entry_names ps) scope (s.clauses i b.clause b.at));
  scalars_once = s.scalars_once;
  clauses_once = λ i j k l at_i at_j differ.
      (let b = before i k at_i in let d = before j l at_j in
      rw (b.like.0, d.like.0) (s.clauses_once i j b.clause d.clause b.at d.at differ));
  entries = s.entries;
  few = s.few;
} where
  before : (i : ℕ) (k : Clause) → slice_get (with_clause a written c).clauses i ≡ Some k → Before c i k
  before i k at = by (changed_at (λ (z : Clause). z.name) a written c.clauses i k at) where
    by : ChangedAt (λ (z : Clause). z.name) a written c.clauses i k → Before c i k
    by (there found) = record { clause = k; at = found; like = (refl, λ names scope is. is) }
    by (here l found named place is) = record {
      clause = l;
      at = found;
      like = (
        ap (λ (z : Clause). z.name) is,
        λ names scope o. subst (λ (z : Clause). IsArrayOf names scope z) (sym is)
            (record { element = o.element; len = o.len; type = o.type; size = o.size; length_is = o.length_is }),
      );
    }

-- nor does a clause that is taken out
pub dropped_scoped : (ps : List Param) (scope : Scope) (c : Context) (a : Name) → IsScoped ps scope c
    → IsScoped ps scope (without_clause a c)
dropped_scoped ps scope c a s = record {
  scalars = s.scalars;
  every_scalar = s.every_scalar;
  clauses = λ i k at. s.clauses (skip (is_clause a) c.clauses i) k (left_at (is_clause a) c.clauses i k at);
  scalars_once = s.scalars_once;
  clauses_once = λ i j k l at_i at_j differ. s.clauses_once (skip (is_clause a) c.clauses i) (skip (is_clause a) c.clauses j) k l
      (left_at (is_clause a) c.clauses i k at_i) (left_at (is_clause a) c.clauses j l at_j)
      (λ e. differ (skip_apart (is_clause a) c.clauses i j e));
  entries = s.entries;
  few = s.few;
}
