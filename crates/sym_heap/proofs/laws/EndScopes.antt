-- What the ends of blocks make of a context, and the scope after them.
use Rattle.std.proofs.Common.{◌≡◌, ◌≢◌, refl, sym, ◌∙◌, ap, subst, ℕ, zero, suc, ◌≤◌, Bool, true, false, List, [], ◌∷◌, map}
use Rattle.std.proofs.Common.{Option, Some, None, slice_get}
use Rattle.side_certs.specs.LinearForm.{LinearForm}
use Rattle.model_syntax.specs.declared.program.Len.{Len}
use Rattle.model_syntax.specs.declared.program.Param.{Param}
use Rattle.model_syntax.specs.Names.{Name, same, listed}
use Rattle.model_syntax.specs.Scope.{Scope, look_up}
use Rattle.model_syntax.specs.Entries.{entry_names}
use Rattle.sym_heap.specs.declared.parts.Clause.{Clause}
use Rattle.sym_heap.specs.Context.{Context}
use Rattle.sym_heap.specs.Ends.{of_param, taken_over, at_ends, standing, restored, with_ends}
use Rattle.sym_heap.specs.Moves.{IsSameArray, Follow}
use Rattle.sym_heap.specs.Scoped.{IsScoped, IsArrayOf, IsLength, EndsAgree}

pub restored_scoped : (ps : List Param) (scope : Scope) (c end_ : Context) → IsScoped ps scope c → end_.entries ≡ c.entries
    → IsScoped ps scope (restored (standing c) end_)
restored_scoped ps scope c end_ s entries = record {
  scalars = s.scalars;
  every_scalar = s.every_scalar;
  clauses = s.clauses;
  scalars_once = s.scalars_once;
  clauses_once = s.clauses_once;
  entries = entries ∙ s.entries;
  few = subst (λ (n : ℕ). n ≤ 8) (sym entries) s.few;
}

-- a scope counts for what it says of names
pub alike_scoped : (ps : List Param) (scope after : Scope) (c : Context) → ((x : Name) → look_up after x ≡ look_up scope x)
    → IsScoped ps scope c → IsScoped ps after c
alike_scoped ps scope after c alike s = record {
  scalars = λ i h at. alike h.name ∙ s.scalars i h at;
  every_scalar = λ x t at. s.every_scalar x t (sym (alike x) ∙ at);
  clauses = λ i k at. (let a = s.clauses i k at in
      record { element = a.element; len = a.len; type = alike k.name ∙ a.type; size = a.size; length_is = a.length_is });
  scalars_once = s.scalars_once;
  clauses_once = s.clauses_once;
  entries = s.entries;
  few = s.few;
}

-- Clauses after the ends.

pub record Mapped (f : Clause → Clause) (ks : List Clause) (i : ℕ) (j : Clause) : Type 0 where
  pub clause : Clause
  pub at : slice_get ks i ≡ Some clause
  pub is : j ≡ f clause

pub mapped : (f : Clause → Clause) (ks : List Clause) (i : ℕ) (j : Clause) → slice_get (map f ks) i ≡ Some j → Mapped f ks i j
mapped f [] i j at = absurd (let bad : None ≡ Some j = at in cc)
mapped f (k ∷ ks) zero j at = let is : f k ≡ j = cc in record { clause = k; at = refl; is = sym is }
mapped f (k ∷ ks) (suc i) j at = let m = mapped f ks i j at in record { clause = m.clause; at = m.at; is = m.is }

pub record Later (ls : List Clause) (i : ℕ) (k : Clause) : Type 0 where
  pub clause : Clause
  pub at : slice_get ls i ≡ Some clause
  pub same_one : IsSameArray k clause

pub later : (ks ls : List Clause) (i : ℕ) (k : Clause) → Follow ks ls → slice_get ks i ≡ Some k → Later ls i k
later [] ls i k follow at = absurd (let bad : None ≡ Some k = at in cc)
later (m ∷ ks) [] i k follow at = absurd follow
later (m ∷ ks) (l ∷ ls) zero k follow at = let is : m ≡ k = cc in
    record { clause = l; at = refl; same_one = subst (λ (z : Clause). IsSameArray z l) is follow.0 }
later (m ∷ ks) (l ∷ ls) (suc i) k follow at = let n = later ks ls i k follow.1 at in
    record { clause = n.clause; at = n.at; same_one = n.same_one }

pub record Earlier (ks : List Clause) (i : ℕ) (l : Clause) : Type 0 where
  pub clause : Clause
  pub at : slice_get ks i ≡ Some clause
  pub same_one : IsSameArray clause l

pub earlier : (ks ls : List Clause) (i : ℕ) (l : Clause) → Follow ks ls → slice_get ls i ≡ Some l → Earlier ks i l
earlier [] [] i l follow at = absurd (let bad : None ≡ Some l = at in cc)
earlier [] (m ∷ ls) i l follow at = absurd follow
earlier (k ∷ ks) [] i l follow at = absurd follow
earlier (k ∷ ks) (m ∷ ls) zero l follow at = let is : m ≡ l = cc in
    record { clause = k; at = refl; same_one = subst (λ (z : Clause). IsSameArray k z) is follow.0 }
earlier (k ∷ ks) (m ∷ ls) (suc i) l follow at = let n = earlier ks ls i l follow.1 at in
    record { clause = n.clause; at = n.at; same_one = n.same_one }

-- a clause after the ends has the name of the first end, and is otherwise the array of before
record IsTaken (k l j : Clause) : Type 0 where
  pub name : j.name ≡ l.name
  pub size : j.size ≡ k.size
  pub length_same : j.length ≡ k.length
  pub length_local : j.length_local ≡ k.length_local

taken : (names : List Name) (k l m : Clause) → (listed l.name names ≡ false → k.name ≡ l.name)
    → IsTaken k l (taken_over names (Some l) (Some m) k)
taken names k l m unlisted = by (listed l.name names) refl where
  by : (b : Bool) → listed l.name names ≡ b → IsTaken k l (taken_over names (Some l) (Some m) k)
  by true e = rw e (record { name = refl; size = refl; length_same = refl; length_local = refl })
  by false e = rw e (record { name = unlisted e; size = refl; length_same = refl; length_local = refl })

record After (c one : Context) (i : ℕ) (j : Clause) : Type 0 where
  pub before : Clause
  pub at_before : slice_get c.clauses i ≡ Some before
  pub last : Clause
  pub at_last : slice_get one.clauses i ≡ Some last
  pub taken_one : IsTaken before last j
  pub same_one : IsSameArray before last

after_ends : (names : List Name) (scope end_scope after : Scope) (c one two : Context)
    → EndsAgree names scope end_scope after c one two → (i : ℕ) (j : Clause)
    → slice_get (with_ends names (standing one) (standing two) c).clauses i ≡ Some j → After c one i j
after_ends names scope end_scope after c one two a i j at =
    let m = mapped (at_ends names (standing one) (standing two)) c.clauses i j at in
    let k = m.clause in
    let first = later c.clauses one.clauses i k a.follow_one m.at in
    let second = later c.clauses two.clauses i k a.follow_two m.at in
    let l = first.clause in
    let found_one : of_param k.param one.clauses ≡ Some l = ap (λ p. of_param p one.clauses) (sym first.same_one.param)
    ∙ a.once_one i l first.at in
    let found_two : of_param k.param two.clauses
    ≡ Some second.clause = ap (λ p. of_param p two.clauses) (sym second.same_one.param)
    ∙ a.once_two i second.clause second.at in
    let is : j ≡ taken_over names (Some l) (Some second.clause) k =
    m.is ∙ ap (λ o. taken_over names o (of_param k.param two.clauses) k) found_one
    ∙ ap (λ o. taken_over names (Some l) o k) found_two in
    record {
      before = k;
      at_before = m.at;
      last = l;
      at_last = first.at;
      taken_one = subst (λ (z : Clause). IsTaken k l z) (sym is) (taken names k l second.clause (a.unlisted i k l m.at first.at));
      same_one = first.same_one;
    }

length_as : (names : List Name) (n : Len) (f g : LinearForm) (l m : Option ℕ) → f ≡ g → l ≡ m → IsLength names n g m
    → IsLength names n f l
length_as names n f g l m is at long =
    subst (λ (z : LinearForm). IsLength names n z l) (sym is) (subst (λ (z : Option ℕ). IsLength names n g z) (sym at) long)

pub over_scoped : (ps : List Param) (names : List Name) (scope end_scope after : Scope) (c one two : Context)
    → IsScoped ps scope c → IsScoped ps end_scope one
    → EndsAgree names scope end_scope after c one two → IsScoped ps after (with_ends names (standing one) (standing two) c)
over_scoped ps names scope end_scope after c one two s e a = record {
  scalars = λ i h at. a.scalars h.name h.kind (s.scalars i h at);
  every_scalar = λ x t at. s.every_scalar x t (a.no_more x t at);
  clauses = λ i j at. array i j (after_ends names scope end_scope after c one two a i j at);
  scalars_once = s.scalars_once;
  clauses_once = λ i j k l at_i at_j differ. once i j k l (after_ends names scope end_scope after c one two a i k at_i)
      (after_ends names scope end_scope after c one two a j l at_j) differ;
  entries = s.entries;
  few = s.few;
} where
  array : (i : ℕ) (j : Clause) → After c one i j → IsArrayOf (entry_names ps) after j
  array i j f =
      let o = e.clauses i f.last f.at_last in
      record {
        element = o.element;
        len = o.len;
        type = ap (look_up after) f.taken_one.name ∙ a.arrays i f.last f.at_last ∙ o.type;
        size = o.size ∙ ap Some (sym (f.taken_one.size ∙ sym f.same_one.size));
        length_is = length_as (entry_names ps) o.len j.length f.last.length j.length_local f.last.length_local
            (f.taken_one.length_same ∙ sym f.same_one.length_same) (f.taken_one.length_local ∙ sym f.same_one.length_local)
            o.length_is;
      }

  once : (i j : ℕ) (k l : Clause) → After c one i k → After c one j l → i ≢ j → same k.name l.name ≡ false
  once i j k l f g differ = ap (λ x. same x l.name) f.taken_one.name ∙ ap (same f.last.name) g.taken_one.name
      ∙ e.clauses_once i j f.last g.last f.at_last g.at_last differ
