-- What the calls make of a context, whatever the state.
use Rattle.std.proofs.Common.{◌≡◌, refl, sym, ◌∙◌, ap, subst, arith, ℕ, zero, suc, ◌+◌, ◌≤◌, Bool, true, false, not, ◌&&◌, List}
use Rattle.std.proofs.Common.{[], ◌∷◌, ◌++◌, length, map, take, Option, Some, None, slice_get, nat_eq, nat_lt}
use Rattle.std.proofs.lemmas.Bool.{ltb-true}
use Rattle.side_certs.specs.LinearForm.{LinearForm}
use Rattle.model_syntax.specs.Names.{Name, same, listed}
use Rattle.sym_heap.specs.declared.parts.Held.{Held}
use Rattle.sym_heap.specs.declared.parts.Clause.{Clause}
use Rattle.sym_heap.specs.Context.{Context, scalar, has, is_free, is_clause, change_first, with_top, with_scalar, with_fact}
use Rattle.sym_heap.specs.Context.{with_clause, renamed, written, back_to}
use Rattle.sym_heap.specs.Ends.{of_param, greater, taken_over, at_ends, standing, restored, with_ends}
use Rattle.sym_heap.specs.Fits.{IsConsistent}
use Rattle.sym_heap.specs.Moves.{IsSameArray, Follow, local_of, Moves, Began, ParamsOnce}
use Rattle.sym_heap.proofs.Named.{find_put}

-- Lists.

pub take_all : {A : Type 0} (xs : List A) → take (length xs) xs ≡ xs
take_all [] = refl
take_all (x ∷ xs) = ap (λ l. x ∷ l) (take_all xs)

pub take_front : {A : Type 0} (xs ys : List A) → take (length xs) (xs ++ ys) ≡ xs
take_front [] ys = refl
take_front (x ∷ xs) ys = ap (λ l. x ∷ l) (take_front xs ys)

pub take_on : {A : Type 0} (xs ys zs : List A) → take (length xs) ys ≡ xs → take (length ys) zs ≡ ys → take (length xs) zs ≡ xs
take_on [] ys zs a b = refl
take_on (x ∷ xs) [] zs a b = absurd (let bad : [] ≡ x ∷ xs = a in cc)
take_on (x ∷ xs) (y ∷ ys) [] a b = absurd (let bad : [] ≡ y ∷ ys = b in cc)
take_on (x ∷ xs) (y ∷ ys) (z ∷ zs) a b =
    let one : y ∷ take (length xs) ys ≡ x ∷ xs = a in
    let two : z ∷ take (length ys) zs ≡ y ∷ ys = b in
    let tail_one : take (length xs) ys ≡ xs = cc in
    let tail_two : take (length ys) zs ≡ ys = cc in
    let head : z ≡ x = cc in
    ap (λ l. z ∷ l) (take_on xs ys zs tail_one tail_two) ∙ ap (λ w. w ∷ xs) head

-- Clauses.

same_array : (k : Clause) → IsSameArray k k
same_array k = record {
  param = refl;
  size = refl;
  pointer = refl;
  length_same = refl;
  length_local = refl;
  writes = omega arith;
  name = λ e. refl;
}

same_on : (k l m : Clause) → IsSameArray k l → IsSameArray l m → IsSameArray k m
same_on k l m a b =
    let more = a.writes in
    let yet = b.writes in
    record {
      param = b.param ∙ a.param;
      size = b.size ∙ a.size;
      pointer = b.pointer ∙ a.pointer;
      length_same = b.length_same ∙ a.length_same;
      length_local = b.length_local ∙ a.length_local;
      writes = omega (arith, more, yet);
      name = λ e. b.name (omega (arith, more, yet, e)) ∙ a.name (omega (arith, more, yet, e));
    }

pub follow_self : (ks : List Clause) → Follow ks ks
follow_self [] = tt
follow_self (k ∷ ks) = (same_array k, follow_self ks)

pub follow_on : (ks ls ms : List Clause) → Follow ks ls → Follow ls ms → Follow ks ms
follow_on [] [] ms a b = b
follow_on [] (l ∷ ls) ms a b = absurd a
follow_on (k ∷ ks) [] ms a b = absurd a
follow_on (k ∷ ks) (l ∷ ls) [] a b = absurd b
follow_on (k ∷ ks) (l ∷ ls) (m ∷ ms) a b = (same_on k l m a.0 b.0, follow_on ks ls ms a.1 b.1)

follow_changed : (test : Clause → Bool) (change : Clause → Clause) → ((k : Clause) → IsSameArray k (change k))
    → (ks : List Clause) → Follow ks (change_first test change ks)
follow_changed test change same_one [] = tt
follow_changed test change same_one (k ∷ ks) = by (test k) refl (follow_changed test change same_one ks) where
  by : (b : Bool) → test k ≡ b → Follow ks (change_first test change ks) → Follow (k ∷ ks) (change_first test change (k ∷ ks))
  by true e more = rw e (same_one k, follow_self ks)
  by false e more = rw e (same_array k, more)

same_written : (k : Clause) → IsSameArray k (written k)
same_written k = record {
  param = refl;
  size = refl;
  pointer = refl;
  length_same = refl;
  length_local = refl;
  writes = omega arith;
  name = λ e. refl;
}

same_renamed : (b : Name) (k : Clause) → IsSameArray k (renamed b (written k))
same_renamed b k = record {
  param = refl;
  size = refl;
  pointer = refl;
  length_same = refl;
  length_local = refl;
  writes = omega arith;
  name = λ (e : k.writes + 1 ≡ k.writes). absurd (omega (arith, e));
}

follow_renamed : (a b : Name) (ks : List Clause)
    → Follow ks (change_first (is_clause a) (renamed b) (change_first (is_clause a) written ks))
follow_renamed a b [] = tt
follow_renamed a b (k ∷ ks) = by (same k.name a) refl (follow_renamed a b ks) where
  by : (is : Bool) → same k.name a ≡ is
      → Follow ks (change_first (is_clause a) (renamed b) (change_first (is_clause a) written ks))
      → Follow (k ∷ ks) (change_first (is_clause a) (renamed b) (change_first (is_clause a) written (k ∷ ks)))
  by true e more = rw (e, e) (same_renamed b k, follow_self ks)
  by false e more = rw (e, e) (same_array k, more)

follow_each : (f : Clause → Clause) (ks : List Clause) → ((i : ℕ) (k : Clause) → slice_get ks i ≡ Some k → IsSameArray k (f k))
    → Follow ks (map f ks)
follow_each f [] each = tt
follow_each f (k ∷ ks) each = (each 0 k refl, follow_each f ks (λ i l at. each (suc i) l at))

-- the clause of a parameter follows the one of before
record Came (p : ℕ) (ks : List Clause) (l : Clause) : Type 0 where
  pub clause : Clause
  pub found : of_param p ks ≡ Some clause
  pub same_one : IsSameArray clause l

came : (p : ℕ) (ks ls : List Clause) (l : Clause) → Follow ks ls → of_param p ls ≡ Some l → Came p ks l
came p [] [] l follow at = absurd (let bad : None ≡ Some l = at in cc)
came p [] (m ∷ ls) l follow at = absurd follow
came p (k ∷ ks) [] l follow at = absurd follow
came p (k ∷ ks) (m ∷ ls) l follow at = by (nat_eq k.param p) refl (λ found. came p ks ls l follow.1 found) where
  by : (b : Bool) → nat_eq k.param p ≡ b → (of_param p ls ≡ Some l → Came p ks l) → Came p (k ∷ ks) l
  by true e more =
      let test : nat_eq m.param p ≡ true = ap (λ n. nat_eq n p) follow.0.param ∙ e in
      let first : Some m ≡ Some l = rw test at at in
      let is : m ≡ l = cc in
      record { clause = k; found = rw e refl; same_one = subst (λ (z : Clause). IsSameArray k z) is follow.0 }
  by false e more =
      let test : nat_eq m.param p ≡ false = ap (λ n. nat_eq n p) follow.0.param ∙ e in
      let one = more (rw test at at) in
      record { clause = one.clause; found = rw e one.found; same_one = one.same_one }

-- Contexts.

pub moves_nothing : (c : Context) → Moves c c
moves_nothing c = record {
  arrays = follow_self c.clauses;
  locals = λ x h at r. ap local_of at;
  reserved = refl;
  facts = take_all c.facts;
  tops = take_all c.tops;
  entries = refl;
}

pub moves_on : (c d e : Context) → Moves c d → Moves d e → Moves c e
moves_on c d e a b = record {
  arrays = follow_on c.clauses d.clauses e.clauses a.arrays b.arrays;
  locals = λ x h at r. by x h (scalar d x) refl (b.locals x h at (ap (has h.local) a.reserved ∙ r)) r;
  reserved = b.reserved ∙ a.reserved;
  facts = take_on c.facts d.facts e.facts a.facts b.facts;
  tops = take_on c.tops d.tops e.tops a.tops b.tops;
  entries = b.entries ∙ a.entries;
} where
  by : (x : Name) (h : Held) (o : Option Held) → scalar d x ≡ o → local_of (scalar d x) ≡ Some h.local
      → has h.local c.reserved ≡ true → local_of (scalar c x) ≡ Some h.local
  by x h None at is r = absurd (let bad : None ≡ Some h.local = ap local_of (sym at) ∙ is in cc)
  by x h (Some k) at is r =
      let both : Some k.local ≡ Some h.local = ap local_of (sym at) ∙ is in
      let one : k.local ≡ h.local = cc in
      a.locals x k at (ap (λ l. has l c.reserved) one ∙ r) ∙ ap Some one

pub fresh_moves : (c : Context) (top : ℕ) → Moves c (with_top top c)
fresh_moves c top = record {
  arrays = follow_self c.clauses;
  locals = λ x h at r. ap local_of at;
  reserved = refl;
  facts = take_all c.facts;
  tops = take_front c.tops (top ∷ []);
  entries = refl;
}

pub fact_moves : (c : Context) (f : LinearForm) → Moves c (with_fact f c)
fact_moves c f = record {
  arrays = follow_self c.clauses;
  locals = λ x h at r. ap local_of at;
  reserved = refl;
  facts = take_front c.facts (f ∷ []);
  tops = take_all c.tops;
  entries = refl;
}

not_first : (b t : Bool) → (not b && t) ≡ true → b ≡ false
not_first true t e = absurd (let bad : false ≡ true = e in cc)
not_first false t e = refl

pub bound_moves : (c : Context) (h : Held) → is_free c h.local (Some h.name) ≡ true → Moves c (with_scalar h c)
bound_moves c h free = record {
  arrays = follow_self c.clauses;
  locals = λ x k at r. by x k (same h.name x) refl at r;
  reserved = refl;
  facts = take_all c.facts;
  tops = take_all c.tops;
  entries = refl;
} where
  by : (x : Name) (k : Held) (b : Bool) → same h.name x ≡ b → scalar (with_scalar h c) x ≡ Some k → has k.local c.reserved ≡ true
      → local_of (scalar c x) ≡ Some k.local
  by x k true e at r =
      let found : scalar (with_scalar h c) x ≡ Some h = find_put (λ (z : Held). z.name) h c.scalars x ∙ rw e refl in
      let both : Some h ≡ Some k = sym found ∙ at in
      let one : h ≡ k = cc in
      let no : has h.local c.reserved ≡ false = not_first (has h.local c.reserved) _ free in
      absurd (let bad : false ≡ true = sym no ∙ ap (λ (z : Held). has z.local c.reserved) one ∙ r in cc)
  by x k false e at r =
      let found : scalar (with_scalar h c) x ≡ scalar c x = find_put (λ (z : Held). z.name) h c.scalars x ∙ rw e refl in
      ap local_of (sym found ∙ at)

pub written_moves : (c : Context) (a : Name) → Moves c (with_clause a written c)
written_moves c a = record {
  arrays = follow_changed (is_clause a) written same_written c.clauses;
  locals = λ x h at r. ap local_of at;
  reserved = refl;
  facts = take_all c.facts;
  tops = take_all c.tops;
  entries = refl;
}

pub renamed_moves : (c : Context) (a b : Name) → Moves c (with_clause a (renamed b) (with_clause a written c))
renamed_moves c a b = record {
  arrays = follow_renamed a b c.clauses;
  locals = λ x h at r. ap local_of at;
  reserved = refl;
  facts = take_all c.facts;
  tops = take_all c.tops;
  entries = refl;
}

-- Ends of blocks.

pub restored_moves : (c end_ : Context) → Began c end_ → (restored (standing c) end_ ≡ back_to c end_)
    × Moves c (restored (standing c) end_)
restored_moves c end_ b = (
  rw (b.facts, b.reserved) refl,
  record {
    arrays = follow_self c.clauses;
    locals = λ x h at r. ap local_of at;
    reserved = b.reserved;
    facts = rw b.facts (take_all c.facts);
    tops = b.tops;
    entries = b.entries;
  },
)

first_param : (ks : List Clause)
    → ((i j : ℕ) (k l : Clause) → slice_get ks i ≡ Some k → slice_get ks j ≡ Some l → (i ≡ j → ⊥) → k.param ≡ l.param → ⊥)
    → ParamsOnce ks
first_param [] apart i k at = absurd (let bad : None ≡ Some k = at in cc)
first_param (x ∷ xs) apart i k at =
    by (nat_eq x.param k.param) refl i at
    (λ j there. first_param xs (λ m n l o at_m at_n differ. apart (suc m) (suc n) l o at_m at_n (λ e. differ (omega (arith, e))))
    j k there) where
      by : (b : Bool) → nat_eq x.param k.param ≡ b → (i : ℕ) → slice_get (x ∷ xs) i ≡ Some k
          → ((j : ℕ) → slice_get xs j ≡ Some k → of_param k.param xs ≡ Some k) → of_param k.param (x ∷ xs) ≡ Some k
      by true e zero here more = rw e here
      by true e (suc j) here more = absurd (apart 0 (suc j) x k refl here (λ z. absurd (omega (arith, z))) (grind (arith, e)))
      by false e zero here more =
          let one : x ≡ k = cc in
          let bad : x.param ≡ k.param = ap (λ (z : Clause). z.param) one in
          absurd (grind (arith, e, bad))
      by false e (suc j) here more = rw e (more j here)

pub params_once : (c : Context) → IsConsistent c → ParamsOnce c.clauses
params_once c s = first_param c.clauses (λ i j k l at_i at_j differ. (s.clauses_apart i j k l at_i at_j differ).1)

not_below : (n m : ℕ) → n ≤ greater n m
not_below n m = by (nat_lt n m) refl where
  by : (b : Bool) → nat_lt n m ≡ b → n ≤ greater n m
  by true e = rw e (let less = ltb-true n m e in omega (arith, less))
  by false e = rw e (omega arith)

same_over : (names : List Name) (k : Clause) (one two : Option Clause) → ((l : Clause) → one ≡ Some l → IsSameArray k l)
    → IsSameArray k (taken_over names one two k)
same_over names k None two is = same_array k
same_over names k (Some l) None is = same_array k
same_over names k (Some l) (Some m) is = by (listed l.name names) refl where
  more : k.writes ≤ l.writes
  more = (is l refl).writes

  by : (b : Bool) → listed l.name names ≡ b → IsSameArray k (taken_over names (Some l) (Some m) k)
  by true e =
      let yet = not_below l.writes m.writes in
      let much = more in
      rw e (record {
        param = refl;
        size = refl;
        pointer = refl;
        length_same = refl;
        length_local = refl;
        writes = omega (arith, much, yet);
        name = λ (w : greater l.writes m.writes ≡ k.writes). (is l refl).name (omega (arith, much, yet, w));
      })
  by false e = rw e (same_array k)

pub over_moves : (names : List Name) (c one two : Context) → ParamsOnce c.clauses → Follow c.clauses one.clauses
    → Moves c (with_ends names (standing one) (standing two) c)
over_moves names c one two once follow = record {
  arrays = follow_each (at_ends names (standing one) (standing two)) c.clauses each;
  locals = λ x h at r. ap local_of at;
  reserved = refl;
  facts = take_all c.facts;
  tops = take_all c.tops;
  entries = refl;
} where
  follows : (k l : Clause) → of_param k.param c.clauses ≡ Some k → Came k.param c.clauses l → IsSameArray k l
  follows k l here before =
      let both : Some before.clause ≡ Some k = sym before.found ∙ here in
      let one_clause : before.clause ≡ k = cc in
      subst (λ (z : Clause). IsSameArray z l) one_clause before.same_one

  each : (i : ℕ) (k : Clause) → slice_get c.clauses i ≡ Some k → IsSameArray k (at_ends names (standing one) (standing two) k)
  each i k at = same_over names k (of_param k.param one.clauses) (of_param k.param two.clauses)
      (λ l found. follows k l (once i k at) (came k.param c.clauses one.clauses l follow found))
