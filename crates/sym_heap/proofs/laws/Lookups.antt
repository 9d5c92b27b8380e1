-- What a context finds by name after its calls: scalars and clauses.
use Rattle.std.proofs.Common.{◌≡◌, refl, sym, ◌∙◌, ap, subst, arith, ℕ, zero, suc, inl, inr, ◌⊎◌, Bool, true, false, List, []}
use Rattle.std.proofs.Common.{◌∷◌, Option, Some, None, slice_get, if◌then◌else◌, option_map}
use Rattle.std.specs.List.{find}
use Rattle.model_syntax.specs.Names.{Name, same}
use Rattle.model_syntax.proofs.laws.Bindings.{same_is, same_self}
use Rattle.sym_heap.specs.declared.parts.Held.{Held}
use Rattle.sym_heap.specs.declared.parts.Clause.{Clause}
use Rattle.sym_heap.specs.Context.{Context, scalar, own, is_clause, change_first, without_first, with_scalar, with_clause}
use Rattle.sym_heap.specs.Context.{without_clause, renamed, written}
use Rattle.sym_heap.specs.Fits.{IsConsistent}
use Rattle.sym_heap.proofs.Fitting.{somewhere}
use Rattle.sym_heap.proofs.Named.{unlike, apart_back, is_named, Once, once_behind, find_put}

-- Names.

pub names_differ : (x y : Name) → same x y ≡ false → x ≡ y → ⊥
names_differ = unlike

pub differ_back : (x y : Name) → same x y ≡ false → same y x ≡ false
differ_back = apart_back

-- Places and names.

-- what a name finds stands at a place
pub record PlaceOf {A : Type 0} (name : A → Name) (xs : List A) (x : Name) (y : A) : Type 0 where
  pub place : ℕ
  pub at : slice_get xs place ≡ Some y
  pub named : name y ≡ x

pub place_of : {A : Type 0} (name : A → Name) (xs : List A) (x : Name) (y : A) → find (is_named name x) xs ≡ Some y
    → PlaceOf name xs x y
place_of name xs x y is = let s = somewhere (is_named name x) xs y is in
    record { place = s.place; at = s.at; named = same_is (name y) x s.passes }

-- the names after one, where each is there once, do not find it
nowhere_behind : {A : Type 0} (name : A → Name) (x : A) (xs : List A) (z : Name) → Once name (x ∷ xs) → same (name x) z ≡ true
    → find (is_named name z) xs ≡ None
nowhere_behind {A} name x xs z once at = by (find (is_named name z) xs) refl where
  by : (o : Option A) → find (is_named name z) xs ≡ o → find (is_named name z) xs ≡ None
  by None e = e
  by (Some y) e =
      let s = place_of name xs z y e in
      let apart : same (name x) (name y) ≡ false = once 0 (suc s.place) x y refl s.at (λ q. absurd (omega (arith, q))) in
      absurd (unlike (name x) (name y) apart (same_is (name x) z at ∙ sym s.named))

-- what stands at a place is what its name finds, where each is there once
pub found_at : {A : Type 0} (name : A → Name) (xs : List A) → Once name xs → (i : ℕ) (x : A) → slice_get xs i ≡ Some x
    → find (is_named name (name x)) xs ≡ Some x
found_at name [] once i x at = absurd (let bad : None ≡ Some x = at in cc)
found_at {A} name (y ∷ ys) once i x at = by i at (λ j found. found_at name ys (once_behind name y ys once) j x found) where
  by : (i : ℕ) → slice_get (y ∷ ys) i ≡ Some x → ((j : ℕ) → slice_get ys j ≡ Some x → find (is_named name (name x)) ys ≡ Some x)
      → find (is_named name (name x)) (y ∷ ys) ≡ Some x
  by zero here more =
      let one : y ≡ x = cc in
      subst (λ (z : A). find (is_named name (name z)) (y ∷ ys) ≡ Some z) one (rw (same_self (name y)) refl)
  by (suc j) there more =
      let far : same (name y) (name x) ≡ false = once 0 (suc j) y x refl there (λ q. absurd (omega (arith, q))) in
      rw far (more j there)

abbrev pub name_of_scalar : Held → Name
name_of_scalar h = h.name

abbrev pub name_of_clause : Clause → Name
name_of_clause k = k.name

pub scalars_once : (c : Context) → IsConsistent c → Once name_of_scalar c.scalars
scalars_once c s i j x y at_i at_j differ = (s.scalars_apart i j x y at_i at_j differ).0

pub clauses_once : (c : Context) → IsConsistent c → Once name_of_clause c.clauses
clauses_once c s i j x y at_i at_j differ = (s.clauses_apart i j x y at_i at_j differ).0

pub scalar_stands : (c : Context) (x : Name) (h : Held) → scalar c x ≡ Some h → PlaceOf name_of_scalar c.scalars x h
scalar_stands c x h is = place_of name_of_scalar c.scalars x h is

pub clause_stands : (c : Context) (a : Name) (k : Clause) → own c a ≡ Some k → PlaceOf name_of_clause c.clauses a k
clause_stands c a k is = place_of name_of_clause c.clauses a k is

pub scalar_found : (c : Context) → IsConsistent c → (i : ℕ) (h : Held) → slice_get c.scalars i ≡ Some h → scalar c h.name ≡ Some h
scalar_found c s i h at = found_at name_of_scalar c.scalars (scalars_once c s) i h at

pub clause_found : (c : Context) → IsConsistent c → (i : ℕ) (k : Clause) → slice_get c.clauses i ≡ Some k → own c k.name ≡ Some k
clause_found c s i k at = found_at name_of_clause c.clauses (clauses_once c s) i k at

-- After the calls.

pub scalar_bound : (c : Context) (h : Held) (x : Name)
    → scalar (with_scalar h c) x ≡ (if same h.name x then Some h else scalar c x)
scalar_bound c h x = find_put name_of_scalar h c.scalars x

-- the element of a name is changed, and keeps its name
pub find_changed : {A : Type 0} (name : A → Name) (a : Name) (change : A → A) → ((x : A) → name (change x) ≡ name x)
    → (xs : List A) (z : Name)
    → find (is_named name z) (change_first (is_named name a) change xs)
    ≡ (if same a z then option_map change (find (is_named name z) xs) else find (is_named name z) xs)
find_changed {A} name a change keeps [] z = by (same a z) where
  by : (b : Bool) → ◌≡◌ {A = Option A} None (if b then None else None)
  by true = refl
  by false = refl
find_changed {A} name a change keeps (x ∷ xs) z =
    by (same (name x) a) refl (same (name x) z) refl (same a z) refl (find_changed name a change keeps xs z) where
      by : (p : Bool) → same (name x) a ≡ p → (q : Bool) → same (name x) z ≡ q → (r : Bool) → same a z ≡ r
          → find (is_named name z) (change_first (is_named name a) change xs)
          ≡ (if same a z then option_map change (find (is_named name z) xs) else find (is_named name z) xs)
          → find (is_named name z) (change_first (is_named name a) change (x ∷ xs))
          ≡ (if same a z then option_map change (find (is_named name z) (x ∷ xs)) else find (is_named name z) (x ∷ xs))
      by true e true q true r more = rw (e, keeps x, q, r) refl
      by true e true q false r more = absurd (unlike a z r (sym (same_is (name x) a e) ∙ same_is (name x) z q))
      by true e false q true r more = absurd (unlike (name x) z q (same_is (name x) a e ∙ same_is a z r))
      by true e false q false r more = rw (e, keeps x, q, r) refl
      by false e true q true r more = absurd (unlike (name x) a e (same_is (name x) z q ∙ sym (same_is a z r)))
      by false e true q false r more = rw (e, q, r) refl
      by false e false q true r more = rw (e, q, r) (more ∙ rw r refl)
      by false e false q false r more = rw (e, q, r) (more ∙ rw r refl)

pub own_counted : (c : Context) (a z : Name)
    → own (with_clause a written c) z ≡ (if same a z then option_map written (own c z) else own c z)
own_counted c a z = find_changed name_of_clause a written (λ k. refl) c.clauses z

-- nothing but a itself has the name b
abbrev pub IsNew : Name → Name → List Clause → Type 0
IsNew a b ks = (same a b ≡ true) ⊎ (find (is_clause b) ks ≡ None)

new_behind : (a b : Name) (k : Clause) (ks : List Clause) → same k.name a ≡ false → IsNew a b (k ∷ ks)
    → (same k.name b ≡ false) × IsNew a b ks
new_behind a b k ks e (inl is) = (differ e is, inl is) where
  differ : same k.name a ≡ false → same a b ≡ true → same k.name b ≡ false
  differ f t = ap (same k.name) (sym (same_is a b t)) ∙ f
new_behind a b k ks e (inr none) = by (same k.name b) refl where
  by : (t : Bool) → same k.name b ≡ t → (same k.name b ≡ false) × IsNew a b ks
  by true at = absurd (let bad : Some k ≡ None = rw at at none in cc)
  by false at = (at, inr (rw at at none))

renamed_found : (a b : Name) (k : Clause) (ks : List Clause) → Once name_of_clause ks → find (is_clause a) ks ≡ Some k
    → IsNew a b ks → (z : Name)
    → find (is_clause z) (change_first (is_clause a) (renamed b) ks)
    ≡ (if same b z then Some (renamed b k) else (if same a z then None else find (is_clause z) ks))
renamed_found a b k [] once is new z = absurd (let bad : None ≡ Some k = is in cc)
renamed_found a b k (x ∷ xs) once is new z = by (same x.name a) refl (same b z) refl (same a z) refl (same x.name z) refl
    (λ found is_new. renamed_found a b k xs (once_behind name_of_clause x xs once) found is_new z)
  where
    first : same x.name a ≡ true → x ≡ k
    first e = let both : Some x ≡ Some k = rw e at is in cc

    by : (p : Bool) → same x.name a ≡ p → (q : Bool) → same b z ≡ q → (r : Bool) → same a z ≡ r → (s : Bool) → same x.name z ≡ s
        → (find (is_clause a) xs ≡ Some k → IsNew a b xs → find (is_clause z) (change_first (is_clause a) (renamed b) xs)
        ≡ (if same b z then Some (renamed b k) else (if same a z then None else find (is_clause z) xs)))
        → find (is_clause z) (change_first (is_clause a) (renamed b) (x ∷ xs))
        ≡ (if same b z then Some (renamed b k) else (if same a z then None else find (is_clause z) (x ∷ xs)))
    by true e true q r f s g more = rw (e, q) (ap Some (ap (renamed b) (first e)))
    by true e false q true f s g more =
        rw (e, q, f) (nowhere_behind name_of_clause x xs z once (ap (same x.name) (sym (same_is a z f)) ∙ e))
    by true e false q false f true g more = absurd (unlike a z f (sym (same_is x.name a e) ∙ same_is x.name z g))
    by true e false q false f false g more = rw (e, q, f, g) refl
    by false e true q r f true g more =
        absurd (unlike x.name b (new_behind a b x xs e new).0 (same_is x.name z g ∙ sym (same_is b z q)))
    by false e false q true f true g more = absurd (unlike x.name a e (same_is x.name z g ∙ sym (same_is a z f)))
    by false e false q false f true g more = rw (e, q, f, g) refl
    by false e q t r f false g more =
        rw (e, g) (more (rw e at is) (new_behind a b x xs e new).1)

-- after a rename the new name has the clause, and the old one none
pub own_renamed : (c : Context) (a b : Name) (k : Clause) → IsConsistent c → own c a ≡ Some k → IsNew a b c.clauses → (z : Name)
    → own (with_clause a (renamed b) c) z ≡ (if same b z then Some (renamed b k) else (if same a z then None else own c z))
own_renamed c a b k s is new z = renamed_found a b k c.clauses (clauses_once c s) is new z

-- a name that lost its clause finds none, where it had but one
dropped_found : (a : Name) (ks : List Clause) → Once name_of_clause ks → (z : Name)
    → find (is_clause z) (without_first (is_clause a) ks) ≡ (if same a z then None else find (is_clause z) ks)
dropped_found a [] once z = by (same a z) where
  by : (b : Bool) → ◌≡◌ {A = Option Clause} None (if b then None else None)
  by true = refl
  by false = refl
dropped_found a (x ∷ xs) once z =
    by (same x.name a) refl (same a z) refl (same x.name z) refl (dropped_found a xs (once_behind name_of_clause x xs once) z)
  where
    by : (p : Bool) → same x.name a ≡ p → (r : Bool) → same a z ≡ r → (s : Bool) → same x.name z ≡ s
        → find (is_clause z) (without_first (is_clause a) xs) ≡ (if same a z then None else find (is_clause z) xs)
        → find (is_clause z) (without_first (is_clause a) (x ∷ xs)) ≡ (if same a z then None else find (is_clause z) (x ∷ xs))
    by true e true f s g more = rw (e, f) (nowhere_behind name_of_clause x xs z once (ap (same x.name) (sym (same_is a z f)) ∙ e))
    by true e false f true g more = absurd (unlike a z f (sym (same_is x.name a e) ∙ same_is x.name z g))
    by true e false f false g more = rw (e, f, g) refl
    by false e true f true g more = absurd (unlike x.name a e (same_is x.name z g ∙ sym (same_is a z f)))
    by false e false f true g more = rw (e, f, g) refl
    by false e r f false g more = rw (e, g) more

pub own_dropped : (c : Context) (a : Name) → IsConsistent c → (z : Name)
    → own (without_clause a c) z ≡ (if same a z then None else own c z)
own_dropped c a s z = dropped_found a c.clauses (clauses_once c s) z
