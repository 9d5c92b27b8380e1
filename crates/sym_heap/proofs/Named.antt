-- Lists of named elements, each name once: what stands where after the element of a name was replaced, changed or taken out.
use Rattle.std.proofs.Common.{◌≡◌, ◌≢◌, refl, sym, ◌∙◌, ap, subst, arith, ℕ, zero, suc, ◌⊎◌, inl, inr, Bool, true, false, List}
use Rattle.std.proofs.Common.{[], ◌∷◌, Some, None, slice_get, if◌then◌else◌}
use Rattle.std.specs.List.{find}
use Rattle.std.proofs.lemmas.Slice.Eq.{bytes_eq-Decides as bytes_decides}
use Rattle.model_syntax.specs.Names.{Name, same}
use Rattle.model_syntax.proofs.laws.Bindings.{same_is, same_self}
use Rattle.sym_heap.specs.Context.{change_first, put_first, without_first}

-- Names.

pub differs : (x y : Name) → (x ≡ y → ⊥) → same x y ≡ false
differs x y apart = by (same x y) refl where
  by : (b : Bool) → same x y ≡ b → same x y ≡ false
  by true e = absurd (apart ((bytes_decides x y).0 e))
  by false e = e

pub unlike : (x y : Name) → same x y ≡ false → x ≡ y → ⊥
unlike x y apart is = let bad : true ≡ false = sym (same_self x) ∙ ap (same x) is ∙ apart in absurd (cc)

pub apart_back : (x y : Name) → same x y ≡ false → same y x ≡ false
apart_back x y apart = differs y x (λ e. unlike x y apart (sym e))

-- Elements.

abbrev pub is_named : {A : Type 0} → (A → Name) → Name → A → Bool
is_named name x y = same (name y) x

abbrev pub Once : {A : Type 0} → (A → Name) → List A → Type 0
Once {A} name xs = (i j : ℕ) (x y : A) → slice_get xs i ≡ Some x → slice_get xs j ≡ Some y → i ≢ j
    → same (name x) (name y) ≡ false

pub once_behind : {A : Type 0} (name : A → Name) (x : A) (xs : List A) → Once name (x ∷ xs) → Once name xs
once_behind name x xs once i j y z at_i at_j differ = once (suc i) (suc j) y z at_i at_j (λ e. differ (omega (arith, e)))

-- the place of the first that passes, or the end
abbrev pub place : {A : Type 0} → (A → Bool) → List A → ℕ
place test [] = 0
place test (x ∷ xs) = if test x then 0 else suc (place test xs)

-- an element is the new one, or one of before with another name
abbrev pub PutAt : {A : Type 0} → (A → Name) → A → List A → ℕ → A → Type 0
PutAt name new xs i y = ((i ≡ place (is_named name (name new)) xs) × (y ≡ new))
    ⊎ ((slice_get xs i ≡ Some y) × (same (name new) (name y) ≡ false))

pub put_at : {A : Type 0} (name : A → Name) (new : A) (xs : List A) → Once name xs → (i : ℕ) (y : A)
    → slice_get (put_first (is_named name (name new)) new xs) i ≡ Some y → PutAt name new xs i y
put_at name new [] once zero y at = inl (refl, cc)
put_at name new [] once (suc i) y at = absurd (let bad : None ≡ Some y = at in cc)
put_at {A} name new (x ∷ xs) once i y at =
    by (same (name x) (name new)) refl i at (λ j there. put_at name new xs (once_behind name x xs once) j y there) where
      by : (b : Bool) → same (name x) (name new) ≡ b → (i : ℕ) → slice_get (put_first (is_named name (name new)) new (x ∷ xs)) i
          ≡ Some y
          → ((j : ℕ) → slice_get (put_first (is_named name (name new)) new xs) j ≡ Some y → PutAt name new xs j y)
          → PutAt name new (x ∷ xs) i y
      by true e zero there more = let is : new ≡ y = (let found : Some new ≡ Some y = rw e at there in cc) in
          inl (rw e refl, sym is)
      by true e (suc j) there more =
          let found : slice_get xs j ≡ Some y = rw e at there in
          inr (
            found,
            ap (λ z. same z (name y)) (sym (same_is (name x) (name new) e))
                ∙ once 0 (suc j) x y refl found (λ z. absurd (omega (arith, z))),
          )
      by false e zero there more =
          let is : x ≡ y = (let found : Some x ≡ Some y = rw e at there in cc) in
          inr (ap Some is, subst (λ (z : A). same (name new) (name z) ≡ false) is (apart_back (name x) (name new) e))
      by false e (suc j) there more = on (more j (rw e at there)) where
        on : PutAt name new xs j y → PutAt name new (x ∷ xs) (suc j) y
        on (inl last) = inl (rw e (ap suc last.0), last.1)
        on (inr before) = inr before

pub put_once : {A : Type 0} (name : A → Name) (new : A) (xs : List A) → Once name xs
    → Once name (put_first (is_named name (name new)) new xs)
put_once {A} name new xs once i j x y at_i at_j differ =
    by (put_at name new xs once i x at_i) (put_at name new xs once j y at_j) where
      by : PutAt name new xs i x → PutAt name new xs j y → same (name x) (name y) ≡ false
      by (inl one) (inl two) = absurd (differ (one.0 ∙ sym two.0))
      by (inl one) (inr two) = subst (λ (z : A). same (name z) (name y) ≡ false) (sym one.1) two.1
      by (inr one) (inl two) = subst (λ (z : A). same (name x) (name z) ≡ false) (sym two.1)
          (apart_back (name new) (name x) one.1)
      by (inr one) (inr two) = once i j x y one.0 two.0 differ

-- the name that was put finds the new element, and the others what they found
pub find_put : {A : Type 0} (name : A → Name) (new : A) (xs : List A) (x : Name)
    → find (is_named name x) (put_first (is_named name (name new)) new xs)
    ≡ (if same (name new) x then Some new else find (is_named name x) xs)
find_put name new [] x = refl
find_put {A} name new (y ∷ ys) x =
    by (same (name y) (name new)) refl (same (name new) x) refl (same (name y) x) refl (find_put name new ys x) where
      by : (b : Bool) → same (name y) (name new) ≡ b → (is : Bool) → same (name new) x ≡ is → (of : Bool) → same (name y) x ≡ of
          → find (is_named name x) (put_first (is_named name (name new)) new ys)
          ≡ (if same (name new) x then Some new else find (is_named name x) ys)
          → find (is_named name x) (put_first (is_named name (name new)) new (y ∷ ys))
          ≡ (if same (name new) x then Some new else find (is_named name x) (y ∷ ys))
      by true e true is of at more = rw (e, is) refl
      by true e false is true at more =
          absurd (let bad : true ≡ false = sym at ∙ ap (λ z. same z x) (same_is (name y) (name new) e) ∙ is in cc)
      by true e false is false at more = rw (e, is, at) refl
      by false e true is true at more =
          absurd (unlike (name y) (name new) e (same_is (name y) x at ∙ sym (same_is (name new) x is)))
      by false e true is false at more = rw (e, is, at) (more ∙ rw is refl)
      by false e false is true at more = rw (e, is, at) refl
      by false e false is false at more = rw (e, is, at) (more ∙ rw is refl)

-- an element is the one of the name, changed, or one of before with another name
pub data ChangedAt {A : Type 0} (name : A → Name) (a : Name) (change : A → A) (xs : List A) (i : ℕ) (y : A) : Type 0 where
  here : (x : A) → slice_get xs i ≡ Some x → name x ≡ a → i ≡ place (is_named name a) xs → y ≡ change x
      → ChangedAt name a change xs i y
  there : slice_get xs i ≡ Some y → ChangedAt name a change xs i y

pub changed_at : {A : Type 0} (name : A → Name) (a : Name) (change : A → A) (xs : List A) (i : ℕ) (y : A)
    → slice_get (change_first (is_named name a) change xs) i ≡ Some y → ChangedAt name a change xs i y
changed_at name a change [] i y at = absurd (let bad : None ≡ Some y = at in cc)
changed_at {A} name a change (x ∷ xs) i y at =
    by (same (name x) a) refl i at (λ j before. changed_at name a change xs j y before) where
      by : (b : Bool) → same (name x) a ≡ b → (i : ℕ) → slice_get (change_first (is_named name a) change (x ∷ xs)) i ≡ Some y
          → ((j : ℕ) → slice_get (change_first (is_named name a) change xs) j ≡ Some y → ChangedAt name a change xs j y)
          → ChangedAt name a change (x ∷ xs) i y
      by true e zero is more = let found : Some (change x) ≡ Some y = rw e at is in
          here x refl (same_is (name x) a e) (rw e refl) (let same_one : change x ≡ y = cc in sym same_one)
      by true e (suc j) is more = there (rw e at is)
      by false e zero is more = there (rw e at is)
      by false e (suc j) is more = on (more j (rw e at is)) where
        on : ChangedAt name a change xs j y → ChangedAt name a change (x ∷ xs) (suc j) y
        on (here z found named last new) = here z found named (rw e (ap suc last)) new
        on (there found) = there found

-- the place, before the element of a name was taken out, of what stands at a place after it
abbrev pub skip : {A : Type 0} → (A → Bool) → List A → ℕ → ℕ
skip test [] i = i
skip test (x ∷ xs) zero = if test x then 1 else 0
skip test (x ∷ xs) (suc i) = if test x then suc (suc i) else suc (skip test xs i)

pub left_at : {A : Type 0} (test : A → Bool) (xs : List A) (i : ℕ) (y : A) → slice_get (without_first test xs) i ≡ Some y
    → slice_get xs (skip test xs i) ≡ Some y
left_at test [] i y at = absurd (let bad : None ≡ Some y = at in cc)
left_at test (x ∷ xs) i y at = by (test x) refl i at (λ j found. left_at test xs j y found) where
  by : (b : Bool) → test x ≡ b → (i : ℕ) → slice_get (without_first test (x ∷ xs)) i ≡ Some y
      → ((j : ℕ) → slice_get (without_first test xs) j ≡ Some y → slice_get xs (skip test xs j) ≡ Some y)
      → slice_get (x ∷ xs) (skip test (x ∷ xs) i) ≡ Some y
  by true e zero found more = rw e (rw e at found)
  by true e (suc j) found more = rw e (rw e at found)
  by false e zero found more = rw e (rw e at found)
  by false e (suc j) found more = rw e (more j (rw e at found))

pub skip_apart : {A : Type 0} (test : A → Bool) (xs : List A) (i j : ℕ) → skip test xs i ≡ skip test xs j → i ≡ j
skip_apart test [] i j is = is
skip_apart test (x ∷ xs) i j is = by (test x) refl i j is (λ k l e. skip_apart test xs k l e) where
  by : (b : Bool) → test x ≡ b → (i j : ℕ) → skip test (x ∷ xs) i ≡ skip test (x ∷ xs) j
      → ((k l : ℕ) → skip test xs k ≡ skip test xs l → k ≡ l) → i ≡ j
  by true e zero zero e2 more = refl
  by true e zero (suc l) e2 more = let bad : 1 ≡ suc (suc l) = rw e at e2 in absurd (omega (arith, bad))
  by true e (suc k) zero e2 more = let bad : suc (suc k) ≡ 1 = rw e at e2 in absurd (omega (arith, bad))
  by true e (suc k) (suc l) e2 more = let good : suc (suc k) ≡ suc (suc l) = rw e at e2 in omega (arith, good)
  by false e zero zero e2 more = refl
  by false e zero (suc l) e2 more = let bad : 0 ≡ suc (skip test xs l) = rw e at e2 in absurd (omega (arith, bad))
  by false e (suc k) zero e2 more = let bad : suc (skip test xs k) ≡ 0 = rw e at e2 in absurd (omega (arith, bad))
  by false e (suc k) (suc l) e2 more = let good : suc (skip test xs k) ≡ suc (skip test xs l) = rw e at e2 in
      ap suc (more k l (omega (arith, good)))
