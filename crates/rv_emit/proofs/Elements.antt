-- What is among the elements of a list, and of those that pass a test.
use Rattle.std.proofs.Common.{◌≡◌, ℕ, zero, suc, ◌<◌, ◌≤◌, Bool, true, false, ◌||◌, ◌&&◌, nat_eq, cond, filter, drop, List, []}
use Rattle.std.proofs.Common.{◌∷◌, length, map, Option, Some, None, slice_get, slice_index_or, refl, sym, ap, ◌∙◌, subst, arith}
use Rattle.rup_base.specs.Gather.{all_true}

pub or_left : (a b : Bool) → a ≡ true → (a || b) ≡ true
or_left true b h = refl
or_left false b h = absurd (cc)

pub or_right : (a b : Bool) → b ≡ true → (a || b) ≡ true
or_right true b h = refl
or_right false b h = h

pub and_left : (a b : Bool) → (a && b) ≡ true → a ≡ true
and_left true b h = refl
and_left false b h = absurd (cc)

pub and_right : (a b : Bool) → (a && b) ≡ true → b ≡ true
and_right true b h = h
and_right false b h = absurd (cc)

pub equal_numbers : (a b : ℕ) → a ≡ b → nat_eq a b ≡ true
equal_numbers a b h = grind (arith, h)

pub same_numbers : (a b : ℕ) → nat_eq a b ≡ true → a ≡ b
same_numbers a b h = grind (arith, h)

pub record Kept (test : ℕ → Bool) (xs : List ℕ) (r : ℕ) : Type 0 where
  pub place : ℕ
  pub is : slice_get xs place ≡ Some r
  pub passes : test r ≡ true

later_kept : (test : ℕ → Bool) (x : ℕ) (xs : List ℕ) (r : ℕ) → Kept test xs r → Kept test (x ∷ xs) r
later_kept test x xs r k = record { place = suc k.place; is = k.is; passes = k.passes }

pub filtered : (test : ℕ → Bool) (xs : List ℕ) (i r : ℕ) → slice_get (filter test xs) i ≡ Some r → Kept test xs r
filtered test [] i r found = absurd (let bad : ◌≡◌ {A = Option ℕ} None (Some r) = found in cc)
filtered test (x ∷ xs) i r found = by_case (λ i at. later_kept test x xs r (filtered test xs i r at)) (test x) refl i found
  where
    by_case : ((i : ℕ) → slice_get (filter test xs) i ≡ Some r → Kept test (x ∷ xs) r) → (b : Bool) → test x ≡ b → (i : ℕ)
        → slice_get (cond b (x ∷ filter test xs) (filter test xs)) i ≡ Some r → Kept test (x ∷ xs) r
    by_case rest true is zero at = let e : x ≡ r = cc in record { place = 0; is = at; passes = ap test (sym e) ∙ is }
    by_case rest true is (suc i) at = rest i at
    by_case rest false is i at = rest i at

pub record Among (xs : List ℕ) (r : ℕ) : Type 0 where
  pub place : ℕ
  pub is : slice_get xs place ≡ Some r

next_among : (x : ℕ) (xs : List ℕ) (r : ℕ) → Among xs r → Among (x ∷ xs) r
next_among x xs r a = record { place = suc a.place; is = a.is }

pub passed : (test : ℕ → Bool) (xs : List ℕ) (k r : ℕ) → slice_get xs k ≡ Some r → test r ≡ true → Among (filter test xs) r
passed test [] k r found passes = absurd (let bad : ◌≡◌ {A = Option ℕ} None (Some r) = found in cc)
passed test (x ∷ xs) zero r found passes =
    let e : x ≡ r = cc in
    let is : test x ≡ true = ap test e ∙ passes in
    subst (λ b. Among (cond b (x ∷ filter test xs) (filter test xs)) r) (sym is) (record { place = 0; is = found })
passed test (x ∷ xs) (suc k) r found passes = by_case (passed test xs k r found passes) (test x)
  where
    by_case : Among (filter test xs) r → (b : Bool) → Among (cond b (x ∷ filter test xs) (filter test xs)) r
    by_case rest true = next_among x (filter test xs) r rest
    by_case rest false = rest

pub length-filter : (test : ℕ → Bool) (xs : List ℕ) → length (filter test xs) ≤ length xs
length-filter test [] = omega arith
length-filter test (x ∷ xs) = by_case (length-filter test xs) (test x)
  where
    by_case : length (filter test xs) ≤ length xs → (b : Bool)
        → length (cond b (x ∷ filter test xs) (filter test xs)) ≤ length (x ∷ xs)
    by_case rest true = omega arith
    by_case rest false = omega arith

pub one_of : (test : ℕ → Bool) (xs : List ℕ) → all_true (map test xs) ≡ true → (k r : ℕ) → slice_get xs k ≡ Some r → test r ≡ true
one_of test [] all k r found = absurd (let bad : ◌≡◌ {A = Option ℕ} None (Some r) = found in cc)
one_of test (x ∷ xs) all zero r found = let e : x ≡ r = cc in
    subst (λ z. test z ≡ true) e (and_left (test x) (all_true (map test xs)) all)
one_of test (x ∷ xs) all (suc k) r found = one_of test xs (and_right (test x) (all_true (map test xs)) all) k r found

abbrev pub contains : List ℕ → ℕ → Bool
contains [] r = false
contains (x ∷ xs) r = nat_eq x r || contains xs r

pub found_in : (xs : List ℕ) (r : ℕ) → contains xs r ≡ true → Among xs r
found_in [] r h = absurd (cc)
found_in (x ∷ xs) r h = by_case (λ g. next_among x xs r (found_in xs r g)) (nat_eq x r) refl h
  where
    by_case : (contains xs r ≡ true → Among (x ∷ xs) r) → (b : Bool) → nat_eq x r ≡ b → (b || contains xs r) ≡ true
        → Among (x ∷ xs) r
    by_case rest true is g = record { place = 0; is = ap Some (same_numbers x r is) }
    by_case rest false is g = rest g

pub entry_of : {A : Type 0} (xs : List A) (x : ℕ) (d : A) → x < length xs → slice_get xs x ≡ Some (slice_index_or xs x d)
entry_of [] x d below = absurd (omega arith)
entry_of (y ∷ xs) zero d below = refl
entry_of (y ∷ xs) (suc x) d below = entry_of xs x d (omega arith)

got_dropped : {A : Type 0} (xs : List A) (i : ℕ) (x : A) → slice_get xs i ≡ Some x → drop i xs ≡ x ∷ drop (suc i) xs
got_dropped [] i x found = absurd (cc)
got_dropped (y ∷ xs) zero x found = let e : y ≡ x = cc in ap (λ z. z ∷ xs) e
got_dropped (y ∷ xs) (suc i) x found = got_dropped xs i x found

pub got_before : {A : Type 0} (xs : List A) (k i : ℕ) (x : A) → k ≡ suc i → slice_get xs i ≡ Some x → drop i xs ≡ x ∷ drop k xs
got_before xs k i x next found = got_dropped xs i x found ∙ ap (λ n. x ∷ drop n xs) (sym next)
