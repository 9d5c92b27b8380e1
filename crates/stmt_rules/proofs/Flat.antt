-- Forms as arguments: terms that are put behind one another.
use Rattle.std.proofs.Common.{◌≡◌, refl, sym, ◌∙◌, ap, subst, arith, ℕ, suc, ◌+◌, ◌-◌, take, drop, slice_index_or, ◌<◌, ◌≤◌, Bool}
use Rattle.std.proofs.Common.{true, false, not, ◌&&◌, List, [], ◌∷◌, ◌++◌, length, Option, Some, None, ℤ, pos, negsuc, ◌+ℤ◌, ◌*ℤ◌}
use Rattle.std.proofs.Common.{nat_le, nat_lt, append_assoc, if◌then◌else◌, ◌*◌}
use Rattle.std.specs.Ordering.{int_eq}
use Rattle.std.proofs.lemmas.Bool.{leb-true, le-leb, ltb-true, lt-ltb}
use Rattle.std.proofs.lemmas.Int.{ints}
use Rattle.side_certs.specs.LinearForm.{LinearForm, symbol, is_small, all_small, is_within, rises_from, within, merge, times}
use Rattle.side_certs.specs.LinearForm.{plus}
use Rattle.side_certs.proofs.laws.Limits.{and_parts, rises_parts}
use Rattle.side_certs.proofs.laws.Products.{times_nothing}
use Rattle.stmt_rules.specs.Words.{up_to, most_symbol, term_before, pairs, behind, with_terms, are_before}

-- Numbers.

times_one : (k : ℤ) → k *ℤ pos 1 ≡ k
times_one (pos n) = let whole : n * 1 ≡ n = omega arith in ap pos whole
times_one (negsuc n) = let whole : suc n * 1 ≡ suc n = omega arith in grind arith

up_to_is : (most : ℕ) (a : ℤ) (s : ℕ) → up_to most a ≡ Some s → (a ≡ pos s) × (nat_le s most ≡ true)
up_to_is most (negsuc n) s is = absurd (let bad : None ≡ Some s = is in cc)
up_to_is most (pos n) s is = by (nat_le n most) refl where
  by : (b : Bool) → nat_le n most ≡ b → (pos n ≡ pos s) × (nat_le s most ≡ true)
  by false e = absurd (let bad : None ≡ Some s = rw e at is in cc)
  by true e =
      let both : Some n ≡ Some s = rw e at is in
      let one : n ≡ s = cc in
      (ap pos one, subst (λ m. nat_le m most ≡ true) one e)

-- a first number that is no symbol
pub pairs_none : (least : ℕ) (a k : ℤ) (rest : List ℤ) → up_to most_symbol a ≡ None → pairs least (a ∷ k ∷ rest) ≡ None
pairs_none least (negsuc n) k rest is = refl
pairs_none least (pos n) k rest is = by (nat_le least n) (nat_le n most_symbol) refl where
  by : (a b : Bool) → nat_le n most_symbol ≡ b
      → (if a && b && not (int_eq k (pos 0)) then term_before (Some n) k (pairs (n + 1) rest) else None) ≡ None
  by false b e = refl
  by true false e = refl
  by true true e = absurd (let bad : Some n ≡ None = rw e at is in cc)

pub pairs_low : (least : ℕ) (a k : ℤ) (rest : List ℤ) (s : ℕ) → up_to most_symbol a ≡ Some s → s < least
    → pairs least (a ∷ k ∷ rest) ≡ None
pairs_low least a k rest s is low =
    rw ((up_to_is most_symbol a s is).0) (by (nat_le least s) refl)
  where
    by : (b : Bool) → nat_le least s ≡ b
        → (if b && nat_le s most_symbol && not (int_eq k (pos 0)) then term_before (Some s) k (pairs (s + 1) rest) else None)
        ≡ None
    by false e = refl
    by true e = absurd (let less = leb-true least s e in omega (arith, less, low))

pub pairs_zero : (least : ℕ) (a k : ℤ) (rest : List ℤ) (s : ℕ) → up_to most_symbol a ≡ Some s → int_eq k (pos 0) ≡ true
    → pairs least (a ∷ k ∷ rest) ≡ None
pairs_zero least a k rest s is nothing =
    rw ((up_to_is most_symbol a s is).0, nothing) (by (nat_le least s) (nat_le s most_symbol))
  where
    by : (a b : Bool) → (if a && b && false then term_before (Some s) k (pairs (s + 1) rest) else None) ≡ None
    by false b = refl
    by true false = refl
    by true true = refl

pub pairs_more : (least : ℕ) (a k : ℤ) (rest : List ℤ) (s : ℕ) → up_to most_symbol a ≡ Some s → least ≤ s
    → int_eq k (pos 0) ≡ false
    → pairs least (a ∷ k ∷ rest) ≡ term_before (Some s) k (pairs (s + 1) rest)
pairs_more least a k rest s is from counts =
    let up = up_to_is most_symbol a s is in
    rw (up.0, counts, up.1, le-leb least s from) refl

-- Terms.

pub merge_behind : (ts : List (ℕ × ℤ)) (least s : ℕ) (k : ℤ) → rises_from least ts ≡ true → are_before s ts ≡ true
    → int_eq k (pos 0) ≡ false → merge ts ((s, k) ∷ []) ≡ ts ++ (s, k) ∷ []
merge_behind [] least s k rises before counts = rw counts refl
merge_behind (t ∷ ts) least s k rises before counts =
    let r = rises_parts least t ts rises in
    let b = and_parts (nat_lt t.0 s) (are_before s ts) before in
    let more = merge_behind ts (t.0 + 1) s k r.2 b.1 counts in
    rw (b.0, r.1, more) refl

term_is : (s : ℕ) (k : ℤ) → int_eq k (pos 0) ≡ false → times k (symbol s) ≡ record { constant = pos 0; terms = (s, k) ∷ [] }
term_is s k counts =
    let one : k *ℤ pos 1 ≡ k = times_one k in
    let nothing : k *ℤ pos 0 ≡ pos 0 = times_nothing k in
    rw (one, nothing, counts) refl

plus_nothing : (k : ℤ) → k +ℤ pos 0 ≡ k
plus_nothing k = omega (arith, ints)

pub behind_is : (f : LinearForm) (s : ℕ) (k : ℤ) → rises_from 0 f.terms ≡ true → are_before s f.terms ≡ true
    → int_eq k (pos 0) ≡ false → plus f (times k (symbol s)) ≡ behind f s k
behind_is f s k rises before counts =
    ap (plus f) (term_is s k counts)
    ∙ ap (λ l. record { constant = f.constant +ℤ pos 0; terms = l }) (merge_behind f.terms 0 s k rises before counts)
    ∙ ap (λ n. record { constant = n; terms = f.terms ++ (s, k) ∷ [] }) (plus_nothing f.constant)

-- Limits.

small_front : (ts us : List (ℕ × ℤ)) → all_small (ts ++ us) ≡ true → all_small ts ≡ true
small_front [] us all = refl
small_front (t ∷ ts) us all =
    let p = and_parts (is_small t.1) (all_small (ts ++ us)) all in
    rw (p.0, small_front ts us p.1) refl

small_back : (ts us : List (ℕ × ℤ)) → all_small (ts ++ us) ≡ true → all_small us ≡ true
small_back [] us all = all
small_back (t ∷ ts) us all = small_back ts us (and_parts (is_small t.1) (all_small (ts ++ us)) all).1

few_front : (ts us : List (ℕ × ℤ)) → length ts ≤ length (ts ++ us)
few_front [] us = omega arith
few_front (t ∷ ts) us = let more = few_front ts us in omega (arith, more)

within_parts : (c : ℤ) (ts : List (ℕ × ℤ)) → is_within (record { constant = c; terms = ts }) ≡ true
    → (is_small c ≡ true) × (length ts ≤ 16) × (all_small ts ≡ true)
within_parts c ts is =
    let p = and_parts (is_small c && nat_le (length ts) 16) (all_small ts) is in
    let q = and_parts (is_small c) (nat_le (length ts) 16) p.0 in
    (q.0, leb-true (length ts) 16 q.1, p.1)

within_front : (c : ℤ) (ts us : List (ℕ × ℤ)) → is_within (record { constant = c; terms = ts ++ us }) ≡ true
    → is_within (record { constant = c; terms = ts }) ≡ true
within_front c ts us is =
    let p = within_parts c (ts ++ us) is in
    let few = few_front ts us in
    rw (p.0, le-leb (length ts) 16 (let most = p.1 in omega (arith, most, few)), small_front ts us p.2) refl

-- a form with further terms passes a limit that it passes with fewer
pub no_more : (f : LinearForm) (s : ℕ) (k : ℤ) (o : Option (List (ℕ × ℤ))) → within (behind f s k) ≡ None
    → with_terms f (term_before (Some s) k o) ≡ None
no_more f s k None wide = refl
no_more f s k (Some ts) wide = by (is_within (record { constant = f.constant; terms = f.terms ++ (s, k) ∷ ts })) refl where
  by : (b : Bool) → is_within (record { constant = f.constant; terms = f.terms ++ (s, k) ∷ ts }) ≡ b
      → with_terms f (Some ((s, k) ∷ ts)) ≡ None
  by false e = rw e refl
  by true e =
      let split : (f.terms ++ ((s, k) ∷ [])) ++ ts ≡ f.terms ++ ((s, k) ∷ ts) = append_assoc f.terms ((s, k) ∷ []) ts in
      let front = within_front f.constant (f.terms ++ (s, k) ∷ []) ts
      (ap (λ l. is_within (record { constant = f.constant; terms = l })) split ∙ e) in
      absurd (let bad : Some (behind f s k) ≡ None = rw front at wide in cc)

-- and so with a term that passes one by itself
pub no_term : (f : LinearForm) (s : ℕ) (k : ℤ) → int_eq k (pos 0) ≡ false → within (times k (symbol s)) ≡ None
    → within (behind f s k) ≡ None
no_term f s k counts wide = by (is_within (behind f s k)) refl where
  by : (b : Bool) → is_within (behind f s k) ≡ b → within (behind f s k) ≡ None
  by false e = rw e refl
  by true e =
      let all = (within_parts f.constant (f.terms ++ (s, k) ∷ []) e).2 in
      let small : all_small ((s, k) ∷ []) ≡ true = small_back f.terms ((s, k) ∷ []) all in
      let one : within (record { constant = pos 0; terms = (s, k) ∷ [] }) ≡ None = ap within (sym (term_is s k counts)) ∙ wide in
      absurd (let bad : Some (record { constant = pos 0; terms = (s, k) ∷ [] }) ≡ None = rw small at one in cc)

pub more_terms : (f : LinearForm) (s : ℕ) (k : ℤ) (o : Option (List (ℕ × ℤ)))
    → with_terms (behind f s k) o ≡ with_terms f (term_before (Some s) k o)
more_terms f s k None = refl
more_terms f s k (Some ts) =
    ap (λ l. within (record { constant = f.constant; terms = l })) (append_assoc f.terms ((s, k) ∷ []) ts)

pub before_more : (ts : List (ℕ × ℤ)) (least s : ℕ) (k : ℤ) → are_before least ts ≡ true → least ≤ s
    → are_before (s + 1) (ts ++ (s, k) ∷ []) ≡ true
before_more [] least s k before from = rw (lt-ltb s (s + 1) (omega arith)) refl
before_more (t ∷ ts) least s k before from =
    let p = and_parts (nat_lt t.0 least) (are_before least ts) before in
    let low = ltb-true t.0 least p.0 in
    rw (lt-ltb t.0 (s + 1) (omega (arith, low, from)), before_more ts least s k p.1 from) refl

pub before_least : (ts : List (ℕ × ℤ)) (least s : ℕ) → are_before least ts ≡ true → least ≤ s → are_before s ts ≡ true
before_least [] least s before from = refl
before_least (t ∷ ts) least s before from =
    let p = and_parts (nat_lt t.0 least) (are_before least ts) before in
    let low = ltb-true t.0 least p.0 in
    rw (lt-ltb t.0 s (omega (arith, low, from)), before_least ts least s p.1 from) refl

within_is : (f g : LinearForm) → within f ≡ Some g → g ≡ f
within_is f g is = by (is_within f) refl where
  by : (b : Bool) → is_within f ≡ b → g ≡ f
  by true e = let both : Some f ≡ Some g = rw e at is in cc
  by false e = absurd (let bad : None ≡ Some g = rw e at is in cc)

-- the sum with a term is the form with the term behind it
pub added_is : (f g : LinearForm) (s : ℕ) (k : ℤ) → rises_from 0 f.terms ≡ true → are_before s f.terms ≡ true
    → int_eq k (pos 0) ≡ false → within (times k (symbol s)) ≡ Some g
    → within (plus f g) ≡ within (behind f s k)
added_is f g s k rises before counts is =
    ap (λ h. within (plus f h)) (within_is (times k (symbol s)) g is) ∙ ap within (behind_is f s k rises before counts)

-- Arguments of which two are taken.

take_whole : (xs : List ℤ) → take (length xs) xs ≡ xs
take_whole [] = refl
take_whole (x ∷ xs) = ap (λ l. x ∷ l) (take_whole xs)

pairs_here : (xs : List ℤ) (least s : ℕ) → 2 ≤ length xs → up_to most_symbol (slice_index_or xs 0 (pos 0)) ≡ Some s → least ≤ s
    → int_eq (slice_index_or xs 1 (pos 0)) (pos 0) ≡ false
    → pairs least xs ≡ term_before (Some s) (slice_index_or xs 1 (pos 0)) (pairs (s + 1) (take (length xs - 2) (drop 2 xs)))
pairs_here [] least s long is from counts = absurd (omega (arith, long))
pairs_here (a ∷ []) least s long is from counts = absurd (omega (arith, long))
pairs_here (a ∷ k ∷ rest) least s long is from counts =
    let count : suc (suc (length rest)) - 2 ≡ length rest = omega arith in
    pairs_more least a k rest s is from counts
    ∙ ap (λ l. term_before (Some s) k (pairs (s + 1) l)) (sym (ap (λ n. take n rest) count ∙ take_whole rest))

module _ (f : LinearForm) (xs : List ℤ) (least s : ℕ) (long : 2 ≤ length xs)
    (is : up_to most_symbol (slice_index_or xs 0 (pos 0)) ≡ Some s) (from : least ≤ s)
    (counts : int_eq (slice_index_or xs 1 (pos 0)) (pos 0) ≡ false) where
  pub went : (more : LinearForm) → within (behind f s (slice_index_or xs 1 (pos 0))) ≡ Some more
      → with_terms more (pairs (s + 1) (take (length xs - 2) (drop 2 xs))) ≡ with_terms f (pairs least xs)
  went more there =
      ap (λ g. with_terms g (pairs (s + 1) (take (length xs - 2) (drop 2 xs))))
      (within_is (behind f s (slice_index_or xs 1 (pos 0))) more there)
      ∙ more_terms f s (slice_index_or xs 1 (pos 0)) (pairs (s + 1) (take (length xs - 2) (drop 2 xs)))
      ∙ ap (with_terms f) (sym (pairs_here xs least s long is from counts))

  pub stopped : within (behind f s (slice_index_or xs 1 (pos 0))) ≡ None → with_terms f (pairs least xs) ≡ None
  stopped wide = ap (with_terms f) (pairs_here xs least s long is from counts)
      ∙ no_more f s (slice_index_or xs 1 (pos 0)) (pairs (s + 1) (take (length xs - 2) (drop 2 xs))) wide

pub before_added : (f more : LinearForm) (least s : ℕ) (k : ℤ) → are_before least f.terms ≡ true → least ≤ s
    → within (behind f s k) ≡ Some more → are_before (s + 1) more.terms ≡ true
before_added f more least s k before from there =
    subst (λ (g : LinearForm). are_before (s + 1) g.terms ≡ true) (sym (within_is (behind f s k) more there))
    (before_more f.terms least s k before from)
