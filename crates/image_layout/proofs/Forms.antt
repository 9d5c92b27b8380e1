-- A form with one more term behind its terms is the sum of it and that term.
use Rattle.std.proofs.Common.{◌≡◌, ℕ, ◌+◌, ◌<◌, ◌≤◌, true, false, ◌&&◌, List, [], ◌∷◌, ◌++◌, length, Option, Some, ℤ, pos, ◌+ℤ◌}
use Rattle.std.proofs.Common.{◌*ℤ◌, nat_lt, nat_le, refl, sym, ap, ◌∙◌, arith, length-append}
use Rattle.std.specs.Ordering.{int_eq}
use Rattle.std.specs.Option.{IsSome}
use Rattle.std.proofs.lemmas.Bool.{le-leb, lt-ltb}
use Rattle.std.proofs.Math.IntN.{one, *ℤ-zero, *ℤ-one, +ℤ_idr}
use Rattle.side_certs.specs.LinearForm.{LinearForm, is_small, all_small, is_within, within, keep, merge, rises_from, plus, times}
use Rattle.side_certs.specs.LinearForm.{symbol}
use Rattle.side_certs.proofs.laws.Terms.{both, and_parts, all_small-append, rises_parts, rises_made}
use Rattle.image_layout.specs.Reading.{next_symbol}

last_not_zero : (least : ℕ) (ts : List (ℕ × ℤ)) (u : ℕ × ℤ) → rises_from least (ts ++ u ∷ []) ≡ true → int_eq u.1 (pos 0) ≡ false
last_not_zero least [] u rise = let p = rises_parts least u [] rise in p.1
last_not_zero least (t ∷ ts) u rise = let p = rises_parts least t (ts ++ u ∷ []) rise in last_not_zero (t.0 + 1) ts u p.2

last_from : (least : ℕ) (ts : List (ℕ × ℤ)) (u : ℕ × ℤ) → rises_from least (ts ++ u ∷ []) ≡ true → least ≤ u.0
last_from least [] u rise = let p = rises_parts least u [] rise in p.0
last_from least (t ∷ ts) u rise =
    let p = rises_parts least t (ts ++ u ∷ []) rise in
    let rest : t.0 + 1 ≤ u.0 = last_from (t.0 + 1) ts u p.2 in
    omega (arith, p.0)

keep_is : (s : ℕ) (k : ℤ) (ts : List (ℕ × ℤ)) → int_eq k (pos 0) ≡ false → keep s k ts ≡ (s, k) ∷ ts
keep_is s k ts e = rw e refl

merge_behind : (least : ℕ) (ts : List (ℕ × ℤ)) (u : ℕ × ℤ) → rises_from least (ts ++ u ∷ []) ≡ true
    → merge ts (u ∷ []) ≡ ts ++ u ∷ []
merge_behind least [] u rise = let p = rises_parts least u [] rise in keep_is u.0 u.1 [] p.1
merge_behind least (t ∷ ts) u rise =
    let p = rises_parts least t (ts ++ u ∷ []) rise in
    let after : t.0 + 1 ≤ u.0 = last_from (t.0 + 1) ts u p.2 in
    let less : nat_lt t.0 u.0 ≡ true = lt-ltb _ _ (omega arith) in
    let kept : keep t.0 t.1 (merge ts (u ∷ [])) ≡ t ∷ merge ts (u ∷ []) = keep_is t.0 t.1 (merge ts (u ∷ [])) p.1 in
    rw less (kept ∙ ap (λ (x : List (ℕ × ℤ)). t ∷ x) (merge_behind (t.0 + 1) ts u p.2))

abbrev pub one_term : ℕ → ℤ → LinearForm
one_term s k = record { constant = pos 0; terms = (s, k) ∷ [] }

within_is : (f : LinearForm) → is_within f ≡ true → within f ≡ Some f
within_is f e = rw e refl

times_one : (s : ℕ) (k : ℤ) → int_eq k (pos 0) ≡ false → times k (symbol s) ≡ one_term s k
unfolding one
times_one s k not_zero =
    let zero_is : k *ℤ pos 0 ≡ pos 0 = *ℤ-zero k in
    let one_is : k *ℤ pos 1 ≡ k = *ℤ-one k in
    rw (zero_is, one_is, not_zero) refl

pub scaled : (f : LinearForm) (s : ℕ) (k : ℤ) → rises_from 0 (f.terms ++ (s, k) ∷ []) ≡ true → is_small k ≡ true
    → within (times k (symbol s)) ≡ Some (one_term s k)
scaled f s k rise small =
    let not_zero : int_eq k (pos 0) ≡ false = last_not_zero 0 f.terms (s, k) rise in
    let limits : is_within (one_term s k) ≡ true = both refl (both small refl) in
    ap within (times_one s k not_zero) ∙ within_is (one_term s k) limits

pub added : (f : LinearForm) (s : ℕ) (k : ℤ) → is_within f ≡ true → rises_from 0 (f.terms ++ (s, k) ∷ []) ≡ true
    → length f.terms < 16 → is_small k ≡ true
    → within (plus f (one_term s k)) ≡ Some (record { constant = f.constant; terms = f.terms ++ (s, k) ∷ [] })
added f s k limits rise room small =
    let p = and_parts (is_small f.constant && nat_le (length f.terms) 16) (all_small f.terms) limits in
    let q = and_parts (is_small f.constant) (nat_le (length f.terms) 16) p.0 in
    let short : nat_le (length (f.terms ++ (s, k) ∷ [])) 16
    ≡ true = le-leb _ _ (omega (arith, length-append f.terms ((s, k) ∷ []))) in
    let sum_is : f.constant +ℤ pos 0 ≡ f.constant = +ℤ_idr f.constant in
    let whole : plus f (one_term s k) ≡ record { constant = f.constant; terms = f.terms ++ (s, k) ∷ [] } =
    rw (sum_is, merge_behind 0 f.terms (s, k) rise) refl in
    ap within whole ∙ within_is (record { constant = f.constant; terms = f.terms ++ (s, k) ∷ [] })
    (both (both q.0 short) (all_small-append f.terms (s, k) p.1 small))

pub rises_push : (least : ℕ) (ts : List (ℕ × ℤ)) (u : ℕ × ℤ) → rises_from least ts ≡ true → next_symbol least ts ≤ u.0
    → int_eq u.1 (pos 0) ≡ false → rises_from least (ts ++ u ∷ []) ≡ true
rises_push least [] u rise after not_zero = rises_made least u [] after not_zero refl
rises_push least (t ∷ ts) u rise after not_zero = let p = rises_parts least t ts rise in
    rises_made least t (ts ++ u ∷ []) p.0 p.1 (rises_push (t.0 + 1) ts u p.2 after not_zero)

pub next_symbol-push : (least : ℕ) (ts : List (ℕ × ℤ)) (u : ℕ × ℤ) → next_symbol least (ts ++ u ∷ []) ≡ u.0 + 1
next_symbol-push least [] u = refl
next_symbol-push least (t ∷ ts) u = next_symbol-push (t.0 + 1) ts u

-- the same of the results of calls
add_is : (f : LinearForm) (s : ℕ) (k number : ℤ) (scale : Option LinearForm) (term : LinearForm) (sum : Option LinearForm)
    → is_within f ≡ true → rises_from 0 (f.terms ++ (s, k) ∷ []) ≡ true
    → length f.terms < 16 → is_small k ≡ true → number ≡ k → scale ≡ within (times number (symbol s)) → scale ≡ Some term
    → sum ≡ within (plus f term)
    → sum ≡ Some (record { constant = f.constant; terms = f.terms ++ (s, k) ∷ [] })
add_is f s k number scale term sum limits rise room small same scale_is term_is sum_is =
    let made : within (times number (symbol s)) ≡ Some (one_term s k) = ap (λ (n : ℤ). within (times n (symbol s))) same
    ∙ scaled f s k rise small in
    let one : Some term ≡ Some (one_term s k) = sym term_is ∙ scale_is ∙ made in
    let term_now : term ≡ one_term s k = cc in
    sum_is ∙ ap (λ (t : LinearForm). within (plus f t)) term_now ∙ added f s k limits rise room small

pub some_longer : (f : LinearForm) (s : ℕ) (k number : ℤ) (scale : Option LinearForm) (term : LinearForm)
    (sum : Option LinearForm) → is_within f ≡ true → rises_from 0 (f.terms ++ (s, k) ∷ []) ≡ true
    → length f.terms < 16 → is_small k ≡ true → number ≡ k → scale ≡ within (times number (symbol s)) → scale ≡ Some term
    → sum ≡ within (plus f term) → IsSome sum
some_longer f s k number scale term sum limits rise room small same scale_is term_is sum_is =
    rw (add_is f s k number scale term sum limits rise room small same scale_is term_is sum_is) refl

pub longer_is : (f : LinearForm) (s : ℕ) (k number : ℤ) (scale : Option LinearForm) (term : LinearForm) (sum : Option LinearForm)
    (new : LinearForm) → is_within f ≡ true
    → rises_from 0 (f.terms ++ (s, k) ∷ []) ≡ true → length f.terms < 16 → is_small k ≡ true → number ≡ k
    → scale ≡ within (times number (symbol s)) → scale ≡ Some term → sum ≡ within (plus f term)
    → sum ≡ Some new → (new.constant ≡ f.constant) × (new.terms ≡ f.terms ++ (s, k) ∷ [])
longer_is f s k number scale term sum new limits rise room small same scale_is term_is sum_is new_is =
    let both_are : Some new ≡ Some (record { constant = f.constant; terms = f.terms ++ (s, k) ∷ [] }) =
    sym new_is ∙ add_is f s k number scale term sum limits rise room small same scale_is term_is sum_is in
    let e : new ≡ record { constant = f.constant; terms = f.terms ++ (s, k) ∷ [] } = cc in
    (ap (λ (g : LinearForm). g.constant) e, ap (λ (g : LinearForm). g.terms) e)
