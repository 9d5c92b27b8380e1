-- The arguments that a form is read from have magnitudes within the limit of forms.
use Rattle.std.proofs.Common.{◌≡◌, refl, sym, ap, subst, arith, ℕ, ◌+◌, ◌≤◌, ◌^◌, nat_le, Bool, true, false, not, ◌&&◌}
use Rattle.std.proofs.Common.{if◌then◌else◌, ℤ, pos, negsuc, List, [], ◌∷◌, length, Option, Some, None, is_some}
use Rattle.std.proofs.lemmas.Bool.{leb-true}
use Rattle.std.specs.List.{list_all}
use Rattle.std.specs.Ordering.{int_eq}
use Rattle.side_certs.specs.LinearForm.{LinearForm, is_small, all_small, is_within, within}
use Rattle.side_certs.proofs.laws.Terms.{both, and_parts}
use Rattle.stmt_rules.specs.Loops.{entry_form}
use Rattle.stmt_rules.specs.Words.{most_symbol, term_before, pairs, form_with, flat}

no_some : {A : Type 0} {B : Type 0} (a : A) → None ≡ Some a → B
no_some a is = absurd (let bad : false ≡ true = ap is_some is in cc)

symbol_small : (s : ℕ) → nat_le s most_symbol ≡ true → is_small (pos s) ≡ true
symbol_small s is = let less = leb-true s most_symbol is in (let near : s ≤ 2 ^ 40 = omega (arith, less) in grind (arith, near))

abbrev those : Option (List (ℕ × ℤ)) → List (ℕ × ℤ)
those None = []
those (Some ts) = ts

pairs_small : (least : ℕ) (zs : List ℤ) (ts : List (ℕ × ℤ)) → pairs least zs ≡ Some ts → all_small ts ≡ true
    → list_all is_small zs ≡ true
pairs_small least [] ts is small = refl
pairs_small least (z ∷ []) ts is small = no_some ts is
pairs_small least (negsuc s ∷ k ∷ rest) ts is small = no_some ts is
pairs_small least (pos s ∷ k ∷ rest) ts is small =
    by (nat_le least s && nat_le s most_symbol && not (int_eq k (pos 0))) refl (pairs (s + 1) rest)
    (λ us e h. pairs_small (s + 1) rest us e h) refl is
  where
    by : (b : Bool) → nat_le least s && nat_le s most_symbol && not (int_eq k (pos 0)) ≡ b → (o : Option (List (ℕ × ℤ)))
        → ((us : List (ℕ × ℤ)) → pairs (s + 1) rest ≡ Some us → all_small us ≡ true → list_all is_small rest ≡ true)
        → pairs (s + 1) rest ≡ o
        → (if b then term_before (Some s) k o else None) ≡ Some ts → list_all is_small (pos s ∷ k ∷ rest) ≡ true
    by false test o ih others is = no_some ts is
    by true test None ih others is = no_some ts is
    by true test (Some us) ih others is =
        let one = and_parts (nat_le least s && nat_le s most_symbol) (not (int_eq k (pos 0))) test in
        let two = and_parts (nat_le least s) (nat_le s most_symbol) one.0 in
        let same : ts ≡ (s, k) ∷ us = sym (ap those is) in
        let all : all_small ((s, k) ∷ us) ≡ true = subst (λ (l : List (ℕ × ℤ)). all_small l ≡ true) same small in
        let parts = and_parts (is_small k) (all_small us) all in
        both (symbol_small s two.1) (both parts.0 (ih us others parts.1))

within_small : (f g : LinearForm) → within f ≡ Some g → (is_small f.constant ≡ true) × (all_small f.terms ≡ true)
within_small f g = by (is_within f) refl
  where
    by : (b : Bool) → is_within f ≡ b → (if b then Some f else None) ≡ Some g
        → (is_small f.constant ≡ true) × (all_small f.terms ≡ true)
    by true test is =
        let one = and_parts (is_small f.constant && nat_le (length f.terms) 16) (all_small f.terms) test in
        ((and_parts (is_small f.constant) (nat_le (length f.terms) 16) one.0).0, one.1)
    by false test is = no_some g is

-- the arguments of a note
pub flat_small : (zs : List ℤ) (f : LinearForm) → flat zs ≡ Some f → list_all is_small zs ≡ true
flat_small [] f is = no_some f is
flat_small (k ∷ rest) f is = by (pairs 0 rest) refl is
  where
    by : (o : Option (List (ℕ × ℤ))) → pairs 0 rest ≡ o → form_with k o ≡ Some f → list_all is_small (k ∷ rest) ≡ true
    by None e is = no_some f is
    by (Some ts) e is = let parts = within_small (record { constant = k; terms = ts }) f is in
        both parts.0 (pairs_small 0 rest ts e parts.1)

-- of so many entry symbols
pub trip_args_small : (entries : ℕ) (zs : List ℤ) (f : LinearForm) → entry_form entries (flat zs) ≡ Some f
    → list_all is_small zs ≡ true
trip_args_small entries zs f = by (flat zs) refl
  where
    by : (o : Option LinearForm) → flat zs ≡ o → entry_form entries o ≡ Some f → list_all is_small zs ≡ true
    by None e is = no_some f is
    by (Some g) e is = flat_small zs g e
