-- Each candidate is of a fact or a symbol that is there, and its multiplier is within its limits.
use Rattle.std.proofs.Common.{◌≡◌, ℕ, zero, suc, Bool, true, false, not, ◌&&◌, ◌||◌, nat_le, nat_lt, refl}
use Rattle.std.proofs.Common.{List, [], ◌∷◌, ◌++◌, length, take, Option, Some, None, option_and_then, ℤ, pos, negsuc, neg_ℤ}
use Rattle.std.specs.Prelude.{slice_get}
use Rattle.std.specs.Option.{option_or}
use Rattle.std.specs.List.{filter_map}
use Rattle.std.specs.Int.Signed.{le_z}
use Rattle.std.specs.Int.RustNames.{int_div, int_rem}
use Rattle.std.specs.Ordering.{int_eq}
use Rattle.std.proofs.lemmas.Bool.{lt-ltb}
use Rattle.std.proofs.lemmas.Option.{slice_get_within}
use Rattle.side_certs.specs.declared.certificate.Entry.{Entry}
use Rattle.side_certs.specs.LinearForm.{LinearForm, coefficient}
use Rattle.side_certs.specs.Closes.{greatest_multiplier}
use Rattle.side_certs.proofs.laws.Limits.{both}
use Rattle.cert_search.specs.Limits.{entry_in_range}
use Rattle.cert_search.specs.Search.{most_facts, multiplier, quotient, entry, fact_entry, newest, fitting}
use Rattle.cert_search.specs.Search.{symbol_entry, at_most_one, candidates}

abbrev Multiplies : ℕ → Type 0
Multiplies m = (nat_le 1 m && nat_le m greatest_multiplier) ≡ true

multiplier_fits : (z : ℤ) (m : ℕ) → multiplier z ≡ Some m → Multiplies m
multiplier_fits (negsuc n) m is = absurd (cc)
multiplier_fits (pos n) m is = by (le_z (pos 1) (pos n)) (le_z (pos n) (pos greatest_multiplier)) refl refl where
  by : (a b : Bool) → le_z (pos 1) (pos n) ≡ a → le_z (pos n) (pos greatest_multiplier) ≡ b → Multiplies m
  by true true p q = let inside = rw (p, q) at is in let same : n ≡ m = cc in rw (← same) (both p q)
  by true false p q = let none : ◌≡◌ {A = Option ℕ} None (Some m) = rw (p, q) at is in absurd (cc)
  by false b p q = let none : ◌≡◌ {A = Option ℕ} None (Some m) = rw p at is in absurd (cc)

quotient_fits : (c k : ℤ) (m : ℕ) → quotient c k ≡ Some m → Multiplies m
quotient_fits c k m is = by (int_eq k (pos 0) || not (int_eq (int_rem c k) (pos 0))) refl where
  by : (b : Bool) → (int_eq k (pos 0) || not (int_eq (int_rem c k) (pos 0))) ≡ b → Multiplies m
  by true e = let none : ◌≡◌ {A = Option ℕ} None (Some m) = rw e at is in absurd (cc)
  by false e = multiplier_fits (int_div c k) m (rw e at is)

-- an entry is made of its multiplier
entry_is : {P : Type 0} (kind number : ℕ) (o : Option ℕ) (e : Entry)
    → ((m : ℕ) → o ≡ Some m → record { kind = kind; number = number; mult = m } ≡ e → P) → entry kind number o ≡ Some e → P
entry_is {P = P} kind number None e each is = absurd (cc)
entry_is {P = P} kind number (Some m) e each is = each m refl (some_same _ e is) where
  some_same : (x y : Entry) → Some x ≡ Some y → x ≡ y
  some_same x y p = cc

module _ (facts : List LinearForm) (tops : List ℕ) where
  abbrev pub Fits : Entry → Type 0
  Fits e = entry_in_range facts tops e ≡ true

  abbrev pub AllFit : List Entry → Type 0
  AllFit [] = Unit {0}
  AllFit (e ∷ es) = Fits e × AllFit es

  fit_append : (es more : List Entry) → AllFit es → AllFit more → AllFit (es ++ more)
  fit_append [] more all others = others
  fit_append (e ∷ es) more all others = (all.0, fit_append es more all.1 others)

  fit_take : (n : ℕ) (es : List Entry) → AllFit es → AllFit (take n es)
  fit_take zero es all = tt
  fit_take (suc n) [] all = tt
  fit_take (suc n) (e ∷ es) all = (all.0, fit_take n es all.1)

  fit_filter : (offer : ℕ → Option Entry) → ((i : ℕ) (e : Entry) → offer i ≡ Some e → Fits e) → (is : List ℕ)
      → AllFit (filter_map offer is)
  fit_filter offer each [] = tt
  fit_filter offer each (i ∷ is) = by (offer i) refl (fit_filter offer each is) where
    by : (o : Option Entry) → offer i ≡ o → AllFit (filter_map offer is) → AllFit (filter_map offer (i ∷ is))
    by None is_none rest = rw is_none rest
    by (Some e) is_some rest = rw is_some (each i e is_some, rest)

  fact_fits : (t : ℕ × ℤ) (i : ℕ) (e : Entry) → fact_entry facts t i ≡ Some e → Fits e
  fact_fits t i e is = by (slice_get facts i) refl is where
    by : (o : Option LinearForm) → slice_get facts i ≡ o
        → option_and_then (λ f. entry 0 i (quotient t.1 (coefficient t.0 f.terms))) o ≡ Some e → Fits e
    by None p q = absurd (cc)
    by (Some f) p q =
        let there : nat_lt i (length facts) ≡ true = lt-ltb i (length facts) (slice_get_within facts i f p) in
        let k = coefficient t.0 f.terms in
        entry_is 0 i (quotient t.1 k) e (λ m made same. rw (← same) (both (quotient_fits t.1 k m made) there)) q

  symbol_fits : (t : ℕ × ℤ) → AllFit (at_most_one (symbol_entry tops t))
  symbol_fits t = by_top (slice_get tops t.0) refl where
    by_entries : (o p : Option Entry) → ((e : Entry) → o ≡ Some e → Fits e) → ((e : Entry) → p ≡ Some e → Fits e)
        → AllFit (at_most_one (option_or o p))
    by_entries (Some e) p each others = (each e refl, tt)
    by_entries None (Some e) each others = (others e refl, tt)
    by_entries None None each others = tt

    by_top : (o : Option ℕ) → slice_get tops t.0 ≡ o
        → AllFit (at_most_one (option_and_then
        (λ top. option_or (entry 1 t.0 (multiplier t.1)) (entry 2 t.0 (multiplier (neg_ℤ t.1)))) o))
    by_top None p = tt
    by_top (Some top) p =
        let there : nat_lt t.0 (length tops) ≡ true = lt-ltb t.0 (length tops) (slice_get_within tops t.0 top p) in
        let up = multiplier t.1 in
        let down = multiplier (neg_ℤ t.1) in
        by_entries (entry 1 t.0 up) (entry 2 t.0 down)
        (λ e is. entry_is 1 t.0 up e (λ m made same. rw (← same) (both (multiplier_fits t.1 m made) there)) is)
        (λ e is. entry_is 2 t.0 down e (λ m made same. rw (← same) (both (multiplier_fits (neg_ℤ t.1) m made) there)) is)

  pub candidates_fit : (t : ℕ × ℤ) → AllFit (candidates facts tops t)
  candidates_fit t =
      let fit = fitting facts t (length facts) in
      fit_append (take most_facts fit) (at_most_one (symbol_entry tops t))
      (fit_take most_facts fit (fit_filter (fact_entry facts t) (fact_fits t) (newest (length facts))))
      (symbol_fits t)
