-- What a certificate that closes says: its test, and the goal.
use Rattle.std.proofs.Common.{◌≡◌, ◌↔◌, ℕ, zero, suc, ◌+◌, ◌-◌, ◌≤◌, Bool, true, false, ◌&&◌, if◌then◌else◌, List, [], ◌∷◌, ◌++◌}
use Rattle.std.proofs.Common.{length, take, drop, slice_index_or, Option, Some, None, ℤ, pos, neg_ℤ, ◌+ℤ◌, ◌*ℤ◌, ◌≤ℤ◌, nat_eq}
use Rattle.std.proofs.Common.{nat_le, refl, sym, ap, ◌∙◌, arith}
use Rattle.std.specs.Prelude.{slice_get, option_map}
use Rattle.std.specs.Ordering.{int_eq}
use Rattle.std.specs.Int.Signed.{le_z}
use Rattle.std.proofs.lemmas.Int.{ints}
use Rattle.std.proofs.lemmas.Bool.{eqb-true, leb-true}
use Rattle.std.proofs.lemmas.Bool.Decides.{Decides-int_eq}
use Rattle.std.proofs.Math.Seq.{take-length}
use Rattle.side_certs.specs.declared.certificate.Cert.{Cert}
use Rattle.side_certs.specs.declared.certificate.Entry.{Entry}
use Rattle.side_certs.specs.LinearForm.{LinearForm, symbol, below, share, coefficient, terms_at, value_at}
use Rattle.side_certs.specs.Closes.{greatest_multiplier, most_entries, form_of, named, all_named, in_range, is_enough, multiple}
use Rattle.side_certs.specs.Closes.{summed, left, number_at, Closes, cancels, cancels_in, cancels_all, rest_of, leaves_number}
use Rattle.side_certs.specs.Closes.{closes, Holds}
use Rattle.side_certs.proofs.laws.Terms.{both, and_parts}
use Rattle.side_certs.proofs.laws.Products.{sum_times, times_sum, times_times, not_below, product_not_below}

rest_is : {X : Type 0} (x : X) (xs : List X) → take (length (x ∷ xs) - 1) (drop 1 (x ∷ xs)) ≡ xs
rest_is x xs = let size : length (x ∷ xs) - 1 ≡ length xs = omega arith in rw size (take-length xs)

-- a function that is a sum over a list, at the first element of the list and the others
pub first_of : {X : Type 0} (F : List X → ℤ) (G : X → ℤ) → ((x : X) (xs : List X) → F (x ∷ xs) ≡ G x +ℤ F xs)
    → (xs : List X) (d : X) → 1 ≤ length xs
    → (F xs ≡ G (slice_index_or xs 0 d) +ℤ F (take (length xs - 1) (drop 1 xs)))
    × (length (take (length xs - 1) (drop 1 xs)) + 1 ≡ length xs)
first_of F G step [] d some = absurd (omega arith)
first_of F G step (x ∷ xs) d some = (rw (rest_is x xs) (step x xs), rw (rest_is x xs) (omega arith))

-- Where a number of terms is 0 at each symbol, their value is 0.

abbrev without : ℕ → List (ℕ × ℤ) → List (ℕ × ℤ)
without s [] = []
without s (t ∷ ts) = if nat_eq t.0 s then without s ts else t ∷ without s ts

length-without : (s : ℕ) (ts : List (ℕ × ℤ)) → length (without s ts) ≤ length ts
length-without s [] = omega arith
length-without s (t ∷ ts) = by_test (length-without s ts) (nat_eq t.0 s) refl
  where
    by_test : length (without s ts) ≤ length ts → (same : Bool) → nat_eq t.0 s ≡ same
        → length (without s (t ∷ ts)) ≤ length (t ∷ ts)
    by_test h true e = rw e (omega (arith, h))
    by_test h false e = rw e (omega (arith, h))

-- the terms of one symbol, and the others
apart : (numbers : ℕ → ℕ) (s : ℕ) (ts : List (ℕ × ℤ))
    → terms_at numbers ts ≡ (coefficient s ts *ℤ pos (numbers s)) +ℤ terms_at numbers (without s ts)
apart numbers s [] = omega (arith, ints)
apart numbers s (t ∷ ts) = by_test (apart numbers s ts) (nat_eq t.0 s) refl
  where
    by_test : terms_at numbers ts ≡ (coefficient s ts *ℤ pos (numbers s)) +ℤ terms_at numbers (without s ts) → (same : Bool)
        → nat_eq t.0 s ≡ same
        → terms_at numbers (t ∷ ts) ≡ (coefficient s (t ∷ ts) *ℤ pos (numbers s)) +ℤ terms_at numbers (without s (t ∷ ts))
    by_test h true e =
        let is : t.0 ≡ s = eqb-true _ _ e in
        let at_s : t.1 *ℤ pos (numbers t.0) ≡ t.1 *ℤ pos (numbers s) = ap (λ (n : ℕ). t.1 *ℤ pos (numbers n)) is in
        let split = sum_times t.1 (coefficient s ts) (pos (numbers s)) in
        rw e (omega (arith, ints, h, at_s, split))
    by_test h false e =
        let nothing : pos 0 +ℤ coefficient s ts ≡ coefficient s ts = omega (arith, ints) in
        rw (e, nothing) (omega (arith, ints, h))

coefficient_without : (s r : ℕ) (ts : List (ℕ × ℤ)) → coefficient s ts ≡ pos 0 → coefficient r ts ≡ pos 0
    → coefficient r (without s ts) ≡ pos 0
coefficient_without s r ts zero_s zero_r = by_test (nat_eq s r) refl
  where
    other : nat_eq s r ≡ false → (us : List (ℕ × ℤ)) → coefficient r (without s us) ≡ coefficient r us
    other apart_s [] = refl
    other apart_s (u ∷ us) = by_symbol (other apart_s us) (nat_eq u.0 s) refl
      where
        by_symbol : coefficient r (without s us) ≡ coefficient r us → (same : Bool) → nat_eq u.0 s ≡ same
            → coefficient r (without s (u ∷ us)) ≡ coefficient r (u ∷ us)
        by_symbol h true e =
            let is : u.0 ≡ s = eqb-true _ _ e in
            let not_r : nat_eq u.0 r ≡ false = rw is apart_s in
            rw (e, not_r) (omega (arith, ints, h))
        by_symbol h false e = rw e (ap (λ (z : ℤ). share r u +ℤ z) h)

    gone : (us : List (ℕ × ℤ)) → coefficient s (without s us) ≡ pos 0
    gone [] = refl
    gone (u ∷ us) = by_symbol (gone us) (nat_eq u.0 s) refl
      where
        by_symbol : coefficient s (without s us) ≡ pos 0 → (same : Bool) → nat_eq u.0 s ≡ same
            → coefficient s (without s (u ∷ us)) ≡ pos 0
        by_symbol h true e = rw e h
        by_symbol h false e = rw (e, e) (omega (arith, ints, h))

    by_test : (same : Bool) → nat_eq s r ≡ same → coefficient r (without s ts) ≡ pos 0
    by_test true e = let is : s ≡ r = eqb-true _ _ e in rw (← is) (gone ts)
    by_test false e = other e ts ∙ zero_r

vanish : (numbers : ℕ → ℕ) (n : ℕ) (ts : List (ℕ × ℤ)) → length ts ≤ n → ((s : ℕ) → coefficient s ts ≡ pos 0)
    → terms_at numbers ts ≡ pos 0
vanish numbers n [] size zeros = refl
vanish numbers zero (t ∷ ts) size zeros = absurd (omega arith)
vanish numbers (suc n) (t ∷ ts) size zeros =
    let same : nat_eq t.0 t.0 ≡ true = grind arith in
    let fewer : length (without t.0 (t ∷ ts)) ≤ n = rw same (omega (arith, length-without t.0 ts)) in
    let others : terms_at numbers (without t.0 (t ∷ ts))
    ≡ pos 0 = vanish numbers n (without t.0 (t ∷ ts)) fewer (λ s. coefficient_without t.0 s (t ∷ ts) (zeros t.0) (zeros s))
    in
    let first : coefficient t.0 (t ∷ ts) *ℤ pos (numbers t.0) ≡ pos 0 = ap (λ (z : ℤ). z *ℤ pos (numbers t.0)) (zeros t.0)
    ∙ omega (arith, ints) in
    apart numbers t.0 (t ∷ ts) ∙ omega (arith, ints, first, others)

-- All terms that a certificate adds, one after the other.

abbrev by_number : ℕ → List (ℕ × ℤ) → List (ℕ × ℤ)
by_number m [] = []
by_number m (t ∷ ts) = (t.0, pos m *ℤ t.1) ∷ by_number m ts

abbrev of_form : ℕ → Option LinearForm → List (ℕ × ℤ)
of_form m None = []
of_form m (Some f) = by_number m f.terms

abbrev of_entries : List LinearForm → List ℕ → List Entry → List (ℕ × ℤ)
of_entries facts tops [] = []
of_entries facts tops (e ∷ es) = of_form e.mult (named facts tops e) ++ of_entries facts tops es

abbrev negated : List (ℕ × ℤ) → List (ℕ × ℤ)
negated [] = []
negated (t ∷ ts) = (t.0, neg_ℤ t.1) ∷ negated ts

abbrev whole : List LinearForm → List ℕ → LinearForm → Cert → List (ℕ × ℤ)
whole facts tops goal cert = by_number cert.d goal.terms ++ negated (of_entries facts tops cert.entries)

-- a coefficient and a value are sums over terms
record Additive (h : List (ℕ × ℤ) → ℤ) : Type 0 where
  none : h [] ≡ pos 0
  joined : (ts us : List (ℕ × ℤ)) → h (ts ++ us) ≡ h ts +ℤ h us
  multiplied : (m : ℕ) (ts : List (ℕ × ℤ)) → h (by_number m ts) ≡ pos m *ℤ h ts
  negative : (ts : List (ℕ × ℤ)) → h (negated ts) ≡ neg_ℤ (h ts)

coefficients_joined : (s : ℕ) (ts us : List (ℕ × ℤ)) → coefficient s (ts ++ us) ≡ coefficient s ts +ℤ coefficient s us
coefficients_joined s [] us = omega (arith, ints)
coefficients_joined s (t ∷ ts) us = omega (arith, ints, coefficients_joined s ts us)

share_multiplied : (s m : ℕ) (t : ℕ × ℤ) → share s (t.0, pos m *ℤ t.1) ≡ pos m *ℤ share s t
share_multiplied s m t = by_test (nat_eq t.0 s) refl
  where
    by_test : (same : Bool) → nat_eq t.0 s ≡ same → share s (t.0, pos m *ℤ t.1) ≡ pos m *ℤ share s t
    by_test true e = rw e refl
    by_test false e = rw e (omega (arith, ints))

coefficients_multiplied : (s m : ℕ) (ts : List (ℕ × ℤ)) → coefficient s (by_number m ts) ≡ pos m *ℤ coefficient s ts
coefficients_multiplied s m [] = omega (arith, ints)
coefficients_multiplied s m (t ∷ ts) =
    omega (arith, ints, share_multiplied s m t, coefficients_multiplied s m ts, times_sum (pos m) (share s t) (coefficient s ts))

share_negated : (s : ℕ) (t : ℕ × ℤ) → share s (t.0, neg_ℤ t.1) ≡ neg_ℤ (share s t)
share_negated s t = by_test (nat_eq t.0 s) refl
  where
    by_test : (same : Bool) → nat_eq t.0 s ≡ same → share s (t.0, neg_ℤ t.1) ≡ neg_ℤ (share s t)
    by_test true e = rw e refl
    by_test false e = rw e (omega (arith, ints))

coefficients_negated : (s : ℕ) (ts : List (ℕ × ℤ)) → coefficient s (negated ts) ≡ neg_ℤ (coefficient s ts)
coefficients_negated s [] = omega (arith, ints)
coefficients_negated s (t ∷ ts) = omega (arith, ints, share_negated s t, coefficients_negated s ts)

values_joined : (numbers : ℕ → ℕ) (ts us : List (ℕ × ℤ))
    → terms_at numbers (ts ++ us) ≡ terms_at numbers ts +ℤ terms_at numbers us
values_joined numbers [] us = omega (arith, ints)
values_joined numbers (t ∷ ts) us = omega (arith, ints, values_joined numbers ts us)

values_multiplied : (numbers : ℕ → ℕ) (m : ℕ) (ts : List (ℕ × ℤ))
    → terms_at numbers (by_number m ts) ≡ pos m *ℤ terms_at numbers ts
values_multiplied numbers m [] = omega (arith, ints)
values_multiplied numbers m (t ∷ ts) =
    omega (
      arith,
      ints,
      times_times (pos m) t.1 (numbers t.0),
      values_multiplied numbers m ts,
      times_sum (pos m)
          (t.1 *ℤ pos (numbers t.0)) (terms_at numbers ts),
    )

values_negated : (numbers : ℕ → ℕ) (ts : List (ℕ × ℤ)) → terms_at numbers (negated ts) ≡ neg_ℤ (terms_at numbers ts)
values_negated numbers [] = omega (arith, ints)
values_negated numbers (t ∷ ts) =
    let other_sign : neg_ℤ t.1 *ℤ pos (numbers t.0) ≡ neg_ℤ (t.1 *ℤ pos (numbers t.0)) = opposite t.1 (numbers t.0) in
    omega (arith, ints, other_sign, values_negated numbers ts)
  where
    opposite : (z : ℤ) (n : ℕ) → neg_ℤ z *ℤ pos n ≡ neg_ℤ (z *ℤ pos n)
    opposite z n =
        let split = sum_times z (neg_ℤ z) (pos n) in
        let nothing : z +ℤ neg_ℤ z ≡ pos 0 = omega (arith, ints) in
        let none : (z +ℤ neg_ℤ z) *ℤ pos n ≡ pos 0 = ap (λ (y : ℤ). y *ℤ pos n) nothing ∙ omega (arith, ints) in
        omega (arith, ints, split, none)

coefficients_add : (s : ℕ) → Additive (coefficient s)
coefficients_add s = record {
  none = refl;
  joined = coefficients_joined s;
  multiplied = coefficients_multiplied s;
  negative = coefficients_negated s;
}

values_add : (numbers : ℕ → ℕ) → Additive (terms_at numbers)
values_add numbers = record {
  none = refl;
  joined = values_joined numbers;
  multiplied = values_multiplied numbers;
  negative = values_negated numbers;
}

summed_is : (h : List (ℕ × ℤ) → ℤ) → Additive h → (facts : List LinearForm) (tops : List ℕ) (es : List Entry)
    → summed (λ f. h f.terms) facts tops es ≡ h (of_entries facts tops es)
summed_is h a facts tops [] = sym a.none
summed_is h a facts tops (e ∷ es) =
    let first : multiple (λ f. h f.terms) e.mult (named facts tops e) ≡ h (of_form e.mult (named facts tops e)) =
    by_form (named facts tops e) in
    omega (
      arith,
      ints,
      first,
      summed_is h a facts tops es,
      a.joined (of_form e.mult (named facts tops e))
          (of_entries facts tops es),
    )
  where
    by_form : (o : Option LinearForm) → multiple (λ f. h f.terms) e.mult o ≡ h (of_form e.mult o)
    by_form None = sym a.none
    by_form (Some f) = sym (a.multiplied e.mult f.terms)

left_is : (h : List (ℕ × ℤ) → ℤ) → Additive h → (facts : List LinearForm) (tops : List ℕ) (goal : LinearForm) (cert : Cert)
    → left (λ f. h f.terms) facts tops goal cert ≡ h (whole facts tops goal cert)
left_is h a facts tops goal cert =
    omega (
      arith,
      ints,
      summed_is h a facts tops cert.entries,
      a.multiplied cert.d goal.terms,
      a.negative
          (of_entries facts tops cert.entries),
      a.joined (by_number cert.d goal.terms)
          (negated (of_entries facts tops cert.entries)),
    )

-- the value is the constant and the terms
summed_value : (numbers : ℕ → ℕ) (facts : List LinearForm) (tops : List ℕ) (es : List Entry)
    → summed (value_at numbers) facts tops es
    ≡ summed (number_at None) facts tops es +ℤ summed (λ f. terms_at numbers f.terms) facts tops es
summed_value numbers facts tops [] = omega (arith, ints)
summed_value numbers facts tops (e ∷ es) =
    omega (arith, ints, by_form (named facts tops e), summed_value numbers facts tops es)
  where
    by_form : (o : Option LinearForm)
        → multiple (value_at numbers) e.mult o
        ≡ multiple (number_at None) e.mult o +ℤ multiple (λ f. terms_at numbers f.terms) e.mult o
    by_form None = omega (arith, ints)
    by_form (Some f) = times_sum (pos e.mult) f.constant (terms_at numbers f.terms)

-- where no symbol is left, the value that is left is the constant that is left
left_value : (numbers : ℕ → ℕ) (facts : List LinearForm) (tops : List ℕ) (goal : LinearForm) (cert : Cert)
    → ((s : ℕ) → left (number_at (Some s)) facts tops goal cert ≡ pos 0)
    → left (value_at numbers) facts tops goal cert ≡ left (number_at None) facts tops goal cert
left_value numbers facts tops goal cert zeros =
    let nothing : left (λ f. terms_at numbers f.terms) facts tops goal cert ≡ pos 0 =
    left_is (terms_at numbers) (values_add numbers) facts tops goal cert
    ∙ vanish numbers (length (whole facts tops goal cert)) (whole facts tops goal cert) (omega arith)
    (λ s. sym (left_is (coefficient s) (coefficients_add s) facts tops goal cert) ∙ zeros s) in
    omega (
      arith,
      ints,
      nothing,
      summed_value numbers facts tops cert.entries,
      times_sum (pos cert.d) goal.constant
          (terms_at numbers goal.terms),
    )

-- The forms of the entries are at least 0.

form_holds : (numbers : ℕ → ℕ) (facts : List LinearForm) (tops : List ℕ) (kind number : ℕ) (f : LinearForm)
    → Holds numbers facts tops → form_of facts tops kind number ≡ Some f → pos 0 ≤ℤ value_at numbers f
form_holds numbers facts tops kind number f holds is = by_kind (nat_eq kind 0) (nat_eq kind 1) (nat_eq kind 2) refl refl refl
  where
    by_top : (made : ℕ → LinearForm) → ((top : ℕ) → slice_get tops number ≡ Some top → pos 0 ≤ℤ value_at numbers (made top))
        → (o : Option ℕ) → slice_get tops number ≡ o → option_map made o ≡ Some f → pos 0 ≤ℤ value_at numbers f
    by_top made all None at e = absurd (cc)
    by_top made all (Some top) at e = let same : made top ≡ f = some_same e in rw (← same) (all top at)
      where
        some_same : Some (made top) ≡ Some f → made top ≡ f
        some_same p = cc

    by_kind : (zero one two : Bool) → nat_eq kind 0 ≡ zero → nat_eq kind 1 ≡ one → nat_eq kind 2 ≡ two
        → pos 0 ≤ℤ value_at numbers f
    by_kind true one two a b c = holds.0 number f (rw a at is)
    by_kind false true two a b c =
        by_top (λ top. symbol number) (λ top at. omega (arith, ints)) (slice_get tops number) refl (rw (a, b) at is)
    by_kind false false true a b c =
        by_top (λ top. below top number) (λ top at. omega (arith, ints, holds.1 number top at)) (slice_get tops number) refl
        (rw (a, b, c) at is)
    by_kind false false false a b c = let none : ◌≡◌ {A = Option LinearForm} None (Some f) = rw (a, b, c) at is in absurd (cc)

summed_holds : (numbers : ℕ → ℕ) (facts : List LinearForm) (tops : List ℕ) (es : List Entry) → Holds numbers facts tops
    → pos 0 ≤ℤ summed (value_at numbers) facts tops es
summed_holds numbers facts tops [] holds = omega (arith, ints)
summed_holds numbers facts tops (e ∷ es) holds =
    omega (arith, ints, by_size (nat_le e.mult greatest_multiplier) refl, summed_holds numbers facts tops es holds)
  where
    by_form : (o : Option LinearForm) → form_of facts tops e.kind e.number ≡ o → pos 0 ≤ℤ multiple (value_at numbers) e.mult o
    by_form None is = omega (arith, ints)
    by_form (Some f) is = product_not_below e.mult (value_at numbers f) (form_holds numbers facts tops e.kind e.number f holds is)

    by_size : (small : Bool) → nat_le e.mult greatest_multiplier ≡ small
        → pos 0 ≤ℤ multiple (value_at numbers) e.mult (named facts tops e)
    by_size true is = rw is (by_form (form_of facts tops e.kind e.number) refl)
    by_size false is = rw is (omega (arith, ints))

-- The test finds each symbol that is left.

is_zero : (z : ℤ) → int_eq z (pos 0) ≡ true → z ≡ pos 0
is_zero z e = int_eq_true z (pos 0) e
  where
    int_eq_true : (x y : ℤ) → int_eq x y ≡ true → x ≡ y
    int_eq_true x y e = grind (arith, Decides-int_eq)

zero_is : (z : ℤ) → z ≡ pos 0 → int_eq z (pos 0) ≡ true
zero_is z e = rw e refl

-- a symbol that is left is in none of the terms
absent : (rest : ℕ → ℤ) (s : ℕ) → int_eq (rest s) (pos 0) ≡ false → (ts : List (ℕ × ℤ)) → cancels rest ts ≡ true
    → coefficient s ts ≡ pos 0
absent rest s is_left [] all = refl
absent rest s is_left (t ∷ ts) all =
    by_test (absent rest s is_left ts (and_parts (int_eq (rest t.0) (pos 0)) (cancels rest ts) all).1) (nat_eq t.0 s) refl
  where
    by_test : coefficient s ts ≡ pos 0 → (same : Bool) → nat_eq t.0 s ≡ same → coefficient s (t ∷ ts) ≡ pos 0
    by_test h true e =
        let is : t.0 ≡ s = eqb-true _ _ e in
        let cancelled : int_eq (rest t.0) (pos 0) ≡ true = (and_parts (int_eq (rest t.0) (pos 0)) (cancels rest ts) all).0 in
        let left_too : int_eq (rest t.0) (pos 0) ≡ false = rw is is_left in
        let bad : true ≡ false = sym cancelled ∙ left_too in
        absurd (cc)
    by_test h false e = rw e (omega (arith, ints, h))

absent_in_all : (rest : ℕ → ℤ) (s : ℕ) → int_eq (rest s) (pos 0) ≡ false
    → (facts : List LinearForm) (tops : List ℕ) (es : List Entry) → cancels_all rest facts tops es ≡ true
    → summed (number_at (Some s)) facts tops es ≡ pos 0
absent_in_all rest s is_left facts tops [] all = refl
absent_in_all rest s is_left facts tops (e ∷ es) all =
    let p = and_parts (cancels_in rest (named facts tops e)) (cancels_all rest facts tops es) all in
    omega (arith, ints, by_form (named facts tops e) p.0, absent_in_all rest s is_left facts tops es p.1)
  where
    by_form : (o : Option LinearForm) → cancels_in rest o ≡ true → multiple (number_at (Some s)) e.mult o ≡ pos 0
    by_form None one = refl
    by_form (Some f) one = ap (λ (z : ℤ). pos e.mult *ℤ z) (absent rest s is_left f.terms one) ∙ omega (arith, ints)

all_cancel : (facts : List LinearForm) (tops : List ℕ) (goal : LinearForm) (cert : Cert)
    → leaves_number facts tops goal cert ≡ true
    → (s : ℕ) → left (number_at (Some s)) facts tops goal cert ≡ pos 0
all_cancel facts tops goal cert test s = by_test (int_eq (rest_of facts tops goal cert s) (pos 0)) refl
  where
    by_test : (gone : Bool) → int_eq (rest_of facts tops goal cert s) (pos 0) ≡ gone
        → left (number_at (Some s)) facts tops goal cert ≡ pos 0
    by_test true e = is_zero (rest_of facts tops goal cert s) e
    by_test false e =
        let p = and_parts (cancels (rest_of facts tops goal cert) goal.terms)
        (cancels_all (rest_of facts tops goal cert) facts tops cert.entries) test in
        let in_goal : pos cert.d *ℤ coefficient s goal.terms
        ≡ pos 0 = ap (λ (z : ℤ). pos cert.d *ℤ z) (absent (rest_of facts tops goal cert) s e goal.terms p.0)
        ∙ omega (arith, ints) in
        omega (arith, ints, in_goal, absent_in_all (rest_of facts tops goal cert) s e facts tops cert.entries p.1)

cancels_where : (rest : ℕ → ℤ) → ((s : ℕ) → rest s ≡ pos 0) → (ts : List (ℕ × ℤ)) → cancels rest ts ≡ true
cancels_where rest zeros [] = refl
cancels_where rest zeros (t ∷ ts) = both (zero_is (rest t.0) (zeros t.0)) (cancels_where rest zeros ts)

cancels_all_where : (rest : ℕ → ℤ) → ((s : ℕ) → rest s ≡ pos 0) → (facts : List LinearForm) (tops : List ℕ) (es : List Entry)
    → cancels_all rest facts tops es ≡ true
cancels_all_where rest zeros facts tops [] = refl
cancels_all_where rest zeros facts tops (e ∷ es) =
    both (by_form (named facts tops e)) (cancels_all_where rest zeros facts tops es)
  where
    by_form : (o : Option LinearForm) → cancels_in rest o ≡ true
    by_form None = refl
    by_form (Some f) = cancels_where rest zeros f.terms

pub closes_parts : (facts : List LinearForm) (tops : List ℕ) (goal : LinearForm) (cert : Cert)
    → closes facts tops goal cert ≡ true → Closes facts tops goal cert
closes_parts facts tops goal cert test =
    let p = and_parts (in_range cert && all_named facts tops cert.entries && leaves_number facts tops goal cert)
    (is_enough cert.d (left (number_at None) facts tops goal cert)) test in
    let q = and_parts (in_range cert && all_named facts tops cert.entries) (leaves_number facts tops goal cert) p.0 in
    let r = and_parts (in_range cert) (all_named facts tops cert.entries) q.0 in
    record {
      range = r.0;
      names = r.1;
      number = all_cancel facts tops goal cert q.1;
      enough = let e : le_z (neg_ℤ (pos (cert.d - 1))) (left (number_at None) facts tops goal cert) ≡ true = p.1 in
          omega (arith, ints, e);
    }

at_most : (a b : ℤ) → a ≤ℤ b → le_z a b ≡ true
at_most a b less = by_test (le_z a b) refl
  where
    by_test : (test : Bool) → le_z a b ≡ test → le_z a b ≡ true
    by_test true e = e
    by_test false e = absurd (omega (arith, ints, less, e))

closes_made : (facts : List LinearForm) (tops : List ℕ) (goal : LinearForm) (cert : Cert) → Closes facts tops goal cert
    → closes facts tops goal cert ≡ true
closes_made facts tops goal cert c =
    let leaves : leaves_number facts tops goal cert ≡ true =
    both (cancels_where (rest_of facts tops goal cert) c.number goal.terms)
    (cancels_all_where (rest_of facts tops goal cert) c.number facts tops cert.entries) in
    both (both (both c.range c.names) leaves)
    (at_most (neg_ℤ (pos (cert.d - 1))) (left (number_at None) facts tops goal cert) c.enough)

-- the test says what the definition says
pub means : (facts : List LinearForm) (tops : List ℕ) (goal : LinearForm) (cert : Cert)
    → (closes facts tops goal cert ≡ true) ↔ Closes facts tops goal cert
means facts tops goal cert = (closes_parts facts tops goal cert, closes_made facts tops goal cert)

pub goal_holds : (facts : List LinearForm) (tops : List ℕ) (goal : LinearForm) (cert : Cert) → closes facts tops goal cert ≡ true
    → (numbers : ℕ → ℕ) → Holds numbers facts tops → pos 0 ≤ℤ value_at numbers goal
goal_holds facts tops goal cert test numbers holds =
    let c = closes_parts facts tops goal cert test in
    let same = left_value numbers facts tops goal cert c.number in
    let entries : pos 0 ≤ℤ summed (value_at numbers) facts tops cert.entries = summed_holds numbers facts tops cert.entries holds
    in
    let enough : neg_ℤ (pos (cert.d - 1)) ≤ℤ left (number_at None) facts tops goal cert = c.enough in
    let range = and_parts (nat_le 1 cert.d && nat_le cert.d greatest_multiplier) (nat_le (length cert.entries) most_entries)
    c.range in
    let some : 1 ≤ cert.d = leb-true _ _ (and_parts (nat_le 1 cert.d) (nat_le cert.d greatest_multiplier) range.0).0 in
    not_below cert.d (value_at numbers goal) some (omega (arith, ints, same, entries, enough))
