-- Which symbols a form has: a goal that a certificate closes has only symbols with a top.
use Rattle.std.proofs.Common.{◌≡◌, ℕ, ◌+◌, ◌<◌, ◌≤◌, ◌&&◌, Bool, true, false, List, [], ◌∷◌, length, Option, Some, None, ℤ, pos}
use Rattle.std.proofs.Common.{negsuc, neg_ℤ, ◌+ℤ◌, ◌*ℤ◌, ◌≤ℤ◌, nat_eq, nat_le, refl, ap, ◌∙◌, arith}
use Rattle.std.specs.Prelude.{slice_get, option_map}
use Rattle.std.proofs.lemmas.Bool.{leb-true}
use Rattle.std.proofs.lemmas.Bool.Decides.{nat_tests}
use Rattle.std.proofs.lemmas.Int.{ints}
use Rattle.std.proofs.lemmas.Option.{slice_get_within}
use Rattle.std.specs.Ordering.{int_eq}
use Rattle.side_certs.specs.declared.certificate.Cert.{Cert}
use Rattle.side_certs.specs.declared.certificate.Entry.{Entry}
use Rattle.side_certs.specs.LinearForm.{LinearForm, symbol, below, rises_from, coefficient}
use Rattle.side_certs.specs.Closes.{greatest_multiplier, most_entries, form_of, named, multiple, summed, left, number_at, closes}
use Rattle.side_certs.proofs.Cancelling.{closes_parts}
use Rattle.side_certs.proofs.laws.Coefficients.{Below}
use Rattle.side_certs.proofs.laws.Limits.{and_parts, rises_parts, coefficient_before}
use Rattle.side_certs.proofs.laws.Products.{not_below, times_sum, times_nothing}

-- no symbol from n on has a coefficient
abbrev pub NothingFrom : ℕ → List (ℕ × ℤ) → Type 0
NothingFrom n ts = (s : ℕ) → n ≤ s → coefficient s ts ≡ pos 0

-- where the symbols are below n, none from n on has a coefficient
pub below_nothing : (n : ℕ) (ts : List (ℕ × ℤ)) → Below n ts → NothingFrom n ts
below_nothing n [] all s from = refl
below_nothing n (t ∷ ts) all s from =
    let other : nat_eq t.0 s ≡ false = grind (arith, nat_tests, all.0, from) in
    let rest : coefficient s ts ≡ pos 0 = below_nothing n ts all.1 s from in
    rw (other, rest) refl

-- where the symbols rise and no coefficient is 0, the converse
pub nothing_below : (n least : ℕ) (ts : List (ℕ × ℤ)) → rises_from least ts ≡ true → NothingFrom n ts → Below n ts
nothing_below n least [] rise none = tt
nothing_below n least (t ∷ ts) rise none =
    (by_place (nat_le n t.0) refl, nothing_below n (t.0 + 1) ts p.2 (λ s from. rest s from (nat_eq t.0 s) refl)) where
      p : (least ≤ t.0) × (int_eq t.1 (pos 0) ≡ false) × (rises_from (t.0 + 1) ts ≡ true)
      p = rises_parts least t ts rise

      alone : coefficient t.0 (t ∷ ts) ≡ t.1
      alone =
          let self : nat_eq t.0 t.0 ≡ true = grind (arith, nat_tests) in
          let after : coefficient t.0 ts ≡ pos 0 = coefficient_before t.0 (t.0 + 1) ts (omega arith) p.2 in
          rw (self, after) (omega (arith, ints))

      by_place : (far : Bool) → nat_le n t.0 ≡ far → t.0 < n
      by_place true e =
          let from : n ≤ t.0 = leb-true _ _ e in
          let nothing : t.1 ≡ pos 0 = (let a = alone in let b = none t.0 from in omega (arith, ints, a, b)) in
          absurd (let bad : int_eq t.1 (pos 0) ≡ true = rw nothing refl in let worse = p.1 in cc)
      by_place false e = grind (arith, nat_tests)

      rest : (s : ℕ) → n ≤ s → (same : Bool) → nat_eq t.0 s ≡ same → coefficient s ts ≡ pos 0
      rest s from true e = let before : s < t.0 + 1 = grind (arith, nat_tests) in coefficient_before s (t.0 + 1) ts before p.2
      rest s from false e = let whole : coefficient s (t ∷ ts) ≡ coefficient s ts = rw e (omega (arith, ints)) in
          let all = none s from in omega (arith, ints, whole, all)

-- a fact of this number has only the first n symbols
abbrev pub FactsBelow : ℕ → List LinearForm → Type 0
FactsBelow n facts = (i : ℕ) (f : LinearForm) → slice_get facts i ≡ Some f → NothingFrom n f.terms

-- an entry's form has only symbols with a top
form_known : (facts : List LinearForm) (tops : List ℕ) (kind number : ℕ) (f : LinearForm) → FactsBelow (length tops) facts
    → form_of facts tops kind number ≡ Some f → NothingFrom (length tops) f.terms
form_known facts tops kind number f known is s from = by_kind (nat_eq kind 0) (nat_eq kind 1) (nat_eq kind 2) refl refl refl
  where
    one_symbol : (k : ℤ) → number < length tops → coefficient s ((number, k) ∷ []) ≡ pos 0
    one_symbol k inside = let other : nat_eq number s ≡ false = grind (arith, nat_tests, inside, from) in rw other refl

    by_top : (made : ℕ → LinearForm) → ((top : ℕ) → number < length tops → coefficient s (made top).terms ≡ pos 0)
        → (o : Option ℕ) → slice_get tops number ≡ o → option_map made o ≡ Some f → coefficient s f.terms ≡ pos 0
    by_top made all None at e = absurd (cc)
    by_top made all (Some top) at e = let same : made top ≡ f = some_same e in
        rw (← same) (all top (slice_get_within tops number top at))
      where
        some_same : Some (made top) ≡ Some f → made top ≡ f
        some_same p = cc

    by_kind : (zero one two : Bool) → nat_eq kind 0 ≡ zero → nat_eq kind 1 ≡ one → nat_eq kind 2 ≡ two
        → coefficient s f.terms ≡ pos 0
    by_kind true one two a b c = known number f (rw a at is) s from
    by_kind false true two a b c =
        by_top (λ top. symbol number) (λ top inside. one_symbol (pos 1) inside) (slice_get tops number) refl (rw (a, b) at is)
    by_kind false false true a b c =
        by_top (λ top. below top number) (λ top inside. one_symbol (negsuc 0) inside) (slice_get tops number) refl
        (rw (a, b, c) at is)
    by_kind false false false a b c = absurd (let none : ◌≡◌ {A = Option LinearForm} None (Some f) = rw (a, b, c) at is in cc)

summed_known : (facts : List LinearForm) (tops : List ℕ) (s : ℕ) (es : List Entry) → FactsBelow (length tops) facts
    → length tops ≤ s → summed (number_at (Some s)) facts tops es ≡ pos 0
summed_known facts tops s [] known from = refl
summed_known facts tops s (e ∷ es) known from =
    let first : multiple (number_at (Some s)) e.mult (named facts tops e)
    ≡ pos 0 = by_size (nat_le e.mult greatest_multiplier) refl in
    let rest = summed_known facts tops s es known from in
    omega (arith, ints, first, rest)
  where
    by_form : (o : Option LinearForm) → form_of facts tops e.kind e.number ≡ o → multiple (number_at (Some s)) e.mult o ≡ pos 0
    by_form None is = refl
    by_form (Some f) is = ap (λ (z : ℤ). pos e.mult *ℤ z) (form_known facts tops e.kind e.number f known is s from)
        ∙ times_nothing (pos e.mult)

    by_size : (small : Bool) → nat_le e.mult greatest_multiplier ≡ small
        → multiple (number_at (Some s)) e.mult (named facts tops e) ≡ pos 0
    by_size true is = rw is (by_form (form_of facts tops e.kind e.number) refl)
    by_size false is = rw is refl

-- a number that d times is nothing is nothing
nothing_of : (d : ℕ) (z : ℤ) → 1 ≤ d → pos d *ℤ z ≡ pos 0 → z ≡ pos 0
nothing_of d z some none =
    let least : pos 0 ≤ℤ z = not_below d z some (omega (arith, ints, none)) in
    let other : pos d *ℤ neg_ℤ z ≡ pos 0 =
    (let split = times_sum (pos d) z (neg_ℤ z) in
    let sum : z +ℤ neg_ℤ z ≡ pos 0 = omega (arith, ints) in
    let all : pos d *ℤ (z +ℤ neg_ℤ z) ≡ pos 0 = ap (λ (y : ℤ). pos d *ℤ y) sum ∙ times_nothing (pos d) in
    omega (arith, ints, split, all, none)) in
    let most : pos 0 ≤ℤ neg_ℤ z = not_below d (neg_ℤ z) some (omega (arith, ints, other)) in
    omega (arith, ints, least, most)

-- a goal that a certificate closes has only symbols with a top, where the facts have only such
pub goal_known : (facts : List LinearForm) (tops : List ℕ) (goal : LinearForm) (cert : Cert) → closes facts tops goal cert ≡ true
    → FactsBelow (length tops) facts → NothingFrom (length tops) goal.terms
goal_known facts tops goal cert test known s from =
    let c = closes_parts facts tops goal cert test in
    let range = and_parts (nat_le 1 cert.d && nat_le cert.d greatest_multiplier) (nat_le (length cert.entries) most_entries)
    c.range in
    let some : 1 ≤ cert.d = leb-true _ _ (and_parts (nat_le 1 cert.d) (nat_le cert.d greatest_multiplier) range.0).0 in
    let zero : left (number_at (Some s)) facts tops goal cert ≡ pos 0 = c.number s in
    let entries = summed_known facts tops s cert.entries known from in
    nothing_of cert.d (coefficient s goal.terms) some (omega (arith, ints, zero, entries))
