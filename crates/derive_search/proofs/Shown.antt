-- The certificates of kept facts, one fact further; and a certificate that is found closes its goal.
use Rattle.std.proofs.Common.{◌≡◌, refl, ap, arith, ℕ, ◌-◌, Bool, true, false, if◌then◌else◌, List, [], ◌∷◌, ◌++◌, Option, Some}
use Rattle.std.proofs.Common.{None, ℤ, pos, neg_ℤ, ◌≤ℤ◌, append_assoc, is_ok, is_some}
use Rattle.std.specs.Ordering.{int_eq}
use Rattle.std.specs.Int.Signed.{le_z}
use Rattle.std.proofs.lemmas.Int.{ints}
use Rattle.model_syntax.specs.Linear.{linear, is_narrow}
use Rattle.model_syntax.specs.declared.stmt.Le.{Le}
use Rattle.side_certs.specs.LinearForm.{LinearForm}
use Rattle.side_certs.specs.declared.certificate.Cert.{Cert}
use Rattle.side_certs.specs.declared.certificate.Entry.{Entry}
use Rattle.side_certs.specs.Closes.{named, left, number_at, Closes, cancels, cancels_in, cancels_all, rest_of, leaves_number}
use Rattle.side_certs.specs.Closes.{closes}
use Rattle.side_certs.proofs.laws.Terms.{both, and_parts}
use Rattle.cert_search.specs.Search.{found}
use Rattle.cert_search.proofs.laws.Found.{found_closes}
use Rattle.sym_heap.specs.Context.{Context}
use Rattle.sym_heap.specs.Sides.{IsNarrow}
use Rattle.stmt_rules.specs.Narrow.{all_narrow}
use Rattle.derive_search.specs.Rows.{has_few_facts, certificate}
use Rattle.derive_search.specs.Kept.{led, after_those}

-- Facts that keep the limits of linear forms.

pub narrow_is : (r : Le) → is_narrow r ≡ true → IsNarrow r
narrow_is r e =
    let p = and_parts (is_ok (linear r.low)) (is_ok (linear r.high)) e in
    record { low = p.0; high = p.1 }

pub narrow_here : (r : Le) (rs : List Le) → all_narrow (r ∷ rs) ≡ true → is_narrow r ≡ true
narrow_here r rs e = (and_parts (is_narrow r) (all_narrow rs) e).0

pub narrow_left : (r : Le) (rs : List Le) → all_narrow (r ∷ rs) ≡ true → all_narrow rs ≡ true
narrow_left r rs e = (and_parts (is_narrow r) (all_narrow rs) e).1

-- one certificate further
pub led_on : (done : List Cert) (k : Cert) (certs : Option (List Cert))
    → after_those (done ++ k ∷ []) certs ≡ after_those done (led (Some k) certs)
led_on done k None = refl
led_on done k (Some ks) = ap (λ (all : List Cert). Some all) (append_assoc done (k ∷ []) ks)

-- Closing: the definition gives the test.

zero_is : (z : ℤ) → z ≡ pos 0 → int_eq z (pos 0) ≡ true
zero_is z is = rw is refl

cancels_where : (rest : ℕ → ℤ) → ((s : ℕ) → rest s ≡ pos 0) → (ts : List (ℕ × ℤ)) → cancels rest ts ≡ true
cancels_where rest zeros [] = refl
cancels_where rest zeros (t ∷ ts) = both (zero_is (rest t.0) (zeros t.0)) (cancels_where rest zeros ts)

cancels_all_where : (rest : ℕ → ℤ) → ((s : ℕ) → rest s ≡ pos 0) → (facts : List LinearForm) (tops : List ℕ) (es : List Entry)
    → cancels_all rest facts tops es ≡ true
cancels_all_where rest zeros facts tops [] = refl
cancels_all_where rest zeros facts tops (e ∷ es) =
    both (by_form (named facts tops e)) (cancels_all_where rest zeros facts tops es)
  where
    by_form : (o : Option LinearForm) → cancels_in rest o ≡ true
    by_form None = refl
    by_form (Some f) = cancels_where rest zeros f.terms

at_most : (a b : ℤ) → a ≤ℤ b → le_z a b ≡ true
at_most a b less = by_test (le_z a b) refl
  where
    by_test : (test : Bool) → le_z a b ≡ test → le_z a b ≡ true
    by_test true e = e
    by_test false e = absurd (omega (arith, ints, less, e))

closes_made : (facts : List LinearForm) (tops : List ℕ) (goal : LinearForm) (cert : Cert) → Closes facts tops goal cert
    → closes facts tops goal cert ≡ true
closes_made facts tops goal cert c =
    let leaves : leaves_number facts tops goal cert ≡ true =
    both (cancels_where (rest_of facts tops goal cert) c.number goal.terms)
    (cancels_all_where (rest_of facts tops goal cert) c.number facts tops cert.entries) in
    both (both (both c.range c.names) leaves)
    (at_most (neg_ℤ (pos (cert.d - 1))) (left (number_at None) facts tops goal cert) c.enough)

-- a certificate that a goal gets in a context closes it there
pub certificate_closes : (c : Context) (goal : LinearForm) (k : Cert) → certificate c goal ≡ Some k
    → closes c.facts c.tops goal k ≡ true
certificate_closes c goal k = by (has_few_facts c)
  where
    by : (few : Bool) → (if few then found c.facts c.tops goal else None) ≡ Some k → closes c.facts c.tops goal k ≡ true
    by true is = closes_made c.facts c.tops goal k (found_closes c.facts c.tops goal k is).0
    by false is = absurd (let bad : false ≡ true = ap is_some is in cc)
