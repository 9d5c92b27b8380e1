-- The certificates that are found for kept facts show them, at any place of a node's list and with others behind.
use Rattle.std.proofs.Common.{◌≡◌, refl, sym, ap, subst, ℕ, ◌+◌, true, false, List, [], ◌∷◌, ◌++◌, length, drop, Option, Some}
use Rattle.std.proofs.Common.{None, option_and_then, is_some, Ok}
use Rattle.std.proofs.Math.Seq.{drop-append_seam}
use Rattle.model_syntax.specs.Names.{Name}
use Rattle.model_syntax.specs.declared.stmt.Le.{Le}
use Rattle.side_certs.specs.LinearForm.{LinearForm, within}
use Rattle.side_certs.specs.declared.certificate.Cert.{Cert}
use Rattle.sym_heap.specs.Context.{Context}
use Rattle.sym_heap.specs.Sides.{difference}
use Rattle.rup_base.specs.Word.{counted}
use Rattle.stmt_rules.specs.Nesting.{shown_at, all_shown}
use Rattle.derive_search.specs.Rows.{certificate}
use Rattle.derive_search.specs.Kept.{certificate_of, led, certificates}
use Rattle.derive_search.proofs.Shown.{certificate_closes}

abbrev these : Option (List Cert) → List Cert
these None = []
these (Some ks) = ks

-- a form whose certificate is found is shown by it
pub certificate_shows : (at place : ℕ) (c : Context) (f : LinearForm) (k : Cert) → certificate_of c f ≡ Some k
    → shown_at at place k (within f) c ≡ Ok (tt, c)
certificate_shows at place c f k = by (within f)
  where
    by : (o : Option LinearForm) → option_and_then (certificate c) o ≡ Some k → shown_at at place k o c ≡ Ok (tt, c)
    by (Some goal) is = rw (certificate_closes c goal k is) refl
    by None is = absurd (let bad : false ≡ true = ap is_some is in cc)

module _ (c : Context) (form : Name → LinearForm) where
  -- with further certificates behind them
  pub certificates_show : (rs : List Le) (ks : List Cert) → certificates c form rs ≡ Some ks → (at place : ℕ) (more : List Cert)
      → all_shown at place (ks ++ more) form rs c ≡ Ok (tt, c)
  certificates_show [] ks is at place more = refl
  certificates_show (r ∷ rs) ks is at place more =
      by (certificate_of c (difference form r)) refl (certificates c form rs) refl
      (λ rest found. certificates_show rs rest found at (counted (place + 1)) more) is
    where
      by : (o : Option Cert) → certificate_of c (difference form r) ≡ o → (p : Option (List Cert)) → certificates c form rs ≡ p
          → ((rest : List Cert) → certificates c form rs ≡ Some rest → all_shown at (counted (place + 1)) (rest ++ more) form rs c
          ≡ Ok (tt, c))
          → led o p ≡ Some ks → all_shown at place (ks ++ more) form (r ∷ rs) c ≡ Ok (tt, c)
      by (Some k) here (Some rest) others ih is =
          let one : shown_at at place k (within (difference form r)) c
          ≡ Ok (tt, c) = certificate_shows at place c (difference form r) k here in
          subst (λ (l : List Cert). all_shown at place (l ++ more) form (r ∷ rs) c ≡ Ok (tt, c)) (ap these is)
          (rw one (ih rest others))
      by (Some k) here None others ih is = absurd (let bad : false ≡ true = ap is_some is in cc)
      by None here p others ih is = absurd (let bad : false ≡ true = ap is_some is in cc)

  -- as many as facts
  pub certificates_many : (rs : List Le) (ks : List Cert) → certificates c form rs ≡ Some ks → length ks ≡ length rs
  certificates_many [] ks is = ap (λ (o : Option (List Cert)). length (these o)) (sym is)
  certificates_many (r ∷ rs) ks is =
      by (certificate_of c (difference form r)) (certificates c form rs) refl (λ rest found. certificates_many rs rest found) is
    where
      by : (o : Option Cert) (p : Option (List Cert)) → certificates c form rs ≡ p
          → ((rest : List Cert) → certificates c form rs ≡ Some rest → length rest ≡ length rs)
          → led o p ≡ Some ks → length ks ≡ length (r ∷ rs)
      by (Some k) (Some rest) others ih is =
          let one : length (k ∷ rest) ≡ length (r ∷ rs) = rw (ih rest others) refl in
          subst (λ (l : List Cert). length l ≡ length (r ∷ rs)) (ap these is) one
      by (Some k) None others ih is = absurd (let bad : false ≡ true = ap is_some is in cc)
      by None p others ih is = absurd (let bad : false ≡ true = ap is_some is in cc)

  -- what stands behind them
  pub certificates_past : (rs : List Le) (ks more : List Cert) → certificates c form rs ≡ Some ks
      → drop (length rs) (ks ++ more) ≡ more
  certificates_past rs ks more is =
      subst (λ (n : ℕ). drop n (ks ++ more) ≡ more) (certificates_many rs ks is) (drop-append_seam ks more)
