-- The candidates one after the other, and what they give.
use Rattle.std.proofs.Common.{◌≡◌, ℕ, zero, suc, ◌-◌, ◌<◌, refl, arith}
use Rattle.std.proofs.Common.{List, [], ◌∷◌, ◌++◌, take, Option, Some, None, ℤ}
use Rattle.std.specs.Prelude.{slice_get}
use Rattle.side_certs.specs.declared.certificate.Entry.{Entry}
use Rattle.side_certs.specs.LinearForm.{LinearForm, coefficient}
use Rattle.cert_search.specs.Search.{quotient, entry, fact_entry, fitting, at_most_one}
use Rattle.cert_search.specs.Search.{first_of, by_least, entries, taken}

module _ (facts : List LinearForm) (t : ℕ × ℤ) where
  fact_entry_is : (i : ℕ) (f : LinearForm) → slice_get facts i ≡ Some f
      → fact_entry facts t i ≡ entry 0 i (quotient t.1 (coefficient t.0 f.terms))
  fact_entry_is i f is = rw is refl

  -- the newest fact fits
  pub fits : (n : ℕ) (f : LinearForm) (m : ℕ) → 0 < n → slice_get facts (n - 1) ≡ Some f
      → Some m ≡ quotient t.1 (coefficient t.0 f.terms)
      → fitting facts t n ≡ record { kind = 0; number = n - 1; mult = m } ∷ fitting facts t (n - 1)
  fits zero f m some is mult = absurd (omega arith)
  fits (suc n) f m some is mult =
      let same : suc n - 1 ≡ n = omega arith in
      let at_n : slice_get facts n ≡ Some f = rw same at is in
      rw (same, fact_entry_is n f at_n, ← mult) refl

  -- the newest fact doesn't
  pub fits_not : (n : ℕ) (f : LinearForm) → 0 < n → slice_get facts (n - 1) ≡ Some f
      → None ≡ quotient t.1 (coefficient t.0 f.terms) → fitting facts t (n - 1) ≡ fitting facts t n
  fits_not zero f some is mult = absurd (omega arith)
  fits_not (suc n) f some is mult =
      let same : suc n - 1 ≡ n = omega arith in
      let at_n : slice_get facts n ≡ Some f = rw same at is in
      rw (same, fact_entry_is n f at_n, ← mult) refl

module _ (attempt : Entry → Option (List Entry)) where
  -- the newest fact that fits gives something
  pub first_gives : (m : ℕ) (fit older more : List Entry) (e : Entry) (o : Option (List Entry)) (found : List Entry) → 0 < m
      → fit ≡ e ∷ older → o ≡ attempt e → o ≡ Some found → Some found ≡ first_of attempt (take m fit ++ more)
  first_gives zero fit older more e o found some newest tried gives = absurd (omega arith)
  first_gives (suc m) fit older more e o found some newest tried gives = rw (newest, ← tried, gives) refl

  -- the newest fact that fits gives nothing
  pub first_fails : (m : ℕ) (fit older more : List Entry) (e : Entry) (o : Option (List Entry)) → 0 < m → fit ≡ e ∷ older
      → o ≡ attempt e → o ≡ None → first_of attempt (take (m - 1) older ++ more) ≡ first_of attempt (take m fit ++ more)
  first_fails zero fit older more e o some newest tried fails = absurd (omega arith)
  first_fails (suc m) fit older more e o some newest tried fails =
      let same : suc m - 1 ≡ m = omega arith in
      rw (same, newest, ← tried, fails) refl

  -- no more facts are tried, and the symbol has no entry
  pub none_tried : (m : ℕ) (fit : List Entry) (o : Option Entry) → m ≡ 0 → None ≡ o
      → None ≡ first_of attempt (take m fit ++ at_most_one o)
  none_tried m fit o is none = rw (is, ← none) refl

  -- no more facts fit, and the symbol has no entry
  pub none_fits : (m : ℕ) (fit : List Entry) (o : Option Entry) → fit ≡ [] → None ≡ o
      → None ≡ first_of attempt (take m fit ++ at_most_one o)
  none_fits zero fit o is none = rw (← none) refl
  none_fits (suc m) fit o is none = rw (is, ← none) refl

-- with a level left, a goal with a symbol gets what the first candidate gives
pub by_candidates : (facts : List LinearForm) (tops : List ℕ) (n : ℕ) (goal : LinearForm) (t : ℕ × ℤ)
    → (n ≡ 0 → ⊥) → slice_get goal.terms 0 ≡ Some t
    → entries facts tops n goal
    ≡ taken (entries facts tops (n - 1)) facts tops goal t
by_candidates facts tops zero goal t some is = absurd (some refl)
by_candidates facts tops (suc n) goal t some is = let same : suc n - 1 ≡ n = omega arith in rw same (first (goal.terms) is) where
  first : (ts : List (ℕ × ℤ)) → slice_get ts 0 ≡ Some t
      → by_least (taken (entries facts tops n) facts tops goal) goal.constant ts ≡ taken (entries facts tops n) facts tops goal t
  first [] none = absurd (cc)
  first (u ∷ us) one = let u_is : u ≡ t = cc in rw u_is refl
