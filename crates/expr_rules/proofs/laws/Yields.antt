-- What holds of an answer that is there, through the words of rules.
use Rattle.std.proofs.Common.{◌≡◌, refl, ℕ, pos, ◌≤ℤ◌, Bool, true, false, List, [], ◌∷◌, length, Option, Some, None, Result, Ok}
use Rattle.std.proofs.Common.{Err}
use Rattle.rup_base.specs.Answers.{and_then_with}
use Rattle.rup_base.specs.declared.refusal.Refusal.{Refusal}
use Rattle.side_certs.specs.LinearForm.{LinearForm, symbol, is_within, value_at}
use Rattle.side_certs.specs.Closes.{closes, Holds}
use Rattle.side_certs.specs.declared.certificate.Cert.{Cert}
use Rattle.side_certs.proofs.laws.Closing.{closed_holds}
use Rattle.sym_heap.specs.Context.{Context, has_symbol, with_top, has_room, with_fact}
use Rattle.expr_rules.specs.Words.{Rule, ◌>>=◌, need, found, made, cert, shown, fresh, added, fact}
use Rattle.expr_rules.specs.Sound.{Yields}

pub yields_more : {A : Type 0} (P Q : A → Context → Type 0) → ((a : A) (d : Context) → P a d → Q a d)
    → (r : Result (A × Context) Refusal) → Yields P r → Yields Q r
yields_more P Q more (Ok p) is = more p.0 p.1 is
yields_more P Q more (Err refusal) is = tt

module _ {B : Type 0} (Q : B → Context → Type 0) (c : Context) where
  pub yields_then : {A : Type 0} (P : A → Context → Type 0) (m : Rule A) (k : A → Rule B) → Yields P (m c)
      → ((a : A) (d : Context) → P a d → Yields Q (k a d)) → Yields Q ((m >>= k) c)
  yields_then {A} P m k one more = by (m c) one where
    by : (r : Result (A × Context) Refusal) → Yields P r → Yields Q (and_then_with r k)
    by (Ok p) one = more p.0 p.1 one
    by (Err refusal) one = tt

  pub yields_need : (b : Bool) (at cond : ℕ) (k : Unit {0} → Rule B) → (b ≡ true → Yields Q (k tt c))
      → Yields Q ((need b at cond >>= k) c)
  yields_need true at cond k more = more refl
  yields_need false at cond k more = tt

  pub yields_found : {A : Type 0} (o : Option A) (at cond : ℕ) (k : A → Rule B) → ((a : A) → o ≡ Some a → Yields Q (k a c))
      → Yields Q ((found o at cond >>= k) c)
  yields_found (Some a) at cond k more = more a refl
  yields_found None at cond k more = tt

  pub yields_made : (at : ℕ) (f : LinearForm) (k : LinearForm → Rule B) → Yields Q (k f c) → Yields Q ((made at f >>= k) c)
  yields_made at f k more = by (is_within f) refl where
    by : (b : Bool) → is_within f ≡ b → Yields Q ((made at f >>= k) c)
    by true e = rw e more
    by false e = rw e tt

  pub yields_cert : (at : ℕ) (certs : List Cert) (goal : LinearForm) (k : Unit {0} → Rule B)
      → (((v : ℕ → ℕ) → Holds v c.facts c.tops → pos 0 ≤ℤ value_at v goal) → Yields Q (k tt c))
      → Yields Q ((cert at certs goal >>= k) c)
  yields_cert at [] goal k more = tt
  yields_cert at (one ∷ rest) goal k more = by (closes c.facts c.tops goal one) refl where
    by : (b : Bool) → closes c.facts c.tops goal one ≡ b → Yields Q ((cert at (one ∷ rest) goal >>= k) c)
    by true e = rw e (more (λ v holds. closed_holds c.facts c.tops goal one e v holds))
    by false e = rw e tt

  pub yields_shown : (at : ℕ) (certs : List Cert) (goal : LinearForm) (k : Unit {0} → Rule B)
      → (((v : ℕ → ℕ) → Holds v c.facts c.tops → pos 0 ≤ℤ value_at v goal) → Yields Q (k tt c))
      → Yields Q ((shown at certs goal >>= k) c)
  yields_shown at certs goal k more = by (is_within goal) refl where
    by : (b : Bool) → is_within goal ≡ b → Yields Q ((shown at certs goal >>= k) c)
    by true e = rw e (yields_cert at certs goal k more)
    by false e = rw e tt

  pub yields_fresh : (at top : ℕ) (k : LinearForm → Rule B) → Yields Q (k (symbol (length c.tops)) (with_top top c))
      → Yields Q ((fresh at top >>= k) c)
  yields_fresh at top k more = by (has_symbol c) refl where
    by : (b : Bool) → has_symbol c ≡ b → Yields Q ((fresh at top >>= k) c)
    by true e = rw e more
    by false e = rw e tt

  yields_added : (at : ℕ) (f : LinearForm) (k : Unit {0} → Rule B) → Yields Q (k tt (with_fact f c))
      → Yields Q ((added at f >>= k) c)
  yields_added at f k more = by (has_room c) refl where
    by : (b : Bool) → has_room c ≡ b → Yields Q ((added at f >>= k) c)
    by true e = rw e more
    by false e = rw e tt

  pub yields_fact : (at : ℕ) (f : LinearForm) (k : Unit {0} → Rule B) → Yields Q (k tt (with_fact f c))
      → Yields Q ((fact at f >>= k) c)
  yields_fact at f k more = by (is_within f) refl where
    by : (b : Bool) → is_within f ≡ b → Yields Q ((fact at f >>= k) c)
    by true e = rw e (yields_added at f k more)
    by false e = rw e tt
