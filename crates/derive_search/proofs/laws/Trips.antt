-- The trip form that is found is read back by the rule of loops, and it is shown that there are no more turns.
use Rattle.std.proofs.Common.{◌≡◌, refl, subst, arith, ℕ, ◌≤◌, true, false, ℤ, List, [], ◌∷◌, length, Option, Some, None}
use Rattle.std.proofs.Common.{option_map, option_and_then, is_some, ap, Ok}
use Rattle.std.specs.Option.{option_or}
use Rattle.side_certs.specs.LinearForm.{LinearForm, within}
use Rattle.side_certs.specs.declared.certificate.Cert.{Cert}
use Rattle.sym_heap.specs.Context.{Context}
use Rattle.expr_rules.specs.Words.{shown, shown_there}
use Rattle.stmt_rules.specs.Loops.{entry_form}
use Rattle.stmt_rules.specs.Words.{flat}
use Rattle.stmt_rules.specs.rules.For.{spare_trips}
use Rattle.derive_search.specs.declared.trips.Trip.{Trip}
use Rattle.derive_search.specs.Kept.{certificate_of}
use Rattle.derive_search.specs.Rows.{certificate}
use Rattle.derive_search.specs.Trips.{with_form, with_args, trip_of, as_args, first_trip, candidates, trip_for}
use Rattle.derive_search.proofs.Shown.{certificate_closes}

-- a form whose certificate is the first of a node's is shown
pub shown_first : (at : ℕ) (c : Context) (f : LinearForm) (k : Cert) (more : List Cert) → certificate_of c f ≡ Some k
    → shown at (k ∷ more) f c ≡ Ok (tt, c)
shown_first at c f k more = by (within f)
  where
    by : (o : Option LinearForm) → option_and_then (certificate c) o ≡ Some k → shown_there at (k ∷ more) o c ≡ Ok (tt, c)
    by (Some goal) is = rw (certificate_closes c goal k is) refl
    by None is = absurd (let bad : false ≡ true = ap is_some is in cc)

module _ (entries : ℕ) (c : Context) (low high : LinearForm) where
  pub record TripHolds (t : Trip) : Type 0 where
    pub read : entry_form entries (flat t.args) ≡ Some t.form
    pub enough : certificate_of c (spare_trips t.form low high) ≡ Some t.cert

  abbrev Found : Option Trip → Type 0
  Found None = Unit {0}
  Found (Some t) = TripHolds t

  with_args_holds : (args : List ℤ) → Found (with_args entries c low high args)
  with_args_holds args = by (entry_form entries (flat args)) refl
    where
      by_cert : (t : LinearForm) → entry_form entries (flat args) ≡ Some t → (o : Option Cert)
          → certificate_of c (spare_trips t low high) ≡ o
          → Found (option_map (λ k. record { args = args; form = t; cert = k }) o)
      by_cert t read None is = tt
      by_cert t read (Some k) is = record { read = read; enough = is }

      by : (o : Option LinearForm) → entry_form entries (flat args) ≡ o → Found (with_form c low high args o)
      by None is = tt
      by (Some t) is = by_cert t is (certificate_of c (spare_trips t low high)) refl

  or_holds : (o p : Option Trip) → Found o → Found p → Found (option_or o p)
  or_holds None p a b = b
  or_holds (Some t) p a b = a

  first_holds : (fs : List LinearForm) → Found (first_trip entries c low high fs)
  first_holds [] = tt
  first_holds (f ∷ fs) = or_holds (trip_of entries c low high f) (first_trip entries c low high fs) (with_args_holds (as_args f))
      (first_holds fs)

  pub trip_holds : (t : Trip) → trip_for entries c low high ≡ Some t → TripHolds t
  trip_holds t is = let one : Found (Some t) = subst Found is (first_holds (candidates entries low high)) in one

-- numbers that are read as a form are some
pub some_numbers : (entries : ℕ) (args : List ℤ) (t : LinearForm) → entry_form entries (flat args) ≡ Some t → 1 ≤ length args
some_numbers entries [] t is = absurd (let bad : false ≡ true = ap is_some is in cc)
some_numbers entries (k ∷ args) t is = omega arith
