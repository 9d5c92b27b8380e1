-- What the search finds closes: each entry takes its form off the goal, and in the end a number of at least 0 is left.
use Rattle.std.proofs.Common.{◌≡◌, ℕ, zero, suc, ◌≤◌, Bool, true, false, ◌&&◌, if◌then◌else◌, nat_le, refl, ◌∙◌, arith}
use Rattle.std.proofs.Common.{List, [], ◌∷◌, length, Option, Some, None, option_map, option_and_then, ℤ, pos, ◌≤ℤ◌}
use Rattle.std.specs.Option.{option_or}
use Rattle.std.specs.List.{list_all}
use Rattle.std.specs.Int.Signed.{le_z}
use Rattle.std.proofs.lemmas.Int.{ints}
use Rattle.std.proofs.lemmas.Bool.{le-leb}
use Rattle.side_certs.specs.declared.certificate.Cert.{Cert}
use Rattle.side_certs.specs.declared.certificate.Entry.{Entry}
use Rattle.side_certs.specs.LinearForm.{LinearForm, coefficient, is_within, within, minus, times}
use Rattle.side_certs.specs.Closes.{greatest_multiplier, form_of, named, all_named, summed, number_at, Closes}
use Rattle.side_certs.proofs.laws.Coefficients.{coefficient_minus, coefficient_scaled}
use Rattle.side_certs.proofs.laws.Limits.{both, and_parts}
use Rattle.cert_search.specs.Limits.{entry_in_range, Limited}
use Rattle.cert_search.specs.Search.{candidates, next_goal, beginning, first_of, by_least, taken, entries, found, levels}
use Rattle.cert_search.proofs.Ranges.{Fits, AllFit, candidates_fit}

within_is : (f g : LinearForm) → within f ≡ Some g → f ≡ g
within_is f g is = by (is_within f) refl where
  by : (b : Bool) → is_within f ≡ b → f ≡ g
  by true e = let same = rw e at is in cc
  by false e = let none : ◌≡◌ {A = Option LinearForm} None (Some g) = rw e at is in absurd (cc)

-- the goal less the entry's form, times its multiplier
abbrev less : LinearForm → Entry → LinearForm → LinearForm
less goal e f = minus goal (times (pos e.mult) f)

module _ (facts : List LinearForm) (tops : List ℕ) where
  -- at most n entries, whose forms, each times its multiplier, are the goal but for a number of at least 0
  record Leads (n : ℕ) (goal : LinearForm) (es : List Entry) : Type 0 where
    few : length es ≤ n
    ranges : list_all (entry_in_range facts tops) es ≡ true
    names : all_named facts tops es ≡ true
    number : (s : ℕ) → coefficient s goal.terms ≡ summed (number_at (Some s)) facts tops es
    enough : summed (number_at None) facts tops es ≤ℤ goal.constant

  by_sign : (n : ℕ) (goal : LinearForm) (es : List Entry) → goal.terms ≡ []
      → (if le_z (pos 0) goal.constant then Some [] else None) ≡ Some es → Leads n goal es
  by_sign n goal es no_terms is = by (le_z (pos 0) goal.constant) refl where
    by : (b : Bool) → le_z (pos 0) goal.constant ≡ b → Leads n goal es
    by false e = let none : ◌≡◌ {A = Option (List Entry)} None (Some es) = rw e at is in absurd (cc)
    by true e =
        let closed = rw e at is in
        let empty : [] ≡ es = cc in
        rw (← empty) (record {
          few = omega arith;
          ranges = refl;
          names = refl;
          number = λ s. rw no_terms refl;
          enough = omega (arith, ints, e);
        })

  one_more : (n : ℕ) (goal f : LinearForm) (e : Entry) (es : List Entry) → Fits facts tops e → named facts tops e ≡ Some f
      → Leads n (less goal e f) es → Leads (suc n) goal (e ∷ es)
  one_more n goal f e es fits is l = record {
    few = omega (arith, l.few);
    ranges = both fits l.ranges;
    names = rw is l.names;
    number = λ s.
        let difference = coefficient_minus s goal (times (pos e.mult) f) in
        let product = coefficient_scaled s (pos e.mult) f in
        let rest = l.number s in
        rw is (omega (arith, ints, difference, product, rest));
    enough = let rest = l.enough in rw is (omega (arith, ints, rest));
  }

  -- the first candidate that gives something
  by_first : {P : Type 0} (attempt : Entry → Option (List Entry)) (es found : List Entry)
      → ((e : Entry) → Fits facts tops e → attempt e ≡ Some found → P) → AllFit facts tops es
      → first_of attempt es ≡ Some found → P
  by_first {P = P} attempt [] found each all is = absurd (cc)
  by_first {P = P} attempt (e ∷ es) found each all is = by (attempt e) refl (by_first attempt es found each all.1) is where
    by : (o : Option (List Entry)) → attempt e ≡ o → (first_of attempt es ≡ Some found → P)
        → option_or o (first_of attempt es) ≡ Some found → P
    by None p rest q = rest q
    by (Some some) p rest q = each e all.0 (p ∙ q)

  -- what an entry begins with leads, where what the next goal gets does
  entry_leads : (n : ℕ) (goal : LinearForm) (next : LinearForm → Option (List Entry)) (e : Entry) (found : List Entry)
      → ((rest : LinearForm) (es : List Entry) → next rest ≡ Some es → Leads n rest es) → Fits facts tops e
      → beginning next (next_goal facts tops goal) e ≡ Some found → Leads (suc n) goal found
  entry_leads n goal next e found each fits is = by_form (form_of facts tops e.kind e.number) refl is where
    by_more : (f rest : LinearForm) → named facts tops e ≡ Some f → within (less goal e f) ≡ Some rest
        → (o : Option (List Entry)) → next rest ≡ o → option_map (λ es. e ∷ es) o ≡ Some found → Leads (suc n) goal found
    by_more f rest names w None p q = absurd (cc)
    by_more f rest names w (Some es) p q =
        let same : e ∷ es ≡ found = cc in
        let rest_is = within_is (less goal e f) rest w in
        let l : Leads n (less goal e f) es = rw rest_is (each rest es p) in
        rw (← same) (one_more n goal f e es fits names l)

    by_rest : (f : LinearForm) → named facts tops e ≡ Some f → (o : Option LinearForm) → within (less goal e f) ≡ o
        → option_map (λ es. e ∷ es) (option_and_then next o) ≡ Some found → Leads (suc n) goal found
    by_rest f names None w q = absurd (cc)
    by_rest f names (Some rest) w q = by_more f rest names w (next rest) refl q

    by_form : (o : Option LinearForm) → form_of facts tops e.kind e.number ≡ o
        → option_map (λ es. e ∷ es) (option_and_then next (option_and_then (λ f. within (less goal e f)) o)) ≡ Some found
        → Leads (suc n) goal found
    by_form None p q = absurd (cc)
    by_form (Some f) p q =
        let size = (and_parts (nat_le 1 e.mult && nat_le e.mult greatest_multiplier) _ fits).0 in
        let small : nat_le e.mult greatest_multiplier ≡ true = (and_parts (nat_le 1 e.mult) _ size).1 in
        by_rest f (rw small p) (within (less goal e f)) refl q

  leads : (n : ℕ) (goal : LinearForm) (es : List Entry) → entries facts tops n goal ≡ Some es → Leads n goal es
  leads zero goal es is = by goal.terms refl is where
    by : (ts : List (ℕ × ℤ)) → goal.terms ≡ ts → by_least (λ t. None) goal.constant ts ≡ Some es → Leads zero goal es
    by [] p q = by_sign zero goal es p q
    by (t ∷ ts) p q = absurd (cc)
  leads (suc n) goal es is = by (leads n) goal.terms refl is where
    by : ((rest : LinearForm) (more : List Entry) → entries facts tops n rest ≡ Some more → Leads n rest more)
        → (ts : List (ℕ × ℤ)) → goal.terms ≡ ts
        → by_least (taken (entries facts tops n) facts tops goal) goal.constant ts ≡ Some es → Leads (suc n) goal es
    by next [] p q = by_sign (suc n) goal es p q
    by next (t ∷ ts) p q =
        by_first (beginning (entries facts tops n) (next_goal facts tops goal)) (candidates facts tops t) es
        (λ e fits gives. entry_leads n goal (entries facts tops n) e es next fits gives)
        (candidates_fit facts tops t) q

  closing : (goal : LinearForm) (es : List Entry) → Leads levels goal es
      → Closes facts tops goal (record { d = 1; entries = es })
  closing goal es l =
      let few : nat_le (length es) 32 ≡ true = le-leb _ _ (omega (arith, l.few)) in
      record {
        range = few;
        names = l.names;
        number = λ s. let n = l.number s in omega (arith, ints, n);
        enough = let e = l.enough in omega (arith, ints, e);
      }

  -- what the search finds closes the goal, and is limited
  pub found_leads : (goal : LinearForm) (certificate : Cert) → found facts tops goal ≡ Some certificate
      → Closes facts tops goal certificate × Limited facts tops certificate
  found_leads goal certificate is = by (entries facts tops levels goal) refl is where
    by : (o : Option (List Entry)) → entries facts tops levels goal ≡ o
        → option_map (λ es. record { d = 1; entries = es }) o ≡ Some certificate
        → Closes facts tops goal certificate × Limited facts tops certificate
    by None p q = absurd (cc)
    by (Some es) p q =
        let same : record { d = 1; entries = es } ≡ certificate = cc in
        let l = leads levels goal es p in
        rw (← same) (closing goal es l, record { once = refl; few = l.few; ranges = l.ranges })
