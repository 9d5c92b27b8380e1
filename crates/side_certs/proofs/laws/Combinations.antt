-- Sums of multiples of forms: their numbers, and their symbols in order.
use Rattle.std.proofs.Common.{◌≡◌, ℕ, ◌+◌, ◌-◌, ◌<◌, ◌≤◌, Bool, true, false, List, [], ◌∷◌, length, take, drop, slice_index_or}
use Rattle.std.proofs.Common.{Option, Some, None, ℤ, pos, ◌+ℤ◌, ◌*ℤ◌, nat_le, if◌then◌else◌, refl, sym, ap, ◌∙◌, arith}
use Rattle.std.proofs.Math.Seq.{take-length}
use Rattle.std.proofs.lemmas.Bool.Decides.{nat_tests}
use Rattle.std.proofs.lemmas.Int.{ints}
use Rattle.side_certs.specs.declared.combining.Part.{Part}
use Rattle.side_certs.specs.LinearForm.{LinearForm, constant, plus, times, merge, terms_times, coefficient, rises_from}
use Rattle.side_certs.specs.Closes.{number_at}
use Rattle.side_certs.specs.Combination.{IsFrom, IsBefore, IsNext, sum, parts_at, lesser}
use Rattle.side_certs.proofs.laws.Coefficients.{coefficient_plus, coefficient_scaled}
use Rattle.side_certs.proofs.laws.Limits.{rises_parts, rises_made, coefficient_before, merge_rises, times_rise}
use Rattle.side_certs.proofs.laws.Products.{times_nothing}

-- a list by its first element and the others
pub split_first : {X : Type 0} (xs : List X) (x : X) → 1 ≤ length xs → x ≡ slice_index_or xs 0 x
    → xs ≡ x ∷ take (length xs - 1) (drop 1 xs)
split_first [] x some is = absurd (omega arith)
split_first (y ∷ ys) x some is =
    let size : length (y ∷ ys) - 1 ≡ length ys = omega arith in
    rw (size, take-length ys, is) refl

pub number_plus : (place : Option ℕ) (f g : LinearForm) → number_at place (plus f g) ≡ number_at place f +ℤ number_at place g
number_plus None f g = refl
number_plus (Some s) f g = coefficient_plus s f g

pub number_times : (place : Option ℕ) (k : ℤ) (f : LinearForm) → number_at place (times k f) ≡ k *ℤ number_at place f
number_times None k f = refl
number_times (Some s) k f = coefficient_scaled s k f

pub number_sum : (place : Option ℕ) (k : ℤ) (ps : List Part)
    → number_at place (sum k ps) ≡ number_at place (constant k) +ℤ parts_at place ps
number_sum place k [] = omega (arith, ints)
number_sum place k (p ∷ ps) =
    let whole = number_plus place (times p.times p.form.now) (sum k ps) in
    let first = number_times place p.times p.form.now in
    let rest = number_sum place k ps in
    omega (arith, ints, whole, first, rest)

-- The first symbols of sums and multiples.

pub next_none : (k : ℤ) (least : ℕ) → IsNext (constant k) least None
next_none k least = record { from = tt; before = λ r from before. refl }

pub next_times : (k : ℤ) (f : LinearForm) (least : ℕ) (next : Option ℕ) → IsNext f least next → IsNext (times k f) least next
next_times k f least next is = record {
  from = is.from;
  before = λ r from before. coefficient_scaled r k f ∙ ap (λ (z : ℤ). k *ℤ z) (is.before r from before) ∙ times_nothing k;
}

from_lesser : (least : ℕ) (a b : Option ℕ) → IsFrom least a → IsFrom least b → IsFrom least (lesser a b)
from_lesser least None b one two = two
from_lesser least (Some s) None one two = one
from_lesser least (Some s) (Some r) one two = by (nat_le s r) where
  by : (less : Bool) → least ≤ (if less then s else r)
  by true = one
  by false = two

before_lesser : (r : ℕ) (a b : Option ℕ) → IsBefore r (lesser a b) → IsBefore r a × IsBefore r b
before_lesser r None b before = (tt, before)
before_lesser r (Some s) None before = (before, tt)
before_lesser r (Some s) (Some t) before = by (nat_le s t) refl before where
  by : (less : Bool) → nat_le s t ≡ less → r < (if less then s else t) → (r < s) × (r < t)
  by true e lt = (lt, grind (arith, nat_tests, lt, e))
  by false e lt = (grind (arith, nat_tests, lt, e), lt)

pub next_plus : (f g : LinearForm) (least : ℕ) (a b : Option ℕ) → IsNext f least a → IsNext g least b
    → IsNext (plus f g) least (lesser a b)
next_plus f g least a b one two = record {
  from = from_lesser least a b one.from two.from;
  before = λ r from before.
      let both = before_lesser r a b before in
      let whole = coefficient_plus r f g in
      let first = one.before r from both.0 in
      let second = two.before r from both.1 in
      omega (arith, ints, whole, first, second);
}

pub sum_rises : (ts us : List (ℕ × ℤ)) (k : ℤ) → rises_from 0 ts ≡ true → rises_from 0 us ≡ true
    → rises_from 0 (merge (terms_times k ts) us) ≡ true
sum_rises ts us k one two = merge_rises (terms_times k ts) us 0 (times_rise k 0 ts one) two

-- the first of terms whose symbols rise is their next one
pub next_first : (f : LinearForm) (ts : List (ℕ × ℤ)) (least : ℕ) → 1 ≤ length ts → rises_from 0 ts ≡ true
    → ((r : ℕ) → least ≤ r → coefficient r ts ≡ coefficient r f.terms)
    → least ≤ (slice_index_or ts 0 (0, pos 0)).0 → IsNext f least (Some (slice_index_or ts 0 (0, pos 0)).0)
next_first f [] least some rise same from = absurd (omega arith)
next_first f (t ∷ ts) least some rise same from =
    let p = rises_parts 0 t ts rise in
    record {
      from = from;
      before = λ r least_r before. sym (same r least_r) ∙ (
          let other : coefficient r (t ∷ ts) ≡ pos 0 = none p.2 r before in other);
    }
  where
    none : rises_from (t.0 + 1) ts ≡ true → (r : ℕ) → r < t.0 → coefficient r (t ∷ ts) ≡ pos 0
    none rest r before = coefficient_before r t.0 (t ∷ ts) before
        (let p = rises_parts 0 t ts rise in rises_made t.0 t ts (omega arith) p.1 p.2)
