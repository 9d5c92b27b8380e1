-- Values of sums, and of forms that are numbers.
use Rattle.std.proofs.Common.{◌≡◌, refl, ◌∙◌, ap, arith, ℕ, ◌≤◌, Bool, true, false, ◌&&◌, nat_abs, nat_eq, List, [], ◌∷◌, length}
use Rattle.std.proofs.Common.{Option, Some, None, ℤ, pos, negsuc, ◌≤ℤ◌, ◌+ℤ◌, ◌*ℤ◌}
use Rattle.std.specs.Int.Signed.{le_z}
use Rattle.std.proofs.lemmas.Bool.Decides.{nat_tests}
use Rattle.std.proofs.lemmas.Int.{ints}
use Rattle.side_certs.specs.LinearForm.{LinearForm, constant, times, minus, value_at}
use Rattle.side_certs.proofs.laws.Values.{value_plus, value_times, value_constant}
use Rattle.model_syntax.proofs.laws.Arrays.{and_parts}
use Rattle.sym_heap.specs.Fits.{Known}
use Rattle.sym_heap.proofs.laws.Extending.{known_plus, known_times, known_constant}
use Rattle.expr_rules.specs.Words.{sum_of, number_of, in_range, number_in}

abbrev pub total : (ℕ → ℕ) → List (ℤ × LinearForm) → ℤ
total v [] = pos 0
total v (p ∷ ps) = (p.0 *ℤ value_at v p.1) +ℤ total v ps

pub value_sum : (v : ℕ → ℕ) (k : ℤ) (ps : List (ℤ × LinearForm)) → value_at v (sum_of k ps) ≡ k +ℤ total v ps
value_sum v k [] = let one = value_constant v k in omega (arith, ints, one)
value_sum v k (p ∷ ps) =
    let whole = value_plus v (times p.0 p.1) (sum_of k ps) in
    let first = value_times v p.0 p.1 in
    let rest = value_sum v k ps in
    omega (arith, ints, whole, first, rest)

pub known_minus : (n : ℕ) (f g : LinearForm) → Known n f → Known n g → Known n (minus f g)
known_minus n f g one two = known_plus n f (times (negsuc 0) g) one (known_times n (negsuc 0) g two)

-- a form less another one and a number less a form
pub known_less : (n : ℕ) (k : ℤ) (f : LinearForm) → Known n f → Known n (sum_of k ((negsuc 0, f) ∷ []))
known_less n k f one = known_plus n (times (negsuc 0) f) (constant k) (known_times n (negsuc 0) f one) (known_constant n k)

-- a form that is a number has that value
pub number_value : (f : LinearForm) (k : ℤ) → number_of f ≡ Some k → (v : ℕ → ℕ) → value_at v f ≡ k
number_value f k is v = by f.terms refl where
  by : (ts : List (ℕ × ℤ)) → f.terms ≡ ts → value_at v f ≡ k
  by [] e =
      let here : Some f.constant ≡ Some k = rw e at is in
      let one : f.constant ≡ k = cc in
      rw e (omega (arith, ints, one))
  by (t ∷ ts) e =
      let some : nat_eq (length (t ∷ ts)) 0 ≡ false = grind (arith, nat_tests) in
      absurd (let bad : None ≡ Some k = rw (e, some) at is in cc)

-- and one from the least to the greatest
pub record NumberIn (low high n : ℕ) (f : LinearForm) : Type 0 where
  pub least : low ≤ n
  pub greatest : n ≤ high
  pub value_is : (v : ℕ → ℕ) → value_at v f ≡ pos n

range_is : (low high n : ℕ) (k : ℤ) → in_range low high k ≡ Some n → (low ≤ n) × (n ≤ high) × (k ≡ pos n)
range_is low high n k is = by (le_z (pos low) k && le_z k (pos high)) refl where
  by : (b : Bool) → (le_z (pos low) k && le_z k (pos high)) ≡ b → (low ≤ n) × (n ≤ high) × (k ≡ pos n)
  by true e =
      let sides = and_parts (le_z (pos low) k) (le_z k (pos high)) e in
      let least : pos low ≤ℤ k = omega (arith, ints, sides.0) in
      let greatest : k ≤ℤ pos high = omega (arith, ints, sides.1) in
      let here : Some (nat_abs k) ≡ Some n = rw e at is in
      let size : nat_abs k ≡ n = cc in
      whole k size least greatest
    where
      whole : (z : ℤ) → nat_abs z ≡ n → pos low ≤ℤ z → z ≤ℤ pos high → (low ≤ n) × (n ≤ high) × (z ≡ pos n)
      whole (pos m) size least greatest = let same : m ≡ n = size in
          (omega (arith, ints, least, same), omega (arith, ints, greatest, same), ap pos same)
      whole (negsuc m) size least greatest = absurd (omega (arith, ints, least))
  by false e = absurd (let bad : None ≡ Some n = rw e at is in cc)

pub number_in_is : (low high n : ℕ) (f : LinearForm) → number_in low high f ≡ Some n → NumberIn low high n f
number_in_is low high n f is = by (number_of f) refl where
  by : (o : Option ℤ) → number_of f ≡ o → NumberIn low high n f
  by None e = absurd (let bad : None ≡ Some n = rw e at is in cc)
  by (Some k) e =
      let range = range_is low high n k (rw e at is) in
      record { least = range.0; greatest = range.1; value_is = λ v. number_value f k e v ∙ range.2 }
