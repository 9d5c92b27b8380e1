-- Quotients and remainders by a number that is not 0.
use Rattle.std.proofs.Common.{◌≡◌, refl, arith, ℕ, ◌+◌, ◌-◌, ◌*◌, ◌/◌, ◌%◌, ◌<◌, ◌≤◌, nat_eq, false}
use Rattle.std.proofs.lemmas.Bool.Decides.{nat_tests}
use Rattle.std.proofs.lemmas.Nat.{le-div}
use Rattle.std.proofs.Math.Nat.{mod-le, mod-lt, div-le_self, mul-div-le, div-add-mod, div-mul-le_self}
use Rattle.rup_base.specs.Word.{quotient, remainder}

module _ (m n : ℕ) (some : 1 ≤ n) where
  not_zero : nat_eq n 0 ≡ false
  not_zero = grind (arith, nat_tests, some)

  left_less : m % n < n
  left_less = mod-lt m (omega (arith, some))

  pub remainder_less : remainder m n ≤ n - 1
  remainder_less = let less = left_less in rw not_zero (omega (arith, less))

  pub remainder_most : remainder m n ≤ m
  remainder_most = rw not_zero (mod-le m n)

  pub quotient_is : quotient m n ≡ m / n
  quotient_is = rw not_zero refl

  pub quotient_less : m / n ≤ m
  quotient_less = div-le_self m n

  pub quotient_times : n * (m / n) ≤ m
  quotient_times = mul-div-le m n

  pub quotient_room : m ≤ n * (m / n) + (n - 1)
  quotient_room = let whole = div-add-mod m n in let less = left_less in omega (arith, whole, less)

  pub quotient_most : (most : ℕ) → m ≤ most → m / n ≤ most / n
  quotient_most most small = let times = div-mul-le_self m n in
      le-div (m / n) most n (omega (arith, some)) (omega (arith, times, small))
