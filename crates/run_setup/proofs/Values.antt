-- The values of forms, and their bounds.
use Rattle.std.proofs.Common.{◌≡◌, ℕ, suc, ◌+◌, ◌*◌, ◌^◌, ◌<◌, ◌≤◌, List, length, drop, Some, ℤ, pos, negsuc, slice_get, SFits}
use Rattle.std.proofs.Common.{Fits, ap, add-one, drop-cons, arith}
use Rattle.std.specs.Prelude.{◌+ℤ◌, ◌*ℤ◌, ◌≤ℤ◌, nat_abs}
use Rattle.std.specs.Int.{w64}
use Rattle.std.proofs.Math.Facts.{Fits-nat_abs}
use Rattle.std.proofs.Common.{mul-le-mul}
use Rattle.std.proofs.lemmas.Int.{unsigned_abs-mul, ints}
use Rattle.std.proofs.lemmas.Option.{slice_get_within, get_or_from_slice_get}
use Rattle.side_certs.specs.LinearForm.{terms_at}

bounds : (z : ℤ) (n : ℕ) → nat_abs z ≤ n → (negsuc n ≤ℤ z) × (z ≤ℤ pos n)
bounds (pos k) n h = (omega (arith, ints), omega (arith, ints))
bounds (negsuc k) n h = (omega (arith, ints), omega (arith, ints))

-- a coefficient of 64 bits times a word
pub product_bounds : (z : ℤ) (v : ℕ) → SFits w64 z → v < 2 ^ 32
    → (negsuc (2 ^ 96) ≤ℤ (z *ℤ pos v)) × ((z *ℤ pos v) ≤ℤ pos (2 ^ 96))
product_bounds z v fits small =
    let size : Fits w64 (nat_abs z) = Fits-nat_abs tt fits in
    let below : nat_abs z ≤ 2 ^ 64 = omega (arith, size) in
    let word : nat_abs (pos v) ≤ 2 ^ 32 = omega (arith, small) in
    let product : nat_abs z * nat_abs (pos v) ≤ 2 ^ 64 * 2 ^ 32 = mul-le-mul below word in
    bounds (z *ℤ pos v) (2 ^ 96) (omega (arith, unsigned_abs-mul z (pos v), product))

-- the terms from number k on are that term and the terms behind it
pub terms_step : (numbers : ℕ → ℕ) (ts : List (ℕ × ℤ)) (k : ℕ) (t : ℕ × ℤ) → slice_get ts k ≡ Some t
    → terms_at numbers (drop k ts) ≡ (t.1 *ℤ pos (numbers t.0)) +ℤ terms_at numbers (drop (k + 1) ts)
terms_step numbers ts k t e =
    let within : k < length ts = slice_get_within ts k t e in
    rw (drop-cons ts k t, add-one)
    (ap (λ (u : ℕ × ℤ). (u.1 *ℤ pos (numbers u.0)) +ℤ terms_at numbers (drop (suc k) ts)) (get_or_from_slice_get ts k t t e))
