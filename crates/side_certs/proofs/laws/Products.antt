-- Products of whole numbers: sums, signs and bounds.
use Rattle.std.proofs.Common.{◌≡◌, ℕ, suc, ◌+◌, ◌-◌, ◌*◌, ◌≤◌, ℤ, pos, negsuc, ◌+ℤ◌, ◌*ℤ◌, neg_ℤ, ◌≤ℤ◌, ap, arith, mul-le-mul}
use Rattle.std.proofs.Common.{nat_abs}
use Rattle.std.proofs.lemmas.Int.{ints, unsigned_abs-mul}
use Rattle.side_certs.specs.Closes.{Near}
use borrow.Author.Differences.{up, down, sum_is_lem, product_is}

pub sum_times : (a b c : ℤ) → (a +ℤ b) *ℤ c ≡ (a *ℤ c) +ℤ (b *ℤ c)
sum_times a b c =
    let p : (up (a +ℤ b) + down a + down b) * up c ≡ (down (a +ℤ b) + up a + up b) * up c =
    ap (λ (n : ℕ). n * up c) (sum_is_lem a b) in
    let q : (up (a +ℤ b) + down a + down b) * down c ≡ (down (a +ℤ b) + up a + up b) * down c =
    ap (λ (n : ℕ). n * down c) (sum_is_lem a b) in
    omega (arith, ints, p, q)

pub times_sum : (a b c : ℤ) → a *ℤ (b +ℤ c) ≡ (a *ℤ b) +ℤ (a *ℤ c)
times_sum a b c =
    let p : (up (b +ℤ c) + down b + down c) * up a ≡ (down (b +ℤ c) + up b + up c) * up a =
    ap (λ (n : ℕ). n * up a) (sum_is_lem b c) in
    let q : (up (b +ℤ c) + down b + down c) * down a ≡ (down (b +ℤ c) + up b + up c) * down a =
    ap (λ (n : ℕ). n * down a) (sum_is_lem b c) in
    omega (arith, ints, p, q)

-- factors group
pub times_times : (k c : ℤ) (n : ℕ) → (k *ℤ c) *ℤ pos n ≡ k *ℤ (c *ℤ pos n)
times_times k c n =
    let p = product_is k c in
    let q = product_is c (pos n) in
    let whole = product_is k (c *ℤ pos n) in
    let p_up : up (k *ℤ c) * n ≡ (up k * up c + down k * down c) * n = ap (λ (x : ℕ). x * n) p.0 in
    let p_down : down (k *ℤ c) * n ≡ (up k * down c + down k * up c) * n = ap (λ (x : ℕ). x * n) p.1 in
    let up_up : up k * up (c *ℤ pos n) ≡ up k * (up c * n + down c * 0) = ap (λ (x : ℕ). up k * x) q.0 in
    let down_up : down k * up (c *ℤ pos n) ≡ down k * (up c * n + down c * 0) = ap (λ (x : ℕ). down k * x) q.0 in
    let up_down : up k * down (c *ℤ pos n) ≡ up k * (up c * 0 + down c * n) = ap (λ (x : ℕ). up k * x) q.1 in
    let down_down : down k * down (c *ℤ pos n) ≡ down k * (up c * 0 + down c * n) = ap (λ (x : ℕ). down k * x) q.1 in
    omega (arith, ints, p_up, p_down, up_up, down_up, up_down, down_down, whole.0, whole.1)

pub times_nothing : (k : ℤ) → k *ℤ pos 0 ≡ pos 0
times_nothing (pos n) = omega (arith, ints)
times_nothing (negsuc n) = omega (arith, ints)

-- d times a number is at least -(d - 1) only if the number is at least 0
pub not_below : (d : ℕ) (g : ℤ) → 1 ≤ d → neg_ℤ (pos (d - 1)) ≤ℤ (pos d *ℤ g) → pos 0 ≤ℤ g
not_below d (pos n) some enough = omega (arith, ints)
not_below d (negsuc n) some enough =
    let same_d : d ≤ d = omega arith in
    let one : 1 ≤ suc n = omega arith in
    let least : d * 1 ≤ d * suc n = mul-le-mul same_d one in
    absurd (omega (arith, ints, enough, least))

pub product_not_below : (m : ℕ) (z : ℤ) → pos 0 ≤ℤ z → pos 0 ≤ℤ (pos m *ℤ z)
product_not_below m (pos n) some = omega (arith, ints)
product_not_below m (negsuc n) some = absurd (omega (arith, ints, some))

-- a product has at most the product of the magnitudes
pub near_product : (m n : ℕ) (a b : ℤ) → Near m a → Near n b → Near (m * n) (a *ℤ b)
near_product m n a b one two =
    near_of (a *ℤ b) (m * n) (let sizes = unsigned_abs-mul a b in let most = mul-le-mul (size a m one) (size b n two) in
    omega (arith, sizes, most)) where
      size : (z : ℤ) (k : ℕ) → Near k z → nat_abs z ≤ k
      size (pos i) k near = omega (arith, ints, near.1)
      size (negsuc i) k near = omega (arith, ints, near.0)

      near_of : (z : ℤ) (k : ℕ) → nat_abs z ≤ k → Near k z
      near_of (pos i) k less = (omega (arith, ints), omega (arith, ints, less))
      near_of (negsuc i) k less = (omega (arith, ints, less), omega (arith, ints))
