-- Bytes that are passed over.
use Rattle.std.proofs.Common.{◌≡◌, refl, ℕ, zero, suc, ◌+◌, ◌≤◌, length, List, [], ◌∷◌, drop, arith}
use Rattle.sx_text.specs.Forms.{rest_of, fault}

pub rest_of-skipped : (n at : ℕ) (bytes : List ℕ) → rest_of n at bytes ≡ rest_of 0 (at + n) (drop n bytes)
unfolding rest_of
rest_of-skipped zero at bytes = let e : at + 0 ≡ at = omega arith in rw e refl
rest_of-skipped (suc n) at [] = refl
rest_of-skipped (suc n) at (b ∷ bs) = let e : at + suc n ≡ (at + 1) + n = omega arith in rw e (rest_of-skipped n (at + 1) bs)

pub fault-skipped : (n level at : ℕ) (bytes : List ℕ) → n ≤ length bytes
    → fault n level at bytes ≡ fault 0 level (at + n) (drop n bytes)
unfolding fault
fault-skipped zero level at bytes h = let e : at + 0 ≡ at = omega arith in rw e refl
fault-skipped (suc n) level at [] h = absurd (omega arith)
fault-skipped (suc n) level at (b ∷ bs) h =
    let e : at + suc n ≡ (at + 1) + n = omega arith in
    let shorter : n ≤ length bs = omega arith in
    rw e (fault-skipped n level (at + 1) bs shorter)
