-- Lengths that are counted entry by entry.
use Rattle.std.proofs.Common.{◌≡◌, ℕ, ◌+◌, ◌-◌, ◌*◌, ◌≤◌, List, [], ◌∷◌, length, take, drop, get_or, ap, length-append, arith}
use Rattle.std.specs.List.{flat_map}
use Rattle.std.proofs.Math.Seq.{take-length}
use Rattle.side_certs.specs.LinearForm.{LinearForm}
use Rattle.image_layout.specs.Spelling.{requirement}
use Rattle.image_layout.proofs.laws.Length.{requirement_size}

-- one more requirement is counted, and the others are left
pub requirement_counted : (counted terms : ℕ) (left : List LinearForm) (f e : LinearForm) (whole : ℕ) → 1 ≤ length left
    → f ≡ get_or left 0 e → terms ≡ length f.terms
    → counted + length (flat_map requirement left) ≡ whole
    → counted + (12 + 12 * terms) + length (flat_map requirement (take (length left - 1) (drop 1 left))) ≡ whole
requirement_counted counted terms [] f e whole some is has so_far = absurd (omega (arith, some))
requirement_counted counted terms (g ∷ left) f e whole some is has so_far =
    let rest : length (g ∷ left) - 1 ≡ length left = omega arith in
    let same : length f.terms ≡ length g.terms = ap (λ (h : LinearForm). length h.terms) is in
    rw (rest, take-length left) (omega
    (arith, length-append (requirement g) (flat_map requirement left), requirement_size g, same, has, so_far))
