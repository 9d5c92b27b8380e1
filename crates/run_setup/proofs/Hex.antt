-- Digits, and texts that begin with another, from the front.
use Rattle.std.proofs.Common.{◌≡◌, ℕ, ◌-◌, ◌<◌, ◌≤◌, List, [], ◌∷◌, ◌++◌, length, take, drop, get_or, Option, Some, None}
use Rattle.std.proofs.Common.{option_map, option_and_then, refl, sym, ap, ◌∙◌, append_assoc, length-drop, arith}
use Rattle.std.proofs.Math.Seq.{take-length}
use Rattle.run_setup.specs.Digits.{pair, hex_bytes, behind}

more : (bytes : List ℕ) (b : ℕ) (o : Option (List ℕ)) → option_map (λ rest. (bytes ++ b ∷ []) ++ rest) o
    ≡ option_map (λ rest. bytes ++ rest) (option_map (λ rest. b ∷ rest) o)
more bytes b None = refl
more bytes b (Some rest) = ap (λ x. Some x) (append_assoc bytes (b ∷ []) rest)

rest_is : (a b : ℕ) (left : List ℕ) → take (length (a ∷ b ∷ left) - 2) (drop 2 (a ∷ b ∷ left)) ≡ left
rest_is a b left = let size : length (a ∷ b ∷ left) - 2 ≡ length left = omega arith in rw size (take-length left)

pub byte_more : (bytes new left digits : List ℕ) (b d e : ℕ) → 2 ≤ length left → pair (get_or left 0 d) (get_or left 1 e) ≡ Some b
    → new ≡ bytes ++ b ∷ []
    → option_map (λ rest. bytes ++ rest) (hex_bytes left) ≡ hex_bytes digits
    → option_map (λ rest. new ++ rest) (hex_bytes (take (length left - 2) (drop 2 left))) ≡ hex_bytes digits
byte_more bytes new [] digits b d e two made put so_far = absurd (omega (arith, two))
byte_more bytes new (x ∷ []) digits b d e two made put so_far = absurd (omega (arith, two))
byte_more bytes new (x ∷ y ∷ left) digits b d e two made put so_far =
    let whole : hex_bytes (x ∷ y ∷ left) ≡ option_map (λ rest. b ∷ rest) (hex_bytes left) =
    ap (λ o. option_and_then (λ a. option_map (λ rest. a ∷ rest) (hex_bytes left)) o) made in
    rw (rest_is x y left, put) (more bytes b (hex_bytes left) ∙ ap (option_map (λ rest. bytes ++ rest)) (sym whole) ∙ so_far)

-- nothing is left of the bytes before the text ends
pub behind_short : (p : List ℕ) (i : ℕ) (left : List ℕ) → length left < 1 → i < length p → behind (drop i p) left ≡ None
behind_short p i (b ∷ bs) empty within = absurd (omega (arith, empty))
behind_short p i [] empty within =
    let size : length (drop i p) ≡ length p - i = length-drop i p in
    short (drop i p) (omega (arith, size, within))
  where
    short : (q : List ℕ) → 0 < length q → behind q [] ≡ None
    short [] h = absurd (omega (arith, h))
    short (b ∷ q) h = refl
