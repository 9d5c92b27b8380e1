-- The parts of a list, by the number of its items.
use Rattle.std.proofs.Common.{◌≡◌, ◌≢◌, ℕ, ◌<◌, ◌≤◌, List, [], ◌∷◌, length, None, refl, arith}
use Rattle.serde_json.specs.declared.value.Value.{Value}
use Rattle.serde_json.specs.View.{items_view}
use Rattle.deriv_file.specs.CertificateList.{three_of, two_of}
use Rattle.deriv_file.specs.Node.{block_counts, node_of_items}

pub three_of_none : (vs : List Value) → length vs ≢ 3 → three_of (items_view vs) ≡ None
three_of_none [] h = refl
three_of_none (a ∷ []) h = refl
three_of_none (a ∷ (b ∷ [])) h = refl
three_of_none (a ∷ (b ∷ (c ∷ []))) h = absurd (h refl)
three_of_none (a ∷ (b ∷ (c ∷ (d ∷ ds)))) h = refl

pub two_of_none : (vs : List Value) → length vs ≢ 2 → two_of (items_view vs) ≡ None
two_of_none [] h = refl
two_of_none (a ∷ []) h = refl
two_of_none (a ∷ (b ∷ [])) h = absurd (h refl)
two_of_none (a ∷ (b ∷ (c ∷ ds))) h = refl

pub block_counts_none : (n : ℕ) (vs : List Value) → 2 ≤ length vs → block_counts n (items_view vs) ≡ None
block_counts_none n [] h = absurd (omega (arith, h))
block_counts_none n (a ∷ []) h = absurd (omega (arith, h))
block_counts_none n (a ∷ (b ∷ vs)) h = refl

pub node_of_items_none : (vs : List Value) → length vs < 3 → node_of_items (items_view vs) ≡ None
node_of_items_none [] h = refl
node_of_items_none (a ∷ []) h = refl
node_of_items_none (a ∷ (b ∷ [])) h = refl
node_of_items_none (a ∷ (b ∷ (c ∷ vs))) h = absurd (omega (arith, h))
