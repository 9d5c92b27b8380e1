-- The items of a value are as many as the values that are seen as them.
use Rattle.std.proofs.Common.{◌≡◌, ℕ, ◌<◌, ◌≤◌, ◌^◌, List, length, Some, codes, subst, arith}
use Rattle.serde_json.specs.Data.{Data}
use Rattle.serde_json.specs.Events.{items_len}
use Rattle.serde_json.specs.Find.{as_array}
use Rattle.serde_json.specs.declared.value.Value.{Value}
use Rattle.serde_json.specs.View.{items_view}
use Rattle.deriv_file.specs.File.{HasValue, IsCountable, HasCountableNodes}
use Rattle.deriv_file.proofs.ShortLists.{read_short}
use Rattle.serde_json.proofs.Views.{items_len-items_view}

pub items_count : (vs : List Value) → items_len (items_view vs) ≡ length vs
items_count = items_len-items_view

-- so an array whose items fit 32 bits is seen as a list of such a length
pub countable_length : (nodes : Data) (vs : List Value) → IsCountable nodes → as_array nodes ≡ Some (items_view vs)
    → length vs < 2 ^ 32
countable_length nodes vs fits is = subst (λ (n : ℕ). n < 2 ^ 32) (items_len-items_view vs) (fits (items_view vs) is)

-- the nodes in a text of at most 2^24 bytes
pub nodes_countable : (bytes : List ℕ) (json : Data) → length bytes ≤ 2 ^ 24 → HasValue bytes json → HasCountableNodes json
nodes_countable bytes json short has nodes is items are =
    let few = read_short bytes json (codes "nodes") nodes has.reads is items are in
    omega (arith, few, short)
