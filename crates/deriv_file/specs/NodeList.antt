-- The nodes of a file's list, each at its place, or the first fault of the list.
use Rattle.std.specs.Prelude.{ℕ, ◌+◌, ◌==◌, List, [], ◌∷◌, ◌++◌, length, replicate, Option, Some, None, option_map}
use Rattle.std.specs.Prelude.{option_and_then, Result, Ok, Err, if◌then◌else◌}
use Rattle.serde_json.specs.Data.{Data, Items, no_items, item}
use Rattle.serde_json.specs.Events.{items_len}
use Rattle.rup_base.specs.Answers.{and_then}
use Rattle.rup_base.specs.declared.refusal.Refusal.{Refusal}
use Rattle.rup_base.specs.declared.refusal.Refusal.TheVariants.{NotDerivation, NodeCount}
use Rattle.deriv_tree.specs.declared.listed.Listed.{Listed}
use Rattle.deriv_file.specs.declared.places.Place.{Place}
use Rattle.deriv_file.specs.Numbers.{only_if}
use Rattle.deriv_file.specs.Node.{node_of}
use Rattle.deriv_file.specs.Places.{admits, called_for, outer_place}

-- the node that a place takes
abbrev pub admitted : Place → Option Listed → Option Listed
admitted p node = option_and_then (λ n. only_if (admits p n.step.rule) n) node

abbrev pub or_fault : ℕ → Option Listed → Result Listed Refusal
or_fault at (Some n) = Ok n
or_fault at None = Err (NotDerivation (Some at))

-- the entry of this number, where it is a node that the place takes
abbrev pub node_at : ℕ → Place → Data → Result Listed Refusal
node_at at p d = or_fault at (admitted p (node_of d))

-- The nodes of the entries from number `at` on, of `total` in all, for the open places in their order. Where no place is open the
-- tree is whole, and what follows is surplus; where the entries end, each open place still calls for one.
abbrev pub filled : ℕ → Items → ℕ → List Place → Result (List Listed) Refusal
filled total no_items at ps = if at + length ps == total then Ok [] else Err (NodeCount total (at + length ps))
filled total (item d ds) at [] = Err (NodeCount total at)
filled total (item d ds) at (p ∷ ps) =
    and_then (node_at at p d) (λ n. and_then (filled total ds (at + 1) (called_for p n ++ ps)) (λ ns. Ok (n ∷ ns)))

-- the nodes of a list for an outer block of so many nodes
abbrev pub nodes_of : ℕ → Items → Result (List Listed) Refusal
nodes_of block ds = filled (items_len ds) ds 0 (replicate block outer_place)

-- the nodes that items are, each of them one
abbrev pub all_nodes : Items → Option (List Listed)
all_nodes no_items = Some []
all_nodes (item d ds) = option_and_then (λ n. option_map (λ ns. n ∷ ns) (all_nodes ds)) (node_of d)
