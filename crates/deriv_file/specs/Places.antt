-- The places of a tree at which nodes are still to come, in the order of the list, and the nodes that they take.
use Rattle.std.specs.Prelude.{◌+◌, Bool, true, false, not, nat_le, List, [], ◌∷◌, ◌++◌, sum, replicate, if◌then◌else◌}
use Rattle.deriv_tree.specs.declared.rule.Rule.{Rule}
use Rattle.deriv_tree.specs.declared.listed.Listed.{Listed}
use Rattle.deriv_tree.specs.Shape.{is_expression, kids}
use Rattle.deriv_file.specs.Limits.{has_room, around_kids}
use Rattle.deriv_file.specs.declared.places.Place.{Place}
use Rattle.deriv_file.specs.declared.places.Run.{Run}
use Rattle.deriv_file.specs.declared.places.Places.{Places}

-- the rule is one of statements, or one of expressions
abbrev pub is_of_kind : Bool → Rule → Bool
is_of_kind is_statement r = if is_statement then not (is_expression r) else is_expression r

-- the place takes a node of the rule: the rule is of its kind, no depth passes
-- 1,000, and at most eight rewrites stand directly inside one another
abbrev pub admits : Place → Rule → Bool
admits p r =
    if is_of_kind p.is_statement r then (if nat_le p.depth 1000 then has_room r p.rewrites else false) else false

-- the place of a kid of a node of the rule
abbrev pub kid_place : Place → Rule → Place
kid_place p r = record { is_statement = false; depth = p.depth + 1; rewrites = around_kids r p.rewrites }

-- the place of a node of a block
abbrev pub block_place : Place → Place
block_place p = record { is_statement = true; depth = p.depth + 1; rewrites = 0 }

-- the place of a node of the outer block
abbrev pub outer_place : Place
outer_place = record { is_statement = true; depth = 1; rewrites = 0 }

-- the places inside a node at a place: first the kids, then the nodes of the blocks
abbrev pub called_for : Place → Listed → List Place
called_for p n = replicate (kids n.step.rule) (kid_place p n.step.rule) ++ replicate (sum n.counts) (block_place p)

-- Equal places are kept together. The last run of the list holds the first places.

abbrev pub places_of_run : Run → List Place
places_of_run r = replicate r.count r.place

abbrev pub places_of_runs : List Run → List Place
places_of_runs [] = []
places_of_runs (r ∷ rs) = places_of_runs rs ++ places_of_run r

abbrev pub open_places : Places → List Place
open_places p = places_of_run p.top ++ places_of_runs p.below.items
