-- A bound as text: its constant, then each term with symbols behind a plus sign, in the order of its terms.
use Rattle.std.specs.Prelude.{ℕ, List, [], ◌++◌, Option, Some, None, codes, slice_index_or}
use Rattle.std.specs.Fmt.{decimal}
use Rattle.std.specs.List.{flat_map}
use Rattle.cost_poly.specs.declared.term.Term.{Term}
use Rattle.cost_poly.specs.Polynomial.{coefficient}

-- a symbol by its name
abbrev pub factor : List (List ℕ) → ℕ → List ℕ
factor names symbol = codes "*" ++ slice_index_or names symbol []

-- the constant has its place before all others
abbrev pub product_text : List (List ℕ) → ℕ → Option ℕ → Option ℕ → List ℕ
product_text names number None second = []
product_text names number (Some a) None = codes " + " ++ decimal number ++ factor names a
product_text names number (Some a) (Some b) = codes " + " ++ decimal number ++ factor names a ++ factor names b

abbrev pub term_text : List (List ℕ) → Term → List ℕ
term_text names t = product_text names t.coefficient t.first t.second

abbrev pub bound_text : List (List ℕ) → List Term → List ℕ
bound_text names bound = decimal (coefficient None None bound) ++ flat_map (term_text names) bound
