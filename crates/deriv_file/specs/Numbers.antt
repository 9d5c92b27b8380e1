-- Whole numbers of a file: those that JSON's reading gives as a 64-bit integer, so none with a point or an exponent.
use Rattle.std.specs.Prelude.{ℕ, ◌^◌, Bool, true, false, ◌&&◌, nat_le, List, [], ◌∷◌, Option, Some, None, option_map}
use Rattle.std.specs.Prelude.{option_and_then, ℤ, nat_abs}
use Rattle.deriv_tree.specs.Shape.{most_nodes}
use Rattle.serde_json.specs.Data.{Data, Items, no_items, item}
use Rattle.serde_json.specs.Find.{as_number, as_i64, as_u64}

-- the value, where a test holds
abbrev pub only_if : {A : Type 0} → Bool → A → Option A
only_if true x = Some x
only_if false x = None

abbrev pub number_in : ℕ → ℕ → Data → Option ℕ
number_in least greatest d = option_and_then (λ n. only_if (nat_le least n && nat_le n greatest) n)
    (option_and_then as_u64 (as_number d))

-- an argument has a magnitude of at most 2^40
abbrev pub argument_of : Data → Option ℤ
argument_of d = option_and_then (λ z. only_if (nat_le (nat_abs z) (2 ^ 40)) z) (option_and_then as_i64 (as_number d))

abbrev pub arguments_of : Items → Option (List ℤ)
arguments_of no_items = Some []
arguments_of (item d ds) = option_and_then (λ z. option_map (λ zs. z ∷ zs) (arguments_of ds)) (argument_of d)

abbrev pub count_of : Data → Option ℕ
count_of d = number_in 0 most_nodes d

abbrev pub counts_of : Items → Option (List ℕ)
counts_of no_items = Some []
counts_of (item d ds) = option_and_then (λ n. option_map (λ ns. n ∷ ns) (counts_of ds)) (count_of d)
