use Rattle.std.proofs.Common.{◌≡◌, ◌++◌, ◌≤◌, ◌-◌}
use Rattle.derive_search.specs.Trips as spec
use Rattle.derive_search.proofs.trips.with_symbols.Given as goal

-- the symbols so far are behind the other forms
abbrev pub invariant-symbols : goal.invariant-symbols
invariant-symbols l = record {
  inside : l.symbol ≤ l.entries;
  all : l.all ≡ l.fn.forms ++ spec.entry_symbols l.symbol;
}

abbrev pub decreases-symbols : goal.decreases-symbols
decreases-symbols l = l.entries - l.symbol
