-- Which three-address code is whole.
use Rattle.std.specs.Prelude.{◌≡◌, ℕ, ◌^◌, ◌<◌, ◌≤◌, Bool, true, ◌&&◌, nat_lt, map, List, length, All}
use Rattle.rup_base.specs.Gather.{all_true}
use Rattle.flat_lang.specs.declared.flat.FStmt.{FStmt, FStmt-F, fold-FStmt}
use Rattle.flat_lang.specs.declared.flat.FStmt.TheOpen as f
use Rattle.flat_lang.specs.declared.flat.Flat.{Flat}
use Rattle.flat_lang.specs.Count.{code_size}

-- each variable of a statement, and the place of each table, is below these numbers
abbrev pub whole_step : ℕ → ℕ → FStmt-F Bool → Bool
whole_step vars tables (f.Lit x n) = nat_lt x vars
whole_step vars tables (f.Copy x y) = nat_lt x vars && nat_lt y vars
whole_step vars tables (f.Bin op x y z) = nat_lt x vars && (nat_lt y vars && nat_lt z vars)
whole_step vars tables (f.Load size x y) = nat_lt x vars && nat_lt y vars
whole_step vars tables (f.Table size x k y) = nat_lt x vars && (nat_lt k tables && nat_lt y vars)
whole_step vars tables (f.Store size x y) = nat_lt x vars && nat_lt y vars
whole_step vars tables (f.If x a b) = nat_lt x vars && (all_true a && all_true b)
whole_step vars tables (f.While a x b) = all_true a && (nat_lt x vars && all_true b)

abbrev pub is_whole : ℕ → ℕ → FStmt → Bool
is_whole vars tables = fold-FStmt Bool (whole_step vars tables)

abbrev pub all_whole : ℕ → ℕ → List FStmt → Bool
all_whole vars tables body = all_true (map (is_whole vars tables) body)

pub record IsWhole (flat : Flat) : Type 0 where
  pub body : all_whole flat.vars (length flat.tables) flat.body ≡ true
  pub args : flat.args ≤ 8
  pub arguments : flat.args ≤ flat.vars
  pub rets : length flat.rets ≤ 2
  pub results : All (λ x. x < flat.vars) flat.rets
  pub few : code_size flat.body < 2 ^ 32
