-- The literals of three-address code are words.
use Rattle.std.specs.Prelude.{◌^◌, Bool, true, ◌&&◌, nat_lt, List, map}
use Rattle.rup_base.specs.Gather.{all_true}
use Rattle.flat_lang.specs.declared.flat.FStmt.{FStmt, FStmt-F, fold-FStmt}
use Rattle.flat_lang.specs.declared.flat.FStmt.TheOpen as f

abbrev pub fits_step : FStmt-F Bool → Bool
fits_step (f.Lit x n) = nat_lt n (2 ^ 32)
fits_step (f.Copy x y) = true
fits_step (f.Bin op x y z) = true
fits_step (f.Load size x y) = true
fits_step (f.Table size x k y) = true
fits_step (f.Store size x y) = true
fits_step (f.If x a b) = all_true a && all_true b
fits_step (f.While a x b) = all_true a && all_true b

abbrev pub fits : FStmt → Bool
fits = fold-FStmt Bool fits_step

abbrev pub all_fit : List FStmt → Bool
all_fit body = all_true (map fits body)
