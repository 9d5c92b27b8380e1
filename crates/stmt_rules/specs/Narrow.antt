-- The kept facts of statements, at every depth: both sides keep the
-- limits of linear forms over names in each part, as typing asks.
use Rattle.std.specs.Prelude.{Bool, true, ◌&&◌, List, map}
use Rattle.rup_base.specs.Gather.{all_true}
use Rattle.model_syntax.specs.Linear.{is_narrow}
use Rattle.model_syntax.specs.declared.stmt.Le.{Le}
use Rattle.model_syntax.specs.declared.stmt.Stmt.{Stmt, Stmt-F, fold-Stmt}
use Rattle.model_syntax.specs.declared.stmt.Stmt.TheOpen as s

abbrev pub all_narrow : List Le → Bool
all_narrow facts = all_true (map is_narrow facts)

abbrev pub narrow_step : Stmt-F Bool → Bool
narrow_step (s.Let x a) = true
narrow_step (s.Put a i v) = true
narrow_step (s.Move b a i v) = true
narrow_step (s.If test names keep first second) = all_narrow keep && all_true first && all_true second
narrow_step (s.For x low high names keep body) = all_narrow keep && all_true body
narrow_step (s.Map a x v) = true
narrow_step (s.Fold t a x v) = true

abbrev pub narrow : Stmt → Bool
narrow = fold-Stmt Bool narrow_step

abbrev pub are_narrow : List Stmt → Bool
are_narrow ts = all_true (map narrow ts)
