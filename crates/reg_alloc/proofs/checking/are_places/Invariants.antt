use Rattle.std.proofs.Common.{◌≡◌, drop, map}
use Rattle.rup_base.specs.Gather.{all_true}
use Rattle.reg_alloc.specs.PlanOk.{is_place}
use Rattle.reg_alloc.proofs.checking.are_places.Given as goal

abbrev pub invariant-loop-at : goal.invariant-loop-at
invariant-loop-at l = all_true (map (is_place l.vars) (drop l.at-index l.places)) ≡ all_true (map (is_place l.vars) l.places)
