use Rattle.std.proofs.Common.{◌≡◌, ◌≤◌, map, drop}
use Rattle.derive_search.specs.Nodes.{in_order}
use Rattle.derive_search.specs.Notes as spec
use Rattle.derive_search.proofs.notes.all_noted.Given as goal

-- the facts that are left give what all of them do
abbrev pub invariant-loop-fact : goal.invariant-loop-fact
invariant-loop-fact l = record {
  found : in_order (map spec.noted (drop l.fact-index l.facts)) l.nodes l.s ≡ in_order (map spec.noted l.facts) l.fn.done l.fn.s;
  fewer : l.s.stmts ≤ l.s.entered;
}
