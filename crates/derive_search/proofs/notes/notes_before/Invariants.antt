use Rattle.std.proofs.Common.{◌≡◌, ◌≤◌, map, drop}
use Rattle.model_syntax.specs.declared.stmt.Stmt.{out-Stmt}
use Rattle.derive_search.specs.Nodes.{in_order}
use Rattle.derive_search.specs.Notes as spec
use Rattle.derive_search.proofs.notes.notes_before.Given as goal

-- the lemmas that are left give what all of them do
abbrev pub invariant-loop-lemma : goal.invariant-loop-lemma
invariant-loop-lemma l = record {
  found : in_order (map (spec.notes_of (out-Stmt l.t)) (drop l.lemma-index l.lemmas)) l.nodes l.s
      ≡ spec.notes_before l.lemmas (out-Stmt l.t) l.fn.done l.fn.s;
  fewer : l.s.stmts ≤ l.s.entered;
}
