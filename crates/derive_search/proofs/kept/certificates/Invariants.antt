use Rattle.std.proofs.Common.{◌≡◌, true, drop}
use Rattle.sym_heap.specs.Sides.{form_of}
use Rattle.stmt_rules.specs.Narrow.{all_narrow}
use Rattle.derive_search.specs.Kept as spec
use Rattle.derive_search.proofs.kept.certificates.Given as goal

-- the certificates of the facts that are left, after those that were found, are those of all
abbrev pub invariant-loop-fact : goal.invariant-loop-fact
invariant-loop-fact l = record {
  narrow : all_narrow (drop l.fact-index l.facts) ≡ true;
  found : spec.after_those l.certs (spec.certificates l.ctx (form_of l.forms) (drop l.fact-index l.facts))
      ≡ spec.certificates l.ctx (form_of l.forms) l.facts;
}
