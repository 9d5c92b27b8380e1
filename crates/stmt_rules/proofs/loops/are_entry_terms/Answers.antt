use Rattle.std.proofs.Common.{rules, sym, ◌∙◌, ◌≡◌, true, false}
use Rattle.stmt_rules.specs.Loops as spec
use Rattle.stmt_rules.proofs.Terms.{all_on, all_stops}
use Rattle.stmt_rules.proofs.loops.are_entry_terms.Goals as goal

pub returns-then-not-is_entry_term : goal.returns-then-not-is_entry_term
returns-then-not-is_entry_term c =
    let fails : spec.is_entry_term c.args.entries c.term_at.result ≡ false = search rules in
    sym (all_stops (spec.is_entry_term c.args.entries) c.args.form.now.terms c.terms.k c.term_at.result c.term_at.ensures fails)
    ∙ c.terms.invariant.rest

pub terms-preserved : goal.terms-preserved
terms-preserved c =
    let passes : spec.is_entry_term c.args.entries c.term_at.result ≡ true = search rules in
    record {
      inside = search rules;
      rest = all_on (spec.is_entry_term c.args.entries) c.args.form.now.terms c.terms.k c.term_at.result c.term_at.ensures passes
          ∙ c.terms.invariant.rest;
    }
