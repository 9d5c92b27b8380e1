use Rattle.std.proofs.Common.{◌≡◌, SFits, drop, sym, arith, rules}
use Rattle.std.specs.Prelude.{◌+ℤ◌}
use Rattle.std.specs.Int.{w64, w128}
use Rattle.std.proofs.lemmas.Int.{to_z-of_z, ints}
use Rattle.side_certs.specs.LinearForm.{terms_at}
use Rattle.run_setup.specs.Judging as spec
use Rattle.run_setup.proofs.Values.{terms_step}
use Rattle.run_setup.proofs.judging.with_term.Goals as goal

pub returns-clause-value : goal.returns-clause-value
returns-clause-value c =
    let coefficient : SFits w64 c.term_at-symbol.result.1 = search rules in
    let product = rw (to_z-of_z w64 c.term_at-symbol.result.1 coefficient) at c.term_value.ensures.product in
    let one : SFits w128 c.term_value.result = search rules in
    let rest : SFits w128 c.args.rest = search rules in
    let sum : SFits w128 (c.term_value.result +ℤ c.args.rest) =
    omega (arith, ints, c.term_value.ensures.low, c.term_value.ensures.high, c.requires.low, c.requires.high) in
    let whole : c.term_value.result +ℤ c.args.rest
    ≡ terms_at (spec.by_symbol c.args.values.now) (drop c.args.k c.args.form.now.terms) =
    rw (product, c.value_of.ensures, c.requires.rest)
    (sym (terms_step (spec.by_symbol c.args.values.now) c.args.form.now.terms c.args.k c.term_at-symbol.result
    c.term_at-symbol.ensures)) in
    rw (
      to_z-of_z w128 c.term_value.result one,
      to_z-of_z w128 c.args.rest rest,
      to_z-of_z w128
          (c.term_value.result +ℤ c.args.rest) sum,
    ) whole
