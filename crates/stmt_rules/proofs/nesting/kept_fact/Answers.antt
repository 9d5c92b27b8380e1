use Rattle.std.proofs.Common.{rules}
use Rattle.sym_heap.specs.Sides.{form_of}
use Rattle.stmt_rules.proofs.Nested.{kept_given}
use Rattle.stmt_rules.proofs.nesting.kept_fact.Goals as goal

pub returns : goal.returns
returns c =
    kept_given c.args.at c.args.kept.now c.args.ctx.now c.fact.new.ctx c.fact.result c.scalars.result.now
    (form_of c.forms_in.result) c.difference-form.result
    (search rules) (search rules) (search rules) (search rules)
