-- What a row of an operation comes to, from what the search keeps of it.
use Rattle.model_syntax.specs.declared.expr.Op.{Op}
use Rattle.sym_heap.specs.Context.{Context}
use Rattle.bed_syntax.specs.declared.expression.BExpr.TheVariants as b
use Rattle.expr_rules.specs.declared.output.ExprOut.{ExprOut}
use Rattle.expr_rules.specs.Operations.{code_of}
use Rattle.expr_rules.specs.Words.{plain}
use Rattle.derive_search.specs.declared.found.Special.{Special}
use Rattle.derive_search.specs.Rows.{Chosen}

-- the row with the operation's code, and the context after it
abbrev pub offered : Op → ExprOut → ExprOut → Special → Context → Chosen × Context
offered o p q x after = (record { rule = x.rule; certs = x.certs; out = plain (b.Bin (code_of o) p.code q.code) x.form }, after)
