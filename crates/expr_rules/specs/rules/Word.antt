-- e-word: the word of a byte or a flag has its code and its form.
use Rattle.expr_rules.specs.declared.output.ExprOut.{ExprOut}
use Rattle.expr_rules.specs.Words.{Rule, give, plain}

abbrev pub after : ExprOut → Rule ExprOut
after p = give (plain p.code p.form)
