use Rattle.lemma_files.proofs.SameExpr.{expr_is, expr_same}
use Rattle.lemma_files.proofs.exactness.same_expressions_are_equal.Goals as goal

pub returns : goal.returns
returns c = λ a b. (expr_is a b, expr_same a b)
