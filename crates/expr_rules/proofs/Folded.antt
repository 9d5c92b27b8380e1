-- The row of a node, from what its parts give.
use Rattle.std.proofs.Common.{◌≡◌, sym, subst, ℕ, ℤ, pos, neg_ℤ, List, [], ◌∷◌, map, Option, Some, Result, Ok, if◌then◌else◌}
use Rattle.rup_base.specs.Answers.{AnswersWith}
use Rattle.rup_base.specs.declared.fail.Fail.{Fail}
use Rattle.side_certs.specs.LinearForm.{LinearForm, times, within}
use Rattle.side_certs.specs.declared.certificate.Cert.{Cert}
use Rattle.model_syntax.specs.declared.expr.Expr.{Expr, out-Expr}
use Rattle.sym_heap.specs.Context.{Context}
use Rattle.equations.specs.Book.{Turn}
use Rattle.deriv_tree.specs.declared.tree.ExprNode.{ExprNode, out-ExprNode}
use Rattle.deriv_tree.specs.declared.tree.ExprNode.TheFolds.{fold_out-ExprNode}
use Rattle.bed_syntax.specs.declared.operation.BOp.{BOp}
use Rattle.bed_syntax.specs.declared.operation.BOp.TheVariants as bop
use Rattle.bed_syntax.specs.declared.expression.BExpr.{BExpr}
use Rattle.bed_syntax.specs.declared.expression.BExpr.TheVariants as b
use Rattle.expr_rules.specs.declared.output.ExprOut.{ExprOut}
use Rattle.expr_rules.specs.Words.{◌>>=◌, asked, has_counts, most, number_of, sum_of, found, Judged}
use Rattle.expr_rules.specs.rules.Mulk as mulk
use Rattle.expr_rules.specs.rules.Shift as shift
use Rattle.expr_rules.specs.Row.{fits, certs_of, parts, judged_step, judged, args_of, is_rewrite, rewritten}

pub judged_row : (turn : Turn) (n : ExprNode) (at : ℕ) (x : Expr) (c : Context) (result : Result ExprOut Fail) (after : Context)
    → asked (fits (out-ExprNode n).step.rule (out-Expr x)) at 1 ≡ Ok tt
    → asked (has_counts (out-ExprNode n).step (args_of (out-ExprNode n).step.rule) (certs_of (out-ExprNode n).step.rule)) at 2
    ≡ Ok tt
    → AnswersWith result after ((if is_rewrite (out-ExprNode n).step.rule
    then rewritten turn (out-ExprNode n).step (map (judged turn) (out-ExprNode n).kids) at x
    else parts (out-ExprNode n).step (map (judged turn) (out-ExprNode n).kids) at (out-Expr x)) c)
    → AnswersWith result after ((judged turn n).row at x c)
judged_row turn n at x c result after fit counts is = rw (fold_out-ExprNode Judged (judged_step turn) n) (rw (fit, counts) is)

-- a multiple by a number that is there
module _ (certs : List Cert) (at : ℕ) (p q : ExprOut) (c : Context) (result : Result ExprOut Fail) (after : Context) where
  pub multiple_row : (k : ℤ) (op : BOp) (goal form : Option LinearForm) (code : BExpr)
      → goal ≡ within (sum_of (pos most) ((neg_ℤ k, p.form) ∷ [])) → form ≡ within (times k p.form)
      → code ≡ b.Bin op p.code q.code
      → AnswersWith result after (mulk.product certs at goal form code c)
      → AnswersWith result after (mulk.multiple certs at k op p q c)
  multiple_row k op goal form code goal_is form_is code_is answers =
      subst (λ (g : Option LinearForm).
      AnswersWith result after (mulk.product certs at g (within (times k p.form)) (b.Bin op p.code q.code) c)) goal_is
      (subst (λ (f : Option LinearForm). AnswersWith result after (mulk.product certs at goal f (b.Bin op p.code q.code) c))
      form_is
      (subst (λ (z : BExpr). AnswersWith result after (mulk.product certs at goal form z c)) code_is answers))

  pub mulk_row : (k z : ℤ) → number_of q.form ≡ Some k → z ≡ k → AnswersWith result after (mulk.multiple certs at z bop.Mul p q c)
      → AnswersWith result after (mulk.after certs at p q c)
  mulk_row k z is same answers =
      subst (λ (o : Option ℤ). AnswersWith result after ((found o at 4 >>= (λ y. mulk.multiple certs at y bop.Mul p q)) c))
      (sym is)
      (subst (λ (y : ℤ). AnswersWith result after (mulk.multiple certs at y bop.Mul p q c)) same answers)

  pub shift_row : (n : ℕ) (k : ℤ) → shift.power q.form ≡ Some n → k ≡ pos n
      → AnswersWith result after (mulk.multiple certs at k bop.Slu p q c) → AnswersWith result after (shift.after certs at p q c)
  shift_row n k is same answers =
      subst (λ (o : Option ℕ). AnswersWith result after ((found o at 4 >>= (λ z. mulk.multiple certs at (pos z) bop.Slu p q)) c))
      (sym is)
      (subst (λ (z : ℤ). AnswersWith result after (mulk.multiple certs at z bop.Slu p q c)) same answers)
