-- What a loop's node gives, from what its parts do.
use Rattle.std.proofs.Common.{◌≡◌, sym, ◌∙◌, ap, subst, arith, ℕ, ◌+◌, ◌<◌, ◌≤◌, List, [], ◌∷◌, length, map, slice_index_or, OnOk}
use Rattle.std.proofs.Common.{Result, Ok, Err}
use Rattle.rup_base.specs.Answers.{AnswersWith}
use Rattle.rup_base.specs.declared.fail.Fail.{Fail}
use Rattle.model_syntax.specs.Names.{Name}
use Rattle.model_syntax.specs.declared.expr.Expr.{Expr}
use Rattle.model_syntax.specs.declared.stmt.Le.{Le}
use Rattle.model_syntax.specs.declared.stmt.Stmt.{Stmt}
use Rattle.sym_heap.specs.Context.{Context}
use Rattle.equations.specs.Book.{Turn}
use Rattle.deriv_tree.specs.declared.tree.Block.{Block}
use Rattle.deriv_tree.specs.declared.tree.Step.{Step}
use Rattle.expr_rules.specs.declared.output.ExprOut.{ExprOut}
use Rattle.expr_rules.specs.Words.{Judged, asked, sizes, two_kids}
use Rattle.stmt_rules.specs.declared.loops.Counter.{Counter}
use Rattle.stmt_rules.specs.declared.output.StmtOut.{StmtOut}
use Rattle.stmt_rules.specs.Row.{block_judged, block_sizes, looping}
use Rattle.stmt_rules.specs.rules.For as for_rule

pub one_is : {A : Type 0} (xs : List A) (a : A) → 1 ≤ length xs → length xs < 2 → a ≡ slice_index_or xs 0 a → xs ≡ a ∷ []
one_is [] a least most is = absurd (omega (arith, least))
one_is (x ∷ []) a least most is = let first : a ≡ x = is in ap (λ y. y ∷ []) (sym first)
one_is (x ∷ y ∷ ys) a least most is = absurd (omega (arith, most))

module _ (turn : Turn) (blocks : List Block) (b : Block) (least : 1 ≤ length blocks) (most : length blocks < 2)
    (is : b ≡ slice_index_or blocks 0 b) where
  pub one_size : block_sizes (map (block_judged turn) blocks) ≡ (block_judged turn b).size
  one_size =
      let size : block_sizes (block_judged turn b ∷ []) ≡ (block_judged turn b).size = omega arith in
      ap (λ (bs : List Block). block_sizes (map (block_judged turn) bs)) (one_is blocks b least most is) ∙ size

  pub loop_counted : (result : Result StmtOut Fail) (after mid next kids : ℕ)
      → OnOk result (after ≡ mid + (block_judged turn b).size) → mid ≡ next + kids
      → OnOk result (after ≡ next + kids + block_sizes (map (block_judged turn) blocks))
  loop_counted (Ok out) after mid next kids counted before = (let size = one_size in omega (arith, counted, before, size))
  loop_counted (Err f) after mid next kids counted before = tt

  pub loop_row : (step : Step) (kids : List Judged) (at n : ℕ) (x : Name) (low high : Expr) (names : List Name) (keep : List Le)
      (body : List Stmt) (c d : Context) (k : Counter) (pq : ExprOut × ExprOut)
      (result : Result StmtOut Fail) (after : Context) → asked (for_rule.counts step (length keep)) at 2 ≡ Ok tt
      → for_rule.counter at step.args c ≡ Ok (k, c)
      → two_kids kids at low high c ≡ Ok (pq, d) → n ≡ at + 1 + sizes kids
      → AnswersWith result after (for_rule.after at x names keep step.certs k pq.0 pq.1 ((block_judged turn b).row n at 5 body) d)
      → AnswersWith result after (looping step kids (map (block_judged turn) blocks) at x low high names keep body c)
  loop_row step kids at n x low high names keep body c d k pq result after counts counter bounds place goes =
      subst (λ (bs : List Block). AnswersWith result after
      (looping step kids (map (block_judged turn) bs) at x low high names keep body c)) (sym (one_is blocks b least most is))
      (rw (counts, counter, bounds) (subst
      (λ (m : ℕ). AnswersWith result after
      (for_rule.after at x names keep step.certs k pq.0 pq.1 ((block_judged turn b).row m at 5 body) d)) place goes))
