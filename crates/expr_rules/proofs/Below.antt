-- Rules whose result is a further symbol that is at most the first part, which becomes a fact.
use Rattle.std.proofs.Common.{◌≡◌, ◌∙◌, ap, arith, ℕ, ◌≤◌, List, length, Some, pos}
use Rattle.std.proofs.lemmas.Int.{ints}
use Rattle.rv_memory.specs.Ranges.{Bytes}
use Rattle.side_certs.specs.LinearForm.{LinearForm, symbol, minus, value_at}
use Rattle.side_certs.proofs.laws.Values.{value_minus, value_symbol}
use Rattle.model_syntax.specs.declared.expr.Scalar.TheVariants.{Word}
use Rattle.model_syntax.specs.declared.program.Param.{Param}
use Rattle.model_syntax.specs.Environment.{Env}
use Rattle.model_syntax.specs.Scope.{Scope}
use Rattle.sym_heap.specs.Context.{Context, with_top, with_fact}
use Rattle.sym_heap.proofs.laws.Extending.{known_more}
use Rattle.bed_syntax.specs.Shape.{expr_locals}
use Rattle.bed_syntax.specs.declared.expression.BExpr.{BExpr}
use Rattle.bed_meaning.specs.Locals.{Vars}
use Rattle.bed_meaning.specs.Value.{value}
use Rattle.expr_rules.specs.declared.output.ExprOut.{ExprOut}
use Rattle.expr_rules.specs.Words.{◌>>=◌, fresh, fact, give, plain}
use Rattle.expr_rules.specs.Sound.{HasLocals, ExprDone, Yields}
use Rattle.expr_rules.proofs.Came.{Of, And, Fact, Came, WithNumber, came_fresh, came_fact, came_done, extends_top, more_tops}
use Rattle.expr_rules.proofs.Fresh.{next_known, plain_kid, plain_right}
use Rattle.expr_rules.proofs.Kids.{Pair}
use Rattle.expr_rules.proofs.Sums.{known_minus}
use Rattle.expr_rules.proofs.laws.Yields.{yields_fresh, yields_fact}

-- what the code gives in a state
pub record IsBelow (n most top : ℕ) (code : BExpr) (mem : Bytes) (vars : Vars) : Type 0 where
  pub value : value code mem vars ≡ Some n
  pub small : n ≤ top
  pub less : n ≤ most

module _ (ps : List Param) (scope : Scope) (f g : Env → ℕ) (before : Context) (pq : ExprOut × ExprOut) (mid : Context)
    (k : Pair ps scope f g Word Word before pq mid)
    (sem : Env → ℕ) (at top : ℕ) (code : BExpr) (locals : (xs : List ℕ) → HasLocals before xs → expr_locals code xs ≡ xs)
    (is : (v : ℕ → ℕ) (env : Env) (mem : Bytes) (vars : Vars) → And (Of f Word pq.0) (Of g Word pq.1) v env mem vars
    → IsBelow (sem env) (f env) top code mem vars) where
  abbrev R : Fact
  R = And (Of f Word pq.0) (Of g Word pq.1)

  abbrev Numbered : Fact
  Numbered = WithNumber R ps scope before mid k.came sem

  abbrev s : LinearForm
  s = symbol (length mid.tops)

  abbrev after_fact : Context
  after_fact = with_fact (minus pq.0.form s) (with_top top mid)

  one : Came Numbered ps scope before (with_top top mid)
  one = came_fresh R ps scope before mid k.came top sem (λ v env mem vars r. (is v env mem vars r).small)

  with_the_fact : Came Numbered ps scope before after_fact
  with_the_fact =
      came_fact Numbered ps scope before (with_top top mid) one (minus pq.0.form s)
      (known_minus (length (with_top top mid).tops) pq.0.form s
      (known_more (length mid.tops) (length (with_top top mid).tops) pq.0.form
      (more_tops mid (with_top top mid) (extends_top mid top)) k.one.known) (next_known mid.tops top))
      (λ v env mem vars r.
      let less = (is v env mem vars r.0).less in
      let whole = value_minus v pq.0.form s in
      let first = r.0.0.form in
      let second : value_at v s ≡ pos (sem env) = value_symbol v (length mid.tops) ∙ ap pos r.1 in
      omega (arith, ints, less, whole, first, second))

  pub below_done : Yields (ExprDone ps scope sem Word before)
      ((fresh at top >>= (λ s. fact at (minus pq.0.form s) >>= (λ _. give (plain code s)))) mid)
  below_done =
      yields_fresh (ExprDone ps scope sem Word before) mid at top
      (λ s. fact at (minus pq.0.form s) >>= (λ _. give (plain code s)))
      (yields_fact (ExprDone ps scope sem Word before) (with_top top mid) at (minus pq.0.form s) (λ _. give (plain code s))
      (came_done Numbered ps scope before after_fact with_the_fact sem Word (plain code s)
      (plain_kid before after_fact code s (next_known mid.tops top) locals)
      (λ call v env mem vars fits r.
      let b = is v env mem vars r.0 in
      let less = b.less in
      let small = r.0.0.small in
      plain_right (sem env) Word code s v mem vars b.value (omega (arith, less, small))
      (value_symbol v (length mid.tops) ∙ ap pos r.1))))
