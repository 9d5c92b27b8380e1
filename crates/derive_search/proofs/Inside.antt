-- Statements inside others, as the code goes over them.
use Rattle.std.proofs.Common.{◌≡◌, sym, ◌∙◌, ap, subst, ℕ, ◌+◌, true, List, ◌∷◌, map, sum, Result}
use Rattle.std.proofs.lemmas.List.Sums.{sum_by-cons}
use Rattle.side_certs.proofs.laws.Terms.{and_parts}
use Rattle.rup_base.specs.Answers.{AnswersWith}
use Rattle.rup_base.specs.declared.fail.Fail.{Fail}
use Rattle.model_syntax.specs.Names.{Name}
use Rattle.model_syntax.specs.Limits.{stmt_count}
use Rattle.model_syntax.specs.declared.expr.Expr.{Expr}
use Rattle.model_syntax.specs.declared.stmt.Le.{Le}
use Rattle.model_syntax.specs.declared.stmt.Stmt.{Stmt, out-Stmt, out-roll-Stmt}
use Rattle.model_syntax.specs.declared.stmt.Stmt.TheOpen as s
use Rattle.model_syntax.specs.declared.stmt.Stmt.TheVariants as v
use Rattle.deriv_tree.specs.declared.tree.StmtNode.{StmtNode}
use Rattle.stmt_rules.specs.Narrow.{narrow, are_narrow}
use Rattle.derive_search.specs.declared.seeker.Seeker.{Seeker}
use Rattle.derive_search.specs.Branching.{seek_if}
use Rattle.derive_search.specs.Guide.{Guide}
use Rattle.derive_search.specs.Statements.{seek_stmt, statement, opened}
use Rattle.derive_search.specs.Turns.{seek_for}

-- a statement and those after it
module _ (t : Stmt) (ts rest : List Stmt) (is : ts ≡ t ∷ rest) where
  pub counted_on : sum (map stmt_count ts) ≡ stmt_count t + sum (map stmt_count rest)
  counted_on = subst (λ (l : List Stmt). sum (map stmt_count l) ≡ stmt_count t + sum (map stmt_count rest)) (sym is)
      (sum_by-cons (λ m. m) (stmt_count t) (map stmt_count rest))

  pub narrow_on : are_narrow ts ≡ true → (narrow t ≡ true) × (are_narrow rest ≡ true)
  narrow_on all = and_parts (narrow t) (are_narrow rest) (subst (λ (l : List Stmt). are_narrow l ≡ true) is all)

-- a statement with blocks
module _ (guide : Guide) (deep at stmt : ℕ) (t : Stmt) (before after : Seeker) (result : Result StmtNode Fail) (names : List Name)
    (keep : List Le) where
  pub if_opened : (test : Expr) (xs : List Name) (rs : List Le) (first second firsts seconds : List Stmt)
      → t ≡ v.If test xs rs firsts seconds → names ≡ xs → keep ≡ rs → first ≡ firsts → second ≡ seconds
      → AnswersWith result after (seek_if guide deep at stmt test names keep (map (seek_stmt guide deep) first)
      (map (seek_stmt guide deep) second) before)
      → AnswersWith result after (statement guide deep at stmt (opened guide deep t) before)
  if_opened test xs rs first second firsts seconds is names_are keep_is first_is second_is answer = let shape : out-Stmt t
      ≡ s.If test xs rs firsts seconds =
      ap out-Stmt (is ∙ sym (v.rolls-If test xs rs firsts seconds)) ∙ out-roll-Stmt (s.If test xs rs firsts seconds) in
      rw (shape, sym names_are, sym keep_is, sym first_is, sym second_is) answer

  pub for_opened : (x : Name) (low high : Expr) (xs : List Name) (rs : List Le) (body bodies : List Stmt)
      → t ≡ v.For x low high xs rs bodies → names ≡ xs → keep ≡ rs → body ≡ bodies
      → AnswersWith result after (seek_for guide deep at stmt x low high names keep (map (seek_stmt guide deep) body) before)
      → AnswersWith result after (statement guide deep at stmt (opened guide deep t) before)
  for_opened x low high xs rs body bodies is names_are keep_is body_is answer = let shape : out-Stmt t
      ≡ s.For x low high xs rs bodies =
      ap out-Stmt (is ∙ sym (v.rolls-For x low high xs rs bodies)) ∙ out-roll-Stmt (s.For x low high xs rs bodies) in
      rw (shape, sym names_are, sym keep_is, sym body_is) answer
