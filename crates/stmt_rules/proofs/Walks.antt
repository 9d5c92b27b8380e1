-- One node further in a block.
use Rattle.std.proofs.Common.{◌≡◌, refl, sym, ◌∙◌, ap, ℕ, ◌+◌, ◌-◌, ◌≤◌, true, false, List, [], ◌∷◌, length, take, drop, map, sum}
use Rattle.std.proofs.Common.{slice_index_or, Ok, Err}
use Rattle.std.proofs.lemmas.List.Sums.{sum_by-cons}
use Rattle.side_certs.proofs.laws.Combinations.{split_first}
use Rattle.equations.specs.Book.{Turn}
use Rattle.deriv_tree.specs.declared.tree.StmtNode.{StmtNode, out-StmtNode}
use Rattle.rup_base.specs.Answers.{AnswersWith}
use Rattle.rup_base.specs.declared.fail.Fail.{Fail}
use Rattle.rup_base.specs.declared.fail.Fail.TheVariants.{Refused, NoMemory}
use Rattle.rup_base.specs.declared.refusal.Refusal.TheVariants.{NoInstance}
use Rattle.model_syntax.specs.declared.stmt.Stmt.{Stmt}
use Rattle.sym_heap.specs.Context.{Context}
use Rattle.stmt_rules.specs.declared.output.StmtOut.{StmtOut}
use Rattle.stmt_rules.specs.Row.{StmtJudged, walk, judged, is_note}
use Rattle.stmt_rules.specs.Words.{joined}
use Rattle.stmt_rules.proofs.Folded.{judged_note}

module _ (owner cond : ℕ) (n : StmtJudged) (ns : List StmtJudged) (at : ℕ) (out : StmtOut) (c : Context) where
  pub note_stops : (ts : List Stmt) (f : Fail) (after other : Context) → n.is_note ≡ true
      → AnswersWith (Err f) after (n.as_note at c) → AnswersWith (Err f) other (walk owner cond (n ∷ ns) at ts out c)
  note_stops ts (Refused refusal) after other is stop = rw (is, stop) refl
  note_stops ts NoMemory after other is stop = tt

  pub note_goes : (ts : List Stmt) (o : StmtOut) (d : Context) → n.is_note ≡ true → AnswersWith (Ok o) d (n.as_note at c)
      → walk owner cond (n ∷ ns) at ts out c ≡ walk owner cond ns (at + n.size) ts (joined out o) d
  note_goes ts o d is goes = rw (is, goes) refl

  pub none_left : n.is_note ≡ false → walk owner cond (n ∷ ns) at [] out c ≡ Err (NoInstance at 1)
  none_left is = rw is refl

  pub statement_stops : (t : Stmt) (ts : List Stmt) (f : Fail) (after other : Context) → n.is_note ≡ false
      → AnswersWith (Err f) after (n.row at t c)
      → AnswersWith (Err f) other (walk owner cond (n ∷ ns) at (t ∷ ts) out c)
  statement_stops t ts (Refused refusal) after other is stop = rw (is, stop) refl
  statement_stops t ts NoMemory after other is stop = tt

  pub statement_goes : (t : Stmt) (ts : List Stmt) (o : StmtOut) (d : Context) → n.is_note ≡ false
      → AnswersWith (Ok o) d (n.row at t c)
      → walk owner cond (n ∷ ns) at (t ∷ ts) out c ≡ walk owner cond ns (at + n.size) ts (joined out o) d
  statement_goes t ts o d is goes = rw (is, goes) refl

-- Nodes and statements of which the first is taken.

module _ (turn : Turn) (ns : List StmtNode) (n : StmtNode) (long : 1 ≤ length ns) (is : n ≡ slice_index_or ns 0 n) where
  abbrev nodes_left : List StmtNode
  nodes_left = take (length ns - 1) (drop 1 ns)

  pub sizes_on : sum (map (λ (m : StmtJudged). m.size) (map (judged turn) ns))
      ≡ (judged turn n).size + sum (map (λ (m : StmtJudged). m.size) (map (judged turn) nodes_left))
  sizes_on =
      ap (λ l. sum (map (λ (m : StmtJudged). m.size) (map (judged turn) l))) (split_first ns n long is)
      ∙ sum_by-cons (λ m. m) (judged turn n).size (map (λ (m : StmtJudged). m.size) (map (judged turn) nodes_left))

  pub statement_on : (owner cond : ℕ) (ts : List Stmt) (t : Stmt) (at : ℕ) (out o : StmtOut) (c d : Context) → 1 ≤ length ts
      → t ≡ slice_index_or ts 0 t → is_note (out-StmtNode n).step.rule ≡ false
      → AnswersWith (Ok o) d ((judged turn n).row at t c)
      → walk owner cond (map (judged turn) nodes_left) (at + (judged turn n).size) (take (length ts - 1) (drop 1 ts))
      (joined out o) d ≡ walk owner cond (map (judged turn) ns) at ts out c
  statement_on owner cond ts t at out o c d many first statement goes =
      sym (ap (λ l. walk owner cond (map (judged turn) l) at ts out c) (split_first ns n long is)
      ∙ ap (λ l. walk owner cond (judged turn n ∷ map (judged turn) nodes_left) at l out c) (split_first ts t many first)
      ∙ statement_goes owner cond (judged turn n) (map (judged turn) nodes_left) at out c t (take (length ts - 1) (drop 1 ts)) o d
      (judged_note turn n ∙ statement) goes)

  pub note_on : (owner cond : ℕ) (ts : List Stmt) (at : ℕ) (out o : StmtOut) (c d : Context)
      → is_note (out-StmtNode n).step.rule ≡ true → AnswersWith (Ok o) d ((judged turn n).as_note at c)
      → walk owner cond (map (judged turn) nodes_left) (at + (judged turn n).size) ts (joined out o) d
      ≡ walk owner cond (map (judged turn) ns) at ts out c
  note_on owner cond ts at out o c d note goes =
      sym (ap (λ l. walk owner cond (map (judged turn) l) at ts out c) (split_first ns n long is)
      ∙ note_goes owner cond (judged turn n) (map (judged turn) nodes_left) at out c ts o d (judged_note turn n ∙ note) goes)
