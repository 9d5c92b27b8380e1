-- What the search finds is an instance of the rules: the row of each
-- node answers, from the context at which its goal was entered,
-- with what was found and the context that the search goes on from. Nodes have the numbers at which their goals were entered.
use Rattle.std.specs.Prelude.{◌≡◌, ℕ, ◌+◌, ◌≤◌, true, false, List, [], map, sum, Result, Ok, Err}
use Rattle.rup_base.specs.Gather.{all_true, greatest}
use Rattle.rup_base.specs.declared.refusal.Refusal.{Refusal}
use Rattle.model_syntax.specs.declared.expr.Expr.{Expr}
use Rattle.model_syntax.specs.declared.program.Model.{Model}
use Rattle.model_syntax.specs.declared.stmt.Stmt.{Stmt}
use Rattle.sym_heap.specs.Context.{Context}
use Rattle.sym_heap.specs.Start.{start}
use Rattle.equations.specs.Book.{Turn}
use Rattle.lemma_files.specs.declared.terms.Lemma.{Lemma}
use Rattle.model_syntax.specs.Limits as limits
use Rattle.model_syntax.specs.Limits.{Within}
use Rattle.deriv_tree.specs.Measure as measure
use Rattle.deriv_tree.specs.Measure.{expr_size, stmt_size}
use Rattle.deriv_tree.specs.Shape.{most_nodes, expr_shaped, stmt_shaped, IsWhole}
use Rattle.deriv_tree.specs.declared.tree.Derivation.{Derivation}
use Rattle.deriv_tree.specs.declared.tree.StmtNode.{StmtNode}
use Rattle.expr_rules.specs.Row.{judged, row}
use Rattle.stmt_rules.specs.declared.output.StmtOut.{StmtOut}
use Rattle.stmt_rules.specs.Row as stmt
use Rattle.stmt_rules.specs.Row.{walk}
use Rattle.replayer.specs.Replayed.{instance}
use Rattle.derive_search.specs.Derive.{derived}
use Rattle.derive_search.specs.declared.found.Found.{Found}
use Rattle.derive_search.specs.declared.seeker.Seeker.{Seeker}
use Rattle.derive_search.specs.Guide.{Guide}
use Rattle.derive_search.specs.Expressions.{seek}

-- where the search goes on, it is so
abbrev pub Gives : {A : Type 0} → (A → Seeker → Type 0) → Result (A × Seeker) Refusal → Type 0
Gives P (Ok p) = P p.0 p.1
Gives P (Err refusal) = Unit {0}

-- there are no lemmas
abbrev pub IsPlain : Guide → Type 0
IsPlain g = g.lemmas ≡ []

-- what was found for an expression, from one moment of the search to another
pub record Derives (g : Guide) (e : Expr) (before : Seeker) (f : Found) (after : Seeker) : Type 0 where
  pub row : row g.turn f.node before.entered e before.ctx ≡ Ok (f.out, after.ctx)
  pub entered : after.entered ≡ before.entered + (judged g.turn f.node).size
  pub sized : (judged g.turn f.node).size ≡ expr_size f.node
  pub stmts : after.stmts ≡ before.stmts
  pub few : after.entered ≤ most_nodes
  pub shaped : expr_shaped f.node ≡ true
  pub shallow : IsPlain g → measure.expr_depth f.node ≤ limits.expr_depth e

-- what was found for a statement
pub record StmtDerives (g : Guide) (t : Stmt) (before : Seeker) (n : StmtNode) (after : Seeker) : Type 0 where
  pub out : StmtOut
  pub is_note : (stmt.judged g.turn n).is_note ≡ false
  pub row : (stmt.judged g.turn n).row before.entered t before.ctx ≡ Ok (out, after.ctx)
  pub entered : after.entered ≡ before.entered + (stmt.judged g.turn n).size
  pub sized : (stmt.judged g.turn n).size ≡ stmt_size n
  pub few : after.entered ≤ most_nodes
  pub shaped : stmt_shaped n ≡ true
  pub shallow : IsPlain g → measure.stmt_depth n ≤ limits.stmt_depth t + limits.stmt_blocks t + 1

-- what was found for statements one after another, after what those before gave
pub record BlockDerives (g : Guide) (ts : List Stmt) (before : Seeker) (ns : List StmtNode) (after : Seeker) : Type 0 where
  pub outs : StmtOut → StmtOut
  pub row : (owner cond : ℕ) (out : StmtOut) → walk owner cond (map (stmt.judged g.turn) ns) before.entered ts out before.ctx
      ≡ Ok (outs out, after.ctx)
  pub entered : after.entered ≡ before.entered + sum (map stmt_size ns)
  pub sized : sum (map (λ n. n.size) (map (stmt.judged g.turn) ns)) ≡ sum (map stmt_size ns)
  pub few : before.entered ≤ most_nodes → after.entered ≤ most_nodes
  pub shaped : all_true (map stmt_shaped ns) ≡ true
  pub shallow : IsPlain g → greatest (map measure.stmt_depth ns) ≤ greatest (map limits.stmt_depth ts)
      + greatest (map limits.stmt_blocks ts) + 1

-- the derivation is whole, and without lemmas so deep at most that its
-- file can be read; each node is in its row, and the conditions
-- of the end hold
pub record IsInstance (lemmas : List Lemma) (turn : Turn) (m : Model) (d : Derivation) : Type 0 where
  pub whole : IsWhole d
  pub shallow : lemmas ≡ [] → Within m → measure.depth d ≤ 1000
  pub out : StmtOut
  pub after : Context
  pub is : instance turn m d (start m) ≡ Ok (out, after)

-- with all lemmas and every book
abbrev pub DerivationsAreInstances : Type 0
DerivationsAreInstances = (lemmas : List Lemma) (turn : Turn) (m : Model) (d : Derivation) → derived lemmas turn m ≡ Ok d
    → IsInstance lemmas turn m d

abbrev pub ExpressionsDerive : Type 0
ExpressionsDerive = (g : Guide) (deep stmt : ℕ) (e : Expr) (s : Seeker) → Gives (Derives g e s) (seek g deep stmt e s)
