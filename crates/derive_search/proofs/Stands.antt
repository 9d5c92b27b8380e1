-- What is common to the laws of the statements' rows: what a node stands for, from what its parts give.
use Rattle.std.proofs.Common.{◌≡◌, refl, arith, ℕ, ◌+◌, ◌≤◌, max, ℤ, Bool, true, false, List, [], map, sum, Result, Ok, Err}
use Rattle.std.proofs.Math.Nat.{max-le}
use Rattle.rup_base.specs.Gather.{greatest}
use Rattle.rup_base.specs.declared.refusal.Refusal.{Refusal}
use Rattle.model_syntax.specs.declared.stmt.Stmt.{Stmt, Stmt-F, out-Stmt}
use Rattle.model_syntax.specs.Limits as limits
use Rattle.side_certs.specs.declared.certificate.Cert.{Cert}
use Rattle.sym_heap.specs.Context.{Context}
use Rattle.deriv_tree.specs.Measure as measure
use Rattle.deriv_tree.specs.Measure.{expr_size, stmt_size, block_size, stmt_size_step, block_size_step}
use Rattle.deriv_tree.specs.Shape.{most_nodes, stmt_shaped, block_shaped, stmt_shaped_step, block_shaped_step}
use Rattle.deriv_tree.specs.declared.rule.Rule as deriv
use Rattle.deriv_tree.specs.declared.tree.Step.{Step}
use Rattle.deriv_tree.specs.declared.tree.ExprNode.{ExprNode}
use Rattle.deriv_tree.specs.declared.tree.StmtNode.{StmtNode, fold-roll-StmtNode}
use Rattle.deriv_tree.specs.declared.tree.Block.{Block}
use Rattle.deriv_tree.specs.declared.tree.Block.TheOpen.{StmtNode-F}
use Rattle.expr_rules.specs.Row as expr
use Rattle.expr_rules.specs.Words.{sizes}
use Rattle.stmt_rules.specs.declared.output.StmtOut.{StmtOut}
use Rattle.stmt_rules.specs.Row.{StmtJudged, BlockJudged, block_step, judged_step, judged, block_judged, block_sizes, fits}
use Rattle.stmt_rules.specs.Row.{is_note, parts}
use Rattle.derive_search.specs.Guide.{Guide}
use Rattle.derive_search.specs.declared.seeker.Seeker.{Seeker}
use Rattle.derive_search.specs.Words.{with_context}
use Rattle.derive_search.specs.Nodes.{node, node_with, ended}
use Rattle.derive_search.specs.Instance.{IsPlain, Gives, StmtDerives}

abbrev pub step : deriv.Rule → List ℤ → List Cert → Step
step rule args certs = record { rule = rule; args = args; certs = certs }

-- the state in which a statement's parts are entered
abbrev pub begun : Seeker → Seeker
begun k = record k { entered = k.entered + 1; stmts = k.stmts + 1 }

-- where a step of a rule gives something, so does the search
pub ended_gives : {A B : Type 0} (Q : B → Seeker → Type 0) (b : B) (t : Seeker) (refusal : Refusal)
    (r : Result (A × Context) Refusal)
    → ((a : A) (d : Context) → r ≡ Ok (a, d) → Q b (record t { ctx = d }))
    → Gives Q (with_context t (ended refusal b r))
ended_gives Q b t refusal (Ok p) more = more p.0 p.1 refl
ended_gives Q b t refusal (Err other) more = tt

module _ (guide : Guide) (z : Stmt) (k : Seeker) where
  -- the row of a node, from what its parts give
  pub stands_over : (shape : Stmt-F Stmt) → out-Stmt z ≡ shape
      → (r : deriv.Rule) (args : List ℤ) (certs : List Cert) (nodes : List ExprNode) (blocks : List Block)
      (out : StmtOut) (t : Seeker)
      → fits r shape ≡ true → is_note r ≡ false
      → parts (step r args certs) (map (expr.judged guide.turn) nodes) (map (block_judged guide.turn) blocks) k.entered shape
      k.ctx ≡ Ok (out, t.ctx)
      → t.entered ≡ k.entered + (1 + sizes (map (expr.judged guide.turn) nodes)
      + block_sizes (map (block_judged guide.turn) blocks))
      → t.entered ≤ most_nodes
      → sizes (map (expr.judged guide.turn) nodes) ≡ sum (map expr_size nodes)
      → block_sizes (map (block_judged guide.turn) blocks) ≡ sum (map block_size blocks)
      → stmt_shaped_step (record { step = step r args certs; kids = nodes; blocks = map block_shaped blocks }) ≡ true
      → (IsPlain guide → greatest (map measure.expr_depth nodes) ≤ limits.stmt_depth z)
      → (IsPlain guide → greatest (map measure.block_depth blocks) ≤ limits.stmt_depth z + limits.stmt_blocks z)
      → StmtDerives guide z k (node_with r args certs nodes blocks) t
  stands_over shape is r args certs nodes blocks out t fit note gives entered few sized blocks_sized shaped shallow
      blocks_shallow =
      let n : StmtNode-F Block StmtNode = record { step = step r args certs; kids = nodes; blocks = blocks } in
      let noted : (judged guide.turn (node_with r args certs nodes blocks)).is_note
      ≡ false = rw (fold-roll-StmtNode BlockJudged StmtJudged block_step (judged_step guide.turn) n) note in
      let one : (judged guide.turn (node_with r args certs nodes blocks)).row k.entered z k.ctx ≡ Ok (out, t.ctx) =
      rw (fold-roll-StmtNode BlockJudged StmtJudged block_step (judged_step guide.turn) n) (rw (is, fit) gives) in
      let two : t.entered ≡ k.entered + (judged guide.turn (node_with r args certs nodes blocks)).size =
      rw (fold-roll-StmtNode BlockJudged StmtJudged block_step (judged_step guide.turn) n) (omega (arith, entered)) in
      let three : (judged guide.turn (node_with r args certs nodes blocks)).size
      ≡ stmt_size (node_with r args certs nodes blocks) =
      rw (
        fold-roll-StmtNode BlockJudged StmtJudged block_step (judged_step guide.turn) n,
        fold-roll-StmtNode ℕ ℕ block_size_step
            stmt_size_step n,
      ) (omega (arith, sized, blocks_sized)) in
      let four : stmt_shaped (node_with r args certs nodes blocks)
      ≡ true = rw (fold-roll-StmtNode Bool Bool block_shaped_step stmt_shaped_step n) shaped in
      let five : IsPlain guide → measure.stmt_depth (node_with r args certs nodes blocks) ≤ limits.stmt_depth z
      + limits.stmt_blocks z + 1 =
      λ plain. (let first = shallow plain in
      let kids : greatest (map measure.expr_depth nodes) ≤ limits.stmt_depth z + limits.stmt_blocks z = omega (arith, first) in
      let deep : max (greatest (map measure.expr_depth nodes)) (greatest (map measure.block_depth blocks)) ≤ limits.stmt_depth z
      + limits.stmt_blocks z = max-le kids (blocks_shallow plain) in
      rw (fold-roll-StmtNode ℕ ℕ measure.block_depth_step measure.stmt_depth_step n) (omega (arith, deep))) in
      record { out = out; is_note = noted; row = one; entered = two; sized = three; few = few; shaped = four; shallow = five }

  -- the same of a node without blocks
  pub stands : (shape : Stmt-F Stmt) → out-Stmt z ≡ shape
      → (r : deriv.Rule) (args : List ℤ) (certs : List Cert) (nodes : List ExprNode) (out : StmtOut) (t : Seeker)
      → fits r shape ≡ true → is_note r ≡ false
      → parts (step r args certs) (map (expr.judged guide.turn) nodes) [] k.entered shape k.ctx ≡ Ok (out, t.ctx)
      → t.entered ≡ k.entered + (1 + sizes (map (expr.judged guide.turn) nodes))
      → t.entered ≤ most_nodes
      → sizes (map (expr.judged guide.turn) nodes) ≡ sum (map expr_size nodes)
      → stmt_shaped_step (record { step = step r args certs; kids = nodes; blocks = [] }) ≡ true
      → (IsPlain guide → greatest (map measure.expr_depth nodes) ≤ limits.stmt_depth z)
      → StmtDerives guide z k (node r args certs nodes) t
  stands shape is r args certs nodes out t fit note gives entered few sized shaped shallow =
      stands_over shape is r args certs nodes [] out t fit note gives (omega (arith, entered)) few sized refl shaped shallow
      (λ plain. omega arith)
