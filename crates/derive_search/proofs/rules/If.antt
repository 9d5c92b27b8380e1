-- What the search finds for a conditional is an instance.
use Rattle.std.proofs.Common.{◌≡◌, refl, sym, ◌∙◌, ap, subst, arith, ℕ, ◌+◌, ◌≤◌, max, nat_eq, Bool, true, false, List, [], ◌∷◌}
use Rattle.std.proofs.Common.{◌++◌, length, length-append, append-nil, drop, map, sum, Option, Some, None, Ok}
use Rattle.std.proofs.Math.Nat.{max-le, le-max_left, le-max_right}
use Rattle.std.proofs.Math.Seq.{drop-append_seam}
use Rattle.rup_base.specs.Gather.{all_true, greatest}
use Rattle.model_syntax.specs.Names.{Name}
use Rattle.model_syntax.specs.declared.expr.Expr.{Expr}
use Rattle.model_syntax.specs.declared.stmt.Le.{Le}
use Rattle.model_syntax.specs.declared.stmt.Stmt.{Stmt, out-Stmt}
use Rattle.model_syntax.specs.declared.stmt.Stmt.TheOpen as s
use Rattle.model_syntax.specs.Limits as limits
use Rattle.side_certs.specs.LinearForm.{LinearForm}
use Rattle.side_certs.specs.declared.certificate.Cert.{Cert}
use Rattle.sym_heap.specs.Context.{Context}
use Rattle.sym_heap.specs.Ends.{Standing, standing, restored}
use Rattle.deriv_tree.specs.Measure as measure
use Rattle.rup_base.specs.Word.{counted}
use Rattle.deriv_tree.specs.Measure.{stmt_size}
use Rattle.deriv_tree.specs.Shape.{most_nodes, stmt_shaped, block_shaped}
use Rattle.deriv_tree.specs.declared.rule.Rule.TheVariants as rule
use Rattle.deriv_tree.specs.declared.tree.StmtNode.{StmtNode}
use Rattle.expr_rules.specs.Row as expr
use Rattle.expr_rules.specs.declared.output.ExprOut.{ExprOut}
use Rattle.expr_rules.specs.Words.{Rule, Judged, sizes}
use Rattle.stmt_rules.specs.declared.output.StmtOut.{StmtOut}
use Rattle.stmt_rules.specs.Nesting.{all_shown, end_form, unlisted_kept}
use Rattle.stmt_rules.specs.Row.{BlockJudged, branching, judged, block_judged, walk}
use Rattle.stmt_rules.specs.Words.{nothing}
use Rattle.stmt_rules.specs.rules.If as if_rule
use Rattle.derive_search.specs.Guide.{Guide}
use Rattle.derive_search.specs.declared.branching.Side.{Side}
use Rattle.derive_search.specs.declared.found.Found.{Found}
use Rattle.derive_search.specs.declared.seeker.Seeker.{Seeker}
use Rattle.derive_search.specs.Branching as search
use Rattle.derive_search.specs.Expressions.{seek}
use Rattle.derive_search.specs.Kept.{certificates}
use Rattle.derive_search.specs.Nodes as nodes
use Rattle.derive_search.specs.Statements.{seek_stmt}
use Rattle.derive_search.specs.Words.{in_context}
use Rattle.derive_search.specs.Instance.{IsPlain, Gives, Derives, StmtDerives, BlockDerives}
use Rattle.derive_search.proofs.laws.Kept.{certificates_show, certificates_many}
use Rattle.derive_search.proofs.laws.Walking.{gives_then}
use Rattle.derive_search.proofs.BlockNode.{judged_is, size_is, shaped_is, depth_is}
use Rattle.derive_search.proofs.Blocks.{Derivables, block_derives}
use Rattle.derive_search.proofs.Depth.{stmt_depth_is, stmt_blocks_is, one_top}
use Rattle.derive_search.proofs.ExprLaw.{expressions_derive, then_seek}
use Rattle.derive_search.proofs.Stands.{begun, step, stands_over, ended_gives}

-- A side.

-- the rule's side, from what its steps give
side_gives : (at place : ℕ) (names : List Name) (keep : List Le) (certs : List Cert) (facts : List LinearForm)
    (block : Rule StmtOut) (out : StmtOut) (c d e : Context)
    → if_rule.begins at names facts c.scalars c ≡ Ok (tt, d) → block d ≡ Ok (out, e) → unlisted_kept names c.clauses e.clauses
    ≡ true
    → all_shown at place certs (end_form names e.scalars c.scalars) keep e ≡ Ok (tt, e)
    → if_rule.side at names keep place certs facts block c ≡ Ok ((out, standing e), restored (standing c) e)
side_gives at place names keep certs facts block out c d e begins runs kept shown = rw (begins, runs, kept, shown) refl

-- what was found for a side, from one moment of the search to another
pub record SideDerives (guide : Guide) (at : ℕ) (names : List Name) (keep : List Le) (facts : List LinearForm) (ts : List Stmt)
    (before : Seeker) (s : Side) (after : Seeker) : Type 0 where
  pub out : StmtOut
  pub row : (cond place : ℕ) (more : List Cert)
      → if_rule.side at names keep place (s.certs ++ more) facts
      (walk at cond (map (judged guide.turn) s.nodes) before.entered ts nothing) before.ctx ≡ Ok ((out, s.at_end), after.ctx)
  pub many : length s.certs ≡ length keep
  pub entered : after.entered ≡ before.entered + sum (map stmt_size s.nodes)
  pub sized : sum (map (λ n. n.size) (map (judged guide.turn) s.nodes)) ≡ sum (map stmt_size s.nodes)
  pub few : before.entered ≤ most_nodes → after.entered ≤ most_nodes
  pub shaped : all_true (map stmt_shaped s.nodes) ≡ true
  pub shallow : IsPlain guide → greatest (map measure.stmt_depth s.nodes) ≤ greatest (map limits.stmt_depth ts)
      + greatest (map limits.stmt_blocks ts) + 1

-- the side begins: what stood before, and the context after
record Begun (at : ℕ) (names : List Name) (facts : List LinearForm) (k : Seeker) (b : Standing) (t : Seeker) : Type 0 where
  is : b ≡ standing k.ctx
  step : if_rule.begins at names facts k.ctx.scalars k.ctx ≡ Ok (tt, t.ctx)
  entered : t.entered ≡ k.entered

module _ (guide : Guide) (deep at stmt_number : ℕ) (names : List Name) (keep : List Le) (facts : List LinearForm) (ts : List Stmt)
  where
    begun_gives : (k : Seeker) → Gives (Begun at names facts k)
        (in_context (search.side_begun at (nodes.stuck stmt_number) names facts) k)
    begun_gives k =
        ended_gives (Begun at names facts k) (standing k.ctx) k (nodes.stuck stmt_number)
        (if_rule.begins at names facts k.ctx.scalars k.ctx)
        (λ u d is. record { is = refl; step = is; entered = refl })

    ended_side : (k t u : Seeker) (ns : List StmtNode) → Begun at names facts k (standing k.ctx) t → BlockDerives guide ts t ns u
        → Gives (SideDerives guide at names keep facts ts k)
        (in_context (search.side_ended (nodes.stuck stmt_number) names keep (standing k.ctx) ns) u)
    ended_side k t u ns b d =
        by (unlisted_kept names k.ctx.clauses u.ctx.clauses) refl
        (certificates u.ctx (end_form names u.ctx.scalars k.ctx.scalars) keep) refl where
          by : (kept : Bool) → unlisted_kept names k.ctx.clauses u.ctx.clauses ≡ kept → (o : Option (List Cert))
              → certificates u.ctx (end_form names u.ctx.scalars k.ctx.scalars) keep ≡ o
              → Gives (SideDerives guide at names keep facts ts k)
              (in_context (search.side_ended (nodes.stuck stmt_number) names keep (standing k.ctx) ns) u)
          by false kept o certs = rw kept tt
          by true kept None certs = rw (kept, certs) tt
          by true kept (Some ks) certs =
              let form = end_form names u.ctx.scalars k.ctx.scalars in
              let same = b.entered in let entered = d.entered in
              let found : SideDerives guide at names keep facts ts k (record { nodes = ns; certs = ks; at_end = standing u.ctx })
              (record u { ctx = restored (standing k.ctx) u.ctx }) =
              record {
                out = d.outs nothing;
                row = λ cond place more.
                    (let runs : walk at cond (map (judged guide.turn) ns) k.entered ts nothing t.ctx
                    ≡ Ok (d.outs nothing, u.ctx) = rw (sym b.entered) (d.row at cond nothing) in
                    side_gives at place names keep (ks ++ more) facts
                    (walk at cond (map (judged guide.turn) ns) k.entered ts nothing) (d.outs nothing) k.ctx t.ctx u.ctx b.step
                    runs kept
                    (certificates_show u.ctx form keep ks certs at place more));
                many = certificates_many u.ctx form keep ks certs;
                entered = omega (arith, same, entered);
                sized = d.sized;
                few = λ few. d.few (omega (arith, same, few));
                shaped = d.shaped;
                shallow = d.shallow;
              } in
              rw (kept, certs) found

    pub side_derives : Derivables guide deep ts → (k : Seeker)
        → Gives (SideDerives guide at names keep facts ts k)
        (search.seek_side guide at stmt_number names keep facts (map (seek_stmt guide deep) ts) k)
    side_derives each k =
        gives_then (SideDerives guide at names keep facts ts k) k (Begun at names facts k)
        (in_context (search.side_begun at (nodes.stuck stmt_number) names facts))
        (λ before. then_seek (nodes.in_order (map (seek_stmt guide deep) ts) [])
        (λ ns. in_context (search.side_ended (nodes.stuck stmt_number) names keep before ns)))
        (begun_gives k)
        (λ before t b. gives_then (SideDerives guide at names keep facts ts k) t (BlockDerives guide ts t)
        (nodes.in_order (map (seek_stmt guide deep) ts) [])
        (λ ns. in_context (search.side_ended (nodes.stuck stmt_number) names keep before ns)) (block_derives guide deep ts each t)
        (λ ns u d. rw b.is (ended_side k t u ns (record { is = refl; step = b.step; entered = b.entered }) d)))

-- The node.

eq_test : (a b : ℕ) → a ≡ b → nat_eq a b ≡ true
eq_test a b h = grind (arith, h)

-- the rule's row, from what its steps give
row_gives : (certs : List Cert) (kid : Judged) (one two : BlockJudged) (at : ℕ) (test : Expr) (names : List Name) (keep : List Le)
    (first second : List Stmt)
    (p : ExprOut) (s1 s2 : if_rule.Side) (c c0 c1 c2 c3 : Context)
    → nat_eq (length certs) (length keep + length keep) ≡ true
    → kid.row (at + 1) test c ≡ Ok (p, c0)
    → if_rule.side at names keep 0 certs p.yes (one.row (at + 1 + sizes (kid ∷ [])) at 4 first) c0 ≡ Ok (s1, c1)
    → if_rule.side at names keep (counted (length keep)) (drop (length keep) certs) p.no
    (two.row (at + 1 + sizes (kid ∷ []) + one.size) at 5 second) c1 ≡ Ok (s2, c2)
    → if_rule.joins at names keep s1.1 s2.1 c2 ≡ Ok (tt, c3)
    → branching (step rule.SIf [] certs) (kid ∷ []) (one ∷ two ∷ []) at test names keep first second c
    ≡ Ok (if_rule.choosing p.code s1.0 s2.0, c3)
row_gives certs kid one two at test names keep first second p s1 s2 c c0 c1 c2 c3 many test_row one_row two_row joins =
    rw (many, test_row, one_row, two_row, joins) refl

module _ (guide : Guide) (z : Stmt) (k : Seeker) (n : ℕ) (test : Expr) (names : List Name) (keep : List Le)
    (first second : List Stmt)
    (is : out-Stmt z ≡ s.If test names keep first second) (f : Found) (t u w : Seeker) (one two : Side)
    (df : Derives guide test (begun k) f t)
    (d1 : SideDerives guide k.entered names keep f.out.yes first t one u)
    (d2 : SideDerives guide k.entered names keep f.out.no second u two w) where
  abbrev kid : Judged
  kid = expr.judged guide.turn f.node

  abbrev b1 : BlockJudged
  b1 = block_judged guide.turn (nodes.block one.nodes)

  abbrev b2 : BlockJudged
  b2 = block_judged guide.turn (nodes.block two.nodes)

  size1 : b1.size ≡ sum (map stmt_size one.nodes)
  size1 = ap (λ (j : BlockJudged). j.size) (judged_is guide.turn one.nodes) ∙ d1.sized

  size2 : b2.size ≡ sum (map stmt_size two.nodes)
  size2 = ap (λ (j : BlockJudged). j.size) (judged_is guide.turn two.nodes) ∙ d2.sized

  number1 : k.entered + 1 + sizes (kid ∷ []) ≡ t.entered
  number1 = let e = df.entered in omega (arith, e)

  number2 : k.entered + 1 + sizes (kid ∷ []) + b1.size ≡ u.entered
  number2 = let a = number1 in let b = size1 in let c = d1.entered in omega (arith, a, b, c)

  many : nat_eq (length (one.certs ++ two.certs)) (length keep + length keep) ≡ true
  many = let a = length-append one.certs two.certs in let b = d1.many in let c = d2.many in
      eq_test (length (one.certs ++ two.certs)) (length keep + length keep) (omega (arith, a, b, c))

  past : drop (length keep) (one.certs ++ two.certs) ≡ two.certs
  past = subst (λ (m : ℕ). drop m (one.certs ++ two.certs) ≡ two.certs) d1.many (drop-append_seam one.certs two.certs)

  side1 : if_rule.side k.entered names keep 0 (one.certs ++ two.certs) f.out.yes
      (b1.row (k.entered + 1 + sizes (kid ∷ [])) k.entered 4 first) t.ctx ≡ Ok ((d1.out, one.at_end), u.ctx)
  side1 =
      ap (λ (j : BlockJudged). if_rule.side k.entered names keep 0 (one.certs ++ two.certs) f.out.yes
      (j.row (k.entered + 1 + sizes (kid ∷ [])) k.entered 4 first) t.ctx) (judged_is guide.turn one.nodes)
      ∙ ap (λ (m : ℕ). if_rule.side k.entered names keep 0 (one.certs ++ two.certs) f.out.yes
      (walk k.entered 4 (map (judged guide.turn) one.nodes) m first nothing) t.ctx) number1
      ∙ d1.row 4 0 two.certs

  side2 : if_rule.side k.entered names keep (counted (length keep)) (drop (length keep) (one.certs ++ two.certs)) f.out.no
      (b2.row (k.entered + 1 + sizes (kid ∷ []) + b1.size) k.entered 5 second) u.ctx ≡ Ok ((d2.out, two.at_end), w.ctx)
  side2 =
      ap (λ (j : BlockJudged). if_rule.side k.entered names keep (counted (length keep))
      (drop (length keep) (one.certs ++ two.certs)) f.out.no
      (j.row (k.entered + 1 + sizes (kid ∷ []) + b1.size) k.entered 5 second) u.ctx) (judged_is guide.turn two.nodes)
      ∙ ap (λ (m : ℕ). if_rule.side k.entered names keep (counted (length keep)) (drop (length keep) (one.certs ++ two.certs))
      f.out.no
      (walk k.entered 5 (map (judged guide.turn) two.nodes) m second nothing) u.ctx) number2
      ∙ ap (λ (ks : List Cert). if_rule.side k.entered names keep (counted (length keep)) ks f.out.no
      (walk k.entered 5 (map (judged guide.turn) two.nodes) u.entered second nothing) u.ctx)
      (past ∙ sym (append-nil two.certs))
      ∙ d2.row 5 (counted (length keep)) []

  derives : (e : Context) → if_rule.joins k.entered names keep one.at_end two.at_end w.ctx ≡ Ok (tt, e)
      → StmtDerives guide z k (search.branch f.node one two) (record w { ctx = e })
  derives e joins =
      let a = df.entered in let b = d1.entered in let c = d2.entered in let p = size1 in let q = size2 in
      let sizes_is = df.sized in let one_size = size_is one.nodes in let two_size = size_is two.nodes in
      let shaped1 : block_shaped (nodes.block one.nodes) ≡ true = shaped_is one.nodes ∙ d1.shaped in
      let shaped2 : block_shaped (nodes.block two.nodes) ≡ true = shaped_is two.nodes ∙ d2.shaped in
      let depth : limits.stmt_depth z
      ≡ max (limits.expr_depth test)
      (max (greatest (map limits.stmt_depth first)) (greatest (map limits.stmt_depth second))) =
      stmt_depth_is z (s.If test names keep first second) is in
      let blocks : limits.stmt_blocks z ≡ max (greatest (map limits.stmt_blocks first)) (greatest (map limits.stmt_blocks second))
      + 1 =
      stmt_blocks_is z (s.If test names keep first second) is in
      let left = le-max_left (limits.expr_depth test)
      (max (greatest (map limits.stmt_depth first)) (greatest (map limits.stmt_depth second))) in
      let right = le-max_right (limits.expr_depth test)
      (max (greatest (map limits.stmt_depth first)) (greatest (map limits.stmt_depth second))) in
      let dl = le-max_left (greatest (map limits.stmt_depth first)) (greatest (map limits.stmt_depth second)) in
      let dr = le-max_right (greatest (map limits.stmt_depth first)) (greatest (map limits.stmt_depth second)) in
      let bl = le-max_left (greatest (map limits.stmt_blocks first)) (greatest (map limits.stmt_blocks second)) in
      let br = le-max_right (greatest (map limits.stmt_blocks first)) (greatest (map limits.stmt_blocks second)) in
      let deep1 = depth_is one.nodes in let deep2 = depth_is two.nodes in
      let h1 : IsPlain guide → measure.block_depth (nodes.block one.nodes) ≤ limits.stmt_depth z + limits.stmt_blocks z =
      λ plain. (let low = d1.shallow plain in omega (arith, depth, blocks, right, dl, bl, deep1, low)) in
      let h2 : IsPlain guide → measure.block_depth (nodes.block two.nodes) ≤ limits.stmt_depth z + limits.stmt_blocks z =
      λ plain. (let low = d2.shallow plain in omega (arith, depth, blocks, right, dr, br, deep2, low)) in
      stands_over guide z k (s.If test names keep first second) is rule.SIf [] (one.certs ++ two.certs) (f.node ∷ [])
      (nodes.block one.nodes ∷ nodes.block two.nodes ∷ [])
      (if_rule.choosing f.out.code d1.out d2.out) (record w { ctx = e }) refl refl
      (row_gives (one.certs ++ two.certs) kid b1 b2 k.entered test names keep first second f.out (d1.out, one.at_end)
      (d2.out, two.at_end) k.ctx t.ctx u.ctx w.ctx e
      many df.row side1 side2 joins)
      (omega (arith, a, b, c, p, q)) (d2.few (d1.few df.few)) (omega (arith, sizes_is)) (omega (arith, p, q, one_size, two_size))
      (rw (df.shaped, shaped1, shaped2) refl)
      (λ plain. let top = one_top (measure.expr_depth f.node) (limits.expr_depth test) (df.shallow plain) in
      omega (arith, depth, top, left))
      (λ plain. max-le (h1 plain) (one_top (measure.block_depth (nodes.block two.nodes))
      (limits.stmt_depth z + limits.stmt_blocks z) (h2 plain)))

module _ (guide : Guide) (z : Stmt) (k : Seeker) (deep n : ℕ) where
  pub if_derives : (test : Expr) (names : List Name) (keep : List Le) (first second : List Stmt)
      → out-Stmt z ≡ s.If test names keep first second
      → Derivables guide deep first → Derivables guide deep second
      → Gives (StmtDerives guide z k)
      (search.seek_if guide deep k.entered n test names keep (map (seek_stmt guide deep) first)
      (map (seek_stmt guide deep) second) (begun k))
  if_derives test names keep first second is firsts seconds =
      let at = k.entered in let Q = StmtDerives guide z k in
      let ones = map (seek_stmt guide deep) first in let twos = map (seek_stmt guide deep) second in
      gives_then Q (begun k) (Derives guide test (begun k)) (seek guide deep n test)
      (λ f. then_seek (search.seek_side guide at n names keep f.out.yes ones)
      (λ one. then_seek (search.seek_side guide at n names keep f.out.no twos)
      (λ two. in_context (search.met at (nodes.stuck n) names keep f.node one two))))
      (expressions_derive guide deep n test (begun k))
      (λ f t df. gives_then Q t (SideDerives guide at names keep f.out.yes first t)
      (search.seek_side guide at n names keep f.out.yes ones)
      (λ one. then_seek (search.seek_side guide at n names keep f.out.no twos)
      (λ two. in_context (search.met at (nodes.stuck n) names keep f.node one two)))
      (side_derives guide deep at n names keep f.out.yes first firsts t)
      (λ one u d1. gives_then Q u (SideDerives guide at names keep f.out.no second u)
      (search.seek_side guide at n names keep f.out.no twos)
      (λ two. in_context (search.met at (nodes.stuck n) names keep f.node one two))
      (side_derives guide deep at n names keep f.out.no second seconds u)
      (λ two w d2. ended_gives Q (search.branch f.node one two) w (nodes.stuck n)
      (if_rule.joins at names keep one.at_end two.at_end w.ctx)
      (λ a e joins. derives guide z k n test names keep first second is f t u w one two df d1 d2 e joins))))
