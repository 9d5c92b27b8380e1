-- The trees that stand at places which a list of nodes fills.
use Rattle.std.proofs.Common.{◌≡◌, ℕ, zero, suc, ◌+◌, ◌≤◌, max, Bool, true, false, not, ◌&&◌, ◌==◌, nat_le, List, [], ◌∷◌, ◌++◌}
use Rattle.std.proofs.Common.{length, map, sum, replicate, if◌then◌else◌, refl, sym, ◌∙◌, ap, subst, append_assoc, append-nil}
use Rattle.std.proofs.Common.{length-append, leb-true, eq-eqb, arith}
use Rattle.std.proofs.lemmas.List.{length-map, replicate-append-replicate}
use Rattle.std.proofs.lemmas.List.Sums.{sum_by-cons}
use Rattle.rup_base.specs.Gather.{joined, all_true, greatest}
use Rattle.deriv_tree.specs.declared.rule.Rule.{Rule}
use Rattle.deriv_tree.specs.declared.rule.Rule.TheVariants.{SNote, SLet, SPut, SMove, SIf, SFor, SMap, SFold}
use Rattle.deriv_tree.specs.declared.tree.ExprNode.{ExprNode, ExprNode-F, roll-ExprNode, fold-roll-ExprNode}
use Rattle.deriv_tree.specs.declared.tree.StmtNode.{StmtNode, roll-StmtNode, fold-roll-StmtNode}
use Rattle.deriv_tree.specs.declared.tree.Block.{Block, roll-Block, out-Block, out-roll-Block, fold-roll-Block}
use Rattle.deriv_tree.specs.declared.tree.Block.TheOpen.{Block-F, StmtNode-F}
use Rattle.deriv_tree.specs.declared.listed.Listed.{Listed}
use Rattle.deriv_tree.specs.Shape.{is_expression, kids, blocks, expr_shaped, expr_shaped_step, stmt_shaped, stmt_shaped_step}
use Rattle.deriv_tree.specs.Shape.{block_shaped, block_shaped_step}
use Rattle.deriv_tree.specs.Measure.{expr_size, expr_size_step, stmt_size, stmt_size_step, block_size, block_size_step}
use Rattle.deriv_tree.specs.Measure.{expr_depth, expr_depth_step, stmt_depth, stmt_depth_step, block_depth, block_depth_step}
use Rattle.deriv_tree.specs.Preorder.{BlockList, expr_list, expr_list_step, stmt_list, stmt_list_step, block_list}
use Rattle.deriv_tree.specs.Preorder.{block_list_step, count_of, nodes_of}
use Rattle.deriv_file.specs.declared.places.Place.{Place}
use Rattle.deriv_file.specs.Limits.{has_room, around_kids, kids_few, expr_few, expr_few_step, stmt_few, stmt_few_step, block_few}
use Rattle.deriv_file.specs.Limits.{block_few_step}
use Rattle.deriv_file.specs.Places.{is_of_kind, admits, kid_place, block_place, outer_place, called_for}
use Rattle.deriv_file.proofs.Filling.{Fills}

pub both_true : (a b : Bool) → a ≡ true → b ≡ true → (a && b) ≡ true
both_true true b h k = k
both_true false b h k = absurd (cc)

pub expression_blocks : (r : Rule) → is_expression r ≡ true → blocks r ≡ 0
expression_blocks SIf h = absurd (cc)
expression_blocks SFor h = absurd (cc)
expression_blocks _ h = refl

-- no rewrite stands directly around the kids of a statement
pub statement_around : (r : Rule) (above : ℕ) → not (is_expression r) ≡ true → around_kids r above ≡ 0
statement_around SNote above h = refl
statement_around SLet above h = refl
statement_around SPut above h = refl
statement_around SMove above h = refl
statement_around SIf above h = refl
statement_around SFor above h = refl
statement_around SMap above h = refl
statement_around SFold above h = refl
statement_around _ above h = absurd (cc)

-- a list in two parts
pub record Parts (First Rest : List Listed → Type 0) (ns : List Listed) : Type 0 where
  pub first : List Listed
  pub rest : List Listed
  pub at_first : First first
  pub at_rest : Rest rest
  pub whole : ns ≡ first ++ rest

-- the tree of an expression at a place, by its list
pub record ExprAt (p : Place) (ns : List Listed) : Type 0 where
  pub e : ExprNode
  pub list : expr_list e ≡ ns
  pub shaped : expr_shaped e ≡ true
  pub size : expr_size e ≡ length ns
  pub deep : p.depth + expr_depth e ≤ 1001
  pub few : expr_few e p.rewrites ≡ true

-- the tree of a statement
pub record StmtAt (p : Place) (ns : List Listed) : Type 0 where
  pub n : StmtNode
  pub list : stmt_list n ≡ ns
  pub shaped : stmt_shaped n ≡ true
  pub size : stmt_size n ≡ length ns
  pub deep : p.depth + stmt_depth n ≤ 1001
  pub few : stmt_few n ≡ true

abbrev pub TreeAt : Bool → Place → List Listed → Type 0
TreeAt true p ns = StmtAt p ns
TreeAt false p ns = ExprAt p ns

-- a tree stands at each place
abbrev pub Stands : List Place → List Listed → Type 0
Stands [] ns = ns ≡ []
Stands (p ∷ ps) ns = Parts (TreeAt p.is_statement p) (Stands ps) ns

-- Trees at equal places.

pub record ExprsAt (k : ℕ) (q : Place) (ns : List Listed) : Type 0 where
  pub es : List ExprNode
  pub many : length es ≡ k
  pub list : joined (map expr_list es) ≡ ns
  pub shaped : all_true (map expr_shaped es) ≡ true
  pub size : sum (map expr_size es) ≡ length ns
  pub deep : q.depth + greatest (map expr_depth es) ≤ 1001
  pub few : kids_few q.rewrites (map expr_few es) ≡ true

pub record StmtsAt (k : ℕ) (q : Place) (ns : List Listed) : Type 0 where
  pub ss : List StmtNode
  pub many : length ss ≡ k
  pub list : joined (map stmt_list ss) ≡ ns
  pub shaped : all_true (map stmt_shaped ss) ≡ true
  pub size : sum (map stmt_size ss) ≡ length ns
  pub deep : q.depth + greatest (map stmt_depth ss) ≤ 1001
  pub few : all_true (map stmt_few ss) ≡ true

pub record BlocksAt (counts : List ℕ) (q : Place) (ns : List Listed) : Type 0 where
  pub bs : List Block
  pub many : map count_of (map block_list bs) ≡ counts
  pub list : joined (map nodes_of (map block_list bs)) ≡ ns
  pub shaped : all_true (map block_shaped bs) ≡ true
  pub size : sum (map block_size bs) ≡ length ns
  pub deep : q.depth + greatest (map block_depth bs) ≤ 1001
  pub few : all_true (map block_few bs) ≡ true

regroup : (ns first rest some more : List Listed) → ns ≡ first ++ rest → rest ≡ some ++ more → ns ≡ (first ++ some) ++ more
regroup ns first rest some more h k = h ∙ ap (λ (ms : List Listed). first ++ ms) k ∙ sym (append_assoc first some more)

one_expr_more : (k : ℕ) (q : Place) (first some : List Listed) → ExprAt q first → ExprsAt k q some
    → ExprsAt (suc k) q (first ++ some)
one_expr_more k q first some one more =
    let total : sum (expr_size one.e ∷ map expr_size more.es) ≡ expr_size one.e + sum (map expr_size more.es) =
    sum_by-cons (λ n. n) (expr_size one.e) (map expr_size more.es) in
    record {
      es = one.e ∷ more.es;
      many = ap suc more.many;
      list = λ i. one.list i ++ more.list i;
      shaped = both_true (expr_shaped one.e) (all_true (map expr_shaped more.es)) one.shaped more.shaped;
      size = omega (arith, total, one.size, more.size, length-append first some);
      deep = omega (arith, one.deep, more.deep);
      few = both_true (expr_few one.e q.rewrites) (kids_few q.rewrites (map expr_few more.es)) one.few more.few;
    }

one_stmt_more : (k : ℕ) (q : Place) (first some : List Listed) → StmtAt q first → StmtsAt k q some
    → StmtsAt (suc k) q (first ++ some)
one_stmt_more k q first some one more =
    let total : sum (stmt_size one.n ∷ map stmt_size more.ss) ≡ stmt_size one.n + sum (map stmt_size more.ss) =
    sum_by-cons (λ n. n) (stmt_size one.n) (map stmt_size more.ss) in
    record {
      ss = one.n ∷ more.ss;
      many = ap suc more.many;
      list = λ i. one.list i ++ more.list i;
      shaped = both_true (stmt_shaped one.n) (all_true (map stmt_shaped more.ss)) one.shaped more.shaped;
      size = omega (arith, total, one.size, more.size, length-append first some);
      deep = omega (arith, one.deep, more.deep);
      few = both_true (stmt_few one.n) (all_true (map stmt_few more.ss)) one.few more.few;
    }

exprs_stand : (k : ℕ) (q : Place) (ps : List Place) (ns : List Listed) → q.is_statement ≡ false → q.depth ≤ 1001
    → Stands (replicate k q ++ ps) ns → Parts (ExprsAt k q) (Stands ps) ns
exprs_stand zero q ps ns is low h = record {
  first = [];
  rest = ns;
  at_first = record { es = []; many = refl; list = refl; shaped = refl; size = refl; deep = omega (arith, low); few = refl };
  at_rest = h;
  whole = refl;
}
exprs_stand (suc k) q ps ns is low h =
    let one : ExprAt q h.first = subst (λ (b : Bool). TreeAt b q h.first) is h.at_first in
    let others = exprs_stand k q ps h.rest is low h.at_rest in
    record {
      first = h.first ++ others.first;
      rest = others.rest;
      at_first = one_expr_more k q h.first others.first one others.at_first;
      at_rest = others.at_rest;
      whole = regroup ns h.first h.rest others.first others.rest h.whole others.whole;
    }

pub stmts_stand : (k : ℕ) (q : Place) (ps : List Place) (ns : List Listed) → q.is_statement ≡ true → q.depth ≤ 1001
    → Stands (replicate k q ++ ps) ns → Parts (StmtsAt k q) (Stands ps) ns
stmts_stand zero q ps ns is low h = record {
  first = [];
  rest = ns;
  at_first = record { ss = []; many = refl; list = refl; shaped = refl; size = refl; deep = omega (arith, low); few = refl };
  at_rest = h;
  whole = refl;
}
stmts_stand (suc k) q ps ns is low h =
    let one : StmtAt q h.first = subst (λ (b : Bool). TreeAt b q h.first) is h.at_first in
    let others = stmts_stand k q ps h.rest is low h.at_rest in
    record {
      first = h.first ++ others.first;
      rest = others.rest;
      at_first = one_stmt_more k q h.first others.first one others.at_first;
      at_rest = others.at_rest;
      whole = regroup ns h.first h.rest others.first others.rest h.whole others.whole;
    }

-- Blocks.

pub record BlockAt (count : ℕ) (q : Place) (ns : List Listed) : Type 0 where
  pub b : Block
  pub inside : length (out-Block b).nodes ≡ count
  pub many : (block_list b).count ≡ count
  pub list : (block_list b).nodes ≡ ns
  pub shaped : block_shaped b ≡ true
  pub size : block_size b ≡ length ns
  pub deep : q.depth + block_depth b ≤ 1001
  pub few : block_few b ≡ true

pub block_at : (k : ℕ) (q : Place) (ns : List Listed) → StmtsAt k q ns → BlockAt k q ns
block_at k q ns h =
    let x : Block-F Block StmtNode = record { nodes = h.ss } in
    let listed : block_list (roll-Block x) ≡ record { count = length (map stmt_list h.ss); nodes = joined (map stmt_list h.ss) }
    = fold-roll-Block BlockList (List Listed) block_list_step stmt_list_step x in
    let size : block_size (roll-Block x) ≡ sum (map stmt_size h.ss) = fold-roll-Block ℕ ℕ block_size_step stmt_size_step x in
    let depth : block_depth (roll-Block x)
    ≡ greatest (map stmt_depth h.ss) = fold-roll-Block ℕ ℕ block_depth_step stmt_depth_step x in
    record {
      b = roll-Block x;
      inside = ap (λ (z : Block-F Block StmtNode). length z.nodes) (out-roll-Block x) ∙ h.many;
      many = ap count_of listed ∙ length-map h.ss stmt_list ∙ h.many;
      list = ap nodes_of listed ∙ h.list;
      shaped = fold-roll-Block Bool Bool block_shaped_step stmt_shaped_step x ∙ h.shaped;
      size = size ∙ h.size;
      deep = omega (arith, depth, h.deep);
      few = fold-roll-Block Bool Bool block_few_step stmt_few_step x ∙ h.few;
    }

one_block_more : (c : ℕ) (cs : List ℕ) (q : Place) (first some : List Listed) → BlockAt c q first → BlocksAt cs q some
    → BlocksAt (c ∷ cs) q (first ++ some)
one_block_more c cs q first some one more =
    let total : sum (block_size one.b ∷ map block_size more.bs) ≡ block_size one.b + sum (map block_size more.bs) =
    sum_by-cons (λ n. n) (block_size one.b) (map block_size more.bs) in
    record {
      bs = one.b ∷ more.bs;
      many = λ i. one.many i ∷ more.many i;
      list = λ i. one.list i ++ more.list i;
      shaped = both_true (block_shaped one.b) (all_true (map block_shaped more.bs)) one.shaped more.shaped;
      size = omega (arith, total, one.size, more.size, length-append first some);
      deep = omega (arith, one.deep, more.deep);
      few = both_true (block_few one.b) (all_true (map block_few more.bs)) one.few more.few;
    }

pub split_places : (c : ℕ) (cs : List ℕ) (q : Place) (ps : List Place)
    → replicate (sum (c ∷ cs)) q ++ ps ≡ replicate c q ++ (replicate (sum cs) q ++ ps)
split_places c cs q ps =
    ap (λ (n : ℕ). replicate n q ++ ps) (sum_by-cons (λ n. n) c cs)
    ∙ ap (λ (qs : List Place). qs ++ ps) (sym (replicate-append-replicate c (sum cs) q))
    ∙ append_assoc (replicate c q) (replicate (sum cs) q) ps

blocks_stand : (cs : List ℕ) (q : Place) (ps : List Place) (ns : List Listed) → q.is_statement ≡ true → q.depth ≤ 1001
    → Stands (replicate (sum cs) q ++ ps) ns → Parts (BlocksAt cs q) (Stands ps) ns
blocks_stand [] q ps ns is low h = record {
  first = [];
  rest = ns;
  at_first = record { bs = []; many = refl; list = refl; shaped = refl; size = refl; deep = omega (arith, low); few = refl };
  at_rest = h;
  whole = refl;
}
blocks_stand (c ∷ cs) q ps ns is low h =
    let one = stmts_stand c q (replicate (sum cs) q ++ ps) ns is low
    (subst (λ (qs : List Place). Stands qs ns) (split_places c cs q ps) h) in
    let others = blocks_stand cs q ps one.rest is low one.at_rest in
    record {
      first = one.first ++ others.first;
      rest = others.rest;
      at_first = one_block_more c cs q one.first others.first (block_at c q one.first one.at_first) others.at_first;
      at_rest = others.at_rest;
      whole = regroup ns one.first one.rest others.first others.rest one.whole others.whole;
    }

-- A node with its kids and its blocks.

expr_at : (p : Place) (n : Listed) (ns : List Listed) → is_expression n.step.rule ≡ true → has_room n.step.rule p.rewrites ≡ true
    → n.counts ≡ []
    → ExprsAt (kids n.step.rule) (kid_place p n.step.rule) ns → ExprAt p (n ∷ ns)
expr_at p n ns is room counts h =
    let x : ExprNode-F ExprNode = record { step = n.step; kids = h.es } in
    let size : expr_size (roll-ExprNode x) ≡ 1 + sum (map expr_size h.es) = fold-roll-ExprNode ℕ expr_size_step x in
    let depth : expr_depth (roll-ExprNode x) ≡ greatest (map expr_depth h.es) + 1 = fold-roll-ExprNode ℕ expr_depth_step x in
    let many : length (map expr_shaped h.es) ≡ kids n.step.rule = length-map h.es expr_shaped ∙ h.many in
    record {
      e = roll-ExprNode x;
      list = fold-roll-ExprNode (List Listed) expr_list_step x
          ∙ (λ i. record { step = n.step; counts = sym counts i } ∷ h.list i);
      shaped = fold-roll-ExprNode Bool expr_shaped_step x
          ∙ both_true (is_expression n.step.rule)
          ((length (map expr_shaped h.es) == kids n.step.rule) && all_true (map expr_shaped h.es)) is
          (both_true (length (map expr_shaped h.es) == kids n.step.rule) (all_true (map expr_shaped h.es))
          (eq-eqb (length (map expr_shaped h.es)) (kids n.step.rule) many) h.shaped);
      size = omega (arith, size, h.size);
      deep = omega (arith, depth, h.deep);
      few = ap (λ (f : ℕ → Bool). f p.rewrites) (fold-roll-ExprNode (ℕ → Bool) expr_few_step x)
          ∙ both_true (has_room n.step.rule p.rewrites) (kids_few (around_kids n.step.rule p.rewrites) (map expr_few h.es)) room
          h.few;
    }

stmt_at : (p : Place) (n : Listed) (some more : List Listed) → not (is_expression n.step.rule) ≡ true
    → length n.counts ≡ blocks n.step.rule
    → ExprsAt (kids n.step.rule) (kid_place p n.step.rule) some → BlocksAt n.counts (block_place p) more
    → StmtAt p (n ∷ (some ++ more))
stmt_at p n some more is counts ks bs =
    let x : StmtNode-F Block StmtNode = record { step = n.step; kids = ks.es; blocks = bs.bs } in
    let total : sum (map expr_size ks.es) + 1 + sum (map block_size bs.bs) ≡ length (n ∷ (some ++ more)) =
    omega (arith, ks.size, bs.size, length-append some more) in
    let size : stmt_size (roll-StmtNode x) ≡ sum (map expr_size ks.es) + 1 + sum (map block_size bs.bs) =
    fold-roll-StmtNode ℕ ℕ block_size_step stmt_size_step x in
    let depth : stmt_depth (roll-StmtNode x) ≡ max (greatest (map expr_depth ks.es)) (greatest (map block_depth bs.bs)) + 1
    = fold-roll-StmtNode ℕ ℕ block_depth_step stmt_depth_step x in
    let many : length (map block_shaped bs.bs) ≡ blocks n.step.rule =
    length-map bs.bs block_shaped ∙ sym (length-map bs.bs block_list) ∙ sym (length-map (map block_list bs.bs) count_of)
    ∙ ap (λ (ms : List ℕ). length ms) bs.many ∙ counts in
    let around : around_kids n.step.rule p.rewrites ≡ 0 = statement_around n.step.rule p.rewrites is in
    record {
      n = roll-StmtNode x;
      list = fold-roll-StmtNode BlockList (List Listed) block_list_step stmt_list_step x
          ∙ (λ i. record { step = n.step; counts = bs.many i } ∷ (ks.list i ++ bs.list i));
      shaped = fold-roll-StmtNode Bool Bool block_shaped_step stmt_shaped_step x
          ∙ both_true (not (is_expression n.step.rule))
          ((length ks.es == kids n.step.rule)
          && ((length (map block_shaped bs.bs) == blocks n.step.rule)
          && (all_true (map expr_shaped ks.es) && all_true (map block_shaped bs.bs)))) is
          (both_true (length ks.es == kids n.step.rule)
          ((length (map block_shaped bs.bs) == blocks n.step.rule)
          && (all_true (map expr_shaped ks.es) && all_true (map block_shaped bs.bs)))
          (eq-eqb (length ks.es) (kids n.step.rule) ks.many)
          (both_true (length (map block_shaped bs.bs) == blocks n.step.rule)
          (all_true (map expr_shaped ks.es) && all_true (map block_shaped bs.bs))
          (eq-eqb (length (map block_shaped bs.bs)) (blocks n.step.rule) many)
          (both_true (all_true (map expr_shaped ks.es)) (all_true (map block_shaped bs.bs)) ks.shaped bs.shaped)));
      size = size ∙ total;
      deep = omega (arith, depth, ks.deep, bs.deep);
      few = fold-roll-StmtNode Bool Bool block_few_step stmt_few_step x
          ∙ both_true (kids_few 0 (map expr_few ks.es)) (all_true (map block_few bs.bs))
          (subst (λ (k : ℕ). kids_few k (map expr_few ks.es) ≡ true) around ks.few) bs.few;
    }

-- Each node of the list.

-- what a place that takes a node admits
pub record Admitted (p : Place) (r : Rule) : Type 0 where
  pub kind : is_of_kind p.is_statement r ≡ true
  pub depth : p.depth ≤ 1000
  pub room : has_room r p.rewrites ≡ true

tests_hold : (a b c : Bool) → (if a then (if b then c else false) else false) ≡ true → (a ≡ true) × (b ≡ true) × (c ≡ true)
tests_hold true true c h = (refl, refl, h)
tests_hold true false c h = absurd (cc)
tests_hold false b c h = absurd (cc)

pub admitted : (p : Place) (r : Rule) → admits p r ≡ true → Admitted p r
admitted p r h =
    let parts = tests_hold (is_of_kind p.is_statement r) (nat_le p.depth 1000) (has_room r p.rewrites) h in
    record { kind = parts.0; depth = leb-true p.depth 1000 parts.1; room = parts.2 }

none_of : {A : Type 0} (xs : List A) → length xs ≡ 0 → xs ≡ []
none_of [] h = refl
none_of (x ∷ xs) h = absurd (omega (arith, h))

called_apart : (p : Place) (n : Listed) (ps : List Place)
    → called_for p n ++ ps ≡ replicate (kids n.step.rule) (kid_place p n.step.rule)
    ++ (replicate (sum n.counts) (block_place p) ++ ps)
called_apart p n ps = append_assoc (replicate (kids n.step.rule) (kid_place p n.step.rule))
    (replicate (sum n.counts) (block_place p)) ps

tree_at : (b : Bool) (p : Place) (n : Listed) (ps : List Place) (ns : List Listed) → p.is_statement ≡ b → Admitted p n.step.rule
    → length n.counts ≡ blocks n.step.rule
    → Stands (called_for p n ++ ps) ns → Parts (TreeAt b p) (Stands ps) (n ∷ ns)
tree_at true p n ps ns is takes counts h =
    let kind : not (is_expression n.step.rule) ≡ true = subst (λ (b : Bool). is_of_kind b n.step.rule ≡ true) is takes.kind in
    let ks = exprs_stand (kids n.step.rule) (kid_place p n.step.rule) (replicate (sum n.counts) (block_place p) ++ ps) ns refl
    (omega (arith, takes.depth))
    (subst (λ (qs : List Place). Stands qs ns) (called_apart p n ps) h) in
    let bs = blocks_stand n.counts (block_place p) ps ks.rest refl (omega (arith, takes.depth)) ks.at_rest in
    record {
      first = n ∷ (ks.first ++ bs.first);
      rest = bs.rest;
      at_first = stmt_at p n ks.first bs.first kind counts ks.at_first bs.at_first;
      at_rest = bs.at_rest;
      whole = ap (λ (ms : List Listed). n ∷ ms) (regroup ns ks.first ks.rest bs.first bs.rest ks.whole bs.whole);
    }
tree_at false p n ps ns is takes counts h =
    let kind : is_expression n.step.rule ≡ true = subst (λ (b : Bool). is_of_kind b n.step.rule ≡ true) is takes.kind in
    let none : n.counts ≡ [] = none_of n.counts (counts ∙ expression_blocks n.step.rule kind) in
    let ks = exprs_stand (kids n.step.rule) (kid_place p n.step.rule) (replicate (sum n.counts) (block_place p) ++ ps) ns refl
    (omega (arith, takes.depth))
    (subst (λ (qs : List Place). Stands qs ns) (called_apart p n ps) h) in
    record {
      first = n ∷ ks.first;
      rest = ks.rest;
      at_first = expr_at p n ks.first kind takes.room none ks.at_first;
      at_rest = subst (λ (cs : List ℕ). Stands (replicate (sum cs) (block_place p) ++ ps) ks.rest) none ks.at_rest;
      whole = ap (λ (ms : List Listed). n ∷ ms) ks.whole;
    }

pub stands : (ns : List Listed) (ps : List Place) → Fills ns ps → Stands ps ns
stands [] ps h = subst (λ (qs : List Place). Stands qs []) (sym h) refl
stands (n ∷ ns) [] h = absurd h
stands (n ∷ ns) (p ∷ ps) h = tree_at p.is_statement p n ps ns refl (admitted p n.step.rule h.0) h.1
    (stands ns (called_for p n ++ ps) h.2)

-- the outer block
pub body_stands : (block : ℕ) (ns : List Listed) → Fills ns (replicate block outer_place) → BlockAt block outer_place ns
body_stands block ns h =
    let all : Stands (replicate block outer_place ++ []) ns =
    subst (λ (qs : List Place). Stands qs ns) (sym (append-nil (replicate block outer_place)))
    (stands ns (replicate block outer_place) h) in
    let parts = stmts_stand block outer_place [] ns refl (omega arith) all in
    let same : parts.first ≡ ns = sym (append-nil parts.first) ∙ ap (λ (ms : List Listed). parts.first ++ ms) (sym parts.at_rest)
    ∙ sym parts.whole in
    subst (λ (ms : List Listed). BlockAt block outer_place ms) same (block_at block outer_place parts.first parts.at_first)
