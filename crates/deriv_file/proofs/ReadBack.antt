-- The list of a whole tree gives back the tree.
use Rattle.std.proofs.Common.{◌≡◌, ℕ, ◌+◌, Bool, true, false, not, ◌&&◌, ◌==◌, List, [], ◌∷◌, ◌++◌, length, map, take, drop, sum}
use Rattle.std.proofs.Common.{refl, sym, ◌∙◌, ap, subst, append_assoc, length-append, eqb-true}
use Rattle.std.proofs.lemmas.Bool.{and_parts}
use Rattle.std.proofs.lemmas.List.{length-map}
use Rattle.std.proofs.Math.Seq.{take-append_seam, drop-append_seam}
use Rattle.std.proofs.lemmas.List.Sums.{sum_by-cons}
use Rattle.rup_base.specs.Gather.{joined, all_true}
use Rattle.deriv_tree.specs.declared.tree.ExprNode.{ExprNode, ExprNode-F, roll-ExprNode, map-ExprNode, ind-ExprNode}
use Rattle.deriv_tree.specs.declared.tree.ExprNode.{fold-roll-ExprNode}
use Rattle.deriv_tree.specs.declared.tree.StmtNode.{StmtNode, roll-StmtNode, map-StmtNode, fold-roll-StmtNode}
use Rattle.deriv_tree.specs.declared.tree.Block.{Block, roll-Block, out-Block, out-roll-Block, roll-out-Block, map-Block}
use Rattle.deriv_tree.specs.declared.tree.Block.{ind-Block, fold-roll-Block}
use Rattle.deriv_tree.specs.declared.tree.Block.TheOpen.{Block-F, StmtNode-F}
use Rattle.deriv_tree.specs.declared.listed.Listed.{Listed}
use Rattle.deriv_tree.specs.Shape.{is_expression, kids, blocks, expr_shaped, expr_shaped_step, stmt_shaped, stmt_shaped_step}
use Rattle.deriv_tree.specs.Shape.{block_shaped, block_shaped_step}
use Rattle.deriv_tree.specs.Preorder.{BlockList, expr_list, expr_list_step, stmt_list, stmt_list_step, block_list}
use Rattle.deriv_tree.specs.Preorder.{block_list_step, count_of, nodes_of}
use Rattle.deriv_file.specs.Forest.{Trees, no_trees, cut, grow, grow_expr, grow_stmt, grown, body_of}

pub grown_append : (ns ms : List Listed) (t : Trees) → grown (ns ++ ms) t ≡ grown ns (grown ms t)
grown_append [] ms t = refl
grown_append (n ∷ ns) ms t = ap (grow n) (grown_append ns ms t)

abbrev with_exprs : List ExprNode → Trees → Trees
with_exprs es t = record { exprs = es ++ t.exprs; stmts = t.stmts }

abbrev with_stmts : List StmtNode → Trees → Trees
with_stmts ns t = record { exprs = t.exprs; stmts = ns ++ t.stmts }

-- Expressions.

abbrev ExprBack : ExprNode → Type 0
ExprBack e = (t : Trees) → expr_shaped e ≡ true → grown (expr_list e) t ≡ with_exprs (e ∷ []) t

abbrev BackExpr : Type 0
BackExpr = (e : ExprNode) × ExprBack e

abbrev bare_exprs : List BackExpr → List ExprNode
bare_exprs ys = map (λ (y : BackExpr). y.0) ys

exprs_back : (ys : List BackExpr) (t : Trees) → all_true (map expr_shaped (bare_exprs ys)) ≡ true
    → grown (joined (map expr_list (bare_exprs ys))) t ≡ with_exprs (bare_exprs ys) t
exprs_back [] t h = refl
exprs_back (y ∷ ys) t h =
    let both = and_parts (expr_shaped y.0) (all_true (map expr_shaped (bare_exprs ys))) h in
    grown_append (expr_list y.0) (joined (map expr_list (bare_exprs ys))) t
    ∙ ap (grown (expr_list y.0)) (exprs_back ys t both.1)
    ∙ y.1 (with_exprs (bare_exprs ys) t) both.0

-- a node of expressions takes its kids
grows_expr : (n : Listed) (es : List ExprNode) (t : Trees) → is_expression n.step.rule ≡ true → length es ≡ kids n.step.rule
    → grow n (with_exprs es t) ≡ with_exprs (roll-ExprNode (record { step = n.step; kids = es }) ∷ []) t
grows_expr n es t is few =
    let front : take (kids n.step.rule) (es ++ t.exprs) ≡ es = rw (sym few) (take-append_seam es t.exprs) in
    let behind : drop (kids n.step.rule) (es ++ t.exprs) ≡ t.exprs = rw (sym few) (drop-append_seam es t.exprs) in
    let chosen : grow n (with_exprs es t) ≡ grow_expr n (with_exprs es t) = rw is in
    chosen ∙ rw (front, behind)

expr_back_step : (y : ExprNode-F BackExpr) → ExprBack (roll-ExprNode (map-ExprNode BackExpr ExprNode (λ e. e.0) y))
expr_back_step y t h =
    let x : ExprNode-F ExprNode = map-ExprNode BackExpr ExprNode (λ e. e.0) y in
    let shaped : expr_shaped_step (map-ExprNode ExprNode Bool expr_shaped x)
    ≡ true = sym (fold-roll-ExprNode Bool expr_shaped_step x) ∙ h in
    let one = and_parts (is_expression x.step.rule)
    ((length (map expr_shaped x.kids) == kids x.step.rule) && all_true (map expr_shaped x.kids)) shaped in
    let two = and_parts (length (map expr_shaped x.kids) == kids x.step.rule) (all_true (map expr_shaped x.kids)) one.1 in
    let few : length x.kids ≡ kids x.step.rule = sym (length-map x.kids expr_shaped)
    ∙ eqb-true (length (map expr_shaped x.kids)) (kids x.step.rule) two.0 in
    let n : Listed = record { step = x.step; counts = [] } in
    ap (λ (ns : List Listed). grown ns t) (fold-roll-ExprNode (List Listed) expr_list_step x)
    ∙ ap (grow n) (exprs_back y.kids t two.1)
    ∙ grows_expr n x.kids t one.0 few

pub expr_back : (e : ExprNode) → ExprBack e
expr_back = ind-ExprNode ExprBack (λ x y is. subst (λ z. ExprBack (roll-ExprNode z)) is (expr_back_step y))

all_exprs_back : (es : List ExprNode) (t : Trees) → all_true (map expr_shaped es) ≡ true
    → grown (joined (map expr_list es)) t ≡ with_exprs es t
all_exprs_back [] t h = refl
all_exprs_back (e ∷ es) t h =
    let both = and_parts (expr_shaped e) (all_true (map expr_shaped es)) h in
    grown_append (expr_list e) (joined (map expr_list es)) t
    ∙ ap (grown (expr_list e)) (all_exprs_back es t both.1)
    ∙ expr_back e (with_exprs es t) both.0

-- Statements and blocks.

abbrev inside : Block → List StmtNode
inside b = (out-Block b).nodes

abbrev StmtBack : StmtNode → Type 0
StmtBack n = (t : Trees) → stmt_shaped n ≡ true → grown (stmt_list n) t ≡ with_stmts (n ∷ []) t

pub record BlockBack (b : Block) : Type 0 where
  pub count : (block_list b).count ≡ length (inside b)
  pub back : (t : Trees) → block_shaped b ≡ true → grown (block_list b).nodes t ≡ with_stmts (inside b) t

abbrev BackStmt : Type 0
BackStmt = (n : StmtNode) × StmtBack n

abbrev BackBlock : Type 0
BackBlock = (b : Block) × BlockBack b

abbrev bare_stmts : List BackStmt → List StmtNode
bare_stmts ys = map (λ (y : BackStmt). y.0) ys

abbrev bare_blocks : List BackBlock → List Block
bare_blocks ys = map (λ (y : BackBlock). y.0) ys

stmts_back : (ys : List BackStmt) (t : Trees) → all_true (map stmt_shaped (bare_stmts ys)) ≡ true
    → grown (joined (map stmt_list (bare_stmts ys))) t ≡ with_stmts (bare_stmts ys) t
stmts_back [] t h = refl
stmts_back (y ∷ ys) t h =
    let both = and_parts (stmt_shaped y.0) (all_true (map stmt_shaped (bare_stmts ys))) h in
    grown_append (stmt_list y.0) (joined (map stmt_list (bare_stmts ys))) t
    ∙ ap (grown (stmt_list y.0)) (stmts_back ys t both.1)
    ∙ y.1 (with_stmts (bare_stmts ys) t) both.0

abbrev all_inside : List Block → List StmtNode
all_inside bs = joined (map inside bs)

abbrev with_all : List StmtNode → Trees → Trees
with_all ns t = record { exprs = t.exprs; stmts = ns }

blocks_back : (ys : List BackBlock) (t : Trees) → all_true (map block_shaped (bare_blocks ys)) ≡ true
    → grown (joined (map nodes_of (map block_list (bare_blocks ys)))) t ≡ with_stmts (all_inside (bare_blocks ys)) t
blocks_back [] t h = refl
blocks_back (y ∷ ys) t h =
    let both = and_parts (block_shaped y.0) (all_true (map block_shaped (bare_blocks ys))) h in
    grown_append (block_list y.0).nodes (joined (map nodes_of (map block_list (bare_blocks ys)))) t
    ∙ ap (grown (block_list y.0).nodes) (blocks_back ys t both.1)
    ∙ y.1.back (with_stmts (all_inside (bare_blocks ys)) t) both.0
    ∙ ap (λ (ns : List StmtNode). with_all ns t) (sym (append_assoc (inside y.0) (all_inside (bare_blocks ys)) t.stmts))

block_back_step : (y : Block-F BackBlock BackStmt)
    → BlockBack (roll-Block (map-Block BackBlock BackStmt Block StmtNode (λ b. b.0) (λ n. n.0) y))
block_back_step y =
    let x : Block-F Block StmtNode = map-Block BackBlock BackStmt Block StmtNode (λ b. b.0) (λ n. n.0) y in
    let listed : block_list (roll-Block x)
    ≡ block_list_step (map-Block Block StmtNode BlockList (List Listed) block_list stmt_list x)
    = fold-roll-Block BlockList (List Listed) block_list_step stmt_list_step x in
    record {
      count = ap count_of listed ∙ length-map x.nodes stmt_list
          ∙ sym (ap (λ (z : Block-F Block StmtNode). length z.nodes) (out-roll-Block x));
      back = λ t h.
          let shaped : all_true (map stmt_shaped x.nodes)
          ≡ true = sym (fold-roll-Block Bool Bool block_shaped_step stmt_shaped_step x) ∙ h in
          ap (λ (b : BlockList). grown b.nodes t) listed
          ∙ stmts_back y.nodes t shaped
          ∙ sym (ap (λ (z : Block-F Block StmtNode). with_stmts z.nodes t) (out-roll-Block x));
    }

abbrev length_inside : Block → ℕ
length_inside b = length (inside b)

counts_back : (ys : List BackBlock) → map count_of (map block_list (bare_blocks ys)) ≡ map length_inside (bare_blocks ys)
counts_back [] = refl
counts_back (y ∷ ys) = λ i. y.1.count i ∷ counts_back ys i

-- the blocks are those that were joined
cut_back : (bs : List Block) (rest : List StmtNode) → cut (map length_inside bs) (all_inside bs ++ rest) ≡ bs
cut_back [] rest = refl
cut_back (b ∷ bs) rest =
    let grouped : all_inside (b ∷ bs) ++ rest ≡ inside b ++ (all_inside bs ++ rest) = append_assoc (inside b) (all_inside bs) rest
    in
    let front : take (length_inside b) (inside b ++ (all_inside bs ++ rest))
    ≡ inside b = take-append_seam (inside b) (all_inside bs ++ rest) in
    let behind : drop (length_inside b) (inside b ++ (all_inside bs ++ rest))
    ≡ all_inside bs ++ rest = drop-append_seam (inside b) (all_inside bs ++ rest) in
    let first : roll-Block (record { nodes = take (length_inside b) (inside b ++ (all_inside bs ++ rest)) }) ≡ b =
    ap (λ (ns : List StmtNode). roll-Block (record { nodes = ns })) front ∙ roll-out-Block b in
    let others : cut (map length_inside bs) (drop (length_inside b) (inside b ++ (all_inside bs ++ rest))) ≡ bs =
    ap (cut (map length_inside bs)) behind ∙ cut_back bs rest in
    ap (cut (map length_inside (b ∷ bs))) grouped ∙ (λ i. first i ∷ others i)

all_lengths : (bs : List Block) → sum (map length_inside bs) ≡ length (all_inside bs)
all_lengths [] = refl
all_lengths (b ∷ bs) =
    sum_by-cons (λ n. n) (length_inside b) (map length_inside bs)
    ∙ ap (λ (n : ℕ). length_inside b + n) (all_lengths bs)
    ∙ sym (length-append (inside b) (all_inside bs))

cut_rest : (bs : List Block) (rest : List StmtNode) → drop (sum (map length_inside bs)) (all_inside bs ++ rest) ≡ rest
cut_rest bs rest = ap (λ (n : ℕ). drop n (all_inside bs ++ rest)) (all_lengths bs) ∙ drop-append_seam (all_inside bs) rest

-- a node of statements takes its kids and its blocks
grows_stmt : (n : Listed) (es : List ExprNode) (bs : List Block) (t : Trees)
    → is_expression n.step.rule ≡ false → length es ≡ kids n.step.rule → n.counts ≡ map length_inside bs
    → grow n (with_exprs es (with_stmts (all_inside bs) t))
    ≡ with_stmts (roll-StmtNode (record { step = n.step; kids = es; blocks = bs }) ∷ []) t
grows_stmt n es bs t is few counts =
    let front : take (kids n.step.rule) (es ++ t.exprs) ≡ es = rw (sym few) (take-append_seam es t.exprs) in
    let behind : drop (kids n.step.rule) (es ++ t.exprs) ≡ t.exprs = rw (sym few) (drop-append_seam es t.exprs) in
    let blocks : cut n.counts (all_inside bs ++ t.stmts) ≡ bs = rw counts (cut_back bs t.stmts) in
    let others : drop (sum n.counts) (all_inside bs ++ t.stmts) ≡ t.stmts = rw counts (cut_rest bs t.stmts) in
    let chosen : grow n (with_exprs es (with_stmts (all_inside bs) t))
    ≡ grow_stmt n (with_exprs es (with_stmts (all_inside bs) t)) = rw is in
    chosen ∙ (λ i. record {
      exprs = behind i;
      stmts = roll-StmtNode (record { step = n.step; kids = front i; blocks = blocks i }) ∷ others i;
    })

is_not : (b : Bool) → not b ≡ true → b ≡ false
is_not true h = absurd (cc)
is_not false h = refl

stmt_back_step : (y : StmtNode-F BackBlock BackStmt)
    → StmtBack (roll-StmtNode (map-StmtNode BackBlock BackStmt Block StmtNode (λ b. b.0) (λ n. n.0) y))
stmt_back_step y t h =
    let x : StmtNode-F Block StmtNode = map-StmtNode BackBlock BackStmt Block StmtNode (λ b. b.0) (λ n. n.0) y in
    let shaped : stmt_shaped_step (map-StmtNode Block StmtNode Bool Bool block_shaped stmt_shaped x) ≡ true =
    sym (fold-roll-StmtNode Bool Bool block_shaped_step stmt_shaped_step x) ∙ h in
    let one = and_parts (not (is_expression x.step.rule))
    ((length x.kids == kids x.step.rule)
    && ((length (map block_shaped x.blocks) == blocks x.step.rule)
    && (all_true (map expr_shaped x.kids) && all_true (map block_shaped x.blocks)))) shaped in
    let two = and_parts (length x.kids == kids x.step.rule)
    ((length (map block_shaped x.blocks) == blocks x.step.rule)
    && (all_true (map expr_shaped x.kids) && all_true (map block_shaped x.blocks))) one.1 in
    let three = and_parts (length (map block_shaped x.blocks) == blocks x.step.rule)
    (all_true (map expr_shaped x.kids) && all_true (map block_shaped x.blocks)) two.1 in
    let four = and_parts (all_true (map expr_shaped x.kids)) (all_true (map block_shaped x.blocks)) three.1 in
    let n : Listed = record { step = x.step; counts = map count_of (map block_list x.blocks) } in
    let kids_list : List Listed = joined (map expr_list x.kids) in
    let blocks_list : List Listed = joined (map nodes_of (map block_list x.blocks)) in
    ap (λ (ns : List Listed). grown ns t) (fold-roll-StmtNode BlockList (List Listed) block_list_step stmt_list_step x)
    ∙ ap (grow n) (grown_append kids_list blocks_list t ∙ ap (grown kids_list) (blocks_back y.blocks t four.1)
    ∙ all_exprs_back x.kids (with_stmts (all_inside x.blocks) t) four.0)
    ∙ grows_stmt n x.kids x.blocks t (is_not (is_expression x.step.rule) one.0)
    (eqb-true (length x.kids) (kids x.step.rule) two.0) (counts_back y.blocks)

pub block_back : (b : Block) → BlockBack b
block_back =
    ind-Block BlockBack StmtBack
    (λ x y is. subst (λ z. BlockBack (roll-Block z)) is (block_back_step y))
    (λ x y is. subst (λ z. StmtBack (roll-StmtNode z)) is (stmt_back_step y))

-- the outer block is grown from its list
pub body_back : (b : Block) → block_shaped b ≡ true → body_of (block_list b).count (block_list b).nodes ≡ b
body_back b h =
    let trees : grown (block_list b).nodes no_trees ≡ with_stmts (inside b) no_trees = (block_back b).back no_trees h in
    let front : take (length (inside b)) (inside b ++ []) ≡ inside b = take-append_seam (inside b) [] in
    ap (λ (c : ℕ). body_of c (block_list b).nodes) (block_back b).count
    ∙ ap (λ (t : Trees). roll-Block (record { nodes = take (length (inside b)) t.stmts })) trees
    ∙ ap (λ (ns : List StmtNode). roll-Block (record { nodes = ns })) front
    ∙ roll-out-Block b

-- a block's list counts its own nodes
pub list_count : (b : Block) → (block_list b).count ≡ length (out-Block b).nodes
list_count b = (block_back b).count
