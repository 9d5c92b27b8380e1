-- The list of a tree within the limits fills the tree's places.
use Rattle.std.proofs.Common.{◌≡◌, ℕ, ◌+◌, ◌≤◌, Bool, true, false, not, ◌&&◌, ◌==◌, nat_le, max, List, [], ◌∷◌, ◌++◌, length, map}
use Rattle.std.proofs.Common.{sum, replicate, if◌then◌else◌, refl, sym, ◌∙◌, ap, subst, append_assoc, append-nil, le-leb}
use Rattle.std.proofs.Common.{eqb-true, arith}
use Rattle.std.proofs.lemmas.Bool.{and_parts}
use Rattle.std.proofs.lemmas.List.{length-map}
use Rattle.rup_base.specs.Gather.{joined, all_true, greatest}
use Rattle.deriv_tree.specs.declared.rule.Rule.{Rule}
use Rattle.deriv_tree.specs.declared.rule.Rule.TheVariants.{ERw}
use Rattle.deriv_tree.specs.declared.tree.ExprNode.{ExprNode, ExprNode-F, roll-ExprNode, map-ExprNode, ind-ExprNode}
use Rattle.deriv_tree.specs.declared.tree.ExprNode.{fold-roll-ExprNode}
use Rattle.deriv_tree.specs.declared.tree.StmtNode.{StmtNode, roll-StmtNode, map-StmtNode, fold-roll-StmtNode}
use Rattle.deriv_tree.specs.declared.tree.Block.{Block, roll-Block, out-Block, map-Block, ind-Block, fold-roll-Block}
use Rattle.deriv_tree.specs.declared.tree.Block.TheOpen.{Block-F, StmtNode-F}
use Rattle.deriv_tree.specs.declared.listed.Listed.{Listed}
use Rattle.deriv_tree.specs.Shape.{is_expression, kids, blocks, expr_shaped, expr_shaped_step, stmt_shaped, stmt_shaped_step}
use Rattle.deriv_tree.specs.Shape.{block_shaped, block_shaped_step}
use Rattle.deriv_tree.specs.Measure.{expr_depth, expr_depth_step, stmt_depth, stmt_depth_step, block_depth, block_depth_step}
use Rattle.deriv_tree.specs.Preorder.{BlockList, expr_list, expr_list_step, stmt_list, stmt_list_step, block_list}
use Rattle.deriv_tree.specs.Preorder.{block_list_step, count_of, nodes_of}
use Rattle.deriv_file.specs.declared.places.Place.{Place}
use Rattle.deriv_file.specs.Limits.{has_room, around_kids, kids_few, expr_few, expr_few_step, stmt_few, stmt_few_step, block_few}
use Rattle.deriv_file.specs.Limits.{block_few_step}
use Rattle.deriv_file.specs.Places.{is_of_kind, admits, kid_place, block_place, outer_place, called_for}
use Rattle.deriv_file.proofs.Filling.{Fills}
use Rattle.deriv_file.proofs.ReadBack.{block_back}
use Rattle.deriv_file.proofs.Standing.{expression_blocks, statement_around, split_places}

tests_true : (a b c : Bool) → a ≡ true → b ≡ true → c ≡ true → (if a then (if b then c else false) else false) ≡ true
tests_true a b c h k l = rw (h, k) l

admits_true : (p : Place) (r : Rule) → is_of_kind p.is_statement r ≡ true → p.depth ≤ 1000 → has_room r p.rewrites ≡ true
    → admits p r ≡ true
admits_true p r kind low room =
    tests_true (is_of_kind p.is_statement r) (nat_le p.depth 1000) (has_room r p.rewrites) kind (le-leb p.depth 1000 low) room

-- a statement is no rewrite
no_rewrite : (r : Rule) (above : ℕ) → not (is_expression r) ≡ true → has_room r above ≡ true
no_rewrite ERw above h = absurd (cc)
no_rewrite _ above h = refl

-- Expressions.

abbrev ExprIn : ExprNode → Type 0
ExprIn e = (p : Place) (rest : List Listed) (ps : List Place) → p.is_statement ≡ false → expr_shaped e ≡ true
    → p.depth + expr_depth e ≤ 1001 → expr_few e p.rewrites ≡ true
    → Fills rest ps → Fills (expr_list e ++ rest) (p ∷ ps)

abbrev InExpr : Type 0
InExpr = (e : ExprNode) × ExprIn e

abbrev bare_exprs : List InExpr → List ExprNode
bare_exprs ys = map (λ (y : InExpr). y.0) ys

exprs_in : (ys : List InExpr) (q : Place) (rest : List Listed) (ps : List Place) → q.is_statement ≡ false
    → all_true (map expr_shaped (bare_exprs ys)) ≡ true
    → q.depth + greatest (map expr_depth (bare_exprs ys)) ≤ 1001 → kids_few q.rewrites (map expr_few (bare_exprs ys)) ≡ true
    → Fills rest ps → Fills (joined (map expr_list (bare_exprs ys)) ++ rest) (replicate (length (bare_exprs ys)) q ++ ps)
exprs_in [] q rest ps is shaped low few h = h
exprs_in (y ∷ ys) q rest ps is shaped low few h =
    let shape = and_parts (expr_shaped y.0) (all_true (map expr_shaped (bare_exprs ys))) shaped in
    let room = and_parts (expr_few y.0 q.rewrites) (kids_few q.rewrites (map expr_few (bare_exprs ys))) few in
    let others : Fills (joined (map expr_list (bare_exprs ys)) ++ rest) (replicate (length (bare_exprs ys)) q ++ ps) =
    exprs_in ys q rest ps is shape.1 (omega (arith, low)) room.1 h in
    subst (λ (ns : List Listed). Fills ns (q ∷ (replicate (length (bare_exprs ys)) q ++ ps)))
    (sym (append_assoc (expr_list y.0) (joined (map expr_list (bare_exprs ys))) rest))
    (y.1 q (joined (map expr_list (bare_exprs ys)) ++ rest) (replicate (length (bare_exprs ys)) q ++ ps) is shape.0
    (omega (arith, low)) room.0 others)

expr_in_step : (y : ExprNode-F InExpr) → ExprIn (roll-ExprNode (map-ExprNode InExpr ExprNode (λ e. e.0) y))
expr_in_step y p rest ps is shaped low few h =
    let x : ExprNode-F ExprNode = map-ExprNode InExpr ExprNode (λ e. e.0) y in
    let shape : expr_shaped_step (map-ExprNode ExprNode Bool expr_shaped x)
    ≡ true = sym (fold-roll-ExprNode Bool expr_shaped_step x) ∙ shaped in
    let one = and_parts (is_expression x.step.rule)
    ((length (map expr_shaped x.kids) == kids x.step.rule) && all_true (map expr_shaped x.kids)) shape in
    let two = and_parts (length (map expr_shaped x.kids) == kids x.step.rule) (all_true (map expr_shaped x.kids)) one.1 in
    let many : length x.kids ≡ kids x.step.rule = sym (length-map x.kids expr_shaped)
    ∙ eqb-true (length (map expr_shaped x.kids)) (kids x.step.rule) two.0 in
    let depth : expr_depth (roll-ExprNode x) ≡ greatest (map expr_depth x.kids) + 1 = fold-roll-ExprNode ℕ expr_depth_step x in
    let room_here : (has_room x.step.rule p.rewrites && kids_few (around_kids x.step.rule p.rewrites) (map expr_few x.kids))
    ≡ true =
    sym (ap (λ (f : ℕ → Bool). f p.rewrites) (fold-roll-ExprNode (ℕ → Bool) expr_few_step x)) ∙ few in
    let room = and_parts (has_room x.step.rule p.rewrites) (kids_few (around_kids x.step.rule p.rewrites) (map expr_few x.kids))
    room_here in
    let n : Listed = record { step = x.step; counts = [] } in
    let kind : is_of_kind p.is_statement x.step.rule ≡ true = subst (λ (b : Bool). is_of_kind b x.step.rule ≡ true) (sym is) one.0
    in
    let inside : Fills (joined (map expr_list x.kids) ++ rest) (replicate (length x.kids) (kid_place p x.step.rule) ++ ps) =
    exprs_in y.kids (kid_place p x.step.rule) rest ps refl two.1 (omega (arith, low, depth)) room.1 h in
    let places : replicate (length x.kids) (kid_place p x.step.rule) ++ ps ≡ called_for p n ++ ps =
    ap (λ (k : ℕ). replicate k (kid_place p x.step.rule) ++ ps) many
    ∙ ap (λ (qs : List Place). qs ++ ps) (sym (append-nil (replicate (kids x.step.rule) (kid_place p x.step.rule)))) in
    subst (λ (ns : List Listed). Fills (ns ++ rest) (p ∷ ps)) (sym (fold-roll-ExprNode (List Listed) expr_list_step x)) (
      admits_true p x.step.rule kind (omega (arith, low, depth)) room.0,
      sym (expression_blocks x.step.rule one.0),
      subst (λ (qs : List Place). Fills (joined (map expr_list x.kids) ++ rest) qs) places inside,
    )

expr_in : (e : ExprNode) → ExprIn e
expr_in = ind-ExprNode ExprIn (λ x y is. subst (λ z. ExprIn (roll-ExprNode z)) is (expr_in_step y))

all_exprs_in : (es : List ExprNode) (q : Place) (rest : List Listed) (ps : List Place) → q.is_statement ≡ false
    → all_true (map expr_shaped es) ≡ true
    → q.depth + greatest (map expr_depth es) ≤ 1001 → kids_few q.rewrites (map expr_few es) ≡ true
    → Fills rest ps → Fills (joined (map expr_list es) ++ rest) (replicate (length es) q ++ ps)
all_exprs_in [] q rest ps is shaped low few h = h
all_exprs_in (e ∷ es) q rest ps is shaped low few h =
    let shape = and_parts (expr_shaped e) (all_true (map expr_shaped es)) shaped in
    let room = and_parts (expr_few e q.rewrites) (kids_few q.rewrites (map expr_few es)) few in
    let others : Fills (joined (map expr_list es) ++ rest) (replicate (length es) q ++ ps) =
    all_exprs_in es q rest ps is shape.1 (omega (arith, low)) room.1 h in
    subst (λ (ns : List Listed). Fills ns (q ∷ (replicate (length es) q ++ ps)))
    (sym (append_assoc (expr_list e) (joined (map expr_list es)) rest))
    (expr_in e q (joined (map expr_list es) ++ rest) (replicate (length es) q ++ ps) is shape.0 (omega (arith, low)) room.0
    others)

-- Statements and blocks.

abbrev inside_of : Block → List StmtNode
inside_of b = (out-Block b).nodes

abbrev StmtIn : StmtNode → Type 0
StmtIn n = (p : Place) (rest : List Listed) (ps : List Place) → p.is_statement ≡ true → stmt_shaped n ≡ true
    → p.depth + stmt_depth n ≤ 1001 → stmt_few n ≡ true
    → Fills rest ps → Fills (stmt_list n ++ rest) (p ∷ ps)

abbrev BlockIn : Block → Type 0
BlockIn b = (q : Place) (rest : List Listed) (ps : List Place) → q.is_statement ≡ true → block_shaped b ≡ true
    → q.depth + block_depth b ≤ 1001 → block_few b ≡ true
    → Fills rest ps → Fills ((block_list b).nodes ++ rest) (replicate (block_list b).count q ++ ps)

abbrev InStmt : Type 0
InStmt = (n : StmtNode) × StmtIn n

abbrev InBlock : Type 0
InBlock = (b : Block) × BlockIn b

abbrev bare_stmts : List InStmt → List StmtNode
bare_stmts ys = map (λ (y : InStmt). y.0) ys

abbrev bare_blocks : List InBlock → List Block
bare_blocks ys = map (λ (y : InBlock). y.0) ys

stmts_in : (ys : List InStmt) (q : Place) (rest : List Listed) (ps : List Place) → q.is_statement ≡ true
    → all_true (map stmt_shaped (bare_stmts ys)) ≡ true
    → q.depth + greatest (map stmt_depth (bare_stmts ys)) ≤ 1001 → all_true (map stmt_few (bare_stmts ys)) ≡ true
    → Fills rest ps → Fills (joined (map stmt_list (bare_stmts ys)) ++ rest) (replicate (length (bare_stmts ys)) q ++ ps)
stmts_in [] q rest ps is shaped low few h = h
stmts_in (y ∷ ys) q rest ps is shaped low few h =
    let shape = and_parts (stmt_shaped y.0) (all_true (map stmt_shaped (bare_stmts ys))) shaped in
    let room = and_parts (stmt_few y.0) (all_true (map stmt_few (bare_stmts ys))) few in
    let others : Fills (joined (map stmt_list (bare_stmts ys)) ++ rest) (replicate (length (bare_stmts ys)) q ++ ps) =
    stmts_in ys q rest ps is shape.1 (omega (arith, low)) room.1 h in
    subst (λ (ns : List Listed). Fills ns (q ∷ (replicate (length (bare_stmts ys)) q ++ ps)))
    (sym (append_assoc (stmt_list y.0) (joined (map stmt_list (bare_stmts ys))) rest))
    (y.1 q (joined (map stmt_list (bare_stmts ys)) ++ rest) (replicate (length (bare_stmts ys)) q ++ ps) is shape.0
    (omega (arith, low)) room.0 others)

block_in_step : (y : Block-F InBlock InStmt)
    → BlockIn (roll-Block (map-Block InBlock InStmt Block StmtNode (λ b. b.0) (λ n. n.0) y))
block_in_step y q rest ps is shaped low few h =
    let x : Block-F Block StmtNode = map-Block InBlock InStmt Block StmtNode (λ b. b.0) (λ n. n.0) y in
    let listed : block_list (roll-Block x)
    ≡ record { count = length (map stmt_list x.nodes); nodes = joined (map stmt_list x.nodes) }
    = fold-roll-Block BlockList (List Listed) block_list_step stmt_list_step x in
    let shape : all_true (map stmt_shaped x.nodes) ≡ true = sym (fold-roll-Block Bool Bool block_shaped_step stmt_shaped_step x)
    ∙ shaped in
    let room : all_true (map stmt_few x.nodes) ≡ true = sym (fold-roll-Block Bool Bool block_few_step stmt_few_step x) ∙ few in
    let depth : block_depth (roll-Block x) ≡ greatest (map stmt_depth x.nodes) =
    fold-roll-Block ℕ ℕ block_depth_step stmt_depth_step x in
    subst (λ (b : BlockList). Fills (b.nodes ++ rest) (replicate b.count q ++ ps)) (sym listed)
    (subst (λ (k : ℕ). Fills (joined (map stmt_list x.nodes) ++ rest) (replicate k q ++ ps)) (sym (length-map x.nodes stmt_list))
    (stmts_in y.nodes q rest ps is shape (omega (arith, low, depth)) room h))

blocks_in : (ys : List InBlock) (q : Place) (rest : List Listed) (ps : List Place) → q.is_statement ≡ true
    → all_true (map block_shaped (bare_blocks ys)) ≡ true
    → q.depth + greatest (map block_depth (bare_blocks ys)) ≤ 1001 → all_true (map block_few (bare_blocks ys)) ≡ true
    → Fills rest ps → Fills (joined (map nodes_of (map block_list (bare_blocks ys))) ++ rest)
    (replicate (sum (map count_of (map block_list (bare_blocks ys)))) q ++ ps)
blocks_in [] q rest ps is shaped low few h = h
blocks_in (y ∷ ys) q rest ps is shaped low few h =
    let shape = and_parts (block_shaped y.0) (all_true (map block_shaped (bare_blocks ys))) shaped in
    let room = and_parts (block_few y.0) (all_true (map block_few (bare_blocks ys))) few in
    let counts : List ℕ = map count_of (map block_list (bare_blocks ys)) in
    let nodes : List Listed = joined (map nodes_of (map block_list (bare_blocks ys))) in
    let others : Fills (nodes ++ rest) (replicate (sum counts) q ++ ps) =
    blocks_in ys q rest ps is shape.1 (omega (arith, low)) room.1 h in
    subst (λ (qs : List Place). Fills (((block_list y.0).nodes ++ nodes) ++ rest) qs)
    (sym (split_places (block_list y.0).count counts q ps))
    (subst (λ (ns : List Listed). Fills ns (replicate (block_list y.0).count q ++ (replicate (sum counts) q ++ ps)))
    (sym (append_assoc (block_list y.0).nodes nodes rest))
    (y.1 q (nodes ++ rest) (replicate (sum counts) q ++ ps) is shape.0 (omega (arith, low)) room.0 others))

stmt_in_step : (y : StmtNode-F InBlock InStmt)
    → StmtIn (roll-StmtNode (map-StmtNode InBlock InStmt Block StmtNode (λ b. b.0) (λ n. n.0) y))
stmt_in_step y p rest ps is shaped low few h =
    let x : StmtNode-F Block StmtNode = map-StmtNode InBlock InStmt Block StmtNode (λ b. b.0) (λ n. n.0) y in
    let shape : stmt_shaped_step (map-StmtNode Block StmtNode Bool Bool block_shaped stmt_shaped x) ≡ true =
    sym (fold-roll-StmtNode Bool Bool block_shaped_step stmt_shaped_step x) ∙ shaped in
    let one = and_parts (not (is_expression x.step.rule))
    ((length x.kids == kids x.step.rule)
    && ((length (map block_shaped x.blocks) == blocks x.step.rule)
    && (all_true (map expr_shaped x.kids) && all_true (map block_shaped x.blocks)))) shape in
    let two = and_parts (length x.kids == kids x.step.rule)
    ((length (map block_shaped x.blocks) == blocks x.step.rule)
    && (all_true (map expr_shaped x.kids) && all_true (map block_shaped x.blocks))) one.1 in
    let three = and_parts (length (map block_shaped x.blocks) == blocks x.step.rule)
    (all_true (map expr_shaped x.kids) && all_true (map block_shaped x.blocks)) two.1 in
    let four = and_parts (all_true (map expr_shaped x.kids)) (all_true (map block_shaped x.blocks)) three.1 in
    let kids_many : length x.kids ≡ kids x.step.rule = eqb-true (length x.kids) (kids x.step.rule) two.0 in
    let blocks_many : length (map count_of (map block_list x.blocks)) ≡ blocks x.step.rule =
    length-map (map block_list x.blocks) count_of ∙ length-map x.blocks block_list ∙ sym (length-map x.blocks block_shaped)
    ∙ eqb-true (length (map block_shaped x.blocks)) (blocks x.step.rule) three.0 in
    let depth : stmt_depth (roll-StmtNode x) ≡ max (greatest (map expr_depth x.kids)) (greatest (map block_depth x.blocks)) + 1
    = fold-roll-StmtNode ℕ ℕ block_depth_step stmt_depth_step x in
    let room = and_parts (kids_few 0 (map expr_few x.kids)) (all_true (map block_few x.blocks))
    (sym (fold-roll-StmtNode Bool Bool block_few_step stmt_few_step x) ∙ few) in
    let room_kids : kids_few (around_kids x.step.rule p.rewrites) (map expr_few x.kids) ≡ true =
    subst (λ (k : ℕ). kids_few k (map expr_few x.kids) ≡ true) (sym (statement_around x.step.rule p.rewrites one.0)) room.0 in
    let n : Listed = record { step = x.step; counts = map count_of (map block_list x.blocks) } in
    let nodes : List Listed = joined (map nodes_of (map block_list x.blocks)) in
    let kind : is_of_kind p.is_statement x.step.rule ≡ true = subst (λ (b : Bool). is_of_kind b x.step.rule ≡ true) (sym is) one.0
    in
    let in_blocks : Fills (nodes ++ rest) (replicate (sum n.counts) (block_place p) ++ ps) =
    blocks_in y.blocks (block_place p) rest ps refl four.1 (omega (arith, low, depth)) room.1 h in
    let in_kids : Fills (joined (map expr_list x.kids) ++ (nodes ++ rest))
    (replicate (length x.kids) (kid_place p x.step.rule) ++ (replicate (sum n.counts) (block_place p) ++ ps)) =
    all_exprs_in x.kids (kid_place p x.step.rule) (nodes ++ rest) (replicate (sum n.counts) (block_place p) ++ ps) refl four.0
    (omega (arith, low, depth)) room_kids in_blocks in
    let places : replicate (length x.kids) (kid_place p x.step.rule) ++ (replicate (sum n.counts) (block_place p) ++ ps)
    ≡ called_for p n ++ ps =
    ap (λ (k : ℕ). replicate k (kid_place p x.step.rule) ++ (replicate (sum n.counts) (block_place p) ++ ps)) kids_many
    ∙ sym (append_assoc (replicate (kids x.step.rule) (kid_place p x.step.rule)) (replicate (sum n.counts) (block_place p)) ps) in
    subst (λ (ns : List Listed). Fills (ns ++ rest) (p ∷ ps))
    (sym (fold-roll-StmtNode BlockList (List Listed) block_list_step stmt_list_step x)) (
      admits_true p x.step.rule kind (omega (arith, low, depth)) (no_rewrite x.step.rule p.rewrites one.0),
      blocks_many,
      subst (λ (ns : List Listed). Fills ns (called_for p n ++ ps))
          (sym (append_assoc (joined (map expr_list x.kids)) nodes rest))
          (subst (λ (qs : List Place). Fills (joined (map expr_list x.kids) ++ (nodes ++ rest)) qs) places in_kids),
    )

block_in : (b : Block) → BlockIn b
block_in =
    ind-Block BlockIn StmtIn
    (λ x y is. subst (λ z. BlockIn (roll-Block z)) is (block_in_step y))
    (λ x y is. subst (λ z. StmtIn (roll-StmtNode z)) is (stmt_in_step y))

-- the list of an outer block fills its places
pub body_fills : (b : Block) → block_shaped b ≡ true → block_depth b ≤ 1000 → block_few b ≡ true
    → Fills (block_list b).nodes (replicate (length (inside_of b)) outer_place)
body_fills b shaped low few =
    let all : Fills ((block_list b).nodes ++ []) (replicate (block_list b).count outer_place ++ []) =
    block_in b outer_place [] [] refl shaped (omega (arith, low)) few refl in
    let nodes : Fills (block_list b).nodes (replicate (block_list b).count outer_place ++ []) =
    subst (λ (ns : List Listed). Fills ns (replicate (block_list b).count outer_place ++ [])) (append-nil (block_list b).nodes)
    all in
    subst (λ (k : ℕ). Fills (block_list b).nodes (replicate k outer_place)) (block_back b).count
    (subst (λ (qs : List Place). Fills (block_list b).nodes qs) (append-nil (replicate (block_list b).count outer_place)) nodes)
