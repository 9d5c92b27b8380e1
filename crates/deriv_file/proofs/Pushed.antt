-- What stands in a list of values behind a statement's node and its kids.
use Rattle.std.proofs.Common.{◌≡◌, List, [], ◌∷◌, ◌++◌, map, sym, ◌∙◌, ap, append_assoc}
use Rattle.std.proofs.lemmas.List.{map-append}
use Rattle.serde_json.specs.Data.{Data}
use Rattle.serde_json.specs.View.{view}
use Rattle.serde_json.specs.declared.value.Value.{Value}
use Rattle.rup_base.specs.Gather.{joined}
use Rattle.deriv_tree.specs.declared.tree.ExprNode.{ExprNode}
use Rattle.deriv_tree.specs.declared.tree.StmtNode.{StmtNode, out-StmtNode, roll-out-StmtNode, fold-roll-StmtNode}
use Rattle.deriv_tree.specs.declared.tree.Block.{Block}
use Rattle.deriv_tree.specs.declared.listed.Listed.{Listed}
use Rattle.deriv_tree.specs.Preorder.{BlockList, expr_list, stmt_list, stmt_list_step, block_list, block_list_step, count_of}
use Rattle.deriv_tree.specs.Preorder.{nodes_of}
use Rattle.deriv_file.specs.FileText.{node_data}

-- a statement's list: its node, its kids' nodes, its blocks' nodes
stmt_list_parts : (n : StmtNode) → stmt_list n
    ≡ record { step = (out-StmtNode n).step; counts = map count_of (map block_list (out-StmtNode n).blocks) }
    ∷ (joined (map expr_list (out-StmtNode n).kids) ++ joined (map nodes_of (map block_list (out-StmtNode n).blocks)))
stmt_list_parts n = ap stmt_list (sym (roll-out-StmtNode n))
    ∙ fold-roll-StmtNode BlockList (List Listed) block_list_step stmt_list_step (out-StmtNode n)

in_three : (f : Listed → Data) (old : List Data) (n : Listed) (kids blocks : List Listed)
    → ((old ++ f n ∷ []) ++ map f kids) ++ map f blocks ≡ old ++ map f (n ∷ (kids ++ blocks))
in_three f old n kids blocks =
    append_assoc (old ++ f n ∷ []) (map f kids) (map f blocks)
    ∙ append_assoc old (f n ∷ []) (map f kids ++ map f blocks)
    ∙ ap (λ (ds : List Data). old ++ (f n ∷ ds)) (sym (map-append f kids blocks))

pub stmt_pushed : (n : StmtNode) (old pushed done : List Value) (v : Value) (counted blocks : List Block) (kids : List ExprNode)
    → counted ≡ (out-StmtNode n).blocks → blocks ≡ (out-StmtNode n).blocks → kids ≡ (out-StmtNode n).kids
    → view v ≡ node_data (record { step = (out-StmtNode n).step; counts = map count_of (map block_list counted) })
    → pushed ≡ old ++ v ∷ []
    → map view done ≡ map view pushed ++ map node_data (joined (map expr_list kids))
    → map view done ++ map node_data (joined (map nodes_of (map block_list blocks))) ≡ map view old ++ map node_data (stmt_list n)
stmt_pushed n old pushed done v counted blocks kids cs bs ks node first then_kids =
    let head : Listed = record { step = (out-StmtNode n).step; counts = map count_of (map block_list (out-StmtNode n).blocks) } in
    let kids_list : List Listed = joined (map expr_list (out-StmtNode n).kids) in
    let blocks_list : List Listed = joined (map nodes_of (map block_list (out-StmtNode n).blocks)) in
    let one : view v ≡ node_data head =
    node ∙ ap (λ (xs : List Block).
    node_data (record { step = (out-StmtNode n).step; counts = map count_of (map block_list xs) })) cs in
    let start : map view pushed ≡ map view old ++ node_data head ∷ [] =
    ap (map view) first ∙ map-append view old (v ∷ []) ∙ ap (λ (d : Data). map view old ++ d ∷ []) one in
    let all : map view done ≡ (map view old ++ node_data head ∷ []) ++ map node_data kids_list =
    then_kids ∙ (λ i. start i ++ map node_data (joined (map expr_list (ks i)))) in
    (λ i. all i ++ map node_data (joined (map nodes_of (map block_list (bs i)))))
    ∙ in_three node_data (map view old) head kids_list blocks_list
    ∙ ap (λ (ns : List Listed). map view old ++ map node_data ns) (sym (stmt_list_parts n))
