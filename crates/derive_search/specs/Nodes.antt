-- The nodes of statements that the search makes, and what a statement is refused with.
use Rattle.std.specs.Prelude.{ℕ, ℤ, List, [], ◌∷◌, Result, Ok, Err}
use Rattle.rup_base.specs.declared.refusal.Refusal.{Refusal}
use Rattle.rup_base.specs.declared.refusal.Refusal.TheVariants.{Stuck}
use Rattle.rup_base.specs.declared.refusal.Goal.TheVariants as goal
use Rattle.side_certs.specs.declared.certificate.Cert.{Cert}
use Rattle.sym_heap.specs.Context.{Context}
use Rattle.deriv_tree.specs.declared.rule.Rule as deriv
use Rattle.deriv_tree.specs.declared.tree.ExprNode.{ExprNode}
use Rattle.deriv_tree.specs.declared.tree.StmtNode.{StmtNode, roll-StmtNode}
use Rattle.deriv_tree.specs.declared.tree.Block.{Block, roll-Block}
use Rattle.derive_search.specs.Words.{Seek, ◌>>=◌, give}

-- the refusal at a statement
abbrev pub stuck : ℕ → Refusal
stuck stmt = Stuck stmt goal.Stmt

-- a node with blocks of these nodes
abbrev pub node_with : deriv.Rule → List ℤ → List Cert → List ExprNode → List Block → StmtNode
node_with rule args certs kids blocks =
    roll-StmtNode (record { step = record { rule = rule; args = args; certs = certs }; kids = kids; blocks = blocks })

-- a node without blocks
abbrev pub node : deriv.Rule → List ℤ → List Cert → List ExprNode → StmtNode
node rule args certs kids = node_with rule args certs kids []

abbrev pub block : List StmtNode → Block
block nodes = roll-Block (record { nodes = nodes })

-- what a step of a rule comes to, where the rule gives something
abbrev pub ended : {A B : Type 0} → Refusal → B → Result (A × Context) Refusal → Result (B × Context) Refusal
ended refusal b (Ok p) = Ok (b, p.1)
ended refusal b (Err other) = Err refusal

-- what is found goes behind the nodes that were found before
abbrev pub Adds : Type 0
Adds = List StmtNode → Seek (List StmtNode)

-- one after another
abbrev pub in_order : List Adds → Adds
in_order [] done = give done
in_order (t ∷ ts) done = do
  nodes ← t done
  in_order ts nodes
