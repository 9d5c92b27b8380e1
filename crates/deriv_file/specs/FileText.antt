-- The text of a derivation's file: its value as JSON without spaces, and a line feed.
use Rattle.std.specs.Prelude.{ℕ, List, [], ◌∷◌, ◌++◌, map, length, codes, ℤ}
use Rattle.serde_json.specs.Data.{Data, string, number, array, object, unsigned, no_items, item, no_members, member}
use Rattle.serde_json.specs.Find.{of_integer}
use Rattle.serde_json.specs.View.{items_of}
use Rattle.serde_json.specs.Written.{compact_text}
use Rattle.side_certs.specs.declared.certificate.Cert.{Cert}
use Rattle.side_certs.specs.declared.certificate.Entry.{Entry}
use Rattle.deriv_tree.specs.declared.tree.Derivation.{Derivation}
use Rattle.deriv_tree.specs.declared.tree.Step.{Step}
use Rattle.deriv_tree.specs.declared.listed.Listed.{Listed}
use Rattle.deriv_tree.specs.declared.tree.Block.{out-Block}
use Rattle.deriv_tree.specs.Names.{name_of}
use Rattle.deriv_tree.specs.Preorder.{preorder}

abbrev pub whole : ℕ → Data
whole n = number (unsigned n)

abbrev pub integer : ℤ → Data
integer z = number (of_integer z)

-- an array of the values of a list's elements
abbrev pub array_of : {T : Type 0} → (T → Data) → List T → Data
array_of f xs = array (items_of (map f xs))

-- `[kind, number, multiplier]`
abbrev pub entry_data : Entry → Data
entry_data e = array (item (whole e.kind) (item (whole e.number) (item (whole e.mult) no_items)))

-- `[d, entries]`
abbrev pub cert_data : Cert → Data
cert_data c = array (item (whole c.d) (item (array_of entry_data c.entries) no_items))

-- `rule, args, certs`
abbrev pub step_parts : Step → List Data
step_parts s = string (name_of s.rule) ∷ array_of integer s.args ∷ array_of cert_data s.certs ∷ []

-- the fourth part of a node, where its rule has blocks
abbrev pub counts_part : List ℕ → List Data
counts_part [] = []
counts_part (count ∷ counts) = array_of whole (count ∷ counts) ∷ []

-- `[rule, args, certs]`, and the numbers of nodes of the blocks
abbrev pub node_data : Listed → Data
node_data n = array (items_of (step_parts n.step ++ counts_part n.counts))

-- the header with its four members, the version being 1
abbrev pub object_of : ℕ → Data → Data → Data
object_of block model nodes =
    object (member (codes "block") (whole block)
    (member (codes "deriv") (whole 1) (member (codes "model") model (member (codes "nodes") nodes no_members))))

-- the header, with the nodes in preorder
abbrev pub file_data : Derivation → Data
file_data d = object_of (length (out-Block d.body).nodes) (string d.model) (array_of node_data (preorder d))

abbrev pub text_of : Derivation → List ℕ
text_of d = compact_text (file_data d) ++ 10 ∷ []
