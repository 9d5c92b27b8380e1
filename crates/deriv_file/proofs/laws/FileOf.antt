-- From what the reader answers to the file of a derivation, and back.
use Rattle.std.proofs.Common.{◌≡◌, ℕ, suc, ◌≤◌, Bool, true, false, ◌&&◌, nat_le, codes, List, [], length, Option, Some, None}
use Rattle.std.proofs.Common.{option_and_then, Result, Ok, Err, IfOk, if◌then◌else◌, refl, sym, ◌∙◌, ap, subst, replicate}
use Rattle.std.proofs.Common.{leb-true, le-leb, arith}
use Rattle.std.proofs.lemmas.Bool.{and_parts}
use Rattle.std.proofs.lemmas.Option.{same_Some}
use Rattle.serde_json.specs.Data.{Data, Items, no_items, item}
use Rattle.serde_json.specs.Events.{items_len}
use Rattle.serde_json.specs.Find.{get, as_array, as_number, as_str, as_u64}
use Rattle.serde_json.specs.Read.{read}
use Rattle.std.specs.List.{list_all}
use Rattle.rup_base.specs.Answers.{and_then}
use Rattle.rup_base.specs.Name.{is_name, name_of}
use Rattle.rup_base.specs.declared.fail.Fail.{Fail}
use Rattle.rup_base.specs.declared.fail.Fail.TheVariants.{Refused, NoMemory}
use Rattle.rup_base.specs.declared.refusal.Refusal.{Refusal}
use Rattle.rup_base.specs.declared.refusal.Refusal.TheVariants.{NotDerivation, OverNodes}
use Rattle.deriv_tree.specs.declared.tree.Derivation.{Derivation}
use Rattle.deriv_tree.specs.declared.tree.Block.{Block, out-Block}
use Rattle.deriv_tree.specs.declared.listed.Listed.{Listed}
use Rattle.deriv_tree.specs.Shape.{IsWhole, block_shaped, most_nodes}
use Rattle.deriv_tree.specs.Measure.{block_size, block_depth}
use Rattle.deriv_tree.specs.Preorder.{preorder, block_list}
use Rattle.deriv_file.specs.Numbers.{only_if}
use Rattle.deriv_file.specs.NodeList.{nodes_of, all_nodes}
use Rattle.deriv_file.specs.Places.{outer_place}
use Rattle.deriv_file.specs.Forest.{body_of}
use Rattle.deriv_file.specs.Limits.{Within, block_few}
use Rattle.deriv_file.specs.File.{File, Gives, Reads, Reading, HasValue, IsValueOf, answer_of, derivation_of, derivation_of_parts}
use Rattle.deriv_file.specs.File.{derivation_of_nodes, or_header, has_four_members, block_of, version_of, model_of, member}
use Rattle.deriv_file.specs.File.{listed_nodes}
use Rattle.deriv_file.proofs.Filling.{came, only_if_is, listed_as, filled_fills, fills_filled}
use Rattle.deriv_file.specs.Ranges.{node_in_range}
use Rattle.deriv_file.proofs.Ranged.{nodes_ranged}
use Rattle.deriv_file.proofs.Standing.{BlockAt, body_stands}
use Rattle.deriv_file.proofs.Listing.{body_fills}
use Rattle.deriv_file.proofs.ReadBack.{body_back, block_back}

abbrev answer : {A : Type 0} → A → Result A Refusal
answer a = Ok a

ok_same : {A : Type 0} (a b : A) → answer a ≡ answer b → a ≡ b
ok_same a b h = cc

-- The entries.

found_items : (nodes : Data) (items : Items) (ns : List Listed) → as_array nodes ≡ Some items → all_nodes items ≡ Some ns
    → listed_nodes nodes ≡ Some ns
found_items nodes items ns h k = ap (option_and_then all_nodes) h ∙ k

all_nodes_length : (ds : Items) (ns : List Listed) → all_nodes ds ≡ Some ns → length ns ≡ items_len ds
all_nodes_length no_items ns h = ap (λ (ms : List Listed). length ms) (sym (same_Some [] ns h))
all_nodes_length (item d ds) ns h =
    let parts = listed_as d ds ns h in
    ap (λ (ms : List Listed). length ms) (sym parts.whole) ∙ ap suc (all_nodes_length ds parts.rest parts.nodes)

-- The tree of the list.

-- the outer block that is grown from a list
pub record Grown (block : ℕ) (ns : List Listed) (items : Items) : Type 0 where
  pub nodes : all_nodes items ≡ Some ns
  pub body : BlockAt block outer_place ns
  pub is : body_of block ns ≡ body.b

grown : (block : ℕ) (items : Items) (ns : List Listed) → nodes_of block items ≡ Ok ns → Grown block ns items
grown block items ns h =
    let all = filled_fills (items_len items) items 0 (replicate block outer_place) ns (omega arith) h in
    let at = body_stands block ns all.fills in
    let same : body_of block ns ≡ body_of (block_list at.b).count (block_list at.b).nodes =
    λ i. body_of (sym at.many i) (sym at.list i) in
    record { nodes = all.nodes; body = at; is = same ∙ body_back at.b at.shaped }

-- a block within the limits has as many nodes as its list
pub listed_size : (b : Block) → block_shaped b ≡ true → block_depth b ≤ 1000 → block_few b ≡ true
    → block_size b ≡ length (block_list b).nodes
listed_size b shaped low few =
    let count : ℕ = length (out-Block b).nodes in
    let ns : List Listed = (block_list b).nodes in
    let at = body_stands count ns (body_fills b shaped low few) in
    let here : body_of count ns ≡ at.b = (λ i. body_of (sym at.many i) (sym at.list i)) ∙ body_back at.b at.shaped in
    let there : body_of count ns ≡ b = ap (λ (k : ℕ). body_of k ns) (sym (block_back b).count) ∙ body_back b shaped in
    ap block_size (sym there ∙ here) ∙ at.size

-- The header.

record Has {A : Type 0} (o : Option A) (next : A → Result Derivation Refusal) (d : Derivation) : Type 0 where
  value : A
  is : o ≡ Some value
  gives : next value ≡ Ok d

has : {A : Type 0} (o : Option A) (next : A → Result Derivation Refusal) (d : Derivation) → or_header o next ≡ Ok d → Has o next d
has None next d h = absurd (cc)
has (Some a) next d h = record { value = a; is = refl; gives = h }

if_ok : (test : Bool) (r : Result Derivation Refusal) (f : Refusal) (d : Derivation) → (if test then r else Err f) ≡ Ok d
    → (test ≡ true) × (r ≡ Ok d)
if_ok true r f d h = (refl, h)
if_ok false r f d h = absurd (cc)

found : {A : Type 0} (o : Option Data) (test : Data → Option A) (x : Data) (a : A) → o ≡ Some x → test x ≡ Some a
    → option_and_then test o ≡ Some a
found o test x a h k = ap (option_and_then test) h ∙ k

is_one : (n m : ℕ) → only_if (nat_le 1 n && nat_le n 1) n ≡ Some m → m ≡ 1
is_one n m h =
    let parts = only_if_is (nat_le 1 n && nat_le n 1) n m h in
    let both = and_parts (nat_le 1 n) (nat_le n 1) parts.0 in
    omega (arith, leb-true 1 n both.0, leb-true n 1 both.1, parts.1)

version_one : (v : Data) (m : ℕ) → version_of v ≡ Some m → m ≡ 1
version_one v m h =
    let n = came (option_and_then as_u64 (as_number v)) (λ (k : ℕ). only_if (nat_le 1 k && nat_le k 1) k) m h in
    is_one n.value m n.gives

is_named : (test : Bool) (bytes name : List ℕ) → (if test then Some bytes else None) ≡ Some name → (test ≡ true) × (bytes ≡ name)
is_named true bytes name h = (refl, same_Some bytes name h)
is_named false bytes name h = absurd (cc)

model_named : (d : Data) (name : List ℕ) → model_of d ≡ Some name → is_name name ≡ true
model_named d name h =
    let text = came (as_str d) name_of name h in
    let parts = is_named (is_name text.value) text.value name text.gives in
    subst (λ (bytes : List ℕ). is_name bytes ≡ true) parts.1 parts.0

-- the parts of a value that has an answer
record Header (json : Data) (d : Derivation) : Type 0 where
  members : has_four_members json ≡ true
  count : ℕ
  name : List ℕ
  nodes : Data
  items : Items
  block_is : member (codes "block") block_of json ≡ Some count
  version_is : member (codes "deriv") version_of json ≡ Some 1
  model_is : member (codes "model") model_of json ≡ Some name
  named : is_name name ≡ true
  nodes_is : get (codes "nodes") json ≡ Some nodes
  items_are : as_array nodes ≡ Some items
  gives : derivation_of_nodes count name items ≡ Ok d

abbrev after_count : Data → Data → Data → ℕ → Result Derivation Refusal
after_count version model nodes count =
    or_header (version_of version)
    (λ _. or_header (model_of model) (λ name. or_header (as_array nodes) (λ items. derivation_of_nodes count name items)))

abbrev after_version : Data → Data → ℕ → Result Derivation Refusal
after_version model nodes count =
    or_header (model_of model) (λ name. or_header (as_array nodes) (λ items. derivation_of_nodes count name items))

abbrev after_model : Data → ℕ → List ℕ → Result Derivation Refusal
after_model nodes count name = or_header (as_array nodes) (λ items. derivation_of_nodes count name items)

header : (json : Data) (d : Derivation) → derivation_of json ≡ Ok d → Header json d
header json d h =
    let four = if_ok (has_four_members json)
    (or_header (get (codes "block") json) (λ (block : Data). or_header (get (codes "deriv") json) (λ (version : Data).
    or_header (get (codes "model") json)
    (λ (model : Data). or_header (get (codes "nodes") json)
    (λ (nodes : Data). derivation_of_parts block version model nodes)))))
    (NotDerivation None) d h in
    let block = has (get (codes "block") json) (λ (block : Data). or_header (get (codes "deriv") json) (λ (version : Data).
    or_header (get (codes "model") json)
    (λ (model : Data). or_header (get (codes "nodes") json)
    (λ (nodes : Data). derivation_of_parts block version model nodes)))) d four.1 in
    let version = has (get (codes "deriv") json) (λ (version : Data).
    or_header (get (codes "model") json)
    (λ (model : Data). or_header (get (codes "nodes") json)
    (λ (nodes : Data). derivation_of_parts block.value version model nodes))) d block.gives in
    let model = has (get (codes "model") json)
    (λ (model : Data). or_header (get (codes "nodes") json)
    (λ (nodes : Data). derivation_of_parts block.value version.value model nodes)) d version.gives in
    let nodes = has (get (codes "nodes") json) (λ (nodes : Data). derivation_of_parts block.value version.value model.value nodes)
    d model.gives in
    let count = has (block_of block.value) (after_count version.value model.value nodes.value) d nodes.gives in
    let one = has (version_of version.value) (λ (_ : ℕ). after_version model.value nodes.value count.value) d count.gives in
    let name = has (model_of model.value) (after_model nodes.value count.value) d one.gives in
    let items = has (as_array nodes.value) (λ (items : Items). derivation_of_nodes count.value name.value items) d name.gives in
    record {
      members = four.0;
      count = count.value;
      name = name.value;
      nodes = nodes.value;
      items = items.value;
      block_is = found (get (codes "block") json) block_of block.value count.value block.is count.is;
      version_is = found (get (codes "deriv") json) version_of version.value 1 version.is
          (one.is ∙ ap Some (version_one version.value one.value one.is));
      model_is = found (get (codes "model") json) model_of model.value name.value model.is name.is;
      named = model_named model.value name.value name.is;
      nodes_is = nodes.is;
      items_are = items.is;
      gives = items.gives;
    }

-- The tree within the limits.

within : (block : ℕ) (name : List ℕ) (ns : List Listed) (at : BlockAt block outer_place ns) → is_name name ≡ true
    → length ns ≤ most_nodes → list_all node_in_range ns ≡ true
    → Within (record { model = name; body = at.b })
within block name ns at named few ranged = record {
  name = named;
  whole = record { shaped = at.shaped; small = omega (arith, at.size, few) };
  shallow = omega (arith, at.deep);
  few = at.few;
  numbers = subst (λ (ms : List Listed). list_all node_in_range ms ≡ true) (sym at.list) ranged;
}

abbrev derivation : List ℕ → Block → Derivation
derivation name b = record { model = name; body = b }

grown_file : (bytes : List ℕ) (json : Data) (d : Derivation) (head : Header json d) (ns : List Listed) → HasValue bytes json
    → items_len head.items ≤ most_nodes
    → nodes_of head.count head.items ≡ Ok ns → File bytes (derivation head.name (body_of head.count ns))
grown_file bytes json d head ns value few h =
    let tree = grown head.count head.items ns h in
    subst (λ (b : Block). File bytes (derivation head.name b)) (sym tree.is)
    (record {
      json = json;
      value = value;
      members = head.members;
      block = head.block_is ∙ ap Some (sym tree.body.inside);
      version = head.version_is;
      model = head.model_is;
      nodes = found (get (codes "nodes") json) listed_nodes head.nodes ns head.nodes_is
          (found_items head.nodes head.items ns head.items_are tree.nodes) ∙ ap Some (sym tree.body.list);
      within = within head.count head.name ns tree.body head.named (omega (arith, few, all_nodes_length head.items ns tree.nodes))
          (nodes_ranged head.items ns tree.nodes);
    })

record Nodes (block : ℕ) (name : List ℕ) (items : Items) (d : Derivation) : Type 0 where
  few : items_len items ≤ most_nodes
  ns : List Listed
  nodes : nodes_of block items ≡ Ok ns
  is : derivation name (body_of block ns) ≡ d

nodes_parts : (block : ℕ) (name : List ℕ) (r : Result (List Listed) Refusal) (d : Derivation)
    → and_then r (λ (ns : List Listed). answer (derivation name (body_of block ns))) ≡ Ok d
    → (ns : List Listed) × (r ≡ Ok ns) × (derivation name (body_of block ns) ≡ d)
nodes_parts block name (Err f) d h = absurd (cc)
nodes_parts block name (Ok ns) d h = (ns, refl, ok_same (derivation name (body_of block ns)) d h)

nodes : (block : ℕ) (name : List ℕ) (items : Items) (d : Derivation) → derivation_of_nodes block name items ≡ Ok d
    → Nodes block name items d
nodes block name items d h =
    let short = if_ok (nat_le (items_len items) most_nodes)
    (and_then (nodes_of block items) (λ (ns : List Listed). answer (derivation name (body_of block ns))))
    (OverNodes (items_len items)) d h in
    let parts = nodes_parts block name (nodes_of block items) d short.1 in
    record { few = leb-true (items_len items) most_nodes short.0; ns = parts.0; nodes = parts.1; is = parts.2 }

-- a value's answer is a derivation of which the bytes are a file
answer_file : (bytes : List ℕ) (json : Data) (d : Derivation) → HasValue bytes json → derivation_of json ≡ Ok d → File bytes d
answer_file bytes json d value h =
    let head = header json d h in
    let tree = nodes head.count head.name head.items d head.gives in
    subst (λ (e : Derivation). File bytes e) tree.is (grown_file bytes json d head tree.ns value tree.few tree.nodes)

-- The way back.

header_gives : (json block version model nodes : Data) (count one : ℕ) (name : List ℕ) (items : Items)
    → has_four_members json ≡ true → get (codes "block") json ≡ Some block → get (codes "deriv") json ≡ Some version
    → get (codes "model") json ≡ Some model → get (codes "nodes") json ≡ Some nodes
    → block_of block ≡ Some count → version_of version ≡ Some one → model_of model ≡ Some name → as_array nodes ≡ Some items
    → derivation_of json ≡ derivation_of_nodes count name items
header_gives json block version model nodes count one name items four b v m n bs vs ms ns = rw (four, b, v, m, n, bs, vs, ms, ns)

nodes_give : (d : Derivation) (count : ℕ) (items : Items) (ns : List Listed) → items_len items ≤ most_nodes
    → nodes_of count items ≡ Ok ns → body_of count ns ≡ d.body
    → derivation_of_nodes count d.model items ≡ Ok d
nodes_give d count items ns few h body = rw (le-leb (items_len items) most_nodes few, h, body)

items_give : (d : Derivation) (items : Items) → Within d → all_nodes items ≡ Some (preorder d)
    → derivation_of_nodes (length (out-Block d.body).nodes) d.model items ≡ Ok d
items_give d items limits h =
    let count : ℕ = length (out-Block d.body).nodes in
    let fills = body_fills d.body limits.whole.shaped limits.shallow limits.few in
    let read : nodes_of count items
    ≡ Ok (preorder d) = fills_filled (items_len items) items 0 (replicate count outer_place) (preorder d) (omega arith) h
    fills in
    let body : body_of count (preorder d) ≡ d.body = ap (λ (k : ℕ). body_of k (preorder d)) (sym (block_back d.body).count)
    ∙ body_back d.body limits.whole.shaped in
    let size = listed_size d.body limits.whole.shaped limits.shallow limits.few in
    nodes_give d count items (preorder d) (omega (arith, size, limits.whole.small, all_nodes_length items (preorder d) h)) read
    body

file_answer : (bytes : List ℕ) (d : Derivation) (f : File bytes d) → derivation_of f.json ≡ Ok d
file_answer bytes d f =
    let block = came (get (codes "block") f.json) block_of (length (out-Block d.body).nodes) f.block in
    let version = came (get (codes "deriv") f.json) version_of 1 f.version in
    let model = came (get (codes "model") f.json) model_of d.model f.model in
    let nodes = came (get (codes "nodes") f.json) listed_nodes (preorder d) f.nodes in
    let items = came (as_array nodes.value) all_nodes (preorder d) nodes.gives in
    header_gives f.json block.value version.value model.value nodes.value (length (out-Block d.body).nodes) 1 d.model items.value
    f.members block.is version.is model.is nodes.is block.gives version.gives model.gives items.is
    ∙ items_give d items.value f.within items.gives

-- The answer of the bytes.

reading_file : (bytes : List ℕ) (json : Option Data) (d : Derivation) → IsValueOf bytes json → answer_of json ≡ Ok d
    → File bytes d
reading_file bytes None d value h = absurd (cc)
reading_file bytes (Some j) d value h = answer_file bytes j d value h

-- the result is a derivation of which the bytes are a file
pub reads_file : (bytes : List ℕ) (result : Result Derivation Fail) → Reads bytes result → IfOk result (λ d. File bytes d)
reads_file bytes (Ok d) h = reading_file bytes h.json d h.is_value h.answer_is
reads_file bytes (Err f) h = tt

pub reads_whole : (bytes : List ℕ) (result : Result Derivation Fail) → Reads bytes result → IfOk result (λ d. IsWhole d)
reads_whole bytes (Ok d) h = (reading_file bytes h.json d h.is_value h.answer_is).within.whole
reads_whole bytes (Err f) h = tt

same_answer : (bytes : List ℕ) (json : Option Data) (v : Data) → IsValueOf bytes json → HasValue bytes v
    → answer_of json ≡ derivation_of v
same_answer bytes None v is has = absurd (is v has)
same_answer bytes (Some j) v is has = ap derivation_of (same_Some j v (sym is.reads ∙ has.reads))

file_reading : (bytes : List ℕ) (answer : Result Derivation Refusal) (d : Derivation) → Reading bytes answer → File bytes d
    → answer ≡ Ok d
file_reading bytes answer d r f = sym r.answer_is ∙ same_answer bytes r.json f.json r.is_value f.value ∙ file_answer bytes d f

-- where the bytes are a file of a derivation, this is the result
pub reads_exact : (bytes : List ℕ) (result : Result Derivation Fail) → Reads bytes result → (d : Derivation) → File bytes d
    → Gives d result
reads_exact bytes (Ok e) h d f = ok_same e d (file_reading bytes (Ok e) d h f)
reads_exact bytes (Err NoMemory) h d f = tt
reads_exact bytes (Err (Refused r)) h d f = let is : Err r ≡ answer d = file_reading bytes (Err r) d h f in cc

-- bytes are a file of one derivation at most
pub file_is_one : (bytes : List ℕ) (d e : Derivation) → File bytes d → File bytes e → d ≡ e
file_is_one bytes d e f g =
    ok_same d e (sym (file_answer bytes d f) ∙ ap derivation_of (same_Some f.json g.json (sym f.value.reads ∙ g.value.reads))
    ∙ file_answer bytes e g)
