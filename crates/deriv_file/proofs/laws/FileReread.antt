-- The text of a derivation within the limits is its file.
use Rattle.std.proofs.Common.{◌≡◌, ℕ, suc, ◌+◌, ◌<◌, ◌≤◌, ◌^◌, Bool, true, false, ◌&&◌, nat_le, ℤ, pos, negsuc, List, [], ◌∷◌}
use Rattle.std.proofs.Common.{◌++◌, length, map, sum, replicate, IsUtf8, codes, refl, leb-true, le-leb, length-append, arith}
use Rattle.std.proofs.lemmas.Bool.{and_parts}
use Rattle.std.specs.List.{list_all}
use Rattle.std.proofs.lemmas.List.{length-replicate}
use Rattle.std.proofs.lemmas.Str.{IsUtf8-append}
use Rattle.json.specs.Print.{quoted}
use Rattle.json.proofs.Printed.Utf8.{are_ascii, IsUtf8-are_ascii, IsUtf8-quoted}
use Rattle.serde_json.specs.Data.{Data, string, object, Members, no_members, member}
use Rattle.serde_json.specs.Written.{compact_text, members_text, comma_if}
use Rattle.side_certs.specs.declared.certificate.Cert.{Cert}
use Rattle.side_certs.specs.declared.certificate.Entry.{Entry}
use Rattle.deriv_tree.specs.declared.rule.Rule.{Rule}
use Rattle.deriv_tree.specs.declared.rule.Rule.TheVariants.{ELit}
use Rattle.deriv_tree.specs.declared.tree.Step.{Step}
use Rattle.deriv_tree.specs.declared.tree.Block.{out-Block}
use Rattle.deriv_tree.specs.declared.tree.Derivation.{Derivation}
use Rattle.deriv_tree.specs.declared.listed.Listed.{Listed}
use Rattle.deriv_tree.specs.Names.{name_of}
use Rattle.deriv_tree.specs.Preorder.{preorder}
use Rattle.deriv_file.specs.declared.places.Place.{Place}
use Rattle.deriv_file.specs.Places.{called_for, outer_place}
use Rattle.deriv_file.specs.Limits.{Within}
use Rattle.deriv_file.specs.Ranges.{argument_in_range, entry_in_range, cert_in_range, node_in_range}
use Rattle.deriv_file.specs.FileText.{whole, integer, array_of, entry_data, cert_data, step_parts, counts_part, node_data}
use Rattle.deriv_file.specs.FileText.{file_data, text_of}
use Rattle.deriv_file.specs.File.{File}
use Rattle.deriv_file.proofs.Filling.{Fills}
use Rattle.deriv_file.proofs.laws.FileOf.{listed_size}
use Rattle.deriv_file.proofs.Listing.{body_fills}
use Rattle.deriv_file.proofs.NamesAscii.{name_utf8}
use Rattle.deriv_file.proofs.NodeReread.{number_back, nodes_back, fills_room, sum_room, count_in_range}
use Rattle.deriv_file.proofs.Runs.{length-called_for}
use Rattle.deriv_file.proofs.ValueReread.{Reread, AllReread, whole_reread, integer_reread, string_reread, array_reread, deeper}
use Rattle.deriv_file.proofs.ValueReread.{text_reread, comma_utf8}

-- Nodes.

all_in_range : {T : Type 0} (levels : ℕ) (f : T → Data) (test : T → Bool) → ((x : T) → test x ≡ true → Reread levels (f x))
    → (xs : List T) → list_all test xs ≡ true
    → AllReread levels (map f xs)
all_in_range levels f test back [] h = tt
all_in_range levels f test back (x ∷ xs) h =
    let parts = and_parts (test x) (list_all test xs) h in
    (back x parts.0, all_in_range levels f test back xs parts.1)

both_reread : (levels : ℕ) (xs ys : List Data) → AllReread levels xs → AllReread levels ys → AllReread levels (xs ++ ys)
both_reread levels [] ys h k = k
both_reread levels (x ∷ xs) ys h k = (h.0, both_reread levels xs ys h.1 k)

at_most : (n greatest : ℕ) → greatest < 2 ^ 64 → nat_le n greatest ≡ true → Reread 0 (whole n)
at_most n greatest low h = let top = leb-true n greatest h in whole_reread n (omega (arith, top, low))

argument_reread : (z : ℤ) → argument_in_range z ≡ true → Reread 0 (integer z)
argument_reread (pos n) h = let low = leb-true n (2 ^ 40) h in integer_reread (pos n) (omega (arith, low))
argument_reread (negsuc n) h = let low = leb-true (suc n) (2 ^ 40) h in integer_reread (negsuc n) (omega (arith, low))

entry_reread : (e : Entry) → entry_in_range e ≡ true → Reread 1 (entry_data e)
entry_reread e h =
    let one = and_parts (nat_le e.kind 2) (nat_le e.number 4294967295 && nat_le e.mult (2 ^ 32)) h in
    let two = and_parts (nat_le e.number 4294967295) (nat_le e.mult (2 ^ 32)) one.1 in
    array_reread 0 (whole e.kind ∷ whole e.number ∷ whole e.mult ∷ []) (
      at_most e.kind 2 (omega arith) one.0,
      (at_most e.number 4294967295 (omega arith) two.0, (at_most e.mult (2 ^ 32) (omega arith) two.1, tt)),
    )

cert_reread : (c : Cert) → cert_in_range c ≡ true → Reread 3 (cert_data c)
cert_reread c h =
    let one = and_parts (nat_le 1 c.d) (nat_le c.d (2 ^ 32) && list_all entry_in_range c.entries) h in
    let two = and_parts (nat_le c.d (2 ^ 32)) (list_all entry_in_range c.entries) one.1 in
    array_reread 2 (whole c.d ∷ array_of entry_data c.entries ∷ []) (
      deeper 0 2 (whole c.d) (omega arith) (at_most c.d (2 ^ 32) (omega arith) two.0),
      (array_reread 1 (map entry_data c.entries) (all_in_range 1 entry_data entry_in_range entry_reread c.entries two.1), tt),
    )

rule_ascii : (r : Rule) → are_ascii (name_of r) ≡ true
rule_ascii ELit = refl
rule_ascii _ = refl

parts_reread : (s : Step) → list_all argument_in_range s.args ≡ true → list_all cert_in_range s.certs ≡ true
    → AllReread 4 (step_parts s)
parts_reread s args certs = (
  deeper 0 4 (string (name_of s.rule)) (omega arith)
      (string_reread (name_of s.rule) (IsUtf8-are_ascii (name_of s.rule) (rule_ascii s.rule))),
  (
    deeper 1 4 (array_of integer s.args) (omega arith)
        (array_reread 0 (map integer s.args) (all_in_range 0 integer argument_in_range argument_reread s.args args)),
    (array_reread 3 (map cert_data s.certs) (all_in_range 3 cert_data cert_in_range cert_reread s.certs certs), tt),
  ),
)

count_reread : (n : ℕ) → count_in_range n ≡ true → Reread 0 (whole n)
count_reread n h = at_most n 20000 (omega arith) h

counts_reread : (counts : List ℕ) → list_all count_in_range counts ≡ true → AllReread 4 (counts_part counts)
counts_reread [] h = tt
counts_reread (c ∷ cs) h = (
  deeper 1 4 (array_of whole (c ∷ cs)) (omega arith)
      (array_reread 0 (map whole (c ∷ cs)) (all_in_range 0 whole count_in_range count_reread (c ∷ cs) h)),
  tt,
)

node_reread : (n : Listed) → node_in_range n ≡ true → list_all count_in_range n.counts ≡ true → Reread 5 (node_data n)
node_reread n h low =
    let parts = and_parts (list_all argument_in_range n.step.args) (list_all cert_in_range n.step.certs) h in
    array_reread 4 (step_parts n.step ++ counts_part n.counts)
    (both_reread 4 (step_parts n.step) (counts_part n.counts) (parts_reread n.step parts.0 parts.1) (counts_reread n.counts low))

nodes_reread : (ns : List Listed) (ps : List Place) → Fills ns ps → length ns ≤ 20000 → list_all node_in_range ns ≡ true
    → AllReread 5 (map node_data ns)
nodes_reread [] ps fills few h = tt
nodes_reread (n ∷ ns) [] fills few h = absurd fills
nodes_reread (n ∷ ns) (p ∷ ps) fills few h =
    let parts = and_parts (node_in_range n) (list_all node_in_range ns) h in
    let room = fills_room ns (called_for p n ++ ps) fills.2 in
    let counts : sum n.counts ≤ 20000 = omega (arith, room, length-append (called_for p n) ps, length-called_for p n, few) in (
      node_reread n parts.0 (sum_room n.counts 20000 counts (omega arith)),
      nodes_reread ns (called_for p n ++ ps) fills.2
          (omega (arith, few)) parts.1,
    )

-- The header.

member_utf8 : (later : Bool) (k : List ℕ) (d : Data) (ms : Members) → IsUtf8 k → IsUtf8 (compact_text d)
    → IsUtf8 (members_text true ms) → IsUtf8 (members_text later (member k d ms))
member_utf8 later k d ms key value rest =
    IsUtf8-append (comma_if later) (quoted k ++ 58 ∷ (compact_text d ++ members_text true ms)) (comma_utf8 later)
    (IsUtf8-append (quoted k) (58 ∷ (compact_text d ++ members_text true ms)) (IsUtf8-quoted k key)
    (IsUtf8-append (58 ∷ []) (compact_text d ++ members_text true ms) (IsUtf8-are_ascii (58 ∷ []) refl)
    (IsUtf8-append (compact_text d) (members_text true ms) value rest)))

abbrev four : Data → Data → Data → Data → Members
four a b c d = member (codes "block") a
    (member (codes "deriv") b (member (codes "model") c (member (codes "nodes") d no_members)))

object_reread : (levels : ℕ) (a b c d : Data) → Reread levels a → Reread levels b → Reread levels c → Reread levels d
    → Reread (suc levels) (object (four a b c d))
object_reread levels a b c d ra rb rc rd = record {
  reads = rw (ra.reads, rb.reads, rc.reads, rd.reads);
  numbers = (ra.numbers, (rb.numbers, (rc.numbers, (rd.numbers, tt))));
  low = omega (arith, ra.low, rb.low, rc.low, rd.low);
  utf8 = IsUtf8-append (123 ∷ []) (members_text false (four a b c d)) (IsUtf8-are_ascii (123 ∷ []) refl)
      (member_utf8 false (codes "block") a
      (member (codes "deriv") b (member (codes "model") c (member (codes "nodes") d no_members)))
      (IsUtf8-are_ascii (codes "block") refl) ra.utf8
      (member_utf8 true (codes "deriv") b (member (codes "model") c (member (codes "nodes") d no_members))
      (IsUtf8-are_ascii (codes "deriv") refl) rb.utf8
      (member_utf8 true (codes "model") c (member (codes "nodes") d no_members) (IsUtf8-are_ascii (codes "model") refl) rc.utf8
      (member_utf8 true (codes "nodes") d no_members (IsUtf8-are_ascii (codes "nodes") refl) rd.utf8
      (IsUtf8-are_ascii (125 ∷ []) refl)))));
}

-- the text is the file
pub text_is_file : (d : Derivation) → Within d → File (text_of d) d
text_is_file d limits =
    let count : ℕ = length (out-Block d.body).nodes in
    let fills = body_fills d.body limits.whole.shaped limits.shallow limits.few in
    let size = listed_size d.body limits.whole.shaped limits.shallow limits.few in
    let few : length (preorder d) ≤ 20000 = omega (arith, size, limits.whole.small) in
    let room = fills_room (preorder d) (replicate count outer_place) fills in
    let outer : count ≤ 20000 = omega (arith, room, length-replicate count outer_place, few) in
    let value : Reread 7 (file_data d) =
    object_reread 6 (whole count) (whole 1) (string d.model) (array_of node_data (preorder d))
    (deeper 0 6 (whole count) (omega arith) (whole_reread count (omega (arith, outer))))
    (deeper 0 6 (whole 1) (omega arith) (whole_reread 1 (omega arith)))
    (deeper 0 6 (string d.model) (omega arith) (string_reread d.model (name_utf8 d.model limits.name)))
    (array_reread 5 (map node_data (preorder d))
    (nodes_reread (preorder d) (replicate count outer_place) fills few limits.numbers)) in
    record {
      json = file_data d;
      value = record {
        text = IsUtf8-append (compact_text (file_data d)) (10 ∷ []) value.utf8 (IsUtf8-are_ascii (10 ∷ []) refl);
        reads = text_reread 7 (file_data d) (omega arith) value;
      };
      members = refl;
      block = number_back 0 20000 count (le-leb 0 count (omega arith)) (le-leb count 20000 outer);
      version = refl;
      model = rw limits.name;
      nodes = nodes_back (preorder d) (replicate count outer_place) fills few limits.numbers;
      within = limits;
    }
