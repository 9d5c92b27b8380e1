-- The value of a node is read as that node.
use Rattle.std.proofs.Common.{◌≡◌, ℕ, suc, ◌+◌, ◌≤◌, ◌^◌, Bool, true, false, ◌&&◌, ◌==◌, nat_le, nat_lt, nat_abs, ℤ, pos, negsuc}
use Rattle.std.proofs.Common.{List, [], ◌∷◌, ◌++◌, length, map, sum, Some, refl, subst, le-leb, leb-true, lt-ltb, length-append}
use Rattle.std.proofs.Common.{eq-eqb, arith}
use Rattle.std.proofs.lemmas.Bool.{and_parts}
use Rattle.std.specs.List.{list_all}
use Rattle.std.proofs.lemmas.List.Sums.{sum_by-cons}
use Rattle.serde_json.specs.View.{items_of}
use Rattle.side_certs.specs.declared.certificate.Cert.{Cert}
use Rattle.side_certs.specs.declared.certificate.Entry.{Entry}
use Rattle.deriv_tree.specs.declared.listed.Listed.{Listed}
use Rattle.deriv_tree.specs.Shape.{blocks}
use Rattle.deriv_tree.proofs.laws.NamesRead.{name_is_read}
use Rattle.deriv_file.specs.declared.places.Place.{Place}
use Rattle.deriv_file.specs.Numbers.{only_if, number_in, argument_of, arguments_of, counts_of}
use Rattle.deriv_file.specs.CertificateList.{entry_of, entries_of, cert_of, certs_of}
use Rattle.deriv_file.specs.Node.{block_counts, node_of}
use Rattle.deriv_file.specs.NodeList.{all_nodes}
use Rattle.deriv_file.specs.Places.{called_for}
use Rattle.deriv_file.specs.Ranges.{argument_in_range, entry_in_range, cert_in_range, node_in_range}
use Rattle.deriv_file.specs.FileText.{whole, integer, entry_data, cert_data, counts_part, node_data}
use Rattle.deriv_file.proofs.Filling.{Fills}
use Rattle.deriv_file.proofs.Runs.{length-called_for}
use Rattle.deriv_file.proofs.Standing.{both_true}

only_if_true : {A : Type 0} (test : Bool) (a : A) → test ≡ true → only_if test a ≡ Some a
only_if_true true a h = refl
only_if_true false a h = absurd (cc)

pub number_back : (least greatest n : ℕ) → nat_le least n ≡ true → nat_le n greatest ≡ true
    → number_in least greatest (whole n) ≡ Some n
number_back least greatest n low high =
    only_if_true (nat_le least n && nat_le n greatest) n (both_true (nat_le least n) (nat_le n greatest) low high)

argument_back : (z : ℤ) → argument_in_range z ≡ true → argument_of (integer z) ≡ Some z
argument_back (pos n) h =
    let fits : nat_lt n (2 ^ 63) ≡ true = lt-ltb n (2 ^ 63) (let low = leb-true n (2 ^ 40) h in omega (arith, low)) in
    rw fits (only_if_true (nat_le n (2 ^ 40)) (pos n) h)
argument_back (negsuc n) h = only_if_true (nat_le (nat_abs (negsuc n)) (2 ^ 40)) (negsuc n) h

arguments_back : (zs : List ℤ) → list_all argument_in_range zs ≡ true → arguments_of (items_of (map integer zs)) ≡ Some zs
arguments_back [] h = refl
arguments_back (z ∷ zs) h =
    let parts = and_parts (argument_in_range z) (list_all argument_in_range zs) h in
    rw (argument_back z parts.0, arguments_back zs parts.1)

entry_back : (e : Entry) → entry_in_range e ≡ true → entry_of (entry_data e) ≡ Some e
entry_back e h =
    let one = and_parts (nat_le e.kind 2) (nat_le e.number 4294967295 && nat_le e.mult (2 ^ 32)) h in
    let two = and_parts (nat_le e.number 4294967295) (nat_le e.mult (2 ^ 32)) one.1 in
    rw (
      number_back 0 2 e.kind (le-leb 0 e.kind (omega arith)) one.0,
      number_back 0 4294967295 e.number (le-leb 0 e.number (omega arith)) two.0,
      number_back 0 (2 ^ 32) e.mult (le-leb 0 e.mult (omega arith)) two.1,
    )

entries_back : (es : List Entry) → list_all entry_in_range es ≡ true → entries_of (items_of (map entry_data es)) ≡ Some es
entries_back [] h = refl
entries_back (e ∷ es) h =
    let parts = and_parts (entry_in_range e) (list_all entry_in_range es) h in
    rw (entry_back e parts.0, entries_back es parts.1)

cert_back : (c : Cert) → cert_in_range c ≡ true → cert_of (cert_data c) ≡ Some c
cert_back c h =
    let one = and_parts (nat_le 1 c.d) (nat_le c.d (2 ^ 32) && list_all entry_in_range c.entries) h in
    let two = and_parts (nat_le c.d (2 ^ 32)) (list_all entry_in_range c.entries) one.1 in
    rw (number_back 1 (2 ^ 32) c.d one.0 two.0, entries_back c.entries two.1)

certs_back : (cs : List Cert) → list_all cert_in_range cs ≡ true → certs_of (items_of (map cert_data cs)) ≡ Some cs
certs_back [] h = refl
certs_back (c ∷ cs) h =
    let parts = and_parts (cert_in_range c) (list_all cert_in_range cs) h in
    rw (cert_back c parts.0, certs_back cs parts.1)

abbrev pub count_in_range : ℕ → Bool
count_in_range n = nat_le n 20000

counts_back : (ns : List ℕ) → list_all count_in_range ns ≡ true → counts_of (items_of (map whole ns)) ≡ Some ns
counts_back [] h = refl
counts_back (n ∷ ns) h =
    let parts = and_parts (count_in_range n) (list_all count_in_range ns) h in
    rw (number_back 0 20000 n (le-leb 0 n (omega arith)) parts.0, counts_back ns parts.1)

not_zero : (n : ℕ) → (suc n == 0) ≡ false
not_zero n = grind (arith)

block_counts_here : (ns : List ℕ) → list_all count_in_range ns ≡ true → block_counts (length ns) (items_of (counts_part ns))
    ≡ Some ns
block_counts_here [] h = refl
block_counts_here (n ∷ ns) h =
    rw (not_zero (length ns), counts_back (n ∷ ns) h)
    (only_if_true (length (n ∷ ns) == length (n ∷ ns)) (n ∷ ns) (eq-eqb (length (n ∷ ns)) (length (n ∷ ns)) refl))

node_back : (n : Listed) → node_in_range n ≡ true → length n.counts ≡ blocks n.step.rule → list_all count_in_range n.counts ≡ true
    → node_of (node_data n) ≡ Some n
node_back n h many low =
    let parts = and_parts (list_all argument_in_range n.step.args) (list_all cert_in_range n.step.certs) h in
    let counts : block_counts (blocks n.step.rule) (items_of (counts_part n.counts)) ≡ Some n.counts =
    subst (λ (k : ℕ). block_counts k (items_of (counts_part n.counts)) ≡ Some n.counts) many (block_counts_here n.counts low) in
    rw (name_is_read n.step.rule, arguments_back n.step.args parts.0, certs_back n.step.certs parts.1, counts)

-- The numbers of nodes of blocks are at most the number of nodes behind.

pub fills_room : (ns : List Listed) (ps : List Place) → Fills ns ps → length ps ≤ length ns
fills_room [] ps h = rw h (omega arith)
fills_room (n ∷ ns) [] h = absurd h
fills_room (n ∷ ns) (p ∷ ps) h =
    let more = fills_room ns (called_for p n ++ ps) h.2 in
    omega (arith, more, length-append (called_for p n) ps)

pub sum_room : (counts : List ℕ) (m : ℕ) → sum counts ≤ m → m ≤ 20000 → list_all count_in_range counts ≡ true
sum_room [] m h low = refl
sum_room (c ∷ cs) m h low =
    let total = sum_by-cons (λ (n : ℕ). n) c cs in
    both_true (count_in_range c) (list_all count_in_range cs) (le-leb c 20000 (omega (arith, total, h, low)))
    (sum_room cs m (omega (arith, total, h)) low)

-- the values of nodes that fill places are read as those nodes
pub nodes_back : (ns : List Listed) (ps : List Place) → Fills ns ps → length ns ≤ 20000 → list_all node_in_range ns ≡ true
    → all_nodes (items_of (map node_data ns)) ≡ Some ns
nodes_back [] ps fills few h = refl
nodes_back (n ∷ ns) [] fills few h = absurd fills
nodes_back (n ∷ ns) (p ∷ ps) fills few h =
    let parts = and_parts (node_in_range n) (list_all node_in_range ns) h in
    let room = fills_room ns (called_for p n ++ ps) fills.2 in
    let counts : sum n.counts ≤ 20000 = omega (arith, room, length-append (called_for p n) ps, length-called_for p n, few) in
    rw (
      node_back n parts.0 fills.1 (sum_room n.counts 20000 counts (omega arith)),
      nodes_back ns (called_for p n ++ ps) fills.2
          (omega (arith, few)) parts.1,
    )
