-- Each number of a node that is read is in its range.
use Rattle.std.proofs.Common.{◌≡◌, ℕ, ◌^◌, Bool, true, ◌&&◌, nat_le, nat_abs, ℤ, List, [], ◌∷◌, Option, Some, option_map}
use Rattle.std.proofs.Common.{option_and_then, refl, subst}
use Rattle.std.proofs.lemmas.Bool.{and_parts}
use Rattle.std.specs.List.{list_all}
use Rattle.std.proofs.lemmas.Option.{same_Some}
use Rattle.serde_json.specs.Data.{Data, Items, no_items, item}
use Rattle.serde_json.specs.Find.{as_array, as_str, as_number, as_i64, as_u64}
use Rattle.side_certs.specs.declared.certificate.Cert.{Cert}
use Rattle.side_certs.specs.declared.certificate.Entry.{Entry}
use Rattle.deriv_tree.specs.declared.rule.Rule.{Rule}
use Rattle.deriv_tree.specs.declared.tree.Step.{Step}
use Rattle.deriv_tree.specs.declared.listed.Listed.{Listed}
use Rattle.deriv_tree.specs.Names.{rule_of}
use Rattle.deriv_tree.specs.Shape.{blocks}
use Rattle.deriv_file.specs.Numbers.{only_if, number_in, argument_of, arguments_of}
use Rattle.deriv_file.specs.CertificateList.{three_of, two_of, entry_of, entry_of_parts, entries_of, cert_of, cert_of_parts}
use Rattle.deriv_file.specs.CertificateList.{certs_of}
use Rattle.deriv_file.specs.Node.{certificates, step_of, with_counts, block_counts, node_of, node_of_items}
use Rattle.deriv_file.specs.NodeList.{all_nodes}
use Rattle.deriv_file.specs.Ranges.{argument_in_range, entry_in_range, cert_in_range, node_in_range}
use Rattle.deriv_file.proofs.Filling.{came, mapped, only_if_is, listed_as}
use Rattle.deriv_file.proofs.Standing.{both_true}

record Cons {A : Type 0} (o : Option A) (r : Option (List A)) (xs : List A) : Type 0 where
  first : A
  rest : List A
  is : o ≡ Some first
  are : r ≡ Some rest
  whole : first ∷ rest ≡ xs

cons_of : {A : Type 0} (o : Option A) (r : Option (List A)) (xs : List A)
    → option_and_then (λ (x : A). option_map (λ (ys : List A). x ∷ ys) r) o ≡ Some xs → Cons o r xs
cons_of {A = A} o r xs h =
    let one = came o (λ (x : A). option_map (λ (ys : List A). x ∷ ys) r) xs h in
    let others = mapped r (λ (ys : List A). one.value ∷ ys) xs one.gives in
    record { first = one.value; rest = others.value; is = one.is; are = others.is; whole = others.gives }

number_ranged : (least greatest : ℕ) (d : Data) (n : ℕ) → number_in least greatest d ≡ Some n
    → (nat_le least n ≡ true) × (nat_le n greatest ≡ true)
number_ranged least greatest d n h =
    let read = came (option_and_then as_u64 (as_number d)) (λ (m : ℕ). only_if (nat_le least m && nat_le m greatest) m) n h in
    let parts = only_if_is (nat_le least read.value && nat_le read.value greatest) read.value n read.gives in
    let both = and_parts (nat_le least read.value) (nat_le read.value greatest) parts.0 in
    (subst (λ (m : ℕ). nat_le least m ≡ true) parts.1 both.0, subst (λ (m : ℕ). nat_le m greatest ≡ true) parts.1 both.1)

argument_ranged : (d : Data) (z : ℤ) → argument_of d ≡ Some z → argument_in_range z ≡ true
argument_ranged d z h =
    let read = came (option_and_then as_i64 (as_number d)) (λ (y : ℤ). only_if (nat_le (nat_abs y) (2 ^ 40)) y) z h in
    let parts = only_if_is (nat_le (nat_abs read.value) (2 ^ 40)) read.value z read.gives in
    subst (λ (y : ℤ). argument_in_range y ≡ true) parts.1 parts.0

arguments_ranged : (ds : Items) (zs : List ℤ) → arguments_of ds ≡ Some zs → list_all argument_in_range zs ≡ true
arguments_ranged no_items zs h = subst (λ (ys : List ℤ). list_all argument_in_range ys ≡ true) (same_Some [] zs h) refl
arguments_ranged (item d ds) zs h =
    let parts = cons_of (argument_of d) (arguments_of ds) zs h in
    subst (λ (ys : List ℤ). list_all argument_in_range ys ≡ true) parts.whole
    (both_true (argument_in_range parts.first) (list_all argument_in_range parts.rest) (argument_ranged d parts.first parts.is)
    (arguments_ranged ds parts.rest parts.are))

abbrev entry : ℕ → ℕ → ℕ → Entry
entry kind number mult = record { kind = kind; number = number; mult = mult }

entry_parts_ranged : (parts : Data × Data × Data) (e : Entry) → entry_of_parts parts ≡ Some e → entry_in_range e ≡ true
entry_parts_ranged parts e h =
    let kind = came (number_in 0 2 parts.0)
    (λ (k : ℕ). option_and_then (λ (n : ℕ). option_map (λ (m : ℕ). entry k n m) (number_in 0 (2 ^ 32) parts.2))
    (number_in 0 4294967295 parts.1)) e h in
    let number = came (number_in 0 4294967295 parts.1)
    (λ (n : ℕ). option_map (λ (m : ℕ). entry kind.value n m) (number_in 0 (2 ^ 32) parts.2)) e kind.gives in
    let mult = mapped (number_in 0 (2 ^ 32) parts.2) (λ (m : ℕ). entry kind.value number.value m) e number.gives in
    subst (λ (x : Entry). entry_in_range x ≡ true) mult.gives
    (both_true (nat_le kind.value 2) (nat_le number.value 4294967295 && nat_le mult.value (2 ^ 32))
    (number_ranged 0 2 parts.0 kind.value kind.is).1
    (both_true (nat_le number.value 4294967295) (nat_le mult.value (2 ^ 32))
    (number_ranged 0 4294967295 parts.1 number.value number.is).1
    (number_ranged 0 (2 ^ 32) parts.2 mult.value mult.is).1))

entry_ranged : (d : Data) (e : Entry) → entry_of d ≡ Some e → entry_in_range e ≡ true
entry_ranged d e h =
    let parts = came (option_and_then three_of (as_array d)) entry_of_parts e h in
    entry_parts_ranged parts.value e parts.gives

entries_ranged : (ds : Items) (es : List Entry) → entries_of ds ≡ Some es → list_all entry_in_range es ≡ true
entries_ranged no_items es h = subst (λ (xs : List Entry). list_all entry_in_range xs ≡ true) (same_Some [] es h) refl
entries_ranged (item d ds) es h =
    let parts = cons_of (entry_of d) (entries_of ds) es h in
    subst (λ (xs : List Entry). list_all entry_in_range xs ≡ true) parts.whole
    (both_true (entry_in_range parts.first) (list_all entry_in_range parts.rest) (entry_ranged d parts.first parts.is)
    (entries_ranged ds parts.rest parts.are))

abbrev cert : ℕ → List Entry → Cert
cert d es = record { d = d; entries = es }

cert_parts_ranged : (parts : Data × Data) (c : Cert) → cert_of_parts parts ≡ Some c → cert_in_range c ≡ true
cert_parts_ranged parts c h =
    let d = came (number_in 1 (2 ^ 32) parts.0)
    (λ (n : ℕ). option_map (λ (es : List Entry). cert n es) (option_and_then entries_of (as_array parts.1))) c h in
    let es = mapped (option_and_then entries_of (as_array parts.1)) (λ (xs : List Entry). cert d.value xs) c d.gives in
    let items = came (as_array parts.1) entries_of es.value es.is in
    let range = number_ranged 1 (2 ^ 32) parts.0 d.value d.is in
    subst (λ (x : Cert). cert_in_range x ≡ true) es.gives
    (both_true (nat_le 1 d.value) (nat_le d.value (2 ^ 32) && list_all entry_in_range es.value) range.0
    (both_true (nat_le d.value (2 ^ 32)) (list_all entry_in_range es.value) range.1
    (entries_ranged items.value es.value items.gives)))

cert_ranged : (d : Data) (c : Cert) → cert_of d ≡ Some c → cert_in_range c ≡ true
cert_ranged d c h =
    let parts = came (option_and_then two_of (as_array d)) cert_of_parts c h in
    cert_parts_ranged parts.value c parts.gives

certs_ranged : (ds : Items) (cs : List Cert) → certs_of ds ≡ Some cs → list_all cert_in_range cs ≡ true
certs_ranged no_items cs h = subst (λ (xs : List Cert). list_all cert_in_range xs ≡ true) (same_Some [] cs h) refl
certs_ranged (item d ds) cs h =
    let parts = cons_of (cert_of d) (certs_of ds) cs h in
    subst (λ (xs : List Cert). list_all cert_in_range xs ≡ true) parts.whole
    (both_true (cert_in_range parts.first) (list_all cert_in_range parts.rest) (cert_ranged d parts.first parts.is)
    (certs_ranged ds parts.rest parts.are))

abbrev step : Rule → List ℤ → List Cert → Step
step r zs cs = record { rule = r; args = zs; certs = cs }

abbrev step_in_range : Step → Bool
step_in_range s = list_all argument_in_range s.args && list_all cert_in_range s.certs

step_ranged : (rule args certs : Data) (s : Step) → step_of rule args certs ≡ Some s → step_in_range s ≡ true
step_ranged rule args certs s h =
    let r = came (option_and_then rule_of (as_str rule))
    (λ (x : Rule). option_and_then (λ (zs : List ℤ). option_map (λ (cs : List Cert). step x zs cs) (certificates certs))
    (option_and_then arguments_of (as_array args))) s h in
    let zs = came (option_and_then arguments_of (as_array args))
    (λ (ys : List ℤ). option_map (λ (cs : List Cert). step r.value ys cs) (certificates certs)) s r.gives in
    let cs = mapped (certificates certs) (λ (xs : List Cert). step r.value zs.value xs) s zs.gives in
    let arg_items = came (as_array args) arguments_of zs.value zs.is in
    let cert_items = came (as_array certs) certs_of cs.value cs.is in
    subst (λ (x : Step). step_in_range x ≡ true) cs.gives
    (both_true (list_all argument_in_range zs.value) (list_all cert_in_range cs.value)
    (arguments_ranged arg_items.value zs.value arg_items.gives)
    (certs_ranged cert_items.value cs.value cert_items.gives))

items_ranged : (ds : Items) (n : Listed) → node_of_items ds ≡ Some n → node_in_range n ≡ true
items_ranged no_items n h = absurd (cc)
items_ranged (item a no_items) n h = absurd (cc)
items_ranged (item a (item b no_items)) n h = absurd (cc)
items_ranged (item a (item b (item c rest))) n h =
    let s = came (step_of a b c) (λ (x : Step). with_counts x rest) n h in
    let counts = mapped (block_counts (blocks s.value.rule) rest) (λ (ns : List ℕ). record { step = s.value; counts = ns }) n
    s.gives in
    subst (λ (m : Listed). node_in_range m ≡ true) counts.gives (step_ranged a b c s.value s.is)

node_ranged : (d : Data) (n : Listed) → node_of d ≡ Some n → node_in_range n ≡ true
node_ranged d n h =
    let items = came (as_array d) node_of_items n h in
    items_ranged items.value n items.gives

pub nodes_ranged : (ds : Items) (ns : List Listed) → all_nodes ds ≡ Some ns → list_all node_in_range ns ≡ true
nodes_ranged no_items ns h = subst (λ (ms : List Listed). list_all node_in_range ms ≡ true) (same_Some [] ns h) refl
nodes_ranged (item d ds) ns h =
    let parts = listed_as d ds ns h in
    subst (λ (ms : List Listed). list_all node_in_range ms ≡ true) parts.whole
    (both_true (node_in_range parts.first) (list_all node_in_range parts.rest) (node_ranged d parts.first parts.node)
    (nodes_ranged ds parts.rest parts.nodes))
