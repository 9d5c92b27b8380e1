-- The value of a derivation's file has no float.
use Rattle.std.proofs.Common.{◌≡◌, ℕ, Bool, true, false, ◌||◌, ℤ, pos, negsuc, List, [], ◌∷◌, ◌++◌, map, refl}
use Rattle.std.proofs.lemmas.Bool.{or_parts}
use Rattle.serde_json.specs.Data.{Data}
use Rattle.serde_json.specs.View.{items_of}
use Rattle.serde_json.specs.Written.{has_float, items_have_float}
use Rattle.side_certs.specs.declared.certificate.Cert.{Cert}
use Rattle.side_certs.specs.declared.certificate.Entry.{Entry}
use Rattle.deriv_tree.specs.declared.tree.Derivation.{Derivation}
use Rattle.deriv_tree.specs.declared.tree.Step.{Step}
use Rattle.deriv_tree.specs.declared.listed.Listed.{Listed}
use Rattle.deriv_tree.specs.Preorder.{preorder}
use Rattle.deriv_file.specs.FileText.{whole, integer, entry_data, cert_data, step_parts, counts_part, node_data, file_data}
use Rattle.deriv_file.specs.FileText.{array_of}

neither : (a b : Bool) → a ≡ false → b ≡ false → (a || b) ≡ false
neither true b h k = absurd (cc)
neither false b h k = k

items_have_none : {T : Type 0} (f : T → Data) → ((x : T) → has_float (f x) ≡ false) → (xs : List T)
    → items_have_float (items_of (map f xs)) ≡ false
items_have_none f none [] = refl
items_have_none f none (x ∷ xs) =
    neither (has_float (f x)) (items_have_float (items_of (map f xs))) (none x) (items_have_none f none xs)

integer_none : (z : ℤ) → has_float (integer z) ≡ false
integer_none (pos n) = refl
integer_none (negsuc n) = refl

entry_none : (e : Entry) → has_float (entry_data e) ≡ false
entry_none e = refl

cert_none : (c : Cert) → has_float (cert_data c) ≡ false
cert_none c = neither (has_float (array_of entry_data c.entries)) false (items_have_none entry_data entry_none c.entries) refl

append_none : (xs ys : List Data) → items_have_float (items_of xs) ≡ false → items_have_float (items_of ys) ≡ false
    → items_have_float (items_of (xs ++ ys)) ≡ false
append_none [] ys h k = k
append_none (x ∷ xs) ys h k =
    let parts = or_parts (has_float x) (items_have_float (items_of xs)) h in
    neither (has_float x) (items_have_float (items_of (xs ++ ys))) parts.0 (append_none xs ys parts.1 k)

counts_none : (counts : List ℕ) → items_have_float (items_of (counts_part counts)) ≡ false
counts_none [] = refl
counts_none (c ∷ cs) = neither (has_float (array_of whole (c ∷ cs))) false (items_have_none whole (λ n. refl) (c ∷ cs)) refl

step_none : (s : Step) → items_have_float (items_of (step_parts s)) ≡ false
step_none s =
    neither (has_float (array_of integer s.args)) (has_float (array_of cert_data s.certs) || false)
    (items_have_none integer integer_none s.args)
    (neither (has_float (array_of cert_data s.certs)) false (items_have_none cert_data cert_none s.certs) refl)

node_none : (n : Listed) → has_float (node_data n) ≡ false
node_none n = append_none (step_parts n.step) (counts_part n.counts) (step_none n.step) (counts_none n.counts)

pub file_has_none : (d : Derivation) → has_float (file_data d) ≡ false
file_has_none d = neither (has_float (array_of node_data (preorder d))) false (items_have_none node_data node_none (preorder d))
    refl
