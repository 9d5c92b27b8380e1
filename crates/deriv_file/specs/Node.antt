-- A node of a file: `[rule, args, certs]`, and behind them the list of
-- the numbers of nodes of its blocks where its rule has blocks.
use Rattle.std.specs.Prelude.{ℕ, ◌==◌, List, [], length, Option, None, option_map, option_and_then, if◌then◌else◌}
use Rattle.serde_json.specs.Data.{Data, Items, no_items, item}
use Rattle.serde_json.specs.Find.{as_str, as_array}
use Rattle.side_certs.specs.declared.certificate.Cert.{Cert}
use Rattle.deriv_tree.specs.declared.tree.Step.{Step}
use Rattle.deriv_tree.specs.declared.listed.Listed.{Listed}
use Rattle.deriv_tree.specs.Names.{rule_of}
use Rattle.deriv_tree.specs.Shape.{blocks}
use Rattle.deriv_file.specs.Numbers.{only_if, arguments_of, counts_of}
use Rattle.deriv_file.specs.CertificateList.{certs_of}

-- the certificates stand in the node itself
abbrev pub certificates : Data → Option (List Cert)
certificates d = option_and_then certs_of (as_array d)

abbrev pub step_of : Data → Data → Data → Option Step
step_of rule args certs =
    option_and_then (λ r. option_and_then (λ zs. option_map (λ cs. record { rule = r; args = zs; certs = cs })
    (certificates certs)) (option_and_then arguments_of (as_array args))) (option_and_then rule_of (as_str rule))

-- a list of as many numbers as the rule has blocks, of which there is at least one
abbrev pub some_counts : ℕ → Data → Option (List ℕ)
some_counts n d = if n == 0 then None
    else option_and_then (λ ns. only_if (length ns == n) ns) (option_and_then counts_of (as_array d))

abbrev pub block_counts : ℕ → Items → Option (List ℕ)
block_counts n no_items = only_if (n == 0) []
block_counts n (item d no_items) = some_counts n d
block_counts n (item d (item e ds)) = None

abbrev pub with_counts : Step → Items → Option Listed
with_counts s rest = option_map (λ ns. record { step = s; counts = ns }) (block_counts (blocks s.rule) rest)

abbrev pub node_of_items : Items → Option Listed
node_of_items no_items = None
node_of_items (item a no_items) = None
node_of_items (item a (item b no_items)) = None
node_of_items (item a (item b (item c rest))) = option_and_then (λ s. with_counts s rest) (step_of a b c)

abbrev pub node_of : Data → Option Listed
node_of d = option_and_then node_of_items (as_array d)
