-- The certificates of a node, where the node has them itself: a list of
-- `[d, entries]`, an entry being `[kind, number, multiplier]`.
use Rattle.std.specs.Prelude.{◌^◌, List, [], ◌∷◌, Option, Some, None, option_map, option_and_then}
use Rattle.serde_json.specs.Data.{Data, Items, no_items, item}
use Rattle.serde_json.specs.Find.{as_array}
use Rattle.side_certs.specs.declared.certificate.Cert.{Cert}
use Rattle.side_certs.specs.declared.certificate.Entry.{Entry}
use Rattle.deriv_file.specs.Numbers.{number_in}

abbrev pub three_of : Items → Option (Data × Data × Data)
three_of no_items = None
three_of (item a no_items) = None
three_of (item a (item b no_items)) = None
three_of (item a (item b (item c no_items))) = Some (a, b, c)
three_of (item a (item b (item c (item d ds)))) = None

abbrev pub two_of : Items → Option (Data × Data)
two_of no_items = None
two_of (item a no_items) = None
two_of (item a (item b no_items)) = Some (a, b)
two_of (item a (item b (item c ds))) = None

abbrev pub entry_of_parts : Data × Data × Data → Option Entry
entry_of_parts parts =
    option_and_then (λ kind. option_and_then (λ number. option_map (λ mult. record { kind = kind; number = number; mult = mult })
    (number_in 0 (2 ^ 32) parts.2)) (number_in 0 4294967295 parts.1)) (number_in 0 2 parts.0)

abbrev pub entry_of : Data → Option Entry
entry_of d = option_and_then entry_of_parts (option_and_then three_of (as_array d))

abbrev pub entries_of : Items → Option (List Entry)
entries_of no_items = Some []
entries_of (item d ds) = option_and_then (λ e. option_map (λ es. e ∷ es) (entries_of ds)) (entry_of d)

abbrev pub cert_of_parts : Data × Data → Option Cert
cert_of_parts parts =
    option_and_then (λ d. option_map (λ es. record { d = d; entries = es }) (option_and_then entries_of (as_array parts.1)))
    (number_in 1 (2 ^ 32) parts.0)

abbrev pub cert_of : Data → Option Cert
cert_of d = option_and_then cert_of_parts (option_and_then two_of (as_array d))

abbrev pub certs_of : Items → Option (List Cert)
certs_of no_items = Some []
certs_of (item d ds) = option_and_then (λ c. option_map (λ cs. c ∷ cs) (certs_of ds)) (cert_of d)
