-- The certificates of kept facts: for each fact in order the one that the search of certificates gives, as the certificates of a
-- node stand in the rules of conditionals and loops.
use Rattle.std.specs.Prelude.{List, [], ◌∷◌, ◌++◌, Option, Some, None, option_map, option_and_then}
use Rattle.model_syntax.specs.Names.{Name}
use Rattle.model_syntax.specs.declared.stmt.Le.{Le}
use Rattle.side_certs.specs.LinearForm.{LinearForm, within}
use Rattle.side_certs.specs.declared.certificate.Cert.{Cert}
use Rattle.sym_heap.specs.Context.{Context}
use Rattle.sym_heap.specs.Sides.{difference}
use Rattle.derive_search.specs.Rows.{certificate}

-- the certificate of a form that is to be at least 0, where it is within the limits of forms
abbrev pub certificate_of : Context → LinearForm → Option Cert
certificate_of c f = option_and_then (certificate c) (within f)

abbrev pub led : Option Cert → Option (List Cert) → Option (List Cert)
led None certs = None
led (Some k) certs = option_map (λ ks. k ∷ ks) certs

-- with these forms for its names each fact has a certificate
abbrev pub certificates : Context → (Name → LinearForm) → List Le → Option (List Cert)
certificates c form [] = Some []
certificates c form (r ∷ rs) = led (certificate_of c (difference form r)) (certificates c form rs)

-- the certificates of the facts, after others
abbrev pub after_those : List Cert → Option (List Cert) → Option (List Cert)
after_those done certs = option_map (λ ks. done ++ ks) certs
