-- What a certificate of the search keeps: it closes its goal, with few entries, each in its range.
use Rattle.std.specs.Prelude.{◌≡◌, ℕ, ◌≤◌, Bool, true, ◌&&◌, List, length, nat_le, nat_lt, nat_eq, Some, if◌then◌else◌}
use Rattle.std.specs.List.{list_all}
use Rattle.side_certs.specs.declared.certificate.Cert.{Cert}
use Rattle.side_certs.specs.declared.certificate.Entry.{Entry}
use Rattle.side_certs.specs.LinearForm.{LinearForm}
use Rattle.side_certs.specs.Closes.{greatest_multiplier, Closes}
use Rattle.cert_search.specs.Search.{levels, found}

-- a multiplier from 1 to the greatest, of a fact that is there or of a symbol that has a top
abbrev pub entry_in_range : List LinearForm → List ℕ → Entry → Bool
entry_in_range facts tops e =
    (nat_le 1 e.mult && nat_le e.mult greatest_multiplier)
    && (if nat_eq e.kind 0 then nat_lt e.number (length facts) else (nat_le e.kind 2 && nat_lt e.number (length tops)))

-- the goal is taken once, and at most four entries are, each in its range
pub record Limited (facts : List LinearForm) (tops : List ℕ) (certificate : Cert) : Type 0 where
  pub once : certificate.d ≡ 1
  pub few : length certificate.entries ≤ levels
  pub ranges : list_all (entry_in_range facts tops) certificate.entries ≡ true

-- a certificate that the search finds closes its goal, and is limited
abbrev pub FoundCloses : Type 0
FoundCloses = (facts : List LinearForm) → (tops : List ℕ) → (goal : LinearForm) → (certificate : Cert)
    → found facts tops goal ≡ Some certificate → Closes facts tops goal certificate × Limited facts tops certificate
