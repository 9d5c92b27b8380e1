-- Certificates: when one closes a goal, which is then at least 0 wherever the facts are and no symbol passes its top.
use Rattle.std.specs.Prelude.{◌≡◌, ℕ, ◌-◌, ◌^◌, ◌≤◌, Bool, true, ◌&&◌, List, [], ◌∷◌, length, slice_get, Option, Some, None}
use Rattle.std.specs.Prelude.{option_map, is_some, ℤ, pos, neg_ℤ, ◌+ℤ◌, ◌*ℤ◌, ◌≤ℤ◌, nat_eq, nat_le, if◌then◌else◌}
use Rattle.std.specs.Int.Signed.{le_z}
use Rattle.std.specs.Ordering.{int_eq}
use Rattle.side_certs.specs.declared.certificate.Cert.{Cert}
use Rattle.side_certs.specs.declared.certificate.Entry.{Entry}
use Rattle.side_certs.specs.LinearForm.{LinearForm, symbol, below, share, coefficient, value_at}

-- the greatest d, and the greatest multiplier of an entry
abbrev pub greatest_multiplier : ℕ
greatest_multiplier = 2 ^ 32

-- the greatest number of entries
abbrev pub most_entries : ℕ
most_entries = 32

-- the form of a kind and a number: a fact, a symbol that has a top, or the top less the symbol
abbrev pub form_of : List LinearForm → List ℕ → ℕ → ℕ → Option LinearForm
form_of facts tops kind number =
    if nat_eq kind 0 then slice_get facts number
    else (if nat_eq kind 1 then option_map (λ top. symbol number) (slice_get tops number)
    else (if nat_eq kind 2 then option_map (λ top. below top number) (slice_get tops number) else None))

-- the form that an entry names: none where its multiplier is too great
abbrev pub named : List LinearForm → List ℕ → Entry → Option LinearForm
named facts tops e = if nat_le e.mult greatest_multiplier then form_of facts tops e.kind e.number else None

-- each entry names a form
abbrev pub all_named : List LinearForm → List ℕ → List Entry → Bool
all_named facts tops [] = true
all_named facts tops (e ∷ es) = is_some (named facts tops e) && all_named facts tops es

-- d and the number of entries are within their limits
abbrev pub in_range : Cert → Bool
in_range cert = nat_le 1 cert.d && nat_le cert.d greatest_multiplier && nat_le (length cert.entries) most_entries

-- the number is at least -(d - 1)
abbrev pub is_enough : ℕ → ℤ → Bool
is_enough d k = le_z (neg_ℤ (pos (d - 1))) k

-- The number g tells of a form, as its constant, a coefficient or its value. A form that isn't there counts as 0.
abbrev pub multiple : (LinearForm → ℤ) → ℕ → Option LinearForm → ℤ
multiple g m None = pos 0
multiple g m (Some f) = pos m *ℤ g f

-- g of the entries' forms, each times its multiplier, summed
abbrev pub summed : (LinearForm → ℤ) → List LinearForm → List ℕ → List Entry → ℤ
summed g facts tops [] = pos 0
summed g facts tops (e ∷ es) = multiple g e.mult (named facts tops e) +ℤ summed g facts tops es

-- g of d times the goal less that sum
abbrev pub left : (LinearForm → ℤ) → List LinearForm → List ℕ → LinearForm → Cert → ℤ
left g facts tops goal cert = (pos cert.d *ℤ g goal) +ℤ neg_ℤ (summed g facts tops cert.entries)

-- the constant of a form, or the coefficient of a symbol
abbrev pub number_at : Option ℕ → LinearForm → ℤ
number_at None f = f.constant
number_at (Some s) f = coefficient s f.terms

-- that number of the one term (s, k)
abbrev pub share_at : Option ℕ → ℕ → ℤ → ℤ
share_at None s k = pos 0
share_at (Some r) s k = share r (s, k)

-- d times the goal less the sum is a number k, and k is at least -(d - 1)
pub record Closes (facts : List LinearForm) (tops : List ℕ) (goal : LinearForm) (cert : Cert) : Type 0 where
  pub range : in_range cert ≡ true
  pub names : all_named facts tops cert.entries ≡ true
  pub number : (s : ℕ) → left (number_at (Some s)) facts tops goal cert ≡ pos 0
  pub enough : neg_ℤ (pos (cert.d - 1)) ≤ℤ left (number_at None) facts tops goal cert

-- The same as a test. Only a symbol of the goal or of a named form can be left.

-- of each symbol of these terms nothing is left
abbrev pub cancels : (ℕ → ℤ) → List (ℕ × ℤ) → Bool
cancels rest [] = true
cancels rest (t ∷ ts) = int_eq (rest t.0) (pos 0) && cancels rest ts

abbrev pub cancels_in : (ℕ → ℤ) → Option LinearForm → Bool
cancels_in rest None = true
cancels_in rest (Some f) = cancels rest f.terms

abbrev pub cancels_all : (ℕ → ℤ) → List LinearForm → List ℕ → List Entry → Bool
cancels_all rest facts tops [] = true
cancels_all rest facts tops (e ∷ es) = cancels_in rest (named facts tops e) && cancels_all rest facts tops es

-- what is left of a symbol
abbrev pub rest_of : List LinearForm → List ℕ → LinearForm → Cert → ℕ → ℤ
rest_of facts tops goal cert s = left (number_at (Some s)) facts tops goal cert

abbrev pub leaves_number : List LinearForm → List ℕ → LinearForm → Cert → Bool
leaves_number facts tops goal cert =
    cancels (rest_of facts tops goal cert) goal.terms && cancels_all (rest_of facts tops goal cert) facts tops cert.entries

abbrev pub closes : List LinearForm → List ℕ → LinearForm → Cert → Bool
closes facts tops goal cert =
    in_range cert && all_named facts tops cert.entries && leaves_number facts tops goal cert
    && is_enough cert.d (left (number_at None) facts tops goal cert)

-- each fact is at least 0, and no symbol passes its top
abbrev pub Holds : (ℕ → ℕ) → List LinearForm → List ℕ → Type 0
Holds numbers facts tops =
    ((i : ℕ) → (f : LinearForm) → slice_get facts i ≡ Some f → pos 0 ≤ℤ value_at numbers f)
    × ((s : ℕ) → (top : ℕ) → slice_get tops s ≡ Some top → numbers s ≤ top)

-- a goal that a certificate closes is at least 0 wherever facts and tops hold
abbrev pub ClosingGivesGoal : Type 0
ClosingGivesGoal = (facts : List LinearForm) → (tops : List ℕ) → (goal : LinearForm) → (cert : Cert)
    → closes facts tops goal cert ≡ true
    → (numbers : ℕ → ℕ) → Holds numbers facts tops → pos 0 ≤ℤ value_at numbers goal

-- a number from -n to n
abbrev pub Near : ℕ → ℤ → Type 0
Near n z = (neg_ℤ (pos n) ≤ℤ z) × (z ≤ℤ pos n)
