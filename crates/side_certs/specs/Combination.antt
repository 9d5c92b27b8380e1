-- Forms by their symbols in order, and sums of multiples of forms.
use Rattle.std.specs.Prelude.{◌≡◌, ℕ, nat_le, if◌then◌else◌, ◌<◌, ◌≤◌, ⊤, ℤ, ◌+ℤ◌, ◌*ℤ◌, List, [], ◌∷◌, Option, Some, None, pos}
use Rattle.side_certs.specs.declared.combining.Part.{Part}
use Rattle.side_certs.specs.LinearForm.{LinearForm, constant, plus, times, coefficient}
use Rattle.side_certs.specs.Closes.{number_at}

-- the symbol is the given one or a greater one
abbrev pub IsFrom : ℕ → Option ℕ → Type 0
IsFrom least None = ⊤
IsFrom least (Some s) = least ≤ s

-- the symbol comes before the given one, if there is one
abbrev pub IsBefore : ℕ → Option ℕ → Type 0
IsBefore r None = ⊤
IsBefore r (Some s) = r < s

-- from the least on the given symbol, if there is one, is the first that may have a coefficient
pub record IsNext (f : LinearForm) (least : ℕ) (next : Option ℕ) : Type 0 where
  pub from : IsFrom least next
  pub before : (r : ℕ) → least ≤ r → IsBefore r next → coefficient r f.terms ≡ pos 0

-- the greatest number of forms in a sum
abbrev pub most_parts : ℕ
most_parts = 64

-- a number and multiples of forms, summed
abbrev pub sum : ℤ → List Part → LinearForm
sum k [] = constant k
sum k (p ∷ ps) = plus (times p.times p.form.now) (sum k ps)

-- the constant, or the coefficient of a symbol, of the multiples alone
abbrev pub parts_at : Option ℕ → List Part → ℤ
parts_at place [] = pos 0
parts_at place (p ∷ ps) = (p.times *ℤ number_at place p.form.now) +ℤ parts_at place ps

-- the lesser symbol
abbrev pub lesser : Option ℕ → Option ℕ → Option ℕ
lesser None b = b
lesser (Some s) None = Some s
lesser (Some s) (Some r) = Some (if nat_le s r then s else r)
