-- The trip form of a loop from one number to another: the first of some forms for which it is shown that there are no more turns.
use Rattle.std.specs.Prelude.{ℕ, zero, suc, ℤ, pos, List, [], ◌∷◌, ◌++◌, Option, Some, None, option_map}
use Rattle.std.specs.Option.{option_or}
use Rattle.side_certs.specs.LinearForm.{LinearForm, within, constant, symbol, minus}
use Rattle.sym_heap.specs.Context.{Context}
use Rattle.stmt_rules.specs.Loops.{entry_form}
use Rattle.stmt_rules.specs.Words.{flat}
use Rattle.stmt_rules.specs.rules.For.{spare_trips}
use Rattle.derive_search.specs.declared.trips.Trip.{Trip}
use Rattle.derive_search.specs.Kept.{certificate_of}

abbrev pub terms_as_args : List (ℕ × ℤ) → List ℤ
terms_as_args [] = []
terms_as_args (t ∷ ts) = pos t.0 ∷ t.1 ∷ terms_as_args ts

-- a form as the arguments of a node: its constant, and then symbols and coefficients in pairs
abbrev pub as_args : LinearForm → List ℤ
as_args f = f.constant ∷ terms_as_args f.terms

-- the certificate that there are no more turns
abbrev pub with_form : Context → LinearForm → LinearForm → List ℤ → Option LinearForm → Option Trip
with_form c low high args None = None
with_form c low high args (Some t) =
    option_map (λ k. record { args = args; form = t; cert = k }) (certificate_of c (spare_trips t low high))

-- arguments that are read as a trip form, of so many entry symbols
abbrev pub with_args : ℕ → Context → LinearForm → LinearForm → List ℤ → Option Trip
with_args entries c low high args = with_form c low high args (entry_form entries (flat args))

abbrev pub trip_of : ℕ → Context → LinearForm → LinearForm → LinearForm → Option Trip
trip_of entries c low high f = with_args entries c low high (as_args f)

abbrev pub first_trip : ℕ → Context → LinearForm → LinearForm → List LinearForm → Option Trip
first_trip entries c low high [] = None
first_trip entries c low high (f ∷ fs) = option_or (trip_of entries c low high f) (first_trip entries c low high fs)

-- Forms in the order in which they are tried.

abbrev pub at_most_one : Option LinearForm → List LinearForm
at_most_one None = []
at_most_one (Some f) = f ∷ []

-- the entry symbols
abbrev pub entry_symbols : ℕ → List LinearForm
entry_symbols zero = []
entry_symbols (suc n) = entry_symbols n ++ symbol n ∷ []

-- the greatest byte, the greatest number of two bytes and the greatest word
abbrev pub greatest : List LinearForm
greatest = constant (pos 255) ∷ constant (pos 65535) ∷ constant (pos 4294967295) ∷ []

-- the difference of the bounds, if it passes no limit, then the entry symbols and then the greatest numbers
abbrev pub candidates : ℕ → LinearForm → LinearForm → List LinearForm
candidates entries low high = (at_most_one (within (minus high low)) ++ entry_symbols entries) ++ greatest

-- with the number of entry symbols, which is the same in every context of a model
abbrev pub trip_for : ℕ → Context → LinearForm → LinearForm → Option Trip
trip_for entries c low high = first_trip entries c low high (candidates entries low high)
