-- Linear forms over symbols: what they are, their limits, and their sum, difference and multiples over the whole numbers.
use Rattle.std.specs.Prelude.{ℕ, ◌+◌, ◌^◌, Bool, true, not, ◌&&◌, ◌||◌, List, [], ◌∷◌, ◌++◌, length, Option, Some, None, ℤ, pos}
use Rattle.std.specs.Prelude.{negsuc, ◌+ℤ◌, ◌*ℤ◌, nat_abs, nat_le, nat_lt, nat_eq, if◌then◌else◌}
use Rattle.std.specs.Ordering.{int_eq}

-- a constant, and a coefficient for each symbol, in the order of the symbols
pub record LinearForm : Type 0 where
  pub constant : ℤ
  pub terms : List (ℕ × ℤ)

-- the greatest magnitude of a constant and of a coefficient
abbrev pub greatest_number : ℕ
greatest_number = 2 ^ 40

-- the greatest number of symbols
abbrev pub most_terms : ℕ
most_terms = 16

abbrev pub is_small : ℤ → Bool
is_small k = nat_le (nat_abs k) greatest_number

abbrev pub all_small : List (ℕ × ℤ) → Bool
all_small [] = true
all_small (t ∷ ts) = is_small t.1 && all_small ts

-- the form passes no limit
abbrev pub is_within : LinearForm → Bool
is_within f = is_small f.constant && nat_le (length f.terms) most_terms && all_small f.terms

-- the symbols rise, the first from the least on, and no coefficient is 0
abbrev pub rises_from : ℕ → List (ℕ × ℤ) → Bool
rises_from least [] = true
rises_from least (t ∷ ts) = nat_le least t.0 && not (int_eq t.1 (pos 0)) && rises_from (t.0 + 1) ts

-- the form, if it passes no limit
abbrev pub within : LinearForm → Option LinearForm
within f = if is_within f then Some f else None

-- the number, which takes no symbol
abbrev pub constant : ℤ → LinearForm
constant k = record { constant = k; terms = [] }

-- one times the symbol
abbrev pub symbol : ℕ → LinearForm
symbol s = record { constant = pos 0; terms = (s, pos 1) ∷ [] }

-- the top of a symbol less the symbol
abbrev pub below : ℕ → ℕ → LinearForm
below top s = record { constant = pos top; terms = (s, negsuc 0) ∷ [] }

-- a term before others: one whose coefficient is 0 is left out
abbrev pub keep : ℕ → ℤ → List (ℕ × ℤ) → List (ℕ × ℤ)
keep s k ts = if int_eq k (pos 0) then ts else (s, k) ∷ ts

abbrev pub keep_all : List (ℕ × ℤ) → List (ℕ × ℤ)
keep_all [] = []
keep_all (t ∷ ts) = keep t.0 t.1 (keep_all ts)

-- the term t, and terms of which what follows t is added by rest
abbrev pub merge_into : ℕ × ℤ → (List (ℕ × ℤ) → List (ℕ × ℤ)) → List (ℕ × ℤ) → List (ℕ × ℤ)
merge_into t rest [] = keep t.0 t.1 (rest [])
merge_into t rest (u ∷ us) =
    if nat_lt t.0 u.0 then keep t.0 t.1 (rest (u ∷ us))
    else (if nat_eq t.0 u.0 then keep t.0 (t.1 +ℤ u.1) (rest us) else keep u.0 u.1 (merge_into t rest us))

-- the terms of both in the order of symbols, where a symbol of both has the sum of its coefficients
abbrev pub merge : List (ℕ × ℤ) → List (ℕ × ℤ) → List (ℕ × ℤ)
merge [] us = keep_all us
merge (t ∷ ts) us = merge_into t (merge ts) us

-- the sum of the forms
abbrev pub plus : LinearForm → LinearForm → LinearForm
plus f g = record { constant = f.constant +ℤ g.constant; terms = merge f.terms g.terms }

abbrev pub terms_times : ℤ → List (ℕ × ℤ) → List (ℕ × ℤ)
terms_times k [] = []
terms_times k (t ∷ ts) = keep t.0 (k *ℤ t.1) (terms_times k ts)

-- k times the form
abbrev pub times : ℤ → LinearForm → LinearForm
times k f = record { constant = k *ℤ f.constant; terms = terms_times k f.terms }

-- the difference of the forms
abbrev pub minus : LinearForm → LinearForm → LinearForm
minus f g = plus f (times (negsuc 0) g)

-- a term with this coefficient has room behind the form's terms
abbrev pub has_room : LinearForm → ℤ → Bool
has_room f k = int_eq k (pos 0) || (nat_lt (length f.terms) most_terms && is_small k)

-- the form with the term behind its terms
abbrev pub put_behind : LinearForm → ℕ → ℤ → LinearForm
put_behind f s k = record { constant = f.constant; terms = f.terms ++ keep s k [] }

-- what a term adds to the coefficient of a symbol
abbrev pub share : ℕ → ℕ × ℤ → ℤ
share s t = if nat_eq t.0 s then t.1 else pos 0

-- the coefficient of a symbol, 0 where no term has it
abbrev pub coefficient : ℕ → List (ℕ × ℤ) → ℤ
coefficient s [] = pos 0
coefficient s (t ∷ ts) = share s t +ℤ coefficient s ts

-- The value of a form where each symbol has a number of its own.

abbrev pub terms_at : (ℕ → ℕ) → List (ℕ × ℤ) → ℤ
terms_at numbers [] = pos 0
terms_at numbers (t ∷ ts) = (t.1 *ℤ pos (numbers t.0)) +ℤ terms_at numbers ts

abbrev pub value_at : (ℕ → ℕ) → LinearForm → ℤ
value_at numbers f = f.constant +ℤ terms_at numbers f.terms
