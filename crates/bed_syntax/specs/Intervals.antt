-- Intervals over the points of a piece of code, as linear-scan register allocation takes them (Poletto and Sarkar, Linear Scan
-- Register Allocation, TOPLAS 21(5), 1999): one for each variable, from the first point that it is marked at to the last.
use Rattle.std.specs.Prelude.{ℕ, zero, suc, ◌+◌, Bool, false, ◌||◌, ◌&&◌, nat_le, nat_lt, List, [], ◌∷◌, ◌++◌, length, map}
use Rattle.std.specs.Prelude.{if◌then◌else◌}
use Rattle.rup_base.specs.Gather.{greatest}

-- a point: the variables that are marked there, which are those that occur there and those whose interval it is made to reach
abbrev pub Point : Type 0
Point = ℕ → Bool

-- a variable is marked at one of the points at least
abbrev pub some : List Point → Point
some [] x = false
some (p ∷ ps) x = p x || some ps x

-- the points of a loop: what is marked at one of them is marked at each
abbrev pub throughout : List Point → List Point
throughout ps = map (λ p. some ps) ps

-- the points of a whole: the entry before its body's, the end behind them. The entry marks the arguments that occur or are
-- returned, and what is read before it is set; the end marks what is returned.
abbrev pub with_ends : ℕ → Point → Point → List Point → List Point
with_ends args returned early body =
    (λ x. (nat_lt x args && (some body x || returned x)) || early x) ∷ (body ++ (λ x. returned x) ∷ [])

-- the number of the first point that marks a variable
abbrev pub first : List Point → ℕ → ℕ
first [] x = 0
first (p ∷ ps) x = if p x then 0 else first ps x + 1

-- the number after that of the last point that marks it, 0 where none does
abbrev pub past_last : List Point → ℕ → ℕ
past_last [] x = 0
past_last (p ∷ ps) x = if some ps x then past_last ps x + 1 else if p x then 1 else 0

-- the interval of a variable covers the point of a number
abbrev pub covers : List Point → ℕ → ℕ → Bool
covers ps q x = nat_le (first ps x) q && nat_lt q (past_last ps x)

-- how many of the variables meet a test
abbrev pub count : (ℕ → Bool) → List ℕ → ℕ
count test [] = 0
count test (x ∷ xs) = (if test x then 1 else 0) + count test xs

-- as many numbers, from the first on
abbrev pub from : ℕ → ℕ → List ℕ
from k zero = []
from k (suc n) = k ∷ from (k + 1) n

-- the greatest number of the variables' intervals that cover one point
abbrev pub most_covering : List Point → List ℕ → ℕ
most_covering ps xs = greatest (map (λ q. count (covers ps q) xs) (from 0 (length ps)))
