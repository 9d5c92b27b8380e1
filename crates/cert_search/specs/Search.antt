-- The search of certificates: which certificate a goal gets. The order in which entries are tried, and how many of them, are
-- this project's own choice; a certificate is right because it closes its goal, and not by how it was found.
--
-- A goal without symbols is judged by its sign. For any other goal an entry is chosen that takes the least symbol out of it,
-- and what it leaves of the goal is searched in turn, to four entries in all.
use Rattle.std.specs.Prelude.{ℕ, zero, suc, not, ◌&&◌, ◌||◌, List, [], ◌∷◌, ◌++◌, length, take, slice_get}
use Rattle.std.specs.Prelude.{Option, Some, None, option_map, ℤ, pos, neg_ℤ, nat_abs, if◌then◌else◌}
use Rattle.std.specs.Option.{option_and_then, option_or}
use Rattle.std.specs.List.{filter_map}
use Rattle.std.specs.Int.Signed.{le_z}
use Rattle.std.specs.Int.RustNames.{int_div, int_rem}
use Rattle.std.specs.Ordering.{int_eq}
use Rattle.side_certs.specs.declared.certificate.Cert.{Cert}
use Rattle.side_certs.specs.declared.certificate.Entry.{Entry}
use Rattle.side_certs.specs.LinearForm.{LinearForm, coefficient, within, minus, times}
use Rattle.side_certs.specs.Closes.{greatest_multiplier, form_of}

-- the greatest number of entries, one after the other
abbrev pub levels : ℕ
levels = 4

-- the greatest number of facts that are tried for a goal
abbrev pub most_facts : ℕ
most_facts = 16

-- the number as a multiplier: none below 1 or over the greatest
abbrev pub multiplier : ℤ → Option ℕ
multiplier m = if le_z (pos 1) m && le_z m (pos greatest_multiplier) then Some (nat_abs m) else None

-- how many times k is c, where that is a multiplier: none where k doesn't divide c
abbrev pub quotient : ℤ → ℤ → Option ℕ
quotient c k = if int_eq k (pos 0) || not (int_eq (int_rem c k) (pos 0)) then None else multiplier (int_div c k)

abbrev pub entry : ℕ → ℕ → Option ℕ → Option Entry
entry kind number o = option_map (λ m. record { kind = kind; number = number; mult = m }) o

-- the entry of a fact that takes the term out of a goal
abbrev pub fact_entry : List LinearForm → ℕ × ℤ → ℕ → Option Entry
fact_entry facts t i = option_and_then (λ f. entry 0 i (quotient t.1 (coefficient t.0 f.terms))) (slice_get facts i)

-- the numbers below n, the greatest first
abbrev pub newest : ℕ → List ℕ
newest zero = []
newest (suc n) = n ∷ newest n

-- the entries of the first n facts that take the term out of a goal, from the newest fact to the oldest
abbrev pub fitting : List LinearForm → ℕ × ℤ → ℕ → List Entry
fitting facts t n = filter_map (fact_entry facts t) (newest n)

-- the same of the term's symbol, where it has a top: of the symbol itself, or else of its top less the symbol
abbrev pub symbol_entry : List ℕ → ℕ × ℤ → Option Entry
symbol_entry tops t =
    option_and_then (λ top. option_or (entry 1 t.0 (multiplier t.1)) (entry 2 t.0 (multiplier (neg_ℤ t.1)))) (slice_get tops t.0)

abbrev pub at_most_one : Option Entry → List Entry
at_most_one None = []
at_most_one (Some e) = e ∷ []

-- the entries that are tried for a goal with this least term, in their order
abbrev pub candidates : List LinearForm → List ℕ → ℕ × ℤ → List Entry
candidates facts tops t = take most_facts (fitting facts t (length facts)) ++ at_most_one (symbol_entry tops t)

-- what the entry leaves of the goal: the goal less the entry's form, times its multiplier, if that passes no limit of forms
abbrev pub next_goal : List LinearForm → List ℕ → LinearForm → Entry → Option LinearForm
next_goal facts tops goal e =
    option_and_then (λ f. within (minus goal (times (pos e.mult) f))) (form_of facts tops e.kind e.number)

-- the entry, and then those by which what it leaves of the goal closes
abbrev pub beginning : (LinearForm → Option (List Entry)) → (Entry → Option LinearForm) → Entry → Option (List Entry)
beginning next leaves e = option_map (λ es. e ∷ es) (option_and_then next (leaves e))

-- what the first candidate gives that gives anything
abbrev pub first_of : (Entry → Option (List Entry)) → List Entry → Option (List Entry)
first_of attempt [] = None
first_of attempt (e ∷ es) = option_or (attempt e) (first_of attempt es)

-- the entries that the first candidate for the term begins with which leaves a goal that closes
abbrev pub taken : (LinearForm → Option (List Entry)) → List LinearForm → List ℕ → LinearForm → ℕ × ℤ → Option (List Entry)
taken next facts tops goal t = first_of (beginning next (next_goal facts tops goal)) (candidates facts tops t)

-- a goal without terms closes with no entry where its constant is at least 0
abbrev pub by_least : (ℕ × ℤ → Option (List Entry)) → ℤ → List (ℕ × ℤ) → Option (List Entry)
by_least next constant [] = if le_z (pos 0) constant then Some [] else None
by_least next constant (t ∷ ts) = next t

-- the entries by which a goal closes, where there are at most so many
abbrev pub entries : List LinearForm → List ℕ → ℕ → LinearForm → Option (List Entry)
entries facts tops zero goal = by_least (λ t. None) goal.constant goal.terms
entries facts tops (suc n) goal = by_least (taken (entries facts tops n) facts tops goal) goal.constant goal.terms

-- the certificate that a goal gets
abbrev pub found : List LinearForm → List ℕ → LinearForm → Option Cert
found facts tops goal = option_map (λ es. record { d = 1; entries = es }) (entries facts tops levels goal)
