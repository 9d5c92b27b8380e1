-- The sides of requirements as linear forms with at most 16 names and with numbers of at most 2^40. Nothing
-- shrinks from a part to the whole but under the factor 0, so each part is formed, and tested, by itself.
use Rattle.std.specs.Prelude.{ℕ, Bool, ◌&&◌, ◌+◌, ◌*◌, ◌^◌, nat_le, nat_eq, List, [], ◌∷◌, length, Result, Ok, Err, is_ok}
use Rattle.std.specs.Prelude.{if◌then◌else◌}
use Rattle.rup_base.specs.declared.refusal.TypeWhy.{TypeWhy}
use Rattle.rup_base.specs.declared.refusal.TypeWhy.TheVariants as why
use Rattle.model_syntax.specs.declared.stmt.Lin.{Lin, Lin-F, fold-Lin}
use Rattle.model_syntax.specs.declared.stmt.Lin.TheOpen as l
use Rattle.model_syntax.specs.declared.stmt.Le.{Le}
use Rattle.model_syntax.specs.declared.scope.Term.{Term}
use Rattle.model_syntax.specs.declared.scope.Linear.{Linear}
use Rattle.model_syntax.specs.Answer.{◌>>=◌}
use Rattle.model_syntax.specs.Names.{Name, same}

-- a factor or a constant
abbrev pub number : ℕ → Result ℕ TypeWhy
number n = if nat_le n (2 ^ 40) then Ok n else Err why.WideForm

-- terms of at most 16 names
abbrev pub few : List Term → Result (List Term) TypeWhy
few ts = if nat_le (length ts) 16 then Ok ts else Err why.WideForm

abbrev pub term : Name → ℕ → Term
term x k = record { name = x; factor = k }

-- the terms with k times x more
abbrev pub more : Name → ℕ → List Term → Result (List Term) TypeWhy
more x k [] = Ok (term x k ∷ [])
more x k (t ∷ ts) =
    if same t.name x
    then (do n ← number (t.factor + k); Ok (term t.name n ∷ ts))
    else (do rest ← more x k ts; Ok (t ∷ rest))

-- the terms and further ones, one by one
abbrev pub added : List Term → List Term → Result (List Term) TypeWhy
added ts [] = Ok ts
added ts (u ∷ us) = do
  sum ← more u.name u.factor ts
  kept ← few sum
  added kept us

-- k times each term
abbrev pub scaled : ℕ → List Term → Result (List Term) TypeWhy
scaled k [] = Ok []
scaled k (t ∷ ts) = do
  n ← number (k * t.factor)
  rest ← scaled k ts
  Ok (term t.name n ∷ rest)

abbrev pub form : ℕ → List Term → Linear
form n ts = record { constant = n; terms = ts }

-- k times a form; 0 times a form has no names
abbrev pub times : ℕ → Linear → Result Linear TypeWhy
times k p =
    if nat_eq k 0 then Ok (form 0 [])
    else (do n ← number (k * p.constant); ts ← scaled k p.terms; Ok (form n ts))

abbrev pub plus : Linear → Linear → Result Linear TypeWhy
plus p q = do
  n ← number (p.constant + q.constant)
  ts ← added p.terms q.terms
  Ok (form n ts)

abbrev pub linear_step : Lin-F (Result Linear TypeWhy) → Result Linear TypeWhy
linear_step (l.Const n) = Ok (form n [])
linear_step (l.Var x) = Ok (form 0 (term x 1 ∷ []))
linear_step (l.Sum p q) = do
  a ← p
  b ← q
  plus a b
linear_step (l.Scale k p) = do
  a ← p
  times k a

-- a side as a linear form, where it and each part of it keeps the limits
abbrev pub linear : Lin → Result Linear TypeWhy
linear = fold-Lin (Result Linear TypeWhy) linear_step

-- both sides of a fact keep the limits in each part
abbrev pub is_narrow : Le → Bool
is_narrow r = is_ok (linear r.low) && is_ok (linear r.high)
