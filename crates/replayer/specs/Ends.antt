-- The end of a derivation: what is asked of the context there, and where the results are.
use Rattle.std.specs.Prelude.{ℕ, nat_eq, Bool, true, false, ◌||◌, List, [], ◌∷◌, map, Option, Some, None}
use Rattle.std.specs.List.{list_all, list_any}
use Rattle.model_syntax.specs.declared.program.Param.{Param}
use Rattle.model_syntax.specs.declared.program.Ret.{Ret}
use Rattle.model_syntax.specs.declared.program.Ret.TheVariants as ret
use Rattle.model_syntax.specs.Entries.{number_among, param_name}
use Rattle.model_syntax.specs.Names.{Name}
use Rattle.sym_heap.specs.declared.parts.Held.{Held}
use Rattle.sym_heap.specs.declared.parts.Clause.{Clause}
use Rattle.sym_heap.specs.Context.{Context, scalar, own}

-- Arrays.

-- the number of the parameter of a name
abbrev pub number_of : List Param → Name → ℕ
number_of ps p = number_among p (map param_name ps)

abbrev pub is_of : ℕ → Option Clause → Bool
is_of p None = false
is_of p (Some k) = nat_eq k.param p

-- an array that is returned is that of its parameter
abbrev pub is_named : List Param → Context → Ret → Bool
is_named ps c (ret.Scalar x) = true
is_named ps c (ret.Array a p) = is_of (number_of ps p) (own c a)

abbrev pub are_named : List Param → List Ret → Context → Bool
are_named ps rs c = list_all (is_named ps c) rs

-- the result is the array of the parameter of this number
abbrev pub is_place : List Param → ℕ → Ret → Bool
is_place ps n (ret.Scalar x) = false
is_place ps n (ret.Array a p) = nat_eq (number_of ps p) n

abbrev pub is_returned : List Param → ℕ → List Ret → Bool
is_returned ps n rs = list_any (is_place ps n) rs

-- an array that is not returned was never written
abbrev pub is_kept : List Param → List Ret → Clause → Bool
is_kept ps rs k = is_returned ps k.param rs || nat_eq k.writes 0

abbrev pub are_kept : List Param → List Ret → Context → Bool
are_kept ps rs c = list_all (is_kept ps rs) c.clauses

-- Scalars.

abbrev pub with_local : Option Held → List ℕ → List ℕ
with_local None ls = ls
with_local (Some h) ls = h.local ∷ ls

-- the locals that have the scalar results; in a well typed model each has one
abbrev pub rets_of : Context → List Ret → List ℕ
rets_of c [] = []
rets_of c (ret.Scalar x ∷ rs) = with_local (scalar c x) (rets_of c rs)
rets_of c (ret.Array a p ∷ rs) = rets_of c rs
