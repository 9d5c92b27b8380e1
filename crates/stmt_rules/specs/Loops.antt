-- What the rules of loops share: their arguments, the commands around a loop's body, and the facts and names of its turns. A
-- loop counts in one local from a least number on, as long as that is below the number in another.
use Rattle.std.specs.Prelude.{ℕ, ℤ, pos, nat_eq, nat_lt, Bool, true, false, ◌&&◌, ◌||◌, List, [], ◌∷◌, ◌++◌, drop, Option, Some}
use Rattle.std.specs.Prelude.{None, Ok, if◌then◌else◌}
use Rattle.std.specs.Int.Signed.{le_z}
use Rattle.std.specs.List.{list_all}
use Rattle.std.specs.Option.{unwrap_or}
use Rattle.side_certs.specs.LinearForm.{LinearForm, constant, plus}
use Rattle.model_syntax.specs.declared.expr.Scalar.{Scalar}
use Rattle.model_syntax.specs.declared.expr.Scalar.TheVariants.{Word, Byte}
use Rattle.model_syntax.specs.declared.stmt.Le.{Le}
use Rattle.model_syntax.specs.Names.{Name, same, listed}
use Rattle.sym_heap.specs.declared.parts.Clause.{Clause}
use Rattle.sym_heap.specs.Context.{Context, is_free, with_reserved}
use Rattle.sym_heap.specs.Ends.{of_param}
use Rattle.sym_heap.specs.Sides.{names}
use Rattle.bed_syntax.specs.declared.operation.BOp.TheVariants as bop
use Rattle.bed_syntax.specs.declared.expression.BExpr.{BExpr}
use Rattle.bed_syntax.specs.declared.expression.BExpr.TheVariants as b
use Rattle.bed_syntax.specs.declared.command.Cmd.{Cmd, roll-Cmd}
use Rattle.bed_syntax.specs.declared.command.Cmd.TheOpen as c
use Rattle.expr_rules.specs.Elements.{size_of, address}
use Rattle.expr_rules.specs.Words.{Rule, ◌>>=◌, need, give, found}
use Rattle.expr_rules.specs.rules.Len as len
use Rattle.stmt_rules.specs.Nesting.{kept_fact}
use Rattle.stmt_rules.specs.Words.{first_local, flat}

-- Arguments.

-- the local that is the argument of this place
abbrev pub local_arg : ℕ → List ℤ → Option ℕ
local_arg place args = first_local (drop place args)

-- a term of an entry symbol, with no negative coefficient
abbrev pub is_entry_term : ℕ → ℕ × ℤ → Bool
is_entry_term entries t = nat_lt t.0 entries && le_z (pos 0) t.1

-- no number is negative, and only entry symbols occur
abbrev pub is_entry_form : ℕ → LinearForm → Bool
is_entry_form entries f = le_z (pos 0) f.constant && list_all (is_entry_term entries) f.terms

-- each of the trip forms is one
abbrev pub are_entries : ℕ → List LinearForm → Bool
are_entries entries ts = list_all (is_entry_form entries) ts

abbrev pub entry_form : ℕ → Option LinearForm → Option LinearForm
entry_form entries None = None
entry_form entries (Some f) = if is_entry_form entries f then Some f else None

-- a trip form as arguments
abbrev pub trip_form : ℕ → List ℤ → Rule LinearForm
trip_form at args before = found (entry_form before.entries (flat args)) at 3 before

-- the local is not reserved, and no scalar has it
abbrev pub is_unused : Context → ℕ → Bool
is_unused before l = is_free before l None

-- a further local that no scalar may take
abbrev pub reserved : ℕ → Rule (Unit {0})
reserved l before = Ok (tt, with_reserved l before)

-- Commands.

-- the count is below the last number
abbrev pub is_below : ℕ → ℕ → BExpr
is_below li lh = b.Bin bop.Ltu (b.Var li) (b.Var lh)

-- one more in a local
abbrev pub increased : ℕ → Cmd
increased li = roll-Cmd (c.Set li (b.Bin bop.Add (b.Var li) (b.Lit 1)))

-- the commands of a turn, and then the count
abbrev pub turn_of : ℕ → List Cmd → Cmd
turn_of li cmds = roll-Cmd (c.Seq (cmds ++ increased li ∷ []))

-- from one number in the first local to another in the second
abbrev pub counting : ℕ → ℕ → BExpr → BExpr → List Cmd → List Cmd
counting li lh low high cmds =
    roll-Cmd (c.Set li low) ∷ roll-Cmd (c.Set lh high) ∷ roll-Cmd (c.While (is_below li lh) (turn_of li cmds)) ∷ []

-- Arrays.

-- the number of elements, or the local that has it
abbrev pub length_code : ℕ → Clause → Rule BExpr
length_code at k = found (len.code k) at 4

-- the length, which is the trip form, mentions only entry symbols, as it does in every derivation
abbrev pub has_trips : ℕ → Clause → Rule (Unit {0})
has_trips at k before = need (is_entry_form before.entries k.length) at 4 before

-- the address of the element of the count
abbrev pub place_of : Clause → ℕ → BExpr
place_of k li = address k (b.Var li)

-- the element of the count goes to a local
abbrev pub loaded : Clause → ℕ → ℕ → Cmd
loaded k li lx = roll-Cmd (c.Set lx (b.Load (size_of k.size) (place_of k li)))

-- the type of the elements of an array, which have one byte or four
abbrev pub element_kind : Clause → Scalar
element_kind k = if nat_eq k.size 1 then Byte else Word

-- Facts.

-- the forms of names, one of which is given
abbrev pub given_first : Name → LinearForm → (Name → LinearForm) → Name → LinearForm
given_first x f others y = unwrap_or (if same x y then Some f else None) (others y)

-- one more
abbrev pub one_more : LinearForm → LinearForm
one_more f = plus (constant (pos 1)) f

-- the name stands in the fact, also under a factor 0
abbrev pub mentions : Name → Le → Bool
mentions x r = listed x (names r.low) || listed x (names r.high)

-- a kept fact becomes one of the context unless it mentions a name
abbrev pub kept_unless : Bool → ℕ → Le → Rule (Unit {0})
kept_unless true at r = give tt
kept_unless false at r = kept_fact at r

-- the facts that do not mention the name
abbrev pub all_kept_but : ℕ → Name → List Le → Rule (Unit {0})
all_kept_but at x [] = give tt
all_kept_but at x (r ∷ rs) = do
  _ ← kept_unless (mentions x r) at r
  all_kept_but at x rs

-- Ends.

-- the array has its name of before, and its writes too unless that is listed
abbrev pub is_named_as_before : List Name → Option Clause → Clause → Bool
is_named_as_before xs None k = false
is_named_as_before xs (Some j) k = same j.name k.name && (listed k.name xs || nat_eq j.writes k.writes)

abbrev pub stays_named : List Name → List Clause → Clause → Bool
stays_named xs before k = is_named_as_before xs (of_param k.param before) k

abbrev pub all_named : List Name → List Clause → List Clause → Bool
all_named xs before ends = list_all (stays_named xs before) ends
