-- Which local a name gets. The home of a parameter or length name is its argument's local; the homes of the names that statements
-- bind come after those, in the order of first sight; and past all homes are locals without a home's name.
use Rattle.std.specs.Prelude.{ℕ, zero, suc, ◌+◌, ◌-◌, nat_le, Bool, not, ◌&&◌, List, [], length, Option, Some, None, option_map}
use Rattle.std.specs.Prelude.{if◌then◌else◌}
use Rattle.std.specs.Option.{option_or}
use Rattle.std.specs.List.{find, position_from}
use Rattle.model_syntax.specs.Names.{Name, same}
use Rattle.sym_heap.specs.declared.parts.Held.{Held}
use Rattle.sym_heap.specs.Context.{Context, has, is_scalar, is_free, scalar}
use Rattle.stmt_rules.specs.Words.{most_local}
use Rattle.derive_search.specs.declared.locals.Homes as code

-- the scalars of the arguments, the names that statements bind, and the number of arguments
pub record Homes : Type 0 where
  pub params : List Held
  pub names : List Name
  pub args : ℕ

-- what a call is given
abbrev pub given : code.Homes → Homes
given h = record { params = h.params.now; names = h.names.now; args = h.args }

abbrev pub local_of : Held → ℕ
local_of h = h.local

-- the home of a name
abbrev pub home : Homes → Name → Option ℕ
home h x =
    option_or (option_map local_of (find (is_scalar x) h.params))
    (option_map (λ k. h.args + k) (position_from (same x) 0 h.names))

-- the first local past all homes
abbrev pub base : Homes → ℕ
base h = h.args + length h.names

-- the local is in the range of arguments, and free for the name; where none is given no scalar has it
abbrev pub may_take : Context → Option Name → ℕ → Bool
may_take c x l = nat_le l most_local && is_free c l x

abbrev pub passing : (ℕ → Bool) → Option ℕ → Option ℕ
passing test None = None
passing test (Some l) = if test l then Some l else None

-- the first of so many numbers that passes
abbrev pub least : (ℕ → Bool) → ℕ → ℕ → Option ℕ
least test zero l = None
least test (suc more) l = if test l then Some l else least test more (l + 1)

abbrev pub present : Context → Name → Option ℕ
present c x = option_map local_of (scalar c x)

-- the same, and the local isn't taken yet
abbrev pub is_left : List ℕ → Context → Option Name → ℕ → Bool
is_left taken c x l = not (has l taken) && may_take c x l

-- the least local past all homes that may be taken and isn't taken yet
abbrev pub past_homes : Homes → List ℕ → Option Name → Context → Option ℕ
past_homes h taken x c = least (is_left taken c x) (most_local + 1 - base h) (base h)

-- The local of a name that a node gives a value, where the node has taken these: the one that the name has, or its home, or else
-- the least past all homes. Only the last is asked not to be taken yet.
abbrev pub choice_after : Homes → List ℕ → Name → Context → Option ℕ
choice_after h taken x c =
    option_or (passing (may_take c (Some x)) (present c x))
    (option_or (passing (may_take c (Some x)) (home h x)) (past_homes h taken (Some x) c))

-- where it has taken none
abbrev pub choice : Homes → Name → Context → Option ℕ
choice h x c = choice_after h [] x c

-- the local of the name of a count or of an element, which is the first that its node takes: a free one
abbrev pub new_choice : Homes → Name → Context → Option ℕ
new_choice h x c = option_or (passing (may_take c None) (home h x)) (past_homes h [] None c)

-- a further local of a node, without a name
abbrev pub further : Homes → List ℕ → Context → Option ℕ
further h taken c = past_homes h taken None c
