-- The words of rules that have blocks: how a block begins, what has to hold at its end, and what the context after it takes over.
use Rattle.std.specs.Prelude.{ℕ, ◌+◌, nat_eq, Bool, true, false, ◌&&◌, ◌||◌, List, [], ◌∷◌, Option, Some, None, is_some, Result}
use Rattle.std.specs.Prelude.{Ok, Err, if◌then◌else◌}
use Rattle.std.specs.List.{find, list_any, list_all}
use Rattle.rup_base.specs.Word.{counted}
use Rattle.rup_base.specs.declared.refusal.Refusal.{Refusal}
use Rattle.rup_base.specs.declared.refusal.Refusal.TheVariants.{BadCertificate}
use Rattle.side_certs.specs.LinearForm.{LinearForm, within}
use Rattle.side_certs.specs.Closes.{closes}
use Rattle.side_certs.specs.declared.certificate.Cert.{Cert}
use Rattle.model_syntax.specs.Names.{Name, same, listed}
use Rattle.model_syntax.specs.declared.expr.Scalar.{Scalar}
use Rattle.model_syntax.specs.declared.stmt.Le.{Le}
use Rattle.sym_heap.specs.declared.parts.Held.{Held}
use Rattle.sym_heap.specs.declared.parts.Clause.{Clause}
use Rattle.sym_heap.specs.Context.{Context, is_scalar, is_clause, top_of, held, with_scalar}
use Rattle.sym_heap.specs.Ends.{Standing, standing, restored, of_param, with_ends}
use Rattle.sym_heap.specs.Sides.{form_in, difference}
use Rattle.sym_heap.specs.Turns.{reserving, unlisted_locals}
use Rattle.expr_rules.specs.Words.{Rule, ◌>>=◌, give, answered, found, fresh, added, fact}

-- the context as it is
abbrev pub now : Rule Context
now c = Ok (c, c)

-- How a block begins.

-- further facts, which are within the limits
abbrev pub all_added : ℕ → List LinearForm → Rule (Unit {0})
all_added at [] = give tt
all_added at (f ∷ fs) = do
  _ ← added at f
  all_added at fs

-- the locals of the scalars that are not listed, of those that stood, are reserved
abbrev pub unlisted_reserved : List Name → List Held → Rule (Unit {0})
unlisted_reserved names scalars c = Ok (tt, reserving (unlisted_locals names scalars) c)

-- Facts that are kept.

-- the form of a name at an end: its own there where it is listed, else that of before
abbrev pub end_form : List Name → List Held → List Held → Name → LinearForm
end_form names ends others x = if list_any (λ y. same y x) names then form_in ends x else form_in others x

-- the certificate, which is the one at a place of the node's list, closes the goal
abbrev pub closing : ℕ → ℕ → Bool → Result (Unit {0}) Refusal
closing at place true = Ok tt
closing at place false = Err (BadCertificate at place)

abbrev pub closes_at : ℕ → ℕ → Cert → LinearForm → Rule (Unit {0})
closes_at at place k goal c = answered (closing at place (closes c.facts c.tops goal k)) c

-- the form, which the rule makes, is at least 0 by the certificate at the place
abbrev pub shown_at : ℕ → ℕ → Cert → Option LinearForm → Rule (Unit {0})
shown_at at place k o = do
  goal ← found o at 3
  closes_at at place k goal

-- With these forms for its names each fact is at least 0, by the certificates in order from the place on; a node has as many as
-- its rule asks for. A place past the greatest word counts as that.
abbrev pub all_shown : ℕ → ℕ → List Cert → (Name → LinearForm) → List Le → Rule (Unit {0})
all_shown at place certs form [] = give tt
all_shown at place [] form (r ∷ rs) = answered (closing at place false)
all_shown at place (k ∷ ks) form (r ∷ rs) = do
  _ ← shown_at at place k (within (difference form r))
  all_shown at (counted (place + 1)) ks form rs

-- a fact with the forms that the scalars have, and so each
abbrev pub kept_fact : ℕ → Le → Rule (Unit {0})
kept_fact at r c = fact at (difference (form_in c.scalars) r) c

abbrev pub all_kept : ℕ → List Le → Rule (Unit {0})
all_kept at [] = give tt
all_kept at (r ∷ rs) = do
  _ ← kept_fact at r
  all_kept at rs

-- Ends.

-- the array has the name and the writes that it had
abbrev pub is_as_before : Option Clause → Clause → Bool
is_as_before None k = false
is_as_before (Some b) k = same b.name k.name && nat_eq b.writes k.writes

-- a clause at an end whose name is not listed is as before
abbrev pub is_kept : List Name → List Clause → Clause → Bool
is_kept names before k = listed k.name names || is_as_before (of_param k.param before) k

abbrev pub unlisted_kept : List Name → List Clause → List Clause → Bool
unlisted_kept names before ends = list_all (is_kept names before) ends

-- what stands at the end; the context goes back to what stood before, but for symbols
abbrev pub ended : Standing → Rule Standing
ended before c = Ok (standing c, restored before c)

-- After two ends.

abbrev pub same_local : Option Held → Option Held → Bool
same_local None None = true
same_local (Some h) (Some l) = nat_eq h.local l.local
same_local o p = false

abbrev pub stands_alike : Standing → Standing → Name → Bool
stands_alike one two y = same_local (find (is_scalar y) one.scalars) (find (is_scalar y) two.scalars)

abbrev pub same_param : Option Clause → Option Clause → Bool
same_param (Some k) (Some l) = nat_eq k.param l.param
same_param o p = false

-- a scalar, or an array of the same parameter at both
abbrev pub is_array_alike : Standing → Standing → Name → Bool
is_array_alike one two y =
    is_some (find (is_scalar y) one.scalars) || same_param (find (is_clause y) one.clauses) (find (is_clause y) two.clauses)

-- listed arrays have their names of the ends, and the greater writes
abbrev pub taken : List Name → Standing → Standing → Rule (Unit {0})
taken names one two c = Ok (tt, with_ends names one two c)

-- the name's scalar has this local, form and type
abbrev pub placed : Name → ℕ → LinearForm → Scalar → Rule (Unit {0})
placed y l f t c = Ok (tt, with_scalar (held y l f t) c)

-- a scalar has a fresh symbol, in its local
abbrev pub renewed : ℕ → Name → Option Held → Rule (Unit {0})
renewed at y None = give tt
renewed at y (Some h) = do
  s ← fresh at (top_of h.kind)
  placed y h.local s h.kind

-- each listed scalar has a fresh symbol in the local where it stands there
abbrev pub all_renewed : ℕ → List Name → List Held → Rule (Unit {0})
all_renewed at [] ends = give tt
all_renewed at (y ∷ ys) ends = do
  _ ← renewed at y (find (is_scalar y) ends)
  all_renewed at ys ends
