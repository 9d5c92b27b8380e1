-- The words that rules are made of. A rule says what it gives in a context, and the context after; or it has a first fault: a
-- node and a condition, or a node and the place of a certificate that does not close its goal.
use Rattle.std.specs.Prelude.{ℕ, ◌+◌, ℤ, pos, nat_abs, nat_eq, Bool, true, false, ◌&&◌, List, [], ◌∷◌, length, sum, map, Option}
use Rattle.std.specs.Prelude.{Some, None, option_and_then, Result, Ok, Err, if◌then◌else◌}
use Rattle.std.specs.Int.Signed.{le_z}
use Rattle.rup_base.specs.Answers.{and_then_with}
use Rattle.rup_base.specs.declared.refusal.Refusal.{Refusal}
use Rattle.rup_base.specs.declared.refusal.Refusal.TheVariants.{NoInstance, BadCertificate}
use Rattle.side_certs.specs.LinearForm.{LinearForm, constant, symbol, plus, times, within}
use Rattle.side_certs.specs.Closes.{closes}
use Rattle.side_certs.specs.declared.certificate.Cert.{Cert}
use Rattle.model_syntax.specs.declared.expr.Expr.{Expr}
use Rattle.sym_heap.specs.Context.{Context, has_symbol, with_top, has_room, with_fact}
use Rattle.deriv_tree.specs.declared.tree.Step.{Step}
use Rattle.bed_syntax.specs.declared.expression.BExpr.{BExpr}
use Rattle.expr_rules.specs.declared.output.ExprOut.{ExprOut}

abbrev pub Rule : Type 0 → Type 0
Rule A = Context → Result (A × Context) Refusal

infixl 10 ◌>>=◌
-- one after the other: the second finds the context as the first left it
abbrev pub ◌>>=◌ : {A B : Type 0} → Rule A → (A → Rule B) → Rule B
(first >>= next) c = and_then_with (first c) next

-- the value, and the context as it is
abbrev pub give : {A : Type 0} → A → Rule A
give a c = Ok (a, c)

abbrev pub refuse : {A : Type 0} → ℕ → ℕ → Rule A
refuse at cond c = Err (NoInstance at cond)

-- an answer in which the context has no part
abbrev pub answered : {A : Type 0} → Result A Refusal → Rule A
answered (Ok a) c = Ok (a, c)
answered (Err refusal) c = Err refusal

abbrev pub asked : Bool → ℕ → ℕ → Result (Unit {0}) Refusal
asked true at cond = Ok tt
asked false at cond = Err (NoInstance at cond)

-- a condition
abbrev pub need : Bool → ℕ → ℕ → Rule (Unit {0})
need holds at cond = answered (asked holds at cond)

abbrev pub there : {A : Type 0} → Option A → ℕ → ℕ → Result A Refusal
there (Some a) at cond = Ok a
there None at cond = Err (NoInstance at cond)

-- what has to be there
abbrev pub found : {A : Type 0} → Option A → ℕ → ℕ → Rule A
found o at cond = answered (there o at cond)

-- a form that the rule makes is within the limits of forms
abbrev pub made : ℕ → LinearForm → Rule LinearForm
made at f = found (within f) at 3

-- the first certificate closes the goal
abbrev pub closed : Context → LinearForm → List Cert → Bool
closed c goal [] = false
closed c goal (k ∷ ks) = closes c.facts c.tops goal k

abbrev pub certified : ℕ → Bool → Result (Unit {0}) Refusal
certified at true = Ok tt
certified at false = Err (BadCertificate at 0)

-- the next certificate of the node, which has one, shows that the form is at least 0
abbrev pub cert : ℕ → List Cert → LinearForm → Rule (Unit {0})
cert at certs goal c = answered (certified at (closed c goal certs)) c

-- the same of a form that the rule makes
abbrev pub shown_there : ℕ → List Cert → Option LinearForm → Rule (Unit {0})
shown_there at certs o = do
  goal ← found o at 3
  cert at certs goal

abbrev pub shown : ℕ → List Cert → LinearForm → Rule (Unit {0})
shown at certs goal = shown_there at certs (within goal)

-- a further symbol with this top
abbrev pub fresh : ℕ → ℕ → Rule LinearForm
fresh at top c = if has_symbol c then Ok (symbol (length c.tops), with_top top c) else Err (NoInstance at 3)

-- a further fact
abbrev pub added : ℕ → LinearForm → Rule (Unit {0})
added at f c = if has_room c then Ok (tt, with_fact f c) else Err (NoInstance at 3)

abbrev pub fact_there : ℕ → Option LinearForm → Rule (Unit {0})
fact_there at o = do
  f ← found o at 3
  added at f

-- a fact that the rule makes
abbrev pub fact : ℕ → LinearForm → Rule (Unit {0})
fact at f = fact_there at (within f)

-- a number and multiples of forms, summed; the last one is added first
abbrev pub sum_of : ℤ → List (ℤ × LinearForm) → LinearForm
sum_of k [] = constant k
sum_of k (p ∷ ps) = plus (times p.0 p.1) (sum_of k ps)

-- the greatest word
abbrev pub most : ℕ
most = 4294967295

-- code and form of an expression that is no flag
abbrev pub plain : BExpr → LinearForm → ExprOut
plain code f = record { code = code; form = f; yes = []; no = [] }

-- code whose value is a further symbol with this top
abbrev pub fresh_result : ℕ → ℕ → BExpr → Rule ExprOut
fresh_result at top code = do
  s ← fresh at top
  give (plain code s)

-- the number that a form is
abbrev pub number_of : LinearForm → Option ℤ
number_of f = if nat_eq (length f.terms) 0 then Some f.constant else None

abbrev pub in_range : ℕ → ℕ → ℤ → Option ℕ
in_range low high k = if le_z (pos low) k && le_z k (pos high) then Some (nat_abs k) else None

-- the number that a form is, from a least to a greatest one
abbrev pub number_in : ℕ → ℕ → LinearForm → Option ℕ
number_in low high f = option_and_then (in_range low high) (number_of f)

-- What a node's derivation says of an expression: how many nodes it has, and from the number of the first, the expression's
-- code and form, or the first fault.
pub record Judged : Type 0 where
  pub size : ℕ
  pub row : ℕ → Expr → Rule ExprOut

-- the number of nodes
abbrev pub sizes : List Judged → ℕ
sizes kids = sum (map (λ k. k.size) kids)

-- so many arguments and certificates
abbrev pub has_counts : Step → ℕ → ℕ → Bool
has_counts step args certs = nat_eq (length step.args) args && nat_eq (length step.certs) certs

abbrev pub counted : Step → ℕ → ℕ → ℕ → Rule (Unit {0})
counted step args certs at = need (has_counts step args certs) at 2

-- the kids, which are none, one or two
abbrev pub are_none : {A : Type 0} → List A → Bool
are_none [] = true
are_none (x ∷ xs) = false

abbrev pub no_kid : List Judged → ℕ → Rule (Unit {0})
no_kid kids at = need (are_none kids) at 1

abbrev pub one_kid : List Judged → ℕ → Expr → Rule ExprOut
one_kid (k ∷ []) at x c = k.row (at + 1) x c
one_kid kids at x c = Err (NoInstance at 1)

-- two of them, of which the first has the number `first`
abbrev pub pair : Judged → Judged → ℕ → Expr → Expr → Rule (ExprOut × ExprOut)
pair k l first x y = do
  p ← k.row first x
  q ← l.row (first + k.size) y
  give (p, q)

abbrev pub two_kids : List Judged → ℕ → Expr → Expr → Rule (ExprOut × ExprOut)
two_kids (k ∷ l ∷ []) at x y = pair k l (at + 1) x y
two_kids kids at x y = refuse at 1
