-- s-for [li, lh, T..]: two kids, the bounds lo and hi, and a block, whose name x counts in local li from lo on, below hi in local
-- lh. T is the trip form, as its constant and then symbols and coefficients in pairs. Condition 3, before the kids: li and lh are
-- locals, and T is a form with no negative number and only entry symbols. 4, after both kids: li and lh are free and differ. Then
-- come the certificates: T less the number of turns; each kept fact at the start, x having the form of lo; and, at the block's
-- end, each kept fact with the forms of the end for listed scalars, those of the block's start for all others, and one more than
-- its symbol for x. The block begins with a fresh symbol for each listed scalar and then for x; the locals of scalars that are
-- not listed are reserved there, and so are li and lh; the facts there are the kept ones, x - lo and hi - x - 1. At the block's
-- end come in this order: 5, that every statement has its node; 6, that each listed scalar stands in the local of before; 7, that
-- each clause has its name of before, and its writes too unless that is listed; and the certificates. The context after is that
-- after hi, but that symbols stay, that listed scalars have fresh ones,
-- that clauses have the writes of the end, and that the kept
-- facts that do not mention x are added.
use Rattle.std.specs.Prelude.{ℕ, ◌+◌, ℤ, pos, negsuc, nat_eq, nat_le, Bool, not, ◌&&◌, List, [], ◌∷◌, length, drop}
use Rattle.std.specs.List.{find, list_all}
use Rattle.rup_base.specs.Word.{counted}
use Rattle.side_certs.specs.LinearForm.{LinearForm}
use Rattle.side_certs.specs.declared.certificate.Cert.{Cert}
use Rattle.model_syntax.specs.declared.expr.Scalar.TheVariants.{Word}
use Rattle.model_syntax.specs.declared.stmt.Le.{Le}
use Rattle.model_syntax.specs.Names.{Name}
use Rattle.sym_heap.specs.declared.parts.Held.{Held}
use Rattle.sym_heap.specs.Context.{Context, is_scalar, top_of}
use Rattle.sym_heap.specs.Ends.{Standing, standing}
use Rattle.sym_heap.specs.Sides.{form_in}
use Rattle.deriv_tree.specs.declared.tree.Step.{Step}
use Rattle.bed_syntax.specs.declared.expression.BExpr.{BExpr}
use Rattle.expr_rules.specs.declared.output.ExprOut.{ExprOut}
use Rattle.expr_rules.specs.Words.{Rule, ◌>>=◌, need, found, made, give, fresh, fact, shown, sum_of}
use Rattle.stmt_rules.specs.declared.loops.Counter.{Counter}
use Rattle.stmt_rules.specs.declared.output.StmtOut.{StmtOut}
use Rattle.stmt_rules.specs.Loops.{local_arg, trip_form, is_unused, reserved, counting, given_first, one_more, all_kept_but}
use Rattle.stmt_rules.specs.Loops.{all_named}
use Rattle.stmt_rules.specs.Nesting.{now, unlisted_reserved, end_form, all_shown, all_kept, ended, same_local, taken, placed}
use Rattle.stmt_rules.specs.Nesting.{all_renewed}

-- two locals and the constant of a form at least, one certificate for the trips and two for each fact
abbrev pub counts : Step → ℕ → Bool
counts step facts = nat_le 3 (length step.args) && nat_eq (length step.certs) (1 + facts + facts)

abbrev pub counter : ℕ → List ℤ → Rule Counter
counter at args = do
  li ← found (local_arg 0 args) at 3
  lh ← found (local_arg 1 args) at 3
  t ← trip_form at (drop 2 args)
  give (record { count = li; last = lh; trips = t })

-- Before the block.

-- the locals are free and differ
abbrev pub are_unused : Counter → Context → Bool
are_unused k c = is_unused c k.count && (is_unused c k.last && not (nat_eq k.count k.last))

-- the trip form less the number of turns
abbrev pub spare_trips : LinearForm → LinearForm → LinearForm → LinearForm
spare_trips t low high = sum_of (pos 0) ((pos 1, t) ∷ (negsuc 0, high) ∷ (pos 1, low) ∷ [])

-- what is shown at the start, with the forms that the scalars have
abbrev pub starts : ℕ → Name → List Le → List Cert → Counter → LinearForm → LinearForm → Rule (Unit {0})
starts at x keep certs k low high c = (do
  _ ← need (are_unused k c) at 4
  _ ← shown at certs (spare_trips k.trips low high)
  all_shown at 1 (drop 1 certs) (given_first x low (form_in c.scalars)) keep) c

-- the locals of the scalars that are not listed are reserved, and those of the loop
abbrev pub loop_reserved : List Name → Counter → List Held → Rule (Unit {0})
loop_reserved names k scalars = do
  _ ← unlisted_reserved names scalars
  _ ← reserved k.count
  reserved k.last

-- the count is at least the first number, and the last number is greater
abbrev pub from_low : LinearForm → LinearForm → LinearForm
from_low s low = sum_of (pos 0) ((pos 1, s) ∷ (negsuc 0, low) ∷ [])

abbrev pub below_high : LinearForm → LinearForm → LinearForm
below_high s high = sum_of (negsuc 0) ((pos 1, high) ∷ (negsuc 0, s) ∷ [])

-- the block begins, in a context of these scalars
abbrev pub begins : ℕ → Name → List Name → List Le → Counter → LinearForm → LinearForm → List Held → Rule (Unit {0})
begins at x names keep k low high scalars = do
  _ ← all_renewed at names scalars
  s ← fresh at (top_of Word)
  _ ← placed x k.count s Word
  _ ← loop_reserved names k scalars
  _ ← all_kept at keep
  _ ← fact at (from_low s low)
  fact at (below_high s high)

-- After the block.

-- the scalar stands in its local of before
abbrev pub stands_still : List Held → List Held → Name → Bool
stands_still before ends y = same_local (find (is_scalar y) before) (find (is_scalar y) ends)

abbrev pub stand_still : ℕ → List Name → Standing → Rule (Unit {0})
stand_still at names before c = need (list_all (stands_still before.scalars c.scalars) names) at 6 c

abbrev pub arrays_stay : ℕ → List Name → Standing → Rule (Unit {0})
arrays_stay at names before c = need (all_named names before.clauses c.clauses) at 7 c

-- the facts at the end of a block that began with what stood there; one more than a symbol is within the limits
abbrev pub facts_stay : ℕ → Name → List Name → List Le → ℕ → List Cert → Standing → Rule (Unit {0})
facts_stay at x names keep place certs start c = (do
  f ← made at (one_more (form_in start.scalars x))
  all_shown at place certs (given_first x f (end_form names c.scalars start.scalars)) keep) c

-- the block ends that began with what stood at its start, after what stood before; its certificates are from a place on
abbrev pub ends : ℕ → Name → List Name → List Le → ℕ → List Cert → Standing → Standing → Rule Standing
ends at x names keep place certs before start = do
  _ ← stand_still at names before
  _ ← arrays_stay at names before
  _ ← facts_stay at x names keep place certs start
  ended before

-- the context after takes over the writes of the end
abbrev pub leaves : ℕ → Name → List Name → List Le → Standing → Rule (Unit {0})
leaves at x names keep end_ = do
  c ← now
  _ ← taken names end_ end_
  _ ← all_renewed at names c.scalars
  all_kept_but at x keep

-- the sets of both locals, and the loop
abbrev pub looping : Counter → BExpr → BExpr → StmtOut → StmtOut
looping k low high out = record { cmds = counting k.count k.last low high out.cmds; trips = k.trips ∷ out.trips }

-- up to the block: what stood before it, and what stands at its start
abbrev pub opens : ℕ → Name → List Name → List Le → List Cert → Counter → LinearForm → LinearForm → Rule (Standing × Standing)
opens at x names keep certs k low high = do
  _ ← starts at x keep certs k low high
  c ← now
  _ ← begins at x names keep k low high c.scalars
  d ← now
  give (standing c, standing d)

-- after the block
abbrev pub finishes : ℕ → Name → List Name → List Le → List Cert → Counter → BExpr → BExpr → Standing × Standing → StmtOut
    → Rule StmtOut
finishes at x names keep certs k low high marks out = do
  end_ ← ends at x names keep (counted (1 + length keep)) (drop (1 + length keep) certs) marks.0 marks.1
  _ ← leaves at x names keep end_
  give (looping k low high out)

-- after the bounds
abbrev pub after : ℕ → Name → List Name → List Le → List Cert → Counter → ExprOut → ExprOut → Rule StmtOut → Rule StmtOut
after at x names keep certs k p q block = do
  marks ← opens at x names keep certs k p.form q.form
  out ← block
  finishes at x names keep certs k p.code q.code marks out
