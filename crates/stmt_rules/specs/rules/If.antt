-- s-if []: one kid, the test, and two blocks. Each block begins in the context after the test, with the facts of the test's flag:
-- where it is true for the first, where it is false for the second; the locals of scalars that are not listed are reserved there.
-- At the end of a block come in this order: condition 4 of the first or 5
-- of the second, that every statement has its node; 6, that
-- each clause whose name is not listed has the name and the writes of before; and a certificate for each kept fact, in which the
-- listed scalars have their forms of this end. After both: 7, that each
-- listed scalar stands in the same local at both ends, and 8,
-- that each listed array is of the same parameter. The context after is that after the test, but that symbols stay, that listed
-- scalars have fresh symbols and listed arrays their names of the ends
-- with the greater writes, and that the kept facts are added.
use Rattle.std.specs.Prelude.{ℕ, List, [], ◌∷◌, ◌++◌, drop, length}
use Rattle.std.specs.List.{list_all}
use Rattle.rup_base.specs.Word.{counted}
use Rattle.side_certs.specs.LinearForm.{LinearForm}
use Rattle.side_certs.specs.declared.certificate.Cert.{Cert}
use Rattle.model_syntax.specs.Names.{Name}
use Rattle.model_syntax.specs.declared.stmt.Le.{Le}
use Rattle.sym_heap.specs.declared.parts.Held.{Held}
use Rattle.sym_heap.specs.Ends.{Standing, standing}
use Rattle.bed_syntax.specs.declared.expression.BExpr.{BExpr}
use Rattle.bed_syntax.specs.declared.command.Cmd.{Cmd, roll-Cmd}
use Rattle.bed_syntax.specs.declared.command.Cmd.TheOpen as c
use Rattle.expr_rules.specs.declared.output.ExprOut.{ExprOut}
use Rattle.expr_rules.specs.Words.{Rule, ◌>>=◌, need, give}
use Rattle.stmt_rules.specs.Nesting.{now, all_added, unlisted_reserved, end_form, all_shown, all_kept, unlisted_kept, ended}
use Rattle.stmt_rules.specs.Nesting.{stands_alike, is_array_alike, taken, all_renewed}
use Rattle.stmt_rules.specs.declared.output.StmtOut.{StmtOut}

-- what a block gives, and what stands at its end
abbrev pub Side : Type 0
Side = StmtOut × Standing

-- how a side begins, in a context of these scalars
abbrev pub begins : ℕ → List Name → List LinearForm → List Held → Rule (Unit {0})
begins at names facts scalars = do
  _ ← all_added at facts
  unlisted_reserved names scalars

-- the arrays that are not listed are as before
abbrev pub arrays_kept : ℕ → List Name → Standing → Rule (Unit {0})
arrays_kept at names before c = need (unlisted_kept names before.clauses c.clauses) at 6 c

-- the facts are shown at the end, by the certificates from a place on
abbrev pub facts_shown : ℕ → List Name → List Le → ℕ → List Cert → Standing → Rule (Unit {0})
facts_shown at names keep place certs before c = all_shown at place certs (end_form names c.scalars before.scalars) keep c

-- how a side ends that began where this stood
abbrev pub ends : ℕ → List Name → List Le → ℕ → List Cert → Standing → Rule Standing
ends at names keep place certs before = do
  _ ← arrays_kept at names before
  _ ← facts_shown at names keep place certs before
  ended before

-- a side: its block, from what the context is
abbrev pub side : ℕ → List Name → List Le → ℕ → List Cert → List LinearForm → Rule StmtOut → Rule Side
side at names keep place certs facts block = do
  c ← now
  _ ← begins at names facts c.scalars
  out ← block
  end_ ← ends at names keep place certs (standing c)
  give (out, end_)

-- the sequence of the commands
abbrev pub sequence : StmtOut → Cmd
sequence out = roll-Cmd (c.Seq out.cmds)

-- the command that takes one of two sides
abbrev pub choosing : BExpr → StmtOut → StmtOut → StmtOut
choosing e p q = record { cmds = roll-Cmd (c.Cond e (sequence p) (sequence q)) ∷ []; trips = p.trips ++ q.trips }

-- what the context after both sides takes over of their ends
abbrev pub joins : ℕ → List Name → List Le → Standing → Standing → Rule (Unit {0})
joins at names keep one two = do
  _ ← need (list_all (stands_alike one two) names) at 7
  _ ← need (list_all (is_array_alike one two) names) at 8
  _ ← taken names one two
  _ ← all_renewed at names one.scalars
  all_kept at keep

-- both sides are done, and their ends meet
abbrev pub met : ℕ → List Name → List Le → BExpr → Side → Side → Rule StmtOut
met at names keep e one two = do
  _ ← joins at names keep one.1 two.1
  give (choosing e one.0 two.0)

-- after the test: the first block and then the second
abbrev pub after : ℕ → List Name → List Le → List Cert → ExprOut → Rule StmtOut → Rule StmtOut → Rule StmtOut
after at names keep certs p first second = do
  one ← side at names keep 0 certs p.yes first
  two ← side at names keep (counted (length keep)) (drop (length keep) certs) p.no second
  met at names keep p.code one two
