-- The rules of expressions (Rupicola, PLDI 2022, section 3: lemmas that relate a term to a command), and what a tree of nodes
-- derives by them. A node's conditions are numbered: 1 that the rule is for the expression, 2 the numbers of arguments and
-- certificates, 3 that arguments are in range, that made forms are within the limits and that there is room for what the rule
-- adds to the context, and from 4 on the rule's own. Conditions 1 to 3 on the node alone and those on the context come before
-- the kids, all else after them. A rule for statements is for no expression.
use Rattle.std.specs.Prelude.{ℕ, ◌+◌, Bool, true, false, List, if◌then◌else◌}
use Rattle.model_syntax.specs.Names.{Name}
use Rattle.model_syntax.specs.declared.expr.Op.{Op}
use Rattle.model_syntax.specs.declared.expr.Op.TheVariants as op
use Rattle.model_syntax.specs.declared.expr.Expr.{Expr, Expr-F, out-Expr}
use Rattle.model_syntax.specs.declared.expr.Expr.TheOpen as e
use Rattle.side_certs.specs.declared.certificate.Cert.{Cert}
use Rattle.equations.specs.Book.{Turn}
use Rattle.deriv_tree.specs.declared.rule.Rule.TheVariants as rule
use Rattle.deriv_tree.specs.declared.rule.Rule as deriv
use Rattle.deriv_tree.specs.declared.tree.Step.{Step}
use Rattle.deriv_tree.specs.declared.tree.ExprNode.{ExprNode, ExprNode-F, fold-ExprNode}
use Rattle.expr_rules.specs.declared.output.ExprOut.{ExprOut}
use Rattle.expr_rules.specs.Words.{Rule, ◌>>=◌, need, found, refuse, counted, Judged, sizes, are_none, no_kid, one_kid, two_kids}
use Rattle.expr_rules.specs.rules.Lit as lit
use Rattle.expr_rules.specs.rules.Var as var
use Rattle.expr_rules.specs.rules.Len as len
use Rattle.expr_rules.specs.rules.Op as operation
use Rattle.expr_rules.specs.rules.Add as add
use Rattle.expr_rules.specs.rules.Sub as sub
use Rattle.expr_rules.specs.rules.Mulk as mulk
use Rattle.expr_rules.specs.rules.Mask as mask
use Rattle.expr_rules.specs.rules.Shift as shift
use Rattle.expr_rules.specs.rules.Remk as remk
use Rattle.expr_rules.specs.rules.Divk as divk
use Rattle.expr_rules.specs.rules.Cmp as cmp
use Rattle.expr_rules.specs.rules.Not as negation
use Rattle.expr_rules.specs.rules.Both as both
use Rattle.expr_rules.specs.rules.Either as either
use Rattle.expr_rules.specs.rules.Word as word
use Rattle.expr_rules.specs.rules.Byte as byte
use Rattle.expr_rules.specs.rules.Cut as cut
use Rattle.expr_rules.specs.rules.Get as get
use Rattle.expr_rules.specs.rules.Tab as tab
use Rattle.expr_rules.specs.rules.Rw as rewriting

abbrev pub is_add : Op → Bool
is_add op.Add = true
is_add o = false

abbrev pub is_sub : Op → Bool
is_sub op.Sub = true
is_sub o = false

abbrev pub is_mul : Op → Bool
is_mul op.Mul = true
is_mul o = false

abbrev pub is_and : Op → Bool
is_and op.And = true
is_and o = false

abbrev pub is_shl : Op → Bool
is_shl op.Shl = true
is_shl o = false

abbrev pub is_remu : Op → Bool
is_remu op.Remu = true
is_remu o = false

-- a division, or a shift to the right, which is one
abbrev pub is_quotient : Op → Bool
is_quotient op.Divu = true
is_quotient op.Shr = true
is_quotient o = false

-- the rule is for the expression
abbrev pub fits : deriv.Rule → Expr-F Expr → Bool
fits rule.ELit (e.Lit n) = true
fits rule.EVar (e.Var x) = true
fits rule.ELen (e.Length a) = true
fits rule.EOp (e.Bin o x y) = true
fits rule.EAdd (e.Bin o x y) = is_add o
fits rule.ESub (e.Bin o x y) = is_sub o
fits rule.EMulk (e.Bin o x y) = is_mul o
fits rule.EMask (e.Bin o x y) = is_and o
fits rule.EShift (e.Bin o x y) = is_shl o
fits rule.ERemk (e.Bin o x y) = is_remu o
fits rule.EDivk (e.Bin o x y) = is_quotient o
fits rule.ECmp (e.Test test x y) = true
fits rule.ENot (e.Not x) = true
fits rule.EBoth (e.Both x y) = true
fits rule.EEither (e.Either x y) = true
fits rule.EWord (e.ToWord x) = true
fits rule.EByte (e.ToByte x) = true
fits rule.ECut (e.ToByte x) = true
fits rule.EGet (e.Get a i) = true
fits rule.ETab (e.Tab t ns i) = true
fits rule.ERw _ = true
fits _ _ = false

-- the number of arguments
abbrev pub args_of : deriv.Rule → ℕ
args_of rule.ERw = 1
args_of _ = 0

-- the number of certificates
abbrev pub certs_of : deriv.Rule → ℕ
certs_of rule.EAdd = 1
certs_of rule.ESub = 1
certs_of rule.EMulk = 1
certs_of rule.EShift = 1
certs_of rule.EByte = 1
certs_of rule.EGet = 1
certs_of rule.ETab = 1
certs_of _ = 0

-- a rule of operations, after its kids
abbrev pub binary : deriv.Rule → Op → List Cert → ℕ → ExprOut → ExprOut → Rule ExprOut
binary rule.EOp o certs at p q = operation.after at o p q
binary rule.EAdd o certs at p q = add.after certs at p q
binary rule.ESub o certs at p q = sub.after certs at p q
binary rule.EMulk o certs at p q = mulk.after certs at p q
binary rule.EMask o certs at p q = mask.after at p q
binary rule.EShift o certs at p q = shift.after certs at p q
binary rule.ERemk o certs at p q = remk.after at p q
binary rule.EDivk o certs at p q = divk.after at o p q
binary _ o certs at p q = refuse at 1

-- a rule of the bytes of words, after its kid
abbrev pub low : deriv.Rule → List Cert → ℕ → ExprOut → Rule ExprOut
low rule.EByte certs at p = byte.after certs at p
low rule.ECut certs at p = cut.after at p
low _ certs at p = refuse at 1

-- the length of an array, whose name is looked for before the kids
abbrev pub array_length : ℕ → Name → Bool → Rule ExprOut
array_length at a leaf = do
  k ← len.owned at a
  _ ← need leaf at 1
  len.after at k

-- a rule that is for the expression
abbrev pub parts : Step → List Judged → ℕ → Expr-F Expr → Rule ExprOut
parts step kids at (e.Lit n) = do
  _ ← no_kid kids at
  lit.after at n
parts step kids at (e.Var x) = do
  _ ← no_kid kids at
  var.after at x
parts step kids at (e.Length a) = array_length at a (are_none kids)
parts step kids at (e.Bin o x y) = do
  pq ← two_kids kids at x y
  binary step.rule o step.certs at pq.0 pq.1
parts step kids at (e.Test test x y) = do
  pq ← two_kids kids at x y
  cmp.after at test pq.0 pq.1
parts step kids at (e.Both x y) = do
  pq ← two_kids kids at x y
  both.after at pq.0 pq.1
parts step kids at (e.Either x y) = do
  pq ← two_kids kids at x y
  either.after at pq.0 pq.1
parts step kids at (e.Not x) = do
  p ← one_kid kids at x
  negation.after at p
parts step kids at (e.ToWord x) = do
  p ← one_kid kids at x
  word.after p
parts step kids at (e.ToByte x) = do
  p ← one_kid kids at x
  low step.rule step.certs at p
parts step kids at (e.Get a i) = do
  _ ← get.before at a
  p ← one_kid kids at i
  get.after step.certs at a p
parts step kids at (e.Tab t ns i) = do
  _ ← tab.before at ns
  p ← one_kid kids at i
  tab.after step.certs at t ns p

-- the rule of equations, whose kid is for what the book makes of the expression
abbrev pub rewritten : Turn → Step → List Judged → ℕ → Expr → Rule ExprOut
rewritten turn step kids at x = do
  n ← found (rewriting.step_of step.args) at 3
  y ← found (turn n x) at 4
  one_kid kids at y

abbrev pub is_rewrite : deriv.Rule → Bool
is_rewrite rule.ERw = true
is_rewrite _ = false

abbrev pub node_row : Turn → Step → List Judged → ℕ → Expr → Rule ExprOut
node_row turn step kids at x = do
  _ ← need (fits step.rule (out-Expr x)) at 1
  _ ← counted step (args_of step.rule) (certs_of step.rule) at
  if is_rewrite step.rule then rewritten turn step kids at x else parts step kids at (out-Expr x)

abbrev pub judged_step : Turn → ExprNode-F Judged → Judged
judged_step turn n = record { size = 1 + sizes n.kids; row = node_row turn n.step n.kids }

-- what a tree derives, with the equations of a book
abbrev pub judged : Turn → ExprNode → Judged
judged turn = fold-ExprNode Judged (judged_step turn)

-- the same of one expression, whose node has the number `at`
abbrev pub row : Turn → ExprNode → ℕ → Expr → Rule ExprOut
row turn node = (judged turn node).row
