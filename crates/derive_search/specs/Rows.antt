-- The rows that are tried for an expression, in their order, when its kids are derived. A row fits where its rule gives something
-- in the context: its certificate is found, its forms are within the limits, and there is room for what it adds. What it gives is
-- the rule's own last part (`expr_rules`, `specs/rules/`).
use Rattle.std.specs.Prelude.{ℕ, ◌+ℤ◌, ℤ, pos, negsuc, neg_ℤ, nat_le, Bool, List, [], ◌∷◌, length, Option, Some, None}
use Rattle.std.specs.Prelude.{option_and_then, Result, Ok, Err, if◌then◌else◌}
use Rattle.std.specs.Option.{option_or}
use Rattle.rup_base.specs.declared.refusal.Refusal.{Refusal}
use Rattle.model_syntax.specs.Names.{Name}
use Rattle.model_syntax.specs.declared.expr.Op.{Op}
use Rattle.model_syntax.specs.declared.expr.Op.TheVariants as op
use Rattle.model_syntax.specs.declared.expr.Scalar.{Scalar}
use Rattle.side_certs.specs.LinearForm.{LinearForm, within, minus}
use Rattle.side_certs.specs.declared.certificate.Cert.{Cert}
use Rattle.cert_search.specs.Search.{found}
use Rattle.sym_heap.specs.declared.parts.Clause.{Clause}
use Rattle.sym_heap.specs.Context.{Context, most_facts, own}
use Rattle.deriv_tree.specs.declared.rule.Rule as deriv
use Rattle.deriv_tree.specs.declared.rule.Rule.TheVariants.{EOp, EAdd, ESub, EMulk, EMask, EShift, ERemk, EDivk, EByte, ECut}
use Rattle.deriv_tree.specs.declared.rule.Rule.TheVariants.{EGet, ETab}
use Rattle.expr_rules.specs.declared.output.ExprOut.{ExprOut}
use Rattle.expr_rules.specs.Words.{Rule, most, sum_of, number_of}
use Rattle.expr_rules.specs.rules.Op as operation
use Rattle.expr_rules.specs.rules.Add as add
use Rattle.expr_rules.specs.rules.Sub as sub
use Rattle.expr_rules.specs.rules.Mulk as mulk
use Rattle.expr_rules.specs.rules.Mask as mask
use Rattle.expr_rules.specs.rules.Shift as shift
use Rattle.expr_rules.specs.rules.Remk as remk
use Rattle.expr_rules.specs.rules.Divk as divk
use Rattle.expr_rules.specs.rules.Byte as byte
use Rattle.expr_rules.specs.rules.Cut as cut
use Rattle.expr_rules.specs.rules.Get as get
use Rattle.expr_rules.specs.rules.Tab as tab

-- a row that fits: its rule, its certificates and what it gives
pub record Chosen : Type 0 where
  pub rule : deriv.Rule
  pub certs : List Cert
  pub out : ExprOut

-- what a row gives in a context, where it fits
abbrev pub Candidate : Type 0
Candidate = Context → Option (Chosen × Context)

abbrev pub kept : deriv.Rule → List Cert → Result (ExprOut × Context) Refusal → Option (Chosen × Context)
kept rule certs (Ok p) = Some (record { rule = rule; certs = certs; out = p.0 }, p.1)
kept rule certs (Err refusal) = None

-- a row without a certificate
abbrev pub plainly : deriv.Rule → Rule ExprOut → Candidate
plainly rule row c = kept rule [] (row c)

-- no context has more facts
abbrev pub has_few_facts : Context → Bool
has_few_facts c = nat_le (length c.facts) most_facts

-- the certificate that a goal gets in a context
abbrev pub certificate : Context → LinearForm → Option Cert
certificate c goal = if has_few_facts c then found c.facts c.tops goal else None

abbrev pub shown_by : deriv.Rule → (List Cert → Rule ExprOut) → Option Cert → Candidate
shown_by rule row None c = None
shown_by rule row (Some k) c = kept rule (k ∷ []) (row (k ∷ []) c)

-- a row whose certificate is for this goal, which is within the limits of forms
abbrev pub certified : deriv.Rule → Option LinearForm → (List Cert → Rule ExprOut) → Candidate
certified rule goal row c = shown_by rule row (option_and_then (certificate c) goal) c

-- the first row that fits
abbrev pub first : List Candidate → Candidate
first [] c = None
first (t ∷ ts) c = option_or (t c) (first ts c)

-- Goals of certificates.

-- the greatest word less both parts
abbrev pub sum_goal : ExprOut → ExprOut → Option LinearForm
sum_goal p q = within (sum_of (pos most) ((negsuc 0, p.form) ∷ (negsuc 0, q.form) ∷ []))

abbrev pub difference_goal : ExprOut → ExprOut → Option LinearForm
difference_goal p q = within (minus p.form q.form)

-- the greatest word less a multiple
abbrev pub multiple_goal : ExprOut → ℤ → Option LinearForm
multiple_goal p k = within (sum_of (pos most) ((neg_ℤ k, p.form) ∷ []))

abbrev pub product_goal : ExprOut → ExprOut → Option LinearForm
product_goal p q = option_and_then (multiple_goal p) (number_of q.form)

abbrev pub shift_goal : ExprOut → ExprOut → Option LinearForm
shift_goal p q = option_and_then (λ n. multiple_goal p (pos n)) (shift.power q.form)

abbrev pub byte_goal : ExprOut → Option LinearForm
byte_goal p = within (sum_of (pos 255) ((negsuc 0, p.form) ∷ []))

-- the length of an array less the index and 1
abbrev pub place_goal : LinearForm → Clause → Option LinearForm
place_goal index k = within (sum_of (negsuc 0) ((pos 1, k.length) ∷ (negsuc 0, index) ∷ []))

abbrev pub index_goal : Name → LinearForm → Context → Option LinearForm
index_goal a index c = option_and_then (place_goal index) (own c a)

-- the number of entries less the index and 1
abbrev pub entry_goal : List ℕ → ExprOut → Option LinearForm
entry_goal ns p = within (sum_of (pos (length ns) +ℤ negsuc 0) ((negsuc 0, p.form) ∷ []))

-- Rows.

-- the row of an operation's own rule, of which some have one
abbrev pub special : ℕ → Op → ExprOut → ExprOut → Candidate
special at op.Add p q = certified EAdd (sum_goal p q) (λ certs. add.after certs at p q)
special at op.Sub p q = certified ESub (difference_goal p q) (λ certs. sub.after certs at p q)
special at op.Mul p q = certified EMulk (product_goal p q) (λ certs. mulk.after certs at p q)
special at op.And p q = plainly EMask (mask.after at p q)
special at op.Shl p q = certified EShift (shift_goal p q) (λ certs. shift.after certs at p q)
special at op.Remu p q = plainly ERemk (remk.after at p q)
special at op.Divu p q = plainly EDivk (divk.after at op.Divu p q)
special at op.Shr p q = plainly EDivk (divk.after at op.Shr p q)
special at _ p q = first []

abbrev pub operations : ℕ → Op → ExprOut → ExprOut → List Candidate
operations at o p q = special at o p q ∷ plainly EOp (operation.after at o p q) ∷ []

abbrev pub bytes : ℕ → ExprOut → List Candidate
bytes at p = certified EByte (byte_goal p) (λ certs. byte.after certs at p) ∷ plainly ECut (cut.after at p) ∷ []

abbrev pub element : ℕ → Name → ExprOut → Candidate
element at a p c = certified EGet (index_goal a p.form c) (λ certs. get.after certs at a p) c

abbrev pub entry : ℕ → Scalar → List ℕ → ExprOut → Candidate
entry at t ns p = certified ETab (entry_goal ns p) (λ certs. tab.after certs at t ns p)
