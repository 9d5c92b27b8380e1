-- Expressions leave the number of entry symbols as it is.
use Rattle.std.proofs.Common.{◌≡◌, refl, ◌∙◌, subst, ℕ, ◌+◌, ◌-◌, ◌/◌, is_some, List, [], ◌∷◌, ◌++◌, length, map, Option, Some}
use Rattle.std.proofs.Common.{None, ℤ, pos, negsuc, neg_ℤ, ◌+ℤ◌, Bool, true, false, if◌then◌else◌}
use Rattle.rup_base.specs.Gather.{greatest}
use Rattle.side_certs.specs.LinearForm.{LinearForm, constant, symbol, plus, minus, times}
use Rattle.side_certs.specs.declared.certificate.Cert.{Cert}
use Rattle.model_syntax.specs.declared.expr.Cmp.{Cmp}
use Rattle.model_syntax.specs.declared.expr.Cmp.TheVariants as comparison
use Rattle.model_syntax.specs.declared.expr.Op.{Op}
use Rattle.model_syntax.specs.declared.expr.Scalar.{Scalar}
use Rattle.model_syntax.specs.declared.expr.Expr.{Expr, Expr-F, out-Expr}
use Rattle.model_syntax.specs.declared.expr.Expr.TheOpen as e
use Rattle.model_syntax.specs.Names.{Name}
use Rattle.sym_heap.specs.declared.parts.Held.{Held}
use Rattle.sym_heap.specs.declared.parts.Clause.{Clause}
use Rattle.sym_heap.specs.Context.{Context, own, scalar, with_top, with_fact}
use Rattle.sym_heap.specs.Elements.{element_top}
use Rattle.equations.specs.Book.{Turn}
use Rattle.deriv_tree.specs.declared.rule.Rule as deriv
use Rattle.deriv_tree.specs.declared.rule.Rule.TheVariants as rule
use Rattle.deriv_tree.specs.declared.tree.Step.{Step}
use Rattle.deriv_tree.specs.declared.tree.ExprNode.{ExprNode, ExprNode-F, ind-ExprNode, map-ExprNode, roll-ExprNode}
use Rattle.deriv_tree.specs.declared.tree.ExprNode.{fold-roll-ExprNode}
use Rattle.bed_syntax.specs.declared.operation.BOp.{BOp}
use Rattle.bed_syntax.specs.declared.operation.BOp.TheVariants as bop
use Rattle.bed_syntax.specs.declared.expression.BExpr.{BExpr}
use Rattle.bed_syntax.specs.declared.expression.BExpr.TheVariants as b
use Rattle.expr_rules.specs.declared.output.ExprOut.{ExprOut}
use Rattle.expr_rules.specs.Operations.{code_of, test_of}
use Rattle.expr_rules.specs.Words.{Rule, ◌>>=◌, need, counted, has_counts, are_none, Judged, one_kid, two_kids, give, plain, most}
use Rattle.expr_rules.specs.Words.{number_of, number_in, made, fresh, fact, sum_of, fresh_result, found}
use Rattle.expr_rules.specs.Row.{fits, certs_of, binary, low, parts, node_row, judged_step, judged, args_of, rewritten}
use Rattle.expr_rules.specs.Row.{is_rewrite}
use Rattle.expr_rules.specs.Sound.{Yields}
use Rattle.expr_rules.specs.rules.Add as add
use Rattle.expr_rules.specs.rules.Both as both
use Rattle.expr_rules.specs.rules.Byte as byte
use Rattle.expr_rules.specs.rules.Cmp as cmp
use Rattle.expr_rules.specs.rules.Divk as divk
use Rattle.expr_rules.specs.rules.Either as either
use Rattle.expr_rules.specs.rules.Get as get
use Rattle.expr_rules.specs.rules.Len as len
use Rattle.expr_rules.specs.rules.Lit as lit
use Rattle.expr_rules.specs.rules.Mask as mask
use Rattle.expr_rules.specs.rules.Mulk as mulk
use Rattle.expr_rules.specs.rules.Not as negation
use Rattle.expr_rules.specs.rules.Remk as remk
use Rattle.expr_rules.specs.rules.Shift as shift
use Rattle.expr_rules.specs.rules.Sub as sub
use Rattle.expr_rules.specs.rules.Tab as tab
use Rattle.expr_rules.specs.rules.Rw as rewriting
use Rattle.expr_rules.specs.rules.Var as var
use Rattle.expr_rules.specs.rules.Word as word
use Rattle.expr_rules.proofs.laws.Yields.{yields_then, yields_need, yields_found, yields_made, yields_shown, yields_fresh}
use Rattle.expr_rules.proofs.laws.Yields.{yields_fact}

module _ (count : ℕ) where
  abbrev Given : ExprOut → Context → Type 0
  Given out c = c.entries ≡ count

  fresh_given : (at top : ℕ) (code : BExpr) (c : Context) → c.entries ≡ count → Yields Given (fresh_result at top code c)
  fresh_given at top code c is = yields_fresh Given c at top (λ s. give (plain code s)) is

  lit_given : (at n : ℕ) (c : Context) → c.entries ≡ count → Yields Given (lit.after at n c)
  lit_given at n c is = yields_made Given c at (constant (pos n)) (λ f. give (plain (b.Lit n) f)) is

  var_given : (at : ℕ) (x : Name) (c : Context) → c.entries ≡ count → Yields Given (var.after at x c)
  var_given at x c is = by (scalar c x) refl where
    by : (o : Option Held) → scalar c x ≡ o → Yields Given (var.after at x c)
    by None none = rw none tt
    by (Some h) some = rw some is

  length_given : (at : ℕ) (k : Clause) (c : Context) → c.entries ≡ count → c.entries ≡ count → Yields Given (len.after at k c)
  length_given at k c number local = by k.length_local refl where
    literal : (o : Option ℕ) → number_in 0 most k.length ≡ o → k.length_local ≡ None → Yields Given (len.after at k c)
    literal None is none = rw (none, is) tt
    literal (Some n) is none = rw (none, is) number

    by : (o : Option ℕ) → k.length_local ≡ o → Yields Given (len.after at k c)
    by None none = literal (number_in 0 most k.length) refl none
    by (Some l) some = rw some local

  add_given : (certs : List Cert) (at : ℕ) (p q : ExprOut) (c : Context) → c.entries ≡ count
      → Yields Given (add.after certs at p q c)
  add_given certs at p q c is =
      yields_shown Given c at certs (sum_of (pos most) ((negsuc 0, p.form) ∷ (negsuc 0, q.form) ∷ []))
      (λ _. made at (plus p.form q.form) >>= (λ f. give (plain (b.Bin bop.Add p.code q.code) f)))
      (λ closes. yields_made Given c at (plus p.form q.form) (λ f. give (plain (b.Bin bop.Add p.code q.code) f)) is)

  sub_given : (certs : List Cert) (at : ℕ) (p q : ExprOut) (c : Context) → c.entries ≡ count
      → Yields Given (sub.after certs at p q c)
  sub_given certs at p q c is =
      yields_shown Given c at certs (minus p.form q.form)
      (λ _. made at (minus p.form q.form) >>= (λ f. give (plain (b.Bin bop.Sub p.code q.code) f)))
      (λ closes. yields_made Given c at (minus p.form q.form) (λ f. give (plain (b.Bin bop.Sub p.code q.code) f)) is)

  mask_given : (at : ℕ) (p q : ExprOut) (c : Context) → c.entries ≡ count → Yields Given (mask.after at p q c)
  mask_given at p q c is =
      yields_found Given c (number_in 0 most q.form) at 4 (λ k. fresh at k >>= end_)
      (λ k number. yields_fresh Given c at k end_
      (yields_fact Given (with_top k c) at (minus p.form s) (λ _. give (plain (b.Bin bop.And p.code q.code) s)) is))
    where
      s : LinearForm
      s = symbol (length c.tops)

      end_ : LinearForm → Rule ExprOut
      end_ f = fact at (minus p.form f) >>= (λ _. give (plain (b.Bin bop.And p.code q.code) f))

  multiple_given : (certs : List Cert) (at : ℕ) (factor : ℤ) (op : BOp) (p q : ExprOut) (c : Context) → c.entries ≡ count
      → Yields Given (mulk.multiple certs at factor op p q c)
  multiple_given certs at factor op p q c is =
      yields_shown Given c at certs (sum_of (pos most) ((neg_ℤ factor, p.form) ∷ []))
      (λ _. made at (times factor p.form) >>= (λ f. give (plain (b.Bin op p.code q.code) f)))
      (λ closes. yields_made Given c at (times factor p.form) (λ f. give (plain (b.Bin op p.code q.code) f)) is)

  mulk_given : (certs : List Cert) (at : ℕ) (p q : ExprOut) (c : Context) → c.entries ≡ count
      → Yields Given (mulk.after certs at p q c)
  mulk_given certs at p q c is =
      yields_found Given c (number_of q.form) at 4 (λ factor. mulk.multiple certs at factor bop.Mul p q)
      (λ factor number. multiple_given certs at factor bop.Mul p q c is)

  shift_given : (certs : List Cert) (at : ℕ) (p q : ExprOut) (c : Context) → c.entries ≡ count
      → Yields Given (shift.after certs at p q c)
  shift_given certs at p q c is =
      yields_found Given c (shift.power q.form) at 4 (λ n. mulk.multiple certs at (pos n) bop.Slu p q)
      (λ n number. multiple_given certs at (pos n) bop.Slu p q c is)

  remk_given : (at : ℕ) (p q : ExprOut) (c : Context) → c.entries ≡ count → Yields Given (remk.after at p q c)
  remk_given at p q c is =
      yields_found Given c (number_in 1 most q.form) at 4 (λ k. fresh at (k - 1) >>= end_)
      (λ k number. yields_fresh Given c at (k - 1) end_
      (yields_fact Given (with_top (k - 1) c) at (minus p.form s) (λ _. give (plain (b.Bin bop.Remu p.code q.code) s)) is))
    where
      s : LinearForm
      s = symbol (length c.tops)

      end_ : LinearForm → Rule ExprOut
      end_ f = fact at (minus p.form f) >>= (λ _. give (plain (b.Bin bop.Remu p.code q.code) f))

  divk_given : (at : ℕ) (o : Op) (p q : ExprOut) (c : Context) → c.entries ≡ count → Yields Given (divk.after at o p q c)
  divk_given at o p q c is =
      yields_found Given c (divk.divisor o q.form) at 4 (λ n. fresh at (most / n) >>= facts n)
      (λ n number. yields_fresh Given c at (most / n) (facts n)
      (yields_fact Given (with_top (most / n) c) at (lower n s) (λ _. last n s)
      (yields_fact Given (with_fact (lower n s) (with_top (most / n) c)) at (upper n s)
      (λ _. give (plain (b.Bin (code_of o) p.code q.code) s)) is)))
    where
      s : LinearForm
      s = symbol (length c.tops)

      lower : ℕ → LinearForm → LinearForm
      lower n f = sum_of (pos 0) ((pos 1, p.form) ∷ (neg_ℤ (pos n), f) ∷ [])

      upper : ℕ → LinearForm → LinearForm
      upper n f = sum_of (pos (n - 1)) ((pos n, f) ∷ (negsuc 0, p.form) ∷ [])

      last : ℕ → LinearForm → Rule ExprOut
      last n f = fact at (upper n f) >>= (λ _. give (plain (b.Bin (code_of o) p.code q.code) f))

      facts : ℕ → LinearForm → Rule ExprOut
      facts n f = fact at (lower n f) >>= (λ _. last n f)

  flag_given : (at : ℕ) (k : LinearForm → ExprOut) (c : Context) → c.entries ≡ count
      → Yields Given ((fresh at 1 >>= (λ s. give (k s))) c)
  flag_given at k c is = yields_fresh Given c at 1 (λ s. give (k s)) is

  not_given : (at : ℕ) (p : ExprOut) (c : Context) → c.entries ≡ count → Yields Given (negation.after at p c)
  not_given at p c is = yields_made Given c at (sum_of (pos 1) ((negsuc 0, p.form) ∷ []))
      (λ f. give (record { code = b.Bin bop.Eq p.code (b.Lit 0); form = f; yes = p.no; no = p.yes })) is

  facts_given : (at : ℕ) (t : Cmp) (f g : LinearForm) (c : Context) → c.entries ≡ count
      → Yields (λ (known : cmp.Facts) d. d.entries ≡ count) (cmp.facts at t f g c)
  facts_given at comparison.Eq f g c is =
      yields_made (λ (known : cmp.Facts) d. d.entries ≡ count) c at (minus f g)
      (λ one. made at (minus g f) >>= (λ two. give (one ∷ two ∷ [], [])))
      (yields_made (λ (known : cmp.Facts) d. d.entries ≡ count) c at (minus g f) (λ two. give (minus f g ∷ two ∷ [], [])) is)
  facts_given at comparison.Lt f g c is =
      yields_made (λ (known : cmp.Facts) d. d.entries ≡ count) c at (sum_of (negsuc 0) ((pos 1, g) ∷ (negsuc 0, f) ∷ []))
      (λ one. made at (minus f g) >>= (λ two. give (one ∷ [], two ∷ [])))
      (yields_made (λ (known : cmp.Facts) d. d.entries ≡ count) c at (minus f g)
      (λ two. give (sum_of (negsuc 0) ((pos 1, g) ∷ (negsuc 0, f) ∷ []) ∷ [], two ∷ [])) is)
  facts_given at comparison.Slt f g c is = is

  cmp_given : (at : ℕ) (t : Cmp) (p q : ExprOut) (c : Context) → c.entries ≡ count → Yields Given (cmp.after at t p q c)
  cmp_given at t p q c is = yields_fresh Given c at 1 (λ s. cmp.facts at t p.form q.form >>= end_ s)
      (yields_then Given (with_top 1 c) (λ known d. d.entries ≡ count) (cmp.facts at t p.form q.form)
      (end_ (symbol (length c.tops))) (facts_given at t p.form q.form (with_top 1 c) is) (λ known d there. there)) where
        end_ : LinearForm → cmp.Facts → Rule ExprOut
        end_ s known = give (record { code = b.Bin (test_of t) p.code q.code; form = s; yes = known.0; no = known.1 })

  byte_given : (certs : List Cert) (at : ℕ) (p : ExprOut) (c : Context) → c.entries ≡ count
      → Yields Given (byte.after certs at p c)
  byte_given certs at p c is = yields_shown Given c at certs (sum_of (pos 255) ((negsuc 0, p.form) ∷ []))
      (λ _. give (plain p.code p.form)) (λ closes. is)

  get_given : (certs : List Cert) (at : ℕ) (a : Name) (p : ExprOut) (c : Context) → c.entries ≡ count
      → Yields Given (get.after certs at a p c)
  get_given certs at a p c is =
      yields_found Given c (own c a) at 4 (λ k. get.element certs at k p)
      (λ k owned. yields_shown Given c at certs (sum_of (negsuc 0) ((pos 1, k.length) ∷ (negsuc 0, p.form) ∷ []))
      (λ _. fresh_result at (element_top k.size) (get.code k p.code))
      (λ closes. fresh_given at (element_top k.size) (get.code k p.code) c is))

  tab_given : (certs : List Cert) (at : ℕ) (t : Scalar) (ns : List ℕ) (p : ExprOut) (c : Context) → c.entries ≡ count
      → Yields Given (tab.after certs at t ns p c)
  tab_given certs at t ns p c is =
      yields_shown Given c at certs (sum_of (pos (length ns) +ℤ negsuc 0) ((negsuc 0, p.form) ∷ []))
      (λ _. fresh_result at (greatest ns) (tab.code t ns p.code))
      (λ closes. fresh_given at (greatest ns) (tab.code t ns p.code) c is)

  -- a rule of operations
  binary_given : (o : Op) (certs : List Cert) (at : ℕ) (p q : ExprOut) (c : Context) → c.entries ≡ count → (r : deriv.Rule)
      → Yields Given (binary r o certs at p q c)
  binary_given o certs at p q c is rule.EOp = fresh_given at most (b.Bin (code_of o) p.code q.code) c is
  binary_given o certs at p q c is rule.EAdd = add_given certs at p q c is
  binary_given o certs at p q c is rule.ESub = sub_given certs at p q c is
  binary_given o certs at p q c is rule.EMask = mask_given at p q c is
  binary_given o certs at p q c is rule.ELit = tt
  binary_given o certs at p q c is rule.EVar = tt
  binary_given o certs at p q c is rule.ELen = tt
  binary_given o certs at p q c is rule.EMulk = mulk_given certs at p q c is
  binary_given o certs at p q c is rule.EShift = shift_given certs at p q c is
  binary_given o certs at p q c is rule.ERemk = remk_given at p q c is
  binary_given o certs at p q c is rule.EDivk = divk_given at o p q c is
  binary_given o certs at p q c is rule.ECmp = tt
  binary_given o certs at p q c is rule.ENot = tt
  binary_given o certs at p q c is rule.EBoth = tt
  binary_given o certs at p q c is rule.EEither = tt
  binary_given o certs at p q c is rule.EWord = tt
  binary_given o certs at p q c is rule.EByte = tt
  binary_given o certs at p q c is rule.ECut = tt
  binary_given o certs at p q c is rule.EGet = tt
  binary_given o certs at p q c is rule.ETab = tt
  binary_given o certs at p q c is rule.ERw = tt
  binary_given o certs at p q c is rule.SNote = tt
  binary_given o certs at p q c is rule.SLet = tt
  binary_given o certs at p q c is rule.SPut = tt
  binary_given o certs at p q c is rule.SMove = tt
  binary_given o certs at p q c is rule.SIf = tt
  binary_given o certs at p q c is rule.SFor = tt
  binary_given o certs at p q c is rule.SMap = tt
  binary_given o certs at p q c is rule.SFold = tt

  -- a rule of the bytes of words
  low_given : (certs : List Cert) (at : ℕ) (p : ExprOut) (c : Context) → c.entries ≡ count → c.entries ≡ count → (r : deriv.Rule)
      → Yields Given (low r certs at p c)
  low_given certs at p c same is rule.EByte = byte_given certs at p c same
  low_given certs at p c same is rule.ECut = fresh_given at 255 (b.Bin bop.And p.code (b.Lit 255)) c is
  low_given certs at p c same is rule.EOp = tt
  low_given certs at p c same is rule.EAdd = tt
  low_given certs at p c same is rule.ESub = tt
  low_given certs at p c same is rule.EMask = tt
  low_given certs at p c same is rule.ELit = tt
  low_given certs at p c same is rule.EVar = tt
  low_given certs at p c same is rule.ELen = tt
  low_given certs at p c same is rule.EMulk = tt
  low_given certs at p c same is rule.EShift = tt
  low_given certs at p c same is rule.ERemk = tt
  low_given certs at p c same is rule.EDivk = tt
  low_given certs at p c same is rule.ECmp = tt
  low_given certs at p c same is rule.ENot = tt
  low_given certs at p c same is rule.EBoth = tt
  low_given certs at p c same is rule.EEither = tt
  low_given certs at p c same is rule.EWord = tt
  low_given certs at p c same is rule.EGet = tt
  low_given certs at p c same is rule.ETab = tt
  low_given certs at p c same is rule.ERw = tt
  low_given certs at p c same is rule.SNote = tt
  low_given certs at p c same is rule.SLet = tt
  low_given certs at p c same is rule.SPut = tt
  low_given certs at p c same is rule.SMove = tt
  low_given certs at p c same is rule.SIf = tt
  low_given certs at p c same is rule.SFor = tt
  low_given certs at p c same is rule.SMap = tt
  low_given certs at p c same is rule.SFold = tt

-- Kids.

abbrev pub Keeps : Judged → Type 0
Keeps k = (at : ℕ) (x : Expr) (c : Context) → Yields (λ out d. d.entries ≡ c.entries) (k.row at x c)

abbrev pub AllKeep : List Judged → Type 0
AllKeep [] = Unit {0}
AllKeep (k ∷ ks) = Keeps k × AllKeep ks

pub one_keeps : (kids : List Judged) → AllKeep kids → (at : ℕ) (x : Expr) (c : Context)
    → Yields (λ (out : ExprOut) d. d.entries ≡ c.entries) (one_kid kids at x c)
one_keeps [] keep at x c = tt
one_keeps (a ∷ []) keep at x c = keep.0 (at + 1) x c
one_keeps (a ∷ z ∷ zs) keep at x c = tt

pub two_keep : (kids : List Judged) → AllKeep kids → (at : ℕ) (x y : Expr) (c : Context)
    → Yields (λ (out : ExprOut × ExprOut) d. d.entries ≡ c.entries) (two_kids kids at x y c)
two_keep [] keep at x y c = tt
two_keep (a ∷ []) keep at x y c = tt
two_keep (a ∷ z ∷ []) keep at x y c =
    yields_then Q c (λ out d. d.entries ≡ c.entries) (a.row (at + 1) x) second (keep.0 (at + 1) x c)
    (λ p mid one. yields_then Q mid (λ out d. d.entries ≡ mid.entries) (z.row (at + 1 + a.size) y) (λ q. give (p, q))
    (keep.1.0 (at + 1 + a.size) y mid) (λ q d two. two ∙ one))
  where
    Q : ExprOut × ExprOut → Context → Type 0
    Q out d = d.entries ≡ c.entries

    second : ExprOut → Rule (ExprOut × ExprOut)
    second p = z.row (at + 1 + a.size) y >>= (λ q. give (p, q))
two_keep (a ∷ z ∷ y1 ∷ zs) keep at x y c = tt

-- Nodes.

module _ (step : Step) (kids : List Judged) (keep : AllKeep kids) (at : ℕ) (c : Context) where
  abbrev Q : ExprOut → Context → Type 0
  Q out d = d.entries ≡ c.entries

  after_one : (x : Expr) (k : ExprOut → Rule ExprOut)
      → ((p : ExprOut) (mid : Context) → mid.entries ≡ c.entries → Yields Q (k p mid)) → Yields Q ((one_kid kids at x >>= k) c)
  after_one x k more = yields_then Q c (λ (out : ExprOut) d. d.entries ≡ c.entries) (one_kid kids at x) k
      (one_keeps kids keep at x c) more

  after_two : (x y : Expr) (k : ExprOut × ExprOut → Rule ExprOut)
      → ((pq : ExprOut × ExprOut) (mid : Context) → mid.entries ≡ c.entries → Yields Q (k pq mid))
      → Yields Q ((two_kids kids at x y >>= k) c)
  after_two x y k more = yields_then Q c (λ (out : ExprOut × ExprOut) d. d.entries ≡ c.entries) (two_kids kids at x y) k
      (two_keep kids keep at x y c) more

  parts_keep : (y : Expr-F Expr) → Yields Q (parts step kids at y c)
  parts_keep (e.Lit n) = yields_need Q c (are_none kids) at 1 (λ _. lit.after at n) (λ none. lit_given c.entries at n c refl)
  parts_keep (e.Var x) = yields_need Q c (are_none kids) at 1 (λ _. var.after at x) (λ none. var_given c.entries at x c refl)
  parts_keep (e.Length a) =
      yields_found Q c (own c a) at 4 (λ k. need (are_none kids) at 1 >>= (λ _. len.after at k))
      (λ k owned. yields_need Q c (are_none kids) at 1 (λ _. len.after at k) (λ none. length_given c.entries at k c refl refl))
  parts_keep (e.Bin o x y) = after_two x y (λ pq. binary step.rule o step.certs at pq.0 pq.1)
      (λ pq mid is. binary_given c.entries o step.certs at pq.0 pq.1 mid is step.rule)
  parts_keep (e.Test t x y) = after_two x y (λ pq. cmp.after at t pq.0 pq.1)
      (λ pq mid is. cmp_given c.entries at t pq.0 pq.1 mid is)
  parts_keep (e.Both x y) = after_two x y (λ pq. both.after at pq.0 pq.1)
      (λ pq mid is. flag_given c.entries at
      (λ s. record { code = b.Bin bop.And pq.0.code pq.1.code; form = s; yes = pq.0.yes ++ pq.1.yes; no = [] }) mid is)
  parts_keep (e.Either x y) = after_two x y (λ pq. either.after at pq.0 pq.1)
      (λ pq mid is. flag_given c.entries at
      (λ s. record { code = b.Bin bop.Or pq.0.code pq.1.code; form = s; yes = []; no = pq.0.no ++ pq.1.no }) mid is)
  parts_keep (e.Not x) = after_one x (λ p. negation.after at p) (λ p mid is. not_given c.entries at p mid is)
  parts_keep (e.ToWord x) = after_one x (λ p. word.after p) (λ p mid is. is)
  parts_keep (e.ToByte x) = after_one x (λ p. low step.rule step.certs at p)
      (λ p mid is. low_given c.entries step.certs at p mid is is step.rule)
  parts_keep (e.Get a x) =
      yields_need Q c (is_some (own c a)) at 4 (λ _. one_kid kids at x >>= (λ p. get.after step.certs at a p))
      (λ named. after_one x (λ p. get.after step.certs at a p) (λ p mid is. get_given c.entries step.certs at a p mid is))
  parts_keep (e.Tab t ns x) =
      yields_need Q c (tab.is_small ns) at 4 (λ _. one_kid kids at x >>= (λ p. tab.after step.certs at t ns p))
      (λ few. after_one x (λ p. tab.after step.certs at t ns p) (λ p mid is. tab_given c.entries step.certs at t ns p mid is))

  rewritten_keeps : (turn : Turn) (x : Expr) → Yields Q (rewritten turn step kids at x c)
  rewritten_keeps turn x =
      yields_found Q c (rewriting.step_of step.args) at 3 (λ n. found (turn n x) at 4 >>= (λ y. one_kid kids at y))
      (λ n number. yields_found Q c (turn n x) at 4 (λ y. one_kid kids at y) (λ y is. one_keeps kids keep at y c))

  node_keeps : (turn : Turn) (x : Expr) → Yields Q (node_row turn step kids at x c)
  node_keeps turn x =
      yields_need Q c (fits step.rule (out-Expr x)) at 1
      (λ _. counted step (args_of step.rule) (certs_of step.rule) at >>= (λ _. rule_row))
      (λ fit. yields_need Q c (has_counts step (args_of step.rule) (certs_of step.rule)) at 2 (λ _. rule_row)
      (λ counts. by (is_rewrite step.rule)))
    where
      rule_row : Rule ExprOut
      rule_row = if is_rewrite step.rule then rewritten turn step kids at x else parts step kids at (out-Expr x)

      by : (rewrites : Bool) → Yields Q ((if rewrites then rewritten turn step kids at x else parts step kids at (out-Expr x)) c)
      by true = rewritten_keeps turn x
      by false = parts_keep (out-Expr x)

-- Trees.

abbrev TreeKeeps : Turn → ExprNode → Type 0
TreeKeeps turn node = Keeps (judged turn node)

kids_keep : (turn : Turn) (nodes : List ((n : ExprNode) × TreeKeeps turn n)) → AllKeep (map (judged turn) (map (λ p. p.0) nodes))
kids_keep turn [] = tt
kids_keep turn (p ∷ ps) = (p.1, kids_keep turn ps)

pub tree_keeps : (turn : Turn) (node : ExprNode) → TreeKeeps turn node
tree_keeps turn = ind-ExprNode (TreeKeeps turn) (λ z y is. subst (λ r. TreeKeeps turn (roll-ExprNode r)) is (rolled y)) where
  rolled : (y : ExprNode-F ((n : ExprNode) × TreeKeeps turn n))
      → TreeKeeps turn (roll-ExprNode (map-ExprNode ((n : ExprNode) × TreeKeeps turn n) ExprNode (λ p. p.0) y))
  rolled y = rw (fold-roll-ExprNode Judged (judged_step turn)
      (map-ExprNode ((n : ExprNode) × TreeKeeps turn n) ExprNode (λ p. p.0) y))
      (λ at x c. node_keeps y.step (map (judged turn) (map (λ p. p.0) y.kids)) (kids_keep turn y.kids) at c turn x)
