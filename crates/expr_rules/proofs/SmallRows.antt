-- Each node of a derivation gives small code where its kids do, and so does the whole tree.
use Rattle.std.proofs.Common.{◌≡◌, refl, sym, subst, arith, ℕ, ◌+◌, ◌-◌, ◌*◌, ◌/◌, is_some, List, [], ◌∷◌, ◌++◌, length, map}
use Rattle.std.proofs.Common.{Option, Some, None, Result, Ok, Err, ℤ, pos, negsuc, neg_ℤ, ◌+ℤ◌, ◌≤◌, Bool, true, false}
use Rattle.std.proofs.Common.{if◌then◌else◌}
use Rattle.rup_base.specs.Gather.{greatest}
use Rattle.rup_base.specs.declared.refusal.Refusal.{Refusal}
use Rattle.side_certs.specs.LinearForm.{LinearForm, constant, symbol, plus, minus, times}
use Rattle.side_certs.specs.declared.certificate.Cert.{Cert}
use Rattle.model_syntax.specs.declared.expr.Cmp.{Cmp}
use Rattle.model_syntax.specs.declared.expr.Op.{Op}
use Rattle.model_syntax.specs.declared.expr.Scalar.{Scalar}
use Rattle.model_syntax.specs.declared.expr.Expr.{Expr, Expr-F, out-Expr, map-Expr}
use Rattle.model_syntax.specs.declared.expr.Expr.TheFolds.{fold_out-Expr}
use Rattle.model_syntax.specs.declared.expr.Expr.TheOpen as e
use Rattle.model_syntax.specs.Limits.{expr_tables, expr_tables_step, entry_bytes}
use Rattle.model_syntax.specs.Names.{Name}
use Rattle.sym_heap.specs.declared.parts.Held.{Held}
use Rattle.sym_heap.specs.declared.parts.Clause.{Clause}
use Rattle.sym_heap.specs.Context.{Context, own, scalar, with_top, with_fact}
use Rattle.sym_heap.specs.Elements.{element_top}
use Rattle.equations.specs.Book.{Turn, Laws}
use Rattle.deriv_tree.specs.Measure as derivation
use Rattle.deriv_tree.specs.declared.rule.Rule as deriv
use Rattle.deriv_tree.specs.declared.rule.Rule.TheVariants as rule
use Rattle.deriv_tree.specs.declared.tree.Step.{Step}
use Rattle.deriv_tree.specs.declared.tree.ExprNode.{ExprNode, ExprNode-F, ind-ExprNode, map-ExprNode, roll-ExprNode}
use Rattle.deriv_tree.specs.declared.tree.ExprNode.{fold-roll-ExprNode}
use Rattle.bed_syntax.specs.declared.operation.BOp.{BOp}
use Rattle.bed_syntax.specs.declared.operation.BOp.TheVariants as bop
use Rattle.bed_syntax.specs.declared.expression.BExpr.{BExpr}
use Rattle.bed_syntax.specs.declared.expression.BExpr.TheVariants as b
use Rattle.expr_rules.specs.declared.output.ExprOut.{ExprOut}
use Rattle.expr_rules.specs.Operations.{code_of, test_of}
use Rattle.expr_rules.specs.Words.{Rule, ◌>>=◌, need, counted, has_counts, are_none, Judged, sizes, one_kid, two_kids, give}
use Rattle.expr_rules.specs.Words.{plain, most, number_of, number_in, made, fresh, fact, sum_of, fresh_result, found}
use Rattle.expr_rules.specs.Row.{fits, certs_of, binary, low, parts, node_row, judged_step, judged, args_of, rewritten}
use Rattle.expr_rules.specs.Row.{is_rewrite}
use Rattle.expr_rules.specs.Small.{IsSmallCode, CodesAreSmall}
use Rattle.expr_rules.specs.Sound.{Yields}
use Rattle.expr_rules.specs.rules.Add as add
use Rattle.expr_rules.specs.rules.Both as both
use Rattle.expr_rules.specs.rules.Byte as byte
use Rattle.expr_rules.specs.rules.Cmp as cmp
use Rattle.expr_rules.specs.rules.Divk as divk
use Rattle.expr_rules.specs.rules.Either as either
use Rattle.expr_rules.specs.rules.Get as get
use Rattle.expr_rules.specs.rules.Len as len
use Rattle.expr_rules.specs.rules.Lit as lit
use Rattle.expr_rules.specs.rules.Mask as mask
use Rattle.expr_rules.specs.rules.Mulk as mulk
use Rattle.expr_rules.specs.rules.Not as negation
use Rattle.expr_rules.specs.rules.Remk as remk
use Rattle.expr_rules.specs.rules.Shift as shift
use Rattle.expr_rules.specs.rules.Sub as sub
use Rattle.expr_rules.specs.rules.Tab as tab
use Rattle.expr_rules.specs.rules.Rw as rewriting
use Rattle.expr_rules.specs.rules.Var as var
use Rattle.expr_rules.specs.rules.Word as word
use Rattle.expr_rules.proofs.laws.Yields.{yields_more, yields_then, yields_need, yields_found, yields_made, yields_shown}
use Rattle.expr_rules.proofs.laws.Yields.{yields_fresh, yields_fact}
use Rattle.expr_rules.proofs.Sizes.{size_is}
use Rattle.expr_rules.proofs.Small.{IsSmall, size_more, lit_small, var_small, same_small, bin_small, number_small, element_small}
use Rattle.expr_rules.proofs.Small.{entry_small}

-- What the rules give after their kids, of which only the code is looked at.

module _ (P : BExpr → Type 0) where
  abbrev Given : ExprOut → Context → Type 0
  Given out c = P out.code

  fresh_given : (at top : ℕ) (code : BExpr) (c : Context) → P code → Yields Given (fresh_result at top code c)
  fresh_given at top code c is = yields_fresh Given c at top (λ s. give (plain code s)) is

  lit_given : (at n : ℕ) (c : Context) → P (b.Lit n) → Yields Given (lit.after at n c)
  lit_given at n c is = yields_made Given c at (constant (pos n)) (λ f. give (plain (b.Lit n) f)) is

  var_given : (at : ℕ) (x : Name) (c : Context) → ((l : ℕ) → P (b.Var l)) → Yields Given (var.after at x c)
  var_given at x c is = by (scalar c x) refl where
    by : (o : Option Held) → scalar c x ≡ o → Yields Given (var.after at x c)
    by None none = rw none tt
    by (Some h) some = rw some (is h.local)

  length_given : (at : ℕ) (k : Clause) (c : Context) → ((n : ℕ) → P (b.Lit n)) → ((l : ℕ) → P (b.Var l))
      → Yields Given (len.after at k c)
  length_given at k c number local = by k.length_local refl where
    literal : (o : Option ℕ) → number_in 0 most k.length ≡ o → k.length_local ≡ None → Yields Given (len.after at k c)
    literal None is none = rw (none, is) tt
    literal (Some n) is none = rw (none, is) (number n)

    by : (o : Option ℕ) → k.length_local ≡ o → Yields Given (len.after at k c)
    by None none = literal (number_in 0 most k.length) refl none
    by (Some l) some = rw some (local l)

  add_given : (certs : List Cert) (at : ℕ) (p q : ExprOut) (c : Context) → P (b.Bin bop.Add p.code q.code)
      → Yields Given (add.after certs at p q c)
  add_given certs at p q c is =
      yields_shown Given c at certs (sum_of (pos most) ((negsuc 0, p.form) ∷ (negsuc 0, q.form) ∷ []))
      (λ _. made at (plus p.form q.form) >>= (λ f. give (plain (b.Bin bop.Add p.code q.code) f)))
      (λ closes. yields_made Given c at (plus p.form q.form) (λ f. give (plain (b.Bin bop.Add p.code q.code) f)) is)

  sub_given : (certs : List Cert) (at : ℕ) (p q : ExprOut) (c : Context) → P (b.Bin bop.Sub p.code q.code)
      → Yields Given (sub.after certs at p q c)
  sub_given certs at p q c is =
      yields_shown Given c at certs (minus p.form q.form)
      (λ _. made at (minus p.form q.form) >>= (λ f. give (plain (b.Bin bop.Sub p.code q.code) f)))
      (λ closes. yields_made Given c at (minus p.form q.form) (λ f. give (plain (b.Bin bop.Sub p.code q.code) f)) is)

  mask_given : (at : ℕ) (p q : ExprOut) (c : Context) → P (b.Bin bop.And p.code q.code) → Yields Given (mask.after at p q c)
  mask_given at p q c is =
      yields_found Given c (number_in 0 most q.form) at 4 (λ k. fresh at k >>= end_)
      (λ k number. yields_fresh Given c at k end_
      (yields_fact Given (with_top k c) at (minus p.form s) (λ _. give (plain (b.Bin bop.And p.code q.code) s)) is))
    where
      s : LinearForm
      s = symbol (length c.tops)

      end_ : LinearForm → Rule ExprOut
      end_ f = fact at (minus p.form f) >>= (λ _. give (plain (b.Bin bop.And p.code q.code) f))

  multiple_given : (certs : List Cert) (at : ℕ) (factor : ℤ) (op : BOp) (p q : ExprOut) (c : Context) → P (b.Bin op p.code q.code)
      → Yields Given (mulk.multiple certs at factor op p q c)
  multiple_given certs at factor op p q c is =
      yields_shown Given c at certs (sum_of (pos most) ((neg_ℤ factor, p.form) ∷ []))
      (λ _. made at (times factor p.form) >>= (λ f. give (plain (b.Bin op p.code q.code) f)))
      (λ closes. yields_made Given c at (times factor p.form) (λ f. give (plain (b.Bin op p.code q.code) f)) is)

  mulk_given : (certs : List Cert) (at : ℕ) (p q : ExprOut) (c : Context) → P (b.Bin bop.Mul p.code q.code)
      → Yields Given (mulk.after certs at p q c)
  mulk_given certs at p q c is =
      yields_found Given c (number_of q.form) at 4 (λ factor. mulk.multiple certs at factor bop.Mul p q)
      (λ factor number. multiple_given certs at factor bop.Mul p q c is)

  shift_given : (certs : List Cert) (at : ℕ) (p q : ExprOut) (c : Context) → P (b.Bin bop.Slu p.code q.code)
      → Yields Given (shift.after certs at p q c)
  shift_given certs at p q c is =
      yields_found Given c (shift.power q.form) at 4 (λ n. mulk.multiple certs at (pos n) bop.Slu p q)
      (λ n number. multiple_given certs at (pos n) bop.Slu p q c is)

  remk_given : (at : ℕ) (p q : ExprOut) (c : Context) → P (b.Bin bop.Remu p.code q.code) → Yields Given (remk.after at p q c)
  remk_given at p q c is =
      yields_found Given c (number_in 1 most q.form) at 4 (λ k. fresh at (k - 1) >>= end_)
      (λ k number. yields_fresh Given c at (k - 1) end_
      (yields_fact Given (with_top (k - 1) c) at (minus p.form s) (λ _. give (plain (b.Bin bop.Remu p.code q.code) s)) is))
    where
      s : LinearForm
      s = symbol (length c.tops)

      end_ : LinearForm → Rule ExprOut
      end_ f = fact at (minus p.form f) >>= (λ _. give (plain (b.Bin bop.Remu p.code q.code) f))

  divk_given : (at : ℕ) (o : Op) (p q : ExprOut) (c : Context) → P (b.Bin (code_of o) p.code q.code)
      → Yields Given (divk.after at o p q c)
  divk_given at o p q c is =
      yields_found Given c (divk.divisor o q.form) at 4 (λ n. fresh at (most / n) >>= facts n)
      (λ n number. yields_fresh Given c at (most / n) (facts n)
      (yields_fact Given (with_top (most / n) c) at (lower n s) (λ _. last n s)
      (yields_fact Given (with_fact (lower n s) (with_top (most / n) c)) at (upper n s)
      (λ _. give (plain (b.Bin (code_of o) p.code q.code) s)) is)))
    where
      s : LinearForm
      s = symbol (length c.tops)

      lower : ℕ → LinearForm → LinearForm
      lower n f = sum_of (pos 0) ((pos 1, p.form) ∷ (neg_ℤ (pos n), f) ∷ [])

      upper : ℕ → LinearForm → LinearForm
      upper n f = sum_of (pos (n - 1)) ((pos n, f) ∷ (negsuc 0, p.form) ∷ [])

      last : ℕ → LinearForm → Rule ExprOut
      last n f = fact at (upper n f) >>= (λ _. give (plain (b.Bin (code_of o) p.code q.code) f))

      facts : ℕ → LinearForm → Rule ExprOut
      facts n f = fact at (lower n f) >>= (λ _. last n f)

  flag_given : (at : ℕ) (k : LinearForm → ExprOut) (c : Context) → ((s : LinearForm) → P (k s).code)
      → Yields Given ((fresh at 1 >>= (λ s. give (k s))) c)
  flag_given at k c is = yields_fresh Given c at 1 (λ s. give (k s)) (is (symbol (length c.tops)))

  not_given : (at : ℕ) (p : ExprOut) (c : Context) → P (b.Bin bop.Eq p.code (b.Lit 0)) → Yields Given (negation.after at p c)
  not_given at p c is = yields_made Given c at (sum_of (pos 1) ((negsuc 0, p.form) ∷ []))
      (λ f. give (record { code = b.Bin bop.Eq p.code (b.Lit 0); form = f; yes = p.no; no = p.yes })) is

  cmp_given : (at : ℕ) (t : Cmp) (p q : ExprOut) (c : Context) → P (b.Bin (test_of t) p.code q.code)
      → Yields Given (cmp.after at t p q c)
  cmp_given at t p q c is = yields_fresh Given c at 1 (λ s. cmp.facts at t p.form q.form >>= end_ s)
      (yields_then Given (with_top 1 c) Any (cmp.facts at t p.form q.form) (end_ (symbol (length c.tops)))
      (any (cmp.facts at t p.form q.form (with_top 1 c))) (λ known d there. is)) where
        end_ : LinearForm → cmp.Facts → Rule ExprOut
        end_ s known = give (record { code = b.Bin (test_of t) p.code q.code; form = s; yes = known.0; no = known.1 })

        Any : cmp.Facts → Context → Type 0
        Any known d = Unit {0}

        any : (r : Result (cmp.Facts × Context) Refusal) → Yields Any r
        any (Ok known) = tt
        any (Err refusal) = tt

  byte_given : (certs : List Cert) (at : ℕ) (p : ExprOut) (c : Context) → P p.code → Yields Given (byte.after certs at p c)
  byte_given certs at p c is = yields_shown Given c at certs (sum_of (pos 255) ((negsuc 0, p.form) ∷ []))
      (λ _. give (plain p.code p.form)) (λ closes. is)

  get_given : (certs : List Cert) (at : ℕ) (a : Name) (p : ExprOut) (c : Context) → ((k : Clause) → P (get.code k p.code))
      → Yields Given (get.after certs at a p c)
  get_given certs at a p c is =
      yields_found Given c (own c a) at 4 (λ k. get.element certs at k p)
      (λ k owned. yields_shown Given c at certs (sum_of (negsuc 0) ((pos 1, k.length) ∷ (negsuc 0, p.form) ∷ []))
      (λ _. fresh_result at (element_top k.size) (get.code k p.code))
      (λ closes. fresh_given at (element_top k.size) (get.code k p.code) c (is k)))

  tab_given : (certs : List Cert) (at : ℕ) (t : Scalar) (ns : List ℕ) (p : ExprOut) (c : Context) → P (tab.code t ns p.code)
      → Yields Given (tab.after certs at t ns p c)
  tab_given certs at t ns p c is =
      yields_shown Given c at certs (sum_of (pos (length ns) +ℤ negsuc 0) ((negsuc 0, p.form) ∷ []))
      (λ _. fresh_result at (greatest ns) (tab.code t ns p.code))
      (λ closes. fresh_given at (greatest ns) (tab.code t ns p.code) c is)

  -- a rule of operations
  binary_given : (o : Op) (certs : List Cert) (at : ℕ) (p q : ExprOut) (c : Context) → ((op : BOp) → P (b.Bin op p.code q.code))
      → (r : deriv.Rule) → Yields Given (binary r o certs at p q c)
  binary_given o certs at p q c is rule.EOp = fresh_given at most (b.Bin (code_of o) p.code q.code) c (is (code_of o))
  binary_given o certs at p q c is rule.EAdd = add_given certs at p q c (is bop.Add)
  binary_given o certs at p q c is rule.ESub = sub_given certs at p q c (is bop.Sub)
  binary_given o certs at p q c is rule.EMask = mask_given at p q c (is bop.And)
  binary_given o certs at p q c is rule.ELit = tt
  binary_given o certs at p q c is rule.EVar = tt
  binary_given o certs at p q c is rule.ELen = tt
  binary_given o certs at p q c is rule.EMulk = mulk_given certs at p q c (is bop.Mul)
  binary_given o certs at p q c is rule.EShift = shift_given certs at p q c (is bop.Slu)
  binary_given o certs at p q c is rule.ERemk = remk_given at p q c (is bop.Remu)
  binary_given o certs at p q c is rule.EDivk = divk_given at o p q c (is (code_of o))
  binary_given o certs at p q c is rule.ECmp = tt
  binary_given o certs at p q c is rule.ENot = tt
  binary_given o certs at p q c is rule.EBoth = tt
  binary_given o certs at p q c is rule.EEither = tt
  binary_given o certs at p q c is rule.EWord = tt
  binary_given o certs at p q c is rule.EByte = tt
  binary_given o certs at p q c is rule.ECut = tt
  binary_given o certs at p q c is rule.EGet = tt
  binary_given o certs at p q c is rule.ETab = tt
  binary_given o certs at p q c is rule.ERw = tt
  binary_given o certs at p q c is rule.SNote = tt
  binary_given o certs at p q c is rule.SLet = tt
  binary_given o certs at p q c is rule.SPut = tt
  binary_given o certs at p q c is rule.SMove = tt
  binary_given o certs at p q c is rule.SIf = tt
  binary_given o certs at p q c is rule.SFor = tt
  binary_given o certs at p q c is rule.SMap = tt
  binary_given o certs at p q c is rule.SFold = tt

  -- a rule of the bytes of words
  low_given : (certs : List Cert) (at : ℕ) (p : ExprOut) (c : Context) → P p.code → P (b.Bin bop.And p.code (b.Lit 255))
      → (r : deriv.Rule) → Yields Given (low r certs at p c)
  low_given certs at p c same is rule.EByte = byte_given certs at p c same
  low_given certs at p c same is rule.ECut = fresh_given at 255 (b.Bin bop.And p.code (b.Lit 255)) c is
  low_given certs at p c same is rule.EOp = tt
  low_given certs at p c same is rule.EAdd = tt
  low_given certs at p c same is rule.ESub = tt
  low_given certs at p c same is rule.EMask = tt
  low_given certs at p c same is rule.ELit = tt
  low_given certs at p c same is rule.EVar = tt
  low_given certs at p c same is rule.ELen = tt
  low_given certs at p c same is rule.EMulk = tt
  low_given certs at p c same is rule.EShift = tt
  low_given certs at p c same is rule.ERemk = tt
  low_given certs at p c same is rule.EDivk = tt
  low_given certs at p c same is rule.ECmp = tt
  low_given certs at p c same is rule.ENot = tt
  low_given certs at p c same is rule.EBoth = tt
  low_given certs at p c same is rule.EEither = tt
  low_given certs at p c same is rule.EWord = tt
  low_given certs at p c same is rule.EGet = tt
  low_given certs at p c same is rule.ETab = tt
  low_given certs at p c same is rule.ERw = tt
  low_given certs at p c same is rule.SNote = tt
  low_given certs at p c same is rule.SLet = tt
  low_given certs at p c same is rule.SPut = tt
  low_given certs at p c same is rule.SMove = tt
  low_given certs at p c same is rule.SIf = tt
  low_given certs at p c same is rule.SFor = tt
  low_given certs at p c same is rule.SMap = tt
  low_given certs at p c same is rule.SFold = tt

-- Kids.

abbrev SmallKid : Judged → Type 0
SmallKid k = (at : ℕ) (x : Expr) (c : Context) → Yields (λ out d. IsSmall k.size (expr_tables x) out.code) (k.row at x c)

abbrev SmallKids : List Judged → Type 0
SmallKids [] = Unit {0}
SmallKids (k ∷ ks) = SmallKid k × SmallKids ks

module _ (Q : ExprOut → Context → Type 0) (at : ℕ) (c : Context) where
  one_small : (kids : List Judged) → SmallKids kids → (x : Expr) (k : ExprOut → Rule ExprOut)
      → ((p : ExprOut) (mid : Context) → IsSmall (sizes kids) (expr_tables x) p.code → Yields Q (k p mid))
      → Yields Q ((one_kid kids at x >>= k) c)
  one_small [] small x k more = tt
  one_small (a ∷ []) small x k more =
      yields_then Q c (λ out d. IsSmall a.size (expr_tables x) out.code) (a.row (at + 1) x) k (small.0 (at + 1) x c)
      (λ p mid is.
      let total : sizes (a ∷ []) ≡ 0 + a.size = refl in
      more p mid (size_more (5 * a.size) (5 * sizes (a ∷ [])) a.size (sizes (a ∷ [])) (expr_tables x) (expr_tables x) p.code
      (omega (arith, total)) (omega (arith, total)) (omega arith) is))
  one_small (a ∷ z ∷ zs) small x k more = tt

  two_small : (kids : List Judged) → SmallKids kids → (x y : Expr) (k : ExprOut × ExprOut → Rule ExprOut)
      → ((pq : ExprOut × ExprOut) (mid : Context) (m n : ℕ) → m + n ≡ sizes kids → IsSmall m (expr_tables x) pq.0.code
      → IsSmall n (expr_tables y) pq.1.code → Yields Q (k pq mid))
      → Yields Q ((two_kids kids at x y >>= k) c)
  two_small [] small x y k more = tt
  two_small (a ∷ []) small x y k more = tt
  two_small (a ∷ z ∷ []) small x y k more =
      yields_then Q c Pair (two_kids (a ∷ z ∷ []) at x y) k
      (yields_then Pair c (λ out d. IsSmall a.size (expr_tables x) out.code) (a.row (at + 1) x) second (small.0 (at + 1) x c)
      (λ p mid one. yields_then Pair mid (λ out d. IsSmall z.size (expr_tables y) out.code) (z.row (at + 1 + a.size) y)
      (λ q. give (p, q)) (small.1.0 (at + 1 + a.size) y mid)
      (λ q after two. (one, two))))
      (λ pq mid is.
      let total : sizes (a ∷ z ∷ []) ≡ 0 + a.size + z.size = refl in
      more pq mid a.size z.size (omega (arith, total)) is.0 is.1)
    where
      Pair : ExprOut × ExprOut → Context → Type 0
      Pair pq d = IsSmall a.size (expr_tables x) pq.0.code × IsSmall z.size (expr_tables y) pq.1.code

      second : ExprOut → Rule (ExprOut × ExprOut)
      second p = z.row (at + 1 + a.size) y >>= (λ q. give (p, q))
  two_small (a ∷ z ∷ y1 ∷ zs) small x y k more = tt

-- Nodes.

-- the tables of an expression from its parts
abbrev tables_of : Expr-F Expr → ℕ
tables_of y = expr_tables_step (map-Expr Expr ℕ expr_tables y)

module _ (step : Step) (kids : List Judged) (small : SmallKids kids) (at : ℕ) (c : Context) where
  -- a leaf
  leaf : (bytes : ℕ) (code : BExpr) → IsSmall 1 0 code → IsSmall (1 + sizes kids) bytes code
  leaf bytes code is = size_more 5 (5 * (1 + sizes kids)) 1 (1 + sizes kids) 0 bytes code (omega arith) (omega arith)
      (omega arith) is

  -- an operation of two kids
  two : (op : BOp) (p q : BExpr) (m n s t : ℕ) → m + n ≡ sizes kids → IsSmall m s p → IsSmall n t q
      → IsSmall (1 + sizes kids) (s + t) (b.Bin op p q)
  two op p q m n s t sum one other =
      subst (λ (k : ℕ). IsSmall (1 + k) (s + t) (b.Bin op p q)) sum (bin_small op p q m n s t one other)

  parts_small : (y : Expr-F Expr) → Yields (λ out d. IsSmall (1 + sizes kids) (tables_of y) out.code) (parts step kids at y c)
  parts_small (e.Lit n) =
      yields_need (λ out d. IsSmall (1 + sizes kids) 0 out.code) c (are_none kids) at 1 (λ _. lit.after at n)
      (λ none. lit_given (IsSmall (1 + sizes kids) 0) at n c (leaf 0 (b.Lit n) (lit_small n)))
  parts_small (e.Var x) =
      yields_need (λ out d. IsSmall (1 + sizes kids) 0 out.code) c (are_none kids) at 1 (λ _. var.after at x)
      (λ none. var_given (IsSmall (1 + sizes kids) 0) at x c (λ l. leaf 0 (b.Var l) (var_small l)))
  parts_small (e.Length a) =
      yields_found (λ out d. IsSmall (1 + sizes kids) 0 out.code) c (own c a) at 4
      (λ k. need (are_none kids) at 1 >>= (λ _. len.after at k))
      (λ k owned. yields_need (λ out d. IsSmall (1 + sizes kids) 0 out.code) c (are_none kids) at 1 (λ _. len.after at k)
      (λ none. length_given (IsSmall (1 + sizes kids) 0) at k c (λ n. leaf 0 (b.Lit n) (lit_small n))
      (λ l. leaf 0 (b.Var l) (var_small l))))
  parts_small (e.Bin o x y) =
      two_small (λ out d. IsSmall (1 + sizes kids) (expr_tables x + expr_tables y) out.code) at c kids small x y
      (λ pq. binary step.rule o step.certs at pq.0 pq.1)
      (λ pq mid m n sum one other. binary_given (IsSmall (1 + sizes kids) (expr_tables x + expr_tables y)) o step.certs at pq.0
      pq.1 mid
      (λ op. two op pq.0.code pq.1.code m n (expr_tables x) (expr_tables y) sum one other) step.rule)
  parts_small (e.Test t x y) =
      two_small (λ out d. IsSmall (1 + sizes kids) (expr_tables x + expr_tables y) out.code) at c kids small x y
      (λ pq. cmp.after at t pq.0 pq.1)
      (λ pq mid m n sum one other. cmp_given (IsSmall (1 + sizes kids) (expr_tables x + expr_tables y)) at t pq.0 pq.1 mid
      (two (test_of t) pq.0.code pq.1.code m n (expr_tables x) (expr_tables y) sum one other))
  parts_small (e.Both x y) =
      two_small (λ out d. IsSmall (1 + sizes kids) (expr_tables x + expr_tables y) out.code) at c kids small x y
      (λ pq. both.after at pq.0 pq.1)
      (λ pq mid m n sum one other. flag_given (IsSmall (1 + sizes kids) (expr_tables x + expr_tables y)) at
      (λ s. record { code = b.Bin bop.And pq.0.code pq.1.code; form = s; yes = pq.0.yes ++ pq.1.yes; no = [] }) mid
      (λ s. two bop.And pq.0.code pq.1.code m n (expr_tables x) (expr_tables y) sum one other))
  parts_small (e.Either x y) =
      two_small (λ out d. IsSmall (1 + sizes kids) (expr_tables x + expr_tables y) out.code) at c kids small x y
      (λ pq. either.after at pq.0 pq.1)
      (λ pq mid m n sum one other. flag_given (IsSmall (1 + sizes kids) (expr_tables x + expr_tables y)) at
      (λ s. record { code = b.Bin bop.Or pq.0.code pq.1.code; form = s; yes = []; no = pq.0.no ++ pq.1.no }) mid
      (λ s. two bop.Or pq.0.code pq.1.code m n (expr_tables x) (expr_tables y) sum one other))
  parts_small (e.Not x) =
      one_small (λ out d. IsSmall (1 + sizes kids) (expr_tables x) out.code) at c kids small x (λ p. negation.after at p)
      (λ p mid is. not_given (IsSmall (1 + sizes kids) (expr_tables x)) at p mid
      (number_small bop.Eq p.code 0 (sizes kids) (expr_tables x) is))
  parts_small (e.ToWord x) =
      one_small (λ out d. IsSmall (1 + sizes kids) (expr_tables x) out.code) at c kids small x (λ p. word.after p)
      (λ p mid is. same_small (sizes kids) (expr_tables x) p.code is)
  parts_small (e.ToByte x) =
      one_small (λ out d. IsSmall (1 + sizes kids) (expr_tables x) out.code) at c kids small x
      (λ p. low step.rule step.certs at p)
      (λ p mid is. low_given (IsSmall (1 + sizes kids) (expr_tables x)) step.certs at p mid
      (same_small (sizes kids) (expr_tables x) p.code is) (number_small bop.And p.code 255 (sizes kids) (expr_tables x) is)
      step.rule)
  parts_small (e.Get a x) =
      yields_need (λ out d. IsSmall (1 + sizes kids) (expr_tables x) out.code) c (is_some (own c a)) at 4
      (λ _. one_kid kids at x >>= (λ p. get.after step.certs at a p))
      (λ named. one_small (λ out d. IsSmall (1 + sizes kids) (expr_tables x) out.code) at c kids small x
      (λ p. get.after step.certs at a p)
      (λ p mid is. get_given (IsSmall (1 + sizes kids) (expr_tables x)) step.certs at a p mid
      (λ k. element_small k p.code (sizes kids) (expr_tables x) is)))
  parts_small (e.Tab t ns x) =
      yields_need (λ out d. IsSmall (1 + sizes kids) (entry_bytes t * length ns + expr_tables x) out.code) c (tab.is_small ns) at
      4 (λ _. one_kid kids at x >>= (λ p. tab.after step.certs at t ns p))
      (λ few. one_small (λ out d. IsSmall (1 + sizes kids) (entry_bytes t * length ns + expr_tables x) out.code) at c kids small x
      (λ p. tab.after step.certs at t ns p)
      (λ p mid is. tab_given (IsSmall (1 + sizes kids) (entry_bytes t * length ns + expr_tables x)) step.certs at t ns p mid
      (entry_small t ns p.code (sizes kids) (expr_tables x) is)))

-- the rule of equations
rewritten_small : (turn : Turn) → Laws turn → (step : Step) (kids : List Judged) → SmallKids kids
    → (at : ℕ) (x : Expr) (c : Context)
    → Yields (λ out d. IsSmall (1 + sizes kids) (expr_tables x) out.code) (rewritten turn step kids at x c)
rewritten_small turn laws step kids small at x c =
    yields_found Q c (rewriting.step_of step.args) at 3 (λ n. found (turn n x) at 4 >>= (λ y. one_kid kids at y))
    (λ n number. yields_found Q c (turn n x) at 4 (λ y. one_kid kids at y)
    (λ y is. by kids small y ((laws.makes_nothing_worse n x y is).tables)))
  where
    Q : ExprOut → Context → Type 0
    Q out d = IsSmall (1 + sizes kids) (expr_tables x) out.code

    by : (ks : List Judged) → SmallKids ks → (y : Expr) → expr_tables y ≤ expr_tables x
        → Yields (λ out d. IsSmall (1 + sizes ks) (expr_tables x) out.code) (one_kid ks at y c)
    by [] smalls y less = tt
    by (a ∷ []) smalls y less =
        yields_more (λ out d. IsSmall a.size (expr_tables y) out.code)
        (λ out d. IsSmall (1 + sizes (a ∷ [])) (expr_tables x) out.code)
        (λ p mid is.
        let total : sizes (a ∷ []) ≡ 0 + a.size = refl in
        size_more (5 * a.size) (5 * (1 + sizes (a ∷ []))) a.size (1 + sizes (a ∷ [])) (expr_tables y) (expr_tables x) p.code
        (omega (arith, total)) (omega (arith, total)) less is)
        (a.row (at + 1) y c) (smalls.0 (at + 1) y c)
    by (a ∷ z ∷ zs) smalls y less = tt

node_small : (turn : Turn) → Laws turn → (step : Step) (kids : List Judged) → SmallKids kids → (at : ℕ) (x : Expr) (c : Context)
    → Yields (λ out d. IsSmall (1 + sizes kids) (expr_tables x) out.code) (node_row turn step kids at x c)
node_small turn laws step kids small at x c =
    yields_need Q c (fits step.rule (out-Expr x)) at 1
    (λ _. counted step (args_of step.rule) (certs_of step.rule) at >>= (λ _. rule_row))
    (λ fit. yields_need Q c (has_counts step (args_of step.rule) (certs_of step.rule)) at 2 (λ _. rule_row)
    (λ counts. by (is_rewrite step.rule)))
  where
    Q : ExprOut → Context → Type 0
    Q out d = IsSmall (1 + sizes kids) (expr_tables x) out.code

    rule_row : Rule ExprOut
    rule_row = if is_rewrite step.rule then rewritten turn step kids at x else parts step kids at (out-Expr x)

    by : (rewrites : Bool) → Yields Q ((if rewrites then rewritten turn step kids at x else parts step kids at (out-Expr x)) c)
    by true = rewritten_small turn laws step kids small at x c
    by false =
        subst (λ (bytes : ℕ). Yields (λ out d. IsSmall (1 + sizes kids) bytes out.code) (parts step kids at (out-Expr x) c))
        (sym (fold_out-Expr ℕ expr_tables_step x))
        (parts_small step kids small at c (out-Expr x))

-- Trees.

abbrev SmallTree : Turn → ExprNode → Type 0
SmallTree turn node = SmallKid (judged turn node)

kids_small : (turn : Turn) (nodes : List ((n : ExprNode) × SmallTree turn n))
    → SmallKids (map (judged turn) (map (λ p. p.0) nodes))
kids_small turn [] = tt
kids_small turn (p ∷ ps) = (p.1, kids_small turn ps)

tree_small : (turn : Turn) → Laws turn → (node : ExprNode) → SmallTree turn node
tree_small turn laws = ind-ExprNode (SmallTree turn) (λ z y is. subst (λ r. SmallTree turn (roll-ExprNode r)) is (rolled y)) where
  rolled : (y : ExprNode-F ((n : ExprNode) × SmallTree turn n))
      → SmallTree turn (roll-ExprNode (map-ExprNode ((n : ExprNode) × SmallTree turn n) ExprNode (λ p. p.0) y))
  rolled y = rw (fold-roll-ExprNode Judged (judged_step turn)
      (map-ExprNode ((n : ExprNode) × SmallTree turn n) ExprNode (λ p. p.0) y))
      (λ at x c. node_small turn laws y.step (map (judged turn) (map (λ p. p.0) y.kids)) (kids_small turn y.kids) at x c)

small_yields : (x : Expr) (m n : ℕ) → m ≡ n → (r : Result (ExprOut × Context) Refusal)
    → Yields (λ out d. IsSmall m (expr_tables x) out.code) r → Yields (λ out d. IsSmallCode x n out) r
small_yields x m n same (Ok p) is =
    let size = is.size in
    let tables = is.tables in
    record { size = omega (arith, size, same); tables = omega (arith, tables, same); table_bytes = is.table_bytes }
small_yields x m n same (Err refusal) is = tt

pub codes_are_small : CodesAreSmall
codes_are_small turn laws node at x c =
    small_yields x (judged turn node).size (derivation.expr_size node) (size_is turn node) ((judged turn node).row at x c)
    (tree_small turn laws node at x c)
