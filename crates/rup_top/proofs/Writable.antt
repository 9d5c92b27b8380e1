-- What the search finds fits a derivation's file: each number of a node
-- is in its range, and at most eight rewrites stand directly
-- inside one another.
use Rattle.std.proofs.Common.{◌≡◌, refl, ◌∙◌, ap, subst, arith, ℕ, zero, suc, ◌+◌, ◌-◌, ◌/◌, ◌≤◌, ◌^◌, ℤ, pos, negsuc, neg_ℤ}
use Rattle.std.proofs.Common.{◌+ℤ◌, Bool, true, false, ◌&&◌, nat_le, nat_lt, nat_eq, List, [], ◌∷◌, ◌++◌, length, map, Option}
use Rattle.std.proofs.Common.{Some, None, option_and_then, is_some, Result, Ok, Err, is_ok, if◌then◌else◌, length-append}
use Rattle.std.proofs.Common.{append-nil, leb-true, le-leb, ◌<◌, lt-ltb}
use Rattle.std.proofs.lemmas.Bool.{ltb-true, and_parts}
use Rattle.std.proofs.lemmas.Bool.Decides.{nat_tests}
use Rattle.std.specs.List.{list_all}
use Rattle.std.specs.Option.{option_or}
use Rattle.rup_base.specs.Answers.{and_then, and_then_with}
use Rattle.rup_base.specs.Gather.{all_true, joined, greatest}
use Rattle.rup_base.specs.declared.refusal.Refusal.{Refusal}
use Rattle.model_syntax.specs.Names.{Name}
use Rattle.model_syntax.specs.declared.expr.Scalar.{Scalar}
use Rattle.model_syntax.specs.declared.expr.Cmp.{Cmp}
use Rattle.model_syntax.specs.declared.expr.Cmp.TheVariants as cmp_of
use Rattle.model_syntax.specs.declared.expr.Op.{Op}
use Rattle.model_syntax.specs.declared.expr.Op.TheVariants as op
use Rattle.model_syntax.specs.declared.expr.Expr.{Expr, Expr-F, out-Expr}
use Rattle.model_syntax.specs.declared.expr.Expr.TheOpen as e
use Rattle.model_syntax.specs.declared.stmt.Le.{Le}
use Rattle.model_syntax.specs.declared.stmt.Stmt.{Stmt, Stmt-F, out-Stmt, map-Stmt, roll-Stmt, out-roll-Stmt, ind-Stmt}
use Rattle.model_syntax.specs.declared.stmt.Stmt.TheFolds.{fold_out-Stmt}
use Rattle.model_syntax.specs.declared.stmt.Stmt.TheOpen as s
use Rattle.model_syntax.specs.declared.program.Len.TheVariants.{Fixed, Named}
use Rattle.model_syntax.specs.declared.program.Model.{Model}
use Rattle.model_syntax.specs.declared.program.Param.{Param}
use Rattle.model_syntax.specs.declared.program.Param.TheVariants as param
use Rattle.side_certs.specs.LinearForm.{LinearForm, constant, symbol, plus, minus, times, is_small, within}
use Rattle.side_certs.specs.declared.certificate.Cert.{Cert}
use Rattle.side_certs.specs.declared.certificate.Entry.{Entry}
use Rattle.cert_search.specs.Limits as limits
use Rattle.cert_search.proofs.laws.Found.{found_closes}
use Rattle.cert_search.specs.Search.{found}
use Rattle.sym_heap.specs.Context.{Context, own, scalar, can_move, with_top, with_fact, most_symbols, has_symbol, is_free}
use Rattle.sym_heap.specs.Elements.{element_top}
use Rattle.sym_heap.specs.Ends.{Standing, standing, restored}
use Rattle.sym_heap.specs.Sides.{form_in, difference}
use Rattle.sym_heap.specs.declared.parts.Held.{Held}
use Rattle.sym_heap.specs.Start.{start, with_param, with_params, empty}
use Rattle.sym_heap.specs.declared.parts.Clause.{Clause}
use Rattle.deriv_file.specs.Limits.{block_few, block_few_step, stmt_few, stmt_few_step, expr_few, expr_few_step, kids_few}
use Rattle.deriv_file.specs.Ranges.{entry_in_range, cert_in_range, node_in_range, argument_in_range}
use Rattle.deriv_tree.specs.Preorder.{BlockList, nodes_of, preorder, expr_list, expr_list_step, stmt_list, stmt_list_step}
use Rattle.deriv_tree.specs.Preorder.{block_list, block_list_step}
use Rattle.deriv_tree.specs.Shape.{is_rewrite, most_nodes}
use Rattle.deriv_tree.specs.declared.listed.Listed.{Listed}
use Rattle.deriv_tree.specs.declared.rule.Rule as deriv
use Rattle.deriv_tree.specs.declared.rule.Rule.TheVariants as rule
use Rattle.deriv_tree.specs.declared.tree.Derivation.{Derivation}
use Rattle.deriv_tree.specs.declared.tree.ExprNode.{ExprNode, ExprNode-F, fold-roll-ExprNode}
use Rattle.deriv_tree.specs.declared.tree.StmtNode.{StmtNode, fold-roll-StmtNode}
use Rattle.deriv_tree.specs.declared.tree.Block.{Block, fold-roll-Block}
use Rattle.deriv_tree.specs.declared.tree.Block.TheOpen.{Block-F, StmtNode-F}
use Rattle.equations.specs.Book.{Turn}
use Rattle.lemma_files.specs.declared.terms.Lemma.{Lemma}
use Rattle.lemma_files.specs.declared.terms.Lemma.TheVariants.{Rewrite, Note}
use Rattle.lemma_files.specs.Fits.{fits_layer}
use Rattle.lemma_files.specs.Steps.{expand}
use Rattle.expr_rules.specs.declared.output.ExprOut.{ExprOut}
use Rattle.expr_rules.specs.Row.{array_length}
use Rattle.expr_rules.specs.Operations.{code_of, test_of}
use Rattle.expr_rules.specs.Words.{Rule, ◌>>=◌, need, give, made, fresh, fresh_result, fact, sum_of, plain, most, number_of}
use Rattle.expr_rules.specs.Words.{number_in}
use Rattle.expr_rules.proofs.laws.Yields.{yields_then, yields_need, yields_found, yields_made, yields_shown, yields_fact}
use Rattle.expr_rules.specs.rules.Lit as lit
use Rattle.expr_rules.specs.rules.Var as var
use Rattle.expr_rules.specs.rules.Len as len
use Rattle.expr_rules.specs.rules.Op as operation
use Rattle.expr_rules.specs.rules.Add as add
use Rattle.expr_rules.specs.rules.Sub as sub
use Rattle.expr_rules.specs.rules.Mulk as mulk
use Rattle.expr_rules.specs.rules.Mask as mask
use Rattle.expr_rules.specs.rules.Shift as shift
use Rattle.expr_rules.specs.rules.Remk as remk
use Rattle.expr_rules.specs.rules.Divk as divk
use Rattle.expr_rules.specs.rules.Cmp as cmp
use Rattle.expr_rules.specs.rules.Not as negation
use Rattle.expr_rules.specs.rules.Both as both
use Rattle.expr_rules.specs.rules.Either as either
use Rattle.expr_rules.specs.rules.Word as word
use Rattle.expr_rules.specs.rules.Byte as byte
use Rattle.expr_rules.specs.rules.Cut as cut
use Rattle.expr_rules.specs.rules.Get as get
use Rattle.expr_rules.specs.rules.Tab as tab
use Rattle.expr_rules.specs.rules.Rw.{step_of}
use Rattle.bed_syntax.specs.declared.expression.BExpr.{BExpr}
use Rattle.bed_syntax.specs.declared.expression.BExpr.TheVariants as b
use Rattle.bed_syntax.specs.declared.operation.BOp.{BOp}
use Rattle.bed_syntax.specs.declared.operation.BOp.TheVariants as bop
use Rattle.stmt_rules.specs.declared.output.StmtOut.{StmtOut}
use Rattle.stmt_rules.specs.Words.{kind_of, most_local}
use Rattle.stmt_rules.specs.declared.loops.ElementLocals.{ElementLocals}
use Rattle.stmt_rules.specs.declared.loops.FoldLocals.{FoldLocals}
use Rattle.stmt_rules.specs.Loops.{given_first, one_more}
use Rattle.stmt_rules.specs.Nesting.{end_form, unlisted_kept}
use Rattle.stmt_rules.specs.rules.Fold as fold_rule
use Rattle.stmt_rules.specs.rules.For as for_rule
use Rattle.stmt_rules.specs.rules.If as if_rule
use Rattle.stmt_rules.specs.rules.Map as map_rule
use Rattle.stmt_rules.specs.rules.Let as let_rule
use Rattle.stmt_rules.specs.rules.Put as put_rule
use Rattle.derive_search.specs.declared.branching.Side.{Side}
use Rattle.derive_search.specs.declared.folding.FoldStart.{FoldStart}
use Rattle.derive_search.specs.declared.found.Found.{Found}
use Rattle.derive_search.specs.declared.mapping.MapStart.{MapStart}
use Rattle.derive_search.specs.declared.notes.Noted.{Noted}
use Rattle.derive_search.specs.declared.trips.Trip.{Trip}
use Rattle.derive_search.specs.declared.turns.LoopStart.{LoopStart}
use Rattle.derive_search.specs.declared.turns.Plan.{Plan}
use Rattle.derive_search.specs.declared.seeker.Seeker.{Seeker}
use Rattle.derive_search.specs.Words.{Seek, give as given, with_context, in_context}
use Rattle.derive_search.specs.Rows.{Chosen, Candidate, kept, plainly, shown_by, certified, certificate, has_few_facts, first}
use Rattle.derive_search.specs.Rows.{special, operations, bytes, element, entry, sum_goal, difference_goal, product_goal}
use Rattle.derive_search.specs.Rows.{shift_goal, byte_goal, index_goal, entry_goal}
use Rattle.derive_search.specs.Expressions as search
use Rattle.derive_search.specs.Expressions.{node, ended, taken, seek}
use Rattle.derive_search.specs.Guide.{Guide}
use Rattle.derive_search.specs.Lemmas.{at_most, rewriting, stepped, over_step, where_some, by_steps}
use Rattle.derive_search.specs.Locals.{Homes, choice}
use Rattle.derive_search.specs.Branching as branching
use Rattle.derive_search.specs.Elements.{map_locals, fold_locals, count_locals}
use Rattle.derive_search.specs.Folding as folding
use Rattle.derive_search.specs.Kept.{certificates, certificate_of, led}
use Rattle.derive_search.specs.Mapping as mapping
use Rattle.derive_search.specs.Nodes as nodes
use Rattle.derive_search.specs.Notes as notes
use Rattle.derive_search.specs.Opening.{map_opens, fold_opens}
use Rattle.derive_search.specs.Trips.{trip_for}
use Rattle.derive_search.specs.Turns as turns
use Rattle.derive_search.specs.Statements as statements
use Rattle.derive_search.specs.Derive.{guide_of, at_start, is_end, derivation, finished, derived_within, derived}
use Rattle.derive_search.specs.Instance.{Gives}
use Rattle.derive_search.proofs.laws.Arguments.{flat_small, trip_args_small}
use Rattle.derive_search.proofs.laws.Choosing.{choice_in_range}
use Rattle.derive_search.proofs.laws.ElementLocals.{InRange, FoldInRange, map_in_range, fold_in_range, count_holds}
use Rattle.derive_search.proofs.laws.Notes.{NoteHolds, note_holds}
use Rattle.derive_search.proofs.laws.Trips.{trip_holds}
use Rattle.derive_search.proofs.laws.Walking.{gives_then, gives_enter, gives_where}
use Rattle.rup_top.proofs.Rooms.{Room, In, After, if_begins, if_joins, for_begins, for_leaves, map_starts, map_after, fold_starts}
use Rattle.rup_top.proofs.Rooms.{fold_after}

-- ---- Expressions: no context has more symbols than there are numbers for.

room_fresh : {B : Type 0} (c : Context) → Room c → (at top : ℕ) (k : LinearForm → Rule B)
    → (Room (with_top top c) → After (k (symbol (length c.tops)) (with_top top c))) → After ((fresh at top >>= k) c)
room_fresh c room at top k more = by (has_symbol c) refl
  where
    by : (b : Bool) → has_symbol c ≡ b → After ((fresh at top >>= k) c)
    by true is =
        let below = ltb-true (length c.tops) most_symbols is in
        let size = length-append c.tops (top ∷ []) in
        rw is (more (omega (arith, below, size)))
    by false is = rw is tt

-- Rules.

module _ (c : Context) (room : Room c) where
  fresh_rooms : (at top : ℕ) (code : BExpr) → After (fresh_result at top code c)
  fresh_rooms at top code = room_fresh c room at top (λ s. give (plain code s)) (λ more. more)

  lit_rooms : (at n : ℕ) → After (lit.after at n c)
  lit_rooms at n = yields_made In c at (constant (pos n)) (λ f. give (plain (b.Lit n) f)) room

  var_rooms : (at : ℕ) (x : Name) → After (var.after at x c)
  var_rooms at x = by (scalar c x) refl
    where
      by : (o : Option Held) → scalar c x ≡ o → After (var.after at x c)
      by None none = rw none tt
      by (Some h) some = rw some room

  len_rooms : (at : ℕ) (k : Clause) → After (len.after at k c)
  len_rooms at k = yields_found In c (len.code k) at 4 (λ e. give (plain e k.length)) (λ e is. room)

  length_rooms : (at : ℕ) (a : Name) → After (array_length at a true c)
  length_rooms at a = by (own c a) refl
    where
      by : (o : Option Clause) → own c a ≡ o → After (array_length at a true c)
      by None none = rw none tt
      by (Some k) some = rw some (len_rooms at k)

  module _ (at : ℕ) (certs : List Cert) (p q : ExprOut) where
    add_rooms : After (add.after certs at p q c)
    add_rooms =
        yields_shown In c at certs (sum_of (pos most) ((negsuc 0, p.form) ∷ (negsuc 0, q.form) ∷ []))
        (λ _. made at (plus p.form q.form) >>= (λ f. give (plain (b.Bin bop.Add p.code q.code) f)))
        (λ closes. yields_made In c at (plus p.form q.form) (λ f. give (plain (b.Bin bop.Add p.code q.code) f)) room)

    sub_rooms : After (sub.after certs at p q c)
    sub_rooms =
        yields_shown In c at certs (minus p.form q.form)
        (λ _. made at (minus p.form q.form) >>= (λ f. give (plain (b.Bin bop.Sub p.code q.code) f)))
        (λ closes. yields_made In c at (minus p.form q.form) (λ f. give (plain (b.Bin bop.Sub p.code q.code) f)) room)

    mask_rooms : After (mask.after at p q c)
    mask_rooms =
        yields_found In c (number_in 0 most q.form) at 4 (λ k. fresh at k >>= end_)
        (λ k number. room_fresh c room at k end_
        (λ more. yields_fact In (with_top k c) at (minus p.form s) (λ _. give (plain (b.Bin bop.And p.code q.code) s)) more))
      where
        s : LinearForm
        s = symbol (length c.tops)

        end_ : LinearForm → Rule ExprOut
        end_ f = fact at (minus p.form f) >>= (λ _. give (plain (b.Bin bop.And p.code q.code) f))

    multiple_rooms : (factor : ℤ) (o : BOp) → After (mulk.multiple certs at factor o p q c)
    multiple_rooms factor o =
        yields_shown In c at certs (sum_of (pos most) ((neg_ℤ factor, p.form) ∷ []))
        (λ _. made at (times factor p.form) >>= (λ f. give (plain (b.Bin o p.code q.code) f)))
        (λ closes. yields_made In c at (times factor p.form) (λ f. give (plain (b.Bin o p.code q.code) f)) room)

    mulk_rooms : After (mulk.after certs at p q c)
    mulk_rooms = yields_found In c (number_of q.form) at 4 (λ factor. mulk.multiple certs at factor bop.Mul p q)
        (λ factor number. multiple_rooms factor bop.Mul)

    shift_rooms : After (shift.after certs at p q c)
    shift_rooms = yields_found In c (shift.power q.form) at 4 (λ n. mulk.multiple certs at (pos n) bop.Slu p q)
        (λ n number. multiple_rooms (pos n) bop.Slu)

    remk_rooms : After (remk.after at p q c)
    remk_rooms =
        yields_found In c (number_in 1 most q.form) at 4 (λ k. fresh at (k - 1) >>= end_)
        (λ k number. room_fresh c room at (k - 1) end_
        (λ more. yields_fact In (with_top (k - 1) c) at (minus p.form s) (λ _. give (plain (b.Bin bop.Remu p.code q.code) s))
        more))
      where
        s : LinearForm
        s = symbol (length c.tops)

        end_ : LinearForm → Rule ExprOut
        end_ f = fact at (minus p.form f) >>= (λ _. give (plain (b.Bin bop.Remu p.code q.code) f))

    divk_rooms : (o : Op) → After (divk.after at o p q c)
    divk_rooms o =
        yields_found In c (divk.divisor o q.form) at 4 (λ n. fresh at (most / n) >>= facts n)
        (λ n number. room_fresh c room at (most / n) (facts n)
        (λ more. yields_fact In (with_top (most / n) c) at (lower n s) (λ _. last n s)
        (yields_fact In (with_fact (lower n s) (with_top (most / n) c)) at (upper n s)
        (λ _. give (plain (b.Bin (code_of o) p.code q.code) s)) more)))
      where
        s : LinearForm
        s = symbol (length c.tops)

        lower : ℕ → LinearForm → LinearForm
        lower n f = sum_of (pos 0) ((pos 1, p.form) ∷ (neg_ℤ (pos n), f) ∷ [])

        upper : ℕ → LinearForm → LinearForm
        upper n f = sum_of (pos (n - 1)) ((pos n, f) ∷ (negsuc 0, p.form) ∷ [])

        last : ℕ → LinearForm → Rule ExprOut
        last n f = fact at (upper n f) >>= (λ _. give (plain (b.Bin (code_of o) p.code q.code) f))

        facts : ℕ → LinearForm → Rule ExprOut
        facts n f = fact at (lower n f) >>= (λ _. last n f)

    facts_room : (test : Cmp) (f g : LinearForm) (d : Context) → Room d → After (cmp.facts at test f g d)
    facts_room cmp_of.Eq f g d more =
        yields_made In d at (minus f g) (λ one. made at (minus g f) >>= (λ two. give (one ∷ two ∷ [], [])))
        (yields_made In d at (minus g f) (λ two. give (minus f g ∷ two ∷ [], [])) more)
    facts_room cmp_of.Lt f g d more =
        yields_made In d at (sum_of (negsuc 0) ((pos 1, g) ∷ (negsuc 0, f) ∷ []))
        (λ one. made at (minus f g) >>= (λ two. give (one ∷ [], two ∷ [])))
        (yields_made In d at (minus f g) (λ two. give (sum_of (negsuc 0) ((pos 1, g) ∷ (negsuc 0, f) ∷ []) ∷ [], two ∷ [])) more)
    facts_room cmp_of.Slt f g d more = more

    cmp_rooms : (test : Cmp) → After (cmp.after at test p q c)
    cmp_rooms test =
        room_fresh c room at 1 (λ s. cmp.facts at test p.form q.form >>= end_ s)
        (λ more. yields_then In (with_top 1 c) In (cmp.facts at test p.form q.form) (end_ (symbol (length c.tops)))
        (facts_room test p.form q.form (with_top 1 c) more) (λ known d there. there))
      where
        end_ : LinearForm → cmp.Facts → Rule ExprOut
        end_ s known = give (record { code = b.Bin (test_of test) p.code q.code; form = s; yes = known.0; no = known.1 })

    flag_rooms : (k : LinearForm → ExprOut) → After ((fresh at 1 >>= (λ s. give (k s))) c)
    flag_rooms k = room_fresh c room at 1 (λ s. give (k s)) (λ more. more)

    both_rooms : After (both.after at p q c)
    both_rooms = flag_rooms (λ s. record { code = b.Bin bop.And p.code q.code; form = s; yes = p.yes ++ q.yes; no = [] })

    either_rooms : After (either.after at p q c)
    either_rooms = flag_rooms (λ s. record { code = b.Bin bop.Or p.code q.code; form = s; yes = []; no = p.no ++ q.no })

    not_rooms : After (negation.after at p c)
    not_rooms = yields_made In c at (sum_of (pos 1) ((negsuc 0, p.form) ∷ []))
        (λ f. give (record { code = b.Bin bop.Eq p.code (b.Lit 0); form = f; yes = p.no; no = p.yes })) room

    byte_rooms : After (byte.after certs at p c)
    byte_rooms = yields_shown In c at certs (sum_of (pos 255) ((negsuc 0, p.form) ∷ [])) (λ _. give (plain p.code p.form))
        (λ closes. room)

    get_rooms : (a : Name) → After (get.after certs at a p c)
    get_rooms a =
        yields_found In c (own c a) at 4 (λ k. get.element certs at k p)
        (λ k owned. yields_shown In c at certs (sum_of (negsuc 0) ((pos 1, k.length) ∷ (negsuc 0, p.form) ∷ []))
        (λ _. fresh_result at (element_top k.size) (get.code k p.code))
        (λ closes. fresh_rooms at (element_top k.size) (get.code k p.code)))

    tab_rooms : (t : Scalar) (ns : List ℕ) → After (tab.after certs at t ns p c)
    tab_rooms t ns =
        yields_shown In c at certs (sum_of (pos (length ns) +ℤ negsuc 0) ((negsuc 0, p.form) ∷ []))
        (λ _. fresh_result at (greatest ns) (tab.code t ns p.code))
        (λ closes. fresh_rooms at (greatest ns) (tab.code t ns p.code))

    let_rooms : (x : Name) (l : ℕ) (t : Scalar) → After (let_rule.after at x l t p c)
    let_rooms x l t = by (is_free c l (Some x)) refl
      where
        by : (free : Bool) → is_free c l (Some x) ≡ free → After (let_rule.after at x l t p c)
        by true is = rw is room
        by false is = rw is tt

    element_rooms : (a : Name) (k : Clause) → After (put_rule.element certs at a k p q c)
    element_rooms a k =
        yields_shown In c at certs (sum_of (negsuc 0) ((pos 1, k.length) ∷ (negsuc 0, p.form) ∷ []))
        (λ _. need (nat_lt k.writes put_rule.most_writes) at 3 >>= end_)
        (λ closes. yields_need In c (nat_lt k.writes put_rule.most_writes) at 3 end_ (λ room_for. room))
      where
        end_ : Unit {0} → Rule StmtOut
        end_ _ = put_rule.counted_write a >>= (λ _. give (put_rule.storing k p.code q.code))

    put_rooms : (a : Name) → After (put_rule.after certs at a p q c)
    put_rooms a = yields_found In c (own c a) at 4 (λ k. put_rule.element certs at a k p q) (λ k owned. element_rooms a k)

-- ---- Certificates.

module _ (facts : List LinearForm) (tops : List ℕ) (few : length facts ≤ 4096) (room : length tops ≤ 4294967295) where
  entry_fits : (x : Entry) → limits.entry_in_range facts tops x ≡ true → entry_in_range x ≡ true
  entry_fits x is = by (nat_eq x.kind 0) refl
    where
      parts : (nat_le 1 x.mult && nat_le x.mult (2 ^ 32) ≡ true)
          × ((if nat_eq x.kind 0 then nat_lt x.number (length facts) else (nat_le x.kind 2 && nat_lt x.number (length tops)))
          ≡ true)
      parts = and_parts (nat_le 1 x.mult && nat_le x.mult (2 ^ 32))
          (if nat_eq x.kind 0 then nat_lt x.number (length facts) else (nat_le x.kind 2 && nat_lt x.number (length tops))) is

      mults : nat_le x.mult (2 ^ 32) ≡ true
      mults = (and_parts (nat_le 1 x.mult) (nat_le x.mult (2 ^ 32)) parts.0).1

      kinds : (k : ℕ) → nat_eq k 0 ≡ true → nat_le k 2 ≡ true
      kinds k z = grind (arith, nat_tests)

      by : (b : Bool) → nat_eq x.kind 0 ≡ b → entry_in_range x ≡ true
      by true zero_is =
          let second = parts.1 in
          let number : nat_lt x.number (length facts) ≡ true = rw zero_is at second in
          let below = ltb-true x.number (length facts) number in
          let kind : nat_le x.kind 2 ≡ true = kinds x.kind zero_is in
          let most : nat_le x.number 4294967295 ≡ true = le-leb x.number 4294967295 (omega (arith, below, few)) in
          rw (kind, most, mults) refl
      by false other =
          let second = parts.1 in
          let two : nat_le x.kind 2 && nat_lt x.number (length tops) ≡ true = rw other at second in
          let below = ltb-true x.number (length tops) (and_parts (nat_le x.kind 2) (nat_lt x.number (length tops)) two).1 in
          let most : nat_le x.number 4294967295 ≡ true = le-leb x.number 4294967295 (omega (arith, below, room)) in
          rw ((and_parts (nat_le x.kind 2) (nat_lt x.number (length tops)) two).0, most, mults) refl

  entries_fit : (xs : List Entry) → list_all (limits.entry_in_range facts tops) xs ≡ true → list_all entry_in_range xs ≡ true
  entries_fit [] is = refl
  entries_fit (x ∷ xs) is = let p =
      and_parts (limits.entry_in_range facts tops x) (list_all (limits.entry_in_range facts tops) xs) is in
      rw (entry_fits x p.0, entries_fit xs p.1) refl

  found_fits : (goal : LinearForm) (k : Cert) → found facts tops goal ≡ Some k → cert_in_range k ≡ true
  found_fits goal k is =
      let all = (found_closes facts tops goal k is).1 in
      rw (all.once, entries_fit k.entries all.ranges) refl

certificate_fits : (c : Context) → Room c → (goal : LinearForm) (k : Cert) → certificate c goal ≡ Some k → cert_in_range k ≡ true
certificate_fits c room goal k is = by (has_few_facts c) refl
  where
    by : (b : Bool) → has_few_facts c ≡ b → cert_in_range k ≡ true
    by true few = found_fits c.facts c.tops (leb-true (length c.facts) 4096 few) room goal k (rw few at is)
    by false many = absurd (let bad : ◌≡◌ {A = Option Cert} None (Some k) = rw many at is in cc)

-- ---- Rows.

abbrev Fit : Option (Chosen × Context) → Type 0
Fit None = Unit {0}
Fit (Some p) = (is_rewrite p.0.rule ≡ false) × ((list_all cert_in_range p.0.certs ≡ true) × Room p.1)

fit_kept : (r : deriv.Rule) (certs : List Cert) (out : Result (ExprOut × Context) Refusal) → is_rewrite r ≡ false
    → list_all cert_in_range certs ≡ true → After out → Fit (kept r certs out)
fit_kept r certs (Ok p) plain numbers room = (plain, (numbers, room))
fit_kept r certs (Err refusal) plain numbers room = tt

fit_plainly : (r : deriv.Rule) (row : Rule ExprOut) (c : Context) → is_rewrite r ≡ false → After (row c) → Fit (plainly r row c)
fit_plainly r row c plain room = fit_kept r [] (row c) plain refl room

module _ (r : deriv.Rule) (row : List Cert → Rule ExprOut) (c : Context) (plain : is_rewrite r ≡ false) (room : Room c)
    (rooms : (k : Cert) → After (row (k ∷ []) c)) where
  fit_shown : (goal : LinearForm) (o : Option Cert) → certificate c goal ≡ o → Fit (shown_by r row o c)
  fit_shown goal None is = tt
  fit_shown goal (Some k) is = fit_kept r (k ∷ []) (row (k ∷ []) c) plain (rw (certificate_fits c room goal k is) refl) (rooms k)

  fit_certified : (goal : Option LinearForm) → Fit (certified r goal row c)
  fit_certified None = tt
  fit_certified (Some goal) = fit_shown goal (certificate c goal) refl

fit_or : (one two : Option (Chosen × Context)) → Fit one → Fit two → Fit (option_or one two)
fit_or None two a b = b
fit_or (Some p) two a b = a

fit_one : (t : Candidate) (c : Context) → Fit (t c) → Fit (first (t ∷ []) c)
fit_one t c a = fit_or (t c) None a tt

fit_two : (t u : Candidate) (c : Context) → Fit (t c) → Fit (u c) → Fit (first (t ∷ u ∷ []) c)
fit_two t u c a b = fit_or (t c) (first (u ∷ []) c) a (fit_one u c b)

module _ (at : ℕ) (p q : ExprOut) (c : Context) (room : Room c) where
  special_fits : (o : Op) → Fit (special at o p q c)
  special_fits op.Add = fit_certified rule.EAdd (λ ks. add.after ks at p q) c refl room (λ k. add_rooms c room at (k ∷ []) p q)
      (sum_goal p q)
  special_fits op.Sub = fit_certified rule.ESub (λ ks. sub.after ks at p q) c refl room (λ k. sub_rooms c room at (k ∷ []) p q)
      (difference_goal p q)
  special_fits op.Mul = fit_certified rule.EMulk (λ ks. mulk.after ks at p q) c refl room (λ k. mulk_rooms c room at (k ∷ []) p q)
      (product_goal p q)
  special_fits op.Shl = fit_certified rule.EShift (λ ks. shift.after ks at p q) c refl room
      (λ k. shift_rooms c room at (k ∷ []) p q) (shift_goal p q)
  special_fits op.And = fit_plainly rule.EMask (mask.after at p q) c refl (mask_rooms c room at [] p q)
  special_fits op.Remu = fit_plainly rule.ERemk (remk.after at p q) c refl (remk_rooms c room at [] p q)
  special_fits op.Divu = fit_plainly rule.EDivk (divk.after at op.Divu p q) c refl (divk_rooms c room at [] p q op.Divu)
  special_fits op.Shr = fit_plainly rule.EDivk (divk.after at op.Shr p q) c refl (divk_rooms c room at [] p q op.Shr)
  special_fits op.Mulhuu = tt
  special_fits op.Or = tt
  special_fits op.Xor = tt
  special_fits op.Sar = tt

  operations_fit : (o : Op) → Fit (first (operations at o p q) c)
  operations_fit o =
      fit_two (special at o p q) (plainly rule.EOp (operation.after at o p q)) c (special_fits o)
      (fit_plainly rule.EOp (operation.after at o p q) c refl (fresh_rooms c room at _ _))

-- ---- Nodes of expressions.

all_append : {A : Type 0} (test : A → Bool) (xs ys : List A) → list_all test xs ≡ true → list_all test ys ≡ true
    → list_all test (xs ++ ys) ≡ true
all_append test [] ys one two = two
all_append test (x ∷ xs) ys one two = let p = and_parts (test x) (list_all test xs) one in
    rw (p.0, all_append test xs ys p.1 two) refl

-- the node fits where so many rewrites stand directly around it
record NodeFits (above : ℕ) (n : ExprNode) : Type 0 where
  few : expr_few n above ≡ true
  numbers : list_all node_in_range (expr_list n) ≡ true

abbrev KidsFit : List ExprNode → Type 0
KidsFit [] = Unit {0}
KidsFit (n ∷ ns) = NodeFits 0 n × KidsFit ns

kids_are_few : (ns : List ExprNode) → KidsFit ns → kids_few 0 (map expr_few ns) ≡ true
kids_are_few [] fit = refl
kids_are_few (n ∷ ns) fit = rw (fit.0.few, kids_are_few ns fit.1) refl

kids_numbers : (ns : List ExprNode) → KidsFit ns → list_all node_in_range (joined (map expr_list ns)) ≡ true
kids_numbers [] fit = refl
kids_numbers (n ∷ ns) fit = all_append node_in_range (expr_list n) (joined (map expr_list ns)) fit.0.numbers
    (kids_numbers ns fit.1)

node_fits : (r : deriv.Rule) (certs : List Cert) (kids : List ExprNode) → is_rewrite r ≡ false
    → list_all cert_in_range certs ≡ true → KidsFit kids → (above : ℕ) → NodeFits above (node r certs kids)
node_fits r certs kids plain numbers fit above =
    let n : ExprNode-F ExprNode = record { step = record { rule = r; args = []; certs = certs }; kids = kids } in
    record {
      few = rw (fold-roll-ExprNode (ℕ → Bool) expr_few_step n) (rw (plain, kids_are_few kids fit) refl);
      numbers = rw (fold-roll-ExprNode (List Listed) expr_list_step n) (rw (numbers, kids_numbers kids fit) refl);
    }

record FoundFits (above : ℕ) (f : Found) (t : Seeker) : Type 0 where
  fits : NodeFits above f.node
  room : Room t.ctx

taken_fits : (above : ℕ) (refusal : Refusal) (kids : List ExprNode) (k : Seeker) (o : Option (Chosen × Context)) → KidsFit kids
    → Fit o → Gives (FoundFits above) (with_context k (ended refusal kids o))
taken_fits above refusal kids k None fit is = tt
taken_fits above refusal kids k (Some p) fit is =
    record { fits = node_fits p.0.rule p.0.certs kids is.0 is.1.0 fit above; room = is.1.1 }

-- ---- Expressions.

abbrev entered : Seeker → Seeker
entered k = record k { entered = k.entered + 1 }

abbrev then_seek : {A B : Type 0} → Seek A → (A → Seek B) → Seek B
then_seek m next k = and_then_with (m k) next

module _ (above : ℕ) (next : Expr → Seek Found) (ih : (y : Expr) (t : Seeker) → Room t.ctx → Gives (FoundFits 0) (next y t))
    (refusal : Refusal) (k : Seeker) (room : Room k.ctx) where
  one_fits : (y : Expr) (tries : ExprOut → List Candidate) → ((p : ExprOut) (c : Context) → Room c → Fit (first (tries p) c))
      → Gives (FoundFits above) (then_seek (next y) (λ a. taken refusal (a.node ∷ []) (tries a.out)) k)
  one_fits y tries fit =
      gives_then (FoundFits above) k (FoundFits 0) (next y) (λ a. taken refusal (a.node ∷ []) (tries a.out)) (ih y k room)
      (λ a t fa. taken_fits above refusal (a.node ∷ []) t (first (tries a.out) t.ctx) (fa.fits, tt) (fit a.out t.ctx fa.room))

  two_fit : (y z : Expr) (tries : ExprOut → ExprOut → List Candidate)
      → ((p q : ExprOut) (c : Context) → Room c → Fit (first (tries p q) c))
      → Gives (FoundFits above) (then_seek (next y)
      (λ a. then_seek (next z) (λ b. taken refusal (a.node ∷ b.node ∷ []) (tries a.out b.out))) k)
  two_fit y z tries fit =
      gives_then (FoundFits above) k (FoundFits 0) (next y)
      (λ a. then_seek (next z) (λ b. taken refusal (a.node ∷ b.node ∷ []) (tries a.out b.out))) (ih y k room)
      (λ a t fa. gives_then (FoundFits above) t (FoundFits 0) (next z)
      (λ b. taken refusal (a.node ∷ b.node ∷ []) (tries a.out b.out)) (ih z t fa.room)
      (λ b u fb. taken_fits above refusal (a.node ∷ b.node ∷ []) u (first (tries a.out b.out) u.ctx) (fa.fits, (fb.fits, tt))
      (fit a.out b.out u.ctx fb.room)))

  parts_fit : (at : ℕ) (shape : Expr-F Expr) → Gives (FoundFits above) (search.parts next refusal at shape k)
  parts_fit at (e.Lit n) =
      taken_fits above refusal [] k (first (plainly rule.ELit (lit.after at n) ∷ []) k.ctx) tt
      (fit_one (plainly rule.ELit (lit.after at n)) k.ctx
      (fit_plainly rule.ELit (lit.after at n) k.ctx refl (lit_rooms k.ctx room at n)))
  parts_fit at (e.Var y) =
      taken_fits above refusal [] k (first (plainly rule.EVar (var.after at y) ∷ []) k.ctx) tt
      (fit_one (plainly rule.EVar (var.after at y)) k.ctx
      (fit_plainly rule.EVar (var.after at y) k.ctx refl (var_rooms k.ctx room at y)))
  parts_fit at (e.Length a) =
      taken_fits above refusal [] k (first (plainly rule.ELen (array_length at a true) ∷ []) k.ctx) tt
      (fit_one (plainly rule.ELen (array_length at a true)) k.ctx
      (fit_plainly rule.ELen (array_length at a true) k.ctx refl (length_rooms k.ctx room at a)))
  parts_fit at (e.Bin o y z) = two_fit y z (λ p q. operations at o p q) (λ p q c more. operations_fit at p q c more o)
  parts_fit at (e.Test test y z) =
      two_fit y z (λ p q. plainly rule.ECmp (cmp.after at test p q) ∷ [])
      (λ p q c more. fit_one (plainly rule.ECmp (cmp.after at test p q)) c
      (fit_plainly rule.ECmp (cmp.after at test p q) c refl (cmp_rooms c more at [] p q test)))
  parts_fit at (e.Both y z) =
      two_fit y z (λ p q. plainly rule.EBoth (both.after at p q) ∷ [])
      (λ p q c more. fit_one (plainly rule.EBoth (both.after at p q)) c
      (fit_plainly rule.EBoth (both.after at p q) c refl (both_rooms c more at [] p q)))
  parts_fit at (e.Either y z) =
      two_fit y z (λ p q. plainly rule.EEither (either.after at p q) ∷ [])
      (λ p q c more. fit_one (plainly rule.EEither (either.after at p q)) c
      (fit_plainly rule.EEither (either.after at p q) c refl (either_rooms c more at [] p q)))
  parts_fit at (e.Not y) =
      one_fits y (λ p. plainly rule.ENot (negation.after at p) ∷ [])
      (λ p c more. fit_one (plainly rule.ENot (negation.after at p)) c
      (fit_plainly rule.ENot (negation.after at p) c refl (not_rooms c more at [] p p)))
  parts_fit at (e.ToWord y) =
      one_fits y (λ p. plainly rule.EWord (word.after p) ∷ [])
      (λ p c more. fit_one (plainly rule.EWord (word.after p)) c (fit_plainly rule.EWord (word.after p) c refl more))
  parts_fit at (e.ToByte y) =
      one_fits y (λ p. bytes at p)
      (λ p c more. fit_two (certified rule.EByte (byte_goal p) (λ ks. byte.after ks at p)) (plainly rule.ECut (cut.after at p)) c
      (fit_certified rule.EByte (λ ks. byte.after ks at p) c refl more (λ q. byte_rooms c more at (q ∷ []) p p) (byte_goal p))
      (fit_plainly rule.ECut (cut.after at p) c refl (fresh_rooms c more at 255 _)))
  parts_fit at (e.Get a i) =
      gives_where (FoundFits above) k (λ c. is_some (own c a)) refusal
      (then_seek (next i) (λ p. taken refusal (p.node ∷ []) (element at a p.out ∷ [])))
      (λ there. one_fits i (λ p. element at a p ∷ [])
      (λ p c more. fit_one (element at a p) c
      (fit_certified rule.EGet (λ ks. get.after ks at a p) c refl more (λ q. get_rooms c more at (q ∷ []) p p a)
      (index_goal a p.form c))))
  parts_fit at (e.Tab t ns i) =
      gives_where (FoundFits above) k (λ c. tab.is_small ns) refusal
      (then_seek (next i) (λ p. taken refusal (p.node ∷ []) (entry at t ns p.out ∷ [])))
      (λ small. one_fits i (λ p. entry at t ns p ∷ [])
      (λ p c more. fit_one (entry at t ns p) c
      (fit_certified rule.ETab (λ ks. tab.after ks at t ns p) c refl more (λ q. tab_rooms c more at (q ∷ []) p p t ns)
      (entry_goal ns p))))

-- Rewritings.

-- the steps of a lemma that is taken are at most so many
abbrev AtMost : ℕ → Option (List ℕ) → Type 0
AtMost room None = Unit {0}
AtMost room (Some steps) = length steps ≤ room

few_steps : (room : ℕ) (steps : List ℕ) → AtMost room (at_most room steps)
few_steps room steps = by (nat_le (length steps) room) refl
  where
    by : (b : Bool) → nat_le (length steps) room ≡ b → AtMost room (if b then Some steps else None)
    by true is = leb-true (length steps) room is
    by false is = tt

few_of : (room : ℕ) (o : Option (List ℕ)) → AtMost room (option_and_then (at_most room) o)
few_of room None = tt
few_of room (Some steps) = few_steps room steps

few_or : (room : ℕ) (o p : Option (List ℕ)) → AtMost room o → AtMost room p → AtMost room (option_or o p)
few_or room None p one two = two
few_or room (Some steps) p one two = one

rewriting_few : (turn : Turn) (room : ℕ) (x : Expr) (ls : List Lemma) → AtMost room (rewriting turn room x ls)
rewriting_few turn room x [] = tt
rewriting_few turn room x (l ∷ ls) = few_or room _ _ (few_of room (expand turn l x)) (rewriting_few turn room x ls)

-- the number of a step is in the range of a step's
step_in_range : (step n : ℕ) → step_of (pos step ∷ []) ≡ Some n → nat_le step (2 ^ 40) ≡ true
step_in_range step n is = by (nat_le 0 step && nat_le step most) refl is
  where
    by : (b : Bool) → nat_le 0 step && nat_le step most ≡ b → (if b then Some step else None) ≡ Some n
        → nat_le step (2 ^ 40) ≡ true
    by true both found_is = let below = leb-true step most (and_parts (nat_le 0 step) (nat_le step most) both).1 in
        le-leb step (2 ^ 40) (omega (arith, below))
    by false none found_is = absurd (let bad : ◌≡◌ {A = Option ℕ} None (Some n) = found_is in cc)

step_fits : (turn : Turn) (step above : ℕ) (x y : Expr) (f : Found) → stepped turn step x ≡ Some y → above < 8
    → NodeFits (above + 1) f.node → NodeFits above (over_step step f).node
step_fits turn step above x y f is below fits = by (step_of (pos step ∷ [])) refl is
  where
    n : ExprNode-F ExprNode
    n = record { step = record { rule = rule.ERw; args = pos step ∷ []; certs = [] }; kids = f.node ∷ [] }

    by : (o : Option ℕ) → step_of (pos step ∷ []) ≡ o → option_and_then (λ k. turn k x) o ≡ Some y
        → NodeFits above (over_step step f).node
    by None number stepped_is = absurd (let bad : ◌≡◌ {A = Option Expr} None (Some y) = stepped_is in cc)
    by (Some k) number stepped_is =
        let inside : nat_le step (2 ^ 40) ≡ true = step_in_range step k number in
        let room : nat_lt above 8 ≡ true = lt-ltb above 8 below in
        record {
          few = rw (fold-roll-ExprNode (ℕ → Bool) expr_few_step n) (rw (room, fits.few) refl);
          numbers = rw (fold-roll-ExprNode (List Listed) expr_list_step n)
              (rw (inside, append-nil (expr_list f.node), fits.numbers) refl);
        }

module _ (turn : Turn) (refusal : Expr → Refusal) (last : Expr → Seek Found) (top : ℕ) (few : top ≤ 8)
    (ih : (y : Expr) (t : Seeker) → Room t.ctx → Gives (FoundFits top) (last y t)) where
  steps_fit : (steps : List ℕ) (above : ℕ) → above + length steps ≡ top → (x : Expr) (k : Seeker) → Room k.ctx
      → Gives (FoundFits above) (by_steps turn refusal last steps x k)
  steps_fit [] above is x k room =
      let same : top ≡ above = omega (arith, is) in subst (λ (n : ℕ). Gives (FoundFits n) (last x k)) same (ih x k room)
  steps_fit (step ∷ steps) above is x k room =
      let size : length (step ∷ steps) ≡ length steps + 1 = omega arith in
      let rest : above + 1 + length steps ≡ top = omega (arith, is, size) in
      gives_enter (FoundFits above) k
      (λ at. where_some (refusal x) (stepped turn step x)
      (λ y. then_seek (by_steps turn refusal last steps y) (λ f. given (over_step step f))))
      (λ more. by (omega (arith, is, size, few)) (λ y. steps_fit steps (above + 1) rest y (entered k) room) (stepped turn step x)
      refl)
    where
      by : above < 8 → ((y : Expr) → Gives (FoundFits (above + 1)) (by_steps turn refusal last steps y (entered k)))
          → (o : Option Expr) → stepped turn step x ≡ o
          → Gives (FoundFits above) (where_some (refusal x) o
          (λ y. then_seek (by_steps turn refusal last steps y) (λ f. given (over_step step f))) (entered k))
      by below next None none = tt
      by below next (Some y) some =
          gives_then (FoundFits above) (entered k) (FoundFits (above + 1)) (by_steps turn refusal last steps y)
          (λ f. given (over_step step f)) (next y)
          (λ f t ff. record { fits = step_fits turn step above x y f some below ff.fits; room = ff.room })

goals_fit : (g : Guide) (deep stmt above : ℕ) → above ≤ 8 → (x : Expr) (k : Seeker) → Room k.ctx
    → Gives (FoundFits above) (search.goal_of g deep stmt above x k)
goals_fit g zero stmt above few x k room = tt
goals_fit g (suc deep) stmt above few x k room =
    by (λ more small y t. goals_fit g deep stmt more small y t) (rewriting g.turn (8 - above) x g.lemmas)
    (rewriting_few g.turn (8 - above) x g.lemmas)
  where
    by : ((more : ℕ) → more ≤ 8 → (y : Expr) (t : Seeker) → Room t.ctx
        → Gives (FoundFits more) (search.goal_of g deep stmt more y t)) → (o : Option (List ℕ)) → AtMost (8 - above) o
        → Gives (FoundFits above) (search.by_lemma g.turn (search.goal_of g deep stmt) stmt above x o k)
    by next None small =
        gives_enter (FoundFits above) k (λ at. search.parts (search.goal_of g deep stmt 0) (search.stuck stmt x) at (out-Expr x))
        (λ more. parts_fit above (search.goal_of g deep stmt 0) (next 0 (omega arith)) (search.stuck stmt x) (entered k) room
        k.entered (out-Expr x))
    by next (Some steps) small =
        let fits : above + length steps ≤ 8 = omega (arith, small, few) in
        steps_fit g.turn (search.stuck stmt) (search.goal_of g deep stmt (above + length steps)) (above + length steps) fits
        (next (above + length steps) fits) steps above refl x k room

seek_fits : (g : Guide) (deep stmt : ℕ) (x : Expr) (k : Seeker) → Room k.ctx → Gives (FoundFits 0) (seek g deep stmt x k)
seek_fits g deep stmt x k room = goals_fit g deep stmt 0 (omega arith) x k room

-- ---- Statements.

record StmtFits (n : StmtNode) : Type 0 where
  few : stmt_few n ≡ true
  numbers : list_all node_in_range (stmt_list n) ≡ true

record Fits (n : StmtNode) (t : Seeker) : Type 0 where
  fits : StmtFits n
  room : Room t.ctx

abbrev AllFit : List StmtNode → Type 0
AllFit [] = Unit {0}
AllFit (n ∷ ns) = StmtFits n × AllFit ns

all_few : (ns : List StmtNode) → AllFit ns → all_true (map stmt_few ns) ≡ true
all_few [] fit = refl
all_few (n ∷ ns) fit = rw (fit.0.few, all_few ns fit.1) refl

all_numbers : (ns : List StmtNode) → AllFit ns → list_all node_in_range (joined (map stmt_list ns)) ≡ true
all_numbers [] fit = refl
all_numbers (n ∷ ns) fit = all_append node_in_range (stmt_list n) (joined (map stmt_list ns)) fit.0.numbers (all_numbers ns fit.1)

fit_behind : (ns : List StmtNode) (n : StmtNode) → AllFit ns → StmtFits n → AllFit (ns ++ n ∷ [])
fit_behind [] n all one = (one, tt)
fit_behind (m ∷ ns) n all one = (all.0, fit_behind ns n all.1 one)

-- blocks of nodes

record BlockFits (b : Block) : Type 0 where
  few : block_few b ≡ true
  numbers : list_all node_in_range (nodes_of (block_list b)) ≡ true

block_fits : (ns : List StmtNode) → AllFit ns → BlockFits (nodes.block ns)
block_fits ns all =
    let b : Block-F Block StmtNode = record { nodes = ns } in
    record {
      few = rw (fold-roll-Block Bool Bool block_few_step stmt_few_step b) (all_few ns all);
      numbers = rw (fold-roll-Block BlockList (List Listed) block_list_step stmt_list_step b) (all_numbers ns all);
    }

abbrev BlocksFit : List Block → Type 0
BlocksFit [] = Unit {0}
BlocksFit (b ∷ bs) = BlockFits b × BlocksFit bs

blocks_few : (bs : List Block) → BlocksFit bs → all_true (map block_few bs) ≡ true
blocks_few [] fit = refl
blocks_few (b ∷ bs) fit = rw (fit.0.few, blocks_few bs fit.1) refl

blocks_numbers : (bs : List Block) → BlocksFit bs → list_all node_in_range (joined (map nodes_of (map block_list bs))) ≡ true
blocks_numbers [] fit = refl
blocks_numbers (b ∷ bs) fit = all_append node_in_range (nodes_of (block_list b)) (joined (map nodes_of (map block_list bs)))
    fit.0.numbers (blocks_numbers bs fit.1)

node_with_fits : (r : deriv.Rule) (args : List ℤ) (certs : List Cert) (kids : List ExprNode) (blocks : List Block)
    → list_all argument_in_range args ≡ true → list_all cert_in_range certs ≡ true → KidsFit kids → BlocksFit blocks
    → StmtFits (nodes.node_with r args certs kids blocks)
node_with_fits r args certs kids blocks ranges numbers fit inner =
    let n : StmtNode-F Block StmtNode =
    record { step = record { rule = r; args = args; certs = certs }; kids = kids; blocks = blocks } in
    let all = all_append node_in_range (joined (map expr_list kids)) (joined (map nodes_of (map block_list blocks)))
    (kids_numbers kids fit) (blocks_numbers blocks inner) in
    record {
      few = rw (fold-roll-StmtNode Bool Bool block_few_step stmt_few_step n)
          (rw (kids_are_few kids fit, blocks_few blocks inner) refl);
      numbers = rw (fold-roll-StmtNode BlockList (List Listed) block_list_step stmt_list_step n) (rw (ranges, numbers, all) refl);
    }

stmt_fits : (r : deriv.Rule) (l : Option ℕ) (certs : List Cert) (kids : List ExprNode)
    → list_all argument_in_range (elim l [ Some n ↦ pos n ∷ [] | None ↦ [] ]) ≡ true → list_all cert_in_range certs ≡ true
    → KidsFit kids
    → StmtFits (nodes.node r (elim l [ Some n ↦ pos n ∷ [] | None ↦ [] ]) certs kids)
stmt_fits r l certs kids ranges numbers fit =
    let n : StmtNode-F Block StmtNode =
    record {
      step = record { rule = r; args = elim l [ Some n ↦ pos n ∷ [] | None ↦ [] ]; certs = certs };
      kids = kids;
      blocks = [];
    } in
    record {
      few = rw (fold-roll-StmtNode Bool Bool block_few_step stmt_few_step n) (rw (kids_are_few kids fit) refl);
      numbers = rw (fold-roll-StmtNode BlockList (List Listed) block_list_step stmt_list_step n)
          (rw (ranges, numbers, append-nil (joined (map expr_list kids)), kids_numbers kids fit) refl);
    }

step_ended : {A : Type 0} (refusal : Refusal) (n : StmtNode) (k : Seeker) (r : Result (A × Context) Refusal) → StmtFits n
    → After r → Gives Fits (with_context k (nodes.ended refusal n r))
step_ended refusal n k (Ok p) fits room = record { fits = fits; room = room }
step_ended refusal n k (Err other) fits room = tt

let_bound : (at : ℕ) (refusal : Refusal) (x : Name) (f : Found) (k : Seeker) → FoundFits 0 f k → (o : Option ℕ)
    → ((l : ℕ) → o ≡ Some l → nat_le l most_local ≡ true) → (q : Option Scalar)
    → Gives Fits (with_context k (statements.bound at refusal x f o q k.ctx))
let_bound at refusal x f k fits None range q = tt
let_bound at refusal x f k fits (Some l) range None = tt
let_bound at refusal x f k fits (Some l) range (Some t) =
    let below = leb-true l most_local (range l refl) in
    let inside : nat_le l (2 ^ 40) ≡ true = le-leb l (2 ^ 40) (omega (arith, below)) in
    step_ended refusal (nodes.node rule.SLet (pos l ∷ []) [] (f.node ∷ [])) k (let_rule.after at x l t f.out k.ctx)
    (stmt_fits rule.SLet (Some l) [] (f.node ∷ []) (rw inside refl) refl (fits.fits, tt))
    (let_rooms k.ctx fits.room at [] f.out f.out x l t)

abbrev WriteFits : Option (Cert × Context) → Type 0
WriteFits None = Unit {0}
WriteFits (Some p) = (cert_in_range p.0 ≡ true) × Room p.1

write_after : (q : Cert) (r : Result (StmtOut × Context) Refusal) → cert_in_range q ≡ true → After r
    → WriteFits (statements.after_put q r)
write_after q (Ok p) numbers room = (numbers, room)
write_after q (Err refusal) numbers room = tt

module _ (at : ℕ) (a : Name) (f g : Found) (c : Context) (room : Room c) where
  write_with : (goal : LinearForm) (o : Option Cert) → certificate c goal ≡ o → WriteFits (statements.put_with at a f g o c)
  write_with goal None is = tt
  write_with goal (Some q) is = write_after q (put_rule.after (q ∷ []) at a f.out g.out c) (certificate_fits c room goal q is)
      (put_rooms c room at (q ∷ []) f.out g.out a)

  write_of : (goal : Option LinearForm) → WriteFits (statements.put_with at a f g (option_and_then (certificate c) goal) c)
  write_of None = tt
  write_of (Some goal) = write_with goal (certificate c goal) refl

module _ (refusal : Refusal) (kids : List ExprNode) (fit : KidsFit kids) (k : Seeker) where
  put_fits : (o : Option (Cert × Context)) → WriteFits o → Gives Fits (with_context k (statements.put_ended refusal kids o))
  put_fits None is = tt
  put_fits (Some p) is = record { fits = stmt_fits rule.SPut None (p.0 ∷ []) kids refl (rw is.0 refl) fit; room = is.1 }

  move_fits : (b a : Name) (o : Option (Cert × Context)) → WriteFits o
      → Gives Fits (with_context k (statements.move_ended refusal kids b a o))
  move_fits b a None is = tt
  move_fits b a (Some p) is = by (can_move p.1 a b) refl
    where
      by : (m : Bool) → can_move p.1 a b ≡ m → Gives Fits (with_context k (statements.move_ended refusal kids b a (Some p)))
      by true may = rw may (record { fits = stmt_fits rule.SMove None (p.0 ∷ []) kids refl (rw is.0 refl) fit; room = is.1 })
      by false may = rw may tt

-- ---- Parts of statements.

local_fits : (l : ℕ) → nat_le l most_local ≡ true → nat_le l (2 ^ 40) ≡ true
local_fits l range = let below = leb-true l most_local range in le-leb l (2 ^ 40) (omega (arith, below))

record MapFits (o : MapStart) (t : Seeker) : Type 0 where
  range : InRange o.locals
  room : Room t.ctx

record FoldFits (o : FoldStart) (t : Seeker) : Type 0 where
  range : FoldInRange o.locals
  room : Room t.ctx

record BlockFound (ns : List StmtNode) (t : Seeker) : Type 0 where
  all : AllFit ns
  room : Room t.ctx

record SideFits (o : Side) (t : Seeker) : Type 0 where
  all : AllFit o.nodes
  numbers : list_all cert_in_range o.certs ≡ true
  room : Room t.ctx

abbrev PlanFits : Option Plan → Type 0
PlanFits None = Unit {0}
PlanFits (Some p) = (list_all argument_in_range p.args ≡ true) × (list_all cert_in_range p.certs ≡ true)

record LoopFits (o : LoopStart) (t : Seeker) : Type 0 where
  plan : PlanFits (Some o.plan)
  room : Room t.ctx

record OpenedFits (o : (ExprNode × ExprNode) × LoopStart) (t : Seeker) : Type 0 where
  first : NodeFits 0 o.0.0
  second : NodeFits 0 o.0.1
  loop : LoopFits o.1 t

abbrev CertsFit : Option (List Cert) → Type 0
CertsFit None = Unit {0}
CertsFit (Some ks) = list_all cert_in_range ks ≡ true

form_fits : (c : Context) → Room c → (o : Option LinearForm) (k : Cert) → option_and_then (certificate c) o ≡ Some k
    → cert_in_range k ≡ true
form_fits c room (Some goal) k is = certificate_fits c room goal k is
form_fits c room None k is = absurd (let bad : ◌≡◌ {A = Option Cert} None (Some k) = is in cc)

led_fits : (o : Option Cert) → ((k : Cert) → o ≡ Some k → cert_in_range k ≡ true) → (q : Option (List Cert)) → CertsFit q
    → CertsFit (led o q)
led_fits None one q rest = tt
led_fits (Some k) one None rest = tt
led_fits (Some k) one (Some ks) rest = rw (one k refl, rest) refl

all_certificates_fit : (c : Context) → Room c → (form : Name → LinearForm) (rs : List Le) → CertsFit (certificates c form rs)
all_certificates_fit c room form [] = refl
all_certificates_fit c room form (r ∷ rs) =
    led_fits (certificate_of c (difference form r)) (λ k is. form_fits c room (within (difference form r)) k is)
    (certificates c form rs) (all_certificates_fit c room form rs)

certificates_fit : (c : Context) → Room c → (form : Name → LinearForm) (rs : List Le) (ks : List Cert)
    → certificates c form rs ≡ Some ks → list_all cert_in_range ks ≡ true
certificates_fit c room form rs ks is = let one : CertsFit (Some ks) = subst CertsFit is (all_certificates_fit c room form rs) in
    one

end_certs_fit : (x : Name) (names : List Name) (keep : List Le) (start : Standing) (c : Context) → Room c → (ks : List Cert)
    → turns.end_certs x names keep start c ≡ Some ks → list_all cert_in_range ks ≡ true
end_certs_fit x names keep start c room ks = by (within (one_more (form_in start.scalars x)))
  where
    by : (o : Option LinearForm) → option_and_then
        (λ f. certificates c (given_first x f (end_form names c.scalars start.scalars)) keep) o ≡ Some ks
        → list_all cert_in_range ks ≡ true
    by (Some f) is = certificates_fit c room (given_first x f (end_form names c.scalars start.scalars)) keep ks is
    by None is = absurd (let bad : ◌≡◌ {A = Option (List Cert)} None (Some ks) = is in cc)

small_is : (z : ℤ) → is_small z ≡ true → argument_in_range z ≡ true
small_is z is = is

smalls_are : (zs : List ℤ) → list_all is_small zs ≡ true → list_all argument_in_range zs ≡ true
smalls_are zs is = is

module _ (h : Homes) (entries : ℕ) (x : Name) (keep : List Le) (low high : LinearForm) (c : Context) (room : Room c) where
  trip_plan : (l : ℕ × ℕ) → count_locals h x c ≡ Some l → (q : Option (List Cert)) → CertsFit q → (o : Option Trip)
      → trip_for entries c low high ≡ o → PlanFits (turns.with_trip l q o)
  trip_plan l locals q certs None trip = tt
  trip_plan l locals None certs (Some t) trip = tt
  trip_plan l locals (Some ks) certs (Some t) trip =
      let chosen = count_holds h c x l locals in
      let holds = trip_holds entries c low high t trip in
      let args = smalls_are t.args (trip_args_small entries t.args t.form holds.read) in
      let cert = form_fits c room (within (for_rule.spare_trips t.form low high)) t.cert holds.enough in
      (rw (local_fits l.0 chosen.0, local_fits l.1 chosen.1, args) refl, rw (cert, certs) refl)

  planned_fits : PlanFits (turns.planned h entries x keep low high c)
  planned_fits = by (count_locals h x c) refl
    where
      by : (o : Option (ℕ × ℕ)) → count_locals h x c ≡ o
          → PlanFits (option_and_then (turns.planned_at entries x keep low high c) o)
      by None locals = tt
      by (Some l) locals = trip_plan l locals (turns.start_certs x keep low c)
          (all_certificates_fit c room (given_first x low (form_in c.scalars)) keep) (trip_for entries c low high) refl

record TwoFit (fg : Found × Found) (t : Seeker) : Type 0 where
  one : NodeFits 0 fg.0.node
  two : NodeFits 0 fg.1.node
  room : Room t.ctx

module _ (guide : Guide) (deep stmt : ℕ) (k : Seeker) (room : Room k.ctx) where
  two_found : (i v : Expr) → Gives TwoFit (statements.seek_two guide deep stmt i v k)
  two_found i v =
      gives_then TwoFit k (FoundFits 0) (seek guide deep stmt i) (λ f. then_seek (seek guide deep stmt v) (λ g. given (f, g)))
      (seek_fits guide deep stmt i k room)
      (λ f t ff. gives_then TwoFit t (FoundFits 0) (seek guide deep stmt v) (λ g. given (f, g))
      (seek_fits guide deep stmt v t ff.room) (λ g u fg. record { one = ff.fits; two = fg.fits; room = fg.room }))

  let_fits : (at : ℕ) (x : Name) (a : Expr) → Gives Fits (statements.seek_let guide deep at stmt x a k)
  let_fits at x a =
      gives_then Fits k (FoundFits 0) (seek guide deep stmt a)
      (λ f. in_context (statements.binding guide.homes at (nodes.stuck stmt) x a f)) (seek_fits guide deep stmt a k room)
      (λ f t ff. let_bound at (nodes.stuck stmt) x f t ff (choice guide.homes x t.ctx)
      (λ l is. choice_in_range guide.homes x t.ctx l is) (kind_of t.ctx (out-Expr a)))

  store_fits : (at : ℕ) (a : Name) (i v : Expr) → Gives Fits (statements.seek_put guide deep at stmt a i v k)
  store_fits at a i v =
      gives_where Fits k (λ c. is_some (own c a)) (nodes.stuck stmt)
      (then_seek (statements.seek_two guide deep stmt i v)
      (λ fg. in_context (statements.storing at (nodes.stuck stmt) a fg.0 fg.1)))
      (λ there. gives_then Fits k TwoFit (statements.seek_two guide deep stmt i v)
      (λ fg. in_context (statements.storing at (nodes.stuck stmt) a fg.0 fg.1)) (two_found i v)
      (λ fg t fit. put_fits (nodes.stuck stmt) (fg.0.node ∷ fg.1.node ∷ []) (fit.one, (fit.two, tt)) t _
      (write_of at a fg.0 fg.1 t.ctx fit.room (index_goal a fg.0.out.form t.ctx))))

  store_moved_fits : (at : ℕ) (b a : Name) (i v : Expr) → Gives Fits (statements.seek_move guide deep at stmt b a i v k)
  store_moved_fits at b a i v =
      gives_where Fits k (λ c. can_move c a b) (nodes.stuck stmt)
      (then_seek (statements.seek_two guide deep stmt i v)
      (λ fg. in_context (statements.moving at (nodes.stuck stmt) b a fg.0 fg.1)))
      (λ there. gives_then Fits k TwoFit (statements.seek_two guide deep stmt i v)
      (λ fg. in_context (statements.moving at (nodes.stuck stmt) b a fg.0 fg.1)) (two_found i v)
      (λ fg t fit. move_fits (nodes.stuck stmt) (fg.0.node ∷ fg.1.node ∷ []) (fit.one, (fit.two, tt)) t b a _
      (write_of at a fg.0 fg.1 t.ctx fit.room (index_goal a fg.0.out.form t.ctx))))

  map_starts_fit : (at : ℕ) (a x : Name) → Gives MapFits (in_context (mapping.map_begun guide.homes at (nodes.stuck stmt) a x) k)
  map_starts_fit at a x = by (map_locals guide.homes x k.ctx) refl
    where
      opened : (l : ElementLocals) → map_locals guide.homes x k.ctx ≡ Some l
          → (r : Result ((Clause × Standing) × Context) Refusal) → After r
          → Gives MapFits (with_context k (mapping.map_started (nodes.stuck stmt) l r))
      opened l is (Ok p) more = record { range = map_in_range guide.homes k.ctx x l is; room = more }
      opened l is (Err refusal) more = tt

      by : (o : Option ElementLocals) → map_locals guide.homes x k.ctx ≡ o
          → Gives MapFits (with_context k (mapping.map_with at (nodes.stuck stmt) a x o k.ctx))
      by None is = tt
      by (Some l) is = opened l is (map_opens at a x l k.ctx) (map_starts at a x l k.ctx room)

  map_fits : (at : ℕ) (a x : Name) (v : Expr) → Gives Fits (mapping.seek_map guide deep at stmt a x v k)
  map_fits at a x v =
      gives_then Fits k MapFits (in_context (mapping.map_begun guide.homes at (nodes.stuck stmt) a x))
      (λ o. then_seek (seek guide deep stmt v) (λ f. in_context (mapping.mapped at (nodes.stuck stmt) a o f)))
      (map_starts_fit at a x)
      (λ o t one. gives_then Fits t (FoundFits 0) (seek guide deep stmt v)
      (λ f. in_context (mapping.mapped at (nodes.stuck stmt) a o f)) (seek_fits guide deep stmt v t one.room)
      (λ f u ff. step_ended (nodes.stuck stmt) (mapping.map_node o.locals f.node) u
      (map_rule.after at a o.locals o.clause o.before f.out.code u.ctx)
      (node_with_fits rule.SMap (mapping.map_args o.locals) [] (f.node ∷ []) []
      (rw (
        local_fits o.locals.count one.range.count,
        local_fits o.locals.last one.range.last,
        local_fits o.locals.element
            one.range.element,
      ) refl)
      refl (ff.fits, tt) tt)
      (map_after at a o.locals o.clause o.before f.out.code u.ctx ff.room)))

  fold_starts_fit : (at : ℕ) (y a x : Name)
      → Gives FoldFits (in_context (folding.fold_begun guide.homes at (nodes.stuck stmt) y a x) k)
  fold_starts_fit at y a x = by (fold_locals guide.homes y x k.ctx) refl
    where
      opened : (l : FoldLocals) → fold_locals guide.homes y x k.ctx ≡ Some l
          → (r : Result ((Clause × (ℕ × Scalar) × Standing) × Context) Refusal) → After r
          → Gives FoldFits (with_context k (folding.fold_started (nodes.stuck stmt) l r))
      opened l is (Ok p) more = record { range = fold_in_range guide.homes k.ctx y x l is; room = more }
      opened l is (Err refusal) more = tt

      by : (o : Option FoldLocals) → fold_locals guide.homes y x k.ctx ≡ o
          → Gives FoldFits (with_context k (folding.fold_with at (nodes.stuck stmt) y a x o k.ctx))
      by None is = tt
      by (Some l) is = opened l is (fold_opens at y a x l k.ctx) (fold_starts at y a x l k.ctx room)

  fold_fits : (at : ℕ) (y a x : Name) (v : Expr) → Gives Fits (folding.seek_fold guide deep at stmt y a x v k)
  fold_fits at y a x v =
      gives_then Fits k FoldFits (in_context (folding.fold_begun guide.homes at (nodes.stuck stmt) y a x))
      (λ o. then_seek (seek guide deep stmt v) (λ f. in_context (folding.folded at (nodes.stuck stmt) y o f)))
      (fold_starts_fit at y a x)
      (λ o t one. gives_then Fits t (FoundFits 0) (seek guide deep stmt v)
      (λ f. in_context (folding.folded at (nodes.stuck stmt) y o f)) (seek_fits guide deep stmt v t one.room)
      (λ f u ff. step_ended (nodes.stuck stmt) (folding.fold_node o.locals f.node) u
      (fold_rule.after at y o.locals o.clause o.first o.before f.out.code u.ctx)
      (node_with_fits rule.SFold (folding.fold_args o.locals) [] (f.node ∷ []) []
      (rw (
        local_fits o.locals.turn.count one.range.turn.count,
        local_fits o.locals.turn.last one.range.turn.last,
        local_fits
            o.locals.turn.element one.range.turn.element,
        local_fits o.locals.so_far one.range.so_far,
      ) refl)
      refl (ff.fits, tt) tt)
      (fold_after at y o.locals o.clause o.first o.before f.out.code u.ctx ff.room)))

-- ---- Notes.

-- nodes that fit are put behind nodes that fit, from whichever moment of the search
abbrev Adding : nodes.Adds → Type 0
Adding a = (done : List StmtNode) (k : Seeker) → AllFit done → Room k.ctx → Gives BlockFound (a done k)

all_adding : {B : Type 0} (search : B → nodes.Adds) → ((x : B) → Adding (search x)) → (xs : List B)
    → Adding (nodes.in_order (map search xs))
all_adding search each [] done k all room = record { all = all; room = room }
all_adding search each (x ∷ xs) done k all room =
    gives_then BlockFound k BlockFound (search x done) (λ ns. nodes.in_order (map search xs) ns) (each x done k all room)
    (λ ns t b. all_adding search each xs ns t b.all b.room)

note_fits : (c : Context) → Room c → (n : Noted) → NoteHolds c n → StmtFits (notes.note_node n)
note_fits c room n holds =
    node_with_fits rule.SNote n.args (n.cert ∷ []) [] [] (smalls_are n.args (flat_small n.args n.form holds.read))
    (rw (certificate_fits c room n.form n.cert holds.shown) refl) tt tt

given_fits : (k : Seeker) → Room k.ctx → (o : Option Noted) → ((n : Noted) → o ≡ Some n → NoteHolds k.ctx n)
    → (done : List StmtNode) → AllFit done → Gives BlockFound (notes.given o done k)
given_fits k room None holds done all = record { all = all; room = room }
given_fits k room (Some n) holds done all =
    gives_enter BlockFound k (λ at. in_context (notes.taken n done))
    (λ more. record { all = fit_behind done (notes.note_node n) all (note_fits k.ctx room n (holds n refl)); room = room })

fact_fits : (r : Le) → Adding (notes.noted r)
fact_fits r done k all room = given_fits k room (notes.note_of k.ctx r) (λ n is. note_holds k.ctx r n is) done all

fitting_notes : (b : Bool) (facts : List Le) → Adding (if b then nodes.in_order (map notes.noted facts) else given)
fitting_notes true facts done k all room = all_adding notes.noted fact_fits facts done k all room
fitting_notes false facts done k all room = record { all = all; room = room }

lemma_fits : {A : Type 0} (t : Stmt-F A) (l : Lemma) → Adding (notes.notes_of t l)
lemma_fits t (Rewrite x pattern steps) done k all room = record { all = all; room = room }
lemma_fits t (Note x shape facts) done k all room = fitting_notes (fits_layer shape t) facts done k all room

notes_fit : {A : Type 0} (t : Stmt-F A) (ls : List Lemma) → Adding (notes.notes_before ls t)
notes_fit t ls = all_adding (notes.notes_of t) (lemma_fits t) ls

-- ---- Statements with blocks.

module _ (guide : Guide) (deep : ℕ) where
  -- what is found for the statement fits, from whichever moment of the search
  abbrev Fitting : Stmt → Type 0
  Fitting z = Adding (statements.seek_stmt guide deep z)

  abbrev Fittings : List Stmt → Type 0
  Fittings [] = Unit {0}
  Fittings (z ∷ zs) = Fitting z × Fittings zs

  in_order_fits : (ts : List Stmt) → Fittings ts → Adding (nodes.in_order (map (statements.seek_stmt guide deep) ts))
  in_order_fits [] each done k all room = record { all = all; room = room }
  in_order_fits (z ∷ zs) each done k all room =
      gives_then BlockFound k BlockFound (statements.seek_stmt guide deep z done)
      (λ ns. nodes.in_order (map (statements.seek_stmt guide deep) zs) ns) (each.0 done k all room)
      (λ ns t b. in_order_fits zs each.1 ns t b.all b.room)

  module _ (at stmt : ℕ) (names : List Name) (keep : List Le) where
    side_starts_fit : (facts : List LinearForm) (k : Seeker) → Room k.ctx
        → Gives (λ b t. Room t.ctx) (in_context (branching.side_begun at (nodes.stuck stmt) names facts) k)
    side_starts_fit facts k room =
        by (if_rule.begins at names facts k.ctx.scalars k.ctx) (if_begins at names facts k.ctx.scalars k.ctx room)
      where
        by : (r : Result (Unit {0} × Context) Refusal) → After r
            → Gives (λ b t. Room t.ctx) (with_context k (nodes.ended (nodes.stuck stmt) (standing k.ctx) r))
        by (Ok p) more = more
        by (Err refusal) more = tt

    side_ends_fit : (before : Standing) (ns : List StmtNode) (k : Seeker) → AllFit ns → Room k.ctx
        → Gives SideFits (in_context (branching.side_ended (nodes.stuck stmt) names keep before ns) k)
    side_ends_fit before ns k all room =
        by (unlisted_kept names before.clauses k.ctx.clauses) refl
        (certificates k.ctx (end_form names k.ctx.scalars before.scalars) keep) refl
      where
        by : (kept : Bool) → unlisted_kept names before.clauses k.ctx.clauses ≡ kept → (o : Option (List Cert))
            → certificates k.ctx (end_form names k.ctx.scalars before.scalars) keep ≡ o
            → Gives SideFits (in_context (branching.side_ended (nodes.stuck stmt) names keep before ns) k)
        by false kept o is = rw kept tt
        by true kept None is = rw (kept, is) tt
        by true kept (Some ks) is =
            let found : SideFits (record { nodes = ns; certs = ks; at_end = standing k.ctx })
            (record k { ctx = restored before k.ctx }) =
            record {
              all = all;
              numbers = certificates_fit k.ctx room (end_form names k.ctx.scalars before.scalars) keep ks is;
              room = room;
            } in
            rw (kept, is) found

    side_fits : (facts : List LinearForm) (ts : List Stmt) → Fittings ts → (k : Seeker) → Room k.ctx
        → Gives SideFits (branching.seek_side guide at stmt names keep facts (map (statements.seek_stmt guide deep) ts) k)
    side_fits facts ts each k room =
        gives_then SideFits k (λ b t. Room t.ctx) (in_context (branching.side_begun at (nodes.stuck stmt) names facts))
        (λ before. then_seek (nodes.in_order (map (statements.seek_stmt guide deep) ts) [])
        (λ ns. in_context (branching.side_ended (nodes.stuck stmt) names keep before ns))) (side_starts_fit facts k room)
        (λ before t more. gives_then SideFits t BlockFound (nodes.in_order (map (statements.seek_stmt guide deep) ts) [])
        (λ ns. in_context (branching.side_ended (nodes.stuck stmt) names keep before ns))
        (in_order_fits ts each [] t tt more) (λ ns u b. side_ends_fit before ns u b.all b.room))

    if_fits : (test : Expr) (first second : List Stmt) → Fittings first → Fittings second → (k : Seeker) → Room k.ctx
        → Gives Fits (branching.seek_if guide deep at stmt test names keep (map (statements.seek_stmt guide deep) first)
        (map (statements.seek_stmt guide deep) second) k)
    if_fits test first second firsts seconds k room =
        let ones = map (statements.seek_stmt guide deep) first in let twos = map (statements.seek_stmt guide deep) second in
        gives_then Fits k (FoundFits 0) (seek guide deep stmt test)
        (λ f. then_seek (branching.seek_side guide at stmt names keep f.out.yes ones)
        (λ one. then_seek (branching.seek_side guide at stmt names keep f.out.no twos)
        (λ two. in_context (branching.met at (nodes.stuck stmt) names keep f.node one two))))
        (seek_fits guide deep stmt test k room)
        (λ f t ff. gives_then Fits t SideFits (branching.seek_side guide at stmt names keep f.out.yes ones)
        (λ one. then_seek (branching.seek_side guide at stmt names keep f.out.no twos)
        (λ two. in_context (branching.met at (nodes.stuck stmt) names keep f.node one two)))
        (side_fits f.out.yes first firsts t ff.room)
        (λ one u d1. gives_then Fits u SideFits (branching.seek_side guide at stmt names keep f.out.no twos)
        (λ two. in_context (branching.met at (nodes.stuck stmt) names keep f.node one two))
        (side_fits f.out.no second seconds u d1.room)
        (λ two w d2. step_ended (nodes.stuck stmt) (branching.branch f.node one two) w
        (if_rule.joins at names keep one.at_end two.at_end w.ctx)
        (node_with_fits rule.SIf [] (one.certs ++ two.certs) (f.node ∷ []) (nodes.block one.nodes ∷ nodes.block two.nodes ∷ [])
        refl (all_append cert_in_range one.certs two.certs d1.numbers d2.numbers) (ff.fits, tt)
        (block_fits one.nodes d1.all, (block_fits two.nodes d2.all, tt)))
        (if_joins at names keep one.at_end two.at_end w.ctx d2.room))))

    plan_fits : (x : Name) (entries : ℕ) (low high : LinearForm) (k : Seeker) → Room k.ctx → (o : Option Plan) → PlanFits o
        → Gives LoopFits (with_context k (turns.loop_with at (nodes.stuck stmt) x names keep low high o k.ctx))
    plan_fits x entries low high k room None fit = tt
    plan_fits x entries low high k room (Some p) fit =
        by (for_rule.begins at x names keep p.counter low high k.ctx.scalars k.ctx)
        (for_begins at x names keep p.counter low high k.ctx.scalars k.ctx room)
      where
        by : (r : Result (Unit {0} × Context) Refusal) → After r
            → Gives LoopFits (with_context k (turns.loop_started (nodes.stuck stmt) p (standing k.ctx) r))
        by (Ok q) more = record { plan = fit; room = more }
        by (Err refusal) more = tt

    loop_starts_fit : (x : Name) (entries : ℕ) (low high : LinearForm) (k : Seeker) → Room k.ctx
        → Gives LoopFits (in_context (turns.loop_begun guide.homes entries at (nodes.stuck stmt) x names keep low high) k)
    loop_starts_fit x entries low high k room =
        plan_fits x entries low high k room (turns.planned guide.homes entries x keep low high k.ctx)
        (planned_fits guide.homes entries x keep low high k.ctx room)

    abbrev begins : Name → ℕ → Found → Found → Seek LoopStart
    begins x entries f g = in_context
        (turns.loop_begun guide.homes entries at (nodes.stuck stmt) x names keep f.out.form g.out.form)

    loop_opened_fits : (x : Name) (low high : Expr) (k : Seeker) → Room k.ctx
        → Gives OpenedFits (turns.loop_opened guide deep at stmt x low high names keep k)
    loop_opened_fits x low high k room =
        gives_then OpenedFits k (FoundFits 0) (seek guide deep stmt low)
        (λ f. then_seek (seek guide deep stmt high)
        (λ g. then_seek (begins x k.ctx.entries f g) (λ o. given ((f.node, g.node), o))))
        (seek_fits guide deep stmt low k room)
        (λ f t ff. gives_then OpenedFits t (FoundFits 0) (seek guide deep stmt high)
        (λ g. then_seek (begins x k.ctx.entries f g) (λ o. given ((f.node, g.node), o)))
        (seek_fits guide deep stmt high t ff.room)
        (λ g u fg. gives_then OpenedFits u LoopFits (begins x k.ctx.entries f g) (λ o. given ((f.node, g.node), o))
        (loop_starts_fit x k.ctx.entries f.out.form g.out.form u fg.room)
        (λ o v one. record { first = ff.fits; second = fg.fits; loop = one })))

    loop_ends_fit : (x : Name) (low high : ExprNode) (o : LoopStart) (ns : List StmtNode) (k : Seeker) → NodeFits 0 low
        → NodeFits 0 high → PlanFits (Some o.plan) → AllFit ns → Room k.ctx
        → Gives Fits (in_context (turns.loop_ended at (nodes.stuck stmt) x names keep low high o ns) k)
    loop_ends_fit x low high o ns k one two plan all room = stays (turns.stays names o.before k.ctx) refl
      where
        shown : (q : Option (List Cert)) → turns.end_certs x names keep o.start k.ctx ≡ q
            → Gives Fits (with_context k (turns.loop_left at (nodes.stuck stmt) x names keep low high o ns q k.ctx))
        shown None is = tt
        shown (Some ks) is =
            step_ended (nodes.stuck stmt) (turns.loop_node o.plan ks low high ns) k
            (for_rule.leaves at x names keep (standing k.ctx) (restored o.before k.ctx))
            (node_with_fits rule.SFor o.plan.args (o.plan.certs ++ ks) (low ∷ high ∷ []) (nodes.block ns ∷ []) plan.0
            (all_append cert_in_range o.plan.certs ks plan.1 (end_certs_fit x names keep o.start k.ctx room ks is))
            (one, (two, tt)) (block_fits ns all, tt))
            (for_leaves at x names keep (standing k.ctx) (restored o.before k.ctx) room)

        stays : (b : Bool) → turns.stays names o.before k.ctx ≡ b
            → Gives Fits (in_context (turns.loop_ended at (nodes.stuck stmt) x names keep low high o ns) k)
        stays true is = rw is (shown (turns.end_certs x names keep o.start k.ctx) refl)
        stays false is = rw is tt

    for_fits : (x : Name) (low high : Expr) (body : List Stmt) → Fittings body → (k : Seeker) → Room k.ctx
        → Gives Fits (turns.seek_for guide deep at stmt x low high names keep (map (statements.seek_stmt guide deep) body) k)
    for_fits x low high body each k room =
        let inner = nodes.in_order (map (statements.seek_stmt guide deep) body) [] in
        gives_then Fits k OpenedFits (turns.loop_opened guide deep at stmt x low high names keep)
        (λ o. then_seek inner (λ ns. in_context (turns.loop_ended at (nodes.stuck stmt) x names keep o.0.0 o.0.1 o.1 ns)))
        (loop_opened_fits x low high k room)
        (λ o t op. gives_then Fits t BlockFound inner
        (λ ns. in_context (turns.loop_ended at (nodes.stuck stmt) x names keep o.0.0 o.0.1 o.1 ns))
        (in_order_fits body each [] t tt op.loop.room)
        (λ ns u b. loop_ends_fit x o.0.0 o.0.1 o.1 ns u op.first op.second op.loop.plan b.all b.room))

  -- a statement, and that it is so for it
  abbrev Proved : Type 0
  Proved = (z : Stmt) × Fitting z

  abbrev bare : List Proved → List Stmt
  bare ys = map (λ p. p.0) ys

  all_of : (ys : List Proved) → Fittings (bare ys)
  all_of [] = tt
  all_of (y ∷ ys) = (y.1, all_of ys)

  abbrev open_ : Stmt-F Proved → Stmt-F Stmt
  open_ y = map-Stmt Proved Stmt (λ p. p.0) y

  abbrev searches : Stmt-F Stmt → Stmt-F nodes.Adds
  searches shape = map-Stmt Stmt nodes.Adds (statements.seek_stmt guide deep) shape

  shape_fits : (at n : ℕ) (k : Seeker) → Room k.ctx → (y : Stmt-F Proved)
      → Gives Fits (statements.statement guide deep at n (searches (open_ y)) k)
  shape_fits at n k room (s.Let x a) = let_fits guide deep n k room at x a
  shape_fits at n k room (s.Put a i v) = store_fits guide deep n k room at a i v
  shape_fits at n k room (s.Move b a i v) = store_moved_fits guide deep n k room at b a i v
  shape_fits at n k room (s.If test xs rs first second) =
      if_fits at n xs rs test (bare first) (bare second) (all_of first) (all_of second) k room
  shape_fits at n k room (s.For x low high xs rs body) = for_fits at n xs rs x low high (bare body) (all_of body) k room
  shape_fits at n k room (s.Map a x v) = map_fits guide deep n k room at a x v
  shape_fits at n k room (s.Fold y a x v) = fold_fits guide deep n k room at y a x v

  opened_fits : (z : Stmt) (y : Stmt-F Proved) → out-Stmt z ≡ open_ y → Fitting z
  opened_fits z y is done k all room =
      let next : Seek StmtNode = statements.own_goal guide deep (searches (open_ y)) in
      let found : Gives BlockFound (statements.stmt_step guide deep (searches (open_ y)) done k) =
      gives_then BlockFound k BlockFound (notes.notes_before guide.lemmas (searches (open_ y)) done)
      (λ ns. then_seek next (λ n. given (ns ++ n ∷ []))) (notes_fit (searches (open_ y)) guide.lemmas done k all room)
      (λ ns t b. gives_then BlockFound t Fits next (λ n. given (ns ++ n ∷ []))
      (gives_enter Fits t
      (λ at l. statements.statement guide deep at l.stmts (searches (open_ y)) (record l { stmts = l.stmts + 1 }))
      (λ more. shape_fits t.entered t.stmts (record t { entered = t.entered + 1; stmts = t.stmts + 1 }) b.room y))
      (λ n u one. record { all = fit_behind ns n b.all one.fits; room = one.room })) in
      rw (fold_out-Stmt nodes.Adds (statements.stmt_step guide deep) z, is) found

  found_stmt : (z : Stmt) → Fitting z
  found_stmt = ind-Stmt Fitting (λ z y is. subst (λ (r : Stmt-F Stmt). Fitting (roll-Stmt r)) is
      (opened_fits (roll-Stmt (open_ y)) y (out-roll-Stmt (open_ y))))

  all_found : (zs : List Stmt) → Fittings zs
  all_found [] = tt
  all_found (z ∷ zs) = (found_stmt z, all_found zs)

-- ---- Models.

pub record IsWritable (m : Model) (d : Derivation) : Type 0 where
  pub name : d.model ≡ m.name
  pub few : block_few d.body ≡ true
  pub numbers : list_all node_in_range (preorder d) ≡ true

writable : (m : Model) (ns : List StmtNode) → AllFit ns → IsWritable m (derivation m ns)
writable m ns all =
    let b : Block-F Block StmtNode = record { nodes = ns } in
    let is : preorder (derivation m ns)
    ≡ joined (map stmt_list ns) = ap nodes_of (fold-roll-Block BlockList (List Listed) block_list_step stmt_list_step b) in
    record {
      name = refl;
      few = rw (fold-roll-Block Bool Bool block_few_step stmt_few_step b) (all_few ns all);
      numbers = ap (list_all node_in_range) is ∙ all_numbers ns all;
    }

-- a parameter has one symbol at most
param_tops : (p : ℕ) (q : Param) (c : Context) → length (with_param p q c).tops ≤ length c.tops + 1
param_tops p (param.Word x) c = let size = length-append c.tops (4294967295 ∷ []) in omega (arith, size)
param_tops p (param.Byte x) c = let size = length-append c.tops (255 ∷ []) in omega (arith, size)
param_tops p (param.Bytes a (Fixed n)) c = omega arith
param_tops p (param.Bytes a (Named x)) c = let size = length-append c.tops (4294967295 ∷ []) in omega (arith, size)
param_tops p (param.Words a (Fixed n)) c = omega arith
param_tops p (param.Words a (Named x)) c = let size = length-append c.tops (4294967295 ∷ []) in omega (arith, size)

params_tops : (p : ℕ) (qs : List Param) (c : Context) → length (with_params p qs c).tops ≤ length c.tops + length qs
params_tops p [] c = omega arith
params_tops p (q ∷ qs) c = let one = param_tops p q c in let rest = params_tops (p + 1) qs (with_param p q c) in
    omega (arith, one, rest)

start_room : (m : Model) → length m.params ≤ 8 → Room (start m)
start_room m few = let all = params_tops 0 m.params empty in omega (arith, all, few)

module _ (lemmas : List Lemma) (turn : Turn) (m : Model) (params_few : length m.params ≤ 8) (d : Derivation) where
  finished_writable : (ns : List StmtNode) (t : Seeker) → AllFit ns → finished m ns t ≡ Ok d → IsWritable m d
  finished_writable ns t all is = by (is_end m t.ctx) refl
    where
      by : (b : Bool) → is_end m t.ctx ≡ b → IsWritable m d
      by true ends =
          let one : Ok (derivation m ns) ≡ Ok d = rw ends at is in
          let same : derivation m ns ≡ d = cc in
          subst (λ (z : Derivation). IsWritable m z) same (writable m ns all)
      by false ends = absurd (let two : is_ok (finished m ns t) ≡ true = ap is_ok is in let bad : false ≡ true = rw ends at two in
          cc)

  within_writable : (deep : ℕ) → derived_within deep lemmas turn m ≡ Ok d → IsWritable m d
  within_writable deep is =
      by (nodes.in_order (map (statements.seek_stmt (guide_of lemmas turn m) deep) m.body) [] (at_start m))
      (in_order_fits (guide_of lemmas turn m) deep m.body (all_found (guide_of lemmas turn m) deep m.body) [] (at_start m) tt
      (start_room m params_few)) is
    where
      by : (r : Result (List StmtNode × Seeker) Refusal) → Gives BlockFound r → and_then r (λ p. finished m p.0 p.1) ≡ Ok d
          → IsWritable m d
      by (Ok p) found is = finished_writable p.0 p.1 found.all is
      by (Err refusal) all is = absurd (let bad : false ≡ true = ap is_ok is in cc)

-- what the search finds for a model whose arguments are few
pub derivations_are_writable : (lemmas : List Lemma) (turn : Turn) (m : Model) → length m.params ≤ 8 → (d : Derivation)
    → derived lemmas turn m ≡ Ok d → IsWritable m d
derivations_are_writable lemmas turn m few d is = within_writable lemmas turn m few d most_nodes is
