-- Trip forms are forms of entry symbols, whose number no statement changes.
use Rattle.std.proofs.Common.{◌≡◌, refl, sym, ◌∙◌, ap, subst, ℕ, ◌+◌, Bool, true, false, ◌&&◌, List, [], ◌∷◌, ◌++◌, drop, length}
use Rattle.std.proofs.Common.{map, pos, negsuc, nat_lt, Option, Some, None}
use Rattle.std.specs.Prelude.{is_some}
use Rattle.std.specs.List.{find, list_all}
use Rattle.expr_rules.specs.rules.Get as get_rule
use Rattle.rup_base.specs.Word.{counted}
use Rattle.side_certs.specs.LinearForm.{LinearForm}
use Rattle.side_certs.specs.declared.certificate.Cert.{Cert}
use Rattle.model_syntax.specs.declared.expr.Expr.{Expr, out-Expr}
use Rattle.model_syntax.specs.declared.expr.Scalar.{Scalar}
use Rattle.model_syntax.specs.declared.stmt.Le.{Le}
use Rattle.model_syntax.specs.declared.stmt.Stmt.{Stmt, Stmt-F, out-Stmt}
use Rattle.model_syntax.specs.declared.stmt.Stmt.TheOpen as s
use Rattle.model_syntax.specs.Names.{Name}
use Rattle.sym_heap.specs.declared.parts.Held.{Held}
use Rattle.sym_heap.specs.declared.parts.Clause.{Clause}
use Rattle.sym_heap.specs.Context.{Context, own, scalar, is_scalar, is_free, can_move, has_symbol, has_room}
use Rattle.sym_heap.specs.Ends.{Standing, standing, restored, with_ends}
use Rattle.sym_heap.proofs.laws.Turns.{settled_self}
use Rattle.equations.specs.Book.{Turn}
use Rattle.deriv_tree.specs.declared.tree.Step.{Step}
use Rattle.deriv_tree.specs.declared.tree.ExprNode.{ExprNode}
use Rattle.deriv_tree.specs.declared.tree.StmtNode.{StmtNode, roll-StmtNode, map-StmtNode, fold-roll-StmtNode}
use Rattle.deriv_tree.specs.declared.tree.Block.{Block, roll-Block, map-Block, ind-Block, fold-roll-Block}
use Rattle.deriv_tree.specs.declared.tree.Block.TheOpen.{Block-F, StmtNode-F}
use Rattle.expr_rules.specs.declared.output.ExprOut.{ExprOut}
use Rattle.expr_rules.specs.Row as expr
use Rattle.expr_rules.specs.Sound.{Yields}
use Rattle.expr_rules.specs.Words.{Rule, ◌>>=◌, sum_of, need, found, give, cert, added, has_counts, are_none, Judged, sizes}
use Rattle.expr_rules.specs.Words.{one_kid, two_kids}
use Rattle.expr_rules.proofs.laws.Yields.{yields_then, yields_need, yields_found, yields_cert, yields_shown, yields_more}
use Rattle.stmt_rules.specs.declared.loops.Counter.{Counter}
use Rattle.stmt_rules.specs.declared.loops.ElementLocals.{ElementLocals}
use Rattle.stmt_rules.specs.declared.loops.FoldLocals.{FoldLocals}
use Rattle.stmt_rules.specs.declared.output.StmtOut.{StmtOut}
use Rattle.expr_rules.specs.rules.Len as len
use Rattle.stmt_rules.specs.Loops.{has_trips, are_entries, is_entry_form, entry_form, local_arg, trip_form, all_kept_but}
use Rattle.stmt_rules.specs.Nesting.{all_kept, all_renewed, renewed, taken, now, stands_alike, is_array_alike}
use Rattle.stmt_rules.specs.Row.{StmtJudged, BlockJudged, block_step, judged_step, judged, block_judged, fits, kind, binding}
use Rattle.stmt_rules.specs.Row.{putting, moving, branching, looping, mapping, folding, parts, stmt_row, note_counts, note_row}
use Rattle.stmt_rules.specs.Row.{walk}
use Rattle.stmt_rules.specs.Words.{kind_of, first_local, flat, nothing, joined}
use Rattle.stmt_rules.specs.rules.Fold as fold_rule
use Rattle.stmt_rules.specs.rules.For as for_rule
use Rattle.stmt_rules.specs.rules.If as if_rule
use Rattle.stmt_rules.specs.rules.Let as let_rule
use Rattle.stmt_rules.specs.rules.Map as map_rule
use Rattle.stmt_rules.specs.rules.Move as move_rule
use Rattle.stmt_rules.specs.rules.Note as note_rule
use Rattle.stmt_rules.specs.rules.Put as put_rule
use Rattle.stmt_rules.proofs.Entries.{AllKeep, one_keeps, two_keep, tree_keeps}
use Rattle.stmt_rules.proofs.Sequence.{and_parts}
use Rattle.stmt_rules.proofs.sound.Begun.{begins_are}
use Rattle.stmt_rules.proofs.sound.MapRow.{room_kept}
use Rattle.stmt_rules.proofs.sound.FoldRow.{map_locals, fold_locals}
use Rattle.stmt_rules.proofs.sound.For.{LoopStarted, starts_yield}
use Rattle.stmt_rules.proofs.sound.ForEnd.{LoopEnded, ends_yield}
use Rattle.stmt_rules.proofs.sound.ForStart.{begun_loop, begins_are as loop_begins}
use Rattle.stmt_rules.proofs.sound.Joined.{all_kept_are}
use Rattle.stmt_rules.proofs.sound.Mentioned.{all_kept_but_are}
use Rattle.stmt_rules.proofs.sound.Side.{HasEnded, ends_yield as side_ends}

-- Words.

-- the number of entry symbols is this one
abbrev pub Counts : {A : Type 0} → ℕ → A → Context → Type 0
Counts n a d = d.entries ≡ n

entries_joined : (n : ℕ) (ts us : List LinearForm) → are_entries n ts ≡ true → are_entries n us ≡ true
    → are_entries n (ts ++ us) ≡ true
entries_joined n [] us one two = two
entries_joined n (t ∷ ts) us one two =
    let p = and_parts (is_entry_form n t) (are_entries n ts) one in
    rw p.0 (entries_joined n ts us p.1 two)

renewed_counts : (at n : ℕ) (y : Name) (o : Option Held) (c : Context) → c.entries ≡ n → Yields (Counts n) (renewed at y o c)
renewed_counts at n y None c is = is
renewed_counts at n y (Some h) c is = by (has_symbol c) refl where
  by : (b : Bool) → has_symbol c ≡ b → Yields (Counts n) (renewed at y (Some h) c)
  by true e = rw e is
  by false e = rw e tt

renewed_all : (at n : ℕ) (ys : List Name) (ends : List Held) (c : Context) → c.entries ≡ n
    → Yields (Counts n) (all_renewed at ys ends c)
renewed_all at n [] ends c is = is
renewed_all at n (y ∷ ys) ends c is =
    yields_then (Counts n) c (Counts n) (renewed at y (find (is_scalar y) ends)) (λ _. all_renewed at ys ends)
    (renewed_counts at n y (find (is_scalar y) ends) c is)
    (λ u d there. renewed_all at n ys ends d there)

kept_all : (at n : ℕ) (keep : List Le) (c : Context) → c.entries ≡ n → Yields (Counts n) (all_kept at keep c)
kept_all at n keep c is = yields_more _ (Counts n) (λ u d d_is. ap (λ (z : Context). z.entries) d_is ∙ is) (all_kept at keep c)
    (all_kept_are at keep c)

kept_but : (at n : ℕ) (x : Name) (keep : List Le) (c : Context) → c.entries ≡ n → Yields (Counts n) (all_kept_but at x keep c)
kept_but at n x keep c is = yields_more _ (Counts n) (λ u d d_is. ap (λ (z : Context). z.entries) d_is ∙ is)
    (all_kept_but at x keep c) (all_kept_but_are at x keep c)

-- Nodes.

-- the number of entry symbols stays, and the trip forms mention only those
abbrev pub Trips : ℕ → StmtOut → Context → Type 0
Trips n out d = (d.entries ≡ n) × (are_entries n out.trips ≡ true)

abbrev TripBlock : BlockJudged → Type 0
TripBlock b = (at owner cond : ℕ) (ts : List Stmt) (c : Context) → Yields (Trips c.entries) (b.row at owner cond ts c)

abbrev TripBlocks : List BlockJudged → Type 0
TripBlocks [] = Unit {0}
TripBlocks (b ∷ bs) = TripBlock b × TripBlocks bs

-- a side of a conditional
side_trips : (at place n : ℕ) (names : List Name) (keep : List Le) (certs : List Cert) (facts : List LinearForm)
    (block : Rule StmtOut)
    → ((d : Context) → d.entries ≡ n → Yields (Trips n) (block d)) → (c : Context) → c.entries ≡ n
    → Yields (λ (r : if_rule.Side) d. Trips n r.0 d) (if_rule.side at names keep place certs facts block c)
side_trips at place n names keep certs facts block one c is =
    yields_then Q c (Counts n) (if_rule.begins at names facts c.scalars) (λ _. block >>= ending)
    (yields_more _ (Counts n) (λ u d d_is. ap (λ (z : Context). z.entries) d_is ∙ is) (if_rule.begins at names facts c.scalars c)
    (begins_are at names facts c))
    (λ u d there. yields_then Q d (Trips n) block ending (one d there)
    (λ out e trips. yields_then Q e (HasEnded names keep (standing c) e) (if_rule.ends at names keep place certs (standing c))
    (λ end_. give (out, end_))
    (side_ends at place names keep certs (standing c) e)
    (λ end_ f has_ended. (ap (λ (z : Context). z.entries) has_ended.after_is ∙ trips.0, trips.1))))
  where
    Q : if_rule.Side → Context → Type 0
    Q r d = Trips n r.0 d

    ending : StmtOut → Rule if_rule.Side
    ending out = if_rule.ends at names keep place certs (standing c) >>= (λ end_. give (out, end_))

module _ (step : Step) (kids : List Judged) (keeps : AllKeep kids) (blocks : List BlockJudged) (at : ℕ) (c : Context) where
  abbrev Q : StmtOut → Context → Type 0
  Q = Trips c.entries

  after_one : (x : Expr) (k : ExprOut → Rule StmtOut)
      → ((p : ExprOut) (mid : Context) → mid.entries ≡ c.entries → Yields Q (k p mid)) → Yields Q ((one_kid kids at x >>= k) c)
  after_one x k more = yields_then Q c (λ (out : ExprOut) d. d.entries ≡ c.entries) (one_kid kids at x) k
      (one_keeps kids keeps at x c) more

  after_two : (x y : Expr) (k : ExprOut × ExprOut → Rule StmtOut)
      → ((pq : ExprOut × ExprOut) (mid : Context) → mid.entries ≡ c.entries → Yields Q (k pq mid))
      → Yields Q ((two_kids kids at x y >>= k) c)
  after_two x y k more = yields_then Q c (λ (out : ExprOut × ExprOut) d. d.entries ≡ c.entries) (two_kids kids at x y) k
      (two_keep kids keeps at x y c) more

  let_trips : (x : Name) (a : Expr) → Yields Q (binding step kids at x a c)
  let_trips x a =
      yields_need Q c (has_counts step 1 0) at 2
      (λ _. found (first_local step.args) at 3
      >>= (λ l. one_kid kids at a >>= (λ p. kind at a >>= (λ t. let_rule.after at x l t p))))
      (λ counts. yields_found Q c (first_local step.args) at 3
      (λ l. one_kid kids at a >>= (λ p. kind at a >>= (λ t. let_rule.after at x l t p)))
      (λ l there. after_one a (λ p. kind at a >>= (λ t. let_rule.after at x l t p))
      (λ p mid is. yields_found Q mid (kind_of mid (out-Expr a)) at 1 (λ t. let_rule.after at x l t p)
      (λ t typed. yields_need Q mid (is_free mid l (Some x)) at 4
      (λ _. let_rule.bound x l p.form t >>= (λ _. give (let_rule.setting l p.code))) (λ free. (is, refl))))))

  -- after index and value
  put_after : (a : Name) (p q : ExprOut) (mid : Context) → mid.entries ≡ c.entries
      → Yields Q (put_rule.after step.certs at a p q mid)
  put_after a p q mid is =
      yields_found Q mid (own mid a) at 4 (λ k. put_rule.element step.certs at a k p q)
      (λ k owned. yields_shown Q mid at step.certs (sum_of (negsuc 0) ((pos 1, k.length) ∷ (negsuc 0, p.form) ∷ []))
      (λ _. need (nat_lt k.writes put_rule.most_writes) at 3
      >>= (λ _. put_rule.counted_write a >>= (λ _. give (put_rule.storing k p.code q.code))))
      (λ closes. yields_need Q mid (nat_lt k.writes put_rule.most_writes) at 3
      (λ _. put_rule.counted_write a >>= (λ _. give (put_rule.storing k p.code q.code)))
      (λ room. (is, refl))))

  put_trips : (a : Name) (i v : Expr) → Yields Q (putting step kids at a i v c)
  put_trips a i v =
      yields_need Q c (has_counts step 0 1) at 2 (λ _. get_rule.before at a >>= (λ _. two_kids kids at i v >>= rest))
      (λ counts. yields_need Q c (is_some (own c a)) at 4 (λ _. two_kids kids at i v >>= rest)
      (λ named. after_two i v rest (λ pq mid is. put_after a pq.0 pq.1 mid is)))
    where
      rest : ExprOut × ExprOut → Rule StmtOut
      rest pq = put_rule.after step.certs at a pq.0 pq.1

  move_before : (a b : Name) → Yields (λ (u : Unit {0}) d. d ≡ c) (move_rule.before at a b c)
  move_before a b =
      yields_need (λ (u : Unit {0}) d. d ≡ c) c (is_some (own c a)) at 4 (λ _. move_rule.may_take at a b)
      (λ there. by (can_move c a b))
    where
      by : (e : Bool) → Yields (λ (u : Unit {0}) d. d ≡ c) (need e at 5 c)
      by true = refl
      by false = tt

  move_trips : (b a : Name) (i v : Expr) → Yields Q (moving step kids at b a i v c)
  move_trips b a i v =
      yields_need Q c (has_counts step 0 1) at 2 (λ _. move_rule.before at a b >>= (λ _. two_kids kids at i v >>= rest))
      (λ counts. yields_then Q c (λ u d. d ≡ c) (move_rule.before at a b) (λ _. two_kids kids at i v >>= rest) (move_before a b)
      (λ u d same_one. subst (λ (z : Context). Yields Q ((two_kids kids at i v >>= rest) z)) (sym same_one)
      (after_two i v rest (λ pq mid is. after pq mid is))))
    where
      rest : ExprOut × ExprOut → Rule StmtOut
      rest pq = move_rule.after step.certs at a b pq.0 pq.1

      after : (pq : ExprOut × ExprOut) (mid : Context) → mid.entries ≡ c.entries → Yields Q (rest pq mid)
      after pq mid is =
          yields_then Q mid Q (put_rule.after step.certs at a pq.0 pq.1)
          (λ out. move_rule.may_take at a b >>= (λ _. move_rule.named a b >>= (λ _. give out))) (put_after a pq.0 pq.1 mid is)
          (λ out d there. yields_need Q d (can_move d a b) at 5 (λ _. move_rule.named a b >>= (λ _. give out)) (λ may. there))

  -- a block from a context of as many entry symbols
  from : (b : BlockJudged) → TripBlock b → (m owner cond : ℕ) (ts : List Stmt) (d : Context) → d.entries ≡ c.entries
      → Yields Q (b.row m owner cond ts d)
  from b good m owner cond ts d is = subst (λ (n : ℕ). Yields (Trips n) (b.row m owner cond ts d)) is (good m owner cond ts d)

  if_trips : TripBlocks blocks → (test : Expr) (names : List Name) (keep : List Le) (first second : List Stmt)
      → Yields Q (branching step kids blocks at test names keep first second c)
  if_trips whole test names keep first second = by blocks whole where
    by : (bs : List BlockJudged) → TripBlocks bs → Yields Q (branching step kids bs at test names keep first second c)
    by [] good = tt
    by (b ∷ []) good = tt
    by (b ∷ d ∷ e ∷ es) good = tt
    by (b ∷ d ∷ []) good =
        yields_need Q c (has_counts step 0 (length keep + length keep)) at 2 (λ _. one_kid kids at test >>= rest)
        (λ counts. after_one test rest (λ p mid is. sided p mid is))
      where
        one_rule : Rule StmtOut
        one_rule = b.row (at + 1 + sizes kids) at 4 first

        two_rule : Rule StmtOut
        two_rule = d.row (at + 1 + sizes kids + b.size) at 5 second

        rest : ExprOut → Rule StmtOut
        rest p = if_rule.after at names keep step.certs p one_rule two_rule

        Sided : if_rule.Side → Context → Type 0
        Sided r f = Trips c.entries r.0 f

        joins_count : (one two : Standing) (f : Context) → f.entries ≡ c.entries
            → Yields (Counts c.entries) (if_rule.joins at names keep one two f)
        joins_count one two f is =
            yields_need (Counts c.entries) f (list_all (stands_alike one two) names) at 7
            (λ _. need (list_all (is_array_alike one two) names) at 8
            >>= (λ _. taken names one two >>= (λ _. all_renewed at names one.scalars >>= (λ _. all_kept at keep))))
            (λ places. yields_need (Counts c.entries) f (list_all (is_array_alike one two) names) at 8
            (λ _. taken names one two >>= (λ _. all_renewed at names one.scalars >>= (λ _. all_kept at keep)))
            (λ arrays. yields_then (Counts c.entries) (with_ends names one two f) (Counts c.entries)
            (all_renewed at names one.scalars) (λ _. all_kept at keep)
            (renewed_all at c.entries names one.scalars (with_ends names one two f) is)
            (λ u g there. kept_all at c.entries keep g there)))

        sided : (p : ExprOut) (mid : Context) → mid.entries ≡ c.entries → Yields Q (rest p mid)
        sided p mid is =
            yields_then Q mid Sided (if_rule.side at names keep 0 step.certs p.yes one_rule)
            (λ one. second_side >>= (λ two. if_rule.met at names keep p.code one two))
            (side_trips at 0 c.entries names keep step.certs p.yes one_rule
            (λ f there. from b good.0 (at + 1 + sizes kids) at 4 first f there) mid is)
            (λ one f first_is. yields_then Q f Sided second_side (λ two. if_rule.met at names keep p.code one two)
            (side_trips at (counted (length keep)) c.entries names keep (drop (length keep) step.certs) p.no two_rule
            (λ g there. from d good.1.0 (at + 1 + sizes kids + b.size) at 5 second g there) f first_is.0)
            (λ two g second_is. yields_then Q g (Counts c.entries) (if_rule.joins at names keep one.1 two.1)
            (λ _. give (if_rule.choosing p.code one.0 two.0)) (joins_count one.1 two.1 g second_is.0)
            (λ u h there. (there, entries_joined c.entries one.0.trips two.0.trips first_is.1 second_is.1))))
          where
            second_side : Rule if_rule.Side
            second_side = if_rule.side at names keep (counted (length keep)) (drop (length keep) step.certs) p.no two_rule

  counter_trips : Yields (λ (k : Counter) d. (d ≡ c) × (is_entry_form c.entries k.trips ≡ true)) (for_rule.counter at step.args c)
  counter_trips =
      yields_found P c (local_arg 0 step.args) at 3
      (λ li. found (local_arg 1 step.args) at 3
      >>= (λ lh. trip_form at (drop 2 step.args) >>= (λ t. give (record { count = li; last = lh; trips = t }))))
      (λ li is_li. yields_found P c (local_arg 1 step.args) at 3
      (λ lh. trip_form at (drop 2 step.args) >>= (λ t. give (record { count = li; last = lh; trips = t })))
      (λ lh is_lh. yields_found P c (entry_form c.entries (flat (drop 2 step.args))) at 3
      (λ t. give (record { count = li; last = lh; trips = t }))
      (λ t is_t. (refl, form (flat (drop 2 step.args)) t is_t))))
    where
      P : Counter → Context → Type 0
      P k d = (d ≡ c) × (is_entry_form c.entries k.trips ≡ true)

      form : (o : Option LinearForm) (t : LinearForm) → entry_form c.entries o ≡ Some t → is_entry_form c.entries t ≡ true
      form None t is = absurd (let bad : None ≡ Some t = is in cc)
      form (Some f) t is = by (is_entry_form c.entries f) refl where
        by : (b : Bool) → is_entry_form c.entries f ≡ b → is_entry_form c.entries t ≡ true
        by false e = absurd (let bad : None ≡ Some t = rw e at is in cc)
        by true e = (let both : Some f ≡ Some t = rw e at is in let one : f ≡ t = cc in
            ap (is_entry_form c.entries) (sym one) ∙ e)

  for_trips : TripBlocks blocks → (x : Name) (low high : Expr) (names : List Name) (keep : List Le) (body : List Stmt)
      → Yields Q (looping step kids blocks at x low high names keep body c)
  for_trips whole x low high names keep body = by blocks whole where
    by : (bs : List BlockJudged) → TripBlocks bs → Yields Q (looping step kids bs at x low high names keep body c)
    by [] good = tt
    by (b ∷ d ∷ ds) good = tt
    by (b ∷ []) good =
        yields_need Q c (for_rule.counts step (length keep)) at 2
        (λ _. for_rule.counter at step.args >>= (λ k. two_kids kids at low high >>= rest k))
        (λ counts. yields_then Q c (λ (k : Counter) d. (d ≡ c) × (is_entry_form c.entries k.trips ≡ true))
        (for_rule.counter at step.args) (λ k. two_kids kids at low high >>= rest k) counter_trips
        (λ k d is. subst (λ (z : Context). Yields Q ((two_kids kids at low high >>= rest k) z)) (sym is.0)
        (after_two low high (rest k) (λ pq mid there. turned k pq mid is.1 there))))
      where
        block : Rule StmtOut
        block = b.row (at + 1 + sizes kids) at 5 body

        rest : Counter → ExprOut × ExprOut → Rule StmtOut
        rest k pq = for_rule.after at x names keep step.certs k pq.0 pq.1 block

        leaves_count : (end_ : Standing) (f : Context) → f.entries ≡ c.entries
            → Yields (Counts c.entries) (for_rule.leaves at x names keep end_ f)
        leaves_count end_ f is =
            yields_then (Counts c.entries) (with_ends names end_ end_ f) (Counts c.entries) (all_renewed at names f.scalars)
            (λ _. all_kept_but at x keep)
            (renewed_all at c.entries names f.scalars (with_ends names end_ end_ f) is)
            (λ u g there. kept_but at c.entries x keep g there)

        opens_count : (k : Counter) (pq : ExprOut × ExprOut) (mid : Context) → mid.entries ≡ c.entries
            → Yields (Counts c.entries) (for_rule.opens at x names keep step.certs k pq.0.form pq.1.form mid)
        opens_count k pq mid is =
            yields_then (Counts c.entries) mid (λ _ d. LoopStarted x keep k pq.0.form pq.1.form mid d)
            (for_rule.starts at x keep step.certs k pq.0.form pq.1.form) from_start
            (starts_yield at x keep step.certs k pq.0.form pq.1.form mid)
            (λ u d started. subst (λ (z : Context). Yields (Counts c.entries) (from_start u z)) (sym started.is)
            (yields_then (Counts c.entries) mid (λ _ f. f ≡ begun_loop x names keep k pq.0.form pq.1.form mid)
            (for_rule.begins at x names keep k pq.0.form pq.1.form mid.scalars)
            (λ _. now >>= (λ f. give (standing mid, standing f))) (loop_begins x names keep k pq.0.form pq.1.form mid at)
            (λ w f f_is. ap (λ (z : Context). z.entries) f_is ∙ (settled_self names mid).entries ∙ is)))
          where
            from_start : Unit {0} → Rule (Standing × Standing)
            from_start u before = (for_rule.begins at x names keep k pq.0.form pq.1.form before.scalars
                >>= (λ _. now >>= (λ d. give (standing before, standing d)))) before

        turned : (k : Counter) (pq : ExprOut × ExprOut) (mid : Context) → is_entry_form c.entries k.trips ≡ true
            → mid.entries ≡ c.entries → Yields Q (rest k pq mid)
        turned k pq mid trips is =
            yields_then Q mid (Counts c.entries) (for_rule.opens at x names keep step.certs k pq.0.form pq.1.form)
            (λ marks. block >>= for_rule.finishes at x names keep step.certs k pq.0.code pq.1.code marks)
            (opens_count k pq mid is)
            (λ marks d there. yields_then Q d Q block (for_rule.finishes at x names keep step.certs k pq.0.code pq.1.code marks)
            (from b good.0 (at + 1 + sizes kids) at 5 body d there)
            (λ out e inner. yields_then Q e (LoopEnded x names keep marks.0 marks.1 e)
            (for_rule.ends at x names keep (counted (1 + length keep)) (drop (1 + length keep) step.certs) marks.0 marks.1)
            (leaving k pq out)
            (ends_yield at (counted (1 + length keep)) x names keep (drop (1 + length keep) step.certs) marks.0 marks.1 e)
            (λ end_ f has_ended. yields_then Q f (Counts c.entries) (for_rule.leaves at x names keep end_)
            (λ _. give (for_rule.looping k pq.0.code pq.1.code out))
            (leaves_count end_ f (ap (λ (z : Context). z.entries) has_ended.after_is ∙ inner.0))
            (λ u g left. (left, rw trips inner.1)))))
          where
            leaving : Counter → ExprOut × ExprOut → StmtOut → Standing → Rule StmtOut
            leaving k pq out end_ = for_rule.leaves at x names keep end_
                >>= (λ _. give (for_rule.looping k pq.0.code pq.1.code out))

  -- one kid of any context of as many entry symbols
  kid_counts : (x : Expr) (d : Context) → d.entries ≡ c.entries → Yields (Counts c.entries) (one_kid kids at x d)
  kid_counts x d is = yields_more (λ (out : ExprOut) e. e.entries ≡ d.entries) (Counts c.entries) (λ out e e_is. e_is ∙ is)
      (one_kid kids at x d) (one_keeps kids keeps at x d)

  named_counts : (x : Name) (lx : ℕ) (k : Clause) (d : Context) → d.entries ≡ c.entries
      → Yields (Counts c.entries) (map_rule.named_element at x lx k d)
  named_counts x lx k d is = by (has_symbol d) refl where
    by : (e : Bool) → has_symbol d ≡ e → Yields (Counts c.entries) (map_rule.named_element at x lx k d)
    by true e = rw e is
    by false e = rw e tt

  sum_counts : (t : Name) (l : FoldLocals) (u : Scalar) (d : Context) → d.entries ≡ c.entries
      → Yields (Counts c.entries) (fold_rule.renamed at t l u d)
  sum_counts t l u d is = by (has_symbol d) refl where
    by : (e : Bool) → has_symbol d ≡ e → Yields (Counts c.entries) (fold_rule.renamed at t l u d)
    by true e = rw e is
    by false e = rw e tt

  fold_trips : (t a x : Name) (v : Expr) → Yields Q (folding step kids at t a x v c)
  fold_trips t a x v =
      yields_need Q c (has_counts step 4 0) at 2
      (λ _. fold_rule.locals at step.args >>= (λ l. fold_rule.row at t a x l (one_kid kids at v)))
      (λ counts. yields_then Q c (λ l d. d ≡ c) (fold_rule.locals at step.args)
      (λ l. fold_rule.row at t a x l (one_kid kids at v)) (fold_locals at step.args c)
      (λ l d is. subst (λ (z : Context). Yields Q (fold_rule.row at t a x l (one_kid kids at v) z)) (sym is)
      (yields_then Q c (λ (k : Clause) e. e ≡ c) (fold_rule.array at t a l) (from_array l)
      (yields_found (λ (k : Clause) e. e ≡ c) c (own c a) at 4 (λ k. need (fold_rule.are_unused t l c) at 5 >>= (λ _. give k))
      (λ k owned. yields_need (λ (k : Clause) e. e ≡ c) c (fold_rule.are_unused t l c) at 5 (λ _. give k) (λ unused. refl)))
      (λ k e e_is. subst (λ (z : Context). Yields Q (from_array l k z)) (sym e_is)
      (yields_then Q c (λ (first : ℕ × Scalar) f. f ≡ c) (fold_rule.start at t) (from_scalar l k)
      (yields_found (λ (first : ℕ × Scalar) f. f ≡ c) c (scalar c t) at 1 (λ h. give (h.local, h.kind)) (λ h there. refl))
      (λ first f f_is. subst (λ (z : Context). Yields Q (from_scalar l k first z)) (sym f_is) (begun l k first)))))))
    where
      from_scalar : FoldLocals → Clause → ℕ × Scalar → Rule StmtOut
      from_scalar l k first = now >>=
          (λ b. fold_rule.begins at t x l k first.1
          >>= (λ _. one_kid kids at v >>= (λ p. fold_rule.after at t l k first (standing b) p.code)))

      from_array : FoldLocals → Clause → Rule StmtOut
      from_array l k = fold_rule.start at t >>= from_scalar l k

      after : (l : FoldLocals) (k : Clause) (first : ℕ × Scalar) (p : ExprOut) (d : Context) → d.entries ≡ c.entries
          → Yields Q (fold_rule.after at t l k first (standing c) p.code d)
      after l k first p d is =
          yields_found Q d (len.code k) at 4
          (λ high. has_trips at k >>= (λ _. fold_rule.ends at t l first.1 (standing c)
          >>= (λ _. give (fold_rule.folding l k first.0 high p.code))))
          (λ high code. yields_need Q d (is_entry_form d.entries k.length) at 4
          (λ _. fold_rule.ends at t l first.1 (standing c) >>= (λ _. give (fold_rule.folding l k first.0 high p.code)))
          (λ entries. yields_then Q d (Counts c.entries) (fold_rule.ends at t l first.1 (standing c))
          (λ _. give (fold_rule.folding l k first.0 high p.code)) (sum_counts t l first.1 (restored (standing c) d) is)
          (λ u e there. (
            there,
            (let form : is_entry_form c.entries k.length
                ≡ true = ap (λ n. is_entry_form n k.length) (sym is) ∙ entries in rw form refl),
          ))))

      begun : (l : FoldLocals) (k : Clause) (first : ℕ × Scalar) → Yields Q (from_scalar l k first c)
      begun l k first =
          yields_then Q c (Counts c.entries) (fold_rule.begins at t x l k first.1)
          (λ _. one_kid kids at v >>= (λ p. fold_rule.after at t l k first (standing c) p.code))
          (yields_then (Counts c.entries) c (Counts c.entries) (fold_rule.renamed at t l first.1)
          (λ _. map_rule.named_element at x l.turn.element k) (sum_counts t l first.1 c refl)
          (λ u d is. named_counts x l.turn.element k d is))
          (λ u d is. yields_then Q d (Counts c.entries) (one_kid kids at v)
          (λ p. fold_rule.after at t l k first (standing c) p.code) (kid_counts v d is)
          (λ p e there. after l k first p e there))

  map_trips : (a x : Name) (v : Expr) → Yields Q (mapping step kids at a x v c)
  map_trips a x v =
      yields_need Q c (has_counts step 3 0) at 2
      (λ _. map_rule.locals at step.args >>= (λ l. map_rule.row at a x l (one_kid kids at v)))
      (λ counts. yields_then Q c (λ l d. d ≡ c) (map_rule.locals at step.args) (λ l. map_rule.row at a x l (one_kid kids at v))
      (map_locals at step.args c)
      (λ l d is. subst (λ (z : Context). Yields Q (map_rule.row at a x l (one_kid kids at v) z)) (sym is)
      (yields_then Q c (λ (k : Clause) e. e ≡ c) (map_rule.array at a l) (from_array l)
      (yields_found (λ (k : Clause) e. e ≡ c) c (own c a) at 4 (λ k. need (map_rule.are_unused l c) at 5 >>= (λ _. give k))
      (λ k owned. yields_need (λ (k : Clause) e. e ≡ c) c (map_rule.are_unused l c) at 5 (λ _. give k) (λ unused. refl)))
      (λ k e e_is. subst (λ (z : Context). Yields Q (from_array l k z)) (sym e_is) (begun l k)))))
    where
      from_array : ElementLocals → Clause → Rule StmtOut
      from_array l k = now >>= (λ b. map_rule.begins at a x l k
          >>= (λ _. one_kid kids at v >>= (λ p. map_rule.after at a l k (standing b) p.code)))

      ends_count : (d : Context) → d.entries ≡ c.entries → Yields (Counts c.entries) (map_rule.ends at a (standing c) d)
      ends_count d is =
          yields_then (Counts c.entries) d (Counts c.entries) (map_rule.returned (standing c))
          (λ _. map_rule.room at a >>= (λ _. put_rule.counted_write a)) is
          (λ u e there. yields_then (Counts c.entries) e (λ _ f. f ≡ e) (map_rule.room at a) (λ _. put_rule.counted_write a)
          (room_kept at a e)
          (λ u f same_one. ap (λ (z : Context). z.entries) same_one ∙ there))

      after : (l : ElementLocals) (k : Clause) (p : ExprOut) (d : Context) → d.entries ≡ c.entries
          → Yields Q (map_rule.after at a l k (standing c) p.code d)
      after l k p d is =
          yields_found Q d (len.code k) at 4
          (λ high. has_trips at k >>= (λ _. map_rule.ends at a (standing c)
          >>= (λ _. give (map_rule.mapping l k high p.code))))
          (λ high code. yields_need Q d (is_entry_form d.entries k.length) at 4
          (λ _. map_rule.ends at a (standing c) >>= (λ _. give (map_rule.mapping l k high p.code)))
          (λ entries. yields_then Q d (Counts c.entries) (map_rule.ends at a (standing c))
          (λ _. give (map_rule.mapping l k high p.code)) (ends_count d is)
          (λ u e there. (
            there,
            (let form : is_entry_form c.entries k.length
                ≡ true = ap (λ n. is_entry_form n k.length) (sym is) ∙ entries in rw form refl),
          ))))

      begun : (l : ElementLocals) (k : Clause) → Yields Q (from_array l k c)
      begun l k =
          yields_then Q c (Counts c.entries) (map_rule.begins at a x l k)
          (λ _. one_kid kids at v >>= (λ p. map_rule.after at a l k (standing c) p.code))
          (yields_then (Counts c.entries) c (Counts c.entries) (map_rule.dropped at a)
          (λ _. map_rule.named_element at x l.element k)
          (yields_need (Counts c.entries) c (is_some (own c a)) at 4 (λ _. map_rule.without a) (λ there. refl))
          (λ u d is. named_counts x l.element k d is))
          (λ u d is. yields_then Q d (Counts c.entries) (one_kid kids at v) (λ p. map_rule.after at a l k (standing c) p.code)
          (kid_counts v d is) (λ p e there. after l k p e there))

  parts_trips : TripBlocks blocks → (y : Stmt-F Stmt) → Yields Q (parts step kids blocks at y c)
  parts_trips whole (s.Let x a) = yields_need Q c (are_none blocks) at 1 (λ _. binding step kids at x a) (λ none. let_trips x a)
  parts_trips whole (s.Put a i v) =
      yields_need Q c (are_none blocks) at 1 (λ _. putting step kids at a i v) (λ none. put_trips a i v)
  parts_trips whole (s.Move b a i v) =
      yields_need Q c (are_none blocks) at 1 (λ _. moving step kids at b a i v) (λ none. move_trips b a i v)
  parts_trips whole (s.If test names keep first second) = if_trips whole test names keep first second
  parts_trips whole (s.For x low high names keep body) = for_trips whole x low high names keep body
  parts_trips whole (s.Map a x v) =
      yields_need Q c (are_none blocks) at 1 (λ _. mapping step kids at a x v) (λ none. map_trips a x v)
  parts_trips whole (s.Fold t a x v) =
      yields_need Q c (are_none blocks) at 1 (λ _. folding step kids at t a x v) (λ none. fold_trips t a x v)

  row_trips : TripBlocks blocks → (t : Stmt) → Yields Q (stmt_row step kids blocks at t c)
  row_trips whole t = yields_need Q c (fits step.rule (out-Stmt t)) at 1 (λ _. parts step kids blocks at (out-Stmt t))
      (λ fit. parts_trips whole (out-Stmt t))

-- a note has no loop
note_trips : (step : Step) (alone : Bool) (at : ℕ) (c : Context) → Yields (Trips c.entries) (note_row step alone at c)
note_trips step alone at c =
    yields_need Q c alone at 1 (λ _. need (note_counts step) at 2 >>= (λ _. note_rule.row at step.args step.certs))
    (λ is_alone. yields_need Q c (note_counts step) at 2 (λ _. note_rule.row at step.args step.certs)
    (λ counts. yields_found Q c (flat step.args) at 3 (λ f. cert at step.certs f >>= (λ _. added at f >>= (λ _. give nothing)))
    (λ f there. yields_cert Q c at step.certs f (λ _. added at f >>= (λ _. give nothing))
    (λ closes. by f (has_room c) refl))))
  where
    Q : StmtOut → Context → Type 0
    Q = Trips c.entries

    by : (f : LinearForm) (room : Bool) → has_room c ≡ room → Yields Q ((added at f >>= (λ _. give nothing)) c)
    by f true is = rw is (refl, refl)
    by f false is = rw is tt

-- Nodes of a block, in order.

record TripNode (n : StmtJudged) : Type 0 where
  pub note : (at : ℕ) (c : Context) → Yields (Trips c.entries) (n.as_note at c)
  pub statement : (at : ℕ) (t : Stmt) (c : Context) → Yields (Trips c.entries) (n.row at t c)

abbrev TripNodes : List StmtJudged → Type 0
TripNodes [] = Unit {0}
TripNodes (n ∷ ns) = TripNode n × TripNodes ns

module _ (owner cond count : ℕ) where
  walked : (ns : List StmtJudged) → TripNodes ns → (at : ℕ) (ts : List Stmt) (out : StmtOut) (c : Context) → Trips count out c
      → Yields (Trips count) (walk owner cond ns at ts out c)
  walked [] good at [] out c is = is
  walked [] good at (t ∷ ts) out c is = tt
  walked (n ∷ ns) good at ts out c is =
      by n.is_note refl ts (λ m us o d trips. walked ns good.1 m us (joined out o) d
      (trips.0, entries_joined count out.trips o.trips is.1 trips.1)) where
        More : Type 0
        More = (m : ℕ) (us : List Stmt) (o : StmtOut) (d : Context) → Trips count o d
            → Yields (Trips count) (walk owner cond ns m us (joined out o) d)

        by : (b : Bool) → n.is_note ≡ b → (us : List Stmt) → More → Yields (Trips count) (walk owner cond (n ∷ ns) at us out c)
        by true e us more = rw e
            (yields_then (Trips count) c (Trips count) (n.as_note at) (λ o. walk owner cond ns (at + n.size) us (joined out o))
            (subst (λ (k : ℕ). Yields (Trips k) (n.as_note at c)) is.0 (good.0.note at c))
            (λ o d trips. more (at + n.size) us o d trips))
        by false e [] more = rw e tt
        by false e (t ∷ us) more = rw e
            (yields_then (Trips count) c (Trips count) (n.row at t) (λ o. walk owner cond ns (at + n.size) us (joined out o))
            (subst (λ (k : ℕ). Yields (Trips k) (n.row at t c)) is.0 (good.0.statement at t c))
            (λ o d trips. more (at + n.size) us o d trips))

-- Trees.

module _ (turn : Turn) where
  abbrev BlockIn : Block → Type 0
  BlockIn b = TripBlock (block_judged turn b)

  abbrev StmtIn : StmtNode → Type 0
  StmtIn n = TripNode (judged turn n)

  abbrev InBlock : Type 0
  InBlock = (b : Block) × BlockIn b

  abbrev InStmt : Type 0
  InStmt = (n : StmtNode) × StmtIn n

  kids_in : (nodes : List ExprNode) → AllKeep (map (expr.judged turn) nodes)
  kids_in [] = tt
  kids_in (n ∷ ns) = (tree_keeps turn n, kids_in ns)

  nodes_in : (ys : List InStmt) → TripNodes (map (judged turn) (map (λ p. p.0) ys))
  nodes_in [] = tt
  nodes_in (y ∷ ys) = (y.1, nodes_in ys)

  blocks_in : (ys : List InBlock) → TripBlocks (map (block_judged turn) (map (λ p. p.0) ys))
  blocks_in [] = tt
  blocks_in (y ∷ ys) = (y.1, blocks_in ys)

  block_in_step : (y : Block-F InBlock InStmt)
      → BlockIn (roll-Block (map-Block InBlock InStmt Block StmtNode (λ b. b.0) (λ n. n.0) y))
  block_in_step y =
      let x : Block-F Block StmtNode = map-Block InBlock InStmt Block StmtNode (λ b. b.0) (λ n. n.0) y in
      rw (fold-roll-Block BlockJudged StmtJudged block_step (judged_step turn) x)
      (λ at owner cond ts c. walked owner cond c.entries (map (judged turn) x.nodes) (nodes_in y.nodes) at ts nothing c
      (refl, refl))

  stmt_in_step : (y : StmtNode-F InBlock InStmt)
      → StmtIn (roll-StmtNode (map-StmtNode InBlock InStmt Block StmtNode (λ b. b.0) (λ n. n.0) y))
  stmt_in_step y =
      let x : StmtNode-F Block StmtNode = map-StmtNode InBlock InStmt Block StmtNode (λ b. b.0) (λ n. n.0) y in
      let kids : List Judged = map (expr.judged turn) x.kids in
      let blocks : List BlockJudged = map (block_judged turn) x.blocks in
      rw (fold-roll-StmtNode BlockJudged StmtJudged block_step (judged_step turn) x) (record {
        note = λ at c. note_trips x.step (are_none x.kids && are_none blocks) at c;
        statement = λ at t c. row_trips x.step kids (kids_in x.kids) blocks at c (blocks_in y.blocks) t;
      })

  pub block_trips : (b : Block) → TripBlock (block_judged turn b)
  block_trips =
      ind-Block BlockIn StmtIn
      (λ x y is. subst (λ z. BlockIn (roll-Block z)) is (block_in_step y))
      (λ x y is. subst (λ z. StmtIn (roll-StmtNode z)) is (stmt_in_step y))
