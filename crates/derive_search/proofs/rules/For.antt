-- What the search finds for an s-for is an instance, where it is so for the statements of its block.
use Rattle.std.proofs.Common.{◌≡◌, refl, sym, ◌∙◌, ap, subst, arith, ℕ, suc, ◌+◌, ◌≤◌, max, nat_eq, nat_le, Bool, true, false}
use Rattle.std.proofs.Common.{◌||◌, ℤ, pos, List, [], ◌∷◌, ◌++◌, length, length-append, append-nil, drop, map, sum, Option, Some}
use Rattle.std.proofs.Common.{None, option_and_then, is_some, Result, Ok, Err}
use Rattle.std.proofs.Math.Nat.{le-max_left, le-max_right}
use Rattle.std.specs.List.{list_all}
use Rattle.rup_base.specs.Gather.{greatest}
use Rattle.rup_base.specs.declared.refusal.Refusal.{Refusal}
use Rattle.model_syntax.specs.Names.{Name}
use Rattle.model_syntax.specs.Limits as limits
use Rattle.model_syntax.specs.declared.expr.Expr.{Expr}
use Rattle.model_syntax.specs.declared.stmt.Le.{Le}
use Rattle.model_syntax.specs.declared.stmt.Stmt.{Stmt, out-Stmt}
use Rattle.model_syntax.specs.declared.stmt.Stmt.TheOpen as s
use Rattle.side_certs.specs.LinearForm.{LinearForm, within}
use Rattle.side_certs.specs.declared.certificate.Cert.{Cert}
use Rattle.sym_heap.specs.Context.{Context, has}
use Rattle.sym_heap.specs.Ends.{Standing, standing, restored}
use Rattle.sym_heap.specs.Sides.{form_in}
use Rattle.deriv_tree.specs.Measure as measure
use Rattle.rup_base.specs.Word.{counted}
use Rattle.deriv_tree.specs.Measure.{stmt_size, block_size}
use Rattle.deriv_tree.specs.Shape.{block_shaped}
use Rattle.deriv_tree.specs.declared.rule.Rule.TheVariants as rule
use Rattle.deriv_tree.specs.declared.tree.ExprNode.{ExprNode}
use Rattle.deriv_tree.specs.declared.tree.StmtNode.{StmtNode}
use Rattle.bed_syntax.specs.declared.expression.BExpr.{BExpr}
use Rattle.expr_rules.specs.declared.output.ExprOut.{ExprOut}
use Rattle.expr_rules.specs.Row as expr
use Rattle.expr_rules.specs.Words.{Judged, sizes, shown}
use Rattle.stmt_rules.specs.declared.loops.Counter.{Counter}
use Rattle.stmt_rules.specs.declared.output.StmtOut.{StmtOut}
use Rattle.stmt_rules.specs.Loops.{is_unused, entry_form, given_first, one_more, all_named}
use Rattle.stmt_rules.specs.Nesting.{all_shown, end_form}
use Rattle.stmt_rules.specs.Row.{BlockJudged, looping, judged, block_judged, walk}
use Rattle.stmt_rules.specs.Words.{most_local, flat, nothing}
use Rattle.stmt_rules.specs.rules.For as for_rule
use Rattle.derive_search.specs.Guide.{Guide}
use Rattle.derive_search.specs.declared.found.Found.{Found}
use Rattle.derive_search.specs.declared.seeker.Seeker.{Seeker}
use Rattle.derive_search.specs.declared.trips.Trip.{Trip}
use Rattle.derive_search.specs.declared.turns.LoopStart.{LoopStart}
use Rattle.derive_search.specs.Elements.{count_locals}
use Rattle.derive_search.specs.Expressions.{seek}
use Rattle.derive_search.specs.Kept.{certificates}
use Rattle.derive_search.specs.Locals.{Homes}
use Rattle.derive_search.specs.Nodes.{stuck, block, in_order}
use Rattle.derive_search.specs.Statements.{seek_stmt}
use Rattle.derive_search.specs.Trips.{trip_for}
use Rattle.derive_search.specs.Turns as search
use Rattle.derive_search.specs.Words.{Seek, give, in_context, with_context}
use Rattle.derive_search.specs.Instance.{Gives, Derives, StmtDerives, BlockDerives}
use Rattle.derive_search.proofs.BlockNode.{judged_is, size_is, shaped_is, depth_is}
use Rattle.derive_search.proofs.Blocks.{Derivables, block_derives}
use Rattle.derive_search.proofs.Depth.{stmt_depth_is, stmt_blocks_is, one_top, two_top}
use Rattle.derive_search.proofs.laws.ElementLocals.{count_holds}
use Rattle.derive_search.proofs.ExprLaw.{expressions_derive, then_seek}
use Rattle.derive_search.proofs.laws.Choosing.{left_true, right_true}
use Rattle.derive_search.proofs.laws.Kept.{certificates_show, certificates_many, certificates_past}
use Rattle.derive_search.proofs.laws.Trips.{trip_holds, shown_first, some_numbers}
use Rattle.derive_search.proofs.laws.Walking.{gives_then}
use Rattle.derive_search.proofs.Stands.{begun, step, stands_over, ended_gives}

-- The rule's row, from what its steps give.

counter_is : (at : ℕ) (l : ℕ × ℕ) (args : List ℤ) (t : LinearForm) (c : Context) → nat_le l.0 most_local ≡ true
    → nat_le l.1 most_local ≡ true
    → entry_form c.entries (flat args) ≡ Some t → for_rule.counter at (pos l.0 ∷ pos l.1 ∷ args) c
    ≡ Ok (record { count = l.0; last = l.1; trips = t }, c)
counter_is at l args t c one two read = rw (one, two, read) refl

first_false : (b : Bool) → b || false ≡ false → b ≡ false
first_false false is = refl
first_false true is = is

unused_is : (l : ℕ × ℕ) (t : LinearForm) (c : Context) → is_unused c l.0 ≡ true → is_unused c l.1 ≡ true
    → has l.1 (l.0 ∷ []) ≡ false
    → for_rule.are_unused (record { count = l.0; last = l.1; trips = t }) c ≡ true
unused_is l t c one two apart =
    let differ : nat_eq l.0 l.1 ≡ false = first_false (nat_eq l.0 l.1) apart in
    rw (one, two, differ) refl

le_test : (a b : ℕ) → a ≤ b → nat_le a b ≡ true
le_test a b h = grind (arith, h)

eq_test : (a b : ℕ) → a ≡ b → nat_eq a b ≡ true
eq_test a b h = grind (arith, h)

counts_is : (n : ℕ) (args : List ℤ) (certs : List Cert) → 3 ≤ length args → length certs ≡ 1 + n + n
    → for_rule.counts (step rule.SFor args certs) n ≡ true
counts_is n args certs some many = rw (le_test 3 (length args) some, eq_test (length certs) (1 + n + n) many) refl

opens_is : (at : ℕ) (x : Name) (names : List Name) (keep : List Le) (certs : List Cert) (k : Counter) (low high : LinearForm)
    (c d : Context)
    → for_rule.are_unused k c ≡ true → shown at certs (for_rule.spare_trips k.trips low high) c ≡ Ok (tt, c)
    → all_shown at 1 (drop 1 certs) (given_first x low (form_in c.scalars)) keep c ≡ Ok (tt, c)
    → for_rule.begins at x names keep k low high c.scalars c ≡ Ok (tt, d)
    → for_rule.opens at x names keep certs k low high c ≡ Ok ((standing c, standing d), d)
opens_is at x names keep certs k low high c d unused enough kept begins = rw (unused, enough, kept, begins) refl

finishes_is : (at : ℕ) (x : Name) (names : List Name) (keep : List Le) (certs : List Cert) (k : Counter) (low high : BExpr)
    (before start : Standing) (out : StmtOut)
    (next : LinearForm) (c d : Context)
    → list_all (for_rule.stands_still before.scalars c.scalars) names ≡ true → all_named names before.clauses c.clauses ≡ true
    → within (one_more (form_in start.scalars x)) ≡ Some next
    → all_shown at (counted (1 + length keep)) (drop (1 + length keep) certs)
    (given_first x next (end_form names c.scalars start.scalars)) keep c ≡ Ok (tt, c)
    → for_rule.leaves at x names keep (standing c) (restored before c) ≡ Ok (tt, d)
    → for_rule.finishes at x names keep certs k low high (before, start) out c ≡ Ok (for_rule.looping k low high out, d)
finishes_is at x names keep certs k low high before start out next c d still named is kept leaves =
    rw (still, named, is, kept, leaves) refl

row_is : (at : ℕ) (x : Name) (low high : Expr) (names : List Name) (keep : List Le) (body : List Stmt) (args : List ℤ)
    (certs : List Cert) (one two : Judged) (b : BlockJudged)
    (k : Counter) (p q : ExprOut) (marks : Standing × Standing) (inner out : StmtOut) (c d e f g i : Context)
    → for_rule.counts (step rule.SFor args certs) (length keep) ≡ true → for_rule.counter at args c ≡ Ok (k, c)
    → one.row (at + 1) low c ≡ Ok (p, d) → two.row (at + 1 + one.size) high d ≡ Ok (q, e)
    → for_rule.opens at x names keep certs k p.form q.form e ≡ Ok (marks, f)
    → b.row (at + 1 + sizes (one ∷ two ∷ [])) at 5 body f ≡ Ok (inner, g)
    → for_rule.finishes at x names keep certs k p.code q.code marks inner g ≡ Ok (out, i)
    → looping (step rule.SFor args certs) (one ∷ two ∷ []) (b ∷ []) at x low high names keep body c ≡ Ok (out, i)
row_is at x low high names keep body args certs one two b k p q marks inner out c d e f g i many reads first second opens runs
    finishes =
    rw (many, reads, first, second, opens, runs) finishes

-- Before the block.

abbrev start_of : ℕ × ℕ → Trip → List Cert → Context → Context → LoopStart
start_of l t certs c d = record { plan = search.plan_of l t certs; before = standing c; start = standing d }

-- what was found, and that the block begins with it
record Begun (h : Homes) (entries at : ℕ) (x : Name) (names : List Name) (keep : List Le) (low high : LinearForm) (k : Seeker)
    (o : LoopStart) (u : Seeker) : Type 0 where
  l : ℕ × ℕ
  locals : count_locals h x k.ctx ≡ Some l
  t : Trip
  trip : trip_for entries k.ctx low high ≡ Some t
  certs : List Cert
  starts : search.start_certs x keep low k.ctx ≡ Some certs
  begins : for_rule.begins at x names keep (record { count = l.0; last = l.1; trips = t.form }) low high k.ctx.scalars k.ctx
      ≡ Ok (tt, u.ctx)
  is : o ≡ start_of l t certs k.ctx u.ctx
  entered : u.entered ≡ k.entered

module _ (h : Homes) (entries at n : ℕ) (x : Name) (names : List Name) (keep : List Le) (low high : LinearForm) (k : Seeker) where
  abbrev Q : LoopStart → Seeker → Type 0
  Q = Begun h entries at x names keep low high k

  by_begins : (l : ℕ × ℕ) → count_locals h x k.ctx ≡ Some l → (t : Trip) → trip_for entries k.ctx low high ≡ Some t
      → (certs : List Cert) → search.start_certs x keep low k.ctx ≡ Some certs
      → (r : Result (Unit {0} × Context) Refusal)
      → for_rule.begins at x names keep (record { count = l.0; last = l.1; trips = t.form }) low high k.ctx.scalars k.ctx ≡ r
      → Gives Q (with_context k (search.loop_started (stuck n) (search.plan_of l t certs) (standing k.ctx) r))
  by_begins l locals t trip certs starts (Ok p) begins =
      record {
        l = l;
        locals = locals;
        t = t;
        trip = trip;
        certs = certs;
        starts = starts;
        begins = begins;
        is = refl;
        entered = refl;
      }
  by_begins l locals t trip certs starts (Err refusal) begins = tt

  by_trip : (l : ℕ × ℕ) → count_locals h x k.ctx ≡ Some l → (q : Option (List Cert)) → search.start_certs x keep low k.ctx ≡ q
      → (o : Option Trip) → trip_for entries k.ctx low high ≡ o
      → Gives Q (with_context k (search.loop_with at (stuck n) x names keep low high (search.with_trip l q o) k.ctx))
  by_trip l locals q starts None trip = tt
  by_trip l locals None starts (Some t) trip = tt
  by_trip l locals (Some certs) starts (Some t) trip =
      by_begins l locals t trip certs starts
      (for_rule.begins at x names keep (record { count = l.0; last = l.1; trips = t.form }) low high k.ctx.scalars k.ctx) refl

  begun_gives : Gives Q (in_context (search.loop_begun h entries at (stuck n) x names keep low high) k)
  begun_gives = by (count_locals h x k.ctx) refl where
    by : (o : Option (ℕ × ℕ)) → count_locals h x k.ctx ≡ o
        → Gives Q (with_context k (search.loop_with at (stuck n) x names keep low high
        (option_and_then (search.planned_at entries x keep low high k.ctx) o) k.ctx))
    by None locals = tt
    by (Some l) locals = by_trip l locals (search.start_certs x keep low k.ctx) refl (trip_for entries k.ctx low high) refl

-- After the block.

record EndFound (x : Name) (names : List Name) (keep : List Le) (start : Standing) (c : Context) (certs : List Cert) : Type 0
  where
    next : LinearForm
    is : within (one_more (form_in start.scalars x)) ≡ Some next
    found : certificates c (given_first x next (end_form names c.scalars start.scalars)) keep ≡ Some certs

end_found : (x : Name) (names : List Name) (keep : List Le) (start : Standing) (c : Context) (certs : List Cert)
    → search.end_certs x names keep start c ≡ Some certs → EndFound x names keep start c certs
end_found x names keep start c certs = by (within (one_more (form_in start.scalars x))) refl where
  by : (o : Option LinearForm) → within (one_more (form_in start.scalars x)) ≡ o
      → option_and_then (λ f. certificates c (given_first x f (end_form names c.scalars start.scalars)) keep) o ≡ Some certs
      → EndFound x names keep start c certs
  by (Some f) e is = record { next = f; is = e; found = is }
  by None e is = absurd (let bad : false ≡ true = ap is_some is in cc)

-- the certificates of the end come after all others
ends_left : (k : Cert) (starts ends : List Cert) (n : ℕ) → drop n (starts ++ ends) ≡ ends
    → drop (1 + n) (k ∷ starts ++ ends) ≡ ends
ends_left k starts ends n is = let next : 1 + n ≡ suc n = omega arith in ap (λ (m : ℕ). drop m (k ∷ starts ++ ends)) next ∙ is

module _ (guide : Guide) (z : Stmt) (k : Seeker) (n : ℕ) (x : Name) (low high : Expr) (names : List Name) (keep : List Le)
    (body : List Stmt)
    (is : out-Stmt z ≡ s.For x low high names keep body) (f g : Found) (t u : Seeker) (df : Derives guide low (begun k) f t)
    (dg : Derives guide high t g u) where
  abbrev Ends : LoopStart → Seeker → List StmtNode → Type 0
  Ends o w ns = Gives (StmtDerives guide z k)
      (in_context (search.loop_ended k.entered (stuck n) x names keep f.node g.node o ns) w)

  module _ (v w : Seeker) (ns : List StmtNode) (o : LoopStart)
      (b : Begun guide.homes k.ctx.entries k.entered x names keep f.out.form g.out.form u o v)
      (db : BlockDerives guide body v ns w) where
    abbrev args : List ℤ
    args = pos b.l.0 ∷ pos b.l.1 ∷ b.t.args

    abbrev kk : Counter
    kk = record { count = b.l.0; last = b.l.1; trips = b.t.form }

    abbrev kids : List Judged
    kids = expr.judged guide.turn f.node ∷ expr.judged guide.turn g.node ∷ []

    abbrev out : StmtOut
    out = for_rule.looping kk f.out.code g.out.code (db.outs nothing)

    number : k.entered + 1 + sizes kids ≡ v.entered
    number = let one = df.entered in let two = dg.entered in let three = b.entered in omega (arith, one, two, three)

    runs : (block_judged guide.turn (block ns)).row (k.entered + 1 + sizes kids) k.entered 5 body v.ctx
        ≡ Ok (db.outs nothing, w.ctx)
    runs =
        ap (λ (j : BlockJudged). j.row (k.entered + 1 + sizes kids) k.entered 5 body v.ctx) (judged_is guide.turn ns)
        ∙ ap (λ (m : ℕ). walk k.entered 5 (map (judged guide.turn) ns) m body nothing v.ctx) number
        ∙ db.row k.entered 5 nothing

    opens : (ends : List Cert) → for_rule.opens k.entered x names keep (b.t.cert ∷ b.certs ++ ends) kk f.out.form g.out.form u.ctx
        ≡ Ok ((standing u.ctx, standing v.ctx), v.ctx)
    opens ends =
        let chosen = count_holds guide.homes u.ctx x b.l b.locals in
        let trip = trip_holds k.ctx.entries u.ctx f.out.form g.out.form b.t b.trip in
        opens_is k.entered x names keep (b.t.cert ∷ b.certs ++ ends) kk f.out.form g.out.form u.ctx v.ctx
        (unused_is b.l b.t.form u.ctx chosen.2 chosen.3 chosen.4)
        (shown_first k.entered u.ctx (for_rule.spare_trips b.t.form f.out.form g.out.form) b.t.cert (b.certs ++ ends) trip.enough)
        (certificates_show u.ctx (given_first x f.out.form (form_in u.ctx.scalars)) keep b.certs b.starts k.entered 1 ends)
        b.begins

    many : (ends : List Cert) → length ends ≡ length keep
        → for_rule.counts (step rule.SFor args (b.t.cert ∷ b.certs ++ ends)) (length keep) ≡ true
    many ends ends_many =
        let trip = trip_holds k.ctx.entries u.ctx f.out.form g.out.form b.t b.trip in
        let some : 1 ≤ length b.t.args = some_numbers k.ctx.entries b.t.args b.t.form trip.read in
        let starts_many = certificates_many u.ctx (given_first x f.out.form (form_in u.ctx.scalars)) keep b.certs b.starts in
        let all : length (b.certs ++ ends) ≡ length b.certs + length ends = length-append b.certs ends in
        counts_is (length keep) args (b.t.cert ∷ b.certs ++ ends) (omega (arith, some))
        (omega (arith, all, starts_many, ends_many))

    row : (ends : List Cert) (e : Context) → search.stays names (standing u.ctx) w.ctx ≡ true
        → search.end_certs x names keep (standing v.ctx) w.ctx ≡ Some ends
        → for_rule.leaves k.entered x names keep (standing w.ctx) (restored (standing u.ctx) w.ctx) ≡ Ok (tt, e)
        → looping (step rule.SFor args (b.t.cert ∷ b.certs ++ ends)) kids (block_judged guide.turn (block ns) ∷ []) k.entered x
        low high names keep body k.ctx ≡ Ok (out, e)
    row ends e stays found leaves =
        let chosen = count_holds guide.homes u.ctx x b.l b.locals in
        let trip = trip_holds k.ctx.entries u.ctx f.out.form g.out.form b.t b.trip in
        let end = end_found x names keep (standing v.ctx) w.ctx ends found in
        let form = given_first x end.next (end_form names w.ctx.scalars v.ctx.scalars) in
        let ends_many : length ends ≡ length keep = certificates_many w.ctx form keep ends end.found in
        let past = certificates_past u.ctx (given_first x f.out.form (form_in u.ctx.scalars)) keep b.certs ends b.starts in
        let left = ends_left b.t.cert b.certs ends (length keep) past in
        let last : all_shown k.entered (counted (1 + length keep)) (ends ++ []) form keep w.ctx ≡ Ok (tt, w.ctx) =
        certificates_show w.ctx form keep ends end.found k.entered (counted (1 + length keep)) [] in
        let kept : all_shown k.entered (counted (1 + length keep)) (drop (1 + length keep) (b.t.cert ∷ b.certs ++ ends)) form keep
        w.ctx ≡ Ok (tt, w.ctx) =
        ap (λ (ks : List Cert). all_shown k.entered (counted (1 + length keep)) ks form keep w.ctx) (left ∙ sym (append-nil ends))
        ∙ last in
        let still = left_true (list_all (for_rule.stands_still u.ctx.scalars w.ctx.scalars) names)
        (all_named names u.ctx.clauses w.ctx.clauses) stays in
        let named = right_true (list_all (for_rule.stands_still u.ctx.scalars w.ctx.scalars) names)
        (all_named names u.ctx.clauses w.ctx.clauses) stays in
        let second : (expr.judged guide.turn g.node).row (k.entered + 1 + (expr.judged guide.turn f.node).size) high t.ctx
        ≡ Ok (g.out, u.ctx) = rw (sym df.entered) dg.row in
        row_is k.entered x low high names keep body args (b.t.cert ∷ b.certs ++ ends) (expr.judged guide.turn f.node)
        (expr.judged guide.turn g.node) (block_judged guide.turn (block ns)) kk f.out g.out
        (standing u.ctx, standing v.ctx) (db.outs nothing) out k.ctx t.ctx u.ctx v.ctx w.ctx e
        (many ends ends_many) (counter_is k.entered b.l b.t.args b.t.form k.ctx chosen.0 chosen.1 trip.read) df.row second
        (opens ends) runs
        (finishes_is k.entered x names keep (b.t.cert ∷ b.certs ++ ends) kk f.out.code g.out.code (standing u.ctx)
        (standing v.ctx) (db.outs nothing) end.next w.ctx e still named end.is kept leaves)

    derives : (ends : List Cert) (e : Context) → search.stays names (standing u.ctx) w.ctx ≡ true
        → search.end_certs x names keep (standing v.ctx) w.ctx ≡ Some ends
        → for_rule.leaves k.entered x names keep (standing w.ctx) (restored (standing u.ctx) w.ctx) ≡ Ok (tt, e)
        → StmtDerives guide z k (search.loop_node (search.plan_of b.l b.t b.certs) ends f.node g.node ns) (record w { ctx = e })
    derives ends e stays found leaves =
        let one = df.entered in let two = dg.entered in let three = b.entered in let four = db.entered in let five = db.sized in
        let six = df.sized in let seven = dg.sized in
        let inner : (block_judged guide.turn (block ns)).size ≡ sum (map (λ j. j.size) (map (judged guide.turn) ns)) =
        ap (λ (j : BlockJudged). j.size) (judged_is guide.turn ns) in
        let size = size_is ns in
        let few : v.entered ≤ 20_000 = (let before = dg.few in omega (arith, three, before)) in
        let shaped : block_shaped (block ns) ≡ true = shaped_is ns ∙ db.shaped in
        let depth : limits.stmt_depth z
        ≡ max (max (limits.expr_depth low) (limits.expr_depth high)) (greatest (map limits.stmt_depth body)) =
        stmt_depth_is z (s.For x low high names keep body) is in
        let blocks : limits.stmt_blocks z ≡ greatest (map limits.stmt_blocks body) + 1 =
        stmt_blocks_is z (s.For x low high names keep body) is in
        let left = le-max_left (max (limits.expr_depth low) (limits.expr_depth high)) (greatest (map limits.stmt_depth body)) in
        let right = le-max_right (max (limits.expr_depth low) (limits.expr_depth high)) (greatest (map limits.stmt_depth body)) in
        let deep = depth_is ns in
        stands_over guide z k (s.For x low high names keep body) is rule.SFor args (b.t.cert ∷ b.certs ++ ends)
        (f.node ∷ g.node ∷ []) (block ns ∷ []) out (record w { ctx = e }) refl refl
        (row ends e stays found leaves)
        (omega (arith, one, two, three, four, five, inner)) (db.few few) (omega (arith, six, seven))
        (omega (arith, inner, size, five))
        (rw (df.shaped, dg.shaped, shaped) refl)
        (λ plain. let top = two_top (measure.expr_depth f.node) (measure.expr_depth g.node) (limits.expr_depth low)
        (limits.expr_depth high) (df.shallow plain) (dg.shallow plain) in omega (arith, depth, top, left))
        (λ plain. let shallow = db.shallow plain in
        one_top (measure.block_depth (block ns)) (limits.stmt_depth z + limits.stmt_blocks z)
        (omega (arith, depth, blocks, right, deep, shallow)))

    by_certs : search.stays names (standing u.ctx) w.ctx ≡ true → (q : Option (List Cert))
        → search.end_certs x names keep (standing v.ctx) w.ctx ≡ q
        → Gives (StmtDerives guide z k)
        (with_context w (search.loop_left k.entered (stuck n) x names keep f.node g.node
        (start_of b.l b.t b.certs u.ctx v.ctx) ns q w.ctx))
    by_certs stays None found = tt
    by_certs stays (Some ends) found =
        ended_gives (StmtDerives guide z k) (search.loop_node (search.plan_of b.l b.t b.certs) ends f.node g.node ns) w (stuck n)
        (for_rule.leaves k.entered x names keep (standing w.ctx) (restored (standing u.ctx) w.ctx))
        (λ a e leaves. derives ends e stays found leaves)

    by_stays : (r : Bool) → search.stays names (standing u.ctx) w.ctx ≡ r → Ends (start_of b.l b.t b.certs u.ctx v.ctx) w ns
    by_stays true stays = rw stays (by_certs stays (search.end_certs x names keep (standing v.ctx) w.ctx) refl)
    by_stays false stays = rw stays tt

    ends_give : Ends o w ns
    ends_give = subst (λ (l : LoopStart). Ends l w ns) (sym b.is) (by_stays (search.stays names (standing u.ctx) w.ctx) refl)

-- The bounds are found, and the block begins.
record Opened (guide : Guide) (at : ℕ) (x : Name) (low high : Expr) (names : List Name) (keep : List Le) (k : Seeker)
    (o : (ExprNode × ExprNode) × LoopStart) (v : Seeker) : Type 0 where
  f : Found
  g : Found
  t : Seeker
  u : Seeker
  df : Derives guide low k f t
  dg : Derives guide high t g u
  b : Begun guide.homes k.ctx.entries at x names keep f.out.form g.out.form u o.1 v
  first : o.0.0 ≡ f.node
  second : o.0.1 ≡ g.node

module _ (guide : Guide) (deep at n : ℕ) (x : Name) (low high : Expr) (names : List Name) (keep : List Le) (k : Seeker) where
  abbrev P : (ExprNode × ExprNode) × LoopStart → Seeker → Type 0
  P = Opened guide at x low high names keep k

  abbrev begins : Found → Found → Seek LoopStart
  begins f g = in_context (search.loop_begun guide.homes k.ctx.entries at (stuck n) x names keep f.out.form g.out.form)

  opened_gives : Gives P (search.loop_opened guide deep at n x low high names keep k)
  opened_gives =
      gives_then P k (Derives guide low k) (seek guide deep n low)
      (λ f. then_seek (seek guide deep n high) (λ g. then_seek (begins f g) (λ o. give ((f.node, g.node), o))))
      (expressions_derive guide deep n low k)
      (λ f t df. gives_then P t (Derives guide high t) (seek guide deep n high)
      (λ g. then_seek (begins f g) (λ o. give ((f.node, g.node), o)))
      (expressions_derive guide deep n high t)
      (λ g u dg. gives_then P u (Begun guide.homes k.ctx.entries at x names keep f.out.form g.out.form u) (begins f g)
      (λ o. give ((f.node, g.node), o))
      (begun_gives guide.homes k.ctx.entries at n x names keep f.out.form g.out.form u)
      (λ o v b. record { f = f; g = g; t = t; u = u; df = df; dg = dg; b = b; first = refl; second = refl })))

module _ (guide : Guide) (z : Stmt) (k : Seeker) (deep n : ℕ) where
  pub for_derives : (x : Name) (low high : Expr) (names : List Name) (keep : List Le) (body : List Stmt)
      → out-Stmt z ≡ s.For x low high names keep body → Derivables guide deep body
      → Gives (StmtDerives guide z k)
      (search.seek_for guide deep k.entered n x low high names keep (map (seek_stmt guide deep) body) (begun k))
  for_derives x low high names keep body is each =
      let at = k.entered in let Q = StmtDerives guide z k in
      let block_found = in_order (map (seek_stmt guide deep) body) [] in
      gives_then Q (begun k) (Opened guide at x low high names keep (begun k))
      (search.loop_opened guide deep at n x low high names keep)
      (λ o. then_seek block_found (λ ns. in_context (search.loop_ended at (stuck n) x names keep o.0.0 o.0.1 o.1 ns)))
      (opened_gives guide deep at n x low high names keep (begun k))
      (λ o v op. gives_then Q v (BlockDerives guide body v) block_found
      (λ ns. in_context (search.loop_ended at (stuck n) x names keep o.0.0 o.0.1 o.1 ns))
      (block_derives guide deep body each v)
      (λ ns w db. rw (op.first, op.second)
      (ends_give guide z k n x low high names keep body is op.f op.g op.t op.u op.df op.dg v w ns o.1 op.b db)))
