-- What the search finds for an expression is an instance.
use Rattle.std.proofs.Common.{◌≡◌, refl, sym, ◌∙◌, ap, arith, ℕ, zero, suc, ◌+◌, ◌-◌, ◌≤◌, max, pos, Bool, true, false, List, []}
use Rattle.std.proofs.Common.{◌∷◌, length, map, sum, Option, Some, None, option_and_then, is_some, Ok}
use Rattle.rup_base.specs.Answers.{and_then_with}
use Rattle.rup_base.specs.declared.refusal.Refusal.{Refusal}
use Rattle.model_syntax.specs.declared.expr.Op.{Op}
use Rattle.model_syntax.specs.declared.expr.Op.TheVariants as op
use Rattle.model_syntax.specs.declared.expr.Expr.{Expr, Expr-F, out-Expr}
use Rattle.model_syntax.specs.declared.expr.Expr.TheOpen as e
use Rattle.side_certs.specs.declared.certificate.Cert.{Cert}
use Rattle.sym_heap.specs.Context.{Context, own}
use Rattle.deriv_tree.specs.declared.rule.Rule as deriv
use Rattle.deriv_tree.specs.declared.rule.Rule.TheVariants as rule
use Rattle.deriv_tree.specs.Measure as measure
use Rattle.rup_base.specs.Gather.{greatest}
use Rattle.model_syntax.specs.Limits as limits
use Rattle.deriv_tree.specs.Measure.{expr_size, expr_size_step}
use Rattle.deriv_tree.specs.Shape.{most_nodes, expr_shaped, expr_shaped_step}
use Rattle.deriv_tree.specs.declared.tree.ExprNode.{ExprNode, ExprNode-F, fold-roll-ExprNode}
use Rattle.expr_rules.specs.declared.output.ExprOut.{ExprOut}
use Rattle.expr_rules.specs.Row.{judged, judged_step, parts, binary, low, array_length}
use Rattle.expr_rules.specs.Words.{◌>>=◌, Judged, sizes, two_kids, one_kid}
use Rattle.expr_rules.specs.rules.Lit as lit
use Rattle.expr_rules.specs.rules.Var as var
use Rattle.expr_rules.specs.rules.Cmp as cmp
use Rattle.expr_rules.specs.rules.Not as negation
use Rattle.expr_rules.specs.rules.Both as both
use Rattle.expr_rules.specs.rules.Either as either
use Rattle.expr_rules.specs.rules.Word as word
use Rattle.expr_rules.specs.rules.Get as get
use Rattle.expr_rules.specs.rules.Tab as tab
use Rattle.expr_rules.specs.rules.Rw as rewriting
use Rattle.derive_search.specs.declared.found.Found.{Found}
use Rattle.derive_search.specs.declared.seeker.Seeker.{Seeker}
use Rattle.derive_search.specs.Words.{Seek, give}
use Rattle.derive_search.specs.Guide.{Guide}
use Rattle.lemma_files.specs.Lemmas.{most_steps}
use Rattle.derive_search.specs.Lemmas.{rewriting as rewritten_by, stepped, step_node, over_step, where_some, by_steps}
use Rattle.derive_search.specs.Rows.{Candidate, first, plainly, certified, operations, bytes, element, entry, special, sum_goal}
use Rattle.derive_search.specs.Rows.{difference_goal, product_goal, shift_goal, byte_goal, index_goal, entry_goal}
use Rattle.derive_search.specs.Expressions as search
use Rattle.derive_search.specs.Expressions.{node, taken}
use Rattle.derive_search.specs.Instance.{Gives, IsPlain, Derives}
use Rattle.derive_search.proofs.Depth.{expr_depth_is, one_top, two_top}
use Rattle.derive_search.proofs.Fitting.{step, Legal, Last, Fits, fits_plainly, fits_certified, fits_one, fits_two}
use Rattle.derive_search.proofs.laws.Walking.{gives_then, gives_enter, gives_where, gives_ended}

-- one goal after the other
abbrev pub then_seek : {A B : Type 0} → Seek A → (A → Seek B) → Seek B
then_seek m next s = and_then_with (m s) next

-- the state in which a goal's kids are entered
abbrev entered_at : Seeker → Seeker
entered_at s = record s { entered = s.entered + 1 }

module _ (g : Guide) (x : Expr) (shape : Expr-F Expr) (is : out-Expr x ≡ shape) (s : Seeker) where
  -- the row of a node that is legal, from what its last part gives
  derives : (rule : deriv.Rule) (certs : List Cert) (nodes : List ExprNode) (out : ExprOut) (t : Seeker)
      → Legal shape (length nodes) rule certs
      → parts (step rule certs) (map (judged g.turn) nodes) s.entered shape s.ctx ≡ Ok (out, t.ctx)
      → t.entered ≡ s.entered + (1 + sizes (map (judged g.turn) nodes))
      → t.stmts ≡ s.stmts
      → t.entered ≤ most_nodes
      → sizes (map (judged g.turn) nodes) ≡ sum (map expr_size nodes)
      → expr_shaped_step (record { step = step rule certs; kids = map expr_shaped nodes }) ≡ true
      → (IsPlain g → greatest (map measure.expr_depth nodes) + 1 ≤ limits.expr_depth x)
      → Derives g x s (record { node = node rule certs nodes; out = out }) t
  derives rule certs nodes out t legal gives entered stmts few sized shaped shallow =
      let n : ExprNode-F ExprNode = record { step = step rule certs; kids = nodes } in
      let one : (judged g.turn (node rule certs nodes)).row s.entered x s.ctx ≡ Ok (out, t.ctx) =
      rw (fold-roll-ExprNode Judged (judged_step g.turn) n) (rw (is, legal.fit, legal.counts, legal.plain) gives) in
      let two : t.entered ≡ s.entered + (judged g.turn (node rule certs nodes)).size =
      rw (fold-roll-ExprNode Judged (judged_step g.turn) n) entered in
      let three : expr_shaped (node rule certs nodes) ≡ true = rw (fold-roll-ExprNode Bool expr_shaped_step n) shaped in
      let four : (judged g.turn (node rule certs nodes)).size ≡ expr_size (node rule certs nodes) =
      rw (fold-roll-ExprNode Judged (judged_step g.turn) n, fold-roll-ExprNode ℕ expr_size_step n) (ap (λ m. 1 + m) sized) in
      let five : IsPlain g → measure.expr_depth (node rule certs nodes) ≤ limits.expr_depth x =
      λ plain. rw (fold-roll-ExprNode ℕ measure.expr_depth_step n) (shallow plain) in
      record { row = one; entered = two; sized = four; stmts = stmts; few = few; shaped = three; shallow = five }

  -- Nodes by the number of their kids: from the kids' rows, and what the last part gives of the rows that are tried.

  leaf_derives : (refusal : Refusal) (tries : List Candidate) (last : Last)
      → ((rule : deriv.Rule) (certs : List Cert) → parts (step rule certs) [] s.entered shape s.ctx ≡ last rule certs s.ctx)
      → Fits shape 0 last s.ctx (first tries s.ctx) → s.entered + 1 ≤ most_nodes → 1 ≤ limits.expr_depth x
      → Gives (Derives g x s) (taken refusal [] tries (entered_at s))
  leaf_derives refusal tries last opens fit room top =
      gives_ended (Derives g x s) (entered_at s) refusal [] (Fits shape 0 last s.ctx) (first tries s.ctx) fit
      (λ p d f. derives p.rule p.certs [] p.out (record (entered_at s) { ctx = d }) f.0 (opens p.rule p.certs ∙ f.1) refl refl
      room refl (rw (f.0.expression, f.0.kids_many) refl) (λ plain. top))

  module _ (next : Expr → Seek Found) (ih : (y : Expr) (t : Seeker) → Gives (Derives g y t) (next y t)) (refusal : Refusal) where
    one_derives : (y : Expr) (tries : ExprOut → List Candidate) (last : ExprOut → Last)
        → ((rule : deriv.Rule) (certs : List Cert) (k : Judged) → parts (step rule certs) (k ∷ []) s.entered shape s.ctx
        ≡ (one_kid (k ∷ []) s.entered y >>= (λ p. last p rule certs)) s.ctx)
        → ((p : ExprOut) (c : Context) → Fits shape 1 (last p) c (first (tries p) c))
        → limits.expr_depth y + 1 ≤ limits.expr_depth x
        → Gives (Derives g x s) (then_seek (next y) (λ a. taken refusal (a.node ∷ []) (tries a.out)) (entered_at s))
    one_derives y tries last opens fit top =
        gives_then (Derives g x s) (entered_at s) (Derives g y (entered_at s)) (next y)
        (λ a. taken refusal (a.node ∷ []) (tries a.out)) (ih y (entered_at s))
        (λ a t da. gives_ended (Derives g x s) t refusal (a.node ∷ []) (Fits shape 1 (last a.out) t.ctx)
        (first (tries a.out) t.ctx) (fit a.out t.ctx)
        (λ p d f. derives p.rule p.certs (a.node ∷ []) p.out (record t { ctx = d }) f.0
        (opens p.rule p.certs (judged g.turn a.node) ∙ rw da.row f.1)
        (let e = da.entered in omega (arith, e))
        da.stmts
        da.few
        (let sized = da.sized in omega (arith, sized))
        (rw (f.0.expression, f.0.kids_many, da.shaped) refl)
        (λ plain. let deep = one_top (measure.expr_depth a.node) (limits.expr_depth y) (da.shallow plain) in
        omega (arith, deep, top))))

    two_derive : (y z : Expr) (tries : ExprOut → ExprOut → List Candidate) (last : ExprOut → ExprOut → Last)
        → ((rule : deriv.Rule) (certs : List Cert) (k l : Judged)
        → parts (step rule certs) (k ∷ l ∷ []) s.entered shape s.ctx
        ≡ (two_kids (k ∷ l ∷ []) s.entered y z >>= (λ pq. last pq.0 pq.1 rule certs)) s.ctx)
        → ((p q : ExprOut) (c : Context) → Fits shape 2 (last p q) c (first (tries p q) c))
        → max (limits.expr_depth y) (limits.expr_depth z) + 1 ≤ limits.expr_depth x
        → Gives (Derives g x s) (then_seek (next y)
        (λ a. then_seek (next z) (λ b. taken refusal (a.node ∷ b.node ∷ []) (tries a.out b.out))) (entered_at s))
    two_derive y z tries last opens fit top =
        gives_then (Derives g x s) (entered_at s) (Derives g y (entered_at s)) (next y)
        (λ a. then_seek (next z) (λ b. taken refusal (a.node ∷ b.node ∷ []) (tries a.out b.out))) (ih y (entered_at s))
        (λ a t da. gives_then (Derives g x s) t (Derives g z t) (next z)
        (λ b. taken refusal (a.node ∷ b.node ∷ []) (tries a.out b.out)) (ih z t)
        (λ b u db. gives_ended (Derives g x s) u refusal (a.node ∷ b.node ∷ []) (Fits shape 2 (last a.out b.out) u.ctx)
        (first (tries a.out b.out) u.ctx) (fit a.out b.out u.ctx)
        (λ p d f.
        let second : (judged g.turn b.node).row (s.entered + 1 + (judged g.turn a.node).size) z t.ctx
        ≡ Ok (b.out, u.ctx) = rw (sym da.entered) db.row in
        derives p.rule p.certs (a.node ∷ b.node ∷ []) p.out (record u { ctx = d }) f.0
        (opens p.rule p.certs (judged g.turn a.node) (judged g.turn b.node) ∙ rw (da.row, second) f.1)
        (let one = da.entered in let two = db.entered in omega (arith, one, two))
        (db.stmts ∙ da.stmts)
        db.few
        (let one = da.sized in let two = db.sized in omega (arith, one, two))
        (rw (f.0.expression, f.0.kids_many, da.shaped, db.shaped) refl)
        (λ plain. let deep = two_top (measure.expr_depth a.node) (measure.expr_depth b.node) (limits.expr_depth y)
        (limits.expr_depth z) (da.shallow plain) (db.shallow plain) in omega (arith, deep, top)))))

-- The rows that are tried, by the shape.

module _ (at : ℕ) (y z : Expr) (p q : ExprOut) (c : Context) where
  abbrev last_of : Op → Last
  last_of o r certs = binary r o certs at p q

  special_fits : (o : Op) → Fits (e.Bin o y z) 2 (last_of o) c (special at o p q c)
  special_fits op.Add = fits_certified (e.Bin op.Add y z) 2 (last_of op.Add) c rule.EAdd (sum_goal p q)
      (λ k. record { fit = refl; counts = refl; plain = refl; expression = refl; kids_many = refl })
  special_fits op.Sub = fits_certified (e.Bin op.Sub y z) 2 (last_of op.Sub) c rule.ESub (difference_goal p q)
      (λ k. record { fit = refl; counts = refl; plain = refl; expression = refl; kids_many = refl })
  special_fits op.Mul = fits_certified (e.Bin op.Mul y z) 2 (last_of op.Mul) c rule.EMulk (product_goal p q)
      (λ k. record { fit = refl; counts = refl; plain = refl; expression = refl; kids_many = refl })
  special_fits op.Shl = fits_certified (e.Bin op.Shl y z) 2 (last_of op.Shl) c rule.EShift (shift_goal p q)
      (λ k. record { fit = refl; counts = refl; plain = refl; expression = refl; kids_many = refl })
  special_fits op.And = fits_plainly (e.Bin op.And y z) 2 (last_of op.And) c rule.EMask
      (record { fit = refl; counts = refl; plain = refl; expression = refl; kids_many = refl })
  special_fits op.Remu = fits_plainly (e.Bin op.Remu y z) 2 (last_of op.Remu) c rule.ERemk
      (record { fit = refl; counts = refl; plain = refl; expression = refl; kids_many = refl })
  special_fits op.Divu = fits_plainly (e.Bin op.Divu y z) 2 (last_of op.Divu) c rule.EDivk
      (record { fit = refl; counts = refl; plain = refl; expression = refl; kids_many = refl })
  special_fits op.Shr = fits_plainly (e.Bin op.Shr y z) 2 (last_of op.Shr) c rule.EDivk
      (record { fit = refl; counts = refl; plain = refl; expression = refl; kids_many = refl })
  special_fits op.Mulhuu = tt
  special_fits op.Or = tt
  special_fits op.Xor = tt
  special_fits op.Sar = tt

  operations_fit : (o : Op) → Fits (e.Bin o y z) 2 (last_of o) c (first (operations at o p q) c)
  operations_fit o =
      fits_two (e.Bin o y z) 2 (last_of o) c (special at o p q) (plainly rule.EOp (last_of o rule.EOp [])) (special_fits o)
      (fits_plainly (e.Bin o y z) 2 (last_of o) c rule.EOp
      (record { fit = refl; counts = refl; plain = refl; expression = refl; kids_many = refl }))

-- The goal of an expression, from those of its kids.

module _ (g : Guide) (next : Expr → Seek Found) (ih : (y : Expr) (t : Seeker) → Gives (Derives g y t) (next y t)) (x : Expr)
    (s : Seeker) (refusal : Refusal) (room : s.entered + 1 ≤ most_nodes) where
  parts_derive : (shape : Expr-F Expr) → out-Expr x ≡ shape
      → Gives (Derives g x s) (search.parts next refusal s.entered shape (entered_at s))
  parts_derive (e.Lit n) is =
      let depth : limits.expr_depth x ≡ 1 = expr_depth_is x (e.Lit n) is in
      leaf_derives g x (e.Lit n) is s refusal (plainly rule.ELit (lit.after s.entered n) ∷ []) (λ r certs. lit.after s.entered n)
      (λ r certs. refl)
      (fits_one (e.Lit n) 0 (λ r certs. lit.after s.entered n) s.ctx (plainly rule.ELit (lit.after s.entered n))
      (fits_plainly (e.Lit n) 0 (λ r certs. lit.after s.entered n) s.ctx rule.ELit
      (record { fit = refl; counts = refl; plain = refl; expression = refl; kids_many = refl }))) room (omega (arith, depth))
  parts_derive (e.Var y) is =
      let depth : limits.expr_depth x ≡ 1 = expr_depth_is x (e.Var y) is in
      leaf_derives g x (e.Var y) is s refusal (plainly rule.EVar (var.after s.entered y) ∷ []) (λ r certs. var.after s.entered y)
      (λ r certs. refl)
      (fits_one (e.Var y) 0 (λ r certs. var.after s.entered y) s.ctx (plainly rule.EVar (var.after s.entered y))
      (fits_plainly (e.Var y) 0 (λ r certs. var.after s.entered y) s.ctx rule.EVar
      (record { fit = refl; counts = refl; plain = refl; expression = refl; kids_many = refl }))) room (omega (arith, depth))
  parts_derive (e.Length a) is =
      let depth : limits.expr_depth x ≡ 1 = expr_depth_is x (e.Length a) is in
      leaf_derives g x (e.Length a) is s refusal (plainly rule.ELen (array_length s.entered a true) ∷ [])
      (λ r certs. array_length s.entered a true) (λ r certs. refl)
      (fits_one (e.Length a) 0 (λ r certs. array_length s.entered a true) s.ctx
      (plainly rule.ELen (array_length s.entered a true))
      (fits_plainly (e.Length a) 0 (λ r certs. array_length s.entered a true) s.ctx rule.ELen
      (record { fit = refl; counts = refl; plain = refl; expression = refl; kids_many = refl }))) room (omega (arith, depth))
  parts_derive (e.Bin o y z) is =
      let depth : limits.expr_depth x ≡ max (limits.expr_depth y) (limits.expr_depth z) + 1 = expr_depth_is x (e.Bin o y z) is in
      two_derive g x (e.Bin o y z) is s next ih refusal y z (λ p q. operations s.entered o p q)
      (λ p q. last_of s.entered y z p q s.ctx o) (λ r certs k l. refl)
      (λ p q c. operations_fit s.entered y z p q c o)
      (omega (arith, depth))
  parts_derive (e.Test test y z) is =
      let depth : limits.expr_depth x ≡ max (limits.expr_depth y) (limits.expr_depth z) + 1 = expr_depth_is x (e.Test test y z) is
      in
      two_derive g x (e.Test test y z) is s next ih refusal y z (λ p q. plainly rule.ECmp (cmp.after s.entered test p q) ∷ [])
      (λ p q r certs. cmp.after s.entered test p q) (λ r certs k l. refl)
      (λ p q c. fits_one (e.Test test y z) 2 (λ r certs. cmp.after s.entered test p q) c
      (plainly rule.ECmp (cmp.after s.entered test p q))
      (fits_plainly (e.Test test y z) 2 (λ r certs. cmp.after s.entered test p q) c rule.ECmp
      (record { fit = refl; counts = refl; plain = refl; expression = refl; kids_many = refl })))
      (omega (arith, depth))
  parts_derive (e.Both y z) is =
      let depth : limits.expr_depth x ≡ max (limits.expr_depth y) (limits.expr_depth z) + 1 = expr_depth_is x (e.Both y z) is in
      two_derive g x (e.Both y z) is s next ih refusal y z (λ p q. plainly rule.EBoth (both.after s.entered p q) ∷ [])
      (λ p q r certs. both.after s.entered p q) (λ r certs k l. refl)
      (λ p q c. fits_one (e.Both y z) 2 (λ r certs. both.after s.entered p q) c (plainly rule.EBoth (both.after s.entered p q))
      (fits_plainly (e.Both y z) 2 (λ r certs. both.after s.entered p q) c rule.EBoth
      (record { fit = refl; counts = refl; plain = refl; expression = refl; kids_many = refl })))
      (omega (arith, depth))
  parts_derive (e.Either y z) is =
      let depth : limits.expr_depth x ≡ max (limits.expr_depth y) (limits.expr_depth z) + 1 = expr_depth_is x (e.Either y z) is in
      two_derive g x (e.Either y z) is s next ih refusal y z (λ p q. plainly rule.EEither (either.after s.entered p q) ∷ [])
      (λ p q r certs. either.after s.entered p q) (λ r certs k l. refl)
      (λ p q c. fits_one (e.Either y z) 2 (λ r certs. either.after s.entered p q) c
      (plainly rule.EEither (either.after s.entered p q))
      (fits_plainly (e.Either y z) 2 (λ r certs. either.after s.entered p q) c rule.EEither
      (record { fit = refl; counts = refl; plain = refl; expression = refl; kids_many = refl })))
      (omega (arith, depth))
  parts_derive (e.Not y) is =
      let depth : limits.expr_depth x ≡ limits.expr_depth y + 1 = expr_depth_is x (e.Not y) is in
      one_derives g x (e.Not y) is s next ih refusal y (λ p. plainly rule.ENot (negation.after s.entered p) ∷ [])
      (λ p r certs. negation.after s.entered p) (λ r certs k. refl)
      (λ p c. fits_one (e.Not y) 1 (λ r certs. negation.after s.entered p) c (plainly rule.ENot (negation.after s.entered p))
      (fits_plainly (e.Not y) 1 (λ r certs. negation.after s.entered p) c rule.ENot
      (record { fit = refl; counts = refl; plain = refl; expression = refl; kids_many = refl })))
      (omega (arith, depth))
  parts_derive (e.ToWord y) is =
      let depth : limits.expr_depth x ≡ limits.expr_depth y + 1 = expr_depth_is x (e.ToWord y) is in
      one_derives g x (e.ToWord y) is s next ih refusal y (λ p. plainly rule.EWord (word.after p) ∷ [])
      (λ p r certs. word.after p) (λ r certs k. refl)
      (λ p c. fits_one (e.ToWord y) 1 (λ r certs. word.after p) c (plainly rule.EWord (word.after p))
      (fits_plainly (e.ToWord y) 1 (λ r certs. word.after p) c rule.EWord
      (record { fit = refl; counts = refl; plain = refl; expression = refl; kids_many = refl })))
      (omega (arith, depth))
  parts_derive (e.ToByte y) is =
      let depth : limits.expr_depth x ≡ limits.expr_depth y + 1 = expr_depth_is x (e.ToByte y) is in
      one_derives g x (e.ToByte y) is s next ih refusal y (λ p. bytes s.entered p) (λ p r certs. low r certs s.entered p)
      (λ r certs k. refl)
      (λ p c. fits_two (e.ToByte y) 1 (λ r certs. low r certs s.entered p) c
      (certified rule.EByte (byte_goal p) (λ certs. low rule.EByte certs s.entered p))
      (plainly rule.ECut (low rule.ECut [] s.entered p))
      (fits_certified (e.ToByte y) 1 (λ r certs. low r certs s.entered p) c rule.EByte (byte_goal p)
      (λ k. record { fit = refl; counts = refl; plain = refl; expression = refl; kids_many = refl }))
      (fits_plainly (e.ToByte y) 1 (λ r certs. low r certs s.entered p) c rule.ECut
      (record { fit = refl; counts = refl; plain = refl; expression = refl; kids_many = refl })))
      (omega (arith, depth))
  parts_derive (e.Get a i) is =
      let depth : limits.expr_depth x ≡ limits.expr_depth i + 1 = expr_depth_is x (e.Get a i) is in
      gives_where (Derives g x s) (entered_at s) (λ c. is_some (own c a)) refusal
      (then_seek (next i) (λ p. taken refusal (p.node ∷ []) (element s.entered a p.out ∷ [])))
      (λ there. one_derives g x (e.Get a i) is s next ih refusal i (λ p. element s.entered a p ∷ [])
      (λ p r certs. get.after certs s.entered a p)
      (λ r certs k. rw there refl)
      (λ p c. fits_one (e.Get a i) 1 (λ r certs. get.after certs s.entered a p) c (element s.entered a p)
      (fits_certified (e.Get a i) 1 (λ r certs. get.after certs s.entered a p) c rule.EGet (index_goal a p.form c)
      (λ k. record { fit = refl; counts = refl; plain = refl; expression = refl; kids_many = refl }))) (omega (arith, depth)))
  parts_derive (e.Tab t ns i) is =
      let depth : limits.expr_depth x ≡ limits.expr_depth i + 1 = expr_depth_is x (e.Tab t ns i) is in
      gives_where (Derives g x s) (entered_at s) (λ c. tab.is_small ns) refusal
      (then_seek (next i) (λ p. taken refusal (p.node ∷ []) (entry s.entered t ns p.out ∷ [])))
      (λ small. one_derives g x (e.Tab t ns i) is s next ih refusal i (λ p. entry s.entered t ns p ∷ [])
      (λ p r certs. tab.after certs s.entered t ns p)
      (λ r certs k. rw small refl)
      (λ p c. fits_one (e.Tab t ns i) 1 (λ r certs. tab.after certs s.entered t ns p) c (entry s.entered t ns p)
      (fits_certified (e.Tab t ns i) 1 (λ r certs. tab.after certs s.entered t ns p) c rule.ETab (entry_goal ns p)
      (λ k. record { fit = refl; counts = refl; plain = refl; expression = refl; kids_many = refl }))) (omega (arith, depth)))

-- The goal of an expression that a lemma rewrites.

module _ (g : Guide) (x y : Expr) (s t : Seeker) (step_number : ℕ) (f : Found) where
  -- the row of the node of a step, from that of its kid
  step_derives : stepped g.turn step_number x ≡ Some y → Derives g y (entered_at s) f t → (IsPlain g → ⊥)
      → Derives g x s (over_step step_number f) t
  step_derives is d more = by (rewriting.step_of (pos step_number ∷ [])) refl is where
    n : ExprNode-F ExprNode
    n = record { step = record { rule = rule.ERw; args = pos step_number ∷ []; certs = [] }; kids = f.node ∷ [] }

    row : (k : ℕ) → rewriting.step_of (pos step_number ∷ []) ≡ Some k → g.turn k x ≡ Some y
        → (judged g.turn (step_node step_number f.node)).row s.entered x s.ctx ≡ Ok (f.out, t.ctx)
    row k number turned = rw (fold-roll-ExprNode Judged (judged_step g.turn) n) (rw (number, turned) d.row)

    by : (o : Option ℕ) → rewriting.step_of (pos step_number ∷ []) ≡ o → option_and_then (λ k. g.turn k x) o ≡ Some y
        → Derives g x s (over_step step_number f) t
    by None number turned = absurd
        (let bad : is_some (option_and_then (λ k. g.turn k x) None) ≡ true = ap is_some turned in let no : false ≡ true = bad in
        cc)
    by (Some k) number turned =
        let entered = d.entered in
        let sized = d.sized in
        record {
          row = row k number turned;
          entered = rw (fold-roll-ExprNode Judged (judged_step g.turn) n) (omega (arith, entered));
          sized = rw (fold-roll-ExprNode Judged (judged_step g.turn) n, fold-roll-ExprNode ℕ expr_size_step n)
              (omega (arith, sized));
          stmts = d.stmts;
          few = d.few;
          shaped = rw (fold-roll-ExprNode Bool expr_shaped_step n) (rw d.shaped refl);
          shallow = λ plain. absurd (more plain);
        }

module _ (g : Guide) (refusal : Expr → Refusal) (last : Expr → Seek Found)
    (ih : (y : Expr) (t : Seeker) → Gives (Derives g y t) (last y t)) (more : IsPlain g → ⊥) where
  steps_derive : (steps : List ℕ) (x : Expr) (s : Seeker) → Gives (Derives g x s) (by_steps g.turn refusal last steps x s)
  steps_derive [] x s = ih x s
  steps_derive (step_number ∷ steps) x s =
      gives_enter (Derives g x s) s (λ at. where_some (refusal x) (stepped g.turn step_number x)
      (λ y. then_seek (by_steps g.turn refusal last steps y) (λ f. give (over_step step_number f))))
      (λ room. by (λ y. steps_derive steps y (entered_at s)) (stepped g.turn step_number x) refl) where
        by : ((y : Expr) → Gives (Derives g y (entered_at s)) (by_steps g.turn refusal last steps y (entered_at s)))
            → (o : Option Expr) → stepped g.turn step_number x ≡ o
            → Gives (Derives g x s) (where_some (refusal x) o
            (λ y. then_seek (by_steps g.turn refusal last steps y) (λ f. give (over_step step_number f))) (entered_at s))
        by rest None is = tt
        by rest (Some y) is =
            gives_then (Derives g x s) (entered_at s) (Derives g y (entered_at s)) (by_steps g.turn refusal last steps y)
            (λ f. give (over_step step_number f))
            (rest y) (λ f t d. step_derives g x y s t step_number f is d more)

-- without lemmas none rewrites
none_rewrites : (g : Guide) (room : ℕ) (x : Expr) (steps : List ℕ) → rewritten_by g.turn room x g.lemmas ≡ Some steps → IsPlain g
    → ⊥
none_rewrites g room x steps is plain =
    let none : rewritten_by g.turn room x g.lemmas ≡ None = ap (rewritten_by g.turn room x) plain in
    let bad : ◌≡◌ {A = Option (List ℕ)} None (Some steps) = sym none ∙ is in cc

pub goals_derive : (g : Guide) (deep stmt above : ℕ) (x : Expr) (s : Seeker)
    → Gives (Derives g x s) (search.goal_of g deep stmt above x s)
goals_derive g zero stmt above x s = tt
goals_derive g (suc deep) stmt above x s =
    by (λ more y t. goals_derive g deep stmt more y t) (rewritten_by g.turn (most_steps - above) x g.lemmas) refl where
      by : ((more : ℕ) (y : Expr) (t : Seeker) → Gives (Derives g y t) (search.goal_of g deep stmt more y t))
          → (o : Option (List ℕ)) → rewritten_by g.turn (most_steps - above) x g.lemmas ≡ o
          → Gives (Derives g x s) (search.by_lemma g.turn (search.goal_of g deep stmt) stmt above x o s)
      by next None is =
          gives_enter (Derives g x s) s (λ at. search.parts (search.goal_of g deep stmt 0) (search.stuck stmt x) at (out-Expr x))
          (λ room. parts_derive g (search.goal_of g deep stmt 0) (next 0) x s (search.stuck stmt x) room (out-Expr x) refl)
      by next (Some steps) is =
          steps_derive g (search.stuck stmt) (search.goal_of g deep stmt (above + length steps)) (next (above + length steps))
          (none_rewrites g (most_steps - above) x steps is) steps x s

pub expressions_derive : (g : Guide) (deep stmt : ℕ) (x : Expr) (s : Seeker) → Gives (Derives g x s) (search.seek g deep stmt x s)
expressions_derive g deep stmt x s = goals_derive g deep stmt 0 x s
