-- What s-put and s-move give is right, from their kids on.
use Rattle.std.proofs.Common.{◌≡◌, refl, sym, ◌∙◌, ap, subst, ℕ, ◌+◌, ◌≤ℤ◌, true, nat_lt, pos, List, [], ◌∷◌, Some, None, Result}
use Rattle.std.proofs.Common.{Ok, Err}
use Rattle.rup_base.specs.declared.refusal.Refusal.{Refusal}
use Rattle.side_certs.specs.Closes.{Holds}
use Rattle.side_certs.specs.LinearForm.{value_at}
use Rattle.side_certs.specs.declared.certificate.Cert.{Cert}
use Rattle.model_syntax.specs.declared.expr.Expr.{Expr}
use Rattle.model_syntax.specs.declared.expr.Scalar.{Scalar}
use Rattle.model_syntax.specs.declared.expr.Scalar.TheVariants.{Word}
use Rattle.model_syntax.specs.declared.program.Len.{Len}
use Rattle.model_syntax.specs.declared.program.Param.{Param}
use Rattle.model_syntax.specs.declared.scope.NameType.TheVariants.{Array as Many}
use Rattle.model_syntax.specs.Environment.{Env, value_of, with_element, put_some}
use Rattle.model_syntax.specs.ExprType.{type_of}
use Rattle.model_syntax.specs.Formed.{expr_formed}
use Rattle.model_syntax.specs.Names.{Name}
use Rattle.model_syntax.specs.Sound.{IsTyped}
use Rattle.model_syntax.specs.Scope.{Scope, look_up, bind}
use Rattle.model_syntax.specs.Spelling.{expr_spellable}
use Rattle.model_syntax.specs.Value.{eval}
use Rattle.sym_heap.specs.declared.parts.Clause.{Clause}
use Rattle.sym_heap.specs.Context.{Context, own, can_move, with_clause, written}
use Rattle.sym_heap.specs.Fits.{IsConsistent}
use Rattle.sym_heap.specs.Scoped.{IsScoped, element_size}
use Rattle.sym_heap.proofs.laws.Lookups.{clause_stands}
use Rattle.expr_rules.specs.declared.output.ExprOut.{ExprOut}
use Rattle.expr_rules.specs.Sound.{ExprDone, Yields, IsSound}
use Rattle.expr_rules.specs.Words.{Rule, ◌>>=◌, need, give, Judged, two_kids}
use Rattle.expr_rules.proofs.laws.Yields.{yields_then, yields_need, yields_found, yields_shown}
use Rattle.stmt_rules.specs.declared.output.StmtOut.{StmtOut}
use Rattle.stmt_rules.specs.Sound.{StmtDone}
use Rattle.stmt_rules.specs.rules.Put as put
use Rattle.stmt_rules.specs.rules.Move as move
use Rattle.stmt_rules.proofs.sound.Put.{room, put_done, move_done}

-- what holds of an answer of a kind holds of it as another kind
pub yields_so : {A : Type 0} (P Q : A → Context → Type 0) (r : Result (A × Context) Refusal) → Yields P r
    → ((a : A) (d : Context) → P a d → Yields Q (Ok (a, d))) → Yields Q r
yields_so P Q (Ok both) is more = more both.0 both.1 is
yields_so P Q (Err refusal) is more = tt

module _ (ps : List Param) (scope : Scope) (t : Scalar) (n : Len) (c : Context) (a : Name) (i v : Expr)
    (array : look_up scope a ≡ Some (Many t n)) (certs : List Cert) (at : ℕ) where
  -- both kids, one after the other
  abbrev Pair : ExprOut × ExprOut → Context → Type 0
  Pair pq after = (mid : Context) × (ExprDone ps scope (eval i) Word c pq.0 mid × ExprDone ps scope (eval v) t mid pq.1 after)

  -- the store, after the kids
  record StoredAt (d : Context) (p q : ExprOut) (out : StmtOut) (e : Context) : Type 0 where
    clause : Clause
    owned : own d a ≡ Some clause
    shown : (w : ℕ → ℕ) → Holds w d.facts d.tops → pos 0 ≤ℤ value_at w (room clause.length p.form)
    out_is : out ≡ put.storing clause p.code q.code
    context : e ≡ with_clause a written d

  stored_at : (d : Context) (p q : ExprOut) → Yields (StoredAt d p q) (put.after certs at a p q d)
  stored_at d p q =
      yields_found (StoredAt d p q) d (own d a) at 4 (λ k. put.element certs at a k p q)
      (λ k owned. yields_shown (StoredAt d p q) d at certs (room k.length p.form)
      (λ _. need (nat_lt k.writes put.most_writes) at 3
      >>= (λ _. put.counted_write a >>= (λ _. give (put.storing k p.code q.code))))
      (λ shown. yields_need (StoredAt d p q) d (nat_lt k.writes put.most_writes) at 3
      (λ _. put.counted_write a >>= (λ _. give (put.storing k p.code q.code)))
      (λ less. record { clause = k; owned = owned; shown = shown; out_is = refl; context = refl })))

  size : (d : Context) (k : Clause) → IsScoped ps scope d → own d a ≡ Some k → element_size t ≡ Some k.size
  size d k scoped owned =
      let s = clause_stands d a k owned in
      let is = scoped.clauses s.place k s.at in
      let both : Some (Many is.element is.len) ≡ Some (Many t n) = sym is.type ∙ ap (look_up scope) s.named ∙ array in
      let one : is.element ≡ t = cc in
      subst (λ (u : Scalar). element_size u ≡ Some k.size) one is.size

  module _ (s : IsConsistent c) (scoped : IsScoped ps scope c) (i_formed : expr_formed i ≡ true)
      (i_spelled : expr_spellable i ≡ true) (i_typed : type_of i scope ≡ Ok Word)
      (v_formed : expr_formed v ≡ true) (v_spelled : expr_spellable v ≡ true) (v_typed : type_of v scope ≡ Ok t)
      (j l : Judged) (sound_j : (m : ℕ) (e : Expr) → IsSound e (j.row m e)) (sound_l : (m : ℕ) (e : Expr) → IsSound e (l.row m e))
    where
      abbrev second : ExprOut → Rule (ExprOut × ExprOut)
      second p = l.row (at + 1 + j.size) v >>= (λ q. give (p, q))

      pair : Yields Pair (two_kids (j ∷ l ∷ []) at i v c)
      pair =
          yields_then Pair c (ExprDone ps scope (eval i) Word c) (j.row (at + 1) i) second
          (sound_j (at + 1) i ps scope Word c s scoped i_formed i_spelled i_typed)
          (λ p mid one. yields_then Pair mid (ExprDone ps scope (eval v) t mid) (l.row (at + 1 + j.size) v) (λ q. give (p, q))
          (sound_l (at + 1 + j.size) v ps scope t mid one.consistent one.scoped v_formed v_spelled v_typed)
          (λ q after two. (mid, (one, two))))

      abbrev Putting : StmtOut → Context → Type 0
      Putting = StmtDone ps scope scope (λ env. put_some a (with_element (eval i env) (eval v env) (value_of env a)) env) c

      pub put_yields : ((lengths : Name → ℕ) (env : Env) → IsTyped lengths scope env
          → IsTyped lengths scope (put_some a (with_element (eval i env) (eval v env) (value_of env a)) env))
          → Yields Putting ((two_kids (j ∷ l ∷ []) at i v >>= (λ pq. put.after certs at a pq.0 pq.1)) c)
      put_yields kept =
          yields_then Putting c Pair (two_kids (j ∷ l ∷ []) at i v) (λ pq. put.after certs at a pq.0 pq.1) pair
          (λ pq d kids. yields_so (StoredAt d pq.0 pq.1) Putting (put.after certs at a pq.0 pq.1 d) (stored_at d pq.0 pq.1)
          (λ out e is.
          rw (is.out_is, is.context) (put_done ps scope (eval i) (eval v) t c kids.0 d pq.0 pq.1 kids.1.0 kids.1.1 a is.clause
          is.owned (size d is.clause kids.1.1.scoped is.owned) is.shown kept)))

      module _ (b : Name) (free : look_up scope b ≡ None)
          (kept : (lengths : Name → ℕ) (env : Env) → IsTyped lengths scope env
          → IsTyped lengths (bind b (Many t n) scope)
          (put_some b (with_element (eval i env) (eval v env) (value_of env a)) env)) where
        abbrev Moving : StmtOut → Context → Type 0
        Moving = StmtDone ps scope (bind b (Many t n) scope)
            (λ env. put_some b (with_element (eval i env) (eval v env) (value_of env a)) env) c

        named : (d : Context) (p q : ExprOut) (mid : Context) → ExprDone ps scope (eval i) Word c p mid
            → ExprDone ps scope (eval v) t mid q d → (out : StmtOut) (e : Context) → StoredAt d p q out e
            → Yields Moving ((move.may_take at a b >>= (λ _. move.named a b >>= (λ _. give out))) e)
        named d p q mid one two out e is =
            rw (is.out_is, is.context)
            (yields_need Moving (with_clause a written d) (can_move (with_clause a written d) a b) at 5
            (λ _. move.named a b >>= (λ _. give (put.storing is.clause p.code q.code)))
            (λ may. move_done ps scope (eval i) (eval v) t c mid d p q one two a is.clause is.owned
            (size d is.clause two.scoped is.owned) is.shown b t n may array free kept))

        pub move_yields : Yields Moving ((two_kids (j ∷ l ∷ []) at i v >>= (λ pq. move.after certs at a b pq.0 pq.1)) c)
        move_yields =
            yields_then Moving c Pair (two_kids (j ∷ l ∷ []) at i v) (λ pq. move.after certs at a b pq.0 pq.1) pair
            (λ pq d kids. yields_then Moving d (StoredAt d pq.0 pq.1) (put.after certs at a pq.0 pq.1)
            (λ out. move.may_take at a b >>= (λ _. move.named a b >>= (λ _. give out))) (stored_at d pq.0 pq.1)
            (λ out e is. named d pq.0 pq.1 kids.0 kids.1.0 kids.1.1 out e is))
