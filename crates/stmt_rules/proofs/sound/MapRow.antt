-- What s-map gives is right, from its kid on.
use Rattle.std.proofs.Common.{◌≡◌, refl, sym, ◌∙◌, ap, subst, ℕ, Bool, true, false, nat_lt, is_some, List, length, Some}
use Rattle.side_certs.specs.LinearForm.{symbol}
use Rattle.model_syntax.specs.declared.expr.Expr.{Expr}
use Rattle.model_syntax.specs.declared.program.Param.{Param}
use Rattle.model_syntax.specs.declared.scope.NameType.TheVariants.{Scalar as One}
use Rattle.model_syntax.specs.Environment.{Env}
use Rattle.model_syntax.specs.Names.{Name}
use Rattle.model_syntax.specs.Scope.{Scope, bind}
use Rattle.model_syntax.specs.Sound.{IsTyped}
use Rattle.model_syntax.specs.Types as types
use Rattle.model_syntax.specs.Value.{eval, array_mapped}
use Rattle.sym_heap.specs.declared.parts.Clause.{Clause}
use Rattle.sym_heap.specs.Context.{Context, own, has_symbol, held, with_top, with_scalar, with_clause, without_clause, written}
use Rattle.sym_heap.specs.Elements.{element_top}
use Rattle.sym_heap.specs.Ends.{standing, restored}
use Rattle.sym_heap.specs.Fits.{IsConsistent}
use Rattle.sym_heap.specs.Scoped.{IsScoped}
use Rattle.bed_syntax.specs.declared.expression.BExpr.{BExpr}
use Rattle.expr_rules.specs.declared.output.ExprOut.{ExprOut}
use Rattle.expr_rules.specs.Sound.{ExprDone, Yields}
use Rattle.expr_rules.specs.Words.{Rule, ◌>>=◌, need, give}
use Rattle.expr_rules.specs.rules.Len as len
use Rattle.expr_rules.proofs.laws.Yields.{yields_then, yields_need, yields_found}
use Rattle.stmt_rules.specs.declared.loops.ElementLocals.{ElementLocals}
use Rattle.stmt_rules.specs.declared.output.StmtOut.{StmtOut}
use Rattle.stmt_rules.specs.Loops.{is_entry_form, has_trips, element_kind}
use Rattle.stmt_rules.specs.Nesting.{now}
use Rattle.stmt_rules.specs.Sound.{StmtDone}
use Rattle.stmt_rules.specs.rules.Map as map_rule
use Rattle.stmt_rules.specs.rules.Put.{most_writes, counted_write}
use Rattle.stmt_rules.proofs.sound.Around.{array_is}
use Rattle.stmt_rules.proofs.sound.FoldRow.{FreeLocals, free_locals}
use Rattle.stmt_rules.proofs.sound.FoldTyped.{MapTyped}
use Rattle.stmt_rules.proofs.sound.Lengths.{kind_is}
use Rattle.stmt_rules.proofs.sound.Map.{kid_start, MapDone, start_good, start_scoped, returns, map_done}

-- room for a write leaves the context as it is
pub room_kept : (at : ℕ) (a : Name) (d : Context) → Yields (λ (u : Unit {0}) e. e ≡ d) (map_rule.room at a d)
room_kept at a d = yields_found (λ (u : Unit {0}) e. e ≡ d) d (own d a) at 4 (λ k. need (nat_lt k.writes most_writes) at 3)
    (λ k owned. by (nat_lt k.writes most_writes)) where
      by : (b : Bool) → Yields (λ (u : Unit {0}) e. e ≡ d) (need b at 3 d)
      by true = refl
      by false = tt

module _ (ps : List Param) (scope : Scope) (j : ℕ) (state : types.State) (a x : Name) (v : Expr) (at : ℕ) (l : ElementLocals)
    (kid : Rule ExprOut) (t : MapTyped a x v j scope state)
    (sound : (d : Context) → IsConsistent d → IsScoped ps (bind x (One t.element) scope) d
    → Yields (ExprDone ps (bind x (One t.element) scope) (eval v) t.element d) (kid d))
    (c : Context) (good : IsConsistent c) (scoped : IsScoped ps scope c)
    (typed : (lengths : Name → ℕ) (env : Env) → IsTyped lengths scope env → IsTyped lengths scope (array_mapped a x v env))
  where
    abbrev pub Mapped : StmtOut → Context → Type 0
    Mapped = StmtDone ps scope scope (array_mapped a x v) c

    -- the array, and that the locals are free
    record ArrayThere (k : Clause) (d : Context) : Type 0 where
      is : d ≡ c
      owned : own c a ≡ Some k
      unused : map_rule.are_unused l c ≡ true

    array_yields : Yields ArrayThere (map_rule.array at a l c)
    array_yields =
        yields_found ArrayThere c (own c a) at 4 (λ k. need (map_rule.are_unused l c) at 5 >>= (λ _. give k))
        (λ k owned. yields_need ArrayThere c (map_rule.are_unused l c) at 5 (λ _. give k)
        (λ unused. record { is = refl; owned = owned; unused = unused }))

    module _ (k : Clause) (owned : own c a ≡ Some k) (unused : map_rule.are_unused l c ≡ true) where
      abbrev start : Context
      start = kid_start a x l k c

      free : FreeLocals l c
      free = free_locals l c unused

      done : (p : ExprOut) (d : Context) (high : BExpr) → ExprDone ps (bind x (One t.element) scope) (eval v) t.element start p d
          → len.code k ≡ Some high → MapDone ps scope a x v t.element l k c p d high
      done p d high kid_done code = record {
        good = good;
        scoped = scoped;
        owned = owned;
        array = array_is ps scope c a k t.element t.len scoped owned t.array;
        may = t.may;
        free_count = free.count;
        free_last = free.last;
        free_element = free.element;
        count_last = free.count_last;
        count_element = free.count_element;
        last_element = free.last_element;
        length_code = code;
        kid = kid_done;
      }

      begins_yields : Yields (λ _ d. d ≡ start) (map_rule.begins at a x l k c)
      begins_yields =
          yields_then (λ _ d. d ≡ start) c (λ u d. d ≡ without_clause a c) (map_rule.dropped at a)
          (λ _. map_rule.named_element at x l.element k)
          (yields_need (λ u d. d ≡ without_clause a c) c (is_some (own c a)) at 4 (λ _. map_rule.without a) (λ there. refl))
          (λ u d is. yields_element d is)
        where
          yields_element : (m : Context) → m ≡ without_clause a c
              → Yields (λ _ d. d ≡ start) (map_rule.named_element at x l.element k m)
          yields_element m is = by (has_symbol m) refl where
            by : (e : Bool) → has_symbol m ≡ e → Yields (λ _ d. d ≡ start) (map_rule.named_element at x l.element k m)
            by true e = rw e (ap (λ (z : Context). with_scalar (held x l.element (symbol (length z.tops)) (element_kind k))
                (with_top (element_top k.size) z)) is)
            by false e = rw e tt

      ends_yields : (d : Context) → Yields (λ u e. e ≡ with_clause a written (restored (standing c) d))
          (map_rule.ends at a (standing c) d)
      ends_yields d =
          let r : Context = restored (standing c) d in
          yields_then (λ u e. e ≡ with_clause a written r) d (λ u e. e ≡ r) (map_rule.returned (standing c))
          (λ _. map_rule.room at a >>= (λ _. counted_write a)) refl
          (λ u e e_is. subst (λ (z : Context). Yields (λ u g. g ≡ with_clause a written r)
          ((map_rule.room at a >>= (λ _. counted_write a)) z)) (sym e_is)
          (yields_then (λ u g. g ≡ with_clause a written r) r (λ u g. g ≡ r) (map_rule.room at a) (λ _. counted_write a)
          (room_kept at a r) (λ u g g_is. ap (with_clause a written) g_is)))

      after_kid : (p : ExprOut) (d : Context) → ExprDone ps (bind x (One t.element) scope) (eval v) t.element start p d
          → Yields Mapped (map_rule.after at a l k (standing c) p.code d)
      after_kid p d kid_done =
          yields_found Mapped d (len.code k) at 4
          (λ high. has_trips at k >>= (λ _. map_rule.ends at a (standing c) >>= (λ _. give (map_rule.mapping l k high p.code))))
          (λ high code. yields_need Mapped d (is_entry_form d.entries k.length) at 4
          (λ _. map_rule.ends at a (standing c) >>= (λ _. give (map_rule.mapping l k high p.code)))
          (λ entries. yields_then Mapped d (λ u e. e ≡ with_clause a written (restored (standing c) d))
          (map_rule.ends at a (standing c)) (λ _. give (map_rule.mapping l k high p.code)) (ends_yields d)
          (λ u e is. subst (λ (z : Context). Mapped (map_rule.mapping l k high p.code) z)
          (sym (is ∙ ap (with_clause a written)
          (returns ps scope a x v t.element l k c p d high (done p d high kid_done code) typed)))
          (map_done ps scope a x v t.element l k c p d high (done p d high kid_done code) typed))))

      from_kid : Yields Mapped ((map_rule.begins at a x l k >>= (λ _. kid >>= (λ p. map_rule.after at a l k (standing c) p.code)))
          c)
      from_kid =
          let array = array_is ps scope c a k t.element t.len scoped owned t.array in
          yields_then Mapped c (λ _ d. d ≡ start) (map_rule.begins at a x l k)
          (λ _. kid >>= (λ p. map_rule.after at a l k (standing c) p.code)) begins_yields
          (λ u d is. subst (λ (z : Context). Yields Mapped ((kid >>= (λ p. map_rule.after at a l k (standing c) p.code)) z))
          (sym is)
          (yields_then Mapped start (ExprDone ps (bind x (One t.element) scope) (eval v) t.element start) kid
          (λ p. map_rule.after at a l k (standing c) p.code)
          (sound start (start_good ps scope a x l k t.element c good scoped free.element)
          (start_scoped ps scope a x l k t.element c good scoped free.element t.may (kind_is t.element k array.size).0))
          after_kid))

    abbrev from_array : Clause → Rule StmtOut
    from_array k = now >>= (λ b. map_rule.begins at a x l k >>= (λ _. kid >>= (λ p. map_rule.after at a l k (standing b) p.code)))

    pub map_yields : Yields Mapped (map_rule.row at a x l kid c)
    map_yields =
        yields_then Mapped c ArrayThere (map_rule.array at a l) from_array array_yields
        (λ k d there. subst (λ (z : Context). Yields Mapped (from_array k z)) (sym there.is)
        (from_kid k there.owned there.unused))
