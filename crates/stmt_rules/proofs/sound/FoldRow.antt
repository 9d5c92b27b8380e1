-- What s-fold gives is right, from its kid on.
use Rattle.std.proofs.Common.{◌≡◌, ◌≢◌, refl, sym, ◌∙◌, ap, subst, arith, ℕ, Bool, true, false, not, ◌&&◌, nat_eq, ℤ, List}
use Rattle.std.proofs.Common.{length, Some, None}
use Rattle.std.proofs.lemmas.Bool.Decides.{nat_tests}
use Rattle.side_certs.specs.LinearForm.{symbol}
use Rattle.model_syntax.specs.declared.expr.Expr.{Expr}
use Rattle.model_syntax.specs.declared.expr.Scalar.{Scalar}
use Rattle.model_syntax.specs.declared.program.Param.{Param}
use Rattle.model_syntax.specs.declared.scope.NameType.TheVariants.{Scalar as One}
use Rattle.model_syntax.specs.Environment.{Env}
use Rattle.model_syntax.specs.Names.{Name}
use Rattle.model_syntax.specs.Scope.{Scope, bind}
use Rattle.model_syntax.specs.Sound.{IsTyped}
use Rattle.model_syntax.specs.Types as types
use Rattle.model_syntax.specs.Value.{eval, array_folded}
use Rattle.sym_heap.specs.declared.parts.Held.{Held}
use Rattle.sym_heap.specs.declared.parts.Clause.{Clause}
use Rattle.sym_heap.specs.Context.{Context, scalar, own, is_free, has_symbol, held, with_top, with_scalar}
use Rattle.sym_heap.specs.Elements.{element_top}
use Rattle.sym_heap.specs.Ends.{standing, restored}
use Rattle.sym_heap.specs.Fits.{IsConsistent}
use Rattle.sym_heap.specs.Scoped.{IsScoped}
use Rattle.bed_syntax.specs.declared.expression.BExpr.{BExpr}
use Rattle.expr_rules.specs.declared.output.ExprOut.{ExprOut}
use Rattle.expr_rules.specs.Sound.{ExprDone, Yields}
use Rattle.expr_rules.specs.Words.{Rule, ◌>>=◌, need, found, give}
use Rattle.expr_rules.specs.rules.Len as len
use Rattle.expr_rules.proofs.laws.Yields.{yields_then, yields_need, yields_found}
use Rattle.stmt_rules.specs.declared.loops.ElementLocals.{ElementLocals}
use Rattle.stmt_rules.specs.declared.loops.FoldLocals.{FoldLocals}
use Rattle.stmt_rules.specs.declared.output.StmtOut.{StmtOut}
use Rattle.stmt_rules.specs.Loops.{local_arg, is_entry_form, has_trips, is_unused, element_kind}
use Rattle.stmt_rules.specs.Nesting.{now}
use Rattle.stmt_rules.specs.Sound.{StmtDone}
use Rattle.stmt_rules.specs.rules.Fold as fold_rule
use Rattle.stmt_rules.specs.rules.Map as map_rule
use Rattle.stmt_rules.proofs.Sequence.{and_parts}
use Rattle.stmt_rules.proofs.sound.Around.{type_of_scalar, array_is}
use Rattle.stmt_rules.proofs.sound.Fold.{summed, kid_start, FoldDone, start_good, start_scoped, returns, fold_done}
use Rattle.stmt_rules.proofs.sound.FoldTyped.{FoldTyped}
use Rattle.stmt_rules.proofs.sound.Lengths.{kind_is}

apart_of : (a b : ℕ) → not (nat_eq a b) ≡ true → a ≢ b
apart_of a b differ same_one = absurd (grind (arith, nat_tests, same_one, differ))

-- the locals of a turn are free and differ
pub record FreeLocals (l : ElementLocals) (c : Context) : Type 0 where
  pub count : is_free c l.count None ≡ true
  pub last : is_free c l.last None ≡ true
  pub element : is_free c l.element None ≡ true
  pub count_last : l.count ≢ l.last
  pub count_element : l.count ≢ l.element
  pub last_element : l.last ≢ l.element

pub free_locals : (l : ElementLocals) (c : Context) → map_rule.are_unused l c ≡ true → FreeLocals l c
free_locals l c is =
    let one = and_parts (is_unused c l.count) (is_unused c l.last && (is_unused c l.element && map_rule.differ l)) is in
    let two = and_parts (is_unused c l.last) (is_unused c l.element && map_rule.differ l) one.1 in
    let three = and_parts (is_unused c l.element) (map_rule.differ l) two.1 in
    let four = and_parts (not (nat_eq l.count l.last)) (not (nat_eq l.count l.element) && not (nat_eq l.last l.element)) three.1
    in
    let five = and_parts (not (nat_eq l.count l.element)) (not (nat_eq l.last l.element)) four.1 in
    record {
      count = one.0;
      last = two.0;
      element = three.0;
      count_last = apart_of l.count l.last four.0;
      count_element = apart_of l.count l.element five.0;
      last_element = apart_of l.last l.element five.1;
    }

-- the arguments leave the context as it is
pub map_locals : (at : ℕ) (args : List ℤ) (c : Context) → Yields (λ (l : ElementLocals) d. d ≡ c) (map_rule.locals at args c)
map_locals at args c =
    yields_found Q c (local_arg 0 args) at 3
    (λ li. found (local_arg 1 args) at 3
    >>= (λ lh. found (local_arg 2 args) at 3 >>= (λ lx. give (record { count = li; last = lh; element = lx }))))
    (λ li one. yields_found Q c (local_arg 1 args) at 3
    (λ lh. found (local_arg 2 args) at 3 >>= (λ lx. give (record { count = li; last = lh; element = lx })))
    (λ lh two. yields_found Q c (local_arg 2 args) at 3 (λ lx. give (record { count = li; last = lh; element = lx }))
    (λ lx three. refl)))
  where
    Q : ElementLocals → Context → Type 0
    Q l d = d ≡ c

pub fold_locals : (at : ℕ) (args : List ℤ) (c : Context) → Yields (λ (l : FoldLocals) d. d ≡ c) (fold_rule.locals at args c)
fold_locals at args c =
    yields_then Q c (λ l d. d ≡ c) (map_rule.locals at args)
    (λ l. found (local_arg 3 args) at 3 >>= (λ ls. give (record { turn = l; so_far = ls }))) (map_locals at args c)
    (λ l d is. yields_found Q d (local_arg 3 args) at 3 (λ ls. give (record { turn = l; so_far = ls })) (λ ls four. is))
  where
    Q : FoldLocals → Context → Type 0
    Q l d = d ≡ c

module _ (ps : List Param) (scope : Scope) (j : ℕ) (state : types.State) (s a x : Name) (v : Expr) (at : ℕ) (l : FoldLocals)
    (kid : Rule ExprOut) (t : FoldTyped s a x v j scope state)
    (sound : (d : Context) → IsConsistent d → IsScoped ps (bind x (One t.element) scope) d
    → Yields (ExprDone ps (bind x (One t.element) scope) (eval v) t.kind d) (kid d))
    (c : Context) (good : IsConsistent c) (scoped : IsScoped ps scope c)
    (typed : (lengths : Name → ℕ) (env : Env) → IsTyped lengths scope env → IsTyped lengths scope (array_folded s a x v env))
  where
    abbrev pub Folded : StmtOut → Context → Type 0
    Folded = StmtDone ps scope scope (array_folded s a x v) c

    -- the array, and that the locals are free
    record ArrayThere (k : Clause) (d : Context) : Type 0 where
      is : d ≡ c
      owned : own c a ≡ Some k
      unused : fold_rule.are_unused s l c ≡ true

    array_yields : Yields ArrayThere (fold_rule.array at s a l c)
    array_yields =
        yields_found ArrayThere c (own c a) at 4 (λ k. need (fold_rule.are_unused s l c) at 5 >>= (λ _. give k))
        (λ k owned. yields_need ArrayThere c (fold_rule.are_unused s l c) at 5 (λ _. give k)
        (λ unused. record { is = refl; owned = owned; unused = unused }))

    record ScalarThere (first : ℕ × Scalar) (d : Context) : Type 0 where
      held_there : Held
      is : d ≡ c
      sum : scalar c s ≡ Some held_there
      first_is : first ≡ (held_there.local, held_there.kind)

    start_yields : Yields ScalarThere (fold_rule.start at s c)
    start_yields = yields_found ScalarThere c (scalar c s) at 1 (λ h. give (h.local, h.kind))
        (λ h there. record { held_there = h; is = refl; sum = there; first_is = refl })

    module _ (k : Clause) (owned : own c a ≡ Some k) (unused : fold_rule.are_unused s l c ≡ true) (h : Held)
        (sum : scalar c s ≡ Some h) where
      abbrev start : Context
      start = kid_start s x l k h.kind c

      free : FreeLocals l.turn c
      free = free_locals l.turn c (and_parts (map_rule.are_unused l.turn c) (is_free c l.so_far (Some s) && fold_rule.differ l)
          unused).0

      free_sum : is_free c l.so_far (Some s) ≡ true
      free_sum = (and_parts (is_free c l.so_far (Some s)) (fold_rule.differ l)
          (and_parts (map_rule.are_unused l.turn c) (is_free c l.so_far (Some s) && fold_rule.differ l) unused).1).0

      differs : (l.turn.count ≢ l.so_far) × ((l.turn.last ≢ l.so_far) × (l.turn.element ≢ l.so_far))
      differs =
          let all = (and_parts (is_free c l.so_far (Some s)) (fold_rule.differ l)
          (and_parts (map_rule.are_unused l.turn c) (is_free c l.so_far (Some s) && fold_rule.differ l) unused).1).1 in
          let one = and_parts (not (nat_eq l.turn.count l.so_far))
          (not (nat_eq l.turn.last l.so_far) && not (nat_eq l.turn.element l.so_far)) all in
          let two = and_parts (not (nat_eq l.turn.last l.so_far)) (not (nat_eq l.turn.element l.so_far)) one.1 in
          (apart_of l.turn.count l.so_far one.0, (apart_of l.turn.last l.so_far two.0, apart_of l.turn.element l.so_far two.1))

      kind_there : h.kind ≡ t.kind
      kind_there =
          let both : Some (One h.kind) ≡ Some (One t.kind) = sym (type_of_scalar ps scope c scoped s h sum) ∙ t.sum in
          let one : One h.kind ≡ One t.kind = cc in
          cc

      done : (p : ExprOut) (d : Context) (high : BExpr) → ExprDone ps (bind x (One t.element) scope) (eval v) t.kind start p d
          → len.code k ≡ Some high → FoldDone ps scope s a x v t.kind t.element l h k c p d high
      done p d high kid_done code = record {
        good = good;
        scoped = scoped;
        sum = sum;
        kind = kind_there;
        owned = owned;
        array = array_is ps scope c a k t.element t.len scoped owned t.array;
        may = t.may;
        free_count = free.count;
        free_last = free.last;
        free_element = free.element;
        free_sum = free_sum;
        count_last = free.count_last;
        count_element = free.count_element;
        last_element = free.last_element;
        count_sum = differs.0;
        last_sum = differs.1.0;
        element_sum = differs.1.1;
        length_code = code;
        kid = kid_done;
      }

      begins_yields : Yields (λ _ d. d ≡ start) (fold_rule.begins at s x l k h.kind c)
      begins_yields =
          yields_then (λ _ d. d ≡ start) c (λ u d. d ≡ summed s l.so_far h.kind c) (fold_rule.renamed at s l h.kind)
          (λ _. map_rule.named_element at x l.turn.element k) (renamed (has_symbol c) refl)
          (λ u d is. yields_element d is)
        where
          renamed : (e : Bool) → has_symbol c ≡ e
              → Yields (λ (u : Unit {0}) d. d ≡ summed s l.so_far h.kind c) (fold_rule.renamed at s l h.kind c)
          renamed true e = rw e refl
          renamed false e = rw e tt

          yields_element : (m : Context) → m ≡ summed s l.so_far h.kind c
              → Yields (λ _ d. d ≡ start) (map_rule.named_element at x l.turn.element k m)
          yields_element m is = by (has_symbol m) refl where
            by : (e : Bool) → has_symbol m ≡ e → Yields (λ _ d. d ≡ start) (map_rule.named_element at x l.turn.element k m)
            by true e = rw e (ap (λ (z : Context). with_scalar (held x l.turn.element (symbol (length z.tops)) (element_kind k))
                (with_top (element_top k.size) z)) is)
            by false e = rw e tt

      after_kid : (p : ExprOut) (d : Context) → ExprDone ps (bind x (One t.element) scope) (eval v) t.kind start p d
          → Yields Folded (fold_rule.after at s l k (h.local, h.kind) (standing c) p.code d)
      after_kid p d kid_done =
          yields_found Folded d (len.code k) at 4
          (λ high. has_trips at k >>= (λ _. fold_rule.ends at s l h.kind (standing c)
          >>= (λ _. give (fold_rule.folding l k h.local high p.code))))
          (λ high code. yields_need Folded d (is_entry_form d.entries k.length) at 4
          (λ _. fold_rule.ends at s l h.kind (standing c) >>= (λ _. give (fold_rule.folding l k h.local high p.code)))
          (λ entries. by high code (has_symbol (restored (standing c) d)) refl))
        where
          by : (high : BExpr) → len.code k ≡ Some high → (e : Bool) → has_symbol (restored (standing c) d) ≡ e
              → Yields Folded ((fold_rule.ends at s l h.kind (standing c)
              >>= (λ _. give (fold_rule.folding l k h.local high p.code))) d)
          by high code false e = rw e tt
          by high code true e = rw e
              (subst (λ (z : Context). Folded (fold_rule.folding l k h.local high p.code) (summed s l.so_far h.kind z))
              (sym (returns ps scope s a x v t.kind t.element l h k c p d high (done p d high kid_done code) typed))
              (fold_done ps scope s a x v t.kind t.element l h k c p d high (done p d high kid_done code) typed))

      from_kid : Yields Folded ((fold_rule.begins at s x l k h.kind
          >>= (λ _. kid >>= (λ p. fold_rule.after at s l k (h.local, h.kind) (standing c) p.code))) c)
      from_kid =
          let array = array_is ps scope c a k t.element t.len scoped owned t.array in
          yields_then Folded c (λ _ d. d ≡ start) (fold_rule.begins at s x l k h.kind)
          (λ _. kid >>= (λ p. fold_rule.after at s l k (h.local, h.kind) (standing c) p.code)) begins_yields
          (λ u d is. subst (λ (z : Context).
          Yields Folded ((kid >>= (λ p. fold_rule.after at s l k (h.local, h.kind) (standing c) p.code)) z)) (sym is)
          (yields_then Folded start (ExprDone ps (bind x (One t.element) scope) (eval v) t.kind start) kid
          (λ p. fold_rule.after at s l k (h.local, h.kind) (standing c) p.code)
          (sound start (start_good ps scope s x l h k t.element c good scoped sum free_sum free.element differs.1.1)
          (start_scoped ps scope s x l h k t.element c good scoped sum free_sum free.element differs.1.1 t.may
          (kind_is t.element k array.size).0))
          after_kid))

    abbrev from_scalar : Clause → ℕ × Scalar → Rule StmtOut
    from_scalar k first = now >>= (λ b. fold_rule.begins at s x l k first.1
        >>= (λ _. kid >>= (λ p. fold_rule.after at s l k first (standing b) p.code)))

    abbrev from_array : Clause → Rule StmtOut
    from_array k = fold_rule.start at s >>= from_scalar k

    pub fold_yields : Yields Folded (fold_rule.row at s a x l kid c)
    fold_yields =
        yields_then Folded c ArrayThere (fold_rule.array at s a l) from_array array_yields
        (λ k d there. subst (λ (z : Context). Yields Folded (from_array k z)) (sym there.is)
        (yields_then Folded c ScalarThere (fold_rule.start at s) (from_scalar k) start_yields
        (λ first e begins. subst (λ (z : Context). Yields Folded (from_scalar k first z)) (sym begins.is)
        (subst (λ (q : ℕ × Scalar). Yields Folded (from_scalar k q c)) (sym begins.first_is)
        (from_kid k there.owned there.unused begins.held_there begins.sum)))))
