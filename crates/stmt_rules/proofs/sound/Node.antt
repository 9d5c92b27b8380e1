-- Whatever a node gives for a statement is right where its kids are sound.
use Rattle.std.proofs.Common.{◌≡◌, refl, sym, ◌∙◌, ap, subst, ℕ, ◌+◌, length, Bool, true, false, ◌&&◌, List, [], ◌∷◌, Option}
use Rattle.std.proofs.Common.{Some, None, is_some, Ok}
use Rattle.expr_rules.specs.rules.Get as get_rule
use Rattle.rup_base.specs.Name.{is_name}
use Rattle.rup_base.specs.declared.refusal.TypePlace.TheVariants.{Statement}
use Rattle.model_syntax.specs.declared.expr.Expr.{Expr}
use Rattle.model_syntax.specs.declared.expr.Scalar.{Scalar}
use Rattle.model_syntax.specs.declared.program.Param.{Param}
use Rattle.model_syntax.specs.declared.scope.NameType.{NameType}
use Rattle.model_syntax.specs.declared.scope.NameType.TheVariants.{Scalar as OneOf, Array as Many}
use Rattle.model_syntax.specs.declared.program.Len.{Len}
use Rattle.model_syntax.specs.declared.stmt.Stmt.{Stmt, Stmt-F, map-Stmt, out-Stmt}
use Rattle.model_syntax.specs.declared.stmt.Stmt.TheFolds.{fold_out-Stmt}
use Rattle.model_syntax.specs.declared.stmt.Stmt.TheOpen as s
use Rattle.model_syntax.specs.declared.expr.Scalar.TheVariants.{Word, Flag}
use Rattle.model_syntax.specs.ExprType.{type_of, wanted}
use Rattle.model_syntax.specs.Formed.{expr_formed, stmt_formed, stmt_formed_step}
use Rattle.model_syntax.specs.Limits.{next}
use Rattle.model_syntax.specs.Names.{Name}
use Rattle.model_syntax.specs.Scope.{Scope, look_up, bind, scalar_may_take, array_may_take, array_in, element_in}
use Rattle.model_syntax.specs.Environment.{Env}
use Rattle.model_syntax.specs.Sound.{IsTyped}
use Rattle.model_syntax.proofs.laws.Statements.{statements_sound}
use Rattle.model_syntax.specs.Spelling.{expr_spellable, stmt_spellable, stmt_spellable_step}
use Rattle.model_syntax.specs.Types as types
use Rattle.model_syntax.specs.Value.{Turn, run, run_step, eval}
use Rattle.model_syntax.proofs.laws.Answered.{first_answered, at_answered, answer_is}
use Rattle.model_syntax.proofs.laws.Expressions.{element_is, wanted_is}
use Rattle.sym_heap.specs.Context.{Context, own, can_move}
use Rattle.sym_heap.specs.Fits.{Known, IsConsistent}
use Rattle.sym_heap.specs.Scoped.{IsScoped}
use Rattle.deriv_tree.specs.declared.tree.Step.{Step}
use Rattle.expr_rules.specs.declared.output.ExprOut.{ExprOut}
use Rattle.expr_rules.specs.Sound.{Yields, IsSound, ExprDone}
use Rattle.expr_rules.specs.Words.{◌>>=◌, Rule, need, has_counts, Judged, are_none, sizes, give, one_kid, two_kids}
use Rattle.expr_rules.proofs.laws.Yields.{yields_then, yields_need}
use Rattle.stmt_rules.specs.declared.output.StmtOut.{StmtOut}
use Rattle.stmt_rules.specs.Row.{BlockJudged, fits, kind, binding, putting, moving, branching, looping, mapping, folding, parts}
use Rattle.stmt_rules.specs.Row.{stmt_row}
use Rattle.stmt_rules.specs.declared.loops.Counter.{Counter}
use Rattle.stmt_rules.specs.declared.loops.ElementLocals.{ElementLocals}
use Rattle.stmt_rules.specs.declared.loops.FoldLocals.{FoldLocals}
use Rattle.stmt_rules.specs.rules.Fold as fold_rule
use Rattle.stmt_rules.specs.rules.For as for_rule
use Rattle.stmt_rules.specs.rules.If as if_rule
use Rattle.stmt_rules.specs.rules.Let as let_rule
use Rattle.stmt_rules.specs.rules.Map as map_rule
use Rattle.stmt_rules.specs.rules.Move as move_rule
use Rattle.stmt_rules.specs.rules.Put as put_rule
use Rattle.stmt_rules.specs.Sound.{StmtDone, IsSoundFor, AreSound}
use Rattle.stmt_rules.specs.Words.{first_local}
use Rattle.stmt_rules.proofs.Sequence.{and_parts}
use Rattle.stmt_rules.proofs.sound.FoldRow.{map_locals, fold_locals, fold_yields}
use Rattle.stmt_rules.proofs.sound.FoldTyped.{FoldTyped, fold_typed, fold_formed, MapTyped, map_typed, map_formed}
use Rattle.stmt_rules.proofs.sound.MapRow.{map_yields}
use Rattle.stmt_rules.proofs.sound.ForRow.{counter_yields, for_yields}
use Rattle.stmt_rules.proofs.sound.ForTyped.{ForFormed, for_parts, ForTyped, for_typed}
use Rattle.stmt_rules.proofs.sound.If.{if_yields}
use Rattle.stmt_rules.proofs.sound.IfTyped.{IfTyped, if_typed, IfFormed, if_parts}
use Rattle.stmt_rules.proofs.sound.LetRow.{let_yields}
use Rattle.stmt_rules.proofs.sound.PutRow.{put_yields, move_yields}

abbrev pub SoundKids : List Judged → Type 0
SoundKids [] = Unit {0}
SoundKids (k ∷ ks) = ((m : ℕ) (b : Expr) → IsSound b (k.row m b)) × SoundKids ks

abbrev pub SoundBlocks : List BlockJudged → Type 0
SoundBlocks [] = Unit {0}
SoundBlocks (b ∷ bs) = ((m owner cond : ℕ) (ts : List Stmt) → AreSound ts (b.row m owner cond ts)) × SoundBlocks bs

abbrev typed_by : Stmt-F Stmt → types.Block
typed_by y = types.stmt_step (map-Stmt Stmt types.Block types.stmt y)

abbrev turned_by : Stmt-F Stmt → Turn
turned_by y = run_step (map-Stmt Stmt Turn run y)

module _ (step : Step) (at : ℕ) (ps : List Param) (scope : Scope) (k : ℕ) (c : Context) (good_context : IsConsistent c)
    (scoped : IsScoped ps scope c) where
  let_typed : (x : Name) (a : Expr) (after : types.State) → typed_by (s.Let x a) (k, scope) ≡ Ok after
      → (t : Scalar) × (scalar_may_take (look_up scope x) ≡ Ok tt) × (type_of a scope ≡ Ok t)
      × ((next k, bind x (OneOf t) scope) ≡ after)
  let_typed x a after is =
      let one = at_answered (Statement k) _ after is in
      let may = first_answered (scalar_may_take (look_up scope x)) _ after one in
      let type = first_answered (type_of a scope) _ after may.1.1 in
      (type.0, may.1.0, type.1.0, answer_is (next k, bind x (OneOf type.0) scope) after type.1.1)

  -- names keep values of their types
  abbrev Kept : Scope → Turn → Type 0
  Kept end_scope sem = (lengths : Name → ℕ) (env : Env) → IsTyped lengths scope env → IsTyped lengths end_scope (sem env)

  -- what typing says of a put
  record PutTyped (a : Name) (i v : Expr) (after : types.State) : Type 0 where
    element : Scalar
    len : Len
    array : look_up scope a ≡ Some (Many element len)
    index : type_of i scope ≡ Ok Word
    value : type_of v scope ≡ Ok element
    is : (next k, scope) ≡ after

  put_typed : (a : Name) (i v : Expr) (after : types.State) → typed_by (s.Put a i v) (k, scope) ≡ Ok after → PutTyped a i v after
  put_typed a i v after is =
      let one = at_answered (Statement k) _ after is in
      let array = first_answered (element_in (look_up scope a)) _ after one in
      let index = first_answered (wanted Word (type_of i scope)) _ after array.1.1 in
      let value = first_answered (wanted array.0 (type_of v scope)) _ after index.1.1 in
      let named = element_is (look_up scope a) array.0 array.1.0 in
      record {
        element = array.0;
        len = named.0;
        array = named.1;
        index = (wanted_is Word (type_of i scope) index.0 index.1.0).0;
        value = (wanted_is array.0 (type_of v scope) value.0 value.1.0).0;
        is = answer_is (next k, scope) after value.1.1;
      }

  not_named : (o : Option NameType) → array_may_take o ≡ Ok tt → o ≡ None
  not_named None is = refl
  not_named (Some t) is = absurd (cc)

  -- the same of a move
  record MoveTyped (b a : Name) (i v : Expr) (after : types.State) : Type 0 where
    element : Scalar
    len : Len
    array : look_up scope a ≡ Some (Many element len)
    free : look_up scope b ≡ None
    index : type_of i scope ≡ Ok Word
    value : type_of v scope ≡ Ok element
    is : (next k, bind b (Many element len) scope) ≡ after

  move_typed : (b a : Name) (i v : Expr) (after : types.State) → typed_by (s.Move b a i v) (k, scope) ≡ Ok after
      → MoveTyped b a i v after
  move_typed b a i v after is =
      let one = at_answered (Statement k) _ after is in
      let free = first_answered (array_may_take (look_up scope b)) _ after one in
      let array = first_answered (element_in (look_up scope a)) _ after free.1.1 in
      let index = first_answered (wanted Word (type_of i scope)) _ after array.1.1 in
      let value = first_answered (wanted array.0 (type_of v scope)) _ after index.1.1 in
      let named = element_is (look_up scope a) array.0 array.1.0 in
      let shape = first_answered (array_in (look_up scope a)) _ after value.1.1 in
      let same_shape : Many array.0 named.0
      ≡ shape.0 = answer_is (Many array.0 named.0) shape.0 (ap array_in (sym named.1) ∙ shape.1.0) in
      record {
        element = array.0;
        len = named.0;
        array = named.1;
        free = not_named (look_up scope b) free.1.0;
        index = (wanted_is Word (type_of i scope) index.0 index.1.0).0;
        value = (wanted_is array.0 (type_of v scope) value.0 value.1.0).0;
        is = ap (λ (t : NameType). (next k, bind b t scope)) same_shape
            ∙ answer_is (next k, bind b shape.0 scope) after shape.1.1;
      }

  parts_sound : (kids : List Judged) (blocks : List BlockJudged) → SoundKids kids → SoundBlocks blocks
      → (y : Stmt-F Stmt) (after : types.State) → stmt_formed_step (map-Stmt Stmt Bool stmt_formed y) ≡ true
      → stmt_spellable_step (map-Stmt Stmt Bool stmt_spellable y) ≡ true → typed_by y (k, scope) ≡ Ok after
      → Kept after.1 (turned_by y) → Yields (StmtDone ps scope after.1 (turned_by y) c) (parts step kids blocks at y c)
  parts_sound kids blocks sound whole (s.Let x a) after formed spelled typed kept =
      yields_need Q c (are_none blocks) at 1 (λ _. binding step kids at x a) (λ none. counts (has_counts step 1 0) refl) where
        Q : StmtOut → Context → Type 0
        Q = StmtDone ps scope after.1 (turned_by (s.Let x a)) c

        all : (t : Scalar) × (scalar_may_take (look_up scope x) ≡ Ok tt) × (type_of a scope ≡ Ok t)
            × ((next k, bind x (OneOf t) scope) ≡ after)
        all = let_typed x a after typed

        with_local : (js : List Judged) → SoundKids js → (o : Option ℕ) → first_local step.args ≡ o → has_counts step 1 0 ≡ true
            → Yields (StmtDone ps scope after.1 (turned_by (s.Let x a)) c) (binding step js at x a c)
        with_local js good None e h = rw (h, e) tt
        with_local [] good (Some l) e h = rw (h, e) tt
        with_local (j ∷ []) good (Some l) e h = rw (h, e)
            (subst (λ (z : types.State). Yields (StmtDone ps scope z.1 (turned_by (s.Let x a)) c)
            ((one_kid (j ∷ []) at a >>= (λ p. kind at a >>= (λ u. let_rule.after at x l u p))) c)) all.3
            (let_yields ps scope all.0 c x a scoped all.1 all.2
            (subst (λ (z : types.State). Kept z.1 (turned_by (s.Let x a))) (sym all.3) kept) at good_context
            (and_parts (is_name x) (expr_formed a) formed).1 spelled l j good.0))
        with_local (j ∷ i ∷ js) good (Some l) e h = rw (h, e) tt

        counts : (b : Bool) → has_counts step 1 0 ≡ b
            → Yields (StmtDone ps scope after.1 (turned_by (s.Let x a)) c) (binding step kids at x a c)
        counts true e = with_local kids sound (first_local step.args) refl e
        counts false e = rw e tt
  parts_sound kids blocks sound whole (s.Put a i v) after formed spelled typed kept =
      yields_need Q c (are_none blocks) at 1 (λ _. putting step kids at a i v)
      (λ none. yields_need Q c (has_counts step 0 1) at 2
      (λ _. get_rule.before at a >>= (λ _. two_kids kids at i v >>= (λ pq. put_rule.after step.certs at a pq.0 pq.1)))
      (λ counts. yields_need Q c (is_some (own c a)) at 4
      (λ _. two_kids kids at i v >>= (λ pq. put_rule.after step.certs at a pq.0 pq.1))
      (λ there. with_kids kids sound)))
    where
      Q : StmtOut → Context → Type 0
      Q = StmtDone ps scope after.1 (turned_by (s.Put a i v)) c

      all : PutTyped a i v after
      all = put_typed a i v after typed

      formed_both : (expr_formed i ≡ true) × (expr_formed v ≡ true)
      formed_both = and_parts (expr_formed i) (expr_formed v) (and_parts (is_name a) (expr_formed i && expr_formed v) formed).1

      spelled_both : (expr_spellable i ≡ true) × (expr_spellable v ≡ true)
      spelled_both = and_parts (expr_spellable i) (expr_spellable v) spelled

      with_kids : (js : List Judged) → SoundKids js
          → Yields Q ((two_kids js at i v >>= (λ pq. put_rule.after step.certs at a pq.0 pq.1)) c)
      with_kids [] good = tt
      with_kids (j ∷ []) good = tt
      with_kids (j ∷ l ∷ []) good =
          subst (λ (z : types.State). Yields (StmtDone ps scope z.1 (turned_by (s.Put a i v)) c)
          ((two_kids (j ∷ l ∷ []) at i v >>= (λ pq. put_rule.after step.certs at a pq.0 pq.1)) c)) all.is
          (put_yields ps scope all.element all.len c a i v all.array step.certs at good_context scoped formed_both.0
          spelled_both.0 all.index formed_both.1 spelled_both.1 all.value j l good.0 good.1.0
          (subst (λ (z : types.State). Kept z.1 (turned_by (s.Put a i v))) (sym all.is) kept))
      with_kids (j ∷ l ∷ m ∷ ms) good = tt
  parts_sound kids blocks sound whole (s.Move b a i v) after formed spelled typed kept =
      yields_need Q c (are_none blocks) at 1 (λ _. moving step kids at b a i v)
      (λ none. yields_need Q c (has_counts step 0 1) at 2 (λ _. move_rule.before at a b >>= rest)
      (λ counts. yields_then Q c (λ u d. d ≡ c) (move_rule.before at a b) rest before
      (λ u d same_one. subst (λ (e : Context). Yields Q (rest u e)) (sym same_one) (with_kids kids sound))))
    where
      Q : StmtOut → Context → Type 0
      Q = StmtDone ps scope after.1 (turned_by (s.Move b a i v)) c

      rest : Unit {0} → Rule StmtOut
      rest u = two_kids kids at i v >>= (λ pq. move_rule.after step.certs at a b pq.0 pq.1)

      before : Yields (λ u d. d ≡ c) (move_rule.before at a b c)
      before =
          yields_need (λ u d. d ≡ c) c (is_some (own c a)) at 4 (λ _. move_rule.may_take at a b)
          (λ there. by (can_move c a b))
        where
          by : (e : Bool) → Yields (λ u d. d ≡ c) (need e at 5 c)
          by true = refl
          by false = tt

      all : MoveTyped b a i v after
      all = move_typed b a i v after typed

      formed_both : (expr_formed i ≡ true) × (expr_formed v ≡ true)
      formed_both = and_parts (expr_formed i) (expr_formed v)
          (and_parts (is_name a) (expr_formed i && expr_formed v)
          (and_parts (is_name b) (is_name a && (expr_formed i && expr_formed v)) formed).1).1

      spelled_both : (expr_spellable i ≡ true) × (expr_spellable v ≡ true)
      spelled_both = and_parts (expr_spellable i) (expr_spellable v) spelled

      with_kids : (js : List Judged) → SoundKids js
          → Yields Q ((two_kids js at i v >>= (λ pq. move_rule.after step.certs at a b pq.0 pq.1)) c)
      with_kids [] good = tt
      with_kids (j ∷ []) good = tt
      with_kids (j ∷ l ∷ []) good =
          subst (λ (z : types.State). Yields (StmtDone ps scope z.1 (turned_by (s.Move b a i v)) c)
          ((two_kids (j ∷ l ∷ []) at i v >>= (λ pq. move_rule.after step.certs at a b pq.0 pq.1)) c)) all.is
          (move_yields ps scope all.element all.len c a i v all.array step.certs at good_context scoped formed_both.0
          spelled_both.0 all.index formed_both.1 spelled_both.1 all.value j l good.0 good.1.0 b all.free
          (subst (λ (z : types.State). Kept z.1 (turned_by (s.Move b a i v))) (sym all.is) kept))
      with_kids (j ∷ l ∷ m ∷ ms) good = tt
  parts_sound kids blocks sound whole (s.If test names keep first second) after formed spelled typed kept =
      with_blocks blocks whole where
        Q : StmtOut → Context → Type 0
        Q = StmtDone ps scope after.1 (turned_by (s.If test names keep first second)) c

        all : IfTyped test names keep first second k scope after
        all = if_typed test names keep first second k scope after typed

        formed_parts : IfFormed test names keep first second
        formed_parts = if_parts test names keep first second formed spelled

        rest : BlockJudged → BlockJudged → ExprOut → Rule StmtOut
        rest b d p = if_rule.after at names keep step.certs p (b.row (at + 1 + sizes kids) at 4 first)
            (d.row (at + 1 + sizes kids + b.size) at 5 second)

        with_test : (b d : BlockJudged) → SoundBlocks (b ∷ d ∷ []) → (p : ExprOut) (mid : Context)
            → ExprDone ps scope (eval test) Flag c p mid → Yields Q (rest b d p mid)
        with_test b d good p mid kid =
            subst (λ (z : types.State). Yields (StmtDone ps scope z.1 (turned_by (s.If test names keep first second)) c)
            (rest b d p mid)) all.is
            (if_yields ps scope k after c mid test p names keep first second at step.certs
            (b.row (at + 1 + sizes kids) at 4 first)
            (d.row (at + 1 + sizes kids + b.size) at 5 second)
            kid formed_parts all (good.0 (at + 1 + sizes kids) at 4 first) (good.1.0 (at + 1 + sizes kids + b.size) at 5 second)
            (subst (λ (z : types.State). Kept z.1 (turned_by (s.If test names keep first second))) (sym all.is) kept))

        with_kid : (b d : BlockJudged) → SoundBlocks (b ∷ d ∷ []) → (js : List Judged) → SoundKids js
            → Yields Q ((one_kid js at test >>= rest b d) c)
        with_kid b d good [] sounds = tt
        with_kid b d good (j ∷ []) sounds =
            yields_then Q c (ExprDone ps scope (eval test) Flag c) (j.row (at + 1) test) (rest b d)
            (sounds.0 (at + 1) test ps scope Flag c good_context scoped formed_parts.test_formed formed_parts.test_spelled
            all.flag)
            (with_test b d good)
        with_kid b d good (j ∷ i ∷ js) sounds = tt

        with_blocks : (bs : List BlockJudged) → SoundBlocks bs
            → Yields Q (branching step kids bs at test names keep first second c)
        with_blocks [] good = tt
        with_blocks (b ∷ []) good = tt
        with_blocks (b ∷ d ∷ []) good =
            yields_need Q c (has_counts step 0 (length keep + length keep)) at 2 (λ _. one_kid kids at test >>= rest b d)
            (λ counts. with_kid b d good kids sound)
        with_blocks (b ∷ d ∷ e ∷ es) good = tt
  parts_sound kids blocks sound whole (s.For x low high names keep body) after formed spelled typed kept =
      with_blocks blocks whole where
        Q : StmtOut → Context → Type 0
        Q = StmtDone ps scope after.1 (turned_by (s.For x low high names keep body)) c

        all : ForTyped x low high names body k scope after
        all = for_typed x low high names keep body k scope after typed

        formed_parts : ForFormed low high body
        formed_parts = for_parts x low high names keep body formed spelled

        rest : BlockJudged → Counter → ExprOut × ExprOut → Rule StmtOut
        rest b n pq = for_rule.after at x names keep step.certs n pq.0 pq.1 (b.row (at + 1 + sizes kids) at 5 body)

        -- both bounds, one after the other
        Pair : ExprOut × ExprOut → Context → Type 0
        Pair pq d = (mid : Context) × (ExprDone ps scope (eval low) Word c pq.0 mid
            × ExprDone ps scope (eval high) Word mid pq.1 d)

        with_bounds : (b : BlockJudged) → SoundBlocks (b ∷ []) → (n : Counter) → Known c.entries n.trips
            → (pq : ExprOut × ExprOut) (d : Context) → Pair pq d → Yields Q (rest b n pq d)
        with_bounds b good n known pq d bounds =
            subst (λ (z : types.State). Yields (StmtDone ps scope z.1 (turned_by (s.For x low high names keep body)) c)
            (rest b n pq d)) all.is
            (for_yields ps scope k after x low high names keep body at step.certs n (b.row (at + 1 + sizes kids) at 5 body)
            formed_parts all (good.0 (at + 1 + sizes kids) at 5 body)
            (subst (λ (z : types.State). Kept z.1 (turned_by (s.For x low high names keep body))) (sym all.is) kept) c bounds.0 d
            pq.0
            pq.1 bounds.1.0 bounds.1.1
            (subst (λ (e : ℕ). Known e n.trips) (sym (bounds.1.1.extends.entries ∙ bounds.1.0.extends.entries)) known))

        second : Judged → Judged → ExprOut → Rule (ExprOut × ExprOut)
        second j l p = l.row (at + 1 + j.size) high >>= (λ q. give (p, q))

        with_kids : (b : BlockJudged) → SoundBlocks (b ∷ []) → (n : Counter) → Known c.entries n.trips → (js : List Judged)
            → SoundKids js → Yields Q ((two_kids js at low high >>= rest b n) c)
        with_kids b good n known [] sounds = tt
        with_kids b good n known (j ∷ []) sounds = tt
        with_kids b good n known (j ∷ l ∷ []) sounds =
            yields_then Q c Pair (two_kids (j ∷ l ∷ []) at low high) (rest b n)
            (yields_then Pair c (ExprDone ps scope (eval low) Word c) (j.row (at + 1) low) (second j l)
            (sounds.0 (at + 1) low ps scope Word c good_context scoped formed_parts.low_formed formed_parts.low_spelled
            all.low_typed)
            (λ p mid one. yields_then Pair mid (ExprDone ps scope (eval high) Word mid) (l.row (at + 1 + j.size) high)
            (λ q. give (p, q))
            (sounds.1.0 (at + 1 + j.size) high ps scope Word mid one.consistent one.scoped formed_parts.high_formed
            formed_parts.high_spelled all.high_typed)
            (λ q d two. (mid, (one, two)))))
            (with_bounds b good n known)
        with_kids b good n known (j ∷ l ∷ m ∷ ms) sounds = tt

        with_counter : (b : BlockJudged) → SoundBlocks (b ∷ [])
            → Yields Q ((for_rule.counter at step.args >>= (λ n. two_kids kids at low high >>= rest b n)) c)
        with_counter b good =
            yields_then Q c (λ n d. (d ≡ c) × Known c.entries n.trips) (for_rule.counter at step.args)
            (λ n. two_kids kids at low high >>= rest b n) (counter_yields at step.args c)
            (λ n d is. subst (λ (z : Context). Yields Q ((two_kids kids at low high >>= rest b n) z)) (sym is.0)
            (with_kids b good n is.1 kids sound))

        with_blocks : (bs : List BlockJudged) → SoundBlocks bs → Yields Q (looping step kids bs at x low high names keep body c)
        with_blocks [] good = tt
        with_blocks (b ∷ []) good =
            yields_need Q c (for_rule.counts step (length keep)) at 2
            (λ _. for_rule.counter at step.args >>= (λ n. two_kids kids at low high >>= rest b n)) (λ counts. with_counter b good)
        with_blocks (b ∷ d ∷ bs) good = tt
  parts_sound kids blocks sound whole (s.Map a x v) after formed spelled typed kept =
      yields_need Q c (are_none blocks) at 1 (λ _. mapping step kids at a x v)
      (λ none. yields_need Q c (has_counts step 3 0) at 2 (λ _. map_rule.locals at step.args >>= from_locals)
      (λ counts. yields_then Q c (λ l d. d ≡ c) (map_rule.locals at step.args) from_locals (map_locals at step.args c)
      (λ l d is. subst (λ (z : Context). Yields Q (from_locals l z)) (sym is) (from_there l))))
    where
      Q : StmtOut → Context → Type 0
      Q = StmtDone ps scope after.1 (turned_by (s.Map a x v)) c

      all : MapTyped a x v k scope after
      all = map_typed a x v k scope after typed

      from_locals : ElementLocals → Rule StmtOut
      from_locals l = map_rule.row at a x l (one_kid kids at v)

      kid_sound : (js : List Judged) → SoundKids js → (d : Context) → IsConsistent d
          → IsScoped ps (bind x (OneOf all.element) scope) d
          → Yields (ExprDone ps (bind x (OneOf all.element) scope) (eval v) all.element d) (one_kid js at v d)
      kid_sound [] sounds d good d_scoped = tt
      kid_sound (j ∷ []) sounds d good d_scoped =
          sounds.0 (at + 1) v ps (bind x (OneOf all.element) scope) all.element d good d_scoped (map_formed a x v formed) spelled
          all.value
      kid_sound (j ∷ i ∷ js) sounds d good d_scoped = tt

      from_there : (l : ElementLocals) → Yields Q (from_locals l c)
      from_there l =
          subst (λ (z : types.State). Yields (StmtDone ps scope z.1 (turned_by (s.Map a x v)) c) (from_locals l c)) all.is
          (map_yields ps scope k after a x v at l (one_kid kids at v) all (kid_sound kids sound) c good_context scoped
          (subst (λ (z : types.State). Kept z.1 (turned_by (s.Map a x v))) (sym all.is) kept))
  parts_sound kids blocks sound whole (s.Fold t a x v) after formed spelled typed kept =
      yields_need Q c (are_none blocks) at 1 (λ _. folding step kids at t a x v)
      (λ none. yields_need Q c (has_counts step 4 0) at 2 (λ _. fold_rule.locals at step.args >>= from_locals)
      (λ counts. yields_then Q c (λ l d. d ≡ c) (fold_rule.locals at step.args) from_locals (fold_locals at step.args c)
      (λ l d is. subst (λ (z : Context). Yields Q (from_locals l z)) (sym is) (from_there l))))
    where
      Q : StmtOut → Context → Type 0
      Q = StmtDone ps scope after.1 (turned_by (s.Fold t a x v)) c

      all : FoldTyped t a x v k scope after
      all = fold_typed t a x v k scope after typed

      from_locals : FoldLocals → Rule StmtOut
      from_locals l = fold_rule.row at t a x l (one_kid kids at v)

      kid_sound : (js : List Judged) → SoundKids js → (d : Context) → IsConsistent d
          → IsScoped ps (bind x (OneOf all.element) scope) d
          → Yields (ExprDone ps (bind x (OneOf all.element) scope) (eval v) all.kind d) (one_kid js at v d)
      kid_sound [] sounds d good d_scoped = tt
      kid_sound (j ∷ []) sounds d good d_scoped =
          sounds.0 (at + 1) v ps (bind x (OneOf all.element) scope) all.kind d good d_scoped (fold_formed t a x v formed) spelled
          all.value
      kid_sound (j ∷ i ∷ js) sounds d good d_scoped = tt

      from_there : (l : FoldLocals) → Yields Q (from_locals l c)
      from_there l =
          subst (λ (z : types.State). Yields (StmtDone ps scope z.1 (turned_by (s.Fold t a x v)) c) (from_locals l c)) all.is
          (fold_yields ps scope k after t a x v at l (one_kid kids at v) all (kid_sound kids sound) c good_context scoped
          (subst (λ (z : types.State). Kept z.1 (turned_by (s.Fold t a x v))) (sym all.is) kept))

pub row_sound : (step : Step) (kids : List Judged) (blocks : List BlockJudged) → SoundKids kids → SoundBlocks blocks
    → (at : ℕ) (t : Stmt) → IsSoundFor t (stmt_row step kids blocks at t)
row_sound step kids blocks sound whole at t ps scope k after c good_context scoped formed spelled typed =
    by (fits step.rule (out-Stmt t)) refl where
      typed_out : typed_by (out-Stmt t) (k, scope) ≡ Ok after
      typed_out = ap (λ (f : types.Block). f (k, scope)) (sym (fold_out-Stmt types.Block types.stmt_step t)) ∙ typed

      kept_out : (lengths : Name → ℕ) (env : Env) → IsTyped lengths scope env
          → IsTyped lengths after.1 (turned_by (out-Stmt t) env)
      kept_out lengths env is =
          subst (λ (f : Turn). IsTyped lengths after.1 (f env)) (fold_out-Stmt Turn run_step t)
          (statements_sound lengths t formed spelled k scope after env typed is)

      by : (b : Bool) → fits step.rule (out-Stmt t) ≡ b
          → Yields (StmtDone ps scope after.1 (run t) c) (stmt_row step kids blocks at t c)
      by false e = rw e tt
      by true e = rw e (subst (λ (f : Turn). Yields (StmtDone ps scope after.1 f c) (parts step kids blocks at (out-Stmt t) c))
          (sym (fold_out-Stmt Turn run_step t))
          (parts_sound step at ps scope k c good_context scoped kids blocks sound whole (out-Stmt t) after
          (sym (fold_out-Stmt Bool stmt_formed_step t) ∙ formed) (sym (fold_out-Stmt Bool stmt_spellable_step t) ∙ spelled)
          typed_out kept_out))
