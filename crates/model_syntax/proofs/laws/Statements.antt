-- A well typed statement keeps the types of names: it takes an environment of the scope before it to one of the scope after.
use Rattle.std.proofs.Common.{◌≡◌, refl, sym, ◌∙◌, ap, subst, arith, ℕ, zero, suc, ◌+◌, ◌-◌, ◌≤◌, nat_eq, nat_le, Bool, true}
use Rattle.std.proofs.Common.{false, ◌&&◌, List, [], ◌∷◌, length, map, set, fold, Option, Some, None, Result, Ok, Err}
use Rattle.std.proofs.Common.{if◌then◌else◌}
use Rattle.std.specs.List.{range_with_len}
use Rattle.std.proofs.lemmas.Bool.{eqb-true, leb-true, le-leb}
use Rattle.std.proofs.lemmas.Bool.Decides.{nat_tests}
use Rattle.rup_base.specs.Gather.{all_true}
use Rattle.rup_base.specs.Name.{is_name}
use Rattle.rup_base.specs.declared.arg.Arg.{Arg}
use Rattle.rup_base.specs.declared.arg.Arg.TheVariants as arg
use Rattle.rup_base.specs.declared.refusal.Refusal.{Refusal}
use Rattle.rup_base.specs.declared.refusal.TypePlace.{TypePlace}
use Rattle.rup_base.specs.declared.refusal.TypePlace.TheVariants.{Statement}
use Rattle.rup_base.specs.declared.refusal.TypeWhy.{TypeWhy}
use Rattle.rup_base.specs.declared.refusal.TypeWhy.TheVariants as why
use Rattle.model_syntax.specs.Answer.{◌>>=◌}
use Rattle.model_syntax.specs.Environment.{Env, value_of, put, put_some, number, elements, with_element, with_each, carry}
use Rattle.model_syntax.specs.ExprType.{type_of, wanted}
use Rattle.model_syntax.specs.Formed.{expr_formed, names_formed, facts_formed, stmt_formed, stmt_formed_step}
use Rattle.model_syntax.specs.Kinds.{is_word}
use Rattle.model_syntax.specs.Limits.{next}
use Rattle.model_syntax.specs.Names.{Name, same}
use Rattle.model_syntax.specs.Scope.{Scope, look_up, bind, same_scalar, same_length, same_type, scalar_in, array_in, element_in}
use Rattle.model_syntax.specs.Scope.{scalar_may_take, array_may_take, agreed}
use Rattle.model_syntax.specs.Sound.{is_number, is_array, is_of_type, length_of, HasValue, IsTyped, StatementLaw}
use Rattle.model_syntax.specs.Spelling.{expr_spellable, stmt_spellable, stmt_spellable_step}
use Rattle.model_syntax.specs.Types as types
use Rattle.model_syntax.specs.Value as model
use Rattle.model_syntax.specs.Value.{Turn, eval}
use Rattle.model_syntax.specs.declared.expr.Expr.{Expr}
use Rattle.model_syntax.specs.declared.expr.Scalar.{Scalar}
use Rattle.model_syntax.specs.declared.expr.Scalar.TheVariants.{Word, Byte, Flag}
use Rattle.model_syntax.specs.declared.scope.NameType.{NameType}
use Rattle.model_syntax.specs.declared.scope.NameType.TheVariants.{Scalar as One, Array as Many}
use Rattle.model_syntax.specs.declared.stmt.Le.{Le}
use Rattle.model_syntax.specs.declared.stmt.Stmt.{Stmt, Stmt-F, ind-Stmt, map-Stmt, roll-Stmt, fold-roll-Stmt}
use Rattle.model_syntax.specs.declared.stmt.Stmt.TheOpen as s
use Rattle.model_syntax.specs.declared.program.Len.{Len}
use Rattle.model_syntax.specs.declared.program.Len.TheVariants.{Fixed, Named}
use Rattle.model_syntax.proofs.laws.Answered.{first_answered, at_answered, answer_is}
use Rattle.model_syntax.proofs.laws.Arrays.{and_parts, all_changed, array_parts, element_put, elements_mapped}
use Rattle.model_syntax.proofs.laws.Bindings.{same_is, value_here, value_else, up_here, up_else}
use Rattle.model_syntax.proofs.laws.Expressions.{scalar_is, element_is, wanted_is, scalar_value, array_value, expressions_sound}

-- Types that are the same.

pub some_is : {A : Type 0} (a b : A) → Some a ≡ Some b → a ≡ b
some_is a b is = cc

scalar_same : (t u : Scalar) → same_scalar t u ≡ true → t ≡ u
scalar_same Word Word is = refl
scalar_same Byte Byte is = refl
scalar_same Flag Flag is = refl
scalar_same Word Byte is = absurd (cc)
scalar_same Word Flag is = absurd (cc)
scalar_same Byte Word is = absurd (cc)
scalar_same Byte Flag is = absurd (cc)
scalar_same Flag Word is = absurd (cc)
scalar_same Flag Byte is = absurd (cc)

length_same : (k l : Len) → same_length k l ≡ true → k ≡ l
length_same (Fixed n) (Fixed m) is = ap Fixed (eqb-true n m is)
length_same (Named x) (Named y) is = ap Named (same_is x y is)
length_same (Fixed n) (Named y) is = absurd (cc)
length_same (Named x) (Fixed m) is = absurd (cc)

pub type_same : (t u : NameType) → same_type t u ≡ true → t ≡ u
type_same (One t) (One u) is = ap One (scalar_same t u is)
type_same (Many t k) (Many u l) is =
    let p = and_parts (same_scalar t u) (same_length k l) is in
    ap (λ (v : Scalar). Many v k) (scalar_same t u p.0) ∙ ap (λ (j : Len). Many u j) (length_same k l p.1)
type_same (One t) (Many u l) is = absurd (cc)
type_same (Many t k) (One u) is = absurd (cc)

both_types : (o p : Option NameType) (t : NameType) → agreed o p ≡ Ok t → (o ≡ Some t) × (p ≡ Some t)
both_types (Some t) (Some u) v is = by_test (same_type t u) refl is
  where
    by_test : (test : Bool) → same_type t u ≡ test → agreed (Some t) (Some u) ≡ Ok v → (Some t ≡ Some v) × (Some u ≡ Some v)
    by_test true e h =
        let here : t ≡ v = answer_is t v (let kept : (if true then Ok t else Err why.Uncarried) ≡ Ok v = rw e at h in kept) in
        (ap Some here, ap Some (sym (type_same t u e) ∙ here))
    by_test false e h = absurd (let bad : (if false then Ok t else Err why.Uncarried) ≡ Ok v = rw e at h in
        let worse : Err why.Uncarried ≡ Ok v = bad in cc)
both_types None None v is = absurd (cc)
both_types None (Some u) v is = absurd (cc)
both_types (Some t) None v is = absurd (cc)

pub array_of : (o : Option NameType) (t : NameType) → array_in o ≡ Ok t
    → (u : Scalar) × (k : Len) × ((t ≡ Many u k) × (o ≡ Some (Many u k)))
array_of None t found = absurd (cc)
array_of (Some (One u)) t found = absurd (cc)
array_of (Some (Many u k)) t found = (u, k, (sym (answer_is (Many u k) t found), refl))

-- The numbers of a loop are words where its end is one.
loop_numbers : (low n : ℕ) → low + n ≤ 4294967296 → all_true (map is_word (range_with_len low n)) ≡ true
loop_numbers low zero small = refl
loop_numbers low (suc n) small =
    let here : is_word low ≡ true = le-leb _ _ (omega (arith, small)) in
    let more = loop_numbers (low + 1) n (omega (arith, small)) in
    rw here more

module _ (numbers : Name → ℕ) where
  -- Bindings.

  as_found : (t u : NameType) (v : Arg) → Some u ≡ Some t → is_of_type numbers u v ≡ true → is_of_type numbers t v ≡ true
  as_found t u v found is = subst (λ (w : NameType). is_of_type numbers w v ≡ true) (some_is u t found) is

  here_value : (env : Env) (x y : Name) (v : Arg) (t : NameType) → same x y ≡ true → is_of_type numbers t v ≡ true
      → HasValue numbers (put x v env) y t
  here_value env x y v t is typed =
      record { value = v; held = ap (value_of (put x v env)) (sym (same_is x y is)) ∙ value_here x v env; typed = typed }

  else_value : (env : Env) (x y : Name) (v : Arg) (t : NameType) → same x y ≡ false → HasValue numbers env y t
      → HasValue numbers (put x v env) y t
  else_value env x y v t apart old = record { value = old.value; held = value_else x y v env apart ∙ old.held; typed = old.typed }

  -- a name is bound to a type, and gets a value of it
  pub bound_typed : (c : Scope) (env : Env) (x : Name) (u : NameType) (v : Arg) → is_of_type numbers u v ≡ true
      → IsTyped numbers c env → IsTyped numbers (bind x u c) (put x v env)
  bound_typed c env x u v is typed y t found = by (same x y) refl
    where
      by : (here : Bool) → same x y ≡ here → HasValue numbers (put x v env) y t
      by true here = here_value env x y v t here (as_found t u v (sym (up_here c x y u here) ∙ found) is)
      by false here = else_value env x y v t here (typed y t (sym (up_else c x y u here) ∙ found))

  -- a name in scope gets another value of its type
  put_typed : (c : Scope) (env : Env) (x : Name) (u : NameType) (v : Arg) → look_up c x ≡ Some u → is_of_type numbers u v ≡ true
      → IsTyped numbers c env → IsTyped numbers c (put x v env)
  put_typed c env x u v there is typed y t found = by (same x y) refl
    where
      by : (here : Bool) → same x y ≡ here → HasValue numbers (put x v env) y t
      by true here = here_value env x y v t here (as_found t u v (sym there ∙ ap (look_up c) (same_is x y here) ∙ found) is)
      by false here = else_value env x y v t here (typed y t found)

  -- a carried name, which has a value of its type in the inner environment
  carried : (c : Scope) (env inner : Env) (x : Name) (t : NameType) → HasValue numbers inner x t → IsTyped numbers c env
      → IsTyped numbers (bind x t c) (put_some x (value_of inner x) env)
  carried c env inner x t is typed = rw is.held (bound_typed c env x t is.value is.typed typed)

  carried_kept : (c : Scope) (env inner : Env) (x : Name) (t : NameType) → look_up c x ≡ Some t → HasValue numbers inner x t
      → IsTyped numbers c env → IsTyped numbers c (put_some x (value_of inner x) env)
  carried_kept c env inner x t there is typed = rw is.held (put_typed c env x t is.value there is.typed typed)

  -- after blocks, of which one ended
  all_joined : (xs : List Name) (one two c after : Scope) (inner env : Env) → types.joined xs one two c ≡ Ok after
      → ((x : Name) (t : NameType) → look_up one x ≡ Some t → look_up two x ≡ Some t → HasValue numbers inner x t)
      → IsTyped numbers c env → IsTyped numbers after (carry xs inner env)
  all_joined [] one two c after inner env is ended typed =
      subst (λ (z : Scope). IsTyped numbers z env) (answer_is c after is) typed
  all_joined (x ∷ xs) one two c after inner env is ended typed =
      let first = first_answered (agreed (look_up one x) (look_up two x)) _ after is in
      let both = both_types (look_up one x) (look_up two x) first.0 first.1.0 in
      all_joined xs one two (bind x first.0 c) after inner (put_some x (value_of inner x) env) first.1.1 ended
      (carried c env inner x first.0 (ended x first.0 both.0 both.1) typed)

  all_kept : (xs : List Name) (c end : Scope) (inner env : Env) → types.kept xs c end ≡ Ok tt → IsTyped numbers end inner
      → IsTyped numbers c env → IsTyped numbers c (carry xs inner env)
  all_kept [] c end inner env is ended typed = typed
  all_kept (x ∷ xs) c end inner env is ended typed =
      let first = first_answered (agreed (look_up c x) (look_up end x)) _ tt is in
      let both = both_types (look_up c x) (look_up end x) first.0 first.1.0 in
      all_kept xs c end inner (put_some x (value_of inner x) env) first.1.1 ended
      (carried_kept c env inner x first.0 both.0 (ended x first.0 both.1) typed)

  -- Statements.

  abbrev pub Keeps : types.Block → Turn → Type 0
  Keeps block turn = (k : ℕ) (c : Scope) (end : types.State) (env : Env) → block (k, c) ≡ Ok end → IsTyped numbers c env
      → IsTyped numbers end.1 (turn env)

  after_is : (k : ℕ) (c : Scope) (end : types.State) (env : Env) → ◌≡◌ {A = Result types.State TypeWhy} (Ok (k, c)) (Ok end)
      → IsTyped numbers c env → IsTyped numbers end.1 env
  after_is k c end env is typed = subst (λ (z : types.State). IsTyped numbers z.1 env) (answer_is (k, c) end is) typed

  after_state : (k : ℕ) (c : Scope) (end : types.State) (env : Env) → ◌≡◌ {A = Result types.State Refusal} (Ok (k, c)) (Ok end)
      → IsTyped numbers c env → IsTyped numbers end.1 env
  after_state k c end env is typed = subst (λ (z : types.State). IsTyped numbers z.1 env) (answer_is (k, c) end is) typed

  let_keeps : (x : Name) (a : Expr) → expr_formed a ≡ true → expr_spellable a ≡ true
      → Keeps (types.stmt_step (s.Let x a)) (model.run_step (s.Let x a))
  let_keeps x a formed spelled k c end env is typed =
      let inner = at_answered (Statement k) _ end is in
      let may = first_answered (scalar_may_take (look_up c x)) _ end inner in
      let found = first_answered (type_of a c) _ end may.1.1 in
      after_is (next k) (bind x (One found.0) c) end (put x (arg.Word (eval a env)) env) found.1.1
      (bound_typed c env x (One found.0) (arg.Word (eval a env))
      (expressions_sound numbers c env typed a formed spelled found.0 found.1.0) typed)

  put_keeps : (a : Name) (i v : Expr) → expr_formed v ≡ true → expr_spellable v ≡ true
      → Keeps (types.stmt_step (s.Put a i v)) (model.run_step (s.Put a i v))
  put_keeps a i v formed spelled k c end env is typed =
      let inner = at_answered (Statement k) _ end is in
      let element = first_answered (element_in (look_up c a)) _ end inner in
      let index = first_answered (wanted Word (type_of i c)) _ end element.1.1 in
      let new = first_answered (wanted element.0 (type_of v c)) _ end index.1.1 in
      let there = element_is (look_up c a) element.0 element.1.0 in
      let old = typed a (Many element.0 there.0) there.1 in
      let fits = expressions_sound numbers c env typed v formed spelled element.0
      (wanted_is element.0 (type_of v c) new.0 new.1.0).0 in
      let made = element_put element.0 (length_of numbers there.0) (eval i env) (eval v env) old.value old.typed fits in
      after_is (next k) c end (model.element_put a a i v env) new.1.1
      (rw (old.held, made.is) (put_typed c env a (Many element.0 there.0) made.value there.1 made.array typed))

  move_keeps : (b a : Name) (i v : Expr) → expr_formed v ≡ true → expr_spellable v ≡ true
      → Keeps (types.stmt_step (s.Move b a i v)) (model.run_step (s.Move b a i v))
  move_keeps b a i v formed spelled k c end env is typed =
      let inner = at_answered (Statement k) _ end is in
      let may = first_answered (array_may_take (look_up c b)) _ end inner in
      let element = first_answered (element_in (look_up c a)) _ end may.1.1 in
      let index = first_answered (wanted Word (type_of i c)) _ end element.1.1 in
      let new = first_answered (wanted element.0 (type_of v c)) _ end index.1.1 in
      let array = first_answered (array_in (look_up c a)) _ end new.1.1 in
      let there = element_is (look_up c a) element.0 element.1.0 in
      let whole = array_of (look_up c a) array.0 array.1.0 in
      let old = typed a (Many element.0 there.0) there.1 in
      let fits = expressions_sound numbers c env typed v formed spelled element.0
      (wanted_is element.0 (type_of v c) new.0 new.1.0).0 in
      let made = element_put element.0 (length_of numbers there.0) (eval i env) (eval v env) old.value old.typed fits in
      let same : Many element.0 there.0
      ≡ array.0 = some_is (Many element.0 there.0) (Many whole.0 whole.1) (sym there.1 ∙ whole.2.1) ∙ sym whole.2.0 in
      after_is (next k) (bind b array.0 c) end (model.element_put b a i v env) array.1.1
      (rw (old.held, made.is) (subst (λ (t : NameType). IsTyped numbers (bind b t c) (put b made.value env)) same
      (bound_typed c env b (Many element.0 there.0) made.value made.array typed)))

  -- the new element for an old one
  pub element_typed : (c : Scope) (env : Env) (x : Name) (v : Expr) (w u : Scalar) → expr_formed v ≡ true
      → expr_spellable v ≡ true → type_of v (bind x (One w) c) ≡ Ok u
      → IsTyped numbers c env → (n : ℕ) → is_number w n ≡ true → is_number u (model.element_of x v env n) ≡ true
  element_typed c env x v w u formed spelled of_type typed n is =
      expressions_sound numbers (bind x (One w) c) (put x (arg.Word n) env) (bound_typed c env x (One w) (arg.Word n) is typed) v
      formed spelled u of_type

  map_keeps : (a x : Name) (v : Expr) → expr_formed v ≡ true → expr_spellable v ≡ true
      → Keeps (types.stmt_step (s.Map a x v)) (model.run_step (s.Map a x v))
  map_keeps a x v formed spelled k c end env is typed =
      let inner = at_answered (Statement k) _ end is in
      let element = first_answered (element_in (look_up c a)) _ end inner in
      let may = first_answered (scalar_may_take (look_up c x)) _ end element.1.1 in
      let new = first_answered (wanted element.0 (type_of v (bind x (One element.0) c))) _ end may.1.1 in
      let there = element_is (look_up c a) element.0 element.1.0 in
      let old = typed a (Many element.0 there.0) there.1 in
      let of_type = (wanted_is element.0 (type_of v (bind x (One element.0) c)) new.0 new.1.0).0 in
      let made = elements_mapped element.0 (length_of numbers there.0) (model.element_of x v env) old.value old.typed
      (element_typed c env x v element.0 element.0 formed spelled of_type typed) in
      after_is (next k) c end (model.array_mapped a x v env) new.1.1
      (rw (old.held, made.is) (put_typed c env a (Many element.0 there.0) made.value there.1 made.array typed))

  -- the scalar of a fold has its type after each element
  turns_typed : (c : Scope) (env : Env) (t x : Name) (v : Expr) (u w : Scalar) → look_up c t ≡ Some (One u) → expr_formed v ≡ true
      → expr_spellable v ≡ true
      → type_of v (bind x (One w) c) ≡ Ok u → IsTyped numbers c env
      → (ns : List ℕ) (so_far : ℕ) → all_true (map (is_number w) ns) ≡ true → is_number u so_far ≡ true
      → is_number u (fold (model.fold_turn t x v env) so_far ns) ≡ true
  turns_typed c env t x v u w there formed spelled of_type typed [] so_far all is = is
  turns_typed c env t x v u w there formed spelled of_type typed (n ∷ ns) so_far all is =
      let parts = and_parts (is_number w n) (all_true (map (is_number w) ns)) all in
      let before : IsTyped numbers c (put t (arg.Word so_far) env) = put_typed c env t (One u) (arg.Word so_far) there is typed in
      let inner : IsTyped numbers (bind x (One w) c) (put x (arg.Word n) (put t (arg.Word so_far) env)) =
      bound_typed c (put t (arg.Word so_far) env) x (One w) (arg.Word n) parts.0 before in
      turns_typed c env t x v u w there formed spelled of_type typed ns (model.fold_turn t x v env so_far n) parts.1
      (expressions_sound numbers (bind x (One w) c) (put x (arg.Word n) (put t (arg.Word so_far) env)) inner v formed spelled u
      of_type)

  fold_keeps : (t a x : Name) (v : Expr) → expr_formed v ≡ true → expr_spellable v ≡ true
      → Keeps (types.stmt_step (s.Fold t a x v)) (model.run_step (s.Fold t a x v))
  fold_keeps t a x v formed spelled k c end env is typed =
      let inner = at_answered (Statement k) _ end is in
      let scalar = first_answered (scalar_in (look_up c t)) _ end inner in
      let element = first_answered (element_in (look_up c a)) _ end scalar.1.1 in
      let folded = first_answered (types.folded_element t x c) _ end element.1.1 in
      let new = first_answered (wanted scalar.0 (type_of v (bind x (One element.0) c))) _ end folded.1.1 in
      let there = scalar_is (look_up c t) scalar.0 scalar.1.0 in
      let array = array_value numbers c env typed a element.0 element.1.0 in
      let all : all_true (map (is_number element.0) (elements (value_of env a)))
      ≡ true = rw array.2.0 (array_parts element.0 array.0 array.1 array.2.1).all in
      let of_type = (wanted_is scalar.0 (type_of v (bind x (One element.0) c)) new.0 new.1.0).0 in
      let folded_typed = turns_typed c env t x v scalar.0 element.0 there formed spelled of_type typed (elements (value_of env a))
      (number (value_of env t)) all (scalar_value numbers c env typed t scalar.0 scalar.1.0) in
      after_is (next k) c end (model.array_folded t a x v env) new.1.1
      (put_typed c env t (One scalar.0)
      (arg.Word (fold (model.fold_turn t x v env) (number (value_of env t)) (elements (value_of env a)))) there folded_typed
      typed)

  -- Blocks.

  abbrev IsKept : Stmt → Type 0
  IsKept w = stmt_formed w ≡ true → stmt_spellable w ≡ true → Keeps (types.stmt w) (model.run w)

  abbrev Proved : Type 0
  Proved = (w : Stmt) × IsKept w

  abbrev stmts : List Proved → List Stmt
  stmts ks = map (λ k. k.0) ks

  block_keeps : (ks : List Proved) → all_true (map stmt_formed (stmts ks)) ≡ true → all_true (map stmt_spellable (stmts ks))
      ≡ true
      → Keeps (types.in_turn (map types.stmt (stmts ks))) (model.in_turn (map model.run (stmts ks)))
  block_keeps [] formed spelled k c end env is typed = after_state k c end env is typed
  block_keeps (w ∷ ks) formed spelled k c end env is typed =
      let f = and_parts (stmt_formed w.0) (all_true (map stmt_formed (stmts ks))) formed in
      let p = and_parts (stmt_spellable w.0) (all_true (map stmt_spellable (stmts ks))) spelled in
      let first = first_answered (types.stmt w.0 (k, c)) _ end is in
      block_keeps ks f.1 p.1 first.0.0 first.0.1 end (model.run w.0 env) first.1.1 (w.1 f.0 p.0 k c first.0 env first.1.0 typed)

  if_keeps : (test : Expr) (xs : List Name) (rs : List Le) (ks ms : List Proved)
      → Keeps (types.in_turn (map types.stmt (stmts ks))) (model.in_turn (map model.run (stmts ks)))
      → Keeps (types.in_turn (map types.stmt (stmts ms))) (model.in_turn (map model.run (stmts ms)))
      → Keeps (types.stmt_step (s.If test xs rs (map types.stmt (stmts ks)) (map types.stmt (stmts ms))))
      (model.run_step (s.If test xs rs (map model.run (stmts ks)) (map model.run (stmts ms))))
  if_keeps test xs rs ks ms first_keeps second_keeps k c end env is typed =
      let found = first_answered (types.at (Statement k) (wanted Flag (type_of test c))) _ end is in
      let once = first_answered (types.at (Statement k) (types.distinct [] xs)) _ end found.1.1 in
      let one = first_answered (types.in_turn (map types.stmt (stmts ks)) (next k, c)) _ end once.1.1 in
      let two = first_answered (types.in_turn (map types.stmt (stmts ms)) (one.0.0, c)) _ end one.1.1 in
      let joined = first_answered (types.at (Statement k) (types.joined xs one.0.1 two.0.1 c)) _ end two.1.1 in
      let facts = first_answered (types.at (Statement k) (types.facts rs joined.0)) _ end joined.1.1 in
      let join = at_answered (Statement k) (types.joined xs one.0.1 two.0.1 c) joined.0 joined.1.0 in
      let first_end : Env = model.in_turn (map model.run (stmts ks)) env in
      let second_end : Env = model.in_turn (map model.run (stmts ms)) env in
      let first_typed : IsTyped numbers one.0.1 first_end = first_keeps (next k) c one.0 env one.1.0 typed in
      let second_typed : IsTyped numbers two.0.1 second_end = second_keeps one.0.0 c two.0 env two.1.0 typed in
      after_state two.0.0 joined.0 end _ facts.1.1
      (by_test (model.is_true (eval test env)) joined.0
      (all_joined xs one.0.1 two.0.1 c joined.0 first_end env join (λ x t at_one at_two. first_typed x t at_one) typed)
      (all_joined xs one.0.1 two.0.1 c joined.0 second_end env join (λ x t at_one at_two. second_typed x t at_two) typed))
    where
      by_test : (taken : Bool) (after : Scope)
          → IsTyped numbers after (carry xs (model.in_turn (map model.run (stmts ks)) env) env)
          → IsTyped numbers after (carry xs (model.in_turn (map model.run (stmts ms)) env) env)
          → IsTyped numbers after (if taken then carry xs (model.in_turn (map model.run (stmts ks)) env) env
          else carry xs (model.in_turn (map model.run (stmts ms)) env) env)
      by_test true after one two = one
      by_test false after one two = two

  turns_keep : (c : Scope) (turn : ℕ → Turn)
      → ((i : ℕ) (env : Env) → is_word i ≡ true → IsTyped numbers c env → IsTyped numbers c (turn i env))
      → (ns : List ℕ) (env : Env) → all_true (map is_word ns) ≡ true → IsTyped numbers c env
      → IsTyped numbers c (model.folded turn ns env)
  turns_keep c turn each [] env all typed = typed
  turns_keep c turn each (n ∷ ns) env all typed =
      let parts = and_parts (is_word n) (all_true (map is_word ns)) all in
      turns_keep c turn each ns (turn n env) parts.1 (each n env parts.0 typed)

  for_keeps : (x : Name) (low high : Expr) (xs : List Name) (rs : List Le) (ks : List Proved) → expr_formed high ≡ true
      → expr_spellable high ≡ true
      → Keeps (types.in_turn (map types.stmt (stmts ks))) (model.in_turn (map model.run (stmts ks)))
      → Keeps (types.stmt_step (s.For x low high xs rs (map types.stmt (stmts ks))))
      (model.run_step (s.For x low high xs rs (map model.run (stmts ks))))
  for_keeps x low high xs rs ks formed spelled body_keeps k c end env is typed =
      let count = first_answered (types.at (Statement k) (types.counter x xs c)) _ end is in
      let from = first_answered (types.at (Statement k) (wanted Word (type_of low c))) _ end count.1.1 in
      let to = first_answered (types.at (Statement k) (wanted Word (type_of high c))) _ end from.1.1 in
      let once = first_answered (types.at (Statement k) (types.distinct_known c [] xs)) _ end to.1.1 in
      let facts = first_answered (types.at (Statement k) (types.facts rs (bind x (One Word) c))) _ end once.1.1 in
      let body = first_answered (types.in_turn (map types.stmt (stmts ks)) (next k, bind x (One Word) c)) _ end facts.1.1 in
      let kept = first_answered (types.at (Statement k) (types.kept xs c body.0.1)) _ end body.1.1 in
      let held = at_answered (Statement k) (types.kept xs c body.0.1) tt kept.1.0 in
      let to_word = (wanted_is Word (type_of high c) to.0
      (at_answered (Statement k) (wanted Word (type_of high c)) to.0 to.1.0)).0 in
      let high_word : is_word (eval high env) ≡ true = expressions_sound numbers c env typed high formed spelled Word to_word in
      after_state body.0.0 c end _ kept.1.1
      (turns_keep c (model.loop_turn x xs (map model.run (stmts ks))) (λ i at_turn word so_far.
      all_kept xs c body.0.1 (model.in_turn (map model.run (stmts ks)) (put x (arg.Word i) at_turn)) at_turn held
      (body_keeps (next k) (bind x (One Word) c) body.0 (put x (arg.Word i) at_turn) body.1.0
      (bound_typed c at_turn x (One Word) (arg.Word i) word so_far)) so_far)
      (model.numbers (eval low env) (eval high env)) env (turn_words (eval low env) (eval high env) high_word) typed)
    where
      turn_words : (from to : ℕ) → is_word to ≡ true → all_true (map is_word (model.numbers from to)) ≡ true
      turn_words from to word = by (nat_le from to) refl
        where
          by : (below : Bool) → nat_le from to ≡ below → all_true (map is_word (model.numbers from to)) ≡ true
          by true below = loop_numbers from (to - from) (omega (arith, leb-true from to below, leb-true to 4294967295 word))
          by false above = let none : to - from ≡ 0 = grind (arith, nat_tests) in rw none refl

  at_layer : (y : Stmt-F Stmt)
      → (stmt_formed_step (map-Stmt Stmt Bool stmt_formed y) ≡ true → stmt_spellable_step (map-Stmt Stmt Bool stmt_spellable y)
      ≡ true
      → Keeps (types.stmt_step (map-Stmt Stmt types.Block types.stmt y)) (model.run_step (map-Stmt Stmt Turn model.run y)))
      → IsKept (roll-Stmt y)
  at_layer y f formed spelled k c end env is typed =
      subst (λ (t : Turn). IsTyped numbers end.1 (t env)) (sym (fold-roll-Stmt Turn model.run_step y))
      (f (sym (fold-roll-Stmt Bool stmt_formed_step y) ∙ formed) (sym (fold-roll-Stmt Bool stmt_spellable_step y) ∙ spelled)
      k c end env (sym (ap (λ (b : types.Block). b (k, c)) (fold-roll-Stmt types.Block types.stmt_step y)) ∙ is) typed)

  node : (y : Stmt-F Proved) → IsKept (roll-Stmt (map-Stmt Proved Stmt (λ k. k.0) y))
  node (s.Let x a) = at_layer (s.Let x a)
      (λ formed spelled. let_keeps x a (and_parts (is_name x) (expr_formed a) formed).1 spelled)
  node (s.Put a i v) =
      at_layer (s.Put a i v) (λ formed spelled.
      let f = and_parts (is_name a) (expr_formed i && expr_formed v) formed in
      put_keeps a i v (and_parts (expr_formed i) (expr_formed v) f.1).1
      (and_parts (expr_spellable i) (expr_spellable v) spelled).1)
  node (s.Move b a i v) =
      at_layer (s.Move b a i v) (λ formed spelled.
      let f = and_parts (is_name b) (is_name a && (expr_formed i && expr_formed v)) formed in
      let g = and_parts (is_name a) (expr_formed i && expr_formed v) f.1 in
      move_keeps b a i v (and_parts (expr_formed i) (expr_formed v) g.1).1
      (and_parts (expr_spellable i) (expr_spellable v) spelled).1)
  node (s.If test xs rs ks ms) =
      at_layer (s.If test xs rs (stmts ks) (stmts ms)) (λ formed spelled.
      let f = and_parts (expr_formed test)
      (names_formed xs && (facts_formed rs
      && (all_true (map stmt_formed (stmts ks)) && all_true (map stmt_formed (stmts ms))))) formed in
      let g = and_parts (names_formed xs)
      (facts_formed rs && (all_true (map stmt_formed (stmts ks)) && all_true (map stmt_formed (stmts ms)))) f.1 in
      let h = and_parts (facts_formed rs) (all_true (map stmt_formed (stmts ks)) && all_true (map stmt_formed (stmts ms))) g.1 in
      let both = and_parts (all_true (map stmt_formed (stmts ks))) (all_true (map stmt_formed (stmts ms))) h.1 in
      let p = and_parts (expr_spellable test && all_true (map stmt_spellable (stmts ks)))
      (all_true (map stmt_spellable (stmts ms))) spelled in
      let q = and_parts (expr_spellable test) (all_true (map stmt_spellable (stmts ks))) p.0 in
      if_keeps test xs rs ks ms (block_keeps ks both.0 q.1) (block_keeps ms both.1 p.1))
  node (s.For x low high xs rs ks) =
      at_layer (s.For x low high xs rs (stmts ks)) (λ formed spelled.
      let f = and_parts (is_name x) (expr_formed low
      && (expr_formed high && (names_formed xs && (facts_formed rs && all_true (map stmt_formed (stmts ks)))))) formed in
      let g = and_parts (expr_formed low)
      (expr_formed high && (names_formed xs && (facts_formed rs && all_true (map stmt_formed (stmts ks))))) f.1 in
      let h = and_parts (expr_formed high) (names_formed xs && (facts_formed rs && all_true (map stmt_formed (stmts ks)))) g.1 in
      let i = and_parts (names_formed xs) (facts_formed rs && all_true (map stmt_formed (stmts ks))) h.1 in
      let body = and_parts (facts_formed rs) (all_true (map stmt_formed (stmts ks))) i.1 in
      let p = and_parts (expr_spellable low && expr_spellable high) (all_true (map stmt_spellable (stmts ks))) spelled in
      let q = and_parts (expr_spellable low) (expr_spellable high) p.0 in
      for_keeps x low high xs rs ks h.0 q.1 (block_keeps ks body.1 p.1))
  node (s.Map a x v) =
      at_layer (s.Map a x v) (λ formed spelled.
      let f = and_parts (is_name a) (is_name x && expr_formed v) formed in
      map_keeps a x v (and_parts (is_name x) (expr_formed v) f.1).1 spelled)
  node (s.Fold t a x v) =
      at_layer (s.Fold t a x v) (λ formed spelled.
      let f = and_parts (is_name t) (is_name a && (is_name x && expr_formed v)) formed in
      let g = and_parts (is_name a) (is_name x && expr_formed v) f.1 in
      fold_keeps t a x v (and_parts (is_name x) (expr_formed v) g.1).1 spelled)

  stmt_keeps : (w : Stmt) → IsKept w
  stmt_keeps = ind-Stmt IsKept (λ z y is. subst (λ w. IsKept (roll-Stmt w)) is (node y))

  pub body_keeps : (ws : List Stmt) → all_true (map stmt_formed ws) ≡ true → all_true (map stmt_spellable ws) ≡ true
      → Keeps (types.in_turn (map types.stmt ws)) (model.in_turn (map model.run ws))
  body_keeps [] formed spelled k c end env is typed = after_state k c end env is typed
  body_keeps (w ∷ ws) formed spelled k c end env is typed =
      let f = and_parts (stmt_formed w) (all_true (map stmt_formed ws)) formed in
      let p = and_parts (stmt_spellable w) (all_true (map stmt_spellable ws)) spelled in
      let first = first_answered (types.stmt w (k, c)) _ end is in
      body_keeps ws f.1 p.1 first.0.0 first.0.1 end (model.run w env) first.1.1
      (stmt_keeps w f.0 p.0 k c first.0 env first.1.0 typed)

pub statements_sound : StatementLaw
statements_sound numbers w formed spelled k c after env is typed = stmt_keeps numbers w formed spelled k c after env is typed
