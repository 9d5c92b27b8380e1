-- The statements of a well typed model keep the kinds and lengths of arrays.
use Rattle.std.proofs.Common.{◌≡◌, refl, sym, ◌∙◌, ap, subst, ℕ, ◌%◌, Bool, true, false, List, [], ◌∷◌, length, map, set}
use Rattle.std.proofs.Common.{length-set, Option, Some, None, Result, Ok, Err, if◌then◌else◌}
use Rattle.std.proofs.lemmas.List.{length-map}
use Rattle.std.proofs.lemmas.Bool.{eqb-true}
use Rattle.rup_base.specs.declared.arg.Arg.{Arg}
use Rattle.rup_base.specs.declared.arg.Arg.TheVariants as arg
use Rattle.rup_base.specs.declared.refusal.Refusal.{Refusal}
use Rattle.rup_base.specs.declared.refusal.TypePlace.TheVariants.{Statement}
use Rattle.rup_base.specs.declared.refusal.TypeWhy.{TypeWhy}
use Rattle.rup_base.specs.declared.refusal.TypeWhy.TheVariants as why
use Rattle.model_syntax.specs.Environment.{Env, value_of, put, put_some, with_element, with_each, carry}
use Rattle.model_syntax.specs.ExprType.{type_of, wanted}
use Rattle.model_syntax.specs.Limits.{next}
use Rattle.model_syntax.specs.Names.{Name, same, listed}
use Rattle.model_syntax.specs.Scope.{Scope, look_up, bind, same_scalar, same_length, same_type, scalar_in, array_in, element_in}
use Rattle.model_syntax.specs.Scope.{scalar_may_take, array_may_take, agreed}
use Rattle.model_syntax.specs.Types as types
use Rattle.model_syntax.specs.Value as model
use Rattle.model_syntax.specs.Value.{Turn, eval}
use Rattle.model_syntax.specs.declared.expr.Expr.{Expr}
use Rattle.model_syntax.specs.declared.expr.Scalar.{Scalar}
use Rattle.model_syntax.specs.declared.expr.Scalar.TheVariants.{Word, Byte, Flag}
use Rattle.model_syntax.specs.declared.scope.NameType.{NameType}
use Rattle.model_syntax.specs.declared.scope.NameType.TheVariants.{Scalar as One, Array as Many}
use Rattle.model_syntax.specs.declared.stmt.Le.{Le}
use Rattle.model_syntax.specs.declared.stmt.Stmt.{Stmt, Stmt-F, ind-Stmt, map-Stmt, roll-Stmt, fold-roll-Stmt}
use Rattle.model_syntax.specs.declared.stmt.Stmt.TheOpen as s
use Rattle.model_syntax.specs.declared.program.Len.{Len}
use Rattle.model_syntax.specs.declared.program.Len.TheVariants.{Fixed, Named}
use Rattle.model_syntax.proofs.laws.Answered.{first_answered, at_answered, answer_is}
use Rattle.model_syntax.proofs.laws.Arrays.{and_parts}
use Rattle.model_syntax.proofs.laws.Bindings.{same_is, value_here, value_else, up_else, up_here}

-- Types.

some_is : {A : Type 0} (a b : A) → Some a ≡ Some b → a ≡ b
some_is a b is = cc

many_is : (t u : Scalar) (k l : Len) → Many t k ≡ Many u l → (t ≡ u) × (k ≡ l)
many_is t u k l is = (cc, cc)

-- an array of a scalar type and a length
abbrev pub HasShape : Scalar → ℕ → Arg → Type 0
HasShape Byte n (arg.Bytes ns) = length ns ≡ n
HasShape Word n (arg.Words ns) = length ns ≡ n
HasShape t n v = ⊥

scalar_same : (t u : Scalar) → same_scalar t u ≡ true → t ≡ u
scalar_same Word Word is = refl
scalar_same Byte Byte is = refl
scalar_same Flag Flag is = refl
scalar_same Word Byte is = absurd (cc)
scalar_same Word Flag is = absurd (cc)
scalar_same Byte Word is = absurd (cc)
scalar_same Byte Flag is = absurd (cc)
scalar_same Flag Word is = absurd (cc)
scalar_same Flag Byte is = absurd (cc)

length_same : (k l : Len) → same_length k l ≡ true → k ≡ l
length_same (Fixed n) (Fixed m) is = ap Fixed (eqb-true n m is)
length_same (Named x) (Named y) is = ap Named (same_is x y is)
length_same (Fixed n) (Named y) is = absurd (cc)
length_same (Named x) (Fixed m) is = absurd (cc)

pub type_same : (t u : NameType) → same_type t u ≡ true → t ≡ u
type_same (One t) (One u) is = ap One (scalar_same t u is)
type_same (Many t k) (Many u l) is =
    let p = and_parts (same_scalar t u) (same_length k l) is in
    ap (λ (v : Scalar). Many v k) (scalar_same t u p.0) ∙ ap (λ (j : Len). Many u j) (length_same k l p.1)
type_same (One t) (Many u l) is = absurd (cc)
type_same (Many t k) (One u) is = absurd (cc)

both_types : (o p : Option NameType) (t : NameType) → agreed o p ≡ Ok t → (o ≡ Some t) × (p ≡ Some t)
both_types (Some t) (Some u) v is = by_test (same_type t u) refl is
  where
    by_test : (test : Bool) → same_type t u ≡ test → agreed (Some t) (Some u) ≡ Ok v → (Some t ≡ Some v) × (Some u ≡ Some v)
    by_test true e h =
        let here : t ≡ v = answer_is t v (let kept : (if true then Ok t else Err why.Uncarried) ≡ Ok v = rw e at h in kept) in
        (ap Some here, ap Some (sym (type_same t u e) ∙ here))
    by_test false e h = absurd (let bad : (if false then Ok t else Err why.Uncarried) ≡ Ok v = rw e at h in
        let worse : Err why.Uncarried ≡ Ok v = bad in cc)
both_types None None v is = absurd (cc)
both_types None (Some u) v is = absurd (cc)
both_types (Some t) None v is = absurd (cc)

not_array : (o : Option NameType) (t : Scalar) (k : Len) → scalar_may_take o ≡ Ok tt → o ≡ Some (Many t k) → ⊥
not_array None t k may is = absurd (let bad : None ≡ Some (Many t k) = is in cc)
not_array (Some (One u)) t k may is = absurd (let bad : Some (One u) ≡ Some (Many t k) = is in cc)
not_array (Some (Many u l)) t k may is = absurd (cc)

scalar_not_array : (o : Option NameType) (u t : Scalar) (k : Len) → scalar_in o ≡ Ok u → o ≡ Some (Many t k) → ⊥
scalar_not_array None u t k found is = absurd (cc)
scalar_not_array (Some (One v)) u t k found is = absurd (let bad : Some (One v) ≡ Some (Many t k) = is in cc)
scalar_not_array (Some (Many v l)) u t k found is = absurd (cc)

element_of : (o : Option NameType) (t : Scalar) → element_in o ≡ Ok t → (k : Len) × (o ≡ Some (Many t k))
element_of None t found = absurd (cc)
element_of (Some (One u)) t found = absurd (cc)
element_of (Some (Many u k)) t found = (k, (let same_t : u ≡ t = cc in ap (λ (v : Scalar). Some (Many v k)) same_t))

pub array_of : (o : Option NameType) (t : NameType) → array_in o ≡ Ok t
    → (u : Scalar) × (k : Len) × ((t ≡ Many u k) × (o ≡ Some (Many u k)))
array_of None t found = absurd (cc)
array_of (Some (One u)) t found = absurd (cc)
array_of (Some (Many u k)) t found = (u, k, (sym (answer_is (Many u k) t found), refl))

-- Values.

element_shape : (t : Scalar) (n i e : ℕ) (v : Arg) → HasShape t n v
    → (w : Arg) × ((with_element i e (Some v) ≡ Some w) × HasShape t n w)
element_shape Byte n i e (arg.Bytes ns) is = (arg.Bytes (set ns i (e % 256)), (refl, length-set ns i (e % 256) ∙ is))
element_shape Word n i e (arg.Words ns) is = (arg.Words (set ns i e), (refl, length-set ns i e ∙ is))
element_shape Byte n i e (arg.Word k) is = absurd is
element_shape Byte n i e (arg.Words ns) is = absurd is
element_shape Word n i e (arg.Word k) is = absurd is
element_shape Word n i e (arg.Bytes ns) is = absurd is
element_shape Flag n i e v is = absurd is

each_shape : (t : Scalar) (n : ℕ) (change : ℕ → ℕ) (v : Arg) → HasShape t n v
    → (w : Arg) × ((with_each change (Some v) ≡ Some w) × HasShape t n w)
each_shape Byte n change (arg.Bytes ns) is = (
  arg.Bytes (map (λ m. m % 256) (map change ns)),
  (refl, length-map (map change ns) (λ m. m % 256) ∙ length-map ns change ∙ is),
)
each_shape Word n change (arg.Words ns) is = (arg.Words (map change ns), (refl, length-map ns change ∙ is))
each_shape Byte n change (arg.Word k) is = absurd is
each_shape Byte n change (arg.Words ns) is = absurd is
each_shape Word n change (arg.Word k) is = absurd is
each_shape Word n change (arg.Bytes ns) is = absurd is
each_shape Flag n change v is = absurd is

module _ (lens : Name → ℕ) where
  abbrev pub len_of : Len → ℕ
  len_of (Fixed n) = n
  len_of (Named x) = lens x

  -- an array in an environment
  pub record IsShaped (env : Env) (x : Name) (t : Scalar) (k : Len) : Type 0 where
    pub value : Arg
    pub held : value_of env x ≡ Some value
    pub shape : HasShape t (len_of k) value

  -- each array in scope is in the environment
  abbrev pub Shaped : Scope → Env → Type 0
  Shaped c env = (x : Name) (t : Scalar) (k : Len) → look_up c x ≡ Some (Many t k) → IsShaped env x t k

  abbrev NoArray : Scope → Name → Type 0
  NoArray c x = (t : Scalar) (k : Len) → look_up c x ≡ Some (Many t k) → ⊥

  else_shaped : (c : Scope) (env : Env) (x y : Name) (v : Arg) (t : Scalar) (k : Len) → same x y ≡ false → IsShaped env y t k
      → IsShaped (put x v env) y t k
  else_shaped c env x y v t k apart old =
      record { value = old.value; held = value_else x y v env apart ∙ old.held; shape = old.shape }

  here_shaped : (env : Env) (x y : Name) (v : Arg) (t : Scalar) (k : Len) → same x y ≡ true → HasShape t (len_of k) v
      → IsShaped (put x v env) y t k
  here_shaped env x y v t k is shape =
      record { value = v; held = ap (value_of (put x v env)) (sym (same_is x y is)) ∙ value_here x v env; shape = shape }

  -- a scalar gets a value
  keep_scalar : (c : Scope) (env : Env) (x : Name) (v : Arg) → NoArray c x → Shaped c env → Shaped c (put x v env)
  keep_scalar c env x v none shaped y t k found = by (same x y) refl
    where
      by : (is : Bool) → same x y ≡ is → IsShaped (put x v env) y t k
      by true is = absurd (none t k (ap (look_up c) (same_is x y is) ∙ found))
      by false is = else_shaped c env x y v t k is (shaped y t k found)

  put_scalar : (c : Scope) (env : Env) (x : Name) (u : Scalar) (v : Arg) → Shaped c env → Shaped (bind x (One u) c) (put x v env)
  put_scalar c env x u v shaped y t k found = by (same x y) refl
    where
      by : (is : Bool) → same x y ≡ is → IsShaped (put x v env) y t k
      by true is = absurd (let bad : Some (One u) ≡ Some (Many t k) = sym (up_here c x y (One u) is) ∙ found in cc)
      by false is = else_shaped c env x y v t k is (shaped y t k (sym (up_else c x y (One u) is) ∙ found))

  bind_scalar : (c : Scope) (env : Env) (x : Name) (u : Scalar) → Shaped c env → Shaped (bind x (One u) c) env
  bind_scalar c env x u shaped y t k found = by (same x y) refl
    where
      by : (is : Bool) → same x y ≡ is → IsShaped env y t k
      by true is = absurd (let bad : Some (One u) ≡ Some (Many t k) = sym (up_here c x y (One u) is) ∙ found in cc)
      by false is = shaped y t k (sym (up_else c x y (One u) is) ∙ found)

  like_found : (t u : Scalar) (k l : Len) (v : Arg) → Some (Many u l) ≡ Some (Many t k) → HasShape u (len_of l) v
      → HasShape t (len_of k) v
  like_found t u k l v is shape =
      let p = many_is u t l k (some_is (Many u l) (Many t k) is) in
      subst (λ (j : Len). HasShape t (len_of j) v) p.1 (subst (λ (w : Scalar). HasShape w (len_of l) v) p.0 shape)

  -- an array gets another one
  put_array : (c : Scope) (env : Env) (a : Name) (u : Scalar) (l : Len) (v : Arg) → HasShape u (len_of l) v → Shaped c env
      → Shaped (bind a (Many u l) c) (put a v env)
  put_array c env a u l v shape shaped y t k found = by (same a y) refl
    where
      by : (is : Bool) → same a y ≡ is → IsShaped (put a v env) y t k
      by true is = here_shaped env a y v t k is (like_found t u k l v (sym (up_here c a y (Many u l) is) ∙ found) shape)
      by false is = else_shaped c env a y v t k is (shaped y t k (sym (up_else c a y (Many u l) is) ∙ found))

  keep_array : (c : Scope) (env : Env) (a : Name) (u : Scalar) (l : Len) (v : Arg) → look_up c a ≡ Some (Many u l)
      → HasShape u (len_of l) v → Shaped c env → Shaped c (put a v env)
  keep_array c env a u l v there shape shaped y t k found = by (same a y) refl
    where
      by : (is : Bool) → same a y ≡ is → IsShaped (put a v env) y t k
      by true is = here_shaped env a y v t k is (like_found t u k l v (sym there ∙ ap (look_up c) (same_is a y is) ∙ found) shape)
      by false is = else_shaped c env a y v t k is (shaped y t k found)

  -- what a block's end says of a name of a type
  abbrev Ends : Env → Name → NameType → Type 0
  Ends inner x (One t) = Unit {0}
  Ends inner x (Many t k) = IsShaped inner x t k

  ends : (c : Scope) (inner : Env) (x : Name) (t : NameType) → Shaped c inner → look_up c x ≡ Some t → Ends inner x t
  ends c inner x (One t) shaped found = tt
  ends c inner x (Many t k) shaped found = shaped x t k found

  carried : (c : Scope) (env inner : Env) (x : Name) (t : NameType) → Ends inner x t → Shaped c env
      → Shaped (bind x t c) (put_some x (value_of inner x) env)
  carried c env inner x (One t) is shaped = by (value_of inner x)
    where
      by : (o : Option Arg) → Shaped (bind x (One t) c) (put_some x o env)
      by None = bind_scalar c env x t shaped
      by (Some v) = put_scalar c env x t v shaped
  carried c env inner x (Many t k) is shaped = rw is.held (put_array c env x t k is.value is.shape shaped)

  carried_kept : (c : Scope) (env inner : Env) (x : Name) (t : NameType) → look_up c x ≡ Some t → Ends inner x t → Shaped c env
      → Shaped c (put_some x (value_of inner x) env)
  carried_kept c env inner x (One t) there is shaped = by (value_of inner x)
    where
      by : (o : Option Arg) → Shaped c (put_some x o env)
      by None = shaped
      by (Some v) = keep_scalar c env x v
          (λ u k found. absurd (let bad : Some (One t) ≡ Some (Many u k) = sym there ∙ found in cc)) shaped
  carried_kept c env inner x (Many t k) there is shaped = rw is.held (keep_array c env x t k is.value there is.shape shaped)

  -- after blocks, of which one ended
  all_joined : (xs : List Name) (one two c after : Scope) (inner env : Env) → types.joined xs one two c ≡ Ok after
      → ((x : Name) (t : NameType) → look_up one x ≡ Some t → look_up two x ≡ Some t → Ends inner x t) → Shaped c env
      → Shaped after (carry xs inner env)
  all_joined [] one two c after inner env is ended shaped = subst (λ (z : Scope). Shaped z env) (answer_is c after is) shaped
  all_joined (x ∷ xs) one two c after inner env is ended shaped =
      let first = first_answered (agreed (look_up one x) (look_up two x)) _ after is in
      let both = both_types (look_up one x) (look_up two x) first.0 first.1.0 in
      all_joined xs one two (bind x first.0 c) after inner (put_some x (value_of inner x) env) first.1.1 ended
      (carried c env inner x first.0 (ended x first.0 both.0 both.1) shaped)

  all_kept : (xs : List Name) (c end : Scope) (inner env : Env) → types.kept xs c end ≡ Ok tt → Shaped end inner → Shaped c env
      → Shaped c (carry xs inner env)
  all_kept [] c end inner env is ended shaped = shaped
  all_kept (x ∷ xs) c end inner env is ended shaped =
      let first = first_answered (agreed (look_up c x) (look_up end x)) _ tt is in
      let both = both_types (look_up c x) (look_up end x) first.0 first.1.0 in
      all_kept xs c end inner (put_some x (value_of inner x) env) first.1.1 ended
      (carried_kept c env inner x first.0 both.0 (ends end inner x first.0 ended both.1) shaped)

  -- Statements.

  abbrev pub Keeps : types.Block → Turn → Type 0
  Keeps block turn = (k : ℕ) (c : Scope) (end : types.State) (env : Env) → block (k, c) ≡ Ok end → Shaped c env
      → Shaped end.1 (turn env)

  after_is : (k : ℕ) (c : Scope) (end : types.State) (env : Env) → ◌≡◌ {A = Result types.State TypeWhy} (Ok (k, c)) (Ok end)
      → Shaped c env → Shaped end.1 env
  after_is k c end env is shaped = subst (λ (z : types.State). Shaped z.1 env) (answer_is (k, c) end is) shaped

  after_state : (k : ℕ) (c : Scope) (end : types.State) (env : Env) → ◌≡◌ {A = Result types.State Refusal} (Ok (k, c)) (Ok end)
      → Shaped c env → Shaped end.1 env
  after_state k c end env is shaped = subst (λ (z : types.State). Shaped z.1 env) (answer_is (k, c) end is) shaped

  let_keeps : (x : Name) (a : Expr) → Keeps (types.stmt_step (s.Let x a)) (model.run_step (s.Let x a))
  let_keeps x a k c end env is shaped =
      let inner = at_answered (Statement k) _ end is in
      let may = first_answered (scalar_may_take (look_up c x)) _ end inner in
      let typed = first_answered (type_of a c) _ end may.1.1 in
      after_is (next k) (bind x (One typed.0) c) end (put x (arg.Word (eval a env)) env) typed.1.1
      (put_scalar c env x typed.0 (arg.Word (eval a env)) shaped)

  put_keeps : (a : Name) (i v : Expr) → Keeps (types.stmt_step (s.Put a i v)) (model.run_step (s.Put a i v))
  put_keeps a i v k c end env is shaped =
      let inner = at_answered (Statement k) _ end is in
      let element = first_answered (element_in (look_up c a)) _ end inner in
      let index = first_answered (wanted Word (type_of i c)) _ end element.1.1 in
      let new = first_answered (wanted element.0 (type_of v c)) _ end index.1.1 in
      let there = element_of (look_up c a) element.0 element.1.0 in
      let old = shaped a element.0 there.0 there.1 in
      let made = element_shape element.0 (len_of there.0) (eval i env) (eval v env) old.value old.shape in
      after_is (next k) c end (model.element_put a a i v env) new.1.1
      (rw (old.held, made.1.0) (keep_array c env a element.0 there.0 made.0 there.1 made.1.1 shaped))

  move_keeps : (b a : Name) (i v : Expr) → Keeps (types.stmt_step (s.Move b a i v)) (model.run_step (s.Move b a i v))
  move_keeps b a i v k c end env is shaped =
      let inner = at_answered (Statement k) _ end is in
      let may = first_answered (array_may_take (look_up c b)) _ end inner in
      let element = first_answered (element_in (look_up c a)) _ end may.1.1 in
      let index = first_answered (wanted Word (type_of i c)) _ end element.1.1 in
      let new = first_answered (wanted element.0 (type_of v c)) _ end index.1.1 in
      let array = first_answered (array_in (look_up c a)) _ end new.1.1 in
      let there = array_of (look_up c a) array.0 array.1.0 in
      let old = shaped a there.0 there.1 there.2.1 in
      let made = element_shape there.0 (len_of there.1) (eval i env) (eval v env) old.value old.shape in
      let moved : Shaped (bind b array.0 c) (put b made.0 env) =
      subst (λ (t : NameType). Shaped (bind b t c) (put b made.0 env)) (sym there.2.0)
      (put_array c env b there.0 there.1 made.0 made.1.1 shaped) in
      after_is (next k) (bind b array.0 c) end (model.element_put b a i v env) array.1.1 (rw (old.held, made.1.0) moved)

  map_keeps : (a x : Name) (v : Expr) → Keeps (types.stmt_step (s.Map a x v)) (model.run_step (s.Map a x v))
  map_keeps a x v k c end env is shaped =
      let inner = at_answered (Statement k) _ end is in
      let element = first_answered (element_in (look_up c a)) _ end inner in
      let may = first_answered (scalar_may_take (look_up c x)) _ end element.1.1 in
      let new = first_answered (wanted element.0 (type_of v (bind x (One element.0) c))) _ end may.1.1 in
      let there = element_of (look_up c a) element.0 element.1.0 in
      let old = shaped a element.0 there.0 there.1 in
      let made = each_shape element.0 (len_of there.0) (model.element_of x v env) old.value old.shape in
      after_is (next k) c end (model.array_mapped a x v env) new.1.1
      (rw (old.held, made.1.0) (keep_array c env a element.0 there.0 made.0 there.1 made.1.1 shaped))

  fold_keeps : (t a x : Name) (v : Expr) → Keeps (types.stmt_step (s.Fold t a x v)) (model.run_step (s.Fold t a x v))
  fold_keeps t a x v k c end env is shaped =
      let inner = at_answered (Statement k) _ end is in
      let scalar = first_answered (scalar_in (look_up c t)) _ end inner in
      let element = first_answered (element_in (look_up c a)) _ end scalar.1.1 in
      let folded = first_answered (types.folded_element t x c) _ end element.1.1 in
      let new = first_answered (wanted scalar.0 (type_of v (bind x (One element.0) c))) _ end folded.1.1 in
      after_is (next k) c end (model.array_folded t a x v env) new.1.1
      (keep_scalar c env t _ (λ u l found. scalar_not_array (look_up c t) scalar.0 u l scalar.1.0 found) shaped)

  abbrev IsKept : Stmt → Type 0
  IsKept w = Keeps (types.stmt w) (model.run w)

  abbrev Proved : Type 0
  Proved = (w : Stmt) × IsKept w

  abbrev stmts : List Proved → List Stmt
  stmts ks = map (λ k. k.0) ks

  block_keeps : (ks : List Proved) → Keeps (types.in_turn (map types.stmt (stmts ks))) (model.in_turn (map model.run (stmts ks)))
  block_keeps [] k c end env is shaped = after_state k c end env is shaped
  block_keeps (w ∷ ks) k c end env is shaped =
      let first = first_answered (types.stmt w.0 (k, c)) _ end is in
      block_keeps ks first.0.0 first.0.1 end (model.run w.0 env) first.1.1 (w.1 k c first.0 env first.1.0 shaped)

  if_keeps : (test : Expr) (xs : List Name) (rs : List Le) (ks ms : List Proved)
      → Keeps (types.stmt_step (s.If test xs rs (map types.stmt (stmts ks)) (map types.stmt (stmts ms))))
      (model.run_step (s.If test xs rs (map model.run (stmts ks)) (map model.run (stmts ms))))
  if_keeps test xs rs ks ms k c end env is shaped =
      let typed = first_answered (types.at (Statement k) (wanted Flag (type_of test c))) _ end is in
      let once = first_answered (types.at (Statement k) (types.distinct [] xs)) _ end typed.1.1 in
      let one = first_answered (types.in_turn (map types.stmt (stmts ks)) (next k, c)) _ end once.1.1 in
      let two = first_answered (types.in_turn (map types.stmt (stmts ms)) (one.0.0, c)) _ end one.1.1 in
      let joined = first_answered (types.at (Statement k) (types.joined xs one.0.1 two.0.1 c)) _ end two.1.1 in
      let facts = first_answered (types.at (Statement k) (types.facts rs joined.0)) _ end joined.1.1 in
      let join = at_answered (Statement k) (types.joined xs one.0.1 two.0.1 c) joined.0 joined.1.0 in
      let first_end : Env = model.in_turn (map model.run (stmts ks)) env in
      let second_end : Env = model.in_turn (map model.run (stmts ms)) env in
      let first_shaped : Shaped one.0.1 first_end = block_keeps ks (next k) c one.0 env one.1.0 shaped in
      let second_shaped : Shaped two.0.1 second_end = block_keeps ms one.0.0 c two.0 env two.1.0 shaped in
      after_state two.0.0 joined.0 end _ facts.1.1
      (by_test (model.is_true (eval test env)) joined.0
      (all_joined xs one.0.1 two.0.1 c joined.0 first_end env join
      (λ x t at_one at_two. ends one.0.1 first_end x t first_shaped at_one) shaped)
      (all_joined xs one.0.1 two.0.1 c joined.0 second_end env join
      (λ x t at_one at_two. ends two.0.1 second_end x t second_shaped at_two) shaped))
    where
      by_test : (taken : Bool) (after : Scope) → Shaped after (carry xs (model.in_turn (map model.run (stmts ks)) env) env)
          → Shaped after (carry xs (model.in_turn (map model.run (stmts ms)) env) env)
          → Shaped after (if taken then carry xs (model.in_turn (map model.run (stmts ks)) env) env
          else carry xs (model.in_turn (map model.run (stmts ms)) env) env)
      by_test true after one two = one
      by_test false after one two = two

  counter_free : (x : Name) (xs : List Name) (c : Scope) → types.counter x xs c ≡ Ok tt → scalar_may_take (look_up c x) ≡ Ok tt
  counter_free x xs c is = by (listed x xs) refl is
    where
      by : (test : Bool) → listed x xs ≡ test → types.counter x xs c ≡ Ok tt → scalar_may_take (look_up c x) ≡ Ok tt
      by true e h = absurd (let bad : (if true then Err why.Repeated else scalar_may_take (look_up c x)) ≡ Ok tt = rw e at h in
          let worse : Err why.Repeated ≡ Ok tt = bad in cc)
      by false e h = let here : (if false then Err why.Repeated else scalar_may_take (look_up c x)) ≡ Ok tt = rw e at h in here

  turns_keep : (c : Scope) (turn : ℕ → Turn) → ((i : ℕ) (env : Env) → Shaped c env → Shaped c (turn i env))
      → (ns : List ℕ) (env : Env) → Shaped c env → Shaped c (model.folded turn ns env)
  turns_keep c turn each [] env shaped = shaped
  turns_keep c turn each (n ∷ ns) env shaped = turns_keep c turn each ns (turn n env) (each n env shaped)

  for_keeps : (x : Name) (low high : Expr) (xs : List Name) (rs : List Le) (ks : List Proved)
      → Keeps (types.stmt_step (s.For x low high xs rs (map types.stmt (stmts ks))))
      (model.run_step (s.For x low high xs rs (map model.run (stmts ks))))
  for_keeps x low high xs rs ks k c end env is shaped =
      let count = first_answered (types.at (Statement k) (types.counter x xs c)) _ end is in
      let from = first_answered (types.at (Statement k) (wanted Word (type_of low c))) _ end count.1.1 in
      let to = first_answered (types.at (Statement k) (wanted Word (type_of high c))) _ end from.1.1 in
      let once = first_answered (types.at (Statement k) (types.distinct_known c [] xs)) _ end to.1.1 in
      let facts = first_answered (types.at (Statement k) (types.facts rs (bind x (One Word) c))) _ end once.1.1 in
      let body = first_answered (types.in_turn (map types.stmt (stmts ks)) (next k, bind x (One Word) c)) _ end facts.1.1 in
      let kept = first_answered (types.at (Statement k) (types.kept xs c body.0.1)) _ end body.1.1 in
      let held = at_answered (Statement k) (types.kept xs c body.0.1) tt kept.1.0 in
      after_state body.0.0 c end _ kept.1.1
      (turns_keep c (model.loop_turn x xs (map model.run (stmts ks))) (λ i at_turn so_far.
      all_kept xs c body.0.1 (model.in_turn (map model.run (stmts ks)) (put x (arg.Word i) at_turn)) at_turn held
      (block_keeps ks (next k) (bind x (One Word) c) body.0 (put x (arg.Word i) at_turn) body.1.0
      (put_scalar c at_turn x Word (arg.Word i) so_far)) so_far)
      (model.numbers (eval low env) (eval high env)) env shaped)

  at_layer : (y : Stmt-F Stmt) → Keeps (types.stmt_step (map-Stmt Stmt types.Block types.stmt y))
      (model.run_step (map-Stmt Stmt Turn model.run y)) → IsKept (roll-Stmt y)
  at_layer y f k c end env is shaped =
      subst (λ (t : Turn). Shaped end.1 (t env)) (sym (fold-roll-Stmt Turn model.run_step y))
      (f k c end env (sym (ap (λ (b : types.Block). b (k, c)) (fold-roll-Stmt types.Block types.stmt_step y)) ∙ is) shaped)

  node : (y : Stmt-F Proved) → IsKept (roll-Stmt (map-Stmt Proved Stmt (λ k. k.0) y))
  node (s.Let x a) = at_layer (s.Let x a) (let_keeps x a)
  node (s.Put a i v) = at_layer (s.Put a i v) (put_keeps a i v)
  node (s.Move b a i v) = at_layer (s.Move b a i v) (move_keeps b a i v)
  node (s.If test xs rs ks ms) = at_layer (s.If test xs rs (stmts ks) (stmts ms)) (if_keeps test xs rs ks ms)
  node (s.For x low high xs rs ks) = at_layer (s.For x low high xs rs (stmts ks)) (for_keeps x low high xs rs ks)
  node (s.Map a x v) = at_layer (s.Map a x v) (map_keeps a x v)
  node (s.Fold t a x v) = at_layer (s.Fold t a x v) (fold_keeps t a x v)

  stmt_keeps : (w : Stmt) → IsKept w
  stmt_keeps = ind-Stmt IsKept (λ z y is. subst (λ w. IsKept (roll-Stmt w)) is (node y))

  pub body_keeps : (ws : List Stmt) → Keeps (types.in_turn (map types.stmt ws)) (model.in_turn (map model.run ws))
  body_keeps [] k c end env is shaped = after_state k c end env is shaped
  body_keeps (w ∷ ws) k c end env is shaped =
      let first = first_answered (types.stmt w (k, c)) _ end is in
      body_keeps ws first.0.0 first.0.1 end (model.run w env) first.1.1 (stmt_keeps w k c first.0 env first.1.0 shaped)
