-- The returned arrays of a well typed model have the kinds and lengths of their parameters' arguments.
use Rattle.std.proofs.Common.{◌≡◌, refl, sym, ◌∙◌, ap, subst, arith, ℕ, ◌+◌, ◌<◌, ◌≤◌, Bool, true, false, List, [], ◌∷◌, ◌++◌}
use Rattle.std.proofs.Common.{length, map, get_or, Option, Some, None, Ok, Err, ◌⊎◌, inl, inr, if◌then◌else◌, append_assoc}
use Rattle.std.proofs.Common.{length-append}
use Rattle.std.specs.Prelude.{slice_index_or, ⊤}
use Rattle.std.proofs.lemmas.Bool.{eqb-true}
use Rattle.std.proofs.lemmas.List.{append-nil, get_or_append_left}
use Rattle.std.proofs.Math.Seq.{get_or-append_seam}
use Rattle.rup_base.specs.declared.arg.Arg.{Arg}
use Rattle.rup_base.specs.declared.arg.Arg.TheVariants as arg
use Rattle.rup_base.specs.declared.refusal.TypePlace.TheVariants.{Params, Return}
use Rattle.rup_base.specs.declared.refusal.TypeWhy.TheVariants as why
use Rattle.model_syntax.specs.Answer.{◌>>=◌}
use Rattle.model_syntax.specs.Environment.{Env, value_of, put, number, size}
use Rattle.model_syntax.specs.Kinds.{is_length}
use Rattle.model_syntax.specs.Limits.{next}
use Rattle.model_syntax.specs.Names.{Name, same}
use Rattle.model_syntax.specs.Scope.{Scope, look_up, bind, same_type, array_in}
use Rattle.model_syntax.specs.Types as types
use Rattle.model_syntax.specs.Types.{Well}
use Rattle.model_syntax.specs.Value as model
use Rattle.model_syntax.specs.Value.{Meets, results}
use Rattle.model_syntax.specs.declared.expr.Scalar.{Scalar}
use Rattle.model_syntax.specs.declared.expr.Scalar.TheVariants.{Word, Byte, Flag}
use Rattle.model_syntax.specs.declared.scope.NameType.{NameType}
use Rattle.model_syntax.specs.declared.scope.NameType.TheVariants.{Scalar as One, Array as Many}
use Rattle.model_syntax.specs.declared.program.Len.{Len}
use Rattle.model_syntax.specs.declared.program.Len.TheVariants.{Fixed, Named}
use Rattle.model_syntax.specs.declared.program.Param.{Param}
use Rattle.model_syntax.specs.declared.program.Param.TheVariants as param
use Rattle.model_syntax.specs.declared.program.Ret.{Ret}
use Rattle.model_syntax.specs.declared.program.Ret.TheVariants as ret
use Rattle.model_syntax.specs.declared.program.Model.{Model}
use Rattle.model_syntax.proofs.laws.Answered.{first_answered, at_answered, answer_is}
use Rattle.model_syntax.proofs.laws.Arrays.{and_parts}
use Rattle.model_syntax.proofs.laws.Bindings.{same_is, same_self, value_here, value_else, up_else, up_here}
use Rattle.run_setup.specs.Arguments.{array_limit}
use Rattle.run_setup.specs.Judging.{size_of, total_size}
use Rattle.model_syntax.specs.Entries.{param_name, number_among, result_place}
use Rattle.run_setup.proofs.Symbols.{among_before, among_last, among_none, none_before, declare_is, registers_is, AllFit}
use Rattle.run_setup.proofs.laws.Meeting.{fit_all, counts_ok}
use Rattle.run_setup.proofs.Shapes.{type_same, HasShape, array_of, len_of, Shaped, body_keeps}

-- an array has the kind and the length of another
abbrev pub IsLike : Arg → Arg → Type 0
IsLike (arg.Bytes old) (arg.Bytes bytes) = length bytes ≡ length old
IsLike (arg.Words old) (arg.Words words) = length words ≡ length old
IsLike old result = ⊥

-- each returned array is like its parameter's argument
abbrev pub AreLike : List (Option ℕ) → List Arg → List Arg → Type 0
AreLike (None ∷ rets) args (result ∷ results) = AreLike rets args results
AreLike (Some p ∷ rets) args (result ∷ results) = IsLike (slice_index_or args p (arg.Word 0)) result × AreLike rets args results
AreLike rets args results = ⊤

abbrev numbers : Env → Name → ℕ
numbers env x = number (value_of env x)

-- a name in scope
abbrev InScope : Scope → Name → Type 0
InScope c x = look_up c x ≡ None → ⊥

-- the name of a length is in scope
abbrev LengthKnown : Scope → Len → Type 0
LengthKnown c (Fixed n) = Unit {0}
LengthKnown c (Named x) = InScope c x

-- an array in scope is an argument, of its type and length
record IsGiven (c : Scope) (env : Env) (names : List Name) (args : List Arg) (x : Name) (t : Scalar) (k : Len) : Type 0 where
  value : Arg
  held : value_of env x ≡ Some value
  listed : number_among x names < length names
  given : get_or args (number_among x names) (arg.Word 0) ≡ value
  shape : HasShape t (len_of (numbers env) k) value
  known : LengthKnown c k

record Begun (c : Scope) (env : Env) (names : List Name) (args : List Arg) : Type 0 where
  sizes : length args ≡ length names
  arrays : (x : Name) (t : Scalar) (k : Len) → look_up c x ≡ Some (Many t k) → IsGiven c env names args x t k
  others : (x : Name) → look_up c x ≡ None → number_among x names ≡ length names

-- names in scope keep their values, and stay in scope
abbrev Kept : Scope → Scope → Env → Env → Type 0
Kept c after env env_after = (y : Name) → InScope c y → (value_of env_after y ≡ value_of env y) × InScope after y

bound_kept : (c : Scope) (env : Env) (p : Name) (t : NameType) (v : Arg) → look_up c p ≡ None
    → Kept c (bind p t c) env (put p v env)
bound_kept c env p t v fresh y known = by (same p y) refl
  where
    by : (is : Bool) → same p y ≡ is → (value_of (put p v env) y ≡ value_of env y) × InScope (bind p t c) y
    by true is = absurd (known (ap (look_up c) (sym (same_is p y is)) ∙ fresh))
    by false is = (value_else p y v env is, λ none. known (sym (up_else c p y t is) ∙ none))

kept_then : (c middle after : Scope) (env env_middle env_after : Env) → Kept c middle env env_middle
    → Kept middle after env_middle env_after → Kept c after env env_after
kept_then c middle after env env_middle env_after one two y known =
    let first = one y known in
    let second = two y first.1 in
    (second.0 ∙ first.0, second.1)

length_kept : (c after : Scope) (env env_after : Env) (k : Len) → Kept c after env env_after → LengthKnown c k
    → (len_of (numbers env_after) k ≡ len_of (numbers env) k) × LengthKnown after k
length_kept c after env env_after (Fixed n) kept known = (refl, tt)
length_kept c after env env_after (Named x) kept known = let both = kept x known in (ap number both.0, both.1)

record IsNew (after : Scope) (env : Env) (p : Name) (v : Arg) (y : Name) (t : Scalar) (k : Len) : Type 0 where
  name : same p y ≡ true
  held : value_of env y ≡ Some v
  shape : HasShape t (len_of (numbers env) k) v
  known : LengthKnown after k

in_scope : (o : Option NameType) (t : Scalar) (k : Len) → o ≡ Some (Many t k) → o ≡ None → ⊥
in_scope o t k is none = absurd (let bad : None ≡ Some (Many t k) = sym none ∙ is in cc)

extended : (c after : Scope) (env env_after : Env) (names : List Name) (args : List Arg) (p : Name) (v : Arg) → look_up c p ≡ None
    → ((y : Name) → look_up after y ≡ None → (same p y ≡ false) × (look_up c y ≡ None))
    → Kept c after env env_after
    → ((y : Name) (t : Scalar) (k : Len) → look_up after y ≡ Some (Many t k)
    → (look_up c y ≡ Some (Many t k)) ⊎ IsNew after env_after p v y t k)
    → Begun c env names args → Begun after env_after (names ++ p ∷ []) (args ++ v ∷ [])
extended c after env env_after names args p v fresh below kept arrays b =
    record {
      sizes = omega (arith, length-append args (v ∷ []), length-append names (p ∷ []), b.sizes);
      arrays = λ y t k found. by y t k (arrays y t k found);
      others = λ y none. let before = below y none in among_none y p names (b.others y before.1) before.0;
    }
  where
    by : (y : Name) (t : Scalar) (k : Len) → (look_up c y ≡ Some (Many t k)) ⊎ IsNew after env_after p v y t k
        → IsGiven after env_after (names ++ p ∷ []) (args ++ v ∷ []) y t k
    by y t k (inl found) =
        let old = b.arrays y t k found in
        let same_value = kept y (in_scope (look_up c y) t k found) in
        let place : number_among y (names ++ p ∷ []) ≡ number_among y names = among_before y p names old.listed in
        let lengths = length_kept c after env env_after k kept old.known in
        record {
          value = old.value;
          held = same_value.0 ∙ old.held;
          listed = omega (arith, place, old.listed, length-append names (p ∷ []));
          given = ap (λ (n : ℕ). get_or (args ++ v ∷ []) n (arg.Word 0)) place
              ∙ get_or_append_left args (v ∷ []) (arg.Word 0) (number_among y names) (omega (arith, old.listed, b.sizes))
              ∙ old.given;
          shape = subst (λ (n : ℕ). HasShape t n old.value) (sym lengths.0) old.shape;
          known = lengths.1;
        }
    by y t k (inr new) =
        let absent : look_up c y ≡ None = ap (look_up c) (sym (same_is p y new.name)) ∙ fresh in
        let place : number_among y (names ++ p ∷ []) ≡ length names = among_last y p names (b.others y absent) new.name in
        let last : number_among y (names ++ p ∷ []) ≡ length args = place ∙ sym b.sizes in
        record {
          value = v;
          held = new.held;
          listed = omega (arith, place, length-append names (p ∷ []));
          given = ap (λ (n : ℕ). get_or (args ++ v ∷ []) n (arg.Word 0)) last ∙ get_or-append_seam args v [] (arg.Word 0);
          shape = new.shape;
          known = new.known;
        }

scalar_begun : (c : Scope) (env : Env) (names : List Name) (args : List Arg) (x : Name) (u : Scalar) (v : Arg)
    → look_up c x ≡ None
    → Begun c env names args → Begun (bind x (One u) c) (put x v env) (names ++ x ∷ []) (args ++ v ∷ [])
scalar_begun c env names args x u v fresh b =
    extended c (bind x (One u) c) env (put x v env) names args x v fresh (λ y none. none_before c x y (One u) none)
    (bound_kept c env x (One u) v fresh) arrays b
  where
    arrays : (y : Name) (t : Scalar) (k : Len) → look_up (bind x (One u) c) y ≡ Some (Many t k)
        → (look_up c y ≡ Some (Many t k)) ⊎ IsNew (bind x (One u) c) (put x v env) x v y t k
    arrays y t k found = by (same x y) refl
      where
        by : (is : Bool) → same x y ≡ is → (look_up c y ≡ Some (Many t k)) ⊎ IsNew (bind x (One u) c) (put x v env) x v y t k
        by true is = absurd (let bad : Some (One u) ≡ Some (Many t k) = sym (up_here c x y (One u) is) ∙ found in cc)
        by false is = inl (sym (up_else c x y (One u) is) ∙ found)

same_many : (t u : Scalar) (k l : Len) → Some (Many u l) ≡ Some (Many t k) → (u ≡ t) × (l ≡ k)
same_many t u k l is = (cc, cc)

-- an array of a fixed length
fixed_begun : (c : Scope) (env : Env) (names : List Name) (args : List Arg) (a : Name) (u : Scalar) (n : ℕ) (v : Arg)
    → look_up c a ≡ None → HasShape u n v
    → Begun c env names args → Begun (bind a (Many u (Fixed n)) c) (put a v env) (names ++ a ∷ []) (args ++ v ∷ [])
fixed_begun c env names args a u n v fresh shape b =
    extended c (bind a (Many u (Fixed n)) c) env (put a v env) names args a v fresh
    (λ y none. none_before c a y (Many u (Fixed n)) none) (bound_kept c env a (Many u (Fixed n)) v fresh) arrays b
  where
    arrays : (y : Name) (t : Scalar) (k : Len) → look_up (bind a (Many u (Fixed n)) c) y ≡ Some (Many t k)
        → (look_up c y ≡ Some (Many t k)) ⊎ IsNew (bind a (Many u (Fixed n)) c) (put a v env) a v y t k
    arrays y t k found = by (same a y) refl
      where
        by : (is : Bool) → same a y ≡ is
            → (look_up c y ≡ Some (Many t k)) ⊎ IsNew (bind a (Many u (Fixed n)) c) (put a v env) a v y t k
        by true is =
            let types_are = same_many t u k (Fixed n) (sym (up_here c a y (Many u (Fixed n)) is) ∙ found) in
            inr
            (record {
              name = is;
              held = ap (value_of (put a v env)) (sym (same_is a y is)) ∙ value_here a v env;
              shape = subst (λ (j : Len). HasShape t (len_of (numbers (put a v env)) j) v) types_are.1
                  (subst (λ (w : Scalar). HasShape w n v) types_are.0 shape);
              known = subst (λ (j : Len). LengthKnown (bind a (Many u (Fixed n)) c) j) types_are.1 tt;
            })
        by false is = inl (sym (up_else c a y (Many u (Fixed n)) is) ∙ found)

-- an array whose length has a name
named_begun : (c : Scope) (env : Env) (names : List Name) (args : List Arg) (a x : Name) (u : Scalar) (n : ℕ) (v : Arg)
    → look_up c a ≡ None
    → look_up (bind a (Many u (Named x)) c) x ≡ None → HasShape u n v
    → Begun c env names args → Begun (bind x (One Word) (bind a (Many u (Named x)) c)) (put x (arg.Word n) (put a v env))
    (names ++ a ∷ []) (args ++ v ∷ [])
named_begun c env names args a x u n v fresh fresh_length shape b =
    extended c after env env_after names args a v fresh
    (λ y none. none_before c a y (Many u (Named x)) (none_before middle x y (One Word) none).1)
    (kept_then c middle after env (put a v env) env_after (bound_kept c env a (Many u (Named x)) v fresh)
    (bound_kept middle (put a v env) x (One Word) (arg.Word n) fresh_length)) arrays b
  where
    middle : Scope
    middle = bind a (Many u (Named x)) c

    after : Scope
    after = bind x (One Word) (bind a (Many u (Named x)) c)

    env_after : Env
    env_after = put x (arg.Word n) (put a v env)

    arrays : (y : Name) (t : Scalar) (k : Len) → look_up after y ≡ Some (Many t k)
        → (look_up c y ≡ Some (Many t k)) ⊎ IsNew after env_after a v y t k
    arrays y t k found = by (same x y) refl (same a y) refl
      where
        by : (here : Bool) → same x y ≡ here → (is : Bool) → same a y ≡ is
            → (look_up c y ≡ Some (Many t k)) ⊎ IsNew after env_after a v y t k
        by true here is at = absurd (let bad : Some (One Word) ≡ Some (Many t k) = sym (up_here middle x y (One Word) here)
            ∙ found in cc)
        by false here true at =
            let types_are = same_many t u k (Named x)
            (sym (up_here c a y (Many u (Named x)) at) ∙ sym (up_else middle x y (One Word) here) ∙ found) in
            let length_is : n ≡ numbers env_after x = sym (ap number (value_here x (arg.Word n) (put a v env))) in
            let shape_named : HasShape u (len_of (numbers env_after) (Named x)) v =
            subst (λ (j : ℕ). HasShape u j v) length_is shape in
            let known_named : LengthKnown after (Named x) =
            λ none. absurd (let bad : Some (One Word) ≡ None = sym (up_here middle x x (One Word) (same_self x)) ∙ none in
            cc) in
            inr
            (record {
              name = at;
              held = value_else x y (arg.Word n) (put a v env) here ∙ ap (value_of (put a v env)) (sym (same_is a y at))
                  ∙ value_here a v env;
              shape = subst (λ (j : Len). HasShape t (len_of (numbers env_after) j) v) types_are.1
                  (subst (λ (w : Scalar). HasShape w (len_of (numbers env_after) (Named x)) v) types_are.0 shape_named);
              known = subst (λ (j : Len). LengthKnown after j) types_are.1 known_named;
            })
        by false here false at = inl (sym (up_else c a y (Many u (Named x)) at) ∙ sym (up_else middle x y (One Word) here)
            ∙ found)

-- an array has the length of its parameter
abbrev has_length : Len → ℕ → Bool
has_length (Fixed n) = is_length (Some n)
has_length (Named x) = is_length None

bytes_length : (a : Name) (k : Len) (ns : List ℕ) → model.fits (param.Bytes a k) (arg.Bytes ns) ≡ true
    → has_length k (length ns) ≡ true
bytes_length a (Fixed n) ns fits = (and_parts (is_length (Some n) (length ns)) _ fits).0
bytes_length a (Named x) ns fits = (and_parts (is_length None (length ns)) _ fits).0

words_length : (a : Name) (k : Len) (ns : List ℕ) → model.fits (param.Words a k) (arg.Words ns) ≡ true
    → has_length k (length ns) ≡ true
words_length a (Fixed n) ns fits = (and_parts (is_length (Some n) (length ns)) _ fits).0
words_length a (Named x) ns fits = (and_parts (is_length None (length ns)) _ fits).0

-- an array parameter
array_begun : (c end : Scope) (env : Env) (names : List Name) (args : List Arg) (a : Name) (u : Scalar) (k : Len) (ns : List ℕ)
    (v : Arg)
    → (types.declare a (Many u k) c >>= (λ d. types.declare_length k d)) ≡ Ok end → has_length k (length ns) ≡ true
    → length ns ≤ array_limit → HasShape u (length ns) v
    → Begun c env names args → Begun end (model.bind_length k (size ns) (put a v env)) (names ++ a ∷ []) (args ++ v ∷ [])
array_begun c end env names args a u (Fixed n) ns v is fits small shape b =
    let first = first_answered (types.declare a (Many u (Fixed n)) c) _ end is in
    let parts = declare_is a (Many u (Fixed n)) c first.0 first.1.0 in
    let scope_is : bind a (Many u (Fixed n)) c ≡ end = parts.1 ∙ answer_is first.0 end first.1.1 in
    let length_is : length ns ≡ n = sym (eqb-true n (length ns) fits) in
    subst (λ (z : Scope). Begun z (put a v env) (names ++ a ∷ []) (args ++ v ∷ [])) scope_is
    (fixed_begun c env names args a u n v parts.0 (subst (λ (j : ℕ). HasShape u j v) length_is shape) b)
array_begun c end env names args a u (Named x) ns v is fits small shape b =
    let first = first_answered (types.declare a (Many u (Named x)) c) _ end is in
    let parts = declare_is a (Many u (Named x)) c first.0 first.1.0 in
    let second = declare_is x (One Word) first.0 end first.1.1 in
    let fresh_length : look_up (bind a (Many u (Named x)) c) x ≡ None = ap (λ (z : Scope). look_up z x) parts.1 ∙ second.0 in
    let scope_is : bind x (One Word) (bind a (Many u (Named x)) c) ≡ end = ap (bind x (One Word)) parts.1 ∙ second.1 in
    let word : length ns ≡ size ns = omega (arith, small) in
    subst (λ (z : Scope). Begun z (put x (arg.Word (size ns)) (put a v env)) (names ++ a ∷ []) (args ++ v ∷ [])) scope_is
    (named_begun c env names args a x u (size ns) v parts.0 fresh_length (subst (λ (j : ℕ). HasShape u j v) word shape) b)

param_begun : (p : Param) (v : Arg) (c end : Scope) (env : Env) (names : List Name) (args : List Arg)
    → types.declare_param p c ≡ Ok end → model.fits p v ≡ true → size_of v ≤ array_limit → Begun c env names args
    → Begun end (model.bind_argument p v env) (names ++ param_name p ∷ []) (args ++ v ∷ [])
param_begun (param.Word x) v c end env names args is fits small b =
    let parts = declare_is x (One Word) c end is in
    subst (λ (z : Scope). Begun z (put x v env) (names ++ x ∷ []) (args ++ v ∷ [])) parts.1
    (scalar_begun c env names args x Word v parts.0 b)
param_begun (param.Byte x) v c end env names args is fits small b =
    let parts = declare_is x (One Byte) c end is in
    subst (λ (z : Scope). Begun z (put x v env) (names ++ x ∷ []) (args ++ v ∷ [])) parts.1
    (scalar_begun c env names args x Byte v parts.0 b)
param_begun (param.Bytes a k) (arg.Bytes ns) c end env names args is fits small b =
    array_begun c end env names args a Byte k ns (arg.Bytes ns) is (bytes_length a k ns fits) small refl b
param_begun (param.Words a k) (arg.Words ns) c end env names args is fits small b =
    array_begun c end env names args a Word k ns (arg.Words ns) is (words_length a k ns fits) (omega (arith, small)) refl b
param_begun (param.Bytes a (Fixed m)) (arg.Word n) c end env names args is fits small b =
    absurd (let bad : false ≡ true = fits in cc)
param_begun (param.Bytes a (Named x)) (arg.Word n) c end env names args is fits small b =
    absurd (let bad : false ≡ true = fits in cc)
param_begun (param.Bytes a (Fixed m)) (arg.Words ns) c end env names args is fits small b =
    absurd (let bad : false ≡ true = fits in cc)
param_begun (param.Bytes a (Named x)) (arg.Words ns) c end env names args is fits small b =
    absurd (let bad : false ≡ true = fits in cc)
param_begun (param.Words a (Fixed m)) (arg.Word n) c end env names args is fits small b =
    absurd (let bad : false ≡ true = fits in cc)
param_begun (param.Words a (Named x)) (arg.Word n) c end env names args is fits small b =
    absurd (let bad : false ≡ true = fits in cc)
param_begun (param.Words a (Fixed m)) (arg.Bytes ns) c end env names args is fits small b =
    absurd (let bad : false ≡ true = fits in cc)
param_begun (param.Words a (Named x)) (arg.Bytes ns) c end env names args is fits small b =
    absurd (let bad : false ≡ true = fits in cc)

all_begun : (ps : List Param) (vs : List Arg) (c end : Scope) (env : Env) (names : List Name) (args : List Arg)
    → types.declare_params ps c ≡ Ok end → AllFit ps vs → total_size vs ≤ array_limit → Begun c env names args
    → Begun end (model.start ps vs env) (names ++ map param_name ps) (args ++ vs)
all_begun [] [] c end env names args is fit small b =
    let same_scope : c ≡ end = answer_is c end is in
    rw (append-nil names, append-nil args, ← same_scope) b
all_begun (p ∷ ps) (v ∷ vs) c end env names args is fit small b =
    let one = first_answered (types.declare_param p c) _ end is in
    let room = first_answered (types.registers one.0) _ end one.1.1 in
    let kept : one.0 ≡ room.0 = registers_is one.0 room.0 room.1.0 in
    let here : Begun one.0 (model.bind_argument p v env) (names ++ param_name p ∷ []) (args ++ v ∷ []) =
    param_begun p v c one.0 env names args one.1.0 fit.0 (omega (arith, small)) b in
    let all = all_begun ps vs room.0 end (model.bind_argument p v env) (names ++ param_name p ∷ []) (args ++ v ∷ []) room.1.1
    fit.1 (omega (arith, small)) (rw (← kept) here) in
    let names_are : names ++ (param_name p ∷ map param_name ps) ≡ (names ++ param_name p ∷ []) ++ map param_name ps =
    sym (append_assoc names (param_name p ∷ []) (map param_name ps)) in
    let args_are : args ++ (v ∷ vs) ≡ (args ++ v ∷ []) ++ vs = sym (append_assoc args (v ∷ []) vs) in
    rw (names_are, args_are) all
all_begun [] (v ∷ vs) c end env names args is fit small b = absurd fit
all_begun (p ∷ ps) [] c end env names args is fit small b = absurd fit

none_begun : Begun [] [] [] []
none_begun =
    record {
      sizes = refl;
      arrays = λ x t k found. absurd (let bad : None ≡ Some (Many t k) = found in cc);
      others = λ x none. refl;
    }

-- Results.

shapes_like : (t : Scalar) (n : ℕ) (old new : Arg) → HasShape t n old → HasShape t n new → IsLike old new
shapes_like Byte n (arg.Bytes old) (arg.Bytes new) one two = two ∙ sym one
shapes_like Word n (arg.Words old) (arg.Words new) one two = two ∙ sym one
shapes_like Byte n (arg.Bytes old) (arg.Word new) one two = absurd two
shapes_like Byte n (arg.Bytes old) (arg.Words new) one two = absurd two
shapes_like Word n (arg.Words old) (arg.Word new) one two = absurd two
shapes_like Word n (arg.Words old) (arg.Bytes new) one two = absurd two
shapes_like Byte n (arg.Word old) new one two = absurd one
shapes_like Byte n (arg.Words old) new one two = absurd one
shapes_like Word n (arg.Word old) new one two = absurd one
shapes_like Word n (arg.Bytes old) new one two = absurd one
shapes_like Flag n old new one two = absurd one

record SameArray (start c : Scope) (a p : Name) : Type 0 where
  type : Scalar
  length : Len
  at_end : look_up c a ≡ Some (Many type length)
  at_start : look_up start p ≡ Some (Many type length)

abbrev owned : NameType → NameType → types.Rule
owned t u = if same_type t u then Ok tt else Err why.Owner

owner_same : (t u : NameType) → owned t u ≡ Ok tt → t ≡ u
owner_same t u is = by (same_type t u) refl is
  where
    by : (test : Bool) → same_type t u ≡ test → owned t u ≡ Ok tt → t ≡ u
    by true e h = type_same t u e
    by false e h = absurd (let bad : (if false then Ok tt else Err why.Owner) ≡ Ok tt = rw e at h in let worse : Err why.Owner
        ≡ Ok tt = bad in cc)

result_typed : (start c : Scope) (before : List Ret) (a p : Name) → types.result start c before (ret.Array a p) ≡ Ok tt
    → SameArray start c a p
result_typed start c before a p is =
    let one = first_answered (array_in (look_up c a)) _ tt is in
    let once = first_answered (types.once (types.returned before) p) _ tt one.1.1 in
    let two = first_answered (array_in (look_up start p)) _ tt once.1.1 in
    let end = array_of (look_up c a) one.0 one.1.0 in
    let begin = array_of (look_up start p) two.0 two.1.0 in
    let same : one.0 ≡ two.0 = owner_same one.0 two.0 two.1.1 in
    record { type = end.0; length = end.1; at_end = end.2.1; at_start = begin.2.1 ∙ ap Some (sym begin.2.0 ∙ sym same ∙ end.2.0) }

all_like : (start c : Scope) (begun env : Env) (ps : List Param) (args : List Arg) (k : ℕ) (before rets : List Ret)
    → types.results start c k before rets ≡ Ok tt → Begun start begun (map param_name ps) args → Shaped (numbers begun) c env
    → AreLike (map (result_place ps) rets) args (map (model.result_of env) rets)
all_like start c begun env ps args k before [] is b shaped = tt
all_like start c begun env ps args k before (ret.Scalar x ∷ rets) is b shaped =
    let one = first_answered (types.at (Return k) (types.result start c before (ret.Scalar x))) _ tt is in
    all_like start c begun env ps args (next k) (before ++ ret.Scalar x ∷ []) rets one.1.1 b shaped
all_like start c begun env ps args k before (ret.Array a p ∷ rets) is b shaped =
    let one = first_answered (types.at (Return k) (types.result start c before (ret.Array a p))) _ tt is in
    let array = result_typed start c before a p (at_answered (Return k) (types.result start c before (ret.Array a p)) tt one.1.0)
    in
    let old = b.arrays p array.type array.length array.at_start in
    let new = shaped a array.type array.length array.at_end in
    let like : IsLike old.value new.value =
    shapes_like array.type (len_of (numbers begun) array.length) old.value new.value old.shape new.shape in
    let placed : IsLike (get_or args (number_among p (map param_name ps)) (arg.Word 0)) new.value =
    subst (λ (v : Arg). IsLike v new.value) (sym old.given) like in
    let found : model.result_of env (ret.Array a p)
    ≡ new.value = ap (λ (o : Option Arg). elim o [ Some v ↦ v | None ↦ arg.Word 0 ]) new.held in (
      subst (λ (v : Arg). IsLike (get_or args (number_among p (map param_name ps)) (arg.Word 0)) v) (sym found) placed,
      all_like
          start c begun env ps args (next k) (before ++ ret.Array a p ∷ []) rets one.1.1 b shaped,
    )

pub results_like : (m : Model) (args : List Arg) → Well m → Meets m args → total_size args ≤ array_limit
    → AreLike (map (result_place m.params) m.rets) args (results m args)
results_like m args well meets small =
    let count = first_answered (model.counts m.params args) _ tt meets in
    let fit = first_answered (model.fit 0 m.params args) _ tt count.1.1 in
    let all_fit : AllFit m.params args = fit_all 0 m.params args (counts_ok m.params args count.0 count.1.0) fit.1.0 in
    let start = first_answered (types.at Params (types.declare_params m.params [])) _ tt well in
    let required = first_answered (types.requirements 0 m.requires_ start.0) _ tt start.1.1 in
    let end = first_answered (types.in_turn (map types.stmt m.body) (0, start.0)) _ tt required.1.1 in
    let declared : types.declare_params m.params []
    ≡ Ok start.0 = at_answered Params (types.declare_params m.params []) start.0 start.1.0 in
    let begun_env : Env = model.start m.params args [] in
    let begun : Begun start.0 begun_env (map param_name m.params) args =
    all_begun m.params args [] start.0 [] [] [] declared all_fit small none_begun in
    let shaped : Shaped (numbers begun_env) start.0 begun_env =
    λ x t k found. let g = begun.arrays x t k found in record { value = g.value; held = g.held; shape = g.shape } in
    let ended : Shaped (numbers begun_env) end.0.1 (model.end_of m args) =
    body_keeps (numbers begun_env) m.body 0 start.0 end.0 begun_env end.1.0 shaped in
    all_like start.0 end.0.1 begun_env (model.end_of m args) m.params args 0 [] m.rets end.1.1 begun ended
