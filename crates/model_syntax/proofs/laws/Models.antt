-- A well typed model gives results of their kinds, and nothing is cut in it.
use Rattle.std.proofs.Common.{◌≡◌, refl, sym, ◌∙◌, ap, subst, ℕ, nat_eq, Bool, true, false, ◌&&◌, List, [], ◌∷◌, ◌++◌, length}
use Rattle.std.proofs.Common.{map, Option, Some, None, Result, Ok, Err, IsTrue, if◌then◌else◌}
use Rattle.rup_base.specs.Gather.{all_true}
use Rattle.rup_base.specs.Name.{is_name}
use Rattle.rup_base.specs.declared.arg.Arg.{Arg}
use Rattle.rup_base.specs.declared.arg.Arg.TheVariants as arg
use Rattle.rup_base.specs.declared.arg.Kind.TheVariants as kind
use Rattle.rup_base.specs.declared.refusal.TypePlace.TheVariants.{Params, Return}
use Rattle.rup_base.specs.declared.refusal.TypeWhy.TheVariants as why
use Rattle.model_syntax.specs.Answer.{◌>>=◌}
use Rattle.model_syntax.specs.Environment.{Env, value_of, put, number, elements, size, with_element, with_each}
use Rattle.model_syntax.specs.Formed.{param_formed, len_formed, facts_formed, stmt_formed, ret_formed, model_formed}
use Rattle.model_syntax.specs.Kinds.{is_word, is_byte, is_of_kind}
use Rattle.model_syntax.specs.Limits.{next}
use Rattle.model_syntax.specs.Names.{Name, same}
use Rattle.model_syntax.specs.Scope.{Scope, look_up, bind, same_type, scalar_in, array_in, element_in}
use Rattle.model_syntax.specs.Sound.{is_number, is_array, is_of_type, length_of, HasValue, IsTyped, NothingIsCut, ArrayLaw}
use Rattle.model_syntax.specs.Sound.{scope_after, end_scope, kind_of_value, IsScalar, IsArrayOf, AreResults, IsSound, ModelLaw}
use Rattle.model_syntax.specs.Spelling.{Spellable, stmt_spellable}
use Rattle.model_syntax.specs.Types as types
use Rattle.model_syntax.specs.Types.{Well}
use Rattle.model_syntax.specs.Value as model
use Rattle.model_syntax.specs.Value.{Meets, eval, element_of, results}
use Rattle.model_syntax.specs.declared.expr.Scalar.{Scalar}
use Rattle.model_syntax.specs.declared.expr.Scalar.TheVariants.{Word, Byte, Flag}
use Rattle.model_syntax.specs.declared.scope.NameType.{NameType}
use Rattle.model_syntax.specs.declared.scope.NameType.TheVariants.{Scalar as One, Array as Many}
use Rattle.model_syntax.specs.declared.program.Len.{Len}
use Rattle.model_syntax.specs.declared.program.Len.TheVariants.{Fixed, Named}
use Rattle.model_syntax.specs.declared.program.Param.{Param}
use Rattle.model_syntax.specs.declared.program.Param.TheVariants as param
use Rattle.model_syntax.specs.declared.program.Ret.{Ret}
use Rattle.model_syntax.specs.declared.program.Ret.TheVariants as ret
use Rattle.model_syntax.specs.declared.program.Model.{Model}
use Rattle.model_syntax.proofs.laws.Answered.{first_answered, at_answered, answer_is}
use Rattle.model_syntax.proofs.laws.Arguments.{declare_is, registers_is, none_before, AllFit, fit_all, counts_ok}
use Rattle.model_syntax.proofs.laws.Arrays.{and_parts, and_both, element_put, elements_mapped, size_whole, words_are, bytes_are}
use Rattle.model_syntax.proofs.laws.Arrays.{array_like}
use Rattle.model_syntax.proofs.laws.Bindings.{same_is, same_self, up_here, up_else}
use Rattle.model_syntax.proofs.laws.Expressions.{scalar_is, scalar_value, array_value, expressions_sound}
use Rattle.model_syntax.proofs.laws.Statements.{some_is, type_same, array_of, bound_typed, element_typed, body_keeps}

-- Arrays.

pub nothing_is_cut : ArrayLaw
nothing_is_cut numbers c env typed a t found =
    let h = array_value numbers c env typed a t found in
    record {
      lengths = rw h.2.0 (size_whole t h.0 h.1 h.2.1).0;
      elements_put = λ i e formed spelled of_type.
          rw h.2.0 (element_put t h.0 i (eval e env) h.1 h.2.1
          (expressions_sound numbers c env typed e formed spelled t of_type)).whole;
      elements_mapped = λ x e formed spelled of_type.
          rw h.2.0 (elements_mapped t h.0 (element_of x e env) h.1 h.2.1
          (element_typed numbers c env x e t t formed spelled of_type typed)).whole;
    }

-- The start.

-- each name in scope has a value of its type, and the names of lengths are in scope
record Begun (numbers : Name → ℕ) (c : Scope) (env : Env) : Type 0 where
  typed : IsTyped numbers c env
  known : (y x : Name) (t : Scalar) → look_up c y ≡ Some (Many t (Named x)) → look_up c x ≡ None → ⊥

abbrev BeginsSome : Scope → Env → Type 0
BeginsSome c env = (numbers : Name → ℕ) × Begun numbers c env

some_types : (t u : NameType) → Some t ≡ Some u → t ≡ u
some_types t u is = cc

length_named : (t u : Scalar) (k : Len) (x : Name) → Some (Many u k) ≡ Some (Many t (Named x)) → k ≡ Named x
length_named t u k x is = cc

named_is : (x y : Name) → Named x ≡ Named y → x ≡ y
named_is x y is = cc

-- names that were in scope are, and the length of a new one is in scope too
known_after : (c : Scope) (a : Name) (u : NameType)
    → ((y x : Name) (t : Scalar) → look_up c y ≡ Some (Many t (Named x)) → look_up c x ≡ None → ⊥)
    → ((x : Name) (t : Scalar) → u ≡ Many t (Named x) → look_up (bind a u c) x ≡ None → ⊥)
    → (y x : Name) (t : Scalar) → look_up (bind a u c) y ≡ Some (Many t (Named x)) → look_up (bind a u c) x ≡ None → ⊥
known_after c a u known new y x t found none = by (same a y) refl
  where
    by : (here : Bool) → same a y ≡ here → ⊥
    by true here = new x t (some_types u (Many t (Named x)) (sym (up_here c a y u here) ∙ found)) none
    by false here = known y x t (sym (up_else c a y u here) ∙ found) (none_before c a x u none).1

scalar_begun : (numbers : Name → ℕ) (c : Scope) (env : Env) (x : Name) (u : Scalar) (v : Arg)
    → is_of_type numbers (One u) v ≡ true
    → Begun numbers c env → Begun numbers (bind x (One u) c) (put x v env)
scalar_begun numbers c env x u v is b =
    record {
      typed = bound_typed numbers c env x (One u) v is b.typed;
      known = known_after c x (One u) b.known (λ z t same_type none. absurd (cc));
    }

fixed_begun : (numbers : Name → ℕ) (c : Scope) (env : Env) (a : Name) (u : Scalar) (n : ℕ) (v : Arg) → is_array u n v ≡ true
    → Begun numbers c env → Begun numbers (bind a (Many u (Fixed n)) c) (put a v env)
fixed_begun numbers c env a u n v is b =
    record {
      typed = bound_typed numbers c env a (Many u (Fixed n)) v is b.typed;
      known = known_after c a (Many u (Fixed n)) b.known (λ z t same_type none. absurd (cc));
    }

module _ (x : Name) (n : ℕ) (numbers : Name → ℕ) where
  abbrev renumbered : Name → ℕ
  renumbered y = if same x y then n else numbers y

  -- a name that is in no type may have another number
  value_kept : (t : NameType) (v : Arg) → ((z : Name) (u : Scalar) → t ≡ Many u (Named z) → same x z ≡ false)
      → is_of_type numbers t v ≡ true → is_of_type renumbered t v ≡ true
  value_kept (One u) (arg.Word k) apart is = is
  value_kept (One u) (arg.Bytes ns) apart is = is
  value_kept (One u) (arg.Words ns) apart is = is
  value_kept (Many u (Fixed k)) v apart is = is
  value_kept (Many u (Named z)) v apart is = rw (apart z u refl) is

  all_kept : (c : Scope) (env : Env) → look_up c x ≡ None → Begun numbers c env → IsTyped renumbered c env
  all_kept c env fresh b y t found =
      let h = b.typed y t found in
      record { value = h.value; held = h.held; typed = value_kept t h.value (λ z u is. apart z u is (same x z) refl) h.typed }
    where
      apart : (z : Name) (u : Scalar) → t ≡ Many u (Named z) → (at_x : Bool) → same x z ≡ at_x → same x z ≡ false
      apart z u is true at_x = absurd (b.known y z u (found ∙ ap Some is) (ap (look_up c) (sym (same_is x z at_x)) ∙ fresh))
      apart z u is false at_x = at_x

  -- an array whose length has a name
  named_begun : (c : Scope) (env : Env) (a : Name) (u : Scalar) (v : Arg) → look_up c x ≡ None → is_array u n v ≡ true
      → is_word n ≡ true
      → Begun numbers c env → Begun renumbered (bind x (One Word) (bind a (Many u (Named x)) c))
      (put x (arg.Word n) (put a v env))
  named_begun c env a u v fresh array word b =
      let value : is_of_type renumbered (Many u (Named x)) v ≡ true = rw (same_self x) array in
      record {
        typed = bound_typed renumbered middle (put a v env) x (One Word) (arg.Word n) word
            (bound_typed renumbered c env a (Many u (Named x)) v value (all_kept c env fresh b));
        known = known;
      }
    where
      middle : Scope
      middle = bind a (Many u (Named x)) c

      known : (y z : Name) (t : Scalar) → look_up (bind x (One Word) middle) y ≡ Some (Many t (Named z))
          → look_up (bind x (One Word) middle) z ≡ None → ⊥
      known y z t found none = by (same x y) refl (same a y) refl
        where
          outer : (same x z ≡ false) × (look_up middle z ≡ None)
          outer = none_before middle x z (One Word) none

          by : (at_x : Bool) → same x y ≡ at_x → (at_a : Bool) → same a y ≡ at_a → ⊥
          by true at_x is at_a = absurd (let bad : Some (One Word)
              ≡ Some (Many t (Named z)) = sym (up_here middle x y (One Word) at_x) ∙ found in cc)
          by false at_x true at_a =
              let types_are : Some (Many u (Named x)) ≡ Some (Many t (Named z)) = sym (up_here c a y (Many u (Named x)) at_a)
              ∙ sym (up_else middle x y (One Word) at_x) ∙ found in
              let names_are : x ≡ z = named_is x z (length_named t u (Named x) z types_are) in
              absurd (let bad : true ≡ false = sym (same_self x) ∙ ap (same x) names_are ∙ outer.0 in cc)
          by false at_x false at_a =
              b.known y z t (sym (up_else c a y (Many u (Named x)) at_a) ∙ sym (up_else middle x y (One Word) at_x) ∙ found)
              (none_before c a z (Many u (Named x)) outer.1).1

-- Parameters and their arguments.

word_value : (numbers : Name → ℕ) (v : Arg) → is_of_kind kind.Word v ≡ true → is_of_type numbers (One Word) v ≡ true
word_value numbers (arg.Word n) is = is
word_value numbers (arg.Bytes ns) is = is
word_value numbers (arg.Words ns) is = is

byte_value : (numbers : Name → ℕ) (v : Arg) → is_of_kind kind.Byte v ≡ true → is_of_type numbers (One Byte) v ≡ true
byte_value numbers (arg.Word n) is = is
byte_value numbers (arg.Bytes ns) is = is
byte_value numbers (arg.Words ns) is = is

array_begun : (numbers : Name → ℕ) (c end : Scope) (env : Env) (a : Name) (u : Scalar) (k : Len) (v : Arg) (ns : List ℕ)
    → (types.declare a (Many u k) c >>= (λ d. types.declare_length k d)) ≡ Ok end → elements (Some v) ≡ ns
    → ((n : ℕ) → k ≡ Fixed n → is_array u n v ≡ true) → ((x : Name) → k ≡ Named x → is_array u (length ns) v ≡ true)
    → Begun numbers c env → BeginsSome end (model.bind_length k (size ns) (put a v env))
array_begun numbers c end env a u (Fixed n) v ns is all fixed named b =
    let first = first_answered (types.declare a (Many u (Fixed n)) c) _ end is in
    let parts = declare_is a (Many u (Fixed n)) c first.0 first.1.0 in
    let scope_is : bind a (Many u (Fixed n)) c ≡ end = parts.1 ∙ answer_is first.0 end first.1.1 in
    (numbers, subst (λ (z : Scope). Begun numbers z (put a v env)) scope_is (fixed_begun numbers c env a u n v (fixed n refl) b))
array_begun numbers c end env a u (Named x) v ns is all fixed named b =
    let first = first_answered (types.declare a (Many u (Named x)) c) _ end is in
    let parts = declare_is a (Many u (Named x)) c first.0 first.1.0 in
    let second = declare_is x (One Word) first.0 end first.1.1 in
    let fresh : look_up (bind a (Many u (Named x)) c) x ≡ None = ap (λ (z : Scope). look_up z x) parts.1 ∙ second.0 in
    let scope_is : bind x (One Word) (bind a (Many u (Named x)) c) ≡ end = ap (bind x (One Word)) parts.1 ∙ second.1 in
    let array : is_array u (length ns) v ≡ true = named x refl in
    let sizes = size_whole u (length ns) v array in
    let size_is : size ns ≡ length ns = ap size (sym all) ∙ sizes.0 ∙ ap length all in
    let word : is_word (length ns) ≡ true = ap is_word (sym size_is) ∙ ap (λ (l : List ℕ). is_word (size l)) (sym all) ∙ sizes.1
    in
    let begun = named_begun x (length ns) numbers c env a u v (none_before c a x (Many u (Named x)) fresh).1 array word b in
    (renumbered x (length ns) numbers, rw (size_is, ← scope_is) begun)

param_begun : (p : Param) (v : Arg) (numbers : Name → ℕ) (c end : Scope) (env : Env) → param_formed p ≡ true
    → types.declare_param p c ≡ Ok end → model.fits p v ≡ true
    → Begun numbers c env → BeginsSome end (model.bind_argument p v env)
param_begun (param.Word x) v numbers c end env formed is fits b =
    let parts = declare_is x (One Word) c end is in (
      numbers,
      subst (λ (z : Scope). Begun numbers z (put x v env)) parts.1
          (scalar_begun numbers c env x Word v (word_value numbers v fits) b),
    )
param_begun (param.Byte x) v numbers c end env formed is fits b =
    let parts = declare_is x (One Byte) c end is in (
      numbers,
      subst (λ (z : Scope). Begun numbers z (put x v env)) parts.1
          (scalar_begun numbers c env x Byte v (byte_value numbers v fits) b),
    )
param_begun (param.Bytes a k) v numbers c end env formed is fits b =
    array_begun numbers c end env a Byte k v (elements (Some v)) is refl (fixed k v formed fits) (named k v fits) b
  where
    fixed : (k : Len) (v : Arg) → param_formed (param.Bytes a k) ≡ true → model.fits (param.Bytes a k) v ≡ true → (n : ℕ)
        → k ≡ Fixed n → is_array Byte n v ≡ true
    fixed (Fixed m) v formed fits n same_length =
        let here : m ≡ n = cc in
        subst (λ (j : ℕ). is_array Byte j v ≡ true) here
        (and_both (is_of_kind (kind.Bytes (Some m)) v) (is_word m) fits (and_parts (is_name a) (is_word m) formed).1)
    fixed (Named x) v formed fits n same_length = absurd (cc)

    named : (k : Len) (v : Arg) → model.fits (param.Bytes a k) v ≡ true → (x : Name) → k ≡ Named x
        → is_array Byte (length (elements (Some v))) v ≡ true
    named (Named y) (arg.Bytes ns) fits x same_length = let parts =
        and_parts (is_word (length ns)) (all_true (map is_byte ns)) fits in bytes_are (length ns) ns parts.0 refl parts.1
    named (Named y) (arg.Word n) fits x same_length = absurd (cc)
    named (Named y) (arg.Words ns) fits x same_length = absurd (cc)
    named (Fixed m) v fits x same_length = absurd (cc)
param_begun (param.Words a k) v numbers c end env formed is fits b =
    array_begun numbers c end env a Word k v (elements (Some v)) is refl (fixed k v formed fits) (named k v fits) b
  where
    fixed : (k : Len) (v : Arg) → param_formed (param.Words a k) ≡ true → model.fits (param.Words a k) v ≡ true → (n : ℕ)
        → k ≡ Fixed n → is_array Word n v ≡ true
    fixed (Fixed m) v formed fits n same_length =
        let here : m ≡ n = cc in
        subst (λ (j : ℕ). is_array Word j v ≡ true) here
        (and_both (is_of_kind (kind.Words (Some m)) v) (is_word m) fits (and_parts (is_name a) (is_word m) formed).1)
    fixed (Named x) v formed fits n same_length = absurd (cc)

    named : (k : Len) (v : Arg) → model.fits (param.Words a k) v ≡ true → (x : Name) → k ≡ Named x
        → is_array Word (length (elements (Some v))) v ≡ true
    named (Named y) (arg.Words ns) fits x same_length = let parts =
        and_parts (is_word (length ns)) (all_true (map is_word ns)) fits in words_are (length ns) ns parts.0 refl parts.1
    named (Named y) (arg.Word n) fits x same_length = absurd (cc)
    named (Named y) (arg.Bytes ns) fits x same_length = absurd (cc)
    named (Fixed m) v fits x same_length = absurd (cc)

all_begun : (ps : List Param) (vs : List Arg) (numbers : Name → ℕ) (c end : Scope) (env : Env)
    → all_true (map param_formed ps) ≡ true → types.declare_params ps c ≡ Ok end → AllFit ps vs
    → Begun numbers c env → BeginsSome end (model.start ps vs env)
all_begun [] [] numbers c end env formed is fit b = (numbers, subst (λ (z : Scope). Begun numbers z env) (answer_is c end is) b)
all_begun (p ∷ ps) (v ∷ vs) numbers c end env formed is fit b =
    let parts = and_parts (param_formed p) (all_true (map param_formed ps)) formed in
    let one = first_answered (types.declare_param p c) _ end is in
    let room = first_answered (types.registers one.0) _ end one.1.1 in
    let kept : one.0 ≡ room.0 = registers_is one.0 room.0 room.1.0 in
    let here = param_begun p v numbers c one.0 env parts.0 one.1.0 fit.0 b in
    let begun : Begun here.0 room.0 (model.bind_argument p v env) =
    subst (λ (z : Scope). Begun here.0 z (model.bind_argument p v env)) kept here.1 in
    all_begun ps vs here.0 room.0 end (model.bind_argument p v env) parts.1 room.1.1 fit.1 begun
all_begun [] (v ∷ vs) numbers c end env formed is fit b = absurd fit
all_begun (p ∷ ps) [] numbers c end env formed is fit b = absurd fit

none_begun : Begun (λ x. 0) [] []
none_begun =
    record {
      typed = λ x t found. absurd (let bad : None ≡ Some t = found in cc);
      known = λ y x t found none. absurd (let bad : None ≡ Some (Many t (Named x)) = found in cc);
    }

-- Results.

abbrev owned : NameType → NameType → types.Rule
owned t u = if same_type t u then Ok tt else Err why.Owner

owner_same : (t u : NameType) → owned t u ≡ Ok tt → t ≡ u
owner_same t u is = by (same_type t u) refl is
  where
    by : (test : Bool) → same_type t u ≡ test → owned t u ≡ Ok tt → t ≡ u
    by true e h = type_same t u e
    by false e h = absurd (let bad : (if false then Ok tt else Err why.Owner) ≡ Ok tt = rw e at h in let worse : Err why.Owner
        ≡ Ok tt = bad in cc)

-- a returned array has the type of its parameter
pub record SameArray (start c : Scope) (a p : Name) : Type 0 where
  pub type : Scalar
  pub length : Len
  pub at_end : look_up c a ≡ Some (Many type length)
  pub at_start : look_up start p ≡ Some (Many type length)

pub result_typed : (start c : Scope) (before : List Ret) (a p : Name) → types.result start c before (ret.Array a p) ≡ Ok tt
    → SameArray start c a p
result_typed start c before a p is =
    let one = first_answered (array_in (look_up c a)) _ tt is in
    let once = first_answered (types.once (types.returned before) p) _ tt one.1.1 in
    let two = first_answered (array_in (look_up start p)) _ tt once.1.1 in
    let end = array_of (look_up c a) one.0 one.1.0 in
    let begin = array_of (look_up start p) two.0 two.1.0 in
    let same : one.0 ≡ two.0 = owner_same one.0 two.0 two.1.1 in
    record { type = end.0; length = end.1; at_end = end.2.1; at_start = begin.2.1 ∙ ap Some (sym begin.2.0 ∙ sym same ∙ end.2.0) }

module _ (numbers : Name → ℕ) (start c : Scope) (begun env : Env) (typed_begun : IsTyped numbers start begun)
    (typed : IsTyped numbers c env) where
  scalar_result : (before : List Ret) (x : Name) → types.result start c before (ret.Scalar x) ≡ Ok tt
      → IsScalar c x (model.result_of env (ret.Scalar x))
  scalar_result before x is =
      let found = first_answered (scalar_in (look_up c x)) _ tt is in
      record {
        type = found.0;
        number = number (value_of env x);
        in_scope = scalar_is (look_up c x) found.0 found.1.0;
        is = refl;
        typed = scalar_value numbers c env typed x found.0 found.1.0;
      }

  array_result : (before : List Ret) (a p : Name) → types.result start c before (ret.Array a p) ≡ Ok tt
      → IsArrayOf begun p (model.result_of env (ret.Array a p))
  array_result before a p is =
      let array = result_typed start c before a p is in
      let old = typed_begun p (Many array.type array.length) array.at_start in
      let new = typed a (Many array.type array.length) array.at_end in
      let found : model.result_of env (ret.Array a p)
      ≡ new.value = ap (λ (o : Option Arg). elim o [ Some v ↦ v | None ↦ arg.Word 0 ]) new.held in
      record {
        argument = old.value;
        passed = old.held;
        same = rw found (array_like array.type (length_of numbers array.length) old.value new.value old.typed new.typed);
      }

  all_results : (k : ℕ) (before rets : List Ret) → types.results start c k before rets ≡ Ok tt
      → AreResults c begun rets (map (model.result_of env) rets)
  all_results k before [] is = tt
  all_results k before (ret.Scalar x ∷ rets) is =
      let one = first_answered (types.at (Return k) (types.result start c before (ret.Scalar x))) _ tt is in (
        scalar_result before x (at_answered (Return k) _ tt one.1.0),
        all_results (next k) (before ++ ret.Scalar x ∷ []) rets
            one.1.1,
      )
  all_results k before (ret.Array a p ∷ rets) is =
      let one = first_answered (types.at (Return k) (types.result start c before (ret.Array a p))) _ tt is in (
        array_result before a p (at_answered (Return k) _ tt one.1.0),
        all_results (next k) (before ++ ret.Array a p ∷ []) rets
            one.1.1,
      )

end_is : (m : Model) (c : Scope) (end : types.State) → types.at Params (types.declare_params m.params []) ≡ Ok c
    → types.in_turn (map types.stmt m.body) (0, c) ≡ Ok end
    → end_scope m ≡ end.1
end_is m c end begins ends = rw (begins, ends) refl

abbrev rest_formed : Model → Bool
rest_formed m = facts_formed m.requires_ && (all_true (map stmt_formed m.body) && all_true (map ret_formed m.rets))

-- at arguments that meet a model each name of a parameter has a value of its type
pub starts_typed : (m : Model) (args : List Arg) (c : Scope) → model_formed m ≡ true → types.declare_params m.params [] ≡ Ok c
    → Meets m args
    → (numbers : Name → ℕ) × IsTyped numbers c (model.start m.params args [])
starts_typed m args c formed declared meets =
    let count = first_answered (model.counts m.params args) _ tt meets in
    let fit = first_answered (model.fit 0 m.params args) _ tt count.1.1 in
    let all_fit : AllFit m.params args = fit_all 0 m.params args (counts_ok m.params args count.0 count.1.0) fit.1.0 in
    let f = and_parts (is_name m.name) (all_true (map param_formed m.params) && rest_formed m) formed in
    let g = and_parts (all_true (map param_formed m.params)) (rest_formed m) f.1 in
    let begun = all_begun m.params args (λ x. 0) [] c [] g.0 declared all_fit none_begun in
    (begun.0, begun.1.typed)

pub models_sound : ModelLaw
models_sound m args well formed spelled meets =
    let start = first_answered (types.at Params (types.declare_params m.params [])) _ tt well in
    let required = first_answered (types.requirements 0 m.requires_ start.0) _ tt start.1.1 in
    let end = first_answered (types.in_turn (map types.stmt m.body) (0, start.0)) _ tt required.1.1 in
    let declared : types.declare_params m.params []
    ≡ Ok start.0 = at_answered Params (types.declare_params m.params []) start.0 start.1.0 in
    let f = and_parts (is_name m.name) (all_true (map param_formed m.params) && rest_formed m) formed in
    let g = and_parts (all_true (map param_formed m.params)) (rest_formed m) f.1 in
    let h = and_parts (facts_formed m.requires_) (all_true (map stmt_formed m.body) && all_true (map ret_formed m.rets)) g.1 in
    let body = and_parts (all_true (map stmt_formed m.body)) (all_true (map ret_formed m.rets)) h.1 in
    let begun = starts_typed m args start.0 formed declared meets in
    let ended : IsTyped begun.0 end.0.1 (model.end_of m args) =
    body_keeps begun.0 m.body body.0 spelled 0 start.0 end.0 (model.start m.params args []) end.1.0 begun.1 in
    let scope_is : end_scope m ≡ end.0.1 = end_is m start.0 end.0 start.1.0 end.1.0 in
    rw scope_is (all_results begun.0 start.0 end.0.1 (model.start m.params args []) (model.end_of m args) begun.1 ended 0 []
    m.rets end.1.1)

-- what the value of a model gives is sound
pub value_sound : (m : Model) (args found : List Arg) → Well m → model_formed m ≡ true → Spellable m
    → model.value m args ≡ Ok found → IsSound m args found
value_sound m args found well formed spelled is =
    let met = first_answered (model.judge_arguments m args) _ found is in
    subst (IsSound m args) (answer_is (results m args) found met.1.1) (models_sound m args well formed spelled met.1.0)
