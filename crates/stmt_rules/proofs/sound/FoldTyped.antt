-- What typing says of s-fold and s-map.
use Rattle.std.proofs.Common.{◌≡◌, refl, ℕ, Bool, true, false, ◌&&◌, Some, Ok, Err}
use Rattle.rup_base.specs.Name.{is_name}
use Rattle.rup_base.specs.declared.refusal.TypePlace.TheVariants.{Statement}
use Rattle.rup_base.specs.declared.refusal.TypeWhy.TheVariants as why
use Rattle.model_syntax.specs.ExprType.{type_of, wanted}
use Rattle.model_syntax.specs.Formed.{expr_formed, stmt_formed_step}
use Rattle.model_syntax.specs.Limits.{next}
use Rattle.model_syntax.specs.Names.{Name, same}
use Rattle.model_syntax.specs.Scope.{Scope, look_up, bind, scalar_in, element_in, scalar_may_take}
use Rattle.model_syntax.specs.Types as types
use Rattle.model_syntax.specs.declared.expr.Expr.{Expr}
use Rattle.model_syntax.specs.declared.expr.Scalar.{Scalar}
use Rattle.model_syntax.specs.declared.program.Len.{Len}
use Rattle.model_syntax.specs.declared.scope.NameType.TheVariants.{Scalar as One, Array as Many}
use Rattle.model_syntax.specs.declared.stmt.Stmt.TheOpen as s
use Rattle.model_syntax.proofs.laws.Answered.{first_answered, at_answered, answer_is}
use Rattle.model_syntax.proofs.laws.Expressions.{scalar_is, element_is, wanted_is}
use Rattle.stmt_rules.proofs.Sequence.{and_parts}

pub record FoldTyped (t a x : Name) (v : Expr) (k : ℕ) (scope : Scope) (after : types.State) : Type 0 where
  pub kind : Scalar
  pub element : Scalar
  pub len : Len
  pub sum : look_up scope t ≡ Some (One kind)
  pub array : look_up scope a ≡ Some (Many element len)
  pub apart : same t x ≡ false
  pub may : scalar_may_take (look_up scope x) ≡ Ok tt
  pub value : type_of v (bind x (One element) scope) ≡ Ok kind
  pub is : (next k, scope) ≡ after

pub fold_typed : (t a x : Name) (v : Expr) (k : ℕ) (scope : Scope) (after : types.State)
    → types.stmt_step (s.Fold t a x v) (k, scope) ≡ Ok after → FoldTyped t a x v k scope after
fold_typed t a x v k scope after is =
    let one = at_answered (Statement k) _ after is in
    let sum = first_answered (scalar_in (look_up scope t)) _ after one in
    let array = first_answered (element_in (look_up scope a)) _ after sum.1.1 in
    let name = first_answered (types.folded_element t x scope) _ after array.1.1 in
    let value = first_answered (wanted sum.0 (type_of v (bind x (One array.0) scope))) _ after name.1.1 in
    let named = element_is (look_up scope a) array.0 array.1.0 in
    let parts = named_parts (same t x) refl name.1.0 in
    record {
      kind = sum.0;
      element = array.0;
      len = named.0;
      sum = scalar_is (look_up scope t) sum.0 sum.1.0;
      array = named.1;
      apart = parts.0;
      may = parts.1;
      value = (wanted_is sum.0 (type_of v (bind x (One array.0) scope)) value.0 value.1.0).0;
      is = answer_is (next k, scope) after value.1.1;
    }
  where
    named_parts : (b : Bool) → same t x ≡ b → types.folded_element t x scope ≡ Ok tt
        → (same t x ≡ false) × (scalar_may_take (look_up scope x) ≡ Ok tt)
    named_parts true e h = absurd (let bad : ◌≡◌ {A = types.Rule} (Err why.Repeated) (Ok tt) = rw e at h in cc)
    named_parts false e h = (e, rw e at h)

pub record MapTyped (a x : Name) (v : Expr) (k : ℕ) (scope : Scope) (after : types.State) : Type 0 where
  pub element : Scalar
  pub len : Len
  pub array : look_up scope a ≡ Some (Many element len)
  pub may : scalar_may_take (look_up scope x) ≡ Ok tt
  pub value : type_of v (bind x (One element) scope) ≡ Ok element
  pub is : (next k, scope) ≡ after

pub map_typed : (a x : Name) (v : Expr) (k : ℕ) (scope : Scope) (after : types.State) → types.stmt_step (s.Map a x v) (k, scope)
    ≡ Ok after → MapTyped a x v k scope after
map_typed a x v k scope after is =
    let one = at_answered (Statement k) _ after is in
    let array = first_answered (element_in (look_up scope a)) _ after one in
    let may = first_answered (scalar_may_take (look_up scope x)) _ after array.1.1 in
    let value = first_answered (wanted array.0 (type_of v (bind x (One array.0) scope))) _ after may.1.1 in
    let named = element_is (look_up scope a) array.0 array.1.0 in
    record {
      element = array.0;
      len = named.0;
      array = named.1;
      may = may.1.0;
      value = (wanted_is array.0 (type_of v (bind x (One array.0) scope)) value.0 value.1.0).0;
      is = answer_is (next k, scope) after value.1.1;
    }

-- the expression is formed
pub fold_formed : (t a x : Name) (v : Expr) → stmt_formed_step (s.Fold t a x v) ≡ true → expr_formed v ≡ true
fold_formed t a x v formed =
    let f = and_parts (is_name t) (is_name a && (is_name x && expr_formed v)) formed in
    let g = and_parts (is_name a) (is_name x && expr_formed v) f.1 in
    (and_parts (is_name x) (expr_formed v) g.1).1

pub map_formed : (a x : Name) (v : Expr) → stmt_formed_step (s.Map a x v) ≡ true → expr_formed v ≡ true
map_formed a x v formed =
    let f = and_parts (is_name a) (is_name x && expr_formed v) formed in
    (and_parts (is_name x) (expr_formed v) f.1).1
