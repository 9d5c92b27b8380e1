-- What typing says of s-for.
use Rattle.std.proofs.Common.{◌≡◌, refl, sym, ◌∙◌, ap, ℕ, Bool, true, false, ◌&&◌, List, [], ◌∷◌, map, Option, Some, None, Ok}
use Rattle.std.proofs.Common.{Err, if◌then◌else◌}
use Rattle.rup_base.specs.Gather.{all_true}
use Rattle.rup_base.specs.Name.{is_name}
use Rattle.rup_base.specs.declared.refusal.TypePlace.TheVariants.{Statement}
use Rattle.rup_base.specs.declared.refusal.TypeWhy.TheVariants as why
use Rattle.model_syntax.specs.Environment.{Env, carry}
use Rattle.model_syntax.specs.ExprType.{type_of, wanted}
use Rattle.model_syntax.specs.Formed.{expr_formed, stmt_formed, stmt_formed_step, names_formed, facts_formed}
use Rattle.model_syntax.specs.Limits.{next}
use Rattle.model_syntax.specs.Names.{Name, same, listed}
use Rattle.model_syntax.specs.Scope.{Scope, look_up, bind, same_type, scalar_may_take, agreed}
use Rattle.model_syntax.specs.Sound.{IsTyped, HasValue}
use Rattle.model_syntax.specs.Spelling.{expr_spellable, stmt_spellable, stmt_spellable_step}
use Rattle.model_syntax.specs.Types as types
use Rattle.model_syntax.specs.declared.expr.Expr.{Expr}
use Rattle.model_syntax.specs.declared.expr.Scalar.TheVariants.{Word}
use Rattle.model_syntax.specs.declared.scope.NameType.{NameType}
use Rattle.model_syntax.specs.declared.scope.NameType.TheVariants.{Scalar as One}
use Rattle.model_syntax.specs.declared.stmt.Le.{Le}
use Rattle.model_syntax.specs.declared.stmt.Stmt.{Stmt}
use Rattle.model_syntax.specs.declared.stmt.Stmt.TheOpen as s
use Rattle.model_syntax.proofs.laws.Answered.{first_answered, at_answered, answer_is}
use Rattle.model_syntax.proofs.laws.Bindings.{same_is}
use Rattle.model_syntax.proofs.laws.Expressions.{wanted_is}
use Rattle.model_syntax.proofs.laws.Statements.{type_same}
use Rattle.sym_heap.proofs.laws.Turns.{carried, carried_else}
use Rattle.stmt_rules.proofs.Sequence.{and_parts}

-- its parts are formed and spellable
pub record ForFormed (low high : Expr) (body : List Stmt) : Type 0 where
  pub low_formed : expr_formed low ≡ true
  pub low_spelled : expr_spellable low ≡ true
  pub high_formed : expr_formed high ≡ true
  pub high_spelled : expr_spellable high ≡ true
  pub body_formed : all_true (map stmt_formed body) ≡ true
  pub body_spelled : all_true (map stmt_spellable body) ≡ true

pub for_parts : (x : Name) (low high : Expr) (xs : List Name) (keep : List Le) (body : List Stmt)
    → stmt_formed_step (s.For x low high xs keep (map stmt_formed body)) ≡ true
    → stmt_spellable_step (s.For x low high xs keep (map stmt_spellable body)) ≡ true → ForFormed low high body
for_parts x low high xs keep body formed spelled =
    let blocks = all_true (map stmt_formed body) in
    let f = and_parts (is_name x) (expr_formed low && (expr_formed high && (names_formed xs && (facts_formed keep && blocks))))
    formed in
    let g = and_parts (expr_formed low) (expr_formed high && (names_formed xs && (facts_formed keep && blocks))) f.1 in
    let h = and_parts (expr_formed high) (names_formed xs && (facts_formed keep && blocks)) g.1 in
    let i = and_parts (names_formed xs) (facts_formed keep && blocks) h.1 in
    let j = and_parts (facts_formed keep) blocks i.1 in
    let p = and_parts (expr_spellable low && expr_spellable high) (all_true (map stmt_spellable body)) spelled in
    let q = and_parts (expr_spellable low) (expr_spellable high) p.0 in
    record { low_formed = g.0; low_spelled = q.0; high_formed = h.0; high_spelled = q.1; body_formed = j.1; body_spelled = p.1 }

-- what typing says of it
pub record ForTyped (x : Name) (low high : Expr) (xs : List Name) (body : List Stmt) (k : ℕ) (scope : Scope)
    (after : types.State) : Type 0 where
  pub unlisted : listed x xs ≡ false
  pub may : scalar_may_take (look_up scope x) ≡ Ok tt
  pub low_typed : type_of low scope ≡ Ok Word
  pub high_typed : type_of high scope ≡ Ok Word
  pub last : types.State
  pub body_typed : types.in_turn (map types.stmt body) (next k, bind x (One Word) scope) ≡ Ok last
  pub kept : types.kept xs scope last.1 ≡ Ok tt
  pub is : (last.0, scope) ≡ after

counter_parts : (x : Name) (xs : List Name) (scope : Scope) → types.counter x xs scope ≡ Ok tt
    → (listed x xs ≡ false) × (scalar_may_take (look_up scope x) ≡ Ok tt)
counter_parts x xs scope is = by (listed x xs) refl where
  by : (b : Bool) → listed x xs ≡ b → (listed x xs ≡ false) × (scalar_may_take (look_up scope x) ≡ Ok tt)
  by true e = absurd (let bad : ◌≡◌ {A = types.Rule} (Err why.Repeated) (Ok tt) = rw e at is in cc)
  by false e = (e, rw e at is)

pub for_typed : (x : Name) (low high : Expr) (xs : List Name) (keep : List Le) (body : List Stmt) (k : ℕ) (scope : Scope)
    (after : types.State)
    → types.stmt_step (s.For x low high xs keep (map types.stmt body)) (k, scope) ≡ Ok after
    → ForTyped x low high xs body k scope after
for_typed x low high xs keep body k scope after is =
    let count = first_answered (types.at (Statement k) (types.counter x xs scope)) _ after is in
    let from = first_answered (types.at (Statement k) (wanted Word (type_of low scope))) _ after count.1.1 in
    let to = first_answered (types.at (Statement k) (wanted Word (type_of high scope))) _ after from.1.1 in
    let once = first_answered (types.at (Statement k) (types.distinct_known scope [] xs)) _ after to.1.1 in
    let facts = first_answered (types.at (Statement k) (types.facts keep (bind x (One Word) scope))) _ after once.1.1 in
    let block = first_answered (types.in_turn (map types.stmt body) (next k, bind x (One Word) scope)) _ after facts.1.1 in
    let kept = first_answered (types.at (Statement k) (types.kept xs scope block.0.1)) _ after block.1.1 in
    let counts = counter_parts x xs scope (at_answered (Statement k) (types.counter x xs scope) tt count.1.0) in
    record {
      unlisted = counts.0;
      may = counts.1;
      low_typed = (wanted_is Word (type_of low scope) from.0
          (at_answered (Statement k) (wanted Word (type_of low scope)) from.0 from.1.0)).0;
      high_typed = (wanted_is Word (type_of high scope) to.0
          (at_answered (Statement k) (wanted Word (type_of high scope)) to.0 to.1.0)).0;
      last = block.0;
      body_typed = block.1.0;
      kept = at_answered (Statement k) (types.kept xs scope block.0.1) tt kept.1.0;
      is = answer_is (block.0.0, scope) after kept.1.1;
    }

-- Listed names.

both_types : (o p : Option NameType) (t : NameType) → agreed o p ≡ Ok t → (o ≡ Some t) × (p ≡ Some t)
both_types (Some t) (Some u) v is = by (same_type t u) refl is where
  by : (b : Bool) → same_type t u ≡ b → agreed (Some t) (Some u) ≡ Ok v → (Some t ≡ Some v) × (Some u ≡ Some v)
  by true e h =
      let here : t ≡ v = answer_is t v (let kept : (if true then Ok t else Err why.Uncarried) ≡ Ok v = rw e at h in kept) in
      (ap Some here, ap Some (sym (type_same t u e) ∙ here))
  by false e h = absurd (let bad : (if false then Ok t else Err why.Uncarried) ≡ Ok v = rw e at h in let worse : Err why.Uncarried
      ≡ Ok v = bad in cc)
both_types None None v is = absurd (cc)
both_types None (Some u) v is = absurd (cc)
both_types (Some t) None v is = absurd (cc)

-- a listed name has at the end of the block its type of before
pub record StaysTyped (scope last : Scope) (y : Name) : Type 0 where
  pub type : NameType
  pub before : look_up scope y ≡ Some type
  pub after : look_up last y ≡ Some type

pub stays_typed : (xs : List Name) (scope last : Scope) → types.kept xs scope last ≡ Ok tt → (y : Name) → listed y xs ≡ true
    → StaysTyped scope last y
stays_typed [] scope last kept y in_list = absurd (let bad : false ≡ true = in_list in cc)
stays_typed (x ∷ xs) scope last kept y in_list = by (same y x) refl (λ later. stays_typed xs scope last first.1.1 y later) where
  first : (t : NameType) × ((agreed (look_up scope x) (look_up last x) ≡ Ok t) × (types.kept xs scope last ≡ Ok tt))
  first = first_answered (agreed (look_up scope x) (look_up last x)) _ tt kept

  by : (b : Bool) → same y x ≡ b → (listed y xs ≡ true → StaysTyped scope last y) → StaysTyped scope last y
  by true e more =
      let both = both_types (look_up scope x) (look_up last x) first.0 first.1.0 in
      let is : y ≡ x = same_is y x e in
      record { type = first.0; before = ap (look_up scope) is ∙ both.0; after = ap (look_up last) is ∙ both.1 }
  by false e more = more (rw e at in_list)

-- names keep values of their types from turn to turn
pub carried_typed : (xs : List Name) (scope last : Scope) (lengths : Name → ℕ) (inner env : Env)
    → types.kept xs scope last ≡ Ok tt → IsTyped lengths last inner → IsTyped lengths scope env
    → IsTyped lengths scope (carry xs inner env)
carried_typed xs scope last lengths inner env kept inner_typed typed y t found = by (listed y xs) refl where
  by : (b : Bool) → listed y xs ≡ b → HasValue lengths (carry xs inner env) y t
  by false e =
      let old = typed y t found in
      record { value = old.value; held = carried_else xs inner env y e ∙ old.held; typed = old.typed }
  by true e =
      let stays = stays_typed xs scope last kept y e in
      let both : Some t ≡ Some stays.type = sym found ∙ stays.before in
      let one : t ≡ stays.type = cc in
      let new = inner_typed y t (stays.after ∙ ap Some (sym one)) in
      record { value = new.value; held = carried xs inner env y new.value e new.held; typed = new.typed }
