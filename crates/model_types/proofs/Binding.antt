-- A name that is bound is put into the table.
use Rattle.std.proofs.Common.{◌≡◌, refl, sym, ap, subst, ◌∙◌, Bool, true, false, cond, [], ◌∷◌, ◌++◌, Some}
use Rattle.indexmap.specs.IndexMap.{IndexMap, get, Updates}
use Rattle.model_syntax.specs.declared.scope.NameType.{NameType}
use Rattle.model_syntax.specs.Names.{Name, same}
use Rattle.model_syntax.specs.Scope.{Scope, look_up, bind}
use Rattle.model_syntax.proofs.laws.Bindings.{up_here, up_else}
use Rattle.model_types.specs.Told.{Tells}

module _ {S : Type 0} (c : Scope) (before after : IndexMap Name NameType S) where
  tells_bound : (x : Name) (t : NameType) → Tells before c → Updates same before after x (Some t) → Tells after (bind x t c)
  tells_bound x t told put y = by (same x y) refl
    where
      by : (here : Bool) → same x y ≡ here → get same after y ≡ look_up (bind x t c) y
      by true here = put.0 y ∙ ap (λ (b : Bool). cond b (Some t) (get same before y)) here ∙ sym (up_here c x y t here)
      by false here = put.2 y here ∙ told y ∙ sym (up_else c x y t here)

  -- the key and the pushed name are copies of the name, and the value is one of its type
  pub tells_pushed : (pushed : Scope) (x key name : Name) (t value : NameType)
      → key ≡ x → value ≡ t → name ≡ x → pushed ≡ c ++ (record { name = name; shape = t }) ∷ []
      → Updates same before after key (Some value) → Tells before c → Tells after pushed
  tells_pushed pushed x key name t value of_key of_value of_name is put told =
      let here : Updates same before after x (Some t) =
      subst (λ k. Updates same before after k (Some t)) of_key
      (subst (λ v. Updates same before after key (Some v)) of_value put) in
      subst (Tells after) (sym (is ∙ ap (λ (n : Name). c ++ (record { name = n; shape = t }) ∷ []) of_name))
      (tells_bound x t told here)
