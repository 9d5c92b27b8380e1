-- The entries of a map as bindings: what is found, written and inserted.
use Rattle.std.proofs.Common.{◌≡◌, refl, sym, ◌∙◌, ap, cond, ℕ, Bool, true, false, List, [], ◌∷◌, Some, None, is_some}
use Rattle.std.specs.Map.{lookup, set_value}
use Rattle.rup_base.specs.declared.arg.Arg.{Arg}
use Rattle.indexmap.specs.IndexMap.{insert_entry}
use Rattle.model_syntax.specs.Environment.{value_of, put, put_some, bound, with_element}
use Rattle.model_syntax.specs.Names.{Name, same}
use Rattle.model_syntax.proofs.laws.Bindings.{same_is}
use Rattle.model_value.specs.Bindings.{bindings, Assigns}
use Rattle.model_value.proofs.Puts.{same_back}

pub found : (x : Name) (es : List (Name × Arg)) → lookup (same x) es ≡ value_of (bindings es) x
found x [] = refl
found x (e ∷ es) = by (same e.0 x) refl (found x es)
  where
    by : (is : Bool) → same e.0 x ≡ is → lookup (same x) es ≡ value_of (bindings es) x
        → lookup (same x) (e ∷ es) ≡ value_of (bindings (e ∷ es)) x
    by true is more = rw (same_back x e.0, is) refl
    by false is more = rw (same_back x e.0, is) more

pub inserted : (x : Name) (v : Arg) (es : List (Name × Arg)) → bindings (insert_entry same es x v) ≡ put x v (bindings es)
inserted x v [] = refl
inserted x v (e ∷ es) = by (same e.0 x) refl (inserted x v es)
  where
    by : (is : Bool) → same e.0 x ≡ is → bindings (insert_entry same es x v) ≡ put x v (bindings es)
        → bindings (insert_entry same (e ∷ es) x v) ≡ put x v (bindings (e ∷ es))
    by true is more = rw (same_back x e.0, is) (ap (λ n. bound n v ∷ bindings es) (same_is e.0 x is))
    by false is more = rw (same_back x e.0, is) (ap (λ l. bound e.0 e.1 ∷ l) more)

-- a value that is written where the name stands
pub written : (x : Name) (v : Arg) (es : List (Name × Arg)) → is_some (lookup (same x) es) ≡ true
    → bindings (set_value (same x) es v) ≡ put x v (bindings es)
written x v [] there = absurd (cc)
written x v (e ∷ es) there = by (same e.0 x) refl (written x v es)
  where
    by : (is : Bool) → same e.0 x ≡ is
        → (is_some (lookup (same x) es) ≡ true → bindings (set_value (same x) es v) ≡ put x v (bindings es))
        → bindings (set_value (same x) (e ∷ es) v) ≡ put x v (bindings (e ∷ es))
    by true is more = rw (same_back x e.0, is) (ap (λ n. bound n v ∷ bindings es) (same_is e.0 x is))
    by false is more =
        let further : is_some (lookup (same x) es) ≡ true = rw (same_back x e.0, is) at there in
        rw (same_back x e.0, is) (ap (λ l. bound e.0 e.1 ∷ l) (more further))

-- an element is put where the array stands, and nowhere where there is none
pub changed : (a : Name) (i n : ℕ) (es : List (Name × Arg)) (old new : Arg) → lookup (same a) es ≡ Some old
    → Some new ≡ with_element i n (Some old)
    → bindings (set_value (same a) es new) ≡ put_some a (with_element i n (value_of (bindings es) a)) (bindings es)
changed a i n es old new at is =
    written a new es (ap is_some at) ∙ (λ j. put_some a ((is ∙ ap (with_element i n) (sym at ∙ found a es)) j) (bindings es))

pub unchanged : (a : Name) (i n : ℕ) (es : List (Name × Arg)) → lookup (same a) es ≡ None
    → put_some a (with_element i n (value_of (bindings es) a)) (bindings es) ≡ bindings es
unchanged a i n es at = ap (λ v. put_some a (with_element i n v) (bindings es)) (sym (found a es) ∙ at)

-- a name is taken away
pub removed : (x : Name) (es fs : List (Name × Arg))
    → ((q : Name) → lookup (same q) fs ≡ cond (same x q) None (lookup (same q) es)) → Assigns x None (bindings es) (bindings fs)
removed x es fs gone = λ y. sym (found y fs) ∙ gone y ∙ ap (cond (same x y) None) (found y es)
