-- What an environment and a scope tell of a name after another, or the same, was bound.
use Rattle.std.proofs.Common.{◌≡◌, refl, ◌∙◌, ap, Bool, true, false, [], ◌∷◌, Some, None, if◌then◌else◌}
use Rattle.std.specs.Option.{option_or}
use Rattle.std.proofs.lemmas.Slice.Eq.{bytes_eq-Decides as bytes_decides}
use Rattle.rup_base.specs.declared.arg.Arg.{Arg}
use Rattle.model_syntax.specs.Environment.{Env, value_of, put}
use Rattle.model_syntax.specs.Names.{Name, same}
use Rattle.model_syntax.specs.Scope.{Scope, look_up, bind}
use Rattle.model_syntax.specs.declared.scope.NameType.{NameType}

pub same_is : (x y : Name) → same x y ≡ true → x ≡ y
same_is x y = (bytes_decides x y).0

pub same_self : (x : Name) → same x x ≡ true
same_self x = (bytes_decides x x).1 refl

not_both : (b x y : Name) → same b x ≡ true → same x y ≡ false → same b y ≡ false
not_both b x y at_x apart = ap (λ z. same z y) (same_is b x at_x) ∙ apart

-- a name that is bound has its value, and the others theirs
pub value_here : (x : Name) (v : Arg) (env : Env) → value_of (put x v env) x ≡ Some v
value_here x v [] = rw (same_self x) refl
value_here x v (h ∷ hs) = by (same h.name x) refl (value_here x v hs)
  where
    by : (is : Bool) → same h.name x ≡ is → value_of (put x v hs) x ≡ Some v → value_of (put x v (h ∷ hs)) x ≡ Some v
    by true is more = rw is (rw (same_self x) refl)
    by false is more = rw is (rw is more)

pub value_else : (x y : Name) (v : Arg) (env : Env) → same x y ≡ false → value_of (put x v env) y ≡ value_of env y
value_else x y v [] apart = rw apart refl
value_else x y v (h ∷ hs) apart = by (same h.name x) refl (same h.name y) refl (value_else x y v hs apart)
  where
    by : (is : Bool) → same h.name x ≡ is → (of : Bool) → same h.name y ≡ of → value_of (put x v hs) y ≡ value_of hs y
        → value_of (put x v (h ∷ hs)) y ≡ value_of (h ∷ hs) y
    by true is of at more = let far : same h.name y ≡ false = not_both h.name x y is apart in rw is (rw apart (rw far refl))
    by false is true at more = rw is (rw at refl)
    by false is false at more = rw is (rw at more)

-- the same of types
pub up_else : (c : Scope) (x y : Name) (t : NameType) → same x y ≡ false → look_up (bind x t c) y ≡ look_up c y
up_else [] x y t apart = rw apart refl
up_else (b ∷ bs) x y t apart = ap (λ z. option_or z (if same b.name y then Some b.shape else None)) (up_else bs x y t apart)

pub up_here : (c : Scope) (x y : Name) (t : NameType) → same x y ≡ true → look_up (bind x t c) y ≡ Some t
up_here [] x y t is = rw is refl
up_here (b ∷ bs) x y t is = ap (λ z. option_or z (if same b.name y then Some b.shape else None)) (up_here bs x y t is)
