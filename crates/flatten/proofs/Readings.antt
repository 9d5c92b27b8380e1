-- What stands in maps and lists that were changed or put together.
use Rattle.std.proofs.Common.{◌≡◌, refl, sym, ap, ◌∙◌, arith, ℕ, zero, suc, ◌+◌, Bool, true, false, cond, nat_eq, nat_lt, List}
use Rattle.std.proofs.Common.{[], ◌∷◌, ◌++◌, length, Option, Some, None, slice_get, slice_set, ◌⊎◌, inl, inr, ⊎_elim}
use Rattle.std.proofs.Common.{if◌then◌else◌}
use Rattle.std.proofs.lemmas.Bool.Decides.{eqb_tells}
use Rattle.std.proofs.lemmas.Grind.{common_steps}
use Rattle.std.specs.Ordering.{nat_cmp, eq_by_cmp}
use Rattle.std.specs.Cmp.{nat_cmp_total}
use Rattle.std.specs.FinMap.{get, insert, get-insert}
use Rattle.bed_meaning.specs.Locals as bed
use Rattle.flat_lang.specs.State.{Vars}

same_key : (a b : ℕ) → eq_by_cmp nat_cmp a b ≡ nat_eq a b
same_key a b = grind (arith, common_steps)

inserted : (v : Vars) (x n q : ℕ) → get (insert v x n) q ≡ cond (nat_eq q x) (Some n) (get v q)
inserted v x n q = get-insert nat_cmp_total v x n q ∙ ap (λ b. cond b (Some n) (get v q)) (same_key q x)

-- a variable that was set has its value, and the others have theirs
pub get_set : (v : Vars) (x n : ℕ) → get (insert v x n) x ≡ Some n
get_set v x n = inserted v x n x ∙ ⊎_elim (λ p. ap (λ b. cond b (Some n) (get v x)) p.0) (λ p. absurd (p.1 refl)) (eqb_tells x x)

pub get_other : (v : Vars) (x n q : ℕ) → (q ≡ x → ⊥) → get (insert v x n) q ≡ get v q
get_other v x n q h = inserted v x n q
    ∙ ⊎_elim (λ p. absurd (h p.1)) (λ p. ap (λ b. cond b (Some n) (get v q)) p.0) (eqb_tells q x)

-- the tables from one place on are these
abbrev pub Has : List (List ℕ) → ℕ → List (List ℕ) → Type 0
Has tables k ts = (i : ℕ) (b : List ℕ) → slice_get ts i ≡ Some b → slice_get tables (k + i) ≡ Some b

slice_get_first : {A : Type 0} (xs ys : List A) (i : ℕ) (b : A) → slice_get xs i ≡ Some b → slice_get (xs ++ ys) i ≡ Some b
slice_get_first [] ys i b h = absurd (let bad : None ≡ Some b = h in cc)
slice_get_first (x ∷ xs) ys zero b h = h
slice_get_first (x ∷ xs) ys (suc i) b h = slice_get_first xs ys i b h

slice_get_second : {A : Type 0} (xs ys : List A) (i : ℕ) → slice_get (xs ++ ys) (length xs + i) ≡ slice_get ys i
slice_get_second [] ys i = let e : 0 + i ≡ i = omega arith in ap (slice_get ys) e
slice_get_second (x ∷ xs) ys i =
    let e : suc (length xs) + i ≡ suc (length xs + i) = omega arith in
    ap (slice_get (x ∷ (xs ++ ys))) e ∙ slice_get_second xs ys i

pub has_first : (tables : List (List ℕ)) (k : ℕ) (a b : List (List ℕ)) → Has tables k (a ++ b) → Has tables k a
has_first tables k a b h i x e = h i x (slice_get_first a b i x e)

pub has_second : (tables : List (List ℕ)) (k : ℕ) (a b : List (List ℕ)) → Has tables k (a ++ b) → Has tables (k + length a) b
has_second tables k a b h i x e =
    let n : k + length a + i ≡ k + (length a + i) = omega arith in
    ap (slice_get tables) n ∙ h (length a + i) x (slice_get_second a b i ∙ e)

pub has_last : (tables : List (List ℕ)) (k : ℕ) (a : List (List ℕ)) (x : List ℕ) → Has tables k (a ++ x ∷ [])
    → slice_get tables (k + length a) ≡ Some x
has_last tables k a x h =
    let n : k + length a ≡ k + (length a + 0) = omega arith in
    ap (slice_get tables) n ∙ h (length a + 0) x (slice_get_second a (x ∷ []) 0)

set_other : (l : bed.Vars) (x y : ℕ) (a : Option ℕ) → (y ≡ x → ⊥) → slice_get (slice_set l x a) y ≡ slice_get l y
set_other [] x y a h = refl
set_other (b ∷ l) zero zero a h = absurd (h refl)
set_other (b ∷ l) zero (suc y) a h = refl
set_other (b ∷ l) (suc x) zero a h = refl
set_other (b ∷ l) (suc x) (suc y) a h = set_other l x y a (λ e. h (ap suc e))

set_same : (l : bed.Vars) (x v n : ℕ) → bed.local_at (slice_set l x (Some v)) x ≡ Some n → n ≡ v
set_same [] x v n h = absurd (let bad : None ≡ Some n = h in cc)
set_same (b ∷ l) zero v n h = let is : Some v ≡ Some n = h in cc
set_same (b ∷ l) (suc x) v n h = set_same l x v n h

assigned_is : (b : Bool) (l l1 : bed.Vars) → (if b then Some l else None) ≡ Some l1 → l1 ≡ l
assigned_is true l l1 h = let is : Some l ≡ Some l1 = h in cc
assigned_is false l l1 h = absurd (let bad : None ≡ Some l1 = h in cc)

-- after one local was set, it has the new value, and the others have theirs
pub local_set : (l l1 : bed.Vars) (x v y n : ℕ) → bed.assigned x v l ≡ Some l1 → bed.local_at l1 y ≡ Some n
    → ((y ≡ x) × (n ≡ v)) ⊎ ((y ≡ x → ⊥) × (bed.local_at l y ≡ Some n))
local_set l l1 x v y n h is =
    let e : l1 ≡ slice_set l x (Some v) = assigned_is (nat_lt x (length l)) (slice_set l x (Some v)) l1 h in
    let here : bed.local_at (slice_set l x (Some v)) y ≡ Some n = ap (λ r. bed.local_at r y) (sym e) ∙ is in
    ⊎_elim
    (λ p. inl (p.1, set_same l x v n (ap (λ i. bed.local_at (slice_set l x (Some v)) i) (sym p.1) ∙ here)))
    (λ p. inr (p.1, ap bed.value_of (sym (set_other l x y (Some v) p.1)) ∙ here))
    (eqb_tells y x)
