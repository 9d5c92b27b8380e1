-- Terms of a form one after another.
use Rattle.std.proofs.Common.{◌≡◌, refl, sym, ◌∙◌, ap, arith, ℕ, zero, suc, ◌+◌, Bool, true, false, List, [], ◌∷◌, drop, Some}
use Rattle.std.proofs.Common.{None, slice_get}
use Rattle.std.specs.List.{list_all}

pub drop_at : {A : Type 0} (xs : List A) (k : ℕ) (x : A) → slice_get xs k ≡ Some x → drop k xs ≡ x ∷ drop (k + 1) xs
drop_at [] k x at = absurd (let bad : None ≡ Some x = at in cc)
drop_at (y ∷ ys) zero x at = let is : y ≡ x = cc in ap (λ z. z ∷ ys) is
drop_at (y ∷ ys) (suc k) x at =
    drop_at ys k x at ∙ ap (λ n. x ∷ drop n (y ∷ ys)) (let next : suc (k + 1) ≡ suc k + 1 = omega arith in next)

-- the test of the terms that are left, after one that passes or fails it
pub all_on : {A : Type 0} (test : A → Bool) (xs : List A) (k : ℕ) (x : A) → slice_get xs k ≡ Some x → test x ≡ true
    → list_all test (drop (k + 1) xs) ≡ list_all test (drop k xs)
all_on test xs k x at passes = sym (ap (list_all test) (drop_at xs k x at) ∙ rw passes refl)

pub all_stops : {A : Type 0} (test : A → Bool) (xs : List A) (k : ℕ) (x : A) → slice_get xs k ≡ Some x → test x ≡ false
    → list_all test (drop k xs) ≡ false
all_stops test xs k x at fails = ap (list_all test) (drop_at xs k x at) ∙ rw fails refl
