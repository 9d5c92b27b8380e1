-- The first element that passes a test: where it stands, and the list with it changed, replaced or taken out.
use Rattle.std.proofs.Common.{◌≡◌, refl, ap, subst, arith, ℕ, suc, ◌+◌, ◌<◌, Bool, true, false, List, [], ◌∷◌, ◌++◌, length}
use Rattle.std.proofs.Common.{Option, Some, None, option_map}
use Rattle.std.proofs.Math.ListN.{set, get_or}
use Rattle.std.specs.Prelude.{remove}
use Rattle.std.specs.List.{find, position_from}
use Rattle.sym_heap.specs.Context.{change_first, put_first, without_first}

-- no element passes
pub record Nowhere {A : Type 0} (test : A → Bool) (xs : List A) : Type 0 where
  pub found : find test xs ≡ None
  pub unchanged : (change : A → A) → change_first test change xs ≡ xs
  pub put : (new : A) → put_first test new xs ≡ xs ++ new ∷ []

-- the first that passes stands at this place
pub record There {A : Type 0} (test : A → Bool) (xs : List A) (i : ℕ) : Type 0 where
  pub inside : i < length xs
  pub found : (d : A) → find test xs ≡ Some (get_or xs i d)
  pub changed : (change : A → A) (d : A) → change_first test change xs ≡ set xs i (change (get_or xs i d))
  pub put : (new : A) → put_first test new xs ≡ set xs i new
  pub taken_out : without_first test xs ≡ remove xs i

abbrev pub FirstAt : {A : Type 0} → (A → Bool) → List A → Option ℕ → Type 0
FirstAt test xs None = Nowhere test xs
FirstAt test xs (Some i) = There test xs i

shifted : {A : Type 0} (test : A → Bool) (n : ℕ) (xs : List A)
    → position_from test (n + 1) xs ≡ option_map suc (position_from test n xs)
shifted test n [] = refl
shifted test n (x ∷ xs) = by (test x) refl (shifted test (n + 1) xs) where
  by : (is : Bool) → test x ≡ is → position_from test (n + 1 + 1) xs ≡ option_map suc (position_from test (n + 1) xs)
      → position_from test (n + 1) (x ∷ xs) ≡ option_map suc (position_from test n (x ∷ xs))
  by true is more = rw is (ap Some (omega arith))
  by false is more = rw is more

behind : {A : Type 0} (test : A → Bool) (x : A) (xs : List A) → test x ≡ false → (p : Option ℕ) → FirstAt test xs p
    → FirstAt test (x ∷ xs) (option_map suc p)
behind test x xs fails None h =
    record {
      found = rw fails h.found;
      unchanged = λ change. rw fails (ap (λ l. x ∷ l) (h.unchanged change));
      put = λ new. rw fails (ap (λ l. x ∷ l) (h.put new));
    }
behind test x xs fails (Some i) h = record {
  inside = omega (arith, h.inside);
  found = λ d. rw fails (h.found d);
  changed = λ change d. rw fails (ap (λ l. x ∷ l) (h.changed change d));
  put = λ new. rw fails (ap (λ l. x ∷ l) (h.put new));
  taken_out = rw fails (ap (λ l. x ∷ l) h.taken_out);
}

pub first_at : {A : Type 0} (test : A → Bool) (xs : List A) → FirstAt test xs (position_from test 0 xs)
first_at test [] = record { found = refl; unchanged = λ change. refl; put = λ new. refl }
first_at {A} test (x ∷ xs) = by (test x) refl (first_at test xs) where
  by : (is : Bool) → test x ≡ is → FirstAt test xs (position_from test 0 xs)
      → FirstAt test (x ∷ xs) (position_from test 0 (x ∷ xs))
  by true is more = rw is (record {
    inside = omega arith;
    found = λ d. rw is refl;
    changed = λ change d. rw is refl;
    put = λ new. rw is refl;
    taken_out = rw is refl;
  })
  by false is more = rw is (rw (shifted test 0 xs) (behind test x xs is (position_from test 0 xs) more))

pub nowhere : {A : Type 0} (test : A → Bool) (xs : List A) → position_from test 0 xs ≡ None → Nowhere test xs
nowhere test xs is = subst (λ q. FirstAt test xs q) is (first_at test xs)

pub there : {A : Type 0} (test : A → Bool) (xs : List A) (i : ℕ) → position_from test 0 xs ≡ Some i → There test xs i
there test xs i is = subst (λ q. FirstAt test xs q) is (first_at test xs)
