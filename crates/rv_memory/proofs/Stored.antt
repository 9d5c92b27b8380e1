-- Bytes that are set one after the other store a number, where all their addresses are in the memory.
use Rattle.std.proofs.Common.{◌≡◌, ℕ, zero, suc, ◌+◌, ◌/◌, ◌%◌, Bool, true, false, cond, Option, Some, None, IsSome, is_some}
use Rattle.std.proofs.Common.{IsTrue, if◌then◌else◌, refl, sym, ap, ◌∙◌}
use Rattle.std.specs.Ordering.{nat_cmp, eq_by_cmp}
use Rattle.std.specs.Cmp.{nat_cmp_total}
use Rattle.std.specs.FinMap.{get, insert, get-insert}
use Rattle.rv_memory.specs.Numbers.{joined, number_at, with_number}
use Rattle.rv_memory.specs.Ranges.{Bytes}

first_of : (x y : Option ℕ) → is_some (joined x y) ≡ true → is_some x ≡ true
first_of (Some low) (Some high) e = refl
first_of (Some low) None e = refl
first_of None y e = e

rest_of : (x y : Option ℕ) → is_some (joined x y) ≡ true → is_some y ≡ true
rest_of (Some low) (Some high) e = refl
rest_of (Some low) None e = e
rest_of None y e = absurd (cc)

pub both_are : (x y : Option ℕ) → is_some x ≡ true → is_some y ≡ true → is_some (joined x y) ≡ true
both_are (Some low) (Some high) e f = refl
both_are (Some low) None e f = f
both_are None y e f = e

cond_some : (t : Bool) (b : ℕ) (x : Option ℕ) → is_some x ≡ true → is_some (cond t (Some b) x) ≡ true
cond_some true b x e = refl
cond_some false b x e = e

-- an address stays in the memory where a byte is set
kept : (m : Bytes) (a b q : ℕ) → is_some (get m q) ≡ true → is_some (get (insert m a b) q) ≡ true
kept m a b q e = ap is_some (get-insert nat_cmp_total m a b q) ∙ cond_some (eq_by_cmp nat_cmp q a) b (get m q) e

number_kept : (m : Bytes) (a b size q : ℕ) → is_some (number_at m size q) ≡ true → is_some (number_at (insert m a b) size q)
    ≡ true
unfolding number_at
number_kept m a b zero q e = refl
number_kept m a b (suc size) q e =
    both_are (get (insert m a b) q) (number_at (insert m a b) size (q + 1))
    (kept m a b q (first_of (get m q) (number_at m size (q + 1)) e))
    (number_kept m a b size (q + 1) (rest_of (get m q) (number_at m size (q + 1)) e))

set_done : (m after : Bytes) (a b : ℕ) (done : Bool) → IsSome (get m a) → (IsSome (get m a) → IsTrue done)
    → after ≡ (if done then insert m a b else m) → after ≡ insert m a b
set_done m after a b true there found e = e
set_done m after a b false there found e = absurd (cc (found there))

-- the first byte of a number is set, and the others are still to be, from the next address on
pub record OneSet (m after : Bytes) (size a next v : ℕ) : Type 0 where
  pub rest : with_number m (suc size) a v ≡ with_number after size next (v / 256)
  pub there : is_some (number_at after size next) ≡ true

pub one_set : (m after : Bytes) (size a next v b : ℕ) (done : Bool) → is_some (number_at m (suc size) a) ≡ true
    → (IsSome (get m a) → IsTrue done) → after ≡ (if done then insert m a b else m) → next ≡ a + 1 → b ≡ v % 256
    → OneSet m after size a next v
unfolding number_at with_number
one_set m after size a next v b done there found e follows byte =
    let is : after ≡ insert m a b = set_done m after a b done (first_of (get m a) (number_at m size (a + 1)) there) found e in
    record {
      rest = ap (λ x. with_number (insert m a x) size (a + 1) (v / 256)) (sym byte)
          ∙ ap (λ x. with_number x size (a + 1) (v / 256)) (sym is) ∙ ap (λ x. with_number after size x (v / 256)) (sym follows);
      there = ap (λ x. is_some (number_at x size next)) is ∙ ap (λ x. is_some (number_at (insert m a b) size x)) follows
          ∙ number_kept m a b size (a + 1) (rest_of (get m a) (number_at m size (a + 1)) there);
    }

-- no byte is left to be set
pub none_left : (m : Bytes) (a v : ℕ) → with_number m 0 a v ≡ m
unfolding with_number
none_left m a v = refl
