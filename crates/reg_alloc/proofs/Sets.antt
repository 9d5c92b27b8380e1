-- One step of a union, and its end.
use Rattle.std.proofs.Common.{◌≡◌, refl, ap, subst, arith, ℕ, zero, suc, ◌+◌, ◌<◌, ◌≤◌, Bool, true, false, ◌||◌, ◌&&◌, not}
use Rattle.std.proofs.Common.{nat_eq, List, [], ◌∷◌, drop, length, ◌++◌, if◌then◌else◌}
use Rattle.std.specs.Prelude.{slice_index_or}
use Rattle.reg_alloc.specs.Check.{all_below}
use Rattle.reg_alloc.specs.Marks.{Marks, either, below, alone_from}

or_false : (b : Bool) → b ≡ (b || false)
or_false true = refl
or_false false = refl

abbrev no_marks : Marks
no_marks = []

drop_nil : (i : ℕ) → drop i no_marks ≡ no_marks
drop_nil zero = refl
drop_nil (suc i) = refl

step_at : (i : ℕ) (a b : Marks) → i < length a
    → either (drop i a) (drop i b)
    ≡ (slice_index_or a i false || slice_index_or b i false) ∷ either (drop (suc i) a) (drop (suc i) b)
step_at i [] b h = absurd (omega arith)
step_at zero (x ∷ a) [] h = ap (λ y. y ∷ either a []) (or_false x)
step_at zero (x ∷ a) (y ∷ b) h = refl
step_at (suc i) (x ∷ a) [] h =
    subst (λ (z : Marks). either (drop i a) z ≡ (slice_index_or a i false || false) ∷ either (drop (suc i) a) []) (drop_nil i)
    (step_at i a [] (omega arith))
step_at (suc i) (x ∷ a) (y ∷ b) h = step_at i a b (omega arith)

pub either_step : (i : ℕ) (a b : Marks) → i < length a
    → either (drop i a) (drop i b)
    ≡ (slice_index_or a i false || slice_index_or b i false) ∷ either (drop (i + 1) a) (drop (i + 1) b)
either_step i a b h =
    let e : suc i ≡ i + 1 = omega arith in
    subst (λ n. either (drop i a) (drop i b)
    ≡ (slice_index_or a i false || slice_index_or b i false) ∷ either (drop n a) (drop n b)) e (step_at i a b h)

pub either_done : (i : ℕ) (a b : Marks) → length a ≤ i → either (drop i a) (drop i b) ≡ []
either_done i [] b h = nothing i b
  where
    nothing : (i : ℕ) (b : Marks) → either (drop i []) (drop i b) ≡ []
    nothing zero b = refl
    nothing (suc i) b = refl
either_done zero (x ∷ a) b h = absurd (omega arith)
either_done (suc i) (x ∷ a) [] h = subst (λ (z : Marks). either (drop i a) z ≡ []) (drop_nil i) (either_done i a [] (omega arith))
either_done (suc i) (x ∷ a) (y ∷ b) h = either_done i a b (omega arith)

pub below_next : (n : ℕ) (test : ℕ → Bool) → below (n + 1) test ≡ (if test n then below n test ++ n ∷ [] else below n test)
below_next n test = let e : n + 1 ≡ suc n = omega arith in ap (λ k. below k test) e

alone_at : (q x k i : ℕ) (ps : List ℕ) (l : Marks) → i < length ps
    → alone_from q x k (drop i ps) (drop i l)
    ≡ ((not (slice_index_or l i false && nat_eq (slice_index_or ps i 0) q) || nat_eq k x)
    && alone_from q x (k + 1) (drop (suc i) ps) (drop (suc i) l))
alone_at q x k i [] l h = absurd (omega arith)
alone_at q x k zero (p ∷ []) [] h = refl
alone_at q x k zero (p ∷ r ∷ ps) [] h = refl
alone_at q x k zero (p ∷ ps) (b ∷ l) h = refl
alone_at q x k (suc i) (p ∷ ps) [] h =
    subst (λ (z : Marks). alone_from q x k (drop i ps) z
    ≡ ((not (false && nat_eq (slice_index_or ps i 0) q) || nat_eq k x) && alone_from q x (k + 1) (drop (suc i) ps) []))
    (drop_nil i) (alone_at q x k i ps [] (omega arith))
alone_at q x k (suc i) (p ∷ ps) (b ∷ l) h = alone_at q x k i ps l (omega arith)

pub alone_step : (q x i : ℕ) (ps : List ℕ) (l : Marks) → i < length ps
    → alone_from q x i (drop i ps) (drop i l)
    ≡ ((not (slice_index_or l i false && nat_eq (slice_index_or ps i 0) q) || nat_eq i x)
    && alone_from q x (i + 1) (drop (i + 1) ps) (drop (i + 1) l))
alone_step q x i ps l h =
    let e : suc i ≡ i + 1 = omega arith in
    subst (λ n. alone_from q x i (drop i ps) (drop i l)
    ≡ ((not (slice_index_or l i false && nat_eq (slice_index_or ps i 0) q) || nat_eq i x)
    && alone_from q x (i + 1) (drop n ps) (drop n l))) e (alone_at q x i i ps l h)

done_at : (q x k i : ℕ) (ps : List ℕ) (l : Marks) → length ps ≤ i → alone_from q x k (drop i ps) l ≡ true
done_at q x k zero [] l h = refl
done_at q x k (suc i) [] l h = refl
done_at q x k zero (p ∷ ps) l h = absurd (omega arith)
done_at q x k (suc i) (p ∷ ps) l h = done_at q x k i ps l (omega arith)

pub alone_done : (q x i : ℕ) (ps : List ℕ) (l : Marks) → length ps ≤ i → alone_from q x i (drop i ps) (drop i l) ≡ true
alone_done q x i ps l h = done_at q x i i ps (drop i l) h

pub all_below_next : (n : ℕ) (test : ℕ → Bool) → all_below (n + 1) test ≡ (all_below n test && test n)
all_below_next n test = let e : n + 1 ≡ suc n = omega arith in ap (λ k. all_below k test) e
