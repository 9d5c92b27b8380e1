-- A context without the clause of one array: what it is, and that a state fits it whatever that array holds.
use Rattle.std.proofs.Common.{◌≡◌, refl, sym, ◌∙◌, ap, subst, arith, ℕ, zero, suc, Bool, true, false, List, [], ◌∷◌, Option, Some}
use Rattle.std.proofs.Common.{None, slice_get, if◌then◌else◌}
use Rattle.rup_base.specs.declared.arg.Arg.{Arg}
use Rattle.rv_memory.specs.Ranges.{Bytes}
use Rattle.model_syntax.specs.Environment.{Env, value_of}
use Rattle.model_syntax.specs.Names.{Name, same}
use Rattle.model_syntax.proofs.laws.Bindings.{same_is}
use Rattle.sym_heap.specs.declared.parts.Held.{Held}
use Rattle.sym_heap.specs.declared.parts.Clause.{Clause}
use Rattle.sym_heap.specs.Context.{Context, scalar, own, is_clause, without_first, without_clause}
use Rattle.sym_heap.specs.Fits.{Call, Locals, IsConsistent, ScalarFits, ClauseFits, FitsBy}
use Rattle.sym_heap.proofs.laws.Lookups.{own_dropped}
use Rattle.sym_heap.proofs.laws.Writes.{no_scalar}

-- Places.

-- the place, before an element was taken out, of what stands at a place after it
abbrev skip : {A : Type 0} → (A → Bool) → List A → ℕ → ℕ
skip test [] i = i
skip test (x ∷ xs) zero = if test x then 1 else 0
skip test (x ∷ xs) (suc i) = if test x then suc (suc i) else suc (skip test xs i)

left_at : {A : Type 0} (test : A → Bool) (xs : List A) (i : ℕ) (y : A) → slice_get (without_first test xs) i ≡ Some y
    → slice_get xs (skip test xs i) ≡ Some y
left_at test [] i y at = absurd (let bad : None ≡ Some y = at in cc)
left_at test (x ∷ xs) i y at = by (test x) refl i at (λ j found. left_at test xs j y found) where
  by : (b : Bool) → test x ≡ b → (i : ℕ) → slice_get (without_first test (x ∷ xs)) i ≡ Some y
      → ((j : ℕ) → slice_get (without_first test xs) j ≡ Some y → slice_get xs (skip test xs j) ≡ Some y)
      → slice_get (x ∷ xs) (skip test (x ∷ xs) i) ≡ Some y
  by true e zero found more = rw e (rw e at found)
  by true e (suc j) found more = rw e (rw e at found)
  by false e zero found more = rw e (rw e at found)
  by false e (suc j) found more = rw e (more j (rw e at found))

skip_apart : {A : Type 0} (test : A → Bool) (xs : List A) (i j : ℕ) → skip test xs i ≡ skip test xs j → i ≡ j
skip_apart test [] i j is = is
skip_apart test (x ∷ xs) i j is = by (test x) refl i j is (λ k l e. skip_apart test xs k l e) where
  by : (b : Bool) → test x ≡ b → (i j : ℕ) → skip test (x ∷ xs) i ≡ skip test (x ∷ xs) j
      → ((k l : ℕ) → skip test xs k ≡ skip test xs l → k ≡ l) → i ≡ j
  by true e zero zero e2 more = refl
  by true e zero (suc l) e2 more = let bad : 1 ≡ suc (suc l) = rw e at e2 in absurd (omega (arith, bad))
  by true e (suc k) zero e2 more = let bad : suc (suc k) ≡ 1 = rw e at e2 in absurd (omega (arith, bad))
  by true e (suc k) (suc l) e2 more = let good : suc (suc k) ≡ suc (suc l) = rw e at e2 in omega (arith, good)
  by false e zero zero e2 more = refl
  by false e zero (suc l) e2 more = let bad : 0 ≡ suc (skip test xs l) = rw e at e2 in absurd (omega (arith, bad))
  by false e (suc k) zero e2 more = let bad : suc (skip test xs k) ≡ 0 = rw e at e2 in absurd (omega (arith, bad))
  by false e (suc k) (suc l) e2 more = let good : suc (skip test xs k) ≡ suc (skip test xs l) = rw e at e2 in
      ap suc (more k l (omega (arith, good)))

-- Contexts.

pub dropped_good : (c : Context) (a : Name) → IsConsistent c → IsConsistent (without_clause a c)
dropped_good c a s = record {
  entries_known = s.entries_known;
  scalars_known = s.scalars_known;
  lengths_known = λ i k at. s.lengths_known (skip (is_clause a) c.clauses i) k (left_at (is_clause a) c.clauses i k at);
  facts_known = s.facts_known;
  scalars_apart = s.scalars_apart;
  clauses_apart = λ i j k l at_i at_j differ. s.clauses_apart (skip (is_clause a) c.clauses i) (skip (is_clause a) c.clauses j) k
      l
      (left_at (is_clause a) c.clauses i k at_i) (left_at (is_clause a) c.clauses j l at_j)
      (λ e. differ (skip_apart (is_clause a) c.clauses i j e));
  pointers_reserved = λ i k at. s.pointers_reserved (skip (is_clause a) c.clauses i) k (left_at (is_clause a) c.clauses i k at);
  lengths_reserved = λ i k l at is. s.lengths_reserved (skip (is_clause a) c.clauses i) k l
      (left_at (is_clause a) c.clauses i k at) is;
}

-- what owns a name there owns it here, and the name is another
own_left : (c : Context) (a b : Name) (k : Clause) → IsConsistent c → own (without_clause a c) b ≡ Some k
    → (same a b ≡ false) × (own c b ≡ Some k)
own_left c a b k s at = by (same a b) refl where
  by : (t : Bool) → same a b ≡ t → (same a b ≡ false) × (own c b ≡ Some k)
  by true e = absurd (let bad : None ≡ Some k = sym (own_dropped c a s b ∙ rw e refl) ∙ at in cc)
  by false e = (e, sym (own_dropped c a s b ∙ rw e refl) ∙ at)

-- a state that fits, with the array as it is, fits without it with any values of its name
pub dropped_fits : (call : Call) (v : ℕ → ℕ) (c : Context) (a : Name) (k : Clause) (env other : Env) (mem : Bytes)
    (locals : Locals) → own c a ≡ Some k → FitsBy call v c env mem locals
    → ((b : Name) → same a b ≡ false → value_of other b ≡ value_of env b) → FitsBy call v (without_clause a c) other mem locals
dropped_fits call v c a k env other mem locals owned fits others = record {
  consistent = dropped_good c a fits.consistent;
  entry_count = fits.entry_count;
  entries = fits.entries;
  holds = fits.holds;
  scalars = λ x h at. scalars x h at (same a x) refl;
  clauses = λ b l at. (let left = own_left c a b l fits.consistent at in
      subst (λ (z : Option Arg). ClauseFits call v l z mem locals) (sym (others b left.0)) (fits.clauses b l left.1));
  ranges = λ i j l m at_i at_j differ. fits.ranges (skip (is_clause a) c.clauses i) (skip (is_clause a) c.clauses j) l m
      (left_at (is_clause a) c.clauses i l at_i) (left_at (is_clause a) c.clauses j m at_j)
      (λ e. differ (skip_apart (is_clause a) c.clauses i j e));
} where
  scalars : (x : Name) (h : Held) → scalar c x ≡ Some h → (t : Bool) → same a x ≡ t → ScalarFits v h (value_of other x) locals
  scalars x h at false e = subst (λ (z : Option Arg). ScalarFits v h z locals) (sym (others x e)) (fits.scalars x h at)
  scalars x h at true e =
      absurd (no_scalar call v k h (value_of env a) mem locals (fits.clauses a k owned)
      (subst (λ (y : Name). ScalarFits v h (value_of env y) locals) (sym (same_is a x e)) (fits.scalars x h at)))

-- a context is true of values, and not of how they are written down
pub fits_alike : (call : Call) (v : ℕ → ℕ) (c : Context) (env other : Env) (mem : Bytes) (locals : Locals)
    → ((y : Name) → value_of other y ≡ value_of env y) → FitsBy call v c env mem locals → FitsBy call v c other mem locals
fits_alike call v c env other mem locals alike fits = record {
  consistent = fits.consistent;
  entry_count = fits.entry_count;
  entries = fits.entries;
  holds = fits.holds;
  scalars = λ x h at. subst (λ (z : Option Arg). ScalarFits v h z locals) (sym (alike x)) (fits.scalars x h at);
  clauses = λ b l at. subst (λ (z : Option Arg). ClauseFits call v l z mem locals) (sym (alike b)) (fits.clauses b l at);
  ranges = fits.ranges;
}
