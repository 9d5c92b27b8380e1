-- What a context gains: with a further symbol, and with a further fact that holds, a state fits it that fitted it before.
use Rattle.std.proofs.Common.{◌≡◌, refl, sym, ◌∙◌, ap, subst, arith, ℕ, zero, suc, ◌<◌, ◌≤◌, nat_eq, Bool, true, false, List, []}
use Rattle.std.proofs.Common.{◌∷◌, ◌++◌, length, Option, Some, None, slice_get, if◌then◌else◌, ℤ, pos, ◌≤ℤ◌}
use Rattle.std.specs.List.{find}
use Rattle.std.proofs.lemmas.Bool.Decides.{nat_tests}
use Rattle.std.proofs.lemmas.Option.{slice_get_within}
use Rattle.rup_base.specs.declared.arg.Arg.{Arg}
use Rattle.rv_memory.specs.Ranges.{Bytes}
use Rattle.side_certs.specs.LinearForm.{LinearForm, constant, symbol, plus, times, value_at}
use Rattle.side_certs.proofs.laws.Coefficients.{Below, below_merge, below_times}
use Rattle.side_certs.proofs.laws.Values.{value_same}
use Rattle.model_syntax.specs.Environment.{Env, value_of}
use Rattle.sym_heap.specs.declared.parts.Held.{Held}
use Rattle.sym_heap.specs.declared.parts.Clause.{Clause}
use Rattle.sym_heap.specs.Context.{Context, is_scalar, is_clause, with_top, with_fact}
use Rattle.sym_heap.specs.Fits.{Locals, Call, Known, IsConsistent, ScalarFits, ClauseFits, FitsBy, Agree}
use Rattle.sym_heap.proofs.Fitting.{somewhere}

-- Lists with one more element.

pub data Behind {A : Type 0} (xs : List A) (y : A) (i : ℕ) (z : A) : Type 0 where
  before : slice_get xs i ≡ Some z → Behind xs y i z
  last : i ≡ length xs → y ≡ z → Behind xs y i z

pub behind : {A : Type 0} (xs : List A) (y : A) (i : ℕ) (z : A) → slice_get (xs ++ y ∷ []) i ≡ Some z → Behind xs y i z
behind [] y zero z at = last refl (cc)
behind [] y (suc i) z at = absurd (let bad : None ≡ Some z = at in cc)
behind (x ∷ xs) y zero z at = before at
behind {A} (x ∷ xs) y (suc i) z at = by (behind xs y i z at) where
  by : Behind xs y i z → Behind (x ∷ xs) y (suc i) z
  by (before is) = before is
  by (last place is) = last (ap suc place) is

pub longer : {A : Type 0} (xs : List A) (y : A) → length (xs ++ y ∷ []) ≡ suc (length xs)
longer [] y = refl
longer (x ∷ xs) y = ap suc (longer xs y)

-- Symbols of forms.

pub known_below : (n : ℕ) (f : LinearForm) → Known n f → Below n f.terms
known_below n f known = all f.terms known where
  all : (ts : List (ℕ × ℤ)) → ((i : ℕ) (t : ℕ × ℤ) → slice_get ts i ≡ Some t → t.0 < n) → Below n ts
  all [] each = tt
  all (t ∷ ts) each = (each 0 t refl, all ts (λ i u at. each (suc i) u at))

pub below_known : (n : ℕ) (f : LinearForm) → Below n f.terms → Known n f
below_known n f below = each f.terms below where
  each : (ts : List (ℕ × ℤ)) → Below n ts → (i : ℕ) (t : ℕ × ℤ) → slice_get ts i ≡ Some t → t.0 < n
  each [] all i t at = absurd (let bad : None ≡ Some t = at in cc)
  each (u ∷ us) all zero t at = let is : u ≡ t = cc in subst (λ (w : ℕ × ℤ). w.0 < n) is all.0
  each (u ∷ us) all (suc i) t at = each us all.1 i t at

pub known_more : (n m : ℕ) (f : LinearForm) → n ≤ m → Known n f → Known m f
known_more n m f less known i t at = let here = known i t at in omega (arith, less, here)

pub known_constant : (n : ℕ) (k : ℤ) → Known n (constant k)
known_constant n k i t at = absurd (let bad : None ≡ Some t = at in cc)

pub known_symbol : (n s : ℕ) → s < n → Known n (symbol s)
known_symbol n s less zero t at = let is : (s, pos 1) ≡ t = cc in subst (λ (w : ℕ × ℤ). w.0 < n) is less
known_symbol n s less (suc i) t at = absurd (let bad : None ≡ Some t = at in cc)

pub known_plus : (n : ℕ) (f g : LinearForm) → Known n f → Known n g → Known n (plus f g)
known_plus n f g one two = below_known n (plus f g) (below_merge n f.terms g.terms (known_below n f one) (known_below n g two))

pub known_times : (n : ℕ) (k : ℤ) (f : LinearForm) → Known n f → Known n (times k f)
known_times n k f known = below_known n (times k f) (below_times n k f.terms (known_below n f known))

-- a form has the same value where its symbols have the same numbers
pub known_value : (v w : ℕ → ℕ) (n : ℕ) (f : LinearForm) → Agree n v w → Known n f → value_at w f ≡ value_at v f
known_value v w n f agree known = value_same v w n agree f (known_below n f known)

-- Numbers.

-- the numbers in which one symbol has another one
abbrev pub given : (ℕ → ℕ) → ℕ → ℕ → ℕ → ℕ
given v symbol n s = if nat_eq s symbol then n else v s

pub given_here : (v : ℕ → ℕ) (symbol n : ℕ) → given v symbol n symbol ≡ n
given_here v symbol n = let same_one : nat_eq symbol symbol ≡ true = grind (arith, nat_tests) in rw same_one refl

pub given_agrees : (v : ℕ → ℕ) (symbol n : ℕ) → Agree symbol v (given v symbol n)
given_agrees v symbol n s less = let other : nat_eq s symbol ≡ false = grind (arith, nat_tests, less) in rw other refl

pub agree_self : (n : ℕ) (v : ℕ → ℕ) → Agree n v v
agree_self n v s less = refl

pub agree_on : (n m : ℕ) (u v w : ℕ → ℕ) → n ≤ m → Agree n u v → Agree m v w → Agree n u w
agree_on n m u v w less one two s below = two s (omega (arith, less, below)) ∙ one s below

-- other numbers of symbols that have no top
module _ (call : Call) (v w : ℕ → ℕ) (c : Context) (env : Env) (mem : Bytes) (locals : Locals) (agree : Agree (length c.tops) v w)
    (fits : FitsBy call v c env mem locals) where
  scalar_refits : (h : Held) (found : Option Arg) → Known (length c.tops) h.form → ScalarFits v h found locals
      → ScalarFits w h found locals
  scalar_refits h found known s = record {
    number = s.number;
    value = s.value;
    kind = s.kind;
    form = known_value v w (length c.tops) h.form agree known ∙ s.form;
    local = s.local;
  }

  clause_refits : (k : Clause) (found : Option Arg) → Known (length c.tops) k.length → ClauseFits call v k found mem locals
      → ClauseFits call w k found mem locals
  clause_refits k found known s = record {
    array = s.array;
    form = known_value v w (length c.tops) k.length agree known ∙ s.form;
    length_local = s.length_local;
    parameter = s.parameter;
    pointer = s.pointer;
    stands = s.stands;
    few = s.few;
    aligned = s.aligned;
    ends = s.ends;
  }

  pub refits : FitsBy call w c env mem locals
  refits = record {
    consistent = fits.consistent;
    entry_count = fits.entry_count;
    entries = λ s n at. (let inside : s < length call.entries = slice_get_within call.entries s n at in
        agree s (omega (arith, inside, fits.entry_count, fits.consistent.entries_known)) ∙ fits.entries s n at);
    holds = (
      λ i f at. subst (λ (z : ℤ). pos 0 ≤ℤ z) (sym (known_value v w (length c.tops) f agree (fits.consistent.facts_known i f at)))
          (fits.holds.0 i f at),
      λ s top at. subst (λ (z : ℕ). z ≤ top) (sym (agree s (slice_get_within c.tops s top at))) (fits.holds.1 s top at),
    );
    scalars = λ x h found. (let s = somewhere (is_scalar x) c.scalars h found in
        scalar_refits h (value_of env x) (fits.consistent.scalars_known s.place h s.at) (fits.scalars x h found));
    clauses = λ a k found. (let s = somewhere (is_clause a) c.clauses k found in
        clause_refits k (value_of env a) (fits.consistent.lengths_known s.place k s.at) (fits.clauses a k found));
    ranges = fits.ranges;
  }

-- Contexts.

pub consistent_top : (c : Context) (top : ℕ) → IsConsistent c → IsConsistent (with_top top c)
consistent_top c top is =
    let one : length (c.tops ++ top ∷ []) ≡ suc (length c.tops) = longer c.tops top in
    let more : length c.tops ≤ length (c.tops ++ top ∷ []) = omega (arith, one) in
    record {
      entries_known = omega (arith, more, is.entries_known);
      scalars_known = λ i h at. known_more (length c.tops) (length (c.tops ++ top ∷ [])) h.form more (is.scalars_known i h at);
      lengths_known = λ i k at. known_more (length c.tops) (length (c.tops ++ top ∷ [])) k.length more (is.lengths_known i k at);
      facts_known = λ i f at. known_more (length c.tops) (length (c.tops ++ top ∷ [])) f more (is.facts_known i f at);
      scalars_apart = is.scalars_apart;
      clauses_apart = is.clauses_apart;
      pointers_reserved = is.pointers_reserved;
      lengths_reserved = is.lengths_reserved;
    }

pub consistent_fact : (c : Context) (f : LinearForm) → Known (length c.tops) f → IsConsistent c → IsConsistent (with_fact f c)
consistent_fact c f known is = record {
  entries_known = is.entries_known;
  scalars_known = is.scalars_known;
  lengths_known = is.lengths_known;
  facts_known = λ i g at. by i g (behind c.facts f i g at);
  scalars_apart = is.scalars_apart;
  clauses_apart = is.clauses_apart;
  pointers_reserved = is.pointers_reserved;
  lengths_reserved = is.lengths_reserved;
}
  where
    by : (i : ℕ) (g : LinearForm) → Behind c.facts f i g → Known (length c.tops) g
    by i g (before at) = is.facts_known i g at
    by i g (last place same_one) = subst (λ (z : LinearForm). Known (length c.tops) z) same_one known

-- a further symbol may have any number up to its top
pub fits_top : (call : Call) (v : ℕ → ℕ) (c : Context) (top n : ℕ) (env : Env) (mem : Bytes) (locals : Locals) → n ≤ top
    → FitsBy call v c env mem locals → FitsBy call (given v (length c.tops) n) (with_top top c) env mem locals
fits_top call v c top n env mem locals small fits =
    let again : FitsBy call (given v (length c.tops) n) c env mem locals =
    refits call v (given v (length c.tops) n) c env mem locals (given_agrees v (length c.tops) n) fits in
    record {
      consistent = consistent_top c top fits.consistent;
      entry_count = again.entry_count;
      entries = again.entries;
      holds = (again.holds.0, λ s most at. by s most again (behind c.tops top s most at));
      scalars = again.scalars;
      clauses = again.clauses;
      ranges = again.ranges;
    }
  where
    by : (s most : ℕ) → FitsBy call (given v (length c.tops) n) c env mem locals → Behind c.tops top s most
        → given v (length c.tops) n s ≤ most
    by s most again (before at) = again.holds.1 s most at
    by s most again (last place is) =
        let here : given v (length c.tops) n s ≡ n = ap (given v (length c.tops) n) place ∙ given_here v (length c.tops) n in
        omega (arith, here, is, small)

-- a fact that holds may be added
pub fits_fact : (call : Call) (v : ℕ → ℕ) (c : Context) (f : LinearForm) (env : Env) (mem : Bytes) (locals : Locals)
    → Known (length c.tops) f → pos 0 ≤ℤ value_at v f
    → FitsBy call v c env mem locals → FitsBy call v (with_fact f c) env mem locals
fits_fact call v c f env mem locals known true_one fits = record {
  consistent = consistent_fact c f known fits.consistent;
  entry_count = fits.entry_count;
  entries = fits.entries;
  holds = (λ i g at. by i g (behind c.facts f i g at), fits.holds.1);
  scalars = fits.scalars;
  clauses = fits.clauses;
  ranges = fits.ranges;
}
  where
    by : (i : ℕ) (g : LinearForm) → Behind c.facts f i g → pos 0 ≤ℤ value_at v g
    by i g (before at) = fits.holds.0 i g at
    by i g (last place is) = subst (λ (z : LinearForm). pos 0 ≤ℤ value_at v z) is true_one

-- What is found by its name stands somewhere.

pub record Standing {A : Type 0} (test : A → Bool) (xs : List A) (x : A) : Type 0 where
  pub place : ℕ
  pub at : slice_get xs place ≡ Some x
  pub passes : test x ≡ true

pub standing : {A : Type 0} (test : A → Bool) (xs : List A) (x : A) → find test xs ≡ Some x → Standing test xs x
standing test xs x is = let s = somewhere test xs x is in record { place = s.place; at = s.at; passes = s.passes }
