-- A context fits after a write to an array as it did before.
use Rattle.std.proofs.Common.{◌≡◌, refl, sym, ◌∙◌, ap, subst, arith, ℕ, suc, ◌+◌, ◌*◌, ◌%◌, ◌^◌, ◌<◌, ◌≤◌, Bool, true, false}
use Rattle.std.proofs.Common.{List, [], ◌∷◌, ◌++◌, length, Option, Some, None, pos, slice_get, length-append, mul-le-mul_left}
use Rattle.std.specs.FinMap.{get}
use Rattle.std.specs.Int.{w32, to_le_bytes}
use Rattle.std.specs.List.{find, flat_map}
use Rattle.std.proofs.lemmas.List.{length-set}
use Rattle.std.proofs.lemmas.Option.{slice_get_within}
use Rattle.rup_base.specs.declared.arg.Arg.{Arg}
use Rattle.rup_base.specs.declared.arg.Arg.TheVariants as arg
use Rattle.side_certs.specs.LinearForm.{LinearForm}
use Rattle.rv_memory.specs.Ranges.{Bytes, Stands, Range, Within, Apart}
use Rattle.model_syntax.specs.Environment.{Env, value_of, elements, with_element}
use Rattle.model_syntax.specs.Names.{Name, same}
use Rattle.model_syntax.proofs.laws.Bindings.{same_is}
use Rattle.sym_heap.specs.declared.parts.Held.{Held}
use Rattle.sym_heap.specs.declared.parts.Clause.{Clause}
use Rattle.sym_heap.specs.Context.{Context, scalar, own, has, is_clause, change_first, with_clause, written}
use Rattle.sym_heap.specs.Elements.{element_bytes, element_top}
use Rattle.sym_heap.specs.Fits.{Call, Locals, IsArray, array_bytes, range_of, ScalarFits, ClauseFits, FitsBy, ArgsHeld, Known}
use Rattle.sym_heap.specs.Fits.{IsConsistent}
use Rattle.sym_heap.specs.Writes.{element_range, IsWritten}
use Rattle.sym_heap.proofs.Fitting.{somewhere}
use Rattle.sym_heap.proofs.Named.{unlike, ChangedAt, here as changed, there as unchanged, changed_at}
use Rattle.sym_heap.proofs.laws.Elements.{element_written}

-- Lengths.

chunks_length : (ns : List ℕ) → length (flat_map (to_le_bytes w32) ns) ≡ 4 * length ns
chunks_length [] = refl
chunks_length (n ∷ ns) =
    let rest = chunks_length ns in
    let joined : length (to_le_bytes w32 n ++ flat_map (to_le_bytes w32) ns)
    ≡ length (to_le_bytes w32 n) + length (flat_map (to_le_bytes w32) ns) =
    length-append (to_le_bytes w32 n) (flat_map (to_le_bytes w32) ns) in
    let four : length (to_le_bytes w32 n) ≡ 4 = refl in
    omega (arith, rest, joined, four)

pub bytes_length : (size : ℕ) (found : Option Arg) → IsArray size found
    → length (array_bytes found) ≡ size * length (elements found)
bytes_length size None is = absurd is
bytes_length size (Some (arg.Word n)) is = absurd is
bytes_length size (Some (arg.Bytes ns)) is = let product : 1 * length ns ≡ length ns = omega arith in
    sym (ap (λ s. s * length ns) is.0 ∙ product)
bytes_length size (Some (arg.Words ns)) is = chunks_length ns ∙ sym (ap (λ s. s * length ns) is.0)

as_many : (i n : ℕ) (found : Option Arg) → length (elements (with_element i n found)) ≡ length (elements found)
as_many i n None = refl
as_many i n (Some (arg.Word m)) = refl
as_many i n (Some (arg.Bytes ns)) = length-set ns i (n % 256)
as_many i n (Some (arg.Words ns)) = length-set ns i n

-- Clauses.

written_clause : (call : Call) (numbers : ℕ → ℕ) (k : Clause) (i n : ℕ) (found : Option Arg) (mem after : Bytes) (locals : Locals)
    → ClauseFits call numbers k found mem locals
    → i < length (elements found) → n ≤ element_top k.size
    → Stands after (call.pointers k.param + k.size * i) (element_bytes k.size n)
    → ((address : ℕ) → (Within (element_range call k i) address → ⊥) → get after address ≡ get mem address)
    → ClauseFits call numbers k (with_element i n found) after locals
written_clause call numbers k i n found mem after locals f inside small bytes others =
    let new = element_written k.size found mem after (call.pointers k.param) i n f.array f.stands inside small bytes others in
    let many = as_many i n found in
    let long : length (array_bytes (with_element i n found))
    ≡ length (array_bytes found) = bytes_length k.size (with_element i n found) new.0 ∙ ap (λ m. k.size * m) many
    ∙ sym (bytes_length k.size found f.array) in
    record {
      array = new.0;
      form = f.form ∙ ap pos (sym many);
      length_local = λ l is. f.length_local l is ∙ ap Some (sym many);
      parameter = long ∙ f.parameter;
      pointer = f.pointer;
      stands = new.1;
      few = (let most = f.few in omega (arith, many, most));
      aligned = f.aligned;
      ends = subst (λ (m : ℕ). call.pointers k.param + m ≤ 2 ^ 32) (sym long) f.ends;
    }

-- the range of an element is inside the range of its array
inside_range : (call : Call) (numbers : ℕ → ℕ) (k : Clause) (i : ℕ) (found : Option Arg) (mem : Bytes) (locals : Locals)
    → ClauseFits call numbers k found mem locals → i < length (elements found)
    → (address : ℕ) → Within (element_range call k i) address → Within (range_of call k.param) address
inside_range call numbers k i found mem locals f less address at =
    let long : length (array_bytes found) ≡ k.size * length (elements found) = bytes_length k.size found f.array in
    let size : length (array_bytes found) ≡ call.sizes k.param = f.parameter in
    let product : k.size * i + k.size ≤ k.size * length (elements found) = fits_in k.size i (length (elements found)) less in
    let low = at.0 in
    let high = at.1 in
    (omega (arith, low), omega (arith, high, long, size, product))
  where
    fits_in : (s j m : ℕ) → j < m → s * j + s ≤ s * m
    fits_in s j m j_less =
        let next : suc j ≤ m = omega (arith, j_less) in
        let times : s * suc j ≤ s * m = mul-le-mul_left s next in
        omega (arith, times)

other_clause : (call : Call) (numbers : ℕ → ℕ) (l : Clause) (r : Range) (found : Option Arg) (mem after : Bytes) (locals : Locals)
    → ClauseFits call numbers l found mem locals
    → ((address : ℕ) → Within r address → Within (range_of call l.param) address → ⊥)
    → ((address : ℕ) → (Within r address → ⊥) → get after address ≡ get mem address)
    → ClauseFits call numbers l found after locals
other_clause call numbers l r found mem after locals f apart others = record {
  array = f.array;
  form = f.form;
  length_local = f.length_local;
  parameter = f.parameter;
  pointer = f.pointer;
  stands = λ j b at. others (call.pointers l.param + j) (λ within. apart (call.pointers l.param + j) within (inside j b at))
      ∙ f.stands j b at;
  few = f.few;
  aligned = f.aligned;
  ends = f.ends;
} where
  inside : (j b : ℕ) → slice_get (array_bytes found) j ≡ Some b → Within (range_of call l.param) (call.pointers l.param + j)
  inside j b at =
      let less : j < length (array_bytes found) = slice_get_within (array_bytes found) j b at in
      let size : length (array_bytes found) ≡ call.sizes l.param = f.parameter in
      (omega arith, omega (arith, less, size))

pub no_scalar : (call : Call) (numbers : ℕ → ℕ) (k : Clause) (h : Held) (found : Option Arg) (mem : Bytes) (locals : Locals)
    → ClauseFits call numbers k found mem locals → ScalarFits numbers h found locals → ⊥
no_scalar call numbers k h found mem locals f s = subst (λ (o : Option Arg). IsArray k.size o) s.value f.array

pub written_fits : (call : Call) (numbers : ℕ → ℕ) (c : Context) (a : Name) (k : Clause) (i n : ℕ) (env after_env : Env)
    (mem after : Bytes) (locals : Locals)
    → FitsBy call numbers c env mem locals → own c a ≡ Some k → IsWritten call a k i n env after_env mem after
    → FitsBy call numbers c after_env after locals
written_fits call numbers c a k i n env after_env mem after locals fits is w = record {
  consistent = fits.consistent;
  entry_count = fits.entry_count;
  entries = fits.entries;
  holds = fits.holds;
  scalars = λ x h at. scalars x h at (same a x) refl;
  clauses = λ b l at. clauses b l at (same a b) refl;
  ranges = fits.ranges;
} where
  f : ClauseFits call numbers k (value_of env a) mem locals
  f = fits.clauses a k is

  scalars : (x : Name) (h : Held) → scalar c x ≡ Some h → (b : Bool) → same a x ≡ b
      → ScalarFits numbers h (value_of after_env x) locals
  scalars x h at true e = absurd
      (no_scalar call numbers k h (value_of env a) mem locals f
      (subst (λ (y : Name). ScalarFits numbers h (value_of env y) locals) (sym (same_is a x e)) (fits.scalars x h at)))
  scalars x h at false e = subst (λ (o : Option Arg). ScalarFits numbers h o locals) (sym (w.values x e)) (fits.scalars x h at)

  far : (b : Name) (l : Clause) → own c b ≡ Some l → same a b ≡ false → Apart (range_of call k.param) (range_of call l.param)
  far b l at e =
      let one = somewhere (is_clause a) c.clauses k is in
      let two = somewhere (is_clause b) c.clauses l at in
      fits.ranges one.place two.place k l one.at two.at (λ place.
      let both : Some k ≡ Some l = sym one.at ∙ ap (slice_get c.clauses) place ∙ two.at in
      let one_clause : k ≡ l = cc in
      let named_a : k.name ≡ a = same_is k.name a one.passes in
      let named_b : l.name ≡ b = same_is l.name b two.passes in
      unlike a b e (sym named_a ∙ ap (λ (z : Clause). z.name) one_clause ∙ named_b))

  clauses : (b : Name) (l : Clause) → own c b ≡ Some l → (t : Bool) → same a b ≡ t
      → ClauseFits call numbers l (value_of after_env b) after locals
  clauses b l at true e =
      let name : a ≡ b = same_is a b e in
      let both : Some k ≡ Some l = sym is ∙ ap (own c) name ∙ at in
      let one_clause : k ≡ l = cc in
      subst (λ (y : Name). ClauseFits call numbers l (value_of after_env y) after locals) name
      (subst (λ (z : Clause). ClauseFits call numbers z (value_of after_env a) after locals) one_clause
      (subst (λ (o : Option Arg). ClauseFits call numbers k o after locals) (sym w.value)
      (written_clause call numbers k i n (value_of env a) mem after locals f w.inside w.small w.bytes w.others)))
  clauses b l at false e =
      subst (λ (o : Option Arg). ClauseFits call numbers l o after locals) (sym (w.values b e))
      (other_clause call numbers l (element_range call k i) (value_of env b) mem after locals (fits.clauses b l at)
      (λ address one two. far b l at e address (inside_range call numbers k i (value_of env a) mem locals f w.inside address one)
      two) w.others)

-- Arguments.

-- what a name owns after a write was counted
data Counted (a b : Name) (ks : List Clause) (l : Clause) : Type 0 where
  here : (k : Clause) → find (is_clause b) ks ≡ Some k → same a b ≡ true → l ≡ written k → Counted a b ks l
  there : find (is_clause b) ks ≡ Some l → same a b ≡ false → Counted a b ks l

counted : (a b : Name) (ks : List Clause) (l : Clause) → find (is_clause b) (change_first (is_clause a) written ks) ≡ Some l
    → Counted a b ks l
counted a b [] l at = absurd (let bad : None ≡ Some l = at in cc)
counted a b (k ∷ ks) l at = by (same k.name a) refl (same k.name b) refl (same a b) refl at (counted a b ks l) where
  by : (p : Bool) → same k.name a ≡ p → (q : Bool) → same k.name b ≡ q → (r : Bool) → same a b ≡ r
      → find (is_clause b) (change_first (is_clause a) written (k ∷ ks)) ≡ Some l
      → (find (is_clause b) (change_first (is_clause a) written ks) ≡ Some l → Counted a b ks l) → Counted a b (k ∷ ks) l
  by true e true q true r is more =
      let found : Some (written k) ≡ Some l = rw (e, q) at is in
      let new : written k ≡ l = cc in
      here k (rw q refl) r (sym new)
  by true e true q false r is more = absurd (unlike a b r (sym (same_is k.name a e) ∙ same_is k.name b q))
  by true e false q true r is more = absurd (unlike k.name b q (same_is k.name a e ∙ same_is a b r))
  by true e false q false r is more = there (rw q (rw (e, q) at is)) r
  by false e true q true r is more = absurd (unlike k.name a e (same_is k.name b q ∙ sym (same_is a b r)))
  by false e true q false r is more = there (rw q (rw (e, q) at is)) r
  by false e false q s r is more = on (more (rw (e, q) at is)) where
    on : Counted a b ks l → Counted a b (k ∷ ks) l
    on (here m found same_name new) = here m (rw q found) same_name new
    on (there found other) = there (rw q found) other

-- a clause after a write was counted is one of before, but for the writes
record Was (ks : List Clause) (i : ℕ) (k : Clause) : Type 0 where
  pub clause : Clause
  pub at : slice_get ks i ≡ Some clause
  pub name : k.name ≡ clause.name
  pub param : k.param ≡ clause.param
  pub pointer : k.pointer ≡ clause.pointer
  pub length_same : k.length ≡ clause.length
  pub length_local : k.length_local ≡ clause.length_local

was : (a : Name) (ks : List Clause) (i : ℕ) (k : Clause) → slice_get (change_first (is_clause a) written ks) i ≡ Some k
    → Was ks i k
was a ks i k at = by (changed_at (λ (z : Clause). z.name) a written ks i k at) where
  by : ChangedAt (λ (z : Clause). z.name) a written ks i k → Was ks i k
  by (changed l found named place is) = record {
    clause = l;
    at = found;
    name = ap (λ (z : Clause). z.name) is;
    param = ap (λ (z : Clause). z.param) is;
    pointer = ap (λ (z : Clause). z.pointer) is;
    length_same = ap (λ (z : Clause). z.length) is;
    length_local = ap (λ (z : Clause). z.length_local) is;
  }
  by (unchanged found) = record {
    clause = k;
    at = found;
    name = refl;
    param = refl;
    pointer = refl;
    length_same = refl;
    length_local = refl;
  }

pub counted_consistent : (c : Context) (a : Name) → IsConsistent c → IsConsistent (with_clause a written c)
counted_consistent c a s = record {
  entries_known = s.entries_known;
  scalars_known = s.scalars_known;
  lengths_known = λ i k at. (let w = was a c.clauses i k at in
      subst (λ (f : LinearForm). Known (length c.tops) f) (sym w.length_same) (s.lengths_known i w.clause w.at));
  facts_known = s.facts_known;
  scalars_apart = s.scalars_apart;
  clauses_apart = λ i j k l at_i at_j differ. (
      let v = was a c.clauses i k at_i in
      let w = was a c.clauses j l at_j in
      let apart = s.clauses_apart i j v.clause w.clause v.at w.at differ in
      (ap (λ x. same x l.name) v.name ∙ ap (same v.clause.name) w.name ∙ apart.0, λ e. apart.1 (sym v.param ∙ e ∙ w.param)));
  pointers_reserved = λ i k at. (let w = was a c.clauses i k at in
      ap (λ p. has p c.reserved) w.pointer ∙ s.pointers_reserved i w.clause w.at);
  lengths_reserved = λ i k l at is.
      (let w = was a c.clauses i k at in s.lengths_reserved i w.clause l w.at (sym w.length_local ∙ is));
}

pub counted_fits : (call : Call) (numbers : ℕ → ℕ) (c : Context) (a : Name) (env : Env) (mem : Bytes) (locals : Locals)
    → FitsBy call numbers c env mem locals
    → FitsBy call numbers (with_clause a written c) env mem locals
counted_fits call numbers c a env mem locals fits = record {
  consistent = counted_consistent c a fits.consistent;
  entry_count = fits.entry_count;
  entries = fits.entries;
  holds = fits.holds;
  scalars = fits.scalars;
  clauses = λ b l at. clause b l (counted a b c.clauses l at);
  ranges = λ i j k l at_i at_j differ. (
      let v = was a c.clauses i k at_i in
      let w = was a c.clauses j l at_j in
      subst (λ p. Apart (range_of call p) (range_of call l.param)) (sym v.param)
      (subst (λ p. Apart (range_of call v.clause.param) (range_of call p)) (sym w.param)
      (fits.ranges i j v.clause w.clause v.at w.at differ)));
} where
  clause : (b : Name) (l : Clause) → Counted a b c.clauses l → ClauseFits call numbers l (value_of env b) mem locals
  clause b l (here k found same_name new) =
      let f = fits.clauses b k found in
      subst (λ (z : Clause). ClauseFits call numbers z (value_of env b) mem locals) (sym new)
      (record {
        array = f.array;
        form = f.form;
        length_local = f.length_local;
        parameter = f.parameter;
        pointer = f.pointer;
        stands = f.stands;
        few = f.few;
        aligned = f.aligned;
        ends = f.ends;
      })
  clause b l (there found other) = fits.clauses b l found

pub written_held : (args : List Arg) (c : Context) (a : Name) (env after_env : Env) → ArgsHeld args c env
    → ((b : Name) → same a b ≡ false → value_of after_env b ≡ value_of env b)
    → ArgsHeld args (with_clause a written c) after_env
written_held args c a env after_env held values b l at none = by (counted a b c.clauses l at) where
  by : Counted a b c.clauses l → value_of after_env b ≡ slice_get args l.param
  by (here k found same_name new) = let some : k.writes + 1 ≡ 0 = sym (ap (λ (z : Clause). z.writes) new) ∙ none in
      absurd (omega (arith, some))
  by (there found other) = values b other ∙ held b l found none
