-- A context fits where an array goes on under another name, with an element written.
use Rattle.std.proofs.Common.{◌≡◌, ◌≢◌, refl, sym, ◌∙◌, ap, subst, arith, ℕ, ◌+◌, inl, inr, Bool, true, false, List, length}
use Rattle.std.proofs.Common.{Option, Some, None, slice_get, option_map, if◌then◌else◌}
use Rattle.rup_base.specs.declared.arg.Arg.{Arg}
use Rattle.rup_base.specs.declared.arg.Arg.TheVariants as arg
use Rattle.rv_memory.specs.Ranges.{Bytes, Apart}
use Rattle.side_certs.specs.LinearForm.{LinearForm}
use Rattle.model_syntax.specs.Environment.{Env, value_of, put_some, with_element}
use Rattle.model_syntax.specs.Names.{Name, same}
use Rattle.model_syntax.proofs.laws.Bindings.{same_is, same_self, value_here, value_else}
use Rattle.sym_heap.specs.declared.parts.Held.{Held}
use Rattle.sym_heap.specs.declared.parts.Clause.{Clause}
use Rattle.sym_heap.specs.Context.{Context, scalar, own, has, is_clause, change_first, with_clause, renamed, written}
use Rattle.sym_heap.specs.Fits.{Call, Locals, IsArray, range_of, Known, IsConsistent, ScalarFits, ClauseFits, FitsBy, ArgsHeld}
use Rattle.sym_heap.specs.Writes.{IsMoved}
use Rattle.sym_heap.proofs.Named.{ChangedAt, here, there, changed_at}
use Rattle.sym_heap.proofs.laws.Lookups.{IsNew, name_of_clause, differ_back, clause_found, own_counted, own_renamed}
use Rattle.sym_heap.proofs.laws.Writes.{no_scalar, written_fits, counted_fits, counted_consistent}

-- a clause after a rename is one of before, but for its name
record Before (ks : List Clause) (i : ℕ) (k : Clause) : Type 0 where
  pub clause : Clause
  pub at : slice_get ks i ≡ Some clause
  pub param : k.param ≡ clause.param
  pub pointer : k.pointer ≡ clause.pointer
  pub length_same : k.length ≡ clause.length
  pub length_local : k.length_local ≡ clause.length_local

before : (a b : Name) (ks : List Clause) (i : ℕ) (k : Clause) → slice_get (change_first (is_clause a) (renamed b) ks) i ≡ Some k
    → Before ks i k
before a b ks i k at = by (changed_at name_of_clause a (renamed b) ks i k at) where
  by : ChangedAt name_of_clause a (renamed b) ks i k → Before ks i k
  by (here l found named place is) = record {
    clause = l;
    at = found;
    param = ap (λ (z : Clause). z.param) is;
    pointer = ap (λ (z : Clause). z.pointer) is;
    length_same = ap (λ (z : Clause). z.length) is;
    length_local = ap (λ (z : Clause). z.length_local) is;
  }
  by (there found) = record { clause = k; at = found; param = refl; pointer = refl; length_same = refl; length_local = refl }

pub renamed_consistent : (c : Context) (a b : Name) → IsNew a b c.clauses → IsConsistent c
    → IsConsistent (with_clause a (renamed b) c)
renamed_consistent c a b new s = record {
  entries_known = s.entries_known;
  scalars_known = s.scalars_known;
  lengths_known = λ i k at. (let w = before a b c.clauses i k at in
      subst (λ (f : LinearForm). Known (length c.tops) f) (sym w.length_same) (s.lengths_known i w.clause w.at));
  facts_known = s.facts_known;
  scalars_apart = s.scalars_apart;
  clauses_apart = λ i j k l at_i at_j differ. (
    names i j k l differ (changed_at name_of_clause a (renamed b) c.clauses i k at_i)
        (changed_at name_of_clause a (renamed b) c.clauses j l at_j),
    params i j k l differ (before a b c.clauses i k at_i) (before a b c.clauses j l at_j),
  );
  pointers_reserved = λ i k at. (let w = before a b c.clauses i k at in
      ap (λ p. has p c.reserved) w.pointer ∙ s.pointers_reserved i w.clause w.at);
  lengths_reserved = λ i k l at is.
      (let w = before a b c.clauses i k at in s.lengths_reserved i w.clause l w.at (sym w.length_local ∙ is));
} where
  params : (i j : ℕ) (k l : Clause) → i ≢ j → Before c.clauses i k → Before c.clauses j l → k.param ≢ l.param
  params i j k l differ v w is = (s.clauses_apart i j v.clause w.clause v.at w.at differ).1 (sym v.param ∙ is ∙ w.param)

  -- the new name is no other clause's
  far : (i j : ℕ) (x l : Clause) → i ≢ j → slice_get c.clauses i ≡ Some x → x.name ≡ a → slice_get c.clauses j ≡ Some l
      → IsNew a b c.clauses → same b l.name ≡ false
  far i j x l differ at_i named at_j (inl is) =
      ap (λ y. same y l.name) (sym (same_is a b is) ∙ sym named) ∙ (s.clauses_apart i j x l at_i at_j differ).0
  far i j x l differ at_i named at_j (inr none_there) = by (same b l.name) refl where
    by : (t : Bool) → same b l.name ≡ t → same b l.name ≡ false
    by true e = absurd (let bad : None ≡ Some l = sym none_there ∙ ap (own c) (same_is b l.name e) ∙ clause_found c s j l at_j in
        cc)
    by false e = e

  names : (i j : ℕ) (k l : Clause) → i ≢ j → ChangedAt name_of_clause a (renamed b) c.clauses i k
      → ChangedAt name_of_clause a (renamed b) c.clauses j l → same k.name l.name ≡ false
  names i j k l differ (there at_i) (there at_j) = (s.clauses_apart i j k l at_i at_j differ).0
  names i j k l differ (here x at_i named place is) (there at_j) = ap (λ (z : Clause). same z.name l.name) is
      ∙ far i j x l differ at_i named at_j new
  names i j k l differ (there at_i) (here x at_j named place is) =
      ap (λ (z : Clause). same k.name z.name) is ∙ differ_back b k.name (far j i x k (λ e. differ (sym e)) at_j named at_i new)
  names i j k l differ (here x at_i named_i place_i is_i) (here y at_j named_j place_j is_j) =
      absurd (differ (place_i ∙ sym place_j))

-- the array has its value under the new name
pub renamed_fits : (call : Call) (v : ℕ → ℕ) (c : Context) (a b : Name) (k : Clause) (env after_env : Env) (mem : Bytes)
    (locals : Locals)
    → FitsBy call v c env mem locals → own c a ≡ Some k → IsNew a b c.clauses → scalar c b ≡ None
    → value_of after_env b ≡ value_of env a
    → ((x : Name) → same b x ≡ false → same a x ≡ false → value_of after_env x ≡ value_of env x)
    → FitsBy call v (with_clause a (renamed b) c) after_env mem locals
renamed_fits call v c a b k env after_env mem locals fits is new no_scalar_b value values = record {
  consistent = renamed_consistent c a b new fits.consistent;
  entry_count = fits.entry_count;
  entries = fits.entries;
  holds = fits.holds;
  scalars = λ x h at. scalar_fits x h at (same b x) refl (same a x) refl;
  clauses = λ z l at. clause_fits z l (same b z) refl (same a z) refl (sym (own_renamed c a b k fits.consistent is new z) ∙ at);
  ranges = λ i j x y at_i at_j differ. (
      let p = before a b c.clauses i x at_i in
      let q = before a b c.clauses j y at_j in
      subst (λ m. Apart (range_of call m) (range_of call y.param)) (sym p.param)
      (subst (λ m. Apart (range_of call p.clause.param) (range_of call m)) (sym q.param)
      (fits.ranges i j p.clause q.clause p.at q.at differ)));
} where
  f : ClauseFits call v k (value_of env a) mem locals
  f = fits.clauses a k is

  scalar_fits : (x : Name) (h : Held) → scalar c x ≡ Some h → (t : Bool) → same b x ≡ t → (u : Bool) → same a x ≡ u
      → ScalarFits v h (value_of after_env x) locals
  scalar_fits x h at true e u g = absurd (let bad : None ≡ Some h = sym no_scalar_b ∙ ap (scalar c) (same_is b x e) ∙ at in cc)
  scalar_fits x h at false e true g =
      absurd (no_scalar call v k h (value_of env a) mem locals f
      (subst (λ (y : Name). ScalarFits v h (value_of env y) locals) (sym (same_is a x g)) (fits.scalars x h at)))
  scalar_fits x h at false e false g =
      subst (λ (o : Option Arg). ScalarFits v h o locals) (sym (values x e g)) (fits.scalars x h at)

  taken : ClauseFits call v (renamed b k) (value_of env a) mem locals
  taken = record {
    array = f.array;
    form = f.form;
    length_local = f.length_local;
    parameter = f.parameter;
    pointer = f.pointer;
    stands = f.stands;
    few = f.few;
    aligned = f.aligned;
    ends = f.ends;
  }

  clause_fits : (z : Name) (l : Clause) → (t : Bool) → same b z ≡ t → (u : Bool) → same a z ≡ u
      → (if same b z then Some (renamed b k) else (if same a z then None else own c z)) ≡ Some l
      → ClauseFits call v l (value_of after_env z) mem locals
  clause_fits z l true e u g at =
      let both : Some (renamed b k) ≡ Some l = rw e at at in
      let one : renamed b k ≡ l = cc in
      subst (λ (x : Clause). ClauseFits call v x (value_of after_env z) mem locals) one
      (subst (λ (y : Name). ClauseFits call v (renamed b k) (value_of after_env y) mem locals) (same_is b z e)
      (subst (λ (o : Option Arg). ClauseFits call v (renamed b k) o mem locals) (sym value) taken))
  clause_fits z l false e true g at = absurd (let bad : None ≡ Some l = rw (e, g) at at in cc)
  clause_fits z l false e false g at =
      subst (λ (o : Option Arg). ClauseFits call v l o mem locals) (sym (values z e g)) (fits.clauses z l (rw (e, g) at at))

-- the name that is new is so too once a write was counted
new_counted : (c : Context) (a b : Name) → IsNew a b c.clauses → IsNew a b (with_clause a written c).clauses
new_counted c a b (inl is) = inl is
new_counted c a b (inr none_there) = inr (own_counted c a b ∙ by (same a b)) where
  by : (t : Bool) → (if t then option_map written (own c b) else own c b) ≡ None
  by true = ap (option_map written) none_there
  by false = none_there

-- an array with an element written goes on under a new name
pub moved_fits : (call : Call) (v : ℕ → ℕ) (c : Context) (a b : Name) (k : Clause) (i n : ℕ) (env after_env : Env)
    (mem after : Bytes) (locals : Locals)
    → FitsBy call v c env mem locals → own c a ≡ Some k → IsNew a b c.clauses → scalar c b ≡ None
    → IsMoved call a b k i n env after_env mem after
    → FitsBy call v (with_clause a (renamed b) (with_clause a written c)) after_env after locals
moved_fits call v c a b k i n env after_env mem after locals fits is new no_scalar_b m =
    by (with_element i n (value_of env a)) refl where
      counted : own (with_clause a written c) a ≡ Some (written k)
      counted = own_counted c a a ∙ rw (same_self a, is) refl

      f : ClauseFits call v k (value_of env a) mem locals
      f = fits.clauses a k is

      some_value : (found : Option Arg) → IsArray k.size found → with_element i n found ≡ None → ⊥
      some_value None array gone = array
      some_value (Some (arg.Word w)) array gone = array
      some_value (Some (arg.Bytes ns)) array gone = absurd (cc)
      some_value (Some (arg.Words ns)) array gone = absurd (cc)

      by : (o : Option Arg) → with_element i n (value_of env a) ≡ o
          → FitsBy call v (with_clause a (renamed b) (with_clause a written c)) after_env after locals
      by None e = absurd (some_value (value_of env a) f.array e)
      by (Some w) e =
          let between : Env = put_some a (Some w) env in
          let one : FitsBy call v c between after locals =
          written_fits call v c a k i n env between mem after locals fits is (record {
            inside = m.inside;
            small = m.small;
            value = value_here a w env ∙ sym e;
            values = λ x apart. value_else a x w env apart;
            bytes = m.bytes;
            others = m.others;
          }) in
          let two : FitsBy call v (with_clause a written c) between after locals =
          counted_fits call v c a between after locals one in
          renamed_fits call v (with_clause a written c) a b (written k) between after_env after locals two counted
          (new_counted c a b new) no_scalar_b
          (m.value ∙ e ∙ sym (value_here a w env)) (λ x apart_b apart_a. m.values x apart_b ∙ sym (value_else a x w env apart_a))

pub moved_held : (args : List Arg) (c : Context) (a b : Name) (k : Clause) (env after_env : Env) → IsConsistent c
    → own c a ≡ Some k → IsNew a b c.clauses
    → ((x : Name) → same b x ≡ false → value_of after_env x ≡ value_of env x) → ArgsHeld args c env
    → ArgsHeld args (with_clause a (renamed b) (with_clause a written c)) after_env
moved_held args c a b k env after_env s is new values all z l at never =
    by (same b z) refl (same a z) refl
    (sym (own_renamed (with_clause a written c) a b (written k) (counted_consistent c a s) counted (new_counted c a b new) z)
    ∙ at)
  where
    counted : own (with_clause a written c) a ≡ Some (written k)
    counted = own_counted c a a ∙ rw (same_self a, is) refl

    by : (t : Bool) → same b z ≡ t → (u : Bool) → same a z ≡ u
        → (if same b z then Some (renamed b (written k)) else (if same a z then None else own (with_clause a written c) z))
        ≡ Some l → value_of after_env z ≡ slice_get args l.param
    by true e u g found =
        let both : Some (renamed b (written k)) ≡ Some l = rw e at found in
        let one : renamed b (written k) ≡ l = cc in
        let more : k.writes + 1 ≡ l.writes = ap (λ (x : Clause). x.writes) one in
        absurd (omega (arith, more, never))
    by false e true g found = absurd (let bad : None ≡ Some l = rw (e, g) at found in cc)
    by false e false g found =
        let one : own (with_clause a written c) z ≡ Some l = rw (e, g) at found in
        let old : own c z ≡ Some l = (let same_one : own (with_clause a written c) z ≡ own c z = own_counted c a z ∙ rw g refl in
        sym same_one ∙ one) in
        values z e ∙ all z l old never
