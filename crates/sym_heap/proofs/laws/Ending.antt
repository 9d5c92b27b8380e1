-- What a state at the end of a block says of the context that is gone back to.
use Rattle.std.proofs.Common.{◌≡◌, ◌≢◌, refl, sym, ◌∙◌, ap, subst, arith, ℕ, ◌+◌, ◌≤◌, ◌%◌, ◌^◌, Bool, true, false, List, length}
use Rattle.std.proofs.Common.{map, Option, Some, ℤ, pos, ◌≤ℤ◌, slice_get}
use Rattle.std.proofs.lemmas.Option.{slice_get_within}
use Rattle.rup_base.specs.declared.arg.Arg.{Arg}
use Rattle.rv_memory.specs.Ranges.{Bytes, Apart, Stands}
use Rattle.side_certs.specs.LinearForm.{LinearForm, value_at}
use Rattle.model_syntax.specs.Environment.{Env, value_of}
use Rattle.model_syntax.specs.Names.{Name, same, listed}
use Rattle.sym_heap.specs.declared.parts.Held.{Held}
use Rattle.sym_heap.specs.declared.parts.Clause.{Clause}
use Rattle.sym_heap.specs.Context.{Context, scalar, has, back_to}
use Rattle.sym_heap.specs.Ends.{of_param, taken_over, at_ends, standing, with_ends}
use Rattle.sym_heap.specs.Fits.{Call, Locals, IsArray, array_bytes, range_of, Known, IsConsistent, ScalarFits, ClauseFits, FitsBy}
use Rattle.sym_heap.specs.Fits.{Agree}
use Rattle.sym_heap.specs.Moves.{Follow, ParamsOnce}
use Rattle.sym_heap.specs.Settle.{IsKnown, FitsRest, none, among}
use Rattle.sym_heap.proofs.laws.EndScopes.{mapped, later}
use Rattle.sym_heap.proofs.laws.Lookups.{clause_stands, scalar_stands, found_at, name_of_clause}
use Rattle.sym_heap.proofs.laws.States.{MoreTops, known_of, consistent_of, known_same, wider_known, rest_of_fits}

-- Contexts after ends.

-- the array of a clause, in the context of before
pub record IsOf (ks : List Clause) (i : ℕ) (j : Clause) : Type 0 where
  pub before : Clause
  pub at : slice_get ks i ≡ Some before
  pub param : j.param ≡ before.param
  pub size : j.size ≡ before.size
  pub pointer : j.pointer ≡ before.pointer
  pub length_same : j.length ≡ before.length
  pub length_local : j.length_local ≡ before.length_local

-- the context is the one of before, but that it has more symbols, and arrays other names and writes
pub record IsOver (c d : Context) : Type 0 where
  pub known : IsKnown d
  pub scalars : d.scalars ≡ c.scalars
  pub facts : d.facts ≡ c.facts
  pub entries : d.entries ≡ c.entries
  pub tops : MoreTops c d.tops
  pub arrays : (i : ℕ) (j : Clause) → slice_get d.clauses i ≡ Some j → IsOf c.clauses i j

-- what the ends are to the context of before
pub record EndsFollow (names : List Name) (c one two : Context) : Type 0 where
  pub follow_one : Follow c.clauses one.clauses
  pub follow_two : Follow c.clauses two.clauses
  pub once_one : ParamsOnce one.clauses
  pub once_two : ParamsOnce two.clauses
  pub names_once : (i j : ℕ) (k l : Clause) → slice_get one.clauses i ≡ Some k → slice_get one.clauses j ≡ Some l → i ≢ j
      → same k.name l.name ≡ false
  -- an array whose name at the end is not listed has its name of before
  pub unlisted : (i : ℕ) (k l : Clause) → slice_get c.clauses i ≡ Some k → slice_get one.clauses i ≡ Some l
      → listed l.name names ≡ false → k.name ≡ l.name
  pub tops : MoreTops c two.tops
  pub entries : two.entries ≡ c.entries

-- a clause after the ends: that of before, and that at the first end, whose name it has
pub record IsEnded (c one : Context) (i : ℕ) (j : Clause) : Type 0 where
  pub was : IsOf c.clauses i j
  pub last : Clause
  pub at_last : slice_get one.clauses i ≡ Some last
  pub name : j.name ≡ last.name

ended_one : (names : List Name) (c one : Context) (i : ℕ) (k l m : Clause) → slice_get c.clauses i ≡ Some k
    → slice_get one.clauses i ≡ Some l
    → (listed l.name names ≡ false → k.name ≡ l.name) → IsEnded c one i (taken_over names (Some l) (Some m) k)
ended_one names c one i k l m at_k at_l unlisted = by (listed l.name names) refl where
  by : (b : Bool) → listed l.name names ≡ b → IsEnded c one i (taken_over names (Some l) (Some m) k)
  by true e = rw e (record {
    was = record { before = k; at = at_k; param = refl; size = refl; pointer = refl; length_same = refl; length_local = refl };
    last = l;
    at_last = at_l;
    name = refl;
  })
  by false e = rw e (record {
    was = record { before = k; at = at_k; param = refl; size = refl; pointer = refl; length_same = refl; length_local = refl };
    last = l;
    at_last = at_l;
    name = unlisted e;
  })

pub ended : (names : List Name) (c one two : Context) → EndsFollow names c one two → (i : ℕ) (j : Clause)
    → slice_get (map (at_ends names (standing one) (standing two)) c.clauses) i ≡ Some j → IsEnded c one i j
ended names c one two a i j at =
    let m = mapped (at_ends names (standing one) (standing two)) c.clauses i j at in
    let k = m.clause in
    let first = later c.clauses one.clauses i k a.follow_one m.at in
    let second = later c.clauses two.clauses i k a.follow_two m.at in
    let l = first.clause in
    let found_one : of_param k.param one.clauses ≡ Some l = ap (λ p. of_param p one.clauses) (sym first.same_one.param)
    ∙ a.once_one i l first.at in
    let found_two : of_param k.param two.clauses
    ≡ Some second.clause = ap (λ p. of_param p two.clauses) (sym second.same_one.param)
    ∙ a.once_two i second.clause second.at in
    let is : j ≡ taken_over names (Some l) (Some second.clause) k =
    m.is ∙ ap (λ o. taken_over names o (of_param k.param two.clauses) k) found_one
    ∙ ap (λ o. taken_over names (Some l) o k) found_two in
    subst (λ (z : Clause). IsEnded c one i z) (sym is)
    (ended_one names c one i k l second.clause m.at first.at (a.unlisted i k l m.at first.at))

-- the context after the ends
pub ends_over : (names : List Name) (c one two : Context) → IsConsistent c → EndsFollow names c one two
    → IsOver c (with_ends names (standing one) (standing two) (back_to c two))
ends_over names c one two s a = record {
  known = record {
    entries_known = (let few = wide.entries_known in let same_count = a.entries in omega (arith, few, same_count));
    scalars_known = wide.scalars_known;
    lengths_known = λ i j at. (let e = clause i j at in
        subst (λ (f : LinearForm). Known (length two.tops) f) (sym e.was.length_same)
        (wide.lengths_known i e.was.before e.was.at));
    facts_known = wide.facts_known;
    scalars_once = wide.scalars_once;
    clauses_apart = λ i j k l at_i at_j differ. (let e = clause i k at_i in let f = clause j l at_j in (
      ap (λ x. same x l.name) e.name ∙ ap (same e.last.name) f.name ∙ a.names_once i j e.last f.last e.at_last f.at_last differ,
      λ is. (s.clauses_apart i j e.was.before f.was.before e.was.at f.was.at differ).1 (sym e.was.param ∙ is ∙ f.was.param),
    ));
    pointers_reserved = λ i j at. (let e = clause i j at in
        ap (λ p. has p c.reserved) e.was.pointer ∙ s.pointers_reserved i e.was.before e.was.at);
    lengths_reserved = λ i j l at is.
        (let e = clause i j at in s.lengths_reserved i e.was.before l e.was.at (sym e.was.length_local ∙ is));
  };
  scalars = refl;
  facts = refl;
  entries = a.entries;
  tops = a.tops;
  arrays = λ i j at. (clause i j at).was;
} where
  wide : IsKnown (record c { tops = two.tops })
  wide = wider_known c two.tops a.tops (known_of c s)

  clause : (i : ℕ) (j : Clause) → slice_get (map (at_ends names (standing one) (standing two)) c.clauses) i ≡ Some j
      → IsEnded c one i j
  clause i j at = ended names c one two a i j at

-- a context is over itself: a loop's, at its next turn
pub over_self : (c : Context) → IsConsistent c → MoreTops c c.tops → IsOver c c
over_self c s tops = record {
  known = known_of c s;
  scalars = refl;
  facts = refl;
  entries = refl;
  tops = tops;
  arrays = λ i j at. record {
    before = j;
    at = at;
    param = refl;
    size = refl;
    pointer = refl;
    length_same = refl;
    length_local = refl;
  };
}

pub over_consistent : (c d : Context) → IsConsistent c → IsOver c d → IsConsistent d
over_consistent c d s over = consistent_of d over.known (λ i j h k at_i at_j differ.
    (s.scalars_apart i j h k (ap (λ hs. slice_get hs i) (sym over.scalars) ∙ at_i)
    (ap (λ hs. slice_get hs j) (sym over.scalars) ∙ at_j) differ).1)

-- States.

-- the arrays and the scalars that are not listed after a block
pub record EndsHold (names : List Name) (c d end_ : Context) (env end_env after_env : Env) (locals end_locals : Locals) : Type 0
  where
    pub arrays : (i : ℕ) (j l : Clause) → slice_get d.clauses i ≡ Some j → slice_get end_.clauses i ≡ Some l
        → value_of after_env j.name ≡ value_of end_env l.name
    pub values : (x : Name) (h : Held) → scalar c x ≡ Some h → listed x names ≡ false → value_of after_env x ≡ value_of env x
    pub locals_kept : (x : Name) (h : Held) → scalar c x ≡ Some h → listed x names ≡ false → end_locals h.local ≡ locals h.local

-- A state that fits the end of a block, but for some scalars, fits the
-- context that is gone back to, but for the listed scalars, with
-- the numbers that symbols had before the block, where the context of
-- before need not fit by them but for the listed scalars either.
-- The end is the context before itself where a block did not run.
pub ends_rest : (spared : Name → Bool) (names : List Name) (call : Call) (v u w : ℕ → ℕ) (c d end_ : Context)
    (env end_env after_env : Env) (mem end_mem : Bytes) (locals end_locals : Locals)
    → IsOver c d → Follow c.clauses end_.clauses → FitsRest (among names) call v c env mem locals
    → FitsRest spared call u end_ end_env end_mem end_locals
    → Agree (length c.tops) v u → Agree (length c.tops) v w → ((s top : ℕ) → slice_get d.tops s ≡ Some top → w s ≤ top)
    → EndsHold names c d end_ env end_env after_env locals end_locals
    → FitsRest (among names) call w d after_env end_mem end_locals
ends_rest spared names call v u w c d end_ env end_env after_env mem end_mem locals end_locals over follow fits end_fits at_end
    agree below hold = record {
      known = over.known;
      entry_count = over.entries ∙ fits.entry_count;
      entries = λ s n at. (let less = slice_get_within call.entries s n at in let count = fits.entry_count in
          let few = fits.known.entries_known in
          agree s (omega (arith, less, count, few)) ∙ fits.entries s n at);
      holds = (
        λ i f at. (let old : slice_get c.facts i ≡ Some f = ap (λ fs. slice_get fs i) (sym over.facts) ∙ at in
            subst (λ (z : ℤ). pos 0 ≤ℤ z) (sym (known_same (length c.tops) f v w (fits.known.facts_known i f old) agree))
            (fits.holds.0 i f old)),
        below,
      );
      scalars = λ x h at free. scalar_fits x h (sym (ap (λ hs. scalar (record c { scalars = hs }) x) over.scalars) ∙ at) free;
      clauses = λ a j at. (let p = clause_stands d a j at in
          subst (λ (y : Name). ClauseFits call w j (value_of after_env y) end_mem end_locals) p.named
          (clause_fits p.place j p.at (over.arrays p.place j p.at)));
      ranges = λ i j k l at_i at_j differ. (let e = over.arrays i k at_i in let f = over.arrays j l at_j in
          subst (λ m. Apart (range_of call m) (range_of call l.param)) (sym e.param)
          (subst (λ m. Apart (range_of call e.before.param) (range_of call m)) (sym f.param)
          (fits.ranges i j e.before f.before e.at f.at differ)));
    } where
      scalar_fits : (x : Name) (h : Held) → scalar c x ≡ Some h → listed x names ≡ false
          → ScalarFits w h (value_of after_env x) end_locals
      scalar_fits x h at free =
          let f = fits.scalars x h at free in
          let p = scalar_stands c x h at in
          record {
            number = f.number;
            value = hold.values x h at free ∙ f.value;
            kind = f.kind;
            form = known_same (length c.tops) h.form v w (fits.known.scalars_known p.place h p.at) agree ∙ f.form;
            local = hold.locals_kept x h at free ∙ f.local;
          }

      clause_fits : (i : ℕ) (j : Clause) → slice_get d.clauses i ≡ Some j → IsOf c.clauses i j
          → ClauseFits call w j (value_of after_env j.name) end_mem end_locals
      clause_fits i j at o =
          let k = o.before in
          let n = later c.clauses end_.clauses i k follow o.at in
          let l = n.clause in
          let f = end_fits.clauses l.name l
          (found_at name_of_clause end_.clauses
          (λ i j x y at_i at_j differ. (end_fits.known.clauses_apart i j x y at_i at_j differ).0) i l n.at) in
          let found : value_of after_env j.name ≡ value_of end_env l.name = hold.arrays i j l at n.at in
          let size : l.size ≡ j.size = n.same_one.size ∙ sym o.size in
          let param : l.param ≡ j.param = n.same_one.param ∙ sym o.param in
          let pointer : j.pointer ≡ l.pointer = o.pointer ∙ sym n.same_one.pointer in
          let length_local : l.length_local ≡ j.length_local = n.same_one.length_local ∙ sym o.length_local in
          let known = fits.known.lengths_known i k o.at in
          let form : value_at w j.length ≡ value_at u l.length =
          ap (value_at w) o.length_same ∙ known_same (length c.tops) k.length v w known agree
          ∙ sym (known_same (length c.tops) k.length v u known at_end) ∙ ap (value_at u) (sym n.same_one.length_same) in
          subst (λ (z : Option Arg). ClauseFits call w j z end_mem end_locals) (sym found) (record {
            array = subst (λ (m : ℕ). IsArray m (value_of end_env l.name)) size f.array;
            form = form ∙ f.form;
            length_local = λ q is. f.length_local q (length_local ∙ is);
            parameter = f.parameter ∙ ap call.sizes param;
            pointer = ap end_locals pointer ∙ f.pointer ∙ ap Some (ap call.pointers param);
            stands = subst (λ (m : ℕ). Stands end_mem (call.pointers m) (array_bytes (value_of end_env l.name))) param f.stands;
            few = f.few;
            aligned = subst (λ (m : ℕ). call.pointers m % j.size ≡ 0) param
                (subst (λ (m : ℕ). call.pointers l.param % m ≡ 0) size f.aligned);
            ends = subst (λ (m : ℕ). call.pointers m + length (array_bytes (value_of end_env l.name)) ≤ 2 ^ 32) param f.ends;
          })

pub ends_fit : (names : List Name) (call : Call) (v u w : ℕ → ℕ) (c d end_ : Context) (env end_env after_env : Env)
    (mem end_mem : Bytes) (locals end_locals : Locals)
    → IsOver c d → Follow c.clauses end_.clauses → FitsBy call v c env mem locals → FitsBy call u end_ end_env end_mem end_locals
    → Agree (length c.tops) v u → Agree (length c.tops) v w → ((s top : ℕ) → slice_get d.tops s ≡ Some top → w s ≤ top)
    → EndsHold names c d end_ env end_env after_env locals end_locals
    → FitsRest (among names) call w d after_env end_mem end_locals
ends_fit names call v u w c d end_ env end_env after_env mem end_mem locals end_locals over follow fits end_fits =
    ends_rest none names call v u w c d end_ env end_env after_env mem end_mem locals end_locals over follow
    (rest_of_fits (among names) call v c env mem locals fits) (rest_of_fits none call u end_ end_env end_mem end_locals end_fits)
