-- The state after one of two blocks has run: it fits the context that goes on from both ends.
use Rattle.std.proofs.Common.{◌≡◌, refl, sym, ◌∙◌, ap, subst, arith, ℕ, ◌≤◌, inl, inr, ◌⊎◌, nat_lt, Bool, true, false, ◌||◌, List}
use Rattle.std.proofs.Common.{[], ◌∷◌, length, Option, Some, None, pos, slice_get}
use Rattle.std.specs.List.{list_any}
use Rattle.std.proofs.lemmas.Bool.{ltb-true}
use Rattle.std.proofs.lemmas.Bool.Decides.{nat_tests}
use Rattle.rup_base.specs.declared.arg.Arg.{Arg}
use Rattle.rup_base.specs.declared.arg.Arg.TheVariants as arg
use Rattle.rv_memory.specs.Ranges.{Bytes}
use Rattle.side_certs.specs.LinearForm.{value_at}
use Rattle.model_syntax.specs.Environment.{Env, value_of, carry}
use Rattle.model_syntax.specs.Names.{Name, same, listed}
use Rattle.model_syntax.specs.Scope.{Scope}
use Rattle.model_syntax.specs.declared.expr.Scalar.{Scalar}
use Rattle.model_syntax.specs.declared.program.Param.{Param}
use Rattle.model_syntax.specs.declared.stmt.Le.{Le}
use Rattle.sym_heap.specs.declared.parts.Held.{Held}
use Rattle.sym_heap.specs.declared.parts.Clause.{Clause}
use Rattle.sym_heap.specs.Context.{Context, scalar, top_of}
use Rattle.sym_heap.specs.Ends.{greater, taken_over}
use Rattle.sym_heap.specs.Fits.{Call, Locals, IsArray, FitsBy, FitsOn, Agree}
use Rattle.sym_heap.specs.Moves.{Follow}
use Rattle.sym_heap.specs.Settle.{FitsRest, among, Stood, AllStood, or_nothing, settle}
use Rattle.sym_heap.specs.Sides.{form_or_nothing, form_in}
use Rattle.sym_heap.specs.Start.{with_facts}
use Rattle.sym_heap.proofs.laws.EndScopes.{later}
use Rattle.sym_heap.proofs.laws.Ending.{EndsHold, IsEnded, ended, ends_fit}
use Rattle.sym_heap.proofs.laws.Lookups.{scalar_stands, clause_found, differ_back}
use Rattle.sym_heap.proofs.laws.Settling.{place_in, settle_fits}
use Rattle.sym_heap.proofs.laws.States.{agree_on, known_same, taken_length, nothing_agrees, nothing_below}
use Rattle.sym_heap.proofs.laws.Turns.{carried, carried_else}
use Rattle.expr_rules.specs.Sound.{AllKnown, AllHold}
use Rattle.stmt_rules.specs.Nesting.{end_form}
use Rattle.stmt_rules.specs.Sound.{UnwrittenKept}
use Rattle.stmt_rules.proofs.sound.Begun.{facts_fit}
use Rattle.stmt_rules.proofs.sound.Joined.{forms_of}
use Rattle.stmt_rules.proofs.sound.Kept.{forms_hold}
use Rattle.stmt_rules.proofs.sound.Meeting.{over, Meeting, ArrayAt, array_at, taken_is, follow, is_over, lost, settled, apart}
use Rattle.stmt_rules.proofs.sound.Meeting.{same_scalar, alike_gone, alike_there}

-- the names, either way round
listed_any : (names : List Name) (x : Name) → list_any (λ y. same y x) names ≡ listed x names
listed_any [] x = refl
listed_any (y ∷ ys) x = rw (listed_any ys x) (by (same y x) refl (same x y) refl) where
  by : (p : Bool) → same y x ≡ p → (q : Bool) → same x y ≡ q → (same y x || listed x ys) ≡ (same x y || listed x ys)
  by true e true f = rw (e, f) refl
  by false e false f = rw (e, f) refl
  by true e false f = absurd (let bad : true ≡ false = sym e ∙ differ_back x y f in cc)
  by false e true f = absurd (let bad : false ≡ true = sym (differ_back y x e) ∙ f in cc)

greater_parts : (n m k : ℕ) → k ≤ n → k ≤ m → greater n m ≡ k → (n ≡ k) × (m ≡ k)
greater_parts n m k one two is = by (nat_lt n m) refl is where
  by : (b : Bool) → nat_lt n m ≡ b → greater n m ≡ k → (n ≡ k) × (m ≡ k)
  by true e at =
      let last : m ≡ k = rw e at at in
      let less = ltb-true n m e in
      absurd (omega (arith, last, less, one))
  by false e at =
      let first : n ≡ k = rw e at at in
      let not_less : m ≤ n = grind (arith, nat_tests, e) in
      (first, omega (arith, first, not_less, two))

-- what a block has left that began where a state fits, and which has ended in the context `end_`
pub record HasRun (names : List Name) (keep : List Le) (call : Call) (numbers others : ℕ → ℕ) (mid end_ : Context)
    (env end_env : Env) (mem end_mem : Bytes) (locals end_locals : Locals) : Type 0 where
  pub began : FitsBy call numbers mid env mem locals
  pub fits : FitsBy call others end_ end_env end_mem end_locals
  pub agree : Agree (length mid.tops) numbers others
  pub unwritten : UnwrittenKept mid.clauses end_.clauses env end_env
  pub locals_kept : (x : Name) (h : Held) → scalar mid x ≡ Some h → listed x names ≡ false → end_locals h.local ≡ locals h.local
  pub hold : AllHold others (forms_of (end_form names end_.scalars mid.scalars) keep)

-- a scalar stands alike at another end
pub record StandsAlike (end_ : Context) (y : Name) (h : Held) : Type 0 where
  pub scalar_there : Held
  pub is : scalar end_ y ≡ Some scalar_there
  pub local : scalar_there.local ≡ h.local
  pub kind : scalar_there.kind ≡ h.kind

-- the context is one of two ends
pub record IsEnd (names : List Name) (mid one two end_ : Context) : Type 0 where
  pub follow : Follow mid.clauses end_.clauses
  pub arrays : (i : ℕ) (n : Clause) → slice_get end_.clauses i ≡ Some n
      → (slice_get one.clauses i ≡ Some n) ⊎ (slice_get two.clauses i ≡ Some n)
  pub gone : (y : Name) → listed y names ≡ true → scalar one y ≡ None → scalar end_ y ≡ None
  pub there : (y : Name) (h : Held) → listed y names ≡ true → scalar one y ≡ Some h → StandsAlike end_ y h

module _ (ps : List Param) (scope one_scope two_scope after : Scope) (names : List Name) (mid one two : Context)
    (m : Meeting ps scope one_scope two_scope after names mid one two) where
  pub first_end : IsEnd names mid one two one
  first_end = record {
    follow = m.one_follow;
    arrays = λ i n at. inl at;
    gone = λ y in_list none. none;
    there = λ y h in_list at. record { scalar_there = h; is = at; local = refl; kind = refl };
  }

  pub second_end : IsEnd names mid one two two
  second_end = record {
    follow = m.two_follow;
    arrays = λ i n at. inr at;
    gone = λ y in_list none. alike_gone ps scope one_scope two_scope after names mid one two m y in_list none;
    there = λ y h in_list at. (
        let l = alike_there ps scope one_scope two_scope after names mid one two m y h in_list at in
        let s = same_scalar ps scope one_scope two_scope after names mid one two m y h l.0 in_list at l.1 in
        record { scalar_there = l.0; is = l.1; local = s.local; kind = s.kind });
  }

module _ (ps : List Param) (scope one_scope two_scope after : Scope) (names : List Name) (keep : List Le) (mid one two : Context)
    (m : Meeting ps scope one_scope two_scope after names mid one two)
    (call : Call) (numbers others : ℕ → ℕ) (end_ : Context) (env end_env : Env) (mem end_mem : Bytes) (locals end_locals : Locals)
    (e : IsEnd names mid one two end_)
    (r : HasRun names keep call numbers others mid end_ env end_env mem end_mem locals end_locals) where
  abbrev left : Env
  left = carry names end_env env

  abbrev joint : Context
  joint = over names mid one two

  abbrev last : Context
  last = settle names one joint

  abbrev zeroed : ℕ → ℕ
  zeroed = or_nothing (length mid.tops) numbers

  -- Arrays.

  -- an array at this end and at both
  record IsArrayAt (i : ℕ) (k : Clause) (a : ArrayAt names mid one two i k) (n : Clause) : Type 0 where
    pub name : n.name ≡ a.at_one.name
    pub as_before : listed a.at_one.name names ≡ false → n.writes ≡ k.writes
    pub writes : a.at_one.writes ≡ k.writes → a.at_two.writes ≡ k.writes → n.writes ≡ k.writes

  is_array : (i : ℕ) (k n : Clause) (a : ArrayAt names mid one two i k) → slice_get end_.clauses i ≡ Some n → IsArrayAt i k a n
  is_array i k n a at = by (e.arrays i n at) where
    by : (slice_get one.clauses i ≡ Some n) ⊎ (slice_get two.clauses i ≡ Some n) → IsArrayAt i k a n
    by (inl here) =
        let found : Some n ≡ Some a.at_one = sym here ∙ a.is_one in
        let is : n ≡ a.at_one = cc in
        let writes : n.writes ≡ a.at_one.writes = ap (λ (z : Clause). z.writes) is in
        record {
          name = ap (λ (z : Clause). z.name) is;
          as_before = λ out. writes ∙ (a.pair.as_before out).1.0;
          writes = λ p q. writes ∙ p;
        }
    by (inr here) =
        let found : Some n ≡ Some a.at_two = sym here ∙ a.is_two in
        let is : n ≡ a.at_two = cc in
        let writes : n.writes ≡ a.at_two.writes = ap (λ (z : Clause). z.writes) is in
        record {
          name = ap (λ (z : Clause). z.name) is ∙ sym a.pair.name;
          as_before = λ out. writes ∙ (a.pair.as_before out).1.1;
          writes = λ p q. writes ∙ q;
        }

  -- a listed name has its array of the end
  array_carried : (i : ℕ) (n : Clause) (x : Name) → slice_get end_.clauses i ≡ Some n → n.name ≡ x → listed x names ≡ true
      → value_of left x ≡ value_of end_env n.name
  array_carried i n x at named in_list =
      by (value_of end_env n.name) refl (r.fits.clauses n.name n (clause_found end_ r.fits.consistent i n at)).array where
        by : (o : Option Arg) → value_of end_env n.name ≡ o → IsArray n.size (value_of end_env n.name)
            → value_of left x ≡ value_of end_env n.name
        by None at_none is = absurd (subst (λ (o : Option Arg). IsArray n.size o) at_none is)
        by (Some v) at_some is = carried names end_env env x v in_list (ap (value_of end_env) (sym named) ∙ at_some) ∙ sym at_some

  array_holds : (i : ℕ) (j n : Clause) → slice_get joint.clauses i ≡ Some j → slice_get end_.clauses i ≡ Some n
      → value_of left j.name ≡ value_of end_env n.name
  array_holds i j n at_j at_n = by (listed j.name names) refl where
    s : IsEnded mid one i j
    s = ended names mid one two (follow ps scope one_scope two_scope after names mid one two m) i j at_j

    a : ArrayAt names mid one two i s.was.before
    a = array_at ps scope one_scope two_scope after names mid one two m i s.was.before s.was.at

    last_is : s.last ≡ a.at_one
    last_is = let found : Some s.last ≡ Some a.at_one = sym s.at_last ∙ a.is_one in cc

    here : IsArrayAt i s.was.before a n
    here = is_array i s.was.before n a at_n

    named : j.name ≡ a.at_one.name
    named = s.name ∙ ap (λ (z : Clause). z.name) last_is

    by : (b : Bool) → listed j.name names ≡ b → value_of left j.name ≡ value_of end_env n.name
    by true in_list = array_carried i n j.name at_n (here.name ∙ sym named) in_list
    by false out =
        let free : listed a.at_one.name names ≡ false = ap (λ x. listed x names) (sym named) ∙ out in
        carried_else names end_env env j.name out ∙ ap (value_of env) (named ∙ sym (a.pair.as_before free).0)
        ∙ sym (r.unwritten i s.was.before n s.was.at at_n (here.as_before free))

  holds : EndsHold names mid joint end_ env end_env left locals end_locals
  holds = record {
    arrays = array_holds;
    values = λ x h at out. carried_else names end_env env x out;
    locals_kept = r.locals_kept;
  }

  -- an array that was not written to holds the same list after both
  pub unwritten_after : UnwrittenKept mid.clauses last.clauses env left
  unwritten_after i k l at_k at_l same_writes = by (listed a.at_one.name names) refl where
    a : ArrayAt names mid one two i k
    a = array_at ps scope one_scope two_scope after names mid one two m i k at_k

    at_joint : slice_get joint.clauses i ≡ Some l
    at_joint = ap (λ ks. slice_get ks i) (sym (settled ps scope one_scope two_scope after names mid one two m).clauses) ∙ at_l

    is : l ≡ taken_over names (Some a.at_one) (Some a.at_two) k
    is = taken_is ps scope one_scope two_scope after names mid one two m i k l at_k at_joint a

    by : (b : Bool) → listed a.at_one.name names ≡ b → value_of left l.name ≡ value_of env k.name
    by true in_list =
        let taken : l ≡ record k { name = a.at_one.name; writes = greater a.at_one.writes a.at_two.writes } =
        is ∙ rw in_list refl in
        let writes : greater a.at_one.writes a.at_two.writes ≡ k.writes = ap (λ (z : Clause). z.writes) (sym taken) ∙ same_writes
        in
        let parts = greater_parts a.at_one.writes a.at_two.writes k.writes a.same_one.writes a.same_two.writes writes in
        let n = later mid.clauses end_.clauses i k e.follow at_k in
        let here = is_array i k n.clause a n.at in
        let name : l.name ≡ a.at_one.name = ap (λ (z : Clause). z.name) taken in
        array_carried i n.clause l.name n.at (here.name ∙ sym name) (ap (λ x. listed x names) name ∙ in_list)
        ∙ r.unwritten i k n.clause at_k n.at (here.writes parts.0 parts.1)
    by false out =
        let taken : l ≡ k = is ∙ rw out refl in
        let name = (a.pair.as_before out).0 in
        ap (λ (z : Clause). value_of left z.name) taken
        ∙ carried_else names end_env env k.name (ap (λ x. listed x names) name ∙ out)

  -- Scalars.

  stood : AllStood names one joint left end_locals
  stood y in_list = by (scalar one y) refl where
    by : (o : Option Held) → scalar one y ≡ o → Stood (scalar one y) (scalar joint y) (value_of left y) end_locals
    by None at = rw at (lost ps scope one_scope two_scope after names mid one two m y in_list at)
    by (Some h) at =
        let t = e.there y h in_list at in
        let f = r.fits.scalars y t.scalar_there t.is in
        let kind : f.number ≤ top_of h.kind = subst (λ (u : Scalar). f.number ≤ top_of u) t.kind f.kind in
        rw at (
          f.number,
          carried names end_env env y (arg.Word f.number) in_list f.value,
          kind,
          ap end_locals (sym t.local)
              ∙ f.local,
        )

  rest : FitsRest (among names) call zeroed joint left end_mem end_locals
  rest =
      ends_fit names call numbers others zeroed mid joint end_ env end_env left mem end_mem locals end_locals
      (is_over ps scope one_scope two_scope after names mid one two m) e.follow r.began r.fits r.agree
      (nothing_agrees (length mid.tops) numbers) (nothing_below mid two.tops numbers m.tops r.began.holds.1) holds

  settled_fits : FitsOn call (length joint.tops) zeroed last left end_mem end_locals
  settled_fits = settle_fits names one call zeroed joint left end_mem end_locals stood
      (apart ps scope one_scope two_scope after names mid one two m) rest

  -- Kept facts, from the numbers after both.
  module _ (final : ℕ → ℕ) (agree : Agree (length mid.tops) numbers final) (fits : FitsBy call final last left end_mem end_locals)
    where
      abbrev SameValue : Name → Type 0
      SameValue x = value_at final (form_in last.scalars x) ≡ value_at others (end_form names end_.scalars mid.scalars x)

      listed_value : (x : Name) → listed x names ≡ true → value_at final (form_or_nothing (scalar last x))
          ≡ value_at others (form_or_nothing (scalar end_ x))
      listed_value x in_list = by (scalar one x) refl (scalar last x) refl where
        place : place_in (scalar last x) ≡ place_in (scalar one x)
        place = rw in_list at ((settled ps scope one_scope two_scope after names mid one two m).places x)

        by : (o : Option Held) → scalar one x ≡ o → (p : Option Held) → scalar last x ≡ p
            → value_at final (form_or_nothing (scalar last x)) ≡ value_at others (form_or_nothing (scalar end_ x))
        by None at None now = rw (now, e.gone x in_list at) refl
        by None at (Some k) now = absurd
            (let bad : Some (k.local, k.kind) ≡ None = sym (ap place_in now) ∙ place ∙ ap place_in at in cc)
        by (Some h) at None now = absurd
            (let bad : None ≡ Some (h.local, h.kind) = sym (ap place_in now) ∙ place ∙ ap place_in at in cc)
        by (Some h) at (Some k) now =
            let t = e.there x h in_list at in
            let f = r.fits.scalars x t.scalar_there t.is in
            let g = fits.scalars x k now in
            let values : Some (arg.Word g.number)
            ≡ Some (arg.Word f.number) = sym g.value ∙ carried names end_env env x (arg.Word f.number) in_list f.value in
            let one_value : arg.Word g.number ≡ arg.Word f.number = cc in
            let number : g.number ≡ f.number = cc in
            rw (now, t.is) (g.form ∙ ap pos number ∙ sym f.form)

      unlisted_value : (x : Name) → listed x names ≡ false → value_at final (form_or_nothing (scalar last x))
          ≡ value_at others (form_or_nothing (scalar mid x))
      unlisted_value x out = rw ((settled ps scope one_scope two_scope after names mid one two m).unlisted x out)
          (by (scalar mid x) refl) where
            by : (o : Option Held) → scalar mid x ≡ o → value_at final (form_or_nothing (scalar mid x))
                ≡ value_at others (form_or_nothing (scalar mid x))
            by None at = rw at refl
            by (Some h) at =
                let p = scalar_stands mid x h at in
                let known = r.began.consistent.scalars_known p.place h p.at in
                rw at (known_same (length mid.tops) h.form numbers final known agree
                ∙ sym (known_same (length mid.tops) h.form numbers others known r.agree))

      same_value : (x : Name) → SameValue x
      same_value x = by (listed x names) refl where
        by : (b : Bool) → listed x names ≡ b → SameValue x
        by true in_list = let test : list_any (λ y. same y x) names ≡ true = listed_any names x ∙ in_list in
            rw test (listed_value x in_list)
        by false out = let test : list_any (λ y. same y x) names ≡ false = listed_any names x ∙ out in
            rw test (unlisted_value x out)

      kept_hold : AllHold final (forms_of (form_in last.scalars) keep)
      kept_hold = forms_hold others final (end_form names end_.scalars mid.scalars) (form_in last.scalars) same_value keep r.hold

      kept_fit : AllKnown (length last.tops) (forms_of (form_in last.scalars) keep)
          → FitsBy call final (with_facts (forms_of (form_in last.scalars) keep) last) left end_mem end_locals
      kept_fit known = facts_fit call final left end_mem end_locals (forms_of (form_in last.scalars) keep) last known kept_hold
          fits

  pub ended_fits : AllKnown (length last.tops) (forms_of (form_in last.scalars) keep)
      → FitsOn call (length mid.tops) numbers (with_facts (forms_of (form_in last.scalars) keep) last) left end_mem end_locals
  ended_fits known =
      let agree = agree_on (length mid.tops) (length joint.tops) numbers zeroed settled_fits.0
      (taken_length mid.tops two.tops m.tops) (nothing_agrees (length mid.tops) numbers) settled_fits.1 in
      (settled_fits.0, agree, kept_fit settled_fits.0 agree settled_fits.2 known)
