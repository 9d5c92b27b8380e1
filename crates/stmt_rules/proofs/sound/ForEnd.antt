-- How the block of s-for ends, and the context after the loop, whatever state there is.
use Rattle.std.proofs.Common.{◌≡◌, refl, sym, ◌∙◌, ap, subst, ℕ, zero, suc, ◌≤◌, Bool, true, false, ◌||◌, nat_eq, nat_lt}
use Rattle.std.proofs.Common.{if◌then◌else◌, pos, List, [], ◌∷◌, ◌++◌, length, take, Option, Some, None, Ok, slice_get}
use Rattle.std.specs.List.{list_all}
use Rattle.std.proofs.lemmas.Bool.{eqb-true}
use Rattle.side_certs.specs.LinearForm.{LinearForm}
use Rattle.side_certs.specs.Closes.{Holds}
use Rattle.side_certs.specs.declared.certificate.Cert.{Cert}
use Rattle.model_syntax.specs.declared.program.Param.{Param}
use Rattle.model_syntax.specs.declared.scope.NameType.TheVariants.{Scalar as One}
use Rattle.model_syntax.specs.declared.stmt.Le.{Le}
use Rattle.model_syntax.specs.Entries.{entry_names}
use Rattle.model_syntax.specs.Names.{Name, same, listed}
use Rattle.model_syntax.specs.Scope.{Scope, look_up}
use Rattle.model_syntax.specs.Types as types
use Rattle.model_syntax.proofs.laws.Bindings.{same_is}
use Rattle.sym_heap.specs.declared.parts.Held.{Held}
use Rattle.sym_heap.specs.declared.parts.Clause.{Clause}
use Rattle.sym_heap.specs.Context.{Context, scalar, back_to}
use Rattle.sym_heap.specs.Ends.{Standing, standing, restored, of_param, greater, taken_over, at_ends, with_ends}
use Rattle.sym_heap.specs.Fits.{Known, IsConsistent}
use Rattle.sym_heap.specs.Moves.{Moves, Follow, local_of}
use Rattle.sym_heap.specs.Scoped.{IsScoped, IsArrayOf}
use Rattle.sym_heap.specs.Settle.{settle}
use Rattle.sym_heap.specs.Sides.{form_in, form_or_nothing}
use Rattle.sym_heap.specs.Start.{with_facts}
use Rattle.sym_heap.specs.Turns.{EndsLike}
use Rattle.sym_heap.proofs.laws.Ending.{IsOver, EndsFollow, ended, ends_over}
use Rattle.sym_heap.proofs.laws.EndScopes.{later, mapped}
use Rattle.sym_heap.proofs.laws.Extending.{known_constant}
use Rattle.sym_heap.proofs.laws.Lookups.{scalar_stands}
use Rattle.sym_heap.proofs.laws.Moves.{take_front, take_on, params_once, over_moves}
use Rattle.sym_heap.proofs.laws.Settling.{IsSettled, settle_static, settle_consistent}
use Rattle.expr_rules.specs.Sound.{AllKnown, AllHold, Yields}
use Rattle.expr_rules.specs.Words.{◌>>=◌}
use Rattle.expr_rules.proofs.laws.Yields.{yields_then, yields_need, yields_made}
use Rattle.stmt_rules.specs.Loops.{given_first, one_more, all_kept_but, all_named, stays_named, is_named_as_before}
use Rattle.stmt_rules.specs.Nesting.{end_form, ended as back, same_local, all_renewed, all_shown}
use Rattle.stmt_rules.specs.rules.For.{stands_still, arrays_stay, facts_stay, ends, leaves}
use Rattle.stmt_rules.proofs.Sequence.{and_parts}
use Rattle.stmt_rules.proofs.sound.Begun.{facts_consistent}
use Rattle.stmt_rules.proofs.sound.ForStart.{placed_of, settles_places, settles_apart, settles_scoped, scoped_as}
use Rattle.stmt_rules.proofs.sound.ForTyped.{stays_typed}
use Rattle.stmt_rules.proofs.sound.Joined.{forms_of, Shown, all_shown_hold, all_renewed_are}
use Rattle.stmt_rules.proofs.sound.Kept.{forms_known}
use Rattle.stmt_rules.proofs.sound.Mentioned.{without, all_kept_but_are}

-- The end.

-- the forms at the end
abbrev pub last_forms : Name → List Name → List Held → Context → Name → LinearForm
last_forms x names start e = given_first x (one_more (form_in start x)) (end_form names e.scalars start)

-- what stands at an end that met its conditions
pub record LoopEnded (x : Name) (names : List Name) (keep : List Le) (before start : Standing) (e : Context) (s : Standing)
    (after : Context) : Type 0 where
  pub stood : s ≡ standing e
  pub after_is : after ≡ restored before e
  pub places : list_all (stands_still before.scalars e.scalars) names ≡ true
  pub arrays : all_named names before.clauses e.clauses ≡ true
  pub hold : (v : ℕ → ℕ) → Holds v e.facts e.tops → AllHold v (forms_of (last_forms x names start.scalars e) keep)

pub ends_yield : (at place : ℕ) (x : Name) (names : List Name) (keep : List Le) (certs : List Cert) (before start : Standing)
    (e : Context)
    → Yields (LoopEnded x names keep before start e) (ends at x names keep place certs before start e)
ends_yield at place x names keep certs before start e =
    yields_need Q e (list_all (stands_still before.scalars e.scalars) names) at 6
    (λ _. arrays_stay at names before >>= (λ _. facts_stay at x names keep place certs start >>= (λ _. back before)))
    (λ places. yields_need Q e (all_named names before.clauses e.clauses) at 7
    (λ _. facts_stay at x names keep place certs start >>= (λ _. back before))
    (λ arrays. yields_then Q e (Shown e (forms_of (last_forms x names start.scalars e) keep))
    (facts_stay at x names keep place certs start) (λ _. back before)
    (yields_made (Shown e (forms_of (last_forms x names start.scalars e) keep)) e at (one_more (form_in start.scalars x))
    (λ f. all_shown at place certs (given_first x f (end_form names e.scalars start.scalars)) keep)
    (all_shown_hold at place certs (last_forms x names start.scalars e) keep e))
    (λ u d shown. record {
      stood = ap standing shown.0;
      after_is = ap (restored before) shown.0;
      places = places;
      arrays = arrays;
      hold = shown.1;
    })))
  where
    Q : Standing → Context → Type 0
    Q = LoopEnded x names keep before start e

-- What the conditions say.

each_listed : (test : Name → Bool) (xs : List Name) (y : Name) → list_all test xs ≡ true → listed y xs ≡ true → test y ≡ true
each_listed test [] y all in_list = absurd (let bad : false ≡ true = in_list in cc)
each_listed test (x ∷ xs) y all in_list = by (same y x) refl (λ later. each_listed test xs y parts.1 later) where
  parts : (test x ≡ true) × (list_all test xs ≡ true)
  parts = and_parts (test x) (list_all test xs) all

  by : (b : Bool) → same y x ≡ b → (listed y xs ≡ true → test y ≡ true) → test y ≡ true
  by true e more = ap test (same_is y x e) ∙ parts.0
  by false e more = more (rw e at in_list)

pub each_at : {A : Type 0} (test : A → Bool) (xs : List A) → list_all test xs ≡ true → (i : ℕ) (x : A) → slice_get xs i ≡ Some x
    → test x ≡ true
each_at test [] all i x at = absurd (let bad : None ≡ Some x = at in cc)
each_at test (y ∷ ys) all zero x at = let is : y ≡ x = cc in ap test (sym is) ∙ (and_parts (test y) (list_all test ys) all).0
each_at test (y ∷ ys) all (suc i) x at = each_at test ys (and_parts (test y) (list_all test ys) all).1 i x at

local_same : (o p : Option Held) → same_local o p ≡ true → local_of p ≡ local_of o
local_same None None is = refl
local_same (Some h) (Some l) is = ap Some (sym (eqb-true h.local l.local is))
local_same None (Some l) is = absurd (let bad : false ≡ true = is in cc)
local_same (Some h) None is = absurd (let bad : false ≡ true = is in cc)

-- the array has its name, and where that is not listed its writes
named_alike : (names : List Name) (k l : Clause) → is_named_as_before names (Some k) l ≡ true
    → (l.name ≡ k.name) × (listed k.name names ≡ false → l.writes ≡ k.writes)
named_alike names k l is = (name, λ out. by (listed l.name names) refl out) where
  parts : (same k.name l.name ≡ true) × ((listed l.name names || nat_eq k.writes l.writes) ≡ true)
  parts = and_parts (same k.name l.name) (listed l.name names || nat_eq k.writes l.writes) is

  name : l.name ≡ k.name
  name = sym (same_is k.name l.name parts.0)

  by : (b : Bool) → listed l.name names ≡ b → listed k.name names ≡ false → l.writes ≡ k.writes
  by true e out = absurd (let bad : false ≡ true = sym out ∙ ap (λ z. listed z names) (sym name) ∙ e in cc)
  by false e out = sym (eqb-true k.writes l.writes (rw e at parts.1))

greater_self : (n : ℕ) → greater n n ≡ n
greater_self n = by (nat_lt n n) where
  by : (b : Bool) → (if b then n else n) ≡ n
  by true = refl
  by false = refl

array_as : (ns : List Name) (s : Scope) (k j : Clause) → look_up s j.name ≡ look_up s k.name → k.size ≡ j.size
    → k.length ≡ j.length → k.length_local ≡ j.length_local → IsArrayOf ns s k → IsArrayOf ns s j
array_as ns s k j type size long local a = record {
  element = a.element;
  len = a.len;
  type = type ∙ a.type;
  size = a.size ∙ ap Some size;
  length_is = rw (sym long, sym local) a.length_is;
}

module _ (ps : List Param) (x : Name) (names : List Name) (keep : List Le) (scope last : Scope) (c e : Context)
    (good : IsConsistent c) (end_good : IsConsistent e) (scoped : IsScoped ps scope c)
    (end_scoped : IsScoped ps last e) (kept : types.kept names scope last ≡ Ok tt) (follow : Follow c.clauses e.clauses)
    (tops : take (length c.tops) e.tops ≡ c.tops) (entries : e.entries ≡ c.entries)
    (places : list_all (stands_still c.scalars e.scalars) names ≡ true) (arrays : all_named names c.clauses e.clauses ≡ true)
  where
    array_is : (i : ℕ) (k l : Clause) → slice_get c.clauses i ≡ Some k → slice_get e.clauses i ≡ Some l
        → (l.name ≡ k.name) × (listed k.name names ≡ false → l.writes ≡ k.writes)
    array_is i k l at_k at_l =
        let n = later c.clauses e.clauses i k follow at_k in
        let both : Some n.clause ≡ Some l = sym n.at ∙ at_l in
        let is : n.clause ≡ l = cc in
        let param : l.param ≡ k.param = ap (λ (z : Clause). z.param) (sym is) ∙ n.same_one.param in
        let found : of_param l.param c.clauses ≡ Some k = ap (λ p. of_param p c.clauses) param ∙ params_once c good i k at_k in
        let test : stays_named names c.clauses l ≡ true = each_at (stays_named names c.clauses) e.clauses arrays i l at_l in
        named_alike names k l (ap (λ o. is_named_as_before names o l) (sym found) ∙ test)

    scalar_type : (s : Scope) (d : Context) → IsScoped ps s d → (y : Name) (h : Held) → scalar d y ≡ Some h
        → look_up s y ≡ Some (One h.kind)
    scalar_type s d is y h at = let p = scalar_stands d y h at in ap (look_up s) (sym p.named) ∙ is.scalars p.place h p.at

    pub ends_like : EndsLike names c e
    ends_like = record {
      places = λ y in_list. local_same (scalar c y) (scalar e y)
          (each_listed (stands_still c.scalars e.scalars) names y places in_list);
      kinds = λ y h l in_list at_h at_l. (
          let stays = stays_typed names scope last kept y in_list in
          let both : Some (One l.kind) ≡ Some (One h.kind) = sym (scalar_type last e end_scoped y l at_l) ∙ stays.after
          ∙ sym stays.before ∙ scalar_type scope c scoped y h at_h in
          let one : One l.kind ≡ One h.kind = cc in
          cc);
      follow = follow;
      named = λ i k l at_k at_l. (array_is i k l at_k at_l).0;
      counted = λ i k l at_k at_l out. (array_is i k l at_k at_l).1 out;
    }

    -- The context after.

    abbrev pub loop_over : Context
    loop_over = with_ends names (standing e) (standing e) (back_to c e)

    abbrev pub left_loop : Context
    left_loop = settle names c loop_over

    abbrev pub after_facts : List LinearForm
    after_facts = forms_of (form_in left_loop.scalars) (without x keep)

    ends_follow : EndsFollow names c e e
    ends_follow = record {
      follow_one = follow;
      follow_two = follow;
      once_one = params_once e end_good;
      once_two = params_once e end_good;
      names_once = λ i j k l at_i at_j differ. (end_good.clauses_apart i j k l at_i at_j differ).0;
      unlisted = λ i k l at_k at_l out. sym (array_is i k l at_k at_l).0;
      tops = tops;
      entries = entries;
    }

    is_over : IsOver c loop_over
    is_over = ends_over names c e e good ends_follow

    settled : IsSettled names c loop_over left_loop
    settled = settle_static names c loop_over (λ y in_list gone. gone)

    pub left_good : IsConsistent left_loop
    left_good = settle_consistent names c loop_over is_over.known (λ y in_list gone. gone)
        (settles_apart names c loop_over good refl)

    pub after_known : AllKnown (length left_loop.tops) after_facts
    after_known = forms_known (length left_loop.tops) (form_in left_loop.scalars) (λ y. by y (scalar left_loop y) refl)
        (without x keep) where
          by : (y : Name) (o : Option Held) → scalar left_loop y ≡ o
              → Known (length left_loop.tops) (form_or_nothing (scalar left_loop y))
          by y None at = rw at (known_constant (length left_loop.tops) (pos 0))
          by y (Some h) at = rw at (let p = scalar_stands left_loop y h at in left_good.scalars_known p.place h p.at)

    pub after_good : IsConsistent (with_facts after_facts left_loop)
    after_good = facts_consistent after_facts left_loop after_known left_good

    over_array : (i : ℕ) (j : Clause) → slice_get loop_over.clauses i ≡ Some j → IsArrayOf (entry_names ps) scope j
    over_array i j at =
        let n = ended names c e e ends_follow i j at in
        let name : j.name ≡ n.was.before.name = n.name ∙ (array_is i n.was.before n.last n.was.at n.at_last).0 in
        array_as (entry_names ps) scope n.was.before j (ap (look_up scope) name) (sym n.was.size) (sym n.was.length_same)
        (sym n.was.length_local) (scoped.clauses i n.was.before n.was.at)

    over_scoped : IsScoped ps scope loop_over
    over_scoped = record {
      scalars = scoped.scalars;
      every_scalar = scoped.every_scalar;
      clauses = over_array;
      scalars_once = scoped.scalars_once;
      clauses_once = λ i j k l at_i at_j differ. (is_over.known.clauses_apart i j k l at_i at_j differ).0;
      entries = entries ∙ scoped.entries;
      few = subst (λ (n : ℕ). n ≤ 8) (sym entries) scoped.few;
    }

    pub after_scoped : IsScoped ps scope (with_facts after_facts left_loop)
    after_scoped = scoped_as ps scope left_loop (left_loop.facts ++ after_facts) left_loop.tops left_loop.reserved
        (settles_scoped ps scope names c loop_over left_good refl over_scoped)

    pub loop_moves : Moves c (with_facts after_facts left_loop)
    loop_moves = record {
      arrays = subst (λ (ks : List Clause). Follow c.clauses ks) (sym settled.clauses)
          (over_moves names c e e (params_once c good) follow).arrays;
      locals = λ y h at in_list. (
          let was = placed_of c y (scalar left_loop y) h at (settles_places names c loop_over refl y) in
          ap local_of was.at ∙ ap Some (sym was.local));
      reserved = settled.reserved;
      facts = rw settled.facts (take_front c.facts after_facts);
      tops = take_on c.tops e.tops left_loop.tops tops settled.tops;
      entries = settled.entries ∙ entries;
    }

    -- an array after the loop has its name and its writes of the end
    pub record LeftArray (i : ℕ) (j : Clause) : Type 0 where
      pub end_clause : Clause
      pub at_end : slice_get e.clauses i ≡ Some end_clause
      pub name : j.name ≡ end_clause.name
      pub writes : end_clause.writes ≡ j.writes

    pub left_array : (i : ℕ) (j : Clause) → slice_get left_loop.clauses i ≡ Some j → LeftArray i j
    left_array i j at =
        let m = mapped (at_ends names (standing e) (standing e)) c.clauses i j
        (ap (λ ks. slice_get ks i) (sym settled.clauses) ∙ at) in
        let n = later c.clauses e.clauses i m.clause follow m.at in
        let found : of_param m.clause.param e.clauses ≡ Some n.clause = ap (λ p. of_param p e.clauses) (sym n.same_one.param)
        ∙ params_once e end_good i n.clause n.at in
        let is : j ≡ taken_over names (Some n.clause) (Some n.clause) m.clause =
        m.is ∙ ap (λ o. taken_over names o o m.clause) found in
        let a = array_is i m.clause n.clause m.at n.at in
        subst (λ (z : Clause). LeftArray i z) (sym is) (by m.clause n.clause n.at a (listed n.clause.name names) refl)
      where
        by : (k l : Clause) → slice_get e.clauses i ≡ Some l
            → (l.name ≡ k.name) × (listed k.name names ≡ false → l.writes ≡ k.writes)
            → (b : Bool) → listed l.name names ≡ b → LeftArray i (taken_over names (Some l) (Some l) k)
        by k l at_l a true in_list = rw in_list
            (record { end_clause = l; at_end = at_l; name = refl; writes = sym (greater_self l.writes) })
        by k l at_l a false unlisted =
            rw unlisted (record {
              end_clause = l;
              at_end = at_l;
              name = sym a.0;
              writes = a.1 (ap (λ z. listed z names) (sym a.0) ∙ unlisted);
            })

    pub leaves_are : (at : ℕ) → Yields (λ _ d. d ≡ with_facts after_facts left_loop)
        (leaves at x names keep (standing e) (back_to c e))
    leaves_are at =
        yields_then (λ _ d. d ≡ with_facts after_facts left_loop) loop_over (λ _ d. d ≡ left_loop)
        (all_renewed at names c.scalars)
        (λ _. all_kept_but at x keep)
        (all_renewed_are at names c loop_over)
        (λ u d is. subst (λ (z : Context). Yields (λ _ f. f ≡ with_facts after_facts left_loop) (all_kept_but at x keep z))
        (sym is)
        (all_kept_but_are at x keep left_loop))
