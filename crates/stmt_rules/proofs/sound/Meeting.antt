-- Two blocks that began in one context and whose ends meet: what the conditions at the ends say of arrays and scalars, and of the
-- context that goes on from both, whether or not a block runs.
use Rattle.std.proofs.Common.{◌≡◌, refl, sym, ◌∙◌, ap, subst, arith, ℕ, ◌≤◌, zero, suc, Bool, true, false, ◌&&◌, ◌||◌, nat_eq}
use Rattle.std.proofs.Common.{List, [], ◌∷◌, ◌++◌, length, pos, Option, Some, None, Ok, slice_get}
use Rattle.std.specs.List.{list_all}
use Rattle.std.specs.Prelude.{is_some}
use Rattle.std.proofs.lemmas.Bool.{eqb-true}
use Rattle.std.proofs.lemmas.Bool.Decides.{nat_tests}
use Rattle.model_syntax.specs.Names.{Name, same, listed}
use Rattle.model_syntax.specs.Scope.{Scope, look_up}
use Rattle.model_syntax.specs.Entries.{entry_names}
use Rattle.model_syntax.specs.Types as types
use Rattle.model_syntax.specs.declared.expr.Scalar.{Scalar}
use Rattle.model_syntax.specs.declared.program.Param.{Param}
use Rattle.model_syntax.specs.declared.stmt.Le.{Le}
use Rattle.model_syntax.specs.declared.scope.NameType.TheVariants.{Scalar as One, Array as Many}
use Rattle.model_syntax.proofs.laws.Bindings.{same_is}
use Rattle.sym_heap.specs.declared.parts.Held.{Held}
use Rattle.sym_heap.specs.declared.parts.Clause.{Clause}
use Rattle.sym_heap.specs.Context.{Context, scalar, own, has, back_to}
use Rattle.sym_heap.specs.Ends.{of_param, taken_over, at_ends, standing, with_ends}
use Rattle.sym_heap.specs.Fits.{Known, IsConsistent}
use Rattle.sym_heap.specs.Moves.{IsSameArray, Follow, local_of}
use Rattle.sym_heap.specs.Scoped.{IsScoped, IsArrayOf}
use Rattle.sym_heap.specs.Settle.{settle}
use Rattle.sym_heap.specs.Sides.{form_or_nothing, form_in}
use Rattle.sym_heap.specs.Turns.{unlisted_locals}
use Rattle.sym_heap.proofs.laws.EndScopes.{mapped, later}
use Rattle.sym_heap.proofs.laws.Ending.{IsOver, EndsFollow, IsEnded, ended, ends_over, over_consistent}
use Rattle.sym_heap.proofs.laws.Extending.{known_constant}
use Rattle.sym_heap.proofs.laws.Lookups.{scalar_stands, clause_stands, scalar_found, clause_found}
use Rattle.sym_heap.proofs.laws.Moves.{params_once}
use Rattle.sym_heap.proofs.laws.Settling.{place_in, NoneLost, TargetsApart, IsSettled, beside, settle_static, settle_consistent}
use Rattle.sym_heap.proofs.laws.Settling.{targets_apart}
use Rattle.sym_heap.proofs.laws.States.{MoreTops}
use Rattle.expr_rules.specs.Sound.{AllKnown}
use Rattle.stmt_rules.specs.Nesting.{is_as_before, is_kept, unlisted_kept, same_local, stands_alike, same_param, is_array_alike}
use Rattle.stmt_rules.proofs.Scopes.{IsJoined, IsScalar, names_joined}
use Rattle.stmt_rules.proofs.Sequence.{and_parts}
use Rattle.stmt_rules.proofs.sound.Joined.{forms_of}
use Rattle.stmt_rules.proofs.sound.Kept.{forms_known}

-- Lists.

or_else : (p q : Bool) → (p || q) ≡ true → p ≡ false → q ≡ true
or_else true q is off = absurd (let bad : true ≡ false = off in cc)
or_else false q is off = is

pub each_at : {A : Type 0} (test : A → Bool) (xs : List A) (i : ℕ) (x : A) → list_all test xs ≡ true → slice_get xs i ≡ Some x
    → test x ≡ true
each_at test [] i x all at = absurd (let bad : None ≡ Some x = at in cc)
each_at {A} test (y ∷ ys) zero x all at = let is : y ≡ x = cc in
    subst (λ (z : A). test z ≡ true) is (and_parts (test y) (list_all test ys) all).0
each_at test (y ∷ ys) (suc i) x all at = each_at test ys i x (and_parts (test y) (list_all test ys) all).1 at

pub each_listed : (test : Name → Bool) (names : List Name) (x : Name) → list_all test names ≡ true → listed x names ≡ true
    → test x ≡ true
each_listed test [] x all in_list = absurd (let bad : false ≡ true = in_list in cc)
each_listed test (y ∷ ys) x all in_list =
    by (same x y) refl (λ more. each_listed test ys x (and_parts (test y) (list_all test ys) all).1 more) where
      by : (b : Bool) → same x y ≡ b → (listed x ys ≡ true → test x ≡ true) → test x ≡ true
      by true e more = ap test (same_is x y e) ∙ (and_parts (test y) (list_all test ys) all).0
      by false e more = more (or_else (same x y) (listed x ys) in_list e)

pub has_right : (l : ℕ) (ns ms : List ℕ) → has l ms ≡ true → has l (ns ++ ms) ≡ true
has_right l [] ms is = is
has_right l (n ∷ ns) ms is = rw (has_right l ns ms is) (by (nat_eq n l)) where
  by : (b : Bool) → (b || true) ≡ true
  by true = refl
  by false = refl

-- the local of a scalar that is not listed is among those
pub unlisted_has : (names : List Name) (hs : List Held) (i : ℕ) (h : Held) → slice_get hs i ≡ Some h → listed h.name names ≡ false
    → has h.local (unlisted_locals names hs) ≡ true
unlisted_has names [] i h at out = absurd (let bad : None ≡ Some h = at in cc)
unlisted_has names (k ∷ ks) zero h at out =
    let is : h ≡ k = cc in
    let free : listed k.name names ≡ false = ap (λ (z : Held). listed z.name names) (sym is) ∙ out in
    let self : nat_eq h.local k.local ≡ true = ap (λ (z : Held). nat_eq z.local k.local) is ∙ nat_self k.local in
    rw free (first self)
  where
    nat_self : (n : ℕ) → nat_eq n n ≡ true
    nat_self n = grind (arith, nat_tests)

    first : nat_eq h.local k.local ≡ true → has h.local (k.local ∷ unlisted_locals names ks) ≡ true
    first e = rw (eqb-true h.local k.local e, nat_self k.local) refl
unlisted_has names (k ∷ ks) (suc i) h at out = by (listed k.name names) refl (unlisted_has names ks i h at out) where
  by : (b : Bool) → listed k.name names ≡ b → has h.local (unlisted_locals names ks) ≡ true
      → has h.local (unlisted_locals names (k ∷ ks)) ≡ true
  by true e more = rw e more
  by false e more = rw e (has_right h.local (k.local ∷ []) (unlisted_locals names ks) more)

-- What is known of the ends.

-- the context after both, before listed scalars settle
abbrev pub over : List Name → Context → Context → Context → Context
over names mid one two = with_ends names (standing one) (standing two) (back_to mid two)

pub record Meeting (ps : List Param) (scope one_scope two_scope after : Scope) (names : List Name) (mid one two : Context) : Type
    0 where
  pub good : IsConsistent mid
  pub scoped : IsScoped ps scope mid
  pub one_good : IsConsistent one
  pub one_scoped : IsScoped ps one_scope one
  pub one_follow : Follow mid.clauses one.clauses
  pub one_kept : unlisted_kept names mid.clauses one.clauses ≡ true
  pub two_good : IsConsistent two
  pub two_scoped : IsScoped ps two_scope two
  pub two_follow : Follow mid.clauses two.clauses
  pub two_kept : unlisted_kept names mid.clauses two.clauses ≡ true
  pub places : list_all (stands_alike (standing one) (standing two)) names ≡ true
  pub arrays : list_all (is_array_alike (standing one) (standing two)) names ≡ true
  -- what stands at the first end in a reserved local was there before
  pub came : (x : Name) (h : Held) → scalar one x ≡ Some h → has h.local (mid.reserved ++ unlisted_locals names mid.scalars)
      ≡ true → local_of (scalar mid x) ≡ Some h.local
  pub tops : MoreTops mid two.tops
  pub entries : two.entries ≡ mid.entries
  -- typing
  pub joined : types.joined names one_scope two_scope scope ≡ Ok after
  pub stays : (x : Name) → IsScalar scope x → IsScalar one_scope x

-- an array at both ends: it has one name, and where that is not listed, the name and the writes of before
pub record IsPair (names : List Name) (k l m : Clause) : Type 0 where
  pub name : l.name ≡ m.name
  pub as_before : listed l.name names ≡ false → (k.name ≡ l.name) × ((l.writes ≡ k.writes) × (m.writes ≡ k.writes))

pub record ArrayAt (names : List Name) (mid one two : Context) (i : ℕ) (k : Clause) : Type 0 where
  pub at_one : Clause
  pub at_two : Clause
  pub is_one : slice_get one.clauses i ≡ Some at_one
  pub is_two : slice_get two.clauses i ≡ Some at_two
  pub same_one : IsSameArray k at_one
  pub same_two : IsSameArray k at_two
  pub pair : IsPair names k at_one at_two

-- a scalar of one end
pub record IsSameScalar (h l : Held) : Type 0 where
  pub local : l.local ≡ h.local
  pub kind : l.kind ≡ h.kind

module _ (ps : List Param) (scope one_scope two_scope after : Scope) (names : List Name) (mid one two : Context)
    (m : Meeting ps scope one_scope two_scope after names mid one two) where
  abbrev joint : Context
  joint = over names mid one two

  abbrev Joined : Name → Type 0
  Joined x = IsJoined names one_scope two_scope scope after x

  join : (x : Name) → Joined x
  join x = names_joined names one_scope two_scope scope after m.joined x

  -- Names of scalars and of arrays.

  scalar_type : (s : Scope) (c : Context) → IsScoped ps s c → (x : Name) (h : Held) → scalar c x ≡ Some h
      → look_up s x ≡ Some (One h.kind)
  scalar_type s c scoped x h at = let p = scalar_stands c x h at in ap (look_up s) (sym p.named) ∙ scoped.scalars p.place h p.at

  clause_type : (s : Scope) (c : Context) → IsScoped ps s c → (i : ℕ) (k : Clause) → slice_get c.clauses i ≡ Some k → (x : Name)
      → k.name ≡ x → (h : Held) → scalar c x ≡ Some h → ⊥
  clause_type s c scoped i k at x named h at_x =
      let a = scoped.clauses i k at in
      let both : Some (Many a.element a.len)
      ≡ Some (One h.kind) = sym a.type ∙ ap (look_up s) named ∙ scalar_type s c scoped x h at_x in
      absurd (let bad : Many a.element a.len ≡ One h.kind = cc in cc)

  -- the clause of a name is the one of its place
  by_param : (c : Context) → IsConsistent c → (i : ℕ) (l : Clause) → slice_get c.clauses i ≡ Some l → (x : Name) (k : Clause)
      → own c x ≡ Some k → k.param ≡ l.param → l.name ≡ x
  by_param c good i l at x k is param =
      let p = clause_stands c x k is in
      let once = params_once c good in
      let found : Some k ≡ Some l = sym (once p.place k p.at) ∙ ap (λ n. of_param n c.clauses) param ∙ once i l at in
      let one_clause : k ≡ l = cc in
      ap (λ (z : Clause). z.name) (sym one_clause) ∙ p.named

  params_same : (o p : Option Clause) (l k : Clause) → o ≡ Some l → p ≡ Some k → same_param o p ≡ true → l.param ≡ k.param
  params_same o p l k at_o at_p is =
      let test : same_param (Some l) (Some k)
      ≡ true = subst (λ (z : Option Clause). same_param z (Some k) ≡ true) at_o
      (subst (λ (z : Option Clause). same_param o z ≡ true) at_p is) in
      eqb-true l.param k.param test

  -- a name that is an array's at one end and listed is of one parameter at both
  record BothOwn (x : Name) : Type 0 where
    pub at_one : Clause
    pub at_two : Clause
    pub owns_one : own one x ≡ Some at_one
    pub owns_two : own two x ≡ Some at_two
    pub param : at_one.param ≡ at_two.param

  both_own : (x : Name) → listed x names ≡ true → scalar one x ≡ None → BothOwn x
  both_own x in_list none = by (own one x) refl (own two x) refl where
    alike : same_param (own one x) (own two x) ≡ true
    alike = or_else (is_some (scalar one x)) (same_param (own one x) (own two x))
        (each_listed (is_array_alike (standing one) (standing two)) names x m.arrays in_list) (ap is_some none)

    by : (o : Option Clause) → own one x ≡ o → (p : Option Clause) → own two x ≡ p → BothOwn x
    by (Some l) e (Some k) f = record
        { at_one = l; at_two = k; owns_one = e; owns_two = f; param = params_same (own one x) (own two x) l k e f alike }
    by None e p f = absurd (let bad : false ≡ true = rw e at alike in cc)
    by (Some l) e None f = absurd (let bad : false ≡ true = rw (e, f) at alike in cc)

  no_scalar : (x : Name) → ((h : Held) → scalar one x ≡ Some h → ⊥) → scalar one x ≡ None
  no_scalar x never = by (scalar one x) refl where
    by : (o : Option Held) → scalar one x ≡ o → scalar one x ≡ None
    by None e = e
    by (Some h) e = absurd (never h e)

  record Kept (k l : Clause) : Type 0 where
    pub name : k.name ≡ l.name
    pub writes : l.writes ≡ k.writes

  -- an array whose name is not listed at an end is as before
  kept_as : (e : Context) → unlisted_kept names mid.clauses e.clauses ≡ true → (i j : ℕ) (k l : Clause)
      → slice_get mid.clauses j ≡ Some k → slice_get e.clauses i ≡ Some l → l.param ≡ k.param
      → listed l.name names ≡ false → Kept k l
  kept_as e kept i j k l at_k at_l param out =
      let whole : (listed l.name names || is_as_before (of_param l.param mid.clauses) l)
      ≡ true = each_at (is_kept names mid.clauses) e.clauses i l kept at_l in
      let before : is_as_before (of_param l.param mid.clauses) l
      ≡ true = or_else (listed l.name names) (is_as_before (of_param l.param mid.clauses) l) whole out in
      let found : of_param l.param mid.clauses ≡ Some k = ap (λ n. of_param n mid.clauses) param ∙ params_once mid m.good j k at_k
      in
      let test : (same k.name l.name && nat_eq k.writes l.writes)
      ≡ true = subst (λ (o : Option Clause). is_as_before o l ≡ true) found before in
      let both = and_parts (same k.name l.name) (nat_eq k.writes l.writes) test in
      record { name = same_is k.name l.name both.0; writes = sym (eqb-true k.writes l.writes both.1) }

  module _ (i : ℕ) (k l n : Clause) (at_k : slice_get mid.clauses i ≡ Some k) (at_l : slice_get one.clauses i ≡ Some l)
      (at_n : slice_get two.clauses i ≡ Some n)
      (param_l : l.param ≡ k.param) (param_n : n.param ≡ k.param) where
    -- the first end's name is listed
    first_listed : listed l.name names ≡ true → l.name ≡ n.name
    first_listed in_list =
        let b = both_own l.name in_list
        (no_scalar l.name (λ h at. clause_type one_scope one m.one_scoped i l at_l l.name refl h at)) in
        let here : Some b.at_one ≡ Some l = sym b.owns_one ∙ clause_found one m.one_good i l at_l in
        let is : b.at_one ≡ l = cc in
        sym (by_param two m.two_good i n at_n l.name b.at_two b.owns_two
        (sym b.param ∙ ap (λ (z : Clause). z.param) is ∙ param_l ∙ sym param_n))

    -- the second end's is
    second_listed : listed n.name names ≡ true → l.name ≡ n.name
    second_listed in_list =
        let carried = (join n.name).carried in_list in
        let a = m.two_scoped.clauses i n at_n in
        let b = both_own n.name in_list (no_scalar n.name (λ h at.
        let both : Some (Many a.element a.len) ≡ Some (One h.kind) = sym a.type ∙ carried.at_two ∙ sym carried.at_one
        ∙ scalar_type one_scope one m.one_scoped n.name h at in
        absurd (let bad : Many a.element a.len ≡ One h.kind = cc in cc))) in
        let here : Some b.at_two ≡ Some n = sym b.owns_two ∙ clause_found two m.two_good i n at_n in
        let is : b.at_two ≡ n = cc in
        by_param one m.one_good i l at_l n.name b.at_one b.owns_one
        (b.param ∙ ap (λ (z : Clause). z.param) is ∙ param_n ∙ sym param_l)

    pub pair : IsPair names k l n
    pair = by (listed l.name names) refl (listed n.name names) refl where
      by : (p : Bool) → listed l.name names ≡ p → (q : Bool) → listed n.name names ≡ q → IsPair names k l n
      by true e q f = record { name = first_listed e; as_before = λ out. absurd (let bad : true ≡ false = sym e ∙ out in cc) }
      by false e true f =
          let is = second_listed f in
          absurd (let bad : false ≡ true = sym e ∙ ap (λ x. listed x names) is ∙ f in cc)
      by false e false f =
          let a = kept_as one m.one_kept i i k l at_k at_l param_l e in
          let b = kept_as two m.two_kept i i k n at_k at_n param_n f in
          record { name = sym a.name ∙ b.name; as_before = λ out. (a.name, (a.writes, b.writes)) }

  -- Arrays after both.

  pub array_at : (i : ℕ) (k : Clause) → slice_get mid.clauses i ≡ Some k → ArrayAt names mid one two i k
  array_at i k at =
      let a = later mid.clauses one.clauses i k m.one_follow at in
      let b = later mid.clauses two.clauses i k m.two_follow at in
      record {
        at_one = a.clause;
        at_two = b.clause;
        is_one = a.at;
        is_two = b.at;
        same_one = a.same_one;
        same_two = b.same_one;
        pair = pair i k a.clause b.clause at a.at b.at a.same_one.param b.same_one.param;
      }

  pub taken_is : (i : ℕ) (k j : Clause) → slice_get mid.clauses i ≡ Some k → slice_get joint.clauses i ≡ Some j
      → (a : ArrayAt names mid one two i k)
      → j ≡ taken_over names (Some a.at_one) (Some a.at_two) k
  taken_is i k j at_k at_j a =
      let p = mapped (at_ends names (standing one) (standing two)) mid.clauses i j at_j in
      let found : Some p.clause ≡ Some k = sym p.at ∙ at_k in
      let is : p.clause ≡ k = cc in
      let found_one : of_param k.param one.clauses ≡ Some a.at_one = ap (λ n. of_param n one.clauses) (sym a.same_one.param)
      ∙ params_once one m.one_good i a.at_one a.is_one in
      let found_two : of_param k.param two.clauses ≡ Some a.at_two = ap (λ n. of_param n two.clauses) (sym a.same_two.param)
      ∙ params_once two m.two_good i a.at_two a.is_two in
      p.is ∙ ap (at_ends names (standing one) (standing two)) is
      ∙ ap (λ o. taken_over names o (of_param k.param two.clauses) k) found_one
      ∙ ap (λ o. taken_over names (Some a.at_one) o k) found_two

  pub follow : EndsFollow names mid one two
  follow = record {
    follow_one = m.one_follow;
    follow_two = m.two_follow;
    once_one = params_once one m.one_good;
    once_two = params_once two m.two_good;
    names_once = λ i j k l at_i at_j differ. (m.one_good.clauses_apart i j k l at_i at_j differ).0;
    unlisted = λ i k l at_k at_l out. (
        let a = later mid.clauses one.clauses i k m.one_follow at_k in
        let both : Some a.clause ≡ Some l = sym a.at ∙ at_l in
        let is : a.clause ≡ l = cc in
        (kept_as one m.one_kept i i k l at_k at_l (ap (λ (z : Clause). z.param) (sym is) ∙ a.same_one.param) out).name);
    tops = m.tops;
    entries = m.entries;
  }

  pub is_over : IsOver mid joint
  is_over = ends_over names mid one two m.good follow

  -- Scalars.

  pub lost : NoneLost names one joint
  lost y in_list gone = by (scalar mid y) refl where
    by : (o : Option Held) → scalar mid y ≡ o → scalar mid y ≡ None
    by None e = e
    by (Some h) e =
        let last = m.stays y (h.kind, scalar_type scope mid m.scoped y h e) in
        let there = m.one_scoped.every_scalar y last.0 last.1 in
        absurd (let bad : false ≡ true = sym (ap is_some gone) ∙ there in cc)

  pub settled : IsSettled names one joint (settle names one joint)
  settled = settle_static names one joint lost

  pub apart : TargetsApart names one joint
  apart = targets_apart names one joint (mid.reserved ++ unlisted_locals names mid.scalars)
      (over_consistent mid joint m.good is_over) m.one_good
      (λ y k at out. (let p = scalar_stands mid y k at in
      has_right k.local mid.reserved (unlisted_locals names mid.scalars)
      (unlisted_has names mid.scalars p.place k p.at (ap (λ x. listed x names) p.named ∙ out))))
      m.came

  pub settled_good : IsConsistent (settle names one joint)
  settled_good = settle_consistent names one joint is_over.known lost apart

  -- a listed scalar stands alike at both ends
  pub same_scalar : (y : Name) (h l : Held) → listed y names ≡ true → scalar one y ≡ Some h → scalar two y ≡ Some l
      → IsSameScalar h l
  same_scalar y h l in_list at_h at_l =
      let carried = (join y).carried in_list in
      let alike : same_local (scalar one y) (scalar two y)
      ≡ true = each_listed (stands_alike (standing one) (standing two)) names y m.places in_list in
      let test : nat_eq h.local l.local
      ≡ true = subst (λ (o : Option Held). same_local (Some h) o ≡ true) at_l
      (subst (λ (o : Option Held). same_local o (scalar two y) ≡ true) at_h alike) in
      let both : Some (One l.kind) ≡ Some (One h.kind) =
      sym (scalar_type two_scope two m.two_scoped y l at_l) ∙ carried.at_two ∙ sym carried.at_one
      ∙ scalar_type one_scope one m.one_scoped y h at_h in
      let kinds : One l.kind ≡ One h.kind = cc in
      record { local = sym (eqb-true h.local l.local test); kind = cc }

  pub alike_gone : (y : Name) → listed y names ≡ true → scalar one y ≡ None → scalar two y ≡ None
  alike_gone y in_list gone = by (scalar two y) refl where
    alike : same_local (scalar one y) (scalar two y) ≡ true
    alike = each_listed (stands_alike (standing one) (standing two)) names y m.places in_list

    by : (o : Option Held) → scalar two y ≡ o → scalar two y ≡ None
    by None e = e
    by (Some l) e = absurd (let bad : false ≡ true = rw (gone, e) at alike in cc)

  pub alike_there : (y : Name) (h : Held) → listed y names ≡ true → scalar one y ≡ Some h → (l : Held) × (scalar two y ≡ Some l)
  alike_there y h in_list at = by (scalar two y) refl where
    alike : same_local (scalar one y) (scalar two y) ≡ true
    alike = each_listed (stands_alike (standing one) (standing two)) names y m.places in_list

    by : (o : Option Held) → scalar two y ≡ o → (l : Held) × (scalar two y ≡ Some l)
    by None e = absurd (let bad : false ≡ true = rw (at, e) at alike in cc)
    by (Some l) e = (l, e)

  abbrev end_ : Context
  end_ = settle names one joint

  -- kept facts, in the forms that the scalars have then, mention only symbols with a top
  pub kept_known : (keep : List Le) → AllKnown (length end_.tops) (forms_of (form_in end_.scalars) keep)
  kept_known keep = forms_known (length end_.tops) (form_in end_.scalars) (λ x. by x (scalar end_ x) refl) keep where
    by : (x : Name) (o : Option Held) → scalar end_ x ≡ o → Known (length end_.tops) (form_or_nothing (scalar end_ x))
    by x None at = rw at (known_constant (length end_.tops) (pos 0))
    by x (Some h) at = rw at (let p = scalar_stands end_ x h at in settled_good.scalars_known p.place h p.at)

  -- The scope after.

  scalar_after : (x : Name) (h : Held) → scalar end_ x ≡ Some h → look_up after x ≡ Some (One h.kind)
  scalar_after x h at = by (listed x names) refl where
    by : (b : Bool) → listed x names ≡ b → look_up after x ≡ Some (One h.kind)
    by false e = (join x).as_before e ∙ scalar_type scope mid m.scoped x h (sym (settled.unlisted x e) ∙ at)
    by true e =
        let carried = (join x).carried e in
        let place : place_in (scalar end_ x) ≡ place_in (scalar one x) = rw e at (settled.places x) in
        let there = beside (scalar end_ x) (scalar one x) h at place in
        let both : Some (h.local, h.kind) ≡ Some (there.scalar_there.local, there.scalar_there.kind) =
        sym (ap place_in at) ∙ place ∙ ap place_in there.is in
        let pair : (h.local, h.kind) ≡ (there.scalar_there.local, there.scalar_there.kind) = cc in
        let kind : there.scalar_there.kind ≡ h.kind = ap (λ (q : ℕ × Scalar). q.1) (sym pair) in
        carried.at_after ∙ sym carried.at_one ∙ scalar_type one_scope one m.one_scoped x there.scalar_there there.is
        ∙ ap (λ (t : Scalar). Some (One t)) kind

  placed : (o p : Option Held) → place_in o ≡ place_in p → is_some p ≡ true → is_some o ≡ true
  placed None None is there = there
  placed (Some h) p is there = refl
  placed None (Some h) is there = absurd (let bad : None ≡ Some (h.local, h.kind) = is in cc)

  every_after : (x : Name) (t : Scalar) → look_up after x ≡ Some (One t) → is_some (scalar end_ x) ≡ true
  every_after x t at = by (listed x names) refl where
    by : (b : Bool) → listed x names ≡ b → is_some (scalar end_ x) ≡ true
    by false e = ap is_some (settled.unlisted x e) ∙ m.scoped.every_scalar x t (sym ((join x).as_before e) ∙ at)
    by true e =
        let carried = (join x).carried e in
        let place : place_in (scalar end_ x) ≡ place_in (scalar one x) = rw e at (settled.places x) in
        placed (scalar end_ x) (scalar one x) place (m.one_scoped.every_scalar x t (carried.at_one ∙ sym carried.at_after ∙ at))

  array_as : (s : Scope) (k j : Clause) → look_up after j.name ≡ look_up s k.name → k.size ≡ j.size → k.length ≡ j.length
      → k.length_local ≡ j.length_local → IsArrayOf (entry_names ps) s k → IsArrayOf (entry_names ps) after j
  array_as s k j type size long local a = record {
    element = a.element;
    len = a.len;
    type = type ∙ a.type;
    size = a.size ∙ ap Some size;
    length_is = rw (sym long, sym local) a.length_is;
  }

  array_after : (i : ℕ) (j : Clause) → slice_get joint.clauses i ≡ Some j → IsArrayOf (entry_names ps) after j
  array_after i j at = by (listed j.name names) refl where
    e : IsEnded mid one i j
    e = ended names mid one two follow i j at

    by : (b : Bool) → listed j.name names ≡ b → IsArrayOf (entry_names ps) after j
    by true in_list =
        let carried = (join j.name).carried in_list in
        let n = later mid.clauses one.clauses i e.was.before m.one_follow e.was.at in
        let both : Some n.clause ≡ Some e.last = sym n.at ∙ e.at_last in
        let is : n.clause ≡ e.last = cc in
        array_as one_scope n.clause j (carried.at_after ∙ sym carried.at_one
        ∙ ap (look_up one_scope) (e.name ∙ ap (λ (z : Clause). z.name) (sym is)))
        (n.same_one.size ∙ sym e.was.size) (n.same_one.length_same ∙ sym e.was.length_same)
        (n.same_one.length_local ∙ sym e.was.length_local) (m.one_scoped.clauses i n.clause n.at)
    by false out =
        let name : e.was.before.name ≡ e.last.name =
        follow.unlisted i e.was.before e.last e.was.at e.at_last (ap (λ x. listed x names) (sym e.name) ∙ out) in
        array_as scope e.was.before j ((join j.name).as_before out ∙ ap (look_up scope) (e.name ∙ sym name)) (sym e.was.size)
        (sym e.was.length_same) (sym e.was.length_local)
        (m.scoped.clauses i e.was.before e.was.at)

  pub settled_scoped : IsScoped ps after end_
  settled_scoped = record {
    scalars = λ i h at. scalar_after h.name h (scalar_found end_ settled_good i h at);
    every_scalar = every_after;
    clauses = λ i j at. array_after i j (ap (λ ks. slice_get ks i) (sym settled.clauses) ∙ at);
    scalars_once = λ i j h k at_i at_j differ. (settled_good.scalars_apart i j h k at_i at_j differ).0;
    clauses_once = λ i j k l at_i at_j differ. (settled_good.clauses_apart i j k l at_i at_j differ).0;
    entries = settled.entries ∙ m.entries ∙ m.scoped.entries;
    few = subst (λ (n : ℕ). n ≤ 8) (sym (settled.entries ∙ m.entries)) m.scoped.few;
  }
