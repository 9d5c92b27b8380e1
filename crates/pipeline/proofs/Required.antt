-- The requirements of a well typed model: the facts at its start are the forms over the entry symbols.
use Rattle.std.proofs.Common.{◌≡◌, ◌≢◌, refl, sym, ◌∙◌, ap, subst, arith, ℕ, ◌+◌, ◌<◌, ◌≤◌, nat_lt, nat_le, Bool, true, false}
use Rattle.std.proofs.Common.{◌&&◌, List, [], ◌∷◌, ◌++◌, length, map, Option, Some, None, Ok, Err, ℤ, pos, negsuc, nat_abs}
use Rattle.std.proofs.Common.{append_assoc, if◌then◌else◌}
use Rattle.std.specs.List.{AllByRecursion, find}
use Rattle.std.specs.Ordering.{int_eq}
use Rattle.std.proofs.lemmas.Bool.{leb-true}
use Rattle.std.proofs.lemmas.List.{length-map}
use Rattle.std.proofs.lemmas.Bool.Decides.{nat_tests}
use Rattle.rup_base.specs.declared.refusal.TypePlace.TheVariants.{Require}
use Rattle.rup_base.specs.declared.refusal.TypeWhy.TheVariants as why
use Rattle.side_certs.specs.LinearForm.{LinearForm, constant, symbol, plus, minus, times, is_small, all_small, is_within}
use Rattle.side_certs.specs.LinearForm.{rises_from, greatest_number}
use Rattle.side_certs.proofs.laws.Coefficients.{Below, below_merge, below_times}
use Rattle.side_certs.proofs.laws.Limits.{rises_parts}
use Rattle.model_syntax.specs.declared.expr.Scalar.{Scalar}
use Rattle.model_syntax.specs.declared.expr.Scalar.TheVariants.{Word, Byte}
use Rattle.model_syntax.specs.declared.stmt.Lin.{Lin, Lin-F, map-Lin, roll-Lin, fold-roll-Lin, ind-Lin}
use Rattle.model_syntax.specs.declared.stmt.Lin.TheOpen as l
use Rattle.model_syntax.specs.declared.stmt.Le.{Le}
use Rattle.model_syntax.specs.declared.program.Len.{Len}
use Rattle.model_syntax.specs.declared.program.Len.TheVariants.{Fixed, Named}
use Rattle.model_syntax.specs.declared.program.Param.{Param}
use Rattle.model_syntax.specs.declared.program.Param.TheVariants as param
use Rattle.model_syntax.specs.declared.program.Model.{Model}
use Rattle.model_syntax.specs.declared.scope.NameType.{NameType}
use Rattle.model_syntax.specs.declared.scope.NameType.TheVariants.{Scalar as One, Array as Many}
use Rattle.model_syntax.specs.Entries.{entry_names, number_among}
use Rattle.model_syntax.specs.Limits.{next}
use Rattle.model_syntax.specs.Names.{Name, same}
use Rattle.model_syntax.specs.Scope.{Scope, look_up, scalar_in}
use Rattle.model_syntax.specs.Types as types
use Rattle.model_syntax.proofs.laws.Answered.{first_answered, at_answered}
use Rattle.sym_heap.specs.declared.parts.Held.{Held}
use Rattle.sym_heap.specs.Context.{Context, held, is_scalar, with_reserved}
use Rattle.sym_heap.specs.Sides as sides
use Rattle.sym_heap.specs.Sides.{form_in, difference}
use Rattle.sym_heap.specs.Start.{empty, next_local, with_argument, with_pointer, with_array, with_param, with_params, start}
use Rattle.image_layout.specs.Spelling.{TermsFrom, IsRequirement}
use Rattle.run_setup.specs.Good as good
use Rattle.run_setup.specs.Good.{requirement}
use Rattle.pipeline.specs.Around.{IsLimited}
use Rattle.pipeline.proofs.Declared.{Inside, scalar_inside}

-- The scalars at the start have the entry names in order, and their symbols.

abbrev Spelled : ℕ → List Held → List Name → Type 0
Spelled k [] [] = Unit {0}
Spelled k (h ∷ hs) (y ∷ ys) = (h.name ≡ y) × (h.form ≡ symbol k) × Spelled (k + 1) hs ys
Spelled k hs ys = ⊥

spelled_last : (k : ℕ) (hs : List Held) (ys : List Name) (h : Held) → Spelled k hs ys → h.form ≡ symbol (k + length hs)
    → Spelled k (hs ++ h ∷ []) (ys ++ h.name ∷ [])
spelled_last k [] [] h all is = let at : k + 0 ≡ k = omega arith in (refl, is ∙ ap symbol at, tt)
spelled_last k [] (y ∷ ys) h all is = absurd all
spelled_last k (g ∷ hs) [] h all is = absurd all
spelled_last k (g ∷ hs) (y ∷ ys) h all is =
    let at : k + length (g ∷ hs) ≡ k + 1 + length hs = omega arith in
    (all.0, all.1, spelled_last (k + 1) hs ys h all.2 (is ∙ ap symbol at))

argument_spelled : (x : Name) (t : Scalar) (c : Context) (names : List Name) → Spelled 0 c.scalars names
    → Spelled 0 (with_argument x t c).scalars (names ++ x ∷ [])
argument_spelled x t c names all =
    let at : length c.scalars ≡ 0 + length c.scalars = omega arith in
    spelled_last 0 c.scalars names (held x (next_local c) (symbol (length c.scalars)) t) all (ap symbol at)

behind : (names rest : List Name) (x : Name) (hs : List Held) → Spelled 0 hs ((names ++ x ∷ []) ++ rest)
    → Spelled 0 hs (names ++ x ∷ rest)
behind names rest x hs all = subst (λ (ys : List Name). Spelled 0 hs ys) (append_assoc names (x ∷ []) rest) all

params_spelled : (p : ℕ) (qs : List Param) (c : Context) (names : List Name) → Spelled 0 c.scalars names
    → Spelled 0 (with_params p qs c).scalars (names ++ entry_names qs)
params_spelled p [] c names all = subst (λ (ys : List Name). Spelled 0 c.scalars ys) (sym (nothing names)) all where
  nothing : (ys : List Name) → ys ++ [] ≡ ys
  nothing [] = refl
  nothing (y ∷ ys) = ap (λ (zs : List Name). y ∷ zs) (nothing ys)
params_spelled p (param.Word x ∷ qs) c names all =
    behind names (entry_names qs) x _
    (params_spelled (p + 1) qs (with_argument x Word c) (names ++ x ∷ []) (argument_spelled x Word c names all))
params_spelled p (param.Byte x ∷ qs) c names all =
    behind names (entry_names qs) x _
    (params_spelled (p + 1) qs (with_argument x Byte c) (names ++ x ∷ []) (argument_spelled x Byte c names all))
params_spelled p (param.Bytes a (Fixed n) ∷ qs) c names all = params_spelled (p + 1) qs (with_array p a 1 (Fixed n) c) names all
params_spelled p (param.Bytes a (Named x) ∷ qs) c names all =
    behind names (entry_names qs) x _
    (params_spelled (p + 1) qs (with_array p a 1 (Named x) c) (names ++ x ∷ [])
    (argument_spelled x Word (with_pointer p a 1 (symbol (length c.scalars)) (Some (next_local c + 1)) c) names all))
params_spelled p (param.Words a (Fixed n) ∷ qs) c names all = params_spelled (p + 1) qs (with_array p a 4 (Fixed n) c) names all
params_spelled p (param.Words a (Named x) ∷ qs) c names all =
    behind names (entry_names qs) x _
    (params_spelled (p + 1) qs (with_array p a 4 (Named x) c) (names ++ x ∷ [])
    (argument_spelled x Word (with_pointer p a 4 (symbol (length c.scalars)) (Some (next_local c + 1)) c) names all))

spelled_form : (k : ℕ) (hs : List Held) (ys : List Name) (x : Name) → Spelled k hs ys → Inside x ys
    → form_in hs x ≡ symbol (k + number_among x ys)
spelled_form k [] [] x all inside = absurd (omega (arith, inside))
spelled_form k [] (y ∷ ys) x all inside = absurd all
spelled_form k (h ∷ hs) [] x all inside = absurd all
spelled_form k (h ∷ hs) (y ∷ ys) x all inside = by (same y x) refl inside (λ more. spelled_form (k + 1) hs ys x all.2 more) where
  by : (b : Bool) → same y x ≡ b → Inside x (y ∷ ys) → (Inside x ys → form_in hs x ≡ symbol (k + 1 + number_among x ys))
      → form_in (h ∷ hs) x ≡ symbol (k + number_among x (y ∷ ys))
  by true e here more =
      let at : k + 0 ≡ k = omega arith in
      let found : same h.name x ≡ true = ap (λ (z : Name). same z x) all.0 ∙ e in
      rw (found, e, at) all.1
  by false e here more =
      let below : 1 + number_among x ys < length (y ∷ ys) = rw e at here in
      let at : k + (1 + number_among x ys) ≡ k + 1 + number_among x ys = omega arith in
      let found : same h.name x ≡ false = ap (λ (z : Name). same z x) all.0 ∙ e in
      rw (found, e, at) (more (omega (arith, below)))

pub form_is : (m : Model) (x : Name) → Inside x (entry_names m.params)
    → form_in (start m).scalars x ≡ symbol (number_among x (entry_names m.params))
form_is m x inside =
    let at : 0 + number_among x (entry_names m.params) ≡ number_among x (entry_names m.params) = omega arith in
    spelled_form 0 (start m).scalars (entry_names m.params) x (params_spelled 0 m.params empty [] tt) inside ∙ ap symbol at

-- Parameters make no facts.

params_facts : (p : ℕ) (qs : List Param) (c : Context) → (with_params p qs c).facts ≡ c.facts
params_facts p [] c = refl
params_facts p (param.Word x ∷ qs) c = params_facts (p + 1) qs (with_argument x Word c)
params_facts p (param.Byte x ∷ qs) c = params_facts (p + 1) qs (with_argument x Byte c)
params_facts p (param.Bytes a (Fixed n) ∷ qs) c = params_facts (p + 1) qs (with_array p a 1 (Fixed n) c)
params_facts p (param.Bytes a (Named x) ∷ qs) c = params_facts (p + 1) qs (with_array p a 1 (Named x) c)
params_facts p (param.Words a (Fixed n) ∷ qs) c = params_facts (p + 1) qs (with_array p a 4 (Fixed n) c)
params_facts p (param.Words a (Named x) ∷ qs) c = params_facts (p + 1) qs (with_array p a 4 (Named x) c)

facts_are : (m : Model) → (start m).facts ≡ map (difference (form_in (start m).scalars)) m.requires_
facts_are m = ap (λ (fs : List LinearForm). fs ++ map (difference (form_in (start m).scalars)) m.requires_)
    (params_facts 0 m.params empty)

-- Sides, whose names are scalars in scope.

module _ (m : Model) (d : Scope) (declared : types.declare_params m.params [] ≡ Ok d) where
  abbrev names : List Name
  names = entry_names m.params

  abbrev form : Name → LinearForm
  form = form_in (start m).scalars

  abbrev entry : Name → LinearForm
  entry = good.entry_form m.params

  abbrev Alike : LinearForm → LinearForm → Type 0
  Alike f g = (f ≡ g) × Below (length names) f.terms

  abbrev IsSame : Lin → Type 0
  IsSame w = types.names_scalars w d ≡ Ok tt → Alike (sides.side form w) (sides.side entry w)

  abbrev Proved : Type 0
  Proved = (w : Lin) × IsSame w

  abbrev bare : Lin-F Proved → Lin-F Lin
  bare y = map-Lin Proved Lin (λ p. p.0) y

  abbrev StepSame : Lin-F Lin → Type 0
  StepSame y =
      types.names_step (map-Lin Lin (Scope → types.Rule) types.names_scalars y) d ≡ Ok tt
      → Alike (sides.side_step form (map-Lin Lin LinearForm (sides.side form) y))
      (sides.side_step entry (map-Lin Lin LinearForm (sides.side entry) y))

  scalar_is : (found : Option NameType) (t : Scalar) → scalar_in found ≡ Ok t → found ≡ Some (One t)
  scalar_is None t is = absurd (cc)
  scalar_is (Some (One u)) t is = cc
  scalar_is (Some (Many u k)) t is = absurd (cc)

  step_same : (y : Lin-F Proved) → StepSame (bare y)
  step_same (l.Const n) named = (refl, tt)
  step_same (l.Var x) named =
      let found = first_answered (scalar_in (look_up d x)) _ tt named in
      let inside = scalar_inside m.params d x found.0 declared (scalar_is (look_up d x) found.0 found.1.0) in
      let is : form x ≡ symbol (number_among x names) = form_is m x inside in
      (is, subst (λ (f : LinearForm). Below (length names) f.terms) (sym is) (inside, tt))
  step_same (l.Sum a b) named =
      let both = first_answered (types.names_scalars a.0 d) _ tt named in
      let one = a.1 both.1.0 in
      let two = b.1 both.1.1 in (
        ap (λ (f : LinearForm). plus f (sides.side form b.0)) one.0 ∙ ap (λ (f : LinearForm). plus (sides.side entry a.0) f) two.0,
        below_merge (length names) (sides.side form a.0).terms (sides.side form b.0).terms one.1 two.1,
      )
  step_same (l.Scale k a) named =
      let one = a.1 named in
      (ap (λ (f : LinearForm). times (pos k) f) one.0, below_times (length names) (pos k) (sides.side form a.0).terms one.1)

  rolled : (y : Lin-F Lin) → StepSame y → IsSame (roll-Lin y)
  rolled y h =
      rw (
        fold-roll-Lin LinearForm (sides.side_step form) y,
        fold-roll-Lin LinearForm (sides.side_step entry) y,
        fold-roll-Lin (Scope → types.Rule) types.names_step y,
      ) h

  side_same : (w : Lin) → IsSame w
  side_same = ind-Lin IsSame (λ z y is. subst (λ w. IsSame (roll-Lin w)) is (rolled (bare y) (step_same y)))

  one_same : (r : Le) → types.fact r d ≡ Ok tt → Alike (difference form r) (requirement m.params r)
  one_same r is =
      let low = first_answered (types.names_scalars r.low d) _ tt is in
      let high = first_answered (types.names_scalars r.high d) _ tt low.1.1 in
      let below = side_same r.low low.1.0 in
      let above = side_same r.high high.1.0 in (
        ap (λ (f : LinearForm). minus f (sides.side form r.low)) above.0
            ∙ ap (λ (f : LinearForm). minus (sides.side entry r.high) f) below.0,
        below_merge (length names) (sides.side form r.high).terms _ above.1
            (below_times (length names) (negsuc 0) (sides.side form r.low).terms below.1),
      )

  few_so_far : (k : ℕ) (r : Le) → types.requirement k r d ≡ Ok tt → (k < 4096) × (types.fact r d ≡ Ok tt)
  few_so_far k r is = by (nat_lt k 4096) refl is where
    by : (few : Bool) → nat_lt k 4096 ≡ few → types.requirement k r d ≡ Ok tt → (k < 4096) × (types.fact r d ≡ Ok tt)
    by true e h = (
      grind (arith, nat_tests),
      let here : (if true then types.fact r d else Err why.WideForm) ≡ Ok tt = rw e at h in
          here,
    )
    by false e h = absurd (let bad : (if false then types.fact r d else Err why.WideForm) ≡ Ok tt = rw e at h in
        let worse : Err why.WideForm ≡ Ok tt = bad in cc)

  pub record AllSame (k : ℕ) (rs : List Le) : Type 0 where
    pub same : map (difference form) rs ≡ map (requirement m.params) rs
    pub below : AllByRecursion (λ (f : LinearForm). Below (length names) f.terms) (map (difference form) rs)
    pub few : k + length rs ≤ 4096

  all_same : (k : ℕ) (rs : List Le) → k ≤ 4096 → types.requirements k rs d ≡ Ok tt → AllSame k rs
  all_same k [] least is = record { same = refl; below = tt; few = omega (arith, least) }
  all_same k (r ∷ rs) least is =
      let first = first_answered (types.at (Require k) (types.requirement k r d)) _ tt is in
      let one = few_so_far k r (at_answered (Require k) (types.requirement k r d) tt first.1.0) in
      let here = one_same r one.1 in
      let place : next k ≡ k + 1 = omega (arith, one.0) in
      let rest : AllSame (k + 1) rs =
      all_same (k + 1) rs (omega (arith, one.0)) (subst (λ (j : ℕ). types.requirements j rs d ≡ Ok tt) place first.1.1) in
      record {
        same = ap (λ (f : LinearForm). f ∷ map (difference form) rs) here.0
            ∙ ap (λ (fs : List LinearForm). requirement m.params r ∷ fs) rest.same;
        below = (here.1, rest.below);
        few = omega (arith, rest.few);
      }

-- Limits.

and_parts : (p q : Bool) → (p && q) ≡ true → (p ≡ true) × (q ≡ true)
and_parts true q is = (refl, is)
and_parts false q is = absurd (let bad : false ≡ true = is in cc)

small_is : (z : ℤ) → is_small z ≡ true → nat_abs z ≤ greatest_number
small_is z is = leb-true (nat_abs z) greatest_number is

not_nothing : (z : ℤ) → int_eq z (pos 0) ≡ false → z ≢ pos 0
not_nothing z is none = let bad : true ≡ false = sym (ap (λ (y : ℤ). int_eq y (pos 0)) none) ∙ is in absurd (cc)

terms_from : (least n : ℕ) (ts : List (ℕ × ℤ)) → rises_from least ts ≡ true → all_small ts ≡ true → Below n ts
    → TermsFrom least n ts
terms_from least n [] rise small below = tt
terms_from least n (t ∷ ts) rise small below =
    let p = rises_parts least t ts rise in
    let both = and_parts (is_small t.1) (all_small ts) small in
    (p.0, below.0, not_nothing t.1 p.1, small_is t.1 both.0, terms_from (t.0 + 1) n ts p.2 both.1 below.1)

form_fits : (n : ℕ) (f : LinearForm) → IsLimited f → Below n f.terms → IsRequirement n f
form_fits n f limited below =
    let parts = and_parts (is_small f.constant && nat_le (length f.terms) 16) (all_small f.terms) limited.0 in
    let first = and_parts (is_small f.constant) (nat_le (length f.terms) 16) parts.0 in
    record { constant_fits = small_is f.constant first.0; terms_fit = terms_from 0 n f.terms limited.1 parts.1 below }

forms_fit : (n : ℕ) (fs : List LinearForm) → AllByRecursion IsLimited fs → AllByRecursion (λ (f : LinearForm). Below n f.terms) fs
    → AllByRecursion (IsRequirement n) fs
forms_fit n [] limited below = tt
forms_fit n (f ∷ fs) limited below = (form_fits n f limited.0 below.0, forms_fit n fs limited.1 below.1)

-- what a well typed model's facts at the start are
pub record FactsFit (m : Model) : Type 0 where
  pub same : (start m).facts ≡ map (requirement m.params) m.requires_
  pub few : length (start m).facts ≤ 4096
  pub fit : AllByRecursion IsLimited (start m).facts
      → AllByRecursion (IsRequirement (length (entry_names m.params))) (start m).facts

pub facts_fit : (m : Model) → types.Well m → FactsFit m
facts_fit m well =
    let begun = first_answered (types.at _ (types.declare_params m.params [])) _ tt well in
    let required = first_answered (types.requirements 0 m.requires_ begun.0) _ tt begun.1.1 in
    let declared : types.declare_params m.params []
    ≡ Ok begun.0 = at_answered _ (types.declare_params m.params []) begun.0 begun.1.0 in
    let all = all_same m begun.0 declared 0 m.requires_ (omega arith) required.1.0 in
    let below = subst (λ (fs : List LinearForm).
    AllByRecursion (λ (f : LinearForm). Below (length (entry_names m.params)) f.terms) fs) (sym (facts_are m)) all.below in
    record {
      same = facts_are m ∙ all.same;
      few = omega (arith, ap length (facts_are m), length-map m.requires_ (difference (form_in (start m).scalars)), all.few);
      fit = λ limited. forms_fit (length (entry_names m.params)) (start m).facts limited below;
    }
