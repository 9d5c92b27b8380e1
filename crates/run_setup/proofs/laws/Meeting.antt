-- Arguments meet a well typed model where an image of it may be called with them.
use Rattle.std.proofs.Common.{◌≡◌, ◌↔◌, refl, sym, ◌∙◌, ap, subst, arith, ℕ, ◌+◌, ◌≤◌, nat_le, nat_lt, nat_eq, Bool, true, false}
use Rattle.std.proofs.Common.{List, [], ◌∷◌, length, map, Option, Some, None, Result, Ok, Err, pos, if◌then◌else◌}
use Rattle.std.proofs.lemmas.Bool.{le-leb, eqb-true}
use Rattle.std.proofs.lemmas.Bool.Decides.{nat_tests}
use Rattle.std.proofs.lemmas.List.{length-map}
use Rattle.rup_base.specs.declared.arg.Kind.{Kind}
use Rattle.rup_base.specs.declared.arg.Arg.{Arg}
use Rattle.rup_base.specs.declared.refusal.ArgFault.TheVariants as fault
use Rattle.rup_base.specs.declared.refusal.Refusal.{Refusal}
use Rattle.rup_base.specs.declared.refusal.Refusal.TheVariants.{BadArguments}
use Rattle.rup_base.specs.declared.refusal.TypeWhy.TheVariants as why
use Rattle.rup_base.specs.Answers.{and_then}
use Rattle.side_certs.specs.LinearForm.{LinearForm, symbol, value_at}
use Rattle.image_layout.specs.declared.image.Image.{Image}
use Rattle.model_syntax.specs.Answer.{◌>>=◌}
use Rattle.model_syntax.specs.Environment.{Env, value_of, number}
use Rattle.model_syntax.specs.Kinds.{is_of_kind}
use Rattle.model_syntax.specs.Limits.{next}
use Rattle.model_syntax.specs.Names.{Name}
use Rattle.model_syntax.specs.Scope.{Scope, look_up, scalar_in}
use Rattle.model_syntax.specs.Types as types
use Rattle.model_syntax.specs.Types.{Well, Rule, names_scalars, names_step, kind_of}
use Rattle.model_syntax.specs.Value as model
use Rattle.model_syntax.specs.Value.{Meets, whole, whole_step}
use Rattle.model_syntax.specs.declared.expr.Scalar.{Scalar}
use Rattle.model_syntax.specs.declared.scope.NameType.{NameType}
use Rattle.model_syntax.specs.declared.scope.NameType.TheVariants.{Scalar as One, Array as Many}
use Rattle.model_syntax.specs.declared.stmt.Lin.{Lin, Lin-F, ind-Lin, map-Lin, roll-Lin, fold-roll-Lin}
use Rattle.model_syntax.specs.declared.stmt.Lin.TheOpen as l
use Rattle.model_syntax.specs.declared.stmt.Le.{Le}
use Rattle.model_syntax.specs.declared.program.Param.{Param}
use Rattle.model_syntax.specs.declared.program.Model.{Model}
use Rattle.model_syntax.proofs.laws.Answered.{first_answered, at_answered}
use Rattle.run_setup.specs.Arguments.{array_limit}
use Rattle.run_setup.specs.Judging.{total_size, by_symbol, holds, symbol_values, judged_count, judged_kinds, judged_size}
use Rattle.run_setup.specs.Judging.{judged_requirements, judged}
use Rattle.model_syntax.specs.Entries.{entry_names, number_among}
use Rattle.run_setup.specs.Good.{requirement}
use Rattle.sym_heap.specs.Sides.{side, side_step, difference}
use Rattle.run_setup.specs.Laws.{JudgedIsMet}
use Rattle.run_setup.proofs.Forms.{sum_value, multiple_value, constant_value, symbol_value, difference_test}
use Rattle.run_setup.proofs.laws.Places.{and_ok, count_ok, size_ok}
use Rattle.run_setup.proofs.Symbols.{Stand, AllFit, start_stands}

-- Requirements.

scalar_is : (found : Option NameType) (t : Scalar) → scalar_in found ≡ Ok t → found ≡ Some (One t)
scalar_is None t is = absurd (cc)
scalar_is (Some (One u)) t is = cc
scalar_is (Some (Many u k)) t is = absurd (cc)

module _ (c : Scope) (env : Env) (names : List Name) (values : List ℕ) (stands : Stand c env names values) where
  abbrev form : Name → LinearForm
  form x = symbol (number_among x names)

  abbrev IsValued : Lin → Type 0
  IsValued w = names_scalars w c ≡ Ok tt → value_at (by_symbol values) (side form w) ≡ pos (whole w env)

  abbrev Proved : Type 0
  Proved = (w : Lin) × IsValued w

  at_layer : (y : Lin-F Lin)
      → (names_step (map-Lin Lin (Scope → Rule) names_scalars y) c ≡ Ok tt
      → value_at (by_symbol values) (side_step form (map-Lin Lin LinearForm (side form) y))
      ≡ pos (whole_step (map-Lin Lin (Env → ℕ) whole y) env))
      → IsValued (roll-Lin y)
  at_layer y f named =
      ap (λ (f : LinearForm). value_at (by_symbol values) f) (fold-roll-Lin LinearForm (side_step form) y)
      ∙ f (sym (ap (λ (g : Scope → Rule). g c) (fold-roll-Lin (Scope → Rule) names_step y)) ∙ named)
      ∙ sym (ap (λ (g : Env → ℕ). pos (g env)) (fold-roll-Lin (Env → ℕ) whole_step y))

  of_name : (x : Name) → names_step (l.Var x) c ≡ Ok tt
      → value_at (by_symbol values) (side_step form (l.Var x)) ≡ pos (number (value_of env x))
  of_name x named =
      let found = first_answered (scalar_in (look_up c x)) _ tt named in
      let entry = stands.scalars x found.0 (scalar_is (look_up c x) found.0 found.1.0) in
      symbol_value (by_symbol values) (number_among x names) entry.number entry.value
      ∙ ap (λ o. pos (number o)) (sym entry.held)

  node : (y : Lin-F Proved) → IsValued (roll-Lin (map-Lin Proved Lin (λ k. k.0) y))
  node (l.Const n) = at_layer (l.Const n) (λ named. constant_value (by_symbol values) n)
  node (l.Var x) = at_layer (l.Var x) (of_name x)
  node (l.Sum k m) =
      at_layer (l.Sum k.0 m.0) (λ named.
      let both = first_answered (names_scalars k.0 c) _ tt named in
      sum_value (by_symbol values) (side form k.0) (side form m.0) (whole k.0 env) (whole m.0 env) (k.1 both.1.0)
      (m.1 both.1.1))
  node (l.Scale n k) = at_layer (l.Scale n k.0)
      (λ named. multiple_value (by_symbol values) n (side form k.0) (whole k.0 env) (k.1 named))

  side_value : (w : Lin) → IsValued w
  side_value = ind-Lin IsValued (λ z y is. subst (λ w. IsValued (roll-Lin w)) is (node y))

  requirement_test : (r : Le) (ps : List Param) → entry_names ps ≡ names → types.fact r c ≡ Ok tt
      → holds values (requirement ps r) ≡ model.met r env
  requirement_test r ps names_are is =
      let low = first_answered (names_scalars r.low c) _ tt is in
      let high = first_answered (names_scalars r.high c) _ tt low.1.1 in
      subst (λ (ns : List Name). holds values (difference (λ (x : Name). symbol (number_among x ns)) r) ≡ model.met r env)
      (sym names_are) (difference_test (by_symbol values) (side form r.high) (side form r.low) (whole r.high env)
      (whole r.low env) (side_value r.high high.1.0) (side_value r.low low.1.0))

  fact_of : (k : ℕ) (r : Le) → types.requirement k r c ≡ Ok tt → types.fact r c ≡ Ok tt
  fact_of k r is = by_few (nat_lt k 4096) refl is
    where
      by_few : (few : Bool) → nat_lt k 4096 ≡ few → types.requirement k r c ≡ Ok tt → types.fact r c ≡ Ok tt
      by_few true e h = let here : (if true then types.fact r c else Err why.WideForm) ≡ Ok tt = rw e at h in here
      by_few false e h = absurd (let bad : (if false then types.fact r c else Err why.WideForm) ≡ Ok tt = rw e at h in
          let worse : Err why.WideForm ≡ Ok tt = bad in cc)

  -- the forms hold where the requirements are met
  forms_hold : (k n j : ℕ) (rs : List Le) (ps : List Param) → entry_names ps ≡ names → types.requirements n rs c ≡ Ok tt
      → (model.all_met k rs env ≡ Ok tt) ↔ (judged_requirements j values (map (requirement ps) rs) ≡ Ok tt)
  forms_hold k n j [] ps names_are is = (λ met. refl, λ hold. refl)
  forms_hold k n j (r ∷ rs) ps names_are is =
      let one = first_answered (types.at _ (types.requirement n r c)) _ tt is in
      let same : holds values (requirement ps r)
      ≡ model.met r env = requirement_test r ps names_are (fact_of n r (at_answered _ (types.requirement n r c) tt one.1.0))
      in
      by_test (forms_hold (next k) (next n) (j + 1) rs ps names_are one.1.1) (model.met r env) refl same
    where
      by_test : (model.all_met (next k) rs env ≡ Ok tt) ↔ (judged_requirements (j + 1) values (map (requirement ps) rs) ≡ Ok tt)
          → (test : Bool) → model.met r env ≡ test → holds values (requirement ps r) ≡ model.met r env
          → (model.all_met k (r ∷ rs) env ≡ Ok tt) ↔ (judged_requirements j values (map (requirement ps) (r ∷ rs)) ≡ Ok tt)
      by_test rest true e same = let held : holds values (requirement ps r) ≡ true = same ∙ e in rw (e, held) rest
      by_test rest false e same =
          let held : holds values (requirement ps r) ≡ false = same ∙ e in
          rw (e, held) (
            λ met. absurd (let bad : Err (BadArguments (fault.Require k)) ≡ Ok tt = met in cc),
            λ hold.
                absurd (let bad : Err (BadArguments (fault.Require j)) ≡ Ok tt = hold in cc),
          )

-- Parameters.

pub fit_all : (k : ℕ) (ps : List Param) (args : List Arg) → length args ≡ length ps → model.fit k ps args ≡ Ok tt → AllFit ps args
fit_all k [] [] many is = tt
fit_all k [] (a ∷ args) many is = absurd (omega (arith, many))
fit_all k (p ∷ ps) [] many is = absurd (omega (arith, many))
fit_all k (p ∷ ps) (a ∷ args) many is = by_test (fit_all (next k) ps args (omega (arith, many))) (model.fits p a) refl is
  where
    by_test : (model.fit (next k) ps args ≡ Ok tt → AllFit ps args) → (test : Bool) → model.fits p a ≡ test
        → model.fit k (p ∷ ps) (a ∷ args) ≡ Ok tt → AllFit (p ∷ ps) (a ∷ args)
    by_test rest true e h = (e, rest (rw e at h))
    by_test rest false e h = absurd (let bad : Err (BadArguments (fault.Param k)) ≡ Ok tt = rw e at h in cc)

all_fit : (k : ℕ) (ps : List Param) (args : List Arg) → AllFit ps args → model.fit k ps args ≡ Ok tt
all_fit k [] [] all = refl
all_fit k [] (a ∷ args) all = absurd all
all_fit k (p ∷ ps) [] all = absurd all
all_fit k (p ∷ ps) (a ∷ args) all = rw all.0 (all_fit (next k) ps args all.1)

kinds_all : (k : ℕ) (ps : List Param) (args : List Arg) → length args ≡ length ps → judged_kinds k (map kind_of ps) args ≡ Ok tt
    → AllFit ps args
kinds_all k [] [] many is = tt
kinds_all k [] (a ∷ args) many is = absurd (omega (arith, many))
kinds_all k (p ∷ ps) [] many is = absurd (omega (arith, many))
kinds_all k (p ∷ ps) (a ∷ args) many is =
    by_test (kinds_all (k + 1) ps args (omega (arith, many))) (is_of_kind (kind_of p) a) refl is
  where
    by_test : (judged_kinds (k + 1) (map kind_of ps) args ≡ Ok tt → AllFit ps args) → (test : Bool)
        → is_of_kind (kind_of p) a ≡ test
        → judged_kinds k (map kind_of (p ∷ ps)) (a ∷ args) ≡ Ok tt → AllFit (p ∷ ps) (a ∷ args)
    by_test rest true e h = (e, rest (rw e at h))
    by_test rest false e h = absurd (let bad : Err (BadArguments (fault.Param k)) ≡ Ok tt = rw e at h in cc)

pub all_kinds : (k : ℕ) (ps : List Param) (args : List Arg) → AllFit ps args → judged_kinds k (map kind_of ps) args ≡ Ok tt
all_kinds k [] [] all = refl
all_kinds k [] (a ∷ args) all = absurd all
all_kinds k (p ∷ ps) [] all = absurd all
all_kinds k (p ∷ ps) (a ∷ args) all = rw all.0 (all_kinds (k + 1) ps args all.1)

-- each argument is of its kind
abbrev pub AllOfKind : List Kind → List Arg → Type 0
AllOfKind [] [] = Unit {0}
AllOfKind (k ∷ kinds) (a ∷ args) = (is_of_kind k a ≡ true) × AllOfKind kinds args
AllOfKind kinds args = ⊥

all_of_kind : (ps : List Param) (args : List Arg) → AllFit ps args → AllOfKind (map kind_of ps) args
all_of_kind [] [] all = tt
all_of_kind [] (a ∷ args) all = absurd all
all_of_kind (p ∷ ps) [] all = absurd all
all_of_kind (p ∷ ps) (a ∷ args) all = (all.0, all_of_kind ps args all.1)

-- Both.

then_both : {A B : Type 0} (first : Result A Refusal) (second : A → Result B Refusal) (a : A) (b : B) → first ≡ Ok a
    → second a ≡ Ok b → (first >>= second) ≡ Ok b
then_both first second a b is next_is = rw is next_is

and_both : {A B : Type 0} (first : Result A Refusal) (second : A → Result B Refusal) (a : A) (b : B) → first ≡ Ok a
    → second a ≡ Ok b → and_then first second ≡ Ok b
and_both first second a b is next_is = rw is next_is

counted : {X : Type 0} (n k : ℕ) (one other : X) → n ≡ k → (if nat_eq n k then one else other) ≡ one
counted n k one other is = let same : nat_eq n k ≡ true = grind (arith, nat_tests) in rw same refl

pub counts_ok : (ps : List Param) (args : List Arg) (u : Unit {0}) → model.counts ps args ≡ Ok u → length args ≡ length ps
counts_ok ps args u e = by_test (nat_eq (length args) (length ps)) refl
  where
    by_test : (same : Bool) → nat_eq (length args) (length ps) ≡ same → length args ≡ length ps
    by_test true h = eqb-true (length args) (length ps) h
    by_test false h = absurd (let bad : model.counts ps args ≡ Err (BadArguments fault.Count) = rw h refl in cc)

pub fitting : (m : Model) (args : List Arg) → Meets m args → AllOfKind (map kind_of m.params) args
fitting m args meets =
    let count = first_answered (model.counts m.params args) _ tt meets in
    let fit = first_answered (model.fit 0 m.params args) _ tt count.1.1 in
    all_of_kind m.params args (fit_all 0 m.params args (counts_ok m.params args count.0 count.1.0) fit.1.0)

sized : (args : List Arg) → total_size args ≤ array_limit → judged_size args ≡ Ok tt
sized args small = let test : nat_le (total_size args) array_limit ≡ true = le-leb _ _ small in rw test refl

module _ (m : Model) (i : Image) (args : List Arg) (well : Well m) (params_are : i.params ≡ map kind_of m.params)
    (requires_are : i.requires_ ≡ map (requirement m.params) m.requires_) where
  many : length i.params ≡ length m.params
  many = ap length params_are ∙ length-map m.params kind_of

  requirements_agree : AllFit m.params args → total_size args ≤ array_limit
      → (model.all_met 0 m.requires_ (model.start m.params args []) ≡ Ok tt)
      ↔ (judged_requirements 0 (symbol_values i.params args) i.requires_ ≡ Ok tt)
  requirements_agree fit small =
      let start = first_answered (types.at _ (types.declare_params m.params [])) _ tt well in
      let required = first_answered (types.requirements 0 m.requires_ start.0) _ tt start.1.1 in
      let declared : types.declare_params m.params []
      ≡ Ok start.0 = at_answered _ (types.declare_params m.params []) start.0 start.1.0 in
      rw (params_are, requires_are) (forms_hold start.0 (model.start m.params args []) (entry_names m.params)
      (symbol_values (map kind_of m.params) args)
      (start_stands m.params args start.0 declared fit small) 0 0 0 m.requires_ m.params refl required.1.0)

  met : judged i args ≡ Ok tt → Meets m args × (total_size args ≤ array_limit)
  met is =
      let count = and_ok (judged_count i.params args) _ tt is in
      let kinds = and_ok (judged_kinds 0 i.params args) _ tt count.2 in
      let size = and_ok (judged_size args) _ tt kinds.2 in
      let as_many : length args ≡ length m.params = count_ok i.params args count.0 count.1 ∙ many in
      let small : total_size args ≤ array_limit = size_ok args size.0 size.1 in
      let kinds_hold : judged_kinds 0 (map kind_of m.params) args ≡ Ok tt = ap (λ ks. judged_kinds 0 ks args) (sym params_are)
      ∙ kinds.1 in
      let fit : AllFit m.params args = kinds_all 0 m.params args as_many kinds_hold in (
        then_both (model.counts m.params args) _ tt tt
            (counted (length args) (length m.params) (Ok tt) (Err (BadArguments fault.Count)) as_many)
            (then_both (model.fit 0 m.params args) _ tt tt (all_fit 0 m.params args fit)
            ((requirements_agree fit small).1 size.2)),
        small,
      )

  called : Meets m args × (total_size args ≤ array_limit) → judged i args ≡ Ok tt
  called meets =
      let count = first_answered (model.counts m.params args) _ tt meets.0 in
      let fit_all_ok = first_answered (model.fit 0 m.params args) _ tt count.1.1 in
      let as_many : length args ≡ length m.params = counts_ok m.params args count.0 count.1.0 in
      let fit : AllFit m.params args = fit_all 0 m.params args as_many fit_all_ok.1.0 in
      let kinds_hold : judged_kinds 0 i.params args
      ≡ Ok tt = ap (λ ks. judged_kinds 0 ks args) params_are ∙ all_kinds 0 m.params args fit in
      and_both (judged_count i.params args) _ tt tt
      (counted (length args) (length i.params) (Ok tt) (Err (BadArguments fault.Count)) (as_many ∙ sym many))
      (and_both (judged_kinds 0 i.params args) _ tt tt kinds_hold
      (and_both (judged_size args) _ tt tt (sized args meets.1) ((requirements_agree fit meets.1).0 fit_all_ok.1.1)))

pub judged_is_met : JudgedIsMet
judged_is_met m i args well params_are requires_are =
    (met m i args well params_are requires_are, called m i args well params_are requires_are)
