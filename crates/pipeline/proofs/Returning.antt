-- The results of a well typed model: an array is that of an array parameter, none comes twice, and two are scalars at most.
use Rattle.std.proofs.Common.{◌≡◌, ◌≢◌, refl, sym, ◌∙◌, ap, subst, arith, ℕ, zero, suc, ◌+◌, ◌<◌, nat_lt, Bool, true, false, List}
use Rattle.std.proofs.Common.{[], ◌∷◌, ◌++◌, length, map, Option, Some, None, Ok, Err, if◌then◌else◌}
use Rattle.std.specs.List.{AllByRecursion}
use Rattle.std.proofs.lemmas.Bool.Decides.{nat_tests}
use Rattle.rup_base.specs.declared.refusal.TypePlace.TheVariants.{Return}
use Rattle.rup_base.specs.declared.refusal.TypeWhy.TheVariants as why
use Rattle.model_syntax.specs.declared.expr.Scalar.{Scalar}
use Rattle.model_syntax.specs.declared.program.Len.{Len}
use Rattle.model_syntax.specs.declared.program.Param.{Param}
use Rattle.model_syntax.specs.declared.program.Ret.{Ret}
use Rattle.model_syntax.specs.declared.program.Ret.TheVariants as ret
use Rattle.model_syntax.specs.declared.program.Model.{Model}
use Rattle.model_syntax.specs.declared.scope.NameType.{NameType}
use Rattle.model_syntax.specs.declared.scope.NameType.TheVariants.{Scalar as One, Array as Many}
use Rattle.model_syntax.specs.Entries.{number_among, param_name, result_place}
use Rattle.model_syntax.specs.Limits.{next}
use Rattle.model_syntax.specs.Names.{Name, same, listed}
use Rattle.model_syntax.specs.Scope.{Scope, look_up, scalar_in, array_in, same_type}
use Rattle.model_syntax.specs.Types as types
use Rattle.model_syntax.specs.Types.{kind_of, scalar_results, returned, once}
use Rattle.model_syntax.proofs.laws.Answered.{first_answered, at_answered}
use Rattle.model_syntax.proofs.laws.Bindings.{same_is, same_self}
use Rattle.image_layout.specs.Spelling.{ResultsFit}
use Rattle.pipeline.proofs.Declared.{Inside, IsArrayParam, array_param}

-- Names and their numbers.

-- names of one number are the same
one_name : (names : List Name) (x y : Name) → number_among x names ≡ number_among y names → Inside x names → same x y ≡ true
one_name [] x y equal inside = absurd (omega (arith, inside))
one_name (n ∷ names) x y equal inside =
    by (same n x) (same n y) refl refl equal inside (λ e more. one_name names x y e more) where
      by : (a b : Bool) → same n x ≡ a → same n y ≡ b → number_among x (n ∷ names) ≡ number_among y (n ∷ names)
          → Inside x (n ∷ names)
          → (number_among x names ≡ number_among y names → Inside x names → same x y ≡ true) → same x y ≡ true
      by true true is_x is_y e more rest =
          let x_is : x ≡ n = sym (same_is n x is_x) in
          let y_is : y ≡ n = sym (same_is n y is_y) in
          rw (x_is, y_is) (same_self n)
      by true false is_x is_y e more rest =
          absurd (let bad : 0 ≡ 1 + number_among y names = rw (is_x, is_y) at e in omega (arith, bad))
      by false true is_x is_y e more rest =
          absurd (let bad : 1 + number_among x names ≡ 0 = rw (is_x, is_y) at e in omega (arith, bad))
      by false false is_x is_y e more rest =
          let equal_rest : 1 + number_among x names ≡ 1 + number_among y names = rw (is_x, is_y) at e in
          let below : 1 + number_among x names < length (n ∷ names) = rw is_x at more in
          rest (omega (arith, equal_rest)) (omega (arith, below))

listed_parts : (x p : Name) (names : List Name) → listed x (names ++ p ∷ []) ≡ false
    → (listed x names ≡ false) × (same x p ≡ false)
listed_parts x p [] none = by (same x p) refl where
  by : (b : Bool) → same x p ≡ b → (listed x [] ≡ false) × (same x p ≡ false)
  by true e = absurd (let bad : listed x (p ∷ []) ≡ true = rw e refl in let worse : true ≡ false = sym bad ∙ none in cc)
  by false e = (refl, e)
listed_parts x p (n ∷ names) none = by (same x n) refl none (λ rest. listed_parts x p names rest) where
  by : (b : Bool) → same x n ≡ b → listed x (n ∷ (names ++ p ∷ [])) ≡ false
      → (listed x (names ++ p ∷ []) ≡ false → (listed x names ≡ false) × (same x p ≡ false))
      → (listed x (n ∷ names) ≡ false) × (same x p ≡ false)
  by true e here more = absurd (let bad : true ≡ false = rw e at here in cc)
  by false e here more = let rest = more (rw e at here) in (rw e rest.0, rest.1)

not_back : (x y : Name) → same x y ≡ false → same y x ≡ false
not_back x y apart = by (same y x) refl where
  by : (b : Bool) → same y x ≡ b → same y x ≡ false
  by true e = absurd (let bad : true ≡ false = sym (ap (λ (z : Name). same x z) (same_is y x e) ∙ same_self x) ∙ apart in cc)
  by false e = e

-- Results behind others.

scalar_behind : (before : List Ret) (x : Name) → scalar_results (before ++ ret.Scalar x ∷ []) ≡ scalar_results before + 1
scalar_behind [] x = refl
scalar_behind (ret.Scalar y ∷ before) x = ap (λ (n : ℕ). n + 1) (scalar_behind before x)
scalar_behind (ret.Array a p ∷ before) x = scalar_behind before x

same_scalars : (before : List Ret) (a p : Name) → scalar_results (before ++ ret.Array a p ∷ []) ≡ scalar_results before
same_scalars [] a p = refl
same_scalars (ret.Scalar y ∷ before) a p = ap (λ (n : ℕ). n + 1) (same_scalars before a p)
same_scalars (ret.Array b q ∷ before) a p = same_scalars before a p

same_returned : (before : List Ret) (x : Name) → returned (before ++ ret.Scalar x ∷ []) ≡ returned before
same_returned [] x = refl
same_returned (ret.Scalar y ∷ before) x = same_returned before x
same_returned (ret.Array b q ∷ before) x = ap (λ (names : List Name). q ∷ names) (same_returned before x)

returned_behind : (before : List Ret) (a p : Name) → returned (before ++ ret.Array a p ∷ []) ≡ returned before ++ p ∷ []
returned_behind [] a p = refl
returned_behind (ret.Scalar y ∷ before) a p = returned_behind before a p
returned_behind (ret.Array b q ∷ before) a p = ap (λ (names : List Name). q ∷ names) (returned_behind before a p)

-- Each rule of a result.

few_scalars : (n : ℕ) → ◌≡◌ {A = types.Rule} (if nat_lt n 2 then Ok tt else Err why.Results) (Ok tt) → n < 2
few_scalars n is = by (nat_lt n 2) refl is where
  by : (b : Bool) → nat_lt n 2 ≡ b → ◌≡◌ {A = types.Rule} (if nat_lt n 2 then Ok tt else Err why.Results) (Ok tt) → n < 2
  by true e h = grind (arith, nat_tests)
  by false e h = absurd (let bad : ◌≡◌ {A = types.Rule} (if false then Ok tt else Err why.Results) (Ok tt) = rw e at h in
      let worse : ◌≡◌ {A = types.Rule} (Err why.Results) (Ok tt) = bad in cc)

new_name : (names : List Name) (p : Name) → once names p ≡ Ok tt → listed p names ≡ false
new_name names p is = by (listed p names) refl is where
  by : (b : Bool) → listed p names ≡ b → once names p ≡ Ok tt → listed p names ≡ false
  by true e h = absurd (let bad : ◌≡◌ {A = types.Rule} (if true then Err why.Repeated else Ok tt) (Ok tt) = rw e at h in
      let worse : ◌≡◌ {A = types.Rule} (Err why.Repeated) (Ok tt) = bad in cc)
  by false e h = e

record IsMany (found : Option NameType) : Type 0 where
  element : Scalar
  len : Len
  is : found ≡ Some (Many element len)

many_is : (found : Option NameType) (u : NameType) → array_in found ≡ Ok u → IsMany found
many_is None u is = absurd (cc)
many_is (Some (One t)) u is = absurd (cc)
many_is (Some (Many t n)) u is = record { element = t; len = n; is = refl }

module _ (ps : List Param) (d end : Scope) (declared : types.declare_params ps [] ≡ Ok d) where
  abbrev names : List Name
  names = map param_name ps

  -- a number that was seen is that of a name that is returned
  record IsSeen (before : List Name) (j : ℕ) : Type 0 where
    name : Name
    number : j ≡ number_among name names
    inside : Inside name names
    far : (x : Name) → listed x before ≡ false → same name x ≡ false

  seen_apart : (before : List Name) (p : Name) (seen : List ℕ) → listed p before ≡ false → AllByRecursion (IsSeen before) seen
      → AllByRecursion (λ (j : ℕ). j ≢ number_among p names) seen
  seen_apart before p [] new all = tt
  seen_apart before p (j ∷ seen) new all = (
    λ equal. (let one : same all.0.name p ≡ true = one_name names all.0.name p (sym all.0.number ∙ equal) all.0.inside in
        let bad : true ≡ false = sym one ∙ all.0.far p new in absurd (cc)),
    seen_apart before p seen new all.1,
  )

  seen_behind : (before : List Name) (p : Name) (seen : List ℕ) → AllByRecursion (IsSeen before) seen
      → AllByRecursion (IsSeen (before ++ p ∷ [])) seen
  seen_behind before p [] all = tt
  seen_behind before p (j ∷ seen) all =
      let one = all.0 in (
        record {
          name = one.name;
          number = one.number;
          inside = one.inside;
          far = λ x none. one.far x (listed_parts x p before none).0;
        },
        seen_behind before p seen all.1,
      )

  results_from : (k : ℕ) (before rs : List Ret) (scalars : ℕ) (seen : List ℕ) → types.results d end k before rs ≡ Ok tt
      → scalars + scalar_results before ≡ 2
      → AllByRecursion (IsSeen (returned before)) seen → ResultsFit (map kind_of ps) scalars seen (map (result_place ps) rs)
  results_from k before [] scalars seen is few all = tt
  results_from k before (ret.Scalar x ∷ rs) zero seen is few all =
      let first = first_answered (types.at (Return k) (types.result d end before (ret.Scalar x))) _ tt is in
      let rule = at_answered (Return k) (types.result d end before (ret.Scalar x)) first.0 first.1.0 in
      let scalar = first_answered (scalar_in (look_up end x)) _ first.0 rule in
      let less = few_scalars (scalar_results before) scalar.1.1 in
      absurd (omega (arith, less, few))
  results_from k before (ret.Scalar x ∷ rs) (suc scalars) seen is few all =
      let first = first_answered (types.at (Return k) (types.result d end before (ret.Scalar x))) _ tt is in
      results_from (next k) (before ++ ret.Scalar x ∷ []) rs scalars seen first.1.1 (omega (arith, few, scalar_behind before x))
      (subst (λ (names : List Name). AllByRecursion (IsSeen names) seen) (sym (same_returned before x)) all)
  results_from k before (ret.Array a p ∷ rs) scalars seen is few all =
      let first = first_answered (types.at (Return k) (types.result d end before (ret.Array a p))) _ tt is in
      let rule = at_answered (Return k) (types.result d end before (ret.Array a p)) first.0 first.1.0 in
      let array = first_answered (array_in (look_up end a)) _ first.0 rule in
      let new = first_answered (once (returned before) p) _ first.0 array.1.1 in
      let owner = first_answered (array_in (look_up d p)) _ first.0 new.1.1 in
      let many = many_is (look_up d p) owner.0 owner.1.0 in
      let found : IsArrayParam ps p = array_param ps d p many.element many.len declared many.is in
      let one : IsSeen (returned before ++ p ∷ []) (number_among p names) =
      record {
        name = p;
        number = refl;
        inside = found.inside;
        far = λ x none. not_back x p (listed_parts x p (returned before) none).1;
      }
      in
      let both : AllByRecursion (IsSeen (returned before ++ p ∷ [])) (number_among p names ∷ seen) =
      (one, seen_behind (returned before) p seen all) in (
        (found.kind, found.at, found.array),
        seen_apart (returned before) p seen (new_name (returned before) p new.1.0) all,
        results_from (next k) (before ++ ret.Array a p ∷ []) rs scalars (number_among p names ∷ seen) first.1.1
            (omega (arith, few, same_scalars before a p))
            (subst (λ (names : List Name). AllByRecursion (IsSeen names) (number_among p (map param_name ps) ∷ seen))
            (sym (returned_behind before a p)) both),
      )

pub results_fit : (m : Model) → types.Well m → ResultsFit (map kind_of m.params) 2 [] (map (result_place m.params) m.rets)
results_fit m well =
    let begun = first_answered (types.at _ (types.declare_params m.params [])) _ tt well in
    let declared : types.declare_params m.params []
    ≡ Ok begun.0 = at_answered _ (types.declare_params m.params []) begun.0 begun.1.0 in
    let required = first_answered (types.requirements 0 m.requires_ begun.0) _ tt begun.1.1 in
    let ended = first_answered (types.in_turn (map types.stmt m.body) (0, begun.0)) _ tt required.1.1 in
    results_from m.params begun.0 ended.0.1 declared 0 [] m.rets 2 [] ended.1.1 (omega arith) tt
