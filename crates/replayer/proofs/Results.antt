-- At the end the results are where the command says.
use Rattle.std.proofs.Common.{◌≡◌, refl, sym, ◌∙◌, ap, subst, ℕ, true, false, List, [], ◌∷◌, ◌++◌, map, Option, Some, None, Ok}
use Rattle.std.proofs.Common.{Err}
use Rattle.std.specs.Prelude.{is_some}
use Rattle.std.specs.List.{list_all}
use Rattle.std.proofs.lemmas.Bool.{eqb-true}
use Rattle.rup_base.specs.declared.arg.Arg.{Arg}
use Rattle.rup_base.specs.declared.arg.Arg.TheVariants as arg
use Rattle.rup_base.specs.declared.refusal.TypePlace.TheVariants.{Return}
use Rattle.rup_base.specs.declared.refusal.TypeWhy.TheVariants as why
use Rattle.rv_memory.specs.Ranges.{Bytes, Stands}
use Rattle.model_syntax.specs.Environment.{Env, value_of}
use Rattle.model_syntax.specs.Limits.{next}
use Rattle.model_syntax.specs.Names.{Name}
use Rattle.model_syntax.specs.Scope.{Scope, look_up, scalar_in}
use Rattle.model_syntax.specs.Types as types
use Rattle.model_syntax.specs.Value as model
use Rattle.model_syntax.specs.declared.expr.Scalar.{Scalar}
use Rattle.model_syntax.specs.declared.program.Param.{Param}
use Rattle.model_syntax.specs.declared.program.Ret.{Ret}
use Rattle.model_syntax.specs.declared.program.Ret.TheVariants as ret
use Rattle.model_syntax.specs.declared.scope.NameType.{NameType}
use Rattle.model_syntax.specs.declared.scope.NameType.TheVariants.{Scalar as One, Array as Many}
use Rattle.model_syntax.proofs.laws.Answered.{first_answered, at_answered, answer_is}
use Rattle.model_syntax.proofs.laws.Arrays.{and_parts}
use Rattle.sym_heap.specs.declared.parts.Held.{Held}
use Rattle.sym_heap.specs.declared.parts.Clause.{Clause}
use Rattle.sym_heap.specs.Context.{Context, scalar, own}
use Rattle.sym_heap.specs.Fits.{Locals, Call, FitsBy, IsArray, array_bytes}
use Rattle.sym_heap.specs.Scoped.{IsScoped}
use Rattle.model_command.specs.Computes.{HoldsResults}
use Rattle.replayer.specs.Ends.{number_of, is_of, is_named, are_named, rets_of}

scalar_typed : (found : Option NameType) (t : Scalar) → scalar_in found ≡ Ok t → found ≡ Some (One t)
scalar_typed None t is = absurd (let bad : Err why.Unknown ≡ Ok t = is in cc)
scalar_typed (Some (One u)) t is = ap (λ z. Some (One z)) (answer_is u t is)
scalar_typed (Some (Many u n)) t is = absurd (let bad : Err why.NotScalar ≡ Ok t = is in cc)

module _ (ps : List Param) (begin end_ : Scope) (call : Call) (numbers : ℕ → ℕ) (after : Context) (env : Env) (mem : Bytes)
    (locals : Locals)
    (fits : FitsBy call numbers after env mem locals) (scoped : IsScoped ps end_ after) where
  abbrev Hold : List Ret → Type 0
  Hold rs = HoldsResults ps call.pointers rs (map (model.result_of env) rs) (rets_of after rs) mem locals

  scalar_holds : (x : Name) (rs : List Ret) (t : Scalar) → look_up end_ x ≡ Some (One t) → Hold rs → Hold (ret.Scalar x ∷ rs)
  scalar_holds x rs t typed rest = by (scalar after x) refl where
    by : (o : Option Held) → scalar after x ≡ o → Hold (ret.Scalar x ∷ rs)
    by None is = absurd (let bad : false ≡ true = sym (ap is_some is) ∙ scoped.every_scalar x t typed in cc)
    by (Some h) is =
        let f = fits.scalars x h is in
        rw (is, f.value) (f.local, rest)

  clause_holds : (a p : Name) (rs : List Ret) (k : Clause) → own after a ≡ Some k → k.param ≡ number_of ps p → Hold rs
      → Hold (ret.Array a p ∷ rs)
  clause_holds a p rs k is param_is rest = by (value_of env a) refl where
    by : (v : Option Arg) → value_of env a ≡ v → Hold (ret.Array a p ∷ rs)
    by None v_is = absurd (subst (IsArray k.size) v_is (fits.clauses a k is).array)
    by (Some v) v_is =
        let stands : Stands mem (call.pointers k.param) (array_bytes (Some v)) =
        subst (λ z. Stands mem (call.pointers k.param) (array_bytes z)) v_is (fits.clauses a k is).stands in
        let here : Stands mem (call.pointers (number_of ps p)) (array_bytes (Some v)) =
        subst (λ (z : ℕ). Stands mem (call.pointers z) (array_bytes (Some v))) param_is stands in
        let found : model.result_of env (ret.Array a p)
        ≡ v = ap (λ (o : Option Arg). elim o [ Some u ↦ u | None ↦ arg.Word 0 ]) v_is in
        (subst (λ z. Stands mem (call.pointers (number_of ps p)) (array_bytes (Some z))) (sym found) here, rest)

  array_holds : (a p : Name) (rs : List Ret) → is_of (number_of ps p) (own after a) ≡ true → Hold rs → Hold (ret.Array a p ∷ rs)
  array_holds a p rs named rest = by (own after a) refl where
    by : (o : Option Clause) → own after a ≡ o → Hold (ret.Array a p ∷ rs)
    by None is = absurd (let bad : false ≡ true = sym (ap (is_of (number_of ps p)) is) ∙ named in cc)
    by (Some k) is = clause_holds a p rs k is (eqb-true k.param (number_of ps p) (sym (ap (is_of (number_of ps p)) is) ∙ named))
        rest

  pub results_hold : (k : ℕ) (before rs : List Ret) → types.results begin end_ k before rs ≡ Ok tt → are_named ps rs after ≡ true
      → Hold rs
  results_hold k before [] typed named = tt
  results_hold k before (ret.Scalar x ∷ rs) typed named =
      let one = first_answered (types.at (Return k) (types.result begin end_ before (ret.Scalar x))) _ tt typed in
      let inner = at_answered (Return k) (types.result begin end_ before (ret.Scalar x)) one.0 one.1.0 in
      let found = first_answered (scalar_in (look_up end_ x)) _ one.0 inner in
      scalar_holds x rs found.0 (scalar_typed (look_up end_ x) found.0 found.1.0)
      (results_hold (next k) (before ++ ret.Scalar x ∷ []) rs one.1.1 named)
  results_hold k before (ret.Array a p ∷ rs) typed named =
      let one = first_answered (types.at (Return k) (types.result begin end_ before (ret.Array a p))) _ tt typed in
      let parts = and_parts (is_of (number_of ps p) (own after a)) (list_all (is_named ps after) rs) named in
      array_holds a p rs parts.0 (results_hold (next k) (before ++ ret.Array a p ∷ []) rs one.1.1 parts.1)
