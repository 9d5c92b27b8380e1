-- What the check of parameters and of arguments answers says of each of them.
use Rattle.std.proofs.Common.{◌≡◌, refl, sym, ◌∙◌, ap, arith, ℕ, ◌+◌, nat_eq, nat_le, Bool, true, false, List, [], ◌∷◌, length}
use Rattle.std.proofs.Common.{Option, Some, None, Result, Ok, Err, if◌then◌else◌}
use Rattle.std.proofs.lemmas.Bool.{eqb-true}
use Rattle.rup_base.specs.declared.arg.Arg.{Arg}
use Rattle.rup_base.specs.declared.refusal.ArgFault.TheVariants as fault
use Rattle.rup_base.specs.declared.refusal.Refusal.{Refusal}
use Rattle.rup_base.specs.declared.refusal.Refusal.TheVariants.{BadArguments}
use Rattle.rup_base.specs.declared.refusal.TypeWhy.{TypeWhy}
use Rattle.rup_base.specs.declared.refusal.TypeWhy.TheVariants as why
use Rattle.model_syntax.specs.Limits.{next}
use Rattle.model_syntax.specs.Names.{Name, same}
use Rattle.model_syntax.specs.Scope.{Scope, look_up, bind}
use Rattle.model_syntax.specs.Types as types
use Rattle.model_syntax.specs.Value as model
use Rattle.model_syntax.specs.declared.scope.NameType.{NameType}
use Rattle.model_syntax.specs.declared.program.Param.{Param}
use Rattle.model_syntax.proofs.laws.Answered.{answer_is}
use Rattle.model_syntax.proofs.laws.Bindings.{up_here, up_else}

-- Parameters.

abbrev declared : Option NameType → Name → NameType → Scope → Result Scope TypeWhy
declared found x t c = elim found [ None ↦ Ok (bind x t c) | Some u ↦ Err why.Repeated ]

declared_is : (found : Option NameType) (x : Name) (t : NameType) (c end : Scope) → declared found x t c ≡ Ok end
    → (found ≡ None) × (bind x t c ≡ end)
declared_is None x t c end is = (refl, answer_is (bind x t c) end is)
declared_is (Some u) x t c end is = absurd (let bad : Err why.Repeated ≡ Ok end = is in cc)

-- a name that is declared was not in scope
pub declare_is : (x : Name) (t : NameType) (c end : Scope) → types.declare x t c ≡ Ok end
    → (look_up c x ≡ None) × (bind x t c ≡ end)
declare_is x t c end is = declared_is (look_up c x) x t c end is

pub registers_is : (c end : Scope) → types.registers c ≡ Ok end → c ≡ end
registers_is c end is = by (nat_le (length c) 8) refl is
  where
    by : (b : Bool) → nat_le (length c) 8 ≡ b → types.registers c ≡ Ok end → c ≡ end
    by true few is = answer_is c end (let here : (if true then Ok c else Err why.Registers) ≡ Ok end = rw few at is in here)
    by false few is = absurd (let bad : (if false then Ok c else Err why.Registers) ≡ Ok end = rw few at is in
        let worse : Err why.Registers ≡ Ok end = bad in cc)

-- a name that is not in scope after a binding was not before it, and is another
pub none_before : (c : Scope) (x y : Name) (t : NameType) → look_up (bind x t c) y ≡ None
    → (same x y ≡ false) × (look_up c y ≡ None)
none_before c x y t none = by (same x y) refl
  where
    by : (is : Bool) → same x y ≡ is → (same x y ≡ false) × (look_up c y ≡ None)
    by true is = absurd (let bad : Some t ≡ None = sym (up_here c x y t is) ∙ none in cc)
    by false is = (is, sym (up_else c x y t is) ∙ none)

-- Arguments.

-- each argument fits its parameter
abbrev pub AllFit : List Param → List Arg → Type 0
AllFit [] [] = Unit {0}
AllFit (p ∷ ps) (a ∷ args) = (model.fits p a ≡ true) × AllFit ps args
AllFit ps args = ⊥

pub fit_all : (k : ℕ) (ps : List Param) (args : List Arg) → length args ≡ length ps → model.fit k ps args ≡ Ok tt → AllFit ps args
fit_all k [] [] many is = tt
fit_all k [] (a ∷ args) many is = absurd (omega (arith, many))
fit_all k (p ∷ ps) [] many is = absurd (omega (arith, many))
fit_all k (p ∷ ps) (a ∷ args) many is = by_test (fit_all (next k) ps args (omega (arith, many))) (model.fits p a) refl is
  where
    by_test : (model.fit (next k) ps args ≡ Ok tt → AllFit ps args) → (test : Bool) → model.fits p a ≡ test
        → model.fit k (p ∷ ps) (a ∷ args) ≡ Ok tt → AllFit (p ∷ ps) (a ∷ args)
    by_test rest true e h = (e, rest (rw e at h))
    by_test rest false e h = absurd (let bad : Err (BadArguments (fault.Param k)) ≡ Ok tt = rw e at h in cc)

pub counts_ok : (ps : List Param) (args : List Arg) (u : Unit {0}) → model.counts ps args ≡ Ok u → length args ≡ length ps
counts_ok ps args u e = by_test (nat_eq (length args) (length ps)) refl
  where
    by_test : (same : Bool) → nat_eq (length args) (length ps) ≡ same → length args ≡ length ps
    by_test true h = eqb-true (length args) (length ps) h
    by_test false h = absurd (let bad : model.counts ps args ≡ Err (BadArguments fault.Count) = rw h refl in cc)
