-- A well typed model has at most eight parameters.
use Rattle.std.proofs.Common.{◌≡◌, ◌+◌, ◌≤◌, Bool, true, false, nat_le, List, [], ◌∷◌, length, map, Option, Some, None, Result}
use Rattle.std.proofs.Common.{Ok, Err, refl, sym, ap, arith, if◌then◌else◌}
use Rattle.std.proofs.lemmas.Bool.{leb-true}
use Rattle.std.proofs.lemmas.List.{length-map, length-append}
use Rattle.rup_base.specs.declared.refusal.TypePlace.TheVariants.{Params}
use Rattle.rup_base.specs.declared.refusal.TypeWhy.{TypeWhy}
use Rattle.rup_base.specs.declared.refusal.TypeWhy.TheVariants as why
use Rattle.model_syntax.specs.Names.{Name}
use Rattle.model_syntax.specs.Scope.{Scope, bind, look_up}
use Rattle.model_syntax.specs.declared.scope.NameType.{NameType}
use Rattle.model_syntax.specs.declared.scope.NameType.TheVariants.{Scalar as One, Array as Many}
use Rattle.model_syntax.specs.declared.expr.Scalar.TheVariants.{Word, Byte}
use Rattle.model_syntax.specs.declared.program.Len.{Len}
use Rattle.model_syntax.specs.declared.program.Len.TheVariants.{Fixed, Named}
use Rattle.model_syntax.specs.declared.program.Param.{Param}
use Rattle.model_syntax.specs.declared.program.Param.TheVariants as param
use Rattle.model_syntax.specs.declared.program.Model.{Model}
use Rattle.model_syntax.specs.Types as types
use Rattle.model_syntax.proofs.laws.Answered.{first_answered, at_answered}

same_length : (c end : Scope) → ◌≡◌ {A = Result Scope TypeWhy} (Ok c) (Ok end) → length end ≡ length c
same_length c end is = let same : c ≡ end = cc in sym (ap length same)

bound_more : (x : Name) (t : NameType) (c : Scope) → length (bind x t c) ≡ length c + 1
bound_more x t c = length-append c (record { name = x; shape = t } ∷ [])

abbrev declared : Option NameType → Name → NameType → Scope → Result Scope TypeWhy
declared found x t c = elim found [ None ↦ Ok (bind x t c) | Some u ↦ Err why.Repeated ]

declared_more : (found : Option NameType) (x : Name) (t : NameType) (c end : Scope) → declared found x t c ≡ Ok end
    → length end ≡ length c + 1
declared_more None x t c end is = omega (arith, same_length (bind x t c) end is, bound_more x t c)
declared_more (Some u) x t c end is = absurd (let bad : ◌≡◌ {A = Result Scope TypeWhy} (Err why.Repeated) (Ok end) = is in cc)

length_more : (n : Len) (c end : Scope) → types.declare_length n c ≡ Ok end → length c ≤ length end
length_more (Fixed n) c end is = omega (arith, same_length c end is)
length_more (Named x) c end is = omega (arith, declared_more (look_up c x) x (One Word) c end is)

param_more : (p : Param) (c end : Scope) → types.declare_param p c ≡ Ok end → length c + 1 ≤ length end
param_more (param.Word x) c end is = omega (arith, declared_more (look_up c x) x (One Word) c end is)
param_more (param.Byte x) c end is = omega (arith, declared_more (look_up c x) x (One Byte) c end is)
param_more (param.Bytes a n) c end is =
    let first = first_answered (types.declare a (Many Byte n) c) _ end is in
    omega (arith, declared_more (look_up c a) a (Many Byte n) c first.0 first.1.0, length_more n first.0 end first.1.1)
param_more (param.Words a n) c end is =
    let first = first_answered (types.declare a (Many Word n) c) _ end is in
    omega (arith, declared_more (look_up c a) a (Many Word n) c first.0 first.1.0, length_more n first.0 end first.1.1)

few_registers : (c end : Scope) → types.registers c ≡ Ok end → (length end ≡ length c) × (length c ≤ 8)
few_registers c end is = by (nat_le (length c) 8) refl is
  where
    by : (b : Bool) → nat_le (length c) 8 ≡ b → types.registers c ≡ Ok end → (length end ≡ length c) × (length c ≤ 8)
    by true few is = (
      same_length c end (let here : (if true then Ok c else Err why.Registers) ≡ Ok end = rw few at is in here),
      leb-true _ _ few,
    )
    by false few is = absurd (let bad : (if false then Ok c else Err why.Registers) ≡ Ok end = rw few at is in
        let worse : ◌≡◌ {A = Result Scope TypeWhy} (Err why.Registers) (Ok end) = bad in cc)

params_few : (ps : List Param) (c end : Scope) → length c ≤ 8 → types.declare_params ps c ≡ Ok end → length c + length ps ≤ 8
params_few [] c end few is = omega (arith, few)
params_few (p ∷ ps) c end few is =
    let one = first_answered (types.declare_param p c) _ end is in
    let room = first_answered (types.registers one.0) _ end one.1.1 in
    let kept = few_registers one.0 room.0 room.1.0 in
    let rest = params_few ps room.0 end (omega (arith, kept.0, kept.1)) room.1.1 in
    omega (arith, rest, kept.0, param_more p c one.0 one.1.0)

pub few_params : (m : Model) → types.Well m → length m.params ≤ 8
few_params m well =
    let start = first_answered (types.at Params (types.declare_params m.params [])) _ tt well in
    let declared = at_answered Params (types.declare_params m.params []) start.0 start.1.0 in
    omega (arith, params_few m.params [] start.0 (omega arith) declared)

pub few_kinds : (m : Model) → types.Well m → length (map types.kind_of m.params) ≤ 8
few_kinds m well = omega (arith, few_params m well, length-map m.params types.kind_of)
