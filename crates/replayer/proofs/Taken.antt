-- What well typed models take: at most eight registers for arguments, and at most two locals for scalar results.
use Rattle.std.proofs.Common.{◌≡◌, refl, sym, ◌∙◌, ap, arith, ℕ, ◌+◌, ◌<◌, ◌≤◌, nat_le, nat_lt, Bool, true, false, List, [], ◌∷◌}
use Rattle.std.proofs.Common.{◌++◌, length, map, Option, Some, None, Result, Ok, Err, if◌then◌else◌}
use Rattle.std.proofs.lemmas.Bool.{leb-true, ltb-true}
use Rattle.std.proofs.lemmas.List.{length-append}
use Rattle.rup_base.specs.declared.refusal.TypePlace.TheVariants.{Params, Return}
use Rattle.rup_base.specs.declared.refusal.TypeWhy.{TypeWhy}
use Rattle.rup_base.specs.declared.refusal.TypeWhy.TheVariants as why
use Rattle.model_syntax.specs.Entries.{entry_names}
use Rattle.model_syntax.specs.Limits.{next}
use Rattle.model_syntax.specs.Names.{Name}
use Rattle.model_syntax.specs.Scope.{Scope, bind, look_up, scalar_in}
use Rattle.model_syntax.specs.Types as types
use Rattle.model_syntax.specs.declared.expr.Scalar.TheVariants.{Word, Byte}
use Rattle.model_syntax.specs.declared.program.Len.{Len}
use Rattle.model_syntax.specs.declared.program.Len.TheVariants.{Fixed, Named}
use Rattle.model_syntax.specs.declared.program.Model.{Model}
use Rattle.model_syntax.specs.declared.program.Param.{Param}
use Rattle.model_syntax.specs.declared.program.Param.TheVariants as param
use Rattle.model_syntax.specs.declared.program.Ret.{Ret}
use Rattle.model_syntax.specs.declared.program.Ret.TheVariants as ret
use Rattle.model_syntax.specs.declared.scope.NameType.{NameType}
use Rattle.model_syntax.specs.declared.scope.NameType.TheVariants.{Scalar as One, Array as Many}
use Rattle.model_syntax.proofs.laws.Answered.{first_answered, at_answered, answer_is}
use Rattle.model_syntax.proofs.laws.Arguments.{declare_is}
use Rattle.sym_heap.specs.Context.{Context, scalar}
use Rattle.sym_heap.specs.Start.{length_registers, registers_of, registers}
use Rattle.sym_heap.specs.declared.parts.Held.{Held}
use Rattle.replayer.specs.Ends.{rets_of, with_local}

-- what is said of the scopes and of the results of a well typed model
pub record Parts (m : Model) : Type 0 where
  pub scope : Scope
  pub end_ : types.State
  pub declared : types.declare_params m.params [] ≡ Ok scope
  pub typed : types.in_turn (map types.stmt m.body) (0, scope) ≡ Ok end_
  pub results : types.results scope end_.1 0 [] m.rets ≡ Ok tt

pub parts_of : (m : Model) → types.Well m → Parts m
parts_of m well =
    let start = first_answered (types.at Params (types.declare_params m.params [])) _ tt well in
    let required = first_answered (types.requirements 0 m.requires_ start.0) _ tt start.1.1 in
    let end_ = first_answered (types.in_turn (map types.stmt m.body) (0, start.0)) _ tt required.1.1 in
    record {
      scope = start.0;
      end_ = end_.0;
      declared = at_answered Params (types.declare_params m.params []) start.0 start.1.0;
      typed = end_.1.0;
      results = end_.1.1;
    }

-- Registers.

declare_takes : (x : Name) (t : NameType) (c end_ : Scope) → types.declare x t c ≡ Ok end_ → length end_ ≡ length c + 1
declare_takes x t c end_ is =
    let bound : bind x t c ≡ end_ = (declare_is x t c end_ is).1 in
    sym (ap length bound) ∙ length-append c (record { name = x; shape = t } ∷ [])

length_takes : (n : Len) (c end_ : Scope) → types.declare_length n c ≡ Ok end_ → length end_ ≡ length c + length_registers n
length_takes (Fixed n) c end_ is = let same_one : c ≡ end_ = answer_is c end_ is in let many : length c
    ≡ length end_ = ap length same_one in omega (arith, many)
length_takes (Named x) c end_ is = declare_takes x (One Word) c end_ is

param_takes : (p : Param) (c end_ : Scope) → types.declare_param p c ≡ Ok end_ → length end_ ≡ length c + registers_of p
param_takes (param.Word x) c end_ is = declare_takes x (One Word) c end_ is
param_takes (param.Byte x) c end_ is = declare_takes x (One Byte) c end_ is
param_takes (param.Bytes a n) c end_ is =
    let first = first_answered (types.declare a (Many Byte n) c) _ end_ is in
    omega (arith, declare_takes a (Many Byte n) c first.0 first.1.0, length_takes n first.0 end_ first.1.1)
param_takes (param.Words a n) c end_ is =
    let first = first_answered (types.declare a (Many Word n) c) _ end_ is in
    omega (arith, declare_takes a (Many Word n) c first.0 first.1.0, length_takes n first.0 end_ first.1.1)

few_names : (c end_ : Scope) → types.registers c ≡ Ok end_ → (length end_ ≡ length c) × (length c ≤ 8)
few_names c end_ is = by (nat_le (length c) 8) refl is where
  by : (b : Bool) → nat_le (length c) 8 ≡ b → types.registers c ≡ Ok end_ → (length end_ ≡ length c) × (length c ≤ 8)
  by true few is =
      let here : (if true then Ok c else Err why.Registers) ≡ Ok end_ = rw few at is in
      let same_one : c ≡ end_ = answer_is c end_ here in
      (sym (ap length same_one), leb-true _ _ few)
  by false few is =
      absurd (let bad : (if false then Ok c else Err why.Registers) ≡ Ok end_ = rw few at is in
      let worse : ◌≡◌ {A = Result Scope TypeWhy} (Err why.Registers) (Ok end_) = bad in cc)

params_take : (ps : List Param) (c end_ : Scope) → length c ≤ 8 → types.declare_params ps c ≡ Ok end_
    → length c + registers ps ≤ 8
params_take [] c end_ few is = omega (arith, few)
params_take (p ∷ ps) c end_ few is =
    let one = first_answered (types.declare_param p c) _ end_ is in
    let room = first_answered (types.registers one.0) _ end_ one.1.1 in
    let kept = few_names one.0 room.0 room.1.0 in
    let rest : length room.0 + registers ps ≤ 8 = params_take ps room.0 end_ (omega (arith, kept.0, kept.1)) room.1.1 in
    omega (arith, rest, kept.0, param_takes p c one.0 one.1.0)

pub few_registers : (m : Model) → types.Well m → registers m.params ≤ 8
few_registers m well =
    omega (arith, params_take m.params [] (parts_of m well).scope (omega arith) (parts_of m well).declared)

-- each entry symbol has a register
entries_take : (ps : List Param) → length (entry_names ps) ≤ registers ps
entries_take [] = omega arith
entries_take (param.Word x ∷ ps) = (let rest = entries_take ps in omega (arith, rest))
entries_take (param.Byte x ∷ ps) = (let rest = entries_take ps in omega (arith, rest))
entries_take (param.Bytes a (Fixed n) ∷ ps) = (let rest = entries_take ps in omega (arith, rest))
entries_take (param.Bytes a (Named x) ∷ ps) = (let rest = entries_take ps in omega (arith, rest))
entries_take (param.Words a (Fixed n) ∷ ps) = (let rest = entries_take ps in omega (arith, rest))
entries_take (param.Words a (Named x) ∷ ps) = (let rest = entries_take ps in omega (arith, rest))

pub few_entries : (m : Model) → types.Well m → length (entry_names m.params) ≤ 8
few_entries m well = omega (arith, entries_take m.params, few_registers m well)

-- Results.

scalar_last : (rs : List Ret) (x : Name) → types.scalar_results (rs ++ ret.Scalar x ∷ []) ≡ types.scalar_results rs + 1
scalar_last [] x = refl
scalar_last (ret.Scalar y ∷ rs) x = ap (λ n. n + 1) (scalar_last rs x)
scalar_last (ret.Array a p ∷ rs) x = scalar_last rs x

array_last : (rs : List Ret) (a p : Name) → types.scalar_results (rs ++ ret.Array a p ∷ []) ≡ types.scalar_results rs
array_last [] a p = refl
array_last (ret.Scalar y ∷ rs) a p = ap (λ n. n + 1) (array_last rs a p)
array_last (ret.Array b q ∷ rs) a p = array_last rs a p

below_two : (n : ℕ) (u : Unit {0}) → ◌≡◌ {A = types.Rule} (if nat_lt n 2 then Ok tt else Err why.Results) (Ok u) → n < 2
below_two n u is = by (nat_lt n 2) refl is where
  by : (b : Bool) → nat_lt n 2 ≡ b → ◌≡◌ {A = types.Rule} (if nat_lt n 2 then Ok tt else Err why.Results) (Ok u) → n < 2
  by true few is = ltb-true n 2 few
  by false few is = absurd (let bad : ◌≡◌ {A = types.Rule} (if false then Ok tt else Err why.Results) (Ok u) = rw few at is in
      let worse : ◌≡◌ {A = types.Rule} (Err why.Results) (Ok u) = bad in cc)

results_few : (begin end_ : Scope) (k : ℕ) (before rs : List Ret) → types.scalar_results before ≤ 2
    → types.results begin end_ k before rs ≡ Ok tt
    → types.scalar_results before + types.scalar_results rs ≤ 2
results_few begin end_ k before [] few is = omega (arith, few)
results_few begin end_ k before (ret.Scalar x ∷ rs) few is =
    let one = first_answered (types.at (Return k) (types.result begin end_ before (ret.Scalar x))) _ tt is in
    let inner = at_answered (Return k) (types.result begin end_ before (ret.Scalar x)) one.0 one.1.0 in
    let found = first_answered (scalar_in (look_up end_ x)) _ one.0 inner in
    let less : types.scalar_results before < 2 = below_two (types.scalar_results before) one.0 found.1.1 in
    let last = scalar_last before x in
    let rest = results_few begin end_ (next k) (before ++ ret.Scalar x ∷ []) rs (omega (arith, less, last)) one.1.1 in
    omega (arith, rest, last)
results_few begin end_ k before (ret.Array a p ∷ rs) few is =
    let one = first_answered (types.at (Return k) (types.result begin end_ before (ret.Array a p))) _ tt is in
    let last = array_last before a p in
    let rest = results_few begin end_ (next k) (before ++ ret.Array a p ∷ []) rs (omega (arith, few, last)) one.1.1 in
    omega (arith, rest, last)

one_each : (o : Option Held) (ls : List ℕ) → length (with_local o ls) ≤ length ls + 1
one_each None ls = omega arith
one_each (Some h) ls = omega arith

rets_below : (c : Context) (rs : List Ret) → length (rets_of c rs) ≤ types.scalar_results rs
rets_below c [] = omega arith
rets_below c (ret.Scalar x ∷ rs) =
    let rest = rets_below c rs in
    let one = one_each (scalar c x) (rets_of c rs) in
    omega (arith, rest, one)
rets_below c (ret.Array a p ∷ rs) = rets_below c rs

pub few_rets : (m : Model) → types.Well m → (c : Context) → length (rets_of c m.rets) ≤ 2
few_rets m well c =
    let parts = parts_of m well in
    let all = results_few parts.scope parts.end_.1 0 [] m.rets (omega arith) parts.results in
    let below = rets_below c m.rets in
    omega (arith, all, below)
