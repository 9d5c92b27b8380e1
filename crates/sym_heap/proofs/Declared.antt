-- What a well typed model has declared: each name once, and at most eight registers.
use Rattle.std.proofs.Common.{◌≡◌, refl, ap, subst, arith, ◌+◌, ◌≤◌, Bool, true, false, List, [], ◌∷◌, length, Option, Some, None}
use Rattle.std.proofs.Common.{Result, Ok, Err, nat_le, length-append}
use Rattle.std.proofs.lemmas.Bool.{leb-true}
use Rattle.rup_base.specs.declared.refusal.TypePlace.{TypePlace}
use Rattle.rup_base.specs.declared.refusal.TypePlace.TheVariants.{Params}
use Rattle.rup_base.specs.declared.refusal.TypeWhy.{TypeWhy}
use Rattle.rup_base.specs.declared.refusal.TypeWhy.TheVariants as why
use Rattle.model_syntax.specs.declared.expr.Scalar.TheVariants.{Word, Byte}
use Rattle.model_syntax.specs.declared.program.Len.{Len}
use Rattle.model_syntax.specs.declared.program.Len.TheVariants.{Fixed, Named}
use Rattle.model_syntax.specs.declared.program.Param.{Param}
use Rattle.model_syntax.specs.declared.program.Param.TheVariants as param
use Rattle.model_syntax.specs.declared.program.Model.{Model}
use Rattle.model_syntax.specs.declared.scope.NameType.{NameType}
use Rattle.model_syntax.specs.declared.scope.NameType.TheVariants.{Scalar as One, Array as Many}
use Rattle.model_syntax.specs.Answer.{◌>>=◌}
use Rattle.model_syntax.specs.Names.{Name}
use Rattle.model_syntax.specs.Scope.{Scope, look_up, bind}
use Rattle.model_syntax.specs.Types as types
use Rattle.sym_heap.specs.Start.{length_registers, registers_of, registers}

-- both questions have an answer
pub record Answered {A B E : Type 0} (first : Result A E) (next : A → Result B E) (b : B) : Type 0 where
  pub value : A
  pub one : first ≡ Ok value
  pub two : next value ≡ Ok b

pub answered : {A B E : Type 0} (first : Result A E) (next : A → Result B E) (b : B) → (first >>= next) ≡ Ok b
    → Answered first next b
answered (Ok a) next b is = record { value = a; one = refl; two = is }
answered (Err e) next b is = absurd (cc)

pub at_place : {A : Type 0} (place : TypePlace) (r : Result A TypeWhy) (a : A) → types.at place r ≡ Ok a → r ≡ Ok a
at_place place (Ok x) a is = cc
at_place place (Err e) a is = absurd (cc)

-- a declared name is new
pub declared : (x : Name) (t : NameType) (c d : Scope) → types.declare x t c ≡ Ok d → (look_up c x ≡ None) × (d ≡ bind x t c)
declared x t c d is = by (look_up c x) refl where
  by : (o : Option NameType) → look_up c x ≡ o → (look_up c x ≡ None) × (d ≡ bind x t c)
  by None new = (
    new,
    let same : Ok (bind x t c)
        ≡ Ok d = subst (λ o. elim o [ None ↦ Ok (bind x t c) | Some u ↦ Err why.Repeated ] ≡ Ok d) new is in cc,
  )
  by (Some u) old = absurd (let bad : Err why.Repeated
      ≡ Ok d = subst (λ o. elim o [ None ↦ Ok (bind x t c) | Some u ↦ Err why.Repeated ] ≡ Ok d) old is in cc)

one_more : (x : Name) (t : NameType) (c d : Scope) → types.declare x t c ≡ Ok d → length d ≡ length c + 1
one_more x t c d is = let e : d ≡ bind x t c = (declared x t c d is).1 in rw e (length-append c _)

length_declared : (n : Len) (c d : Scope) → types.declare_length n c ≡ Ok d → length d ≡ length c + length_registers n
length_declared (Fixed k) c d is = let e : c ≡ d = cc in omega (arith, ap length e)
length_declared (Named x) c d is = one_more x (One Word) c d is

array_declared : (a : Name) (t : NameType) (n : Len) (c d : Scope) → (types.declare a t c >>= types.declare_length n) ≡ Ok d
    → length d ≡ length c + (1 + length_registers n)
array_declared a t n c d is =
    let parts : Answered (types.declare a t c) (types.declare_length n) d = answered _ _ d is in
    omega (arith, one_more a t c parts.value parts.one, length_declared n parts.value d parts.two)

param_declared : (p : Param) (c d : Scope) → types.declare_param p c ≡ Ok d → length d ≡ length c + registers_of p
param_declared (param.Word x) c d is = one_more x (One Word) c d is
param_declared (param.Byte x) c d is = one_more x (One Byte) c d is
param_declared (param.Bytes a n) c d is = array_declared a (Many Byte n) n c d is
param_declared (param.Words a n) c d is = array_declared a (Many Word n) n c d is

-- at most eight are taken, and nothing changes
pub counted : (c d : Scope) → types.registers c ≡ Ok d → (c ≡ d) × (length c ≤ 8)
counted c d is = by (nat_le (length c) 8) refl where
  by : (few : Bool) → nat_le (length c) 8 ≡ few → (c ≡ d) × (length c ≤ 8)
  by true few = ((let same : Ok c ≡ Ok d = rw few at is in cc), leb-true _ _ few)
  by false many = absurd (let bad : Err why.Registers ≡ Ok d = rw many at is in cc)

-- the first parameter, and the rest
pub record Declared (p : Param) (ps : List Param) (c d : Scope) : Type 0 where
  pub between : Scope
  pub first : types.declare_param p c ≡ Ok between
  pub few : length between ≤ 8
  pub rest : types.declare_params ps between ≡ Ok d

pub declared_parts : (p : Param) (ps : List Param) (c d : Scope) → types.declare_params (p ∷ ps) c ≡ Ok d → Declared p ps c d
declared_parts p ps c d is =
    let one : Answered (types.declare_param p c) (λ c. types.registers c >>= types.declare_params ps) d = answered _ _ d is in
    let two : Answered (types.registers one.value) (types.declare_params ps) d = answered _ _ d one.two in
    let same : (one.value ≡ two.value) × (length one.value ≤ 8) = counted one.value two.value two.one in
    record { between = one.value; first = one.one; few = same.1; rest = rw (same.0) two.two }

pub params_declared : (ps : List Param) (c d : Scope) → types.declare_params ps c ≡ Ok d → length c ≤ 8
    → (length d ≡ length c + registers ps) × (length d ≤ 8)
params_declared [] c d is few = let e : c ≡ d = cc in (omega (arith, ap length e), omega (arith, ap length e, few))
params_declared (p ∷ ps) c d is few =
    let parts : Declared p ps c d = declared_parts p ps c d is in
    let more : (length d ≡ length parts.between + registers ps)
    × (length d ≤ 8) = params_declared ps parts.between d parts.rest parts.few in
    (omega (arith, param_declared p c parts.between parts.first, more.0), more.1)

-- the scope at the start of a well typed model, in which its requirements hold their rules
pub record StartScope (m : Model) : Type 0 where
  pub scope : Scope
  pub declares : types.declare_params m.params [] ≡ Ok scope
  pub requires_ : types.requirements 0 m.requires_ scope ≡ Ok tt

pub start_scope : (m : Model) → types.Well m → StartScope m
start_scope m well =
    let one : Answered (types.at Params (types.declare_params m.params [])) _ tt = answered _ _ tt well in
    let two : Answered (types.requirements 0 m.requires_ one.value) _ tt = answered _ _ tt one.two in
    record { scope = one.value; declares = at_place Params _ one.value one.one; requires_ = two.one }

pub few_registers : (m : Model) → types.Well m → registers m.params ≤ 8
few_registers m well =
    let at : StartScope m = start_scope m well in
    let counts = params_declared m.params [] at.scope at.declares (omega arith) in
    omega (arith, counts.0, counts.1)
