-- The names in scope and their types: a finite map, written as a list in which the last entry of a name counts.
use Rattle.std.specs.Prelude.{nat_eq, Bool, true, false, ◌&&◌, List, [], ◌∷◌, ◌++◌, Option, Some, None, Result, Ok, Err}
use Rattle.std.specs.Prelude.{if◌then◌else◌}
use Rattle.std.specs.Option.{option_or}
use Rattle.rup_base.specs.declared.refusal.TypeWhy.{TypeWhy}
use Rattle.rup_base.specs.declared.refusal.TypeWhy.TheVariants as why
use Rattle.model_syntax.specs.declared.expr.Scalar.{Scalar}
use Rattle.model_syntax.specs.declared.expr.Scalar.TheVariants.{Word, Byte, Flag}
use Rattle.model_syntax.specs.declared.program.Len.{Len}
use Rattle.model_syntax.specs.declared.program.Len.TheVariants.{Fixed, Named}
use Rattle.model_syntax.specs.declared.scope.NameType.{NameType}
use Rattle.model_syntax.specs.declared.scope.NameType.TheVariants.{Scalar as One, Array as Many}
use Rattle.model_syntax.specs.declared.scope.Entry.{Entry}
use Rattle.model_syntax.specs.Names.{Name, same}

abbrev pub Scope : Type 0
Scope = List Entry

-- the type of a name in scope
abbrev pub look_up : Scope → Name → Option NameType
look_up [] x = None
look_up (b ∷ bs) x = option_or (look_up bs x) (if same b.name x then Some b.shape else None)

-- the scope in which a name has a type
abbrev pub bind : Name → NameType → Scope → Scope
bind x t scope = scope ++ (record { name = x; shape = t }) ∷ []

-- the scalar types are equal
abbrev pub same_scalar : Scalar → Scalar → Bool
same_scalar Word Word = true
same_scalar Byte Byte = true
same_scalar Flag Flag = true
same_scalar t u = false

-- the lengths are the same number or the same name
abbrev pub same_length : Len → Len → Bool
same_length (Fixed n) (Fixed k) = nat_eq n k
same_length (Named n) (Named k) = same n k
same_length n k = false

-- the types are equal
abbrev pub same_type : NameType → NameType → Bool
same_type (One t) (One u) = same_scalar t u
same_type (Many t n) (Many u k) = same_scalar t u && same_length n k
same_type t u = false

-- a name has to be in scope
abbrev pub known : Option NameType → Result (Unit {0}) TypeWhy
known None = Err why.Unknown
known (Some t) = Ok tt

-- what a name is where a scalar is wanted
abbrev pub scalar_in : Option NameType → Result Scalar TypeWhy
scalar_in None = Err why.Unknown
scalar_in (Some (One t)) = Ok t
scalar_in (Some (Many t n)) = Err why.NotScalar

-- what a name is where an array is wanted
abbrev pub array_in : Option NameType → Result NameType TypeWhy
array_in None = Err why.Unknown
array_in (Some (One t)) = Err why.NotArray
array_in (Some (Many t n)) = Ok (Many t n)

-- the type of an array's elements
abbrev pub element_in : Option NameType → Result Scalar TypeWhy
element_in None = Err why.Unknown
element_in (Some (One t)) = Err why.NotArray
element_in (Some (Many t n)) = Ok t

-- a scalar may take a name that is no array in scope
abbrev pub scalar_may_take : Option NameType → Result (Unit {0}) TypeWhy
scalar_may_take None = Ok tt
scalar_may_take (Some (One t)) = Ok tt
scalar_may_take (Some (Many t n)) = Err why.NameTaken

-- a moved array may take a name that is not in scope
abbrev pub array_may_take : Option NameType → Result (Unit {0}) TypeWhy
array_may_take None = Ok tt
array_may_take (Some t) = Err why.NameTaken

-- a carried name has one and the same type at both ends
abbrev pub agreed : Option NameType → Option NameType → Result NameType TypeWhy
agreed (Some t) (Some u) = if same_type t u then Ok t else Err why.Uncarried
agreed t u = Err why.Uncarried
