-- Type soundness: well typed terms have values of their types. Here are the values of types, and what is promised of
-- expressions, statements and models; each `Law` is a clause of a function of src/soundness.rt.
use Rattle.std.specs.Prelude.{◌≡◌, ℕ, nat_le, Bool, true, false, ◌&&◌, List, [], ◌∷◌, length, map, Some, Result, Ok, Err}
use Rattle.std.proofs.Math.ListN.{set}
use Rattle.rup_base.specs.declared.arg.Arg.{Arg}
use Rattle.rup_base.specs.declared.arg.Arg.TheVariants as arg
use Rattle.rup_base.specs.declared.arg.Kind.{Kind}
use Rattle.rup_base.specs.declared.arg.Kind.TheVariants as kind
use Rattle.rup_base.specs.declared.refusal.Refusal.{Refusal}
use Rattle.rup_base.specs.declared.refusal.TypePlace.TheVariants.{Params}
use Rattle.model_syntax.specs.declared.expr.Expr.{Expr}
use Rattle.model_syntax.specs.declared.expr.Scalar.{Scalar}
use Rattle.model_syntax.specs.declared.expr.Scalar.TheVariants.{Word, Byte, Flag}
use Rattle.model_syntax.specs.declared.stmt.Stmt.{Stmt}
use Rattle.model_syntax.specs.declared.scope.NameType.{NameType}
use Rattle.model_syntax.specs.declared.scope.NameType.TheVariants.{Scalar as One, Array as Many}
use Rattle.model_syntax.specs.declared.program.Len.{Len}
use Rattle.model_syntax.specs.declared.program.Len.TheVariants.{Fixed, Named}
use Rattle.model_syntax.specs.declared.program.Ret.{Ret}
use Rattle.model_syntax.specs.declared.program.Ret.TheVariants as ret
use Rattle.model_syntax.specs.declared.program.Model.{Model}
use Rattle.model_syntax.specs.Answer.{◌>>=◌}
use Rattle.model_syntax.specs.Environment.{Env, value_of, elements, size, with_element, with_each}
use Rattle.model_syntax.specs.ExprType.{type_of}
use Rattle.model_syntax.specs.Formed.{expr_formed, stmt_formed, model_formed}
use Rattle.model_syntax.specs.Kinds.{is_word, is_byte, is_of_kind}
use Rattle.model_syntax.specs.Names.{Name}
use Rattle.model_syntax.specs.Scope.{Scope, look_up, bind, element_in}
use Rattle.model_syntax.specs.Spelling.{Spellable, expr_spellable, stmt_spellable}
use Rattle.model_syntax.specs.Types as types
use Rattle.model_syntax.specs.Types.{Well}
use Rattle.model_syntax.specs.Value.{Meets, eval, run, start, results, element_of}

-- Values of types.

-- a number is of a scalar type: a word has 32 bits, a byte has 8, a flag is 0 or 1
abbrev pub is_number : Scalar → ℕ → Bool
is_number Word = is_word
is_number Byte = is_byte
is_number Flag = λ n. nat_le n 1

-- a value is an array of so many elements of a scalar type, and their number is a word
abbrev pub is_array : Scalar → ℕ → Arg → Bool
is_array Word n v = is_of_kind (kind.Words (Some n)) v && is_word n
is_array Byte n v = is_of_kind (kind.Bytes (Some n)) v && is_word n
is_array Flag n v = false

-- the number of elements that a length says, where each name has a number
abbrev pub length_of : (Name → ℕ) → Len → ℕ
length_of numbers (Fixed n) = n
length_of numbers (Named x) = numbers x

-- a value is of a type
abbrev pub is_of_type : (Name → ℕ) → NameType → Arg → Bool
is_of_type numbers (One t) (arg.Word n) = is_number t n
is_of_type numbers (Many t k) v = is_array t (length_of numbers k) v
is_of_type numbers t v = false

-- a name has a value of a type
pub record HasValue (numbers : Name → ℕ) (env : Env) (x : Name) (t : NameType) : Type 0 where
  pub value : Arg
  pub held : value_of env x ≡ Some value
  pub typed : is_of_type numbers t value ≡ true

-- each name in scope has a value of its type. The names of lengths have the numbers that they have at the start, whatever
-- becomes of scalars of these names later.
abbrev pub IsTyped : (Name → ℕ) → Scope → Env → Type 0
IsTyped numbers c env = (x : Name) (t : NameType) → look_up c x ≡ Some t → HasValue numbers env x t

-- Expressions and statements.

-- a well typed expression has a value of its type
abbrev pub ExpressionLaw : Type 0
ExpressionLaw =
    (numbers : Name → ℕ) (c : Scope) (env : Env) → IsTyped numbers c env
    → (e : Expr) → expr_formed e ≡ true → expr_spellable e ≡ true → (t : Scalar) → type_of e c ≡ Ok t
    → is_number t (eval e env) ≡ true

-- a well typed statement takes an environment of the scope before it to one of the scope after it
abbrev pub StatementLaw : Type 0
StatementLaw =
    (numbers : Name → ℕ) (s : Stmt) → stmt_formed s ≡ true → stmt_spellable s ≡ true
    → (k : ℕ) (c : Scope) (after : types.State) (env : Env) → types.stmt s (k, c) ≡ Ok after → IsTyped numbers c env
    → IsTyped numbers after.1 (run s env)

-- The value's definition is total at arrays: a length is cut at the greatest word, and an array of bytes takes the lowest
-- byte of a number. In a well typed model nothing is cut.
pub record NothingIsCut (numbers : Name → ℕ) (c : Scope) (env : Env) (a : Name) (t : Scalar) : Type 0 where
  -- the length of an array is the number of its elements
  pub lengths : size (elements (value_of env a)) ≡ length (elements (value_of env a))
  -- an array with an element put has the element
  pub elements_put : (i : ℕ) (e : Expr) → expr_formed e ≡ true → expr_spellable e ≡ true → type_of e c ≡ Ok t
      → elements (with_element i (eval e env) (value_of env a)) ≡ set (elements (value_of env a)) i (eval e env)
  -- an array with a new element for each old one has the new elements
  pub elements_mapped : (x : Name) (e : Expr) → expr_formed e ≡ true → expr_spellable e ≡ true
      → type_of e (bind x (One t) c) ≡ Ok t
      → elements (with_each (element_of x e env) (value_of env a)) ≡ map (element_of x e env) (elements (value_of env a))

abbrev pub ArrayLaw : Type 0
ArrayLaw =
    (numbers : Name → ℕ) (c : Scope) (env : Env) → IsTyped numbers c env
    → (a : Name) (t : Scalar) → element_in (look_up c a) ≡ Ok t → NothingIsCut numbers c env a t

-- Models.

abbrev pub scope_after : Result types.State Refusal → Scope
scope_after (Ok state) = state.1
scope_after (Err refusal) = []

-- the scope at the end of a model
abbrev pub end_scope : Model → Scope
end_scope m = scope_after do
  c ← types.at Params (types.declare_params m.params [])
  types.in_turn (map types.stmt m.body) (0, c)

-- the kind of an argument, and for an array its number of elements
abbrev pub kind_of_value : Arg → Kind
kind_of_value (arg.Word n) = kind.Word
kind_of_value (arg.Bytes ns) = kind.Bytes (Some (length ns))
kind_of_value (arg.Words ns) = kind.Words (Some (length ns))

-- a scalar is of the type that its name has
pub record IsScalar (c : Scope) (x : Name) (v : Arg) : Type 0 where
  pub type : Scalar
  pub number : ℕ
  pub in_scope : look_up c x ≡ Some (One type)
  pub is : v ≡ arg.Word number
  pub typed : is_number type number ≡ true

-- an array has the kind of a parameter's argument, and as many elements
pub record IsArrayOf (env : Env) (p : Name) (v : Arg) : Type 0 where
  pub argument : Arg
  pub passed : value_of env p ≡ Some argument
  pub same : is_of_kind (kind_of_value argument) v ≡ true

-- a result is of its kind: `c` is the scope at the end, `env` has the arguments
abbrev pub IsResult : Scope → Env → Ret → Arg → Type 0
IsResult c env (ret.Scalar x) v = IsScalar c x v
IsResult c env (ret.Array a p) v = IsArrayOf env p v

abbrev pub AreResults : Scope → Env → List Ret → List Arg → Type 0
AreResults c env [] [] = Unit {0}
AreResults c env (r ∷ rs) (v ∷ vs) = IsResult c env r v × AreResults c env rs vs
AreResults c env rs vs = ⊥

-- the results of a model at arguments are of their kinds
abbrev pub IsSound : Model → List Arg → List Arg → Type 0
IsSound m args found = AreResults (end_scope m) (start m.params args []) m.rets found

-- a well typed model gives results of their kinds at arguments that meet it
abbrev pub ModelLaw : Type 0
ModelLaw = (m : Model) (args : List Arg) → Well m → model_formed m ≡ true → Spellable m → Meets m args
    → IsSound m args (results m args)
