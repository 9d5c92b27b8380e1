-- Well typed models, and the place and cause of the first fault of the others, in text order.
use Rattle.std.specs.Prelude.{◌≡◌, ℕ, ◌+◌, nat_le, nat_lt, List, [], ◌∷◌, ◌++◌, length, map, Result, Ok, Err, Some, None}
use Rattle.std.specs.Prelude.{if◌then◌else◌}
use Rattle.rup_base.specs.declared.arg.Kind.{Kind}
use Rattle.rup_base.specs.declared.arg.Kind.TheVariants as kind
use Rattle.rup_base.specs.declared.refusal.TypePlace.{TypePlace}
use Rattle.rup_base.specs.declared.refusal.TypePlace.TheVariants.{Params, Require, Statement, Return}
use Rattle.rup_base.specs.declared.refusal.TypeWhy.{TypeWhy}
use Rattle.rup_base.specs.declared.refusal.TypeWhy.TheVariants as why
use Rattle.rup_base.specs.declared.refusal.Refusal.{Refusal}
use Rattle.rup_base.specs.declared.refusal.Refusal.TheVariants.{IllTyped}
use Rattle.model_syntax.specs.declared.expr.Scalar.TheVariants.{Word, Byte, Flag}
use Rattle.model_syntax.specs.declared.program.Len.{Len}
use Rattle.model_syntax.specs.declared.program.Len.TheVariants.{Fixed, Named}
use Rattle.model_syntax.specs.declared.program.Param.{Param}
use Rattle.model_syntax.specs.declared.program.Param.TheVariants as param
use Rattle.model_syntax.specs.declared.program.Ret.{Ret}
use Rattle.model_syntax.specs.declared.program.Ret.TheVariants as ret
use Rattle.model_syntax.specs.declared.program.Model.{Model}
use Rattle.model_syntax.specs.declared.stmt.Lin.{Lin, Lin-F, fold-Lin}
use Rattle.model_syntax.specs.declared.stmt.Lin.TheOpen as l
use Rattle.model_syntax.specs.declared.stmt.Le.{Le}
use Rattle.model_syntax.specs.declared.stmt.Stmt.{Stmt, Stmt-F, fold-Stmt}
use Rattle.model_syntax.specs.declared.stmt.Stmt.TheOpen as s
use Rattle.model_syntax.specs.declared.scope.NameType.{NameType}
use Rattle.model_syntax.specs.declared.scope.NameType.TheVariants.{Scalar as One, Array as Many}
use Rattle.model_syntax.specs.Answer.{◌>>=◌}
use Rattle.model_syntax.specs.ExprType.{type_of, wanted}
use Rattle.model_syntax.specs.Limits.{next}
use Rattle.model_syntax.specs.Linear.{linear}
use Rattle.model_syntax.specs.Names.{Name, same, listed}
use Rattle.model_syntax.specs.Scope.{Scope, look_up, bind, same_type, known, scalar_in, array_in, element_in, scalar_may_take}
use Rattle.model_syntax.specs.Scope.{array_may_take, agreed}

-- a rule holds, or says its first fault
abbrev pub Rule : Type 0
Rule = Result (Unit {0}) TypeWhy

-- a fault at a place
abbrev pub at : {A : Type 0} → TypePlace → Result A TypeWhy → Result A Refusal
at place (Ok a) = Ok a
at place (Err cause) = Err (IllTyped place cause)

-- Parameters. Each name is declared once and takes an argument register; there are eight.

abbrev pub declare : Name → NameType → Scope → Result Scope TypeWhy
declare x t c = elim (look_up c x) [ None ↦ Ok (bind x t c) | Some u ↦ Err why.Repeated ]

-- a length that has a name is a word
abbrev pub declare_length : Len → Scope → Result Scope TypeWhy
declare_length (Fixed n) c = Ok c
declare_length (Named n) c = declare n (One Word) c

abbrev pub declare_param : Param → Scope → Result Scope TypeWhy
declare_param (param.Word x) c = declare x (One Word) c
declare_param (param.Byte x) c = declare x (One Byte) c
declare_param (param.Bytes a n) c = do
  c ← declare a (Many Byte n) c
  declare_length n c
declare_param (param.Words a n) c = do
  c ← declare a (Many Word n) c
  declare_length n c

abbrev pub registers : Scope → Result Scope TypeWhy
registers c = if nat_le (length c) 8 then Ok c else Err why.Registers

-- the scope that the parameters make
abbrev pub declare_params : List Param → Scope → Result Scope TypeWhy
declare_params [] c = Ok c
declare_params (p ∷ ps) c = do
  c ← declare_param p c
  c ← registers c
  declare_params ps c

-- Requirements and kept facts. They name scalars; the names come before the width.

abbrev pub names_step : Lin-F (Scope → Rule) → Scope → Rule
names_step (l.Const n) c = Ok tt
names_step (l.Var x) c = do
  _ ← scalar_in (look_up c x)
  Ok tt
names_step (l.Sum p q) c = do
  _ ← p c
  q c
names_step (l.Scale k p) c = p c

abbrev pub names_scalars : Lin → Scope → Rule
names_scalars = fold-Lin (Scope → Rule) names_step

abbrev pub fact : Le → Scope → Rule
fact r c = do
  _ ← names_scalars r.low c
  _ ← names_scalars r.high c
  _ ← linear r.low
  _ ← linear r.high
  Ok tt

abbrev pub facts : List Le → Scope → Rule
facts [] c = Ok tt
facts (r ∷ rs) c = do
  _ ← fact r c
  facts rs c

-- a model has at most 4096 requirements
abbrev pub requirement : ℕ → Le → Scope → Rule
requirement k r c = if nat_lt k 4096 then fact r c else Err why.WideForm

abbrev pub requirements : ℕ → List Le → Scope → Result (Unit {0}) Refusal
requirements k [] c = Ok tt
requirements k (r ∷ rs) c = do
  _ ← at (Require k) (requirement k r c)
  requirements (next k) rs c

-- Carried names.

-- a name that is none of those before it
abbrev pub once : List Name → Name → Rule
once before x = if listed x before then Err why.Repeated else Ok tt

-- names that stand once, after those before them
abbrev pub distinct : List Name → List Name → Rule
distinct before [] = Ok tt
distinct before (x ∷ xs) = do
  _ ← once before x
  distinct (before ++ x ∷ []) xs

-- names that stand once and are in scope
abbrev pub distinct_known : Scope → List Name → List Name → Rule
distinct_known c before [] = Ok tt
distinct_known c before (x ∷ xs) = do
  _ ← once before x
  _ ← known (look_up c x)
  distinct_known c (before ++ x ∷ []) xs

-- the scope with the names of the types that they have at the ends of two blocks
abbrev pub joined : List Name → Scope → Scope → Scope → Result Scope TypeWhy
joined [] one two c = Ok c
joined (x ∷ xs) one two c = do
  t ← agreed (look_up one x) (look_up two x)
  joined xs one two (bind x t c)

-- the names have at the end of a block the types that they had before it
abbrev pub kept : List Name → Scope → Scope → Rule
kept [] c end = Ok tt
kept (x ∷ xs) c end = do
  _ ← agreed (look_up c x) (look_up end x)
  kept xs c end

-- the counter of a loop
abbrev pub counter : Name → List Name → Scope → Rule
counter x xs c = if listed x xs then Err why.Repeated else scalar_may_take (look_up c x)

-- the element of a fold
abbrev pub folded_element : Name → Name → Scope → Rule
folded_element t x c = if same t x then Err why.Repeated else scalar_may_take (look_up c x)

-- Statements: from the number and the scope at one to the number after it and its inner ones, and the scope.

abbrev pub State : Type 0
State = ℕ × Scope

abbrev pub Block : Type 0
Block = State → Result State Refusal

abbrev pub in_turn : List Block → Block
in_turn [] state = Ok state
in_turn (b ∷ bs) state = do
  state ← b state
  in_turn bs state

abbrev pub stmt_step : Stmt-F Block → Block
stmt_step (s.Let x a) (k, c) = at (Statement k) do
  _ ← scalar_may_take (look_up c x)
  t ← type_of a c
  Ok (next k, bind x (One t) c)
stmt_step (s.Put a i v) (k, c) = at (Statement k) do
  t ← element_in (look_up c a)
  _ ← wanted Word (type_of i c)
  _ ← wanted t (type_of v c)
  Ok (next k, c)
stmt_step (s.Move b a i v) (k, c) = at (Statement k) do
  _ ← array_may_take (look_up c b)
  t ← element_in (look_up c a)
  _ ← wanted Word (type_of i c)
  _ ← wanted t (type_of v c)
  array ← array_in (look_up c a)
  Ok (next k, bind b array c)
stmt_step (s.If test xs keep first second) (k, c) = do
  _ ← at (Statement k) (wanted Flag (type_of test c))
  _ ← at (Statement k) (distinct [] xs)
  one ← in_turn first (next k, c)
  two ← in_turn second (one.0, c)
  after ← at (Statement k) (joined xs one.1 two.1 c)
  _ ← at (Statement k) (facts keep after)
  Ok (two.0, after)
stmt_step (s.For x low high xs keep body) (k, c) = do
  _ ← at (Statement k) (counter x xs c)
  _ ← at (Statement k) (wanted Word (type_of low c))
  _ ← at (Statement k) (wanted Word (type_of high c))
  _ ← at (Statement k) (distinct_known c [] xs)
  _ ← at (Statement k) (facts keep (bind x (One Word) c))
  end ← in_turn body (next k, bind x (One Word) c)
  _ ← at (Statement k) (kept xs c end.1)
  Ok (end.0, c)
stmt_step (s.Map a x v) (k, c) = at (Statement k) do
  t ← element_in (look_up c a)
  _ ← scalar_may_take (look_up c x)
  _ ← wanted t (type_of v (bind x (One t) c))
  Ok (next k, c)
stmt_step (s.Fold t a x v) (k, c) = at (Statement k) do
  u ← scalar_in (look_up c t)
  w ← element_in (look_up c a)
  _ ← folded_element t x c
  _ ← wanted u (type_of v (bind x (One w) c))
  Ok (next k, c)

abbrev pub stmt : Stmt → Block
stmt = fold-Stmt Block stmt_step

-- Results.

-- the scalar results among them
abbrev pub scalar_results : List Ret → ℕ
scalar_results [] = 0
scalar_results (ret.Scalar x ∷ rs) = scalar_results rs + 1
scalar_results (ret.Array a p ∷ rs) = scalar_results rs

-- the parameters whose arrays are returned
abbrev pub returned : List Ret → List Name
returned [] = []
returned (ret.Scalar x ∷ rs) = returned rs
returned (ret.Array a p ∷ rs) = p ∷ returned rs

-- a result, after those before it: `start` has the parameters, `c` is the scope at the end
abbrev pub result : Scope → Scope → List Ret → Ret → Rule
result start c before (ret.Scalar x) = do
  _ ← scalar_in (look_up c x)
  if nat_lt (scalar_results before) 2 then Ok tt else Err why.Results
result start c before (ret.Array a p) = do
  t ← array_in (look_up c a)
  _ ← once (returned before) p
  u ← array_in (look_up start p)
  if same_type t u then Ok tt else Err why.Owner

abbrev pub results : Scope → Scope → ℕ → List Ret → List Ret → Result (Unit {0}) Refusal
results start c k before [] = Ok tt
results start c k before (r ∷ rs) = do
  _ ← at (Return k) (result start c before r)
  results start c (next k) (before ++ r ∷ []) rs

-- Models.

-- all rules of types, in text order
abbrev pub judge : Model → Result (Unit {0}) Refusal
judge m = do
  start ← at Params (declare_params m.params [])
  _ ← requirements 0 m.requires_ start
  end ← in_turn (map stmt m.body) (0, start)
  results start end.1 0 [] m.rets

-- each rule holds
abbrev pub Well : Model → Type 0
Well m = judge m ≡ Ok tt

-- the refusal has the place and the cause of the first fault
abbrev pub FirstIll : Model → Refusal → Type 0
FirstIll m refusal = judge m ≡ Err refusal

-- what a parameter takes
abbrev pub kind_of : Param → Kind
kind_of (param.Word x) = kind.Word
kind_of (param.Byte x) = kind.Byte
kind_of (param.Bytes a (Fixed n)) = kind.Bytes (Some n)
kind_of (param.Bytes a (Named n)) = kind.Bytes None
kind_of (param.Words a (Fixed n)) = kind.Words (Some n)
kind_of (param.Words a (Named n)) = kind.Words None
