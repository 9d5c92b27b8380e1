-- The rules of parameters, results and models.
use Rattle.std.specs.Prelude.{ℕ, List, Ok, Some, None, codes, if◌then◌else◌}
use Rattle.model_syntax.specs.Names.{Name}
use Rattle.rup_base.specs.Name.{is_name, name_of}
use Rattle.rup_base.specs.declared.arg.Place.{Place}
use Rattle.model_syntax.specs.declared.expr.Scalar.{Scalar}
use Rattle.model_syntax.specs.declared.expr.Scalar.TheVariants as scalar
use Rattle.model_syntax.specs.declared.stmt.Le.{Le}
use Rattle.model_syntax.specs.declared.program.Len.{Len}
use Rattle.model_syntax.specs.declared.program.Len.TheVariants.{Fixed, Named}
use Rattle.model_syntax.specs.declared.program.Param.{Param}
use Rattle.model_syntax.specs.declared.program.Param.TheVariants as parameter
use Rattle.model_syntax.specs.declared.program.Ret.{Ret}
use Rattle.model_syntax.specs.declared.program.Ret.TheVariants as result
use Rattle.model_syntax.specs.declared.program.Model.{Model}
use Rattle.rup_base.specs.Number as numbers
use Rattle.model_reader.specs.Words.{scalar_of, array_of}
use Rattle.model_reader.specs.Statements.{block}
use Rattle.model_reader.specs.Parts.{Answer, Reading, Kind, Rule, ◌>>=◌, wrong, nth, end, headed, behind, each, alone, name}
use Rattle.model_reader.specs.Parts.{known, word}

-- LEN
abbrev pub len : Kind Len
len f = elim (numbers.number f.text) [
  | Some n ↦ Ok (Fixed n)
  | None ↦ if is_name f.text then Ok (Named f.text) else wrong f.at
]

-- a parameter that is a scalar; the text names no flags
abbrev pub scalar_param : Name → Scalar → Param
scalar_param x scalar.Word = parameter.Word x
scalar_param x scalar.Byte = parameter.Byte x
scalar_param x scalar.Flag = parameter.Byte x

-- a parameter that is an array
abbrev pub array_param : Name → Len → Scalar → Param
array_param x n scalar.Word = parameter.Words x n
array_param x n scalar.Byte = parameter.Bytes x n
array_param x n scalar.Flag = parameter.Bytes x n

-- word, byte
abbrev pub atom_sort : Place → List ℕ → Name → Answer Param
atom_sort p t x = known p (scalar_of t) >>= λ t. Ok (scalar_param x t)

-- the LEN of (bytes LEN) or (words LEN)
abbrev pub array_of_length : Name → Scalar → Rule Param
array_of_length x t p fs = do
  n ← nth 0 len p fs
  _ ← end 1 fs
  Ok (array_param x n t)

abbrev pub list_sort : Place → List Reading → Name → Answer Param
list_sort p fs x = do
  h ← headed p fs
  t ← known p (array_of h.0)
  array_of_length x t p h.1

abbrev pub sort : Name → Kind Param
sort x f = f.sort x

-- (x word), (x byte), (x (bytes LEN)), (x (words LEN))
abbrev pub list_param : Rule Param
list_param p fs = do
  h ← headed p fs
  x ← known p (name_of h.0)
  t ← nth 0 (sort x) p h.1
  _ ← end 1 h.1
  Ok t

abbrev pub param : Kind Param
param f = f.param

-- (params P*)
abbrev pub params_of : Rule (List Param)
params_of p fs = behind (codes "params") p fs >>= each param

-- the word `in`
abbrev pub in_word : Kind (Unit {0})
in_word = word (codes "in")

-- (a in P)
abbrev pub list_ret : Rule Ret
list_ret p fs = do
  h ← headed p fs
  a ← known p (name_of h.0)
  _ ← nth 0 in_word p h.1
  owner ← nth 1 name p h.1
  _ ← end 2 h.1
  Ok (result.Array a owner)

-- NAME
abbrev pub atom_ret : Place → List ℕ → Answer Ret
atom_ret p t = known p (name_of t) >>= λ x. Ok (result.Scalar x)

abbrev pub ret : Kind Ret
ret f = f.ret

-- (ret R*)
abbrev pub rets_of : Rule (List Ret)
rets_of p fs = behind (codes "ret") p fs >>= each ret

abbrev pub params : Kind (List Param)
params f = f.params

abbrev pub requires_ : Kind (List Le)
requires_ f = f.requires_

abbrev pub rets : Kind (List Ret)
rets f = f.rets

-- (model NAME (params P*) (require C*) (do S*) (ret R*))
abbrev pub model_of : Rule Model
model_of p args = do
  x ← nth 0 name p args
  ps ← nth 1 params p args
  cs ← nth 2 requires_ p args
  body ← nth 3 block p args
  rs ← nth 4 rets p args
  _ ← end 5 args
  Ok (record { name = x; params = ps; requires_ = cs; body = body; rets = rs })

abbrev pub list_model : Rule Model
list_model p fs = behind (codes "model") p fs >>= model_of p

abbrev pub model : Kind Model
model f = f.model

-- a text is one model
abbrev pub whole : Rule Model
whole = alone model
