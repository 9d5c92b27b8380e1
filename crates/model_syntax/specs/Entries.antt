-- The numbers and the arrays of a call: which names the entry symbols stand for, and where a result is.
use Rattle.std.specs.Prelude.{ℕ, ◌+◌, List, [], ◌∷◌, map, Option, Some, None, if◌then◌else◌}
use Rattle.model_syntax.specs.declared.program.Len.TheVariants.{Fixed, Named}
use Rattle.model_syntax.specs.declared.program.Param.{Param}
use Rattle.model_syntax.specs.declared.program.Param.TheVariants as param
use Rattle.model_syntax.specs.declared.program.Ret.{Ret}
use Rattle.model_syntax.specs.declared.program.Ret.TheVariants as ret
use Rattle.model_syntax.specs.Names.{Name, same}

-- the names whose values are the numbers of the entry symbols: words, bytes and named lengths, in the order of the parameters
abbrev pub entry_names : List Param → List Name
entry_names [] = []
entry_names (param.Word x ∷ ps) = x ∷ entry_names ps
entry_names (param.Byte x ∷ ps) = x ∷ entry_names ps
entry_names (param.Bytes a (Fixed n) ∷ ps) = entry_names ps
entry_names (param.Bytes a (Named x) ∷ ps) = x ∷ entry_names ps
entry_names (param.Words a (Fixed n) ∷ ps) = entry_names ps
entry_names (param.Words a (Named x) ∷ ps) = x ∷ entry_names ps

-- the number of a name among names that have it
abbrev pub number_among : Name → List Name → ℕ
number_among x [] = 0
number_among x (y ∷ ys) = if same y x then 0 else 1 + number_among x ys

abbrev pub param_name : Param → Name
param_name (param.Word x) = x
param_name (param.Byte x) = x
param_name (param.Bytes a n) = a
param_name (param.Words a n) = a

-- a result is the number of its array parameter, or none for a scalar
abbrev pub result_place : List Param → Ret → Option ℕ
result_place ps (ret.Scalar x) = None
result_place ps (ret.Array a p) = Some (number_among p (map param_name ps))
