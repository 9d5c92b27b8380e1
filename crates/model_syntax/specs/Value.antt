-- The value of a model: a recursion on its terms over environments. Nothing here knows memory or machines.
use Rattle.std.specs.Prelude.{◌≡◌, ℕ, ◌+◌, ◌-◌, ◌*◌, ◌%◌, nat_eq, nat_le, Bool, true, false, not, ◌&&◌, ◌||◌, List, [], ◌∷◌, map}
use Rattle.std.specs.Prelude.{fold, length, Some, None, Result, Ok, Err, if◌then◌else◌}
use Rattle.std.specs.List.{range_with_len}
use Rattle.std.proofs.Math.ListN.{get_or}
use Rattle.rup_base.specs.declared.arg.Arg.{Arg}
use Rattle.rup_base.specs.declared.arg.Arg.TheVariants.{Word}
use Rattle.rup_base.specs.declared.refusal.ArgFault.TheVariants.{Count, Param as OfParam, Require as OfRequire}
use Rattle.rup_base.specs.declared.refusal.Refusal.{Refusal}
use Rattle.rup_base.specs.declared.refusal.Refusal.TheVariants.{BadArguments}
use Rattle.model_syntax.specs.declared.expr.Expr.{Expr, Expr-F, fold-Expr}
use Rattle.model_syntax.specs.declared.expr.Expr.TheOpen as e
use Rattle.model_syntax.specs.declared.stmt.Lin.{Lin, Lin-F, fold-Lin}
use Rattle.model_syntax.specs.declared.stmt.Lin.TheOpen as l
use Rattle.model_syntax.specs.declared.stmt.Le.{Le}
use Rattle.model_syntax.specs.declared.stmt.Stmt.{Stmt, Stmt-F, fold-Stmt}
use Rattle.model_syntax.specs.declared.stmt.Stmt.TheOpen as s
use Rattle.model_syntax.specs.declared.program.Len.{Len}
use Rattle.model_syntax.specs.declared.program.Len.TheVariants.{Fixed, Named}
use Rattle.model_syntax.specs.declared.program.Param.{Param}
use Rattle.model_syntax.specs.declared.program.Param.TheVariants as param
use Rattle.model_syntax.specs.declared.program.Ret.{Ret}
use Rattle.model_syntax.specs.declared.program.Ret.TheVariants as ret
use Rattle.model_syntax.specs.declared.program.Model.{Model}
use Rattle.model_syntax.specs.Answer.{◌>>=◌}
use Rattle.model_syntax.specs.Environment.{Env, value_of, put, put_some, number, elements, size, with_element, with_each, carry}
use Rattle.model_syntax.specs.Kinds.{is_of_kind}
use Rattle.model_syntax.specs.Limits.{next}
use Rattle.model_syntax.specs.Names.{Name}
use Rattle.model_syntax.specs.Operation.{apply, holds}
use Rattle.model_syntax.specs.Types.{kind_of}

-- Expressions. A flag is 1 where it is true and 0 where it is false.

abbrev pub flag : Bool → ℕ
flag true = 1
flag false = 0

abbrev pub is_true : ℕ → Bool
is_true n = not (nat_eq n 0)

-- the value of an expression in each environment, from the values of the expressions inside
abbrev pub eval_step : Expr-F (Env → ℕ) → Env → ℕ
eval_step (e.Lit n) env = n
eval_step (e.Var x) env = number (value_of env x)
eval_step (e.Length a) env = size (elements (value_of env a))
eval_step (e.Bin op p q) env = apply op (p env) (q env)
eval_step (e.Test cmp p q) env = flag (holds cmp (p env) (q env))
eval_step (e.Not p) env = flag (not (is_true (p env)))
eval_step (e.Both p q) env = flag (is_true (p env) && is_true (q env))
eval_step (e.Either p q) env = flag (is_true (p env) || is_true (q env))
eval_step (e.ToWord p) env = p env
eval_step (e.ToByte p) env = p env % 256
eval_step (e.Get a i) env = get_or (elements (value_of env a)) (i env) 0
eval_step (e.Tab t ns i) env = get_or ns (i env) 0

-- the value of an expression in an environment
abbrev pub eval : Expr → Env → ℕ
eval = fold-Expr (Env → ℕ) eval_step

-- Statements: from the environment before to the one after.

abbrev pub Turn : Type 0
Turn = Env → Env

abbrev pub in_turn : List Turn → Turn
in_turn [] env = env
in_turn (turn ∷ turns) env = in_turn turns (turn env)

-- a turn for each number
abbrev pub folded : (ℕ → Turn) → List ℕ → Turn
folded turn [] env = env
folded turn (n ∷ ns) env = folded turn ns (turn n env)

-- the numbers from low to high - 1
abbrev pub numbers : ℕ → ℕ → List ℕ
numbers low high = range_with_len low (high - low)

-- a turn of a loop: only the listed names carry over
abbrev pub loop_turn : Name → List Name → List Turn → ℕ → Turn
loop_turn x xs body i env = carry xs (in_turn body (put x (Word i) env)) env

-- the new element for an old one
abbrev pub element_of : Name → Expr → Env → ℕ → ℕ
element_of x v env old = eval v (put x (Word old) env)

-- the scalar after an element of a fold
abbrev pub fold_turn : Name → Name → Expr → Env → ℕ → ℕ → ℕ
fold_turn t x v env so_far element = eval v (put x (Word element) (put t (Word so_far) env))

-- `b` is `a` with an element put
abbrev pub element_put : Name → Name → Expr → Expr → Turn
element_put b a i v env = put_some b (with_element (eval i env) (eval v env) (value_of env a)) env

-- `a` has the new elements
abbrev pub array_mapped : Name → Name → Expr → Turn
array_mapped a x v env = put_some a (with_each (element_of x v env) (value_of env a)) env

-- `t` is the fold over `a`, from the front
abbrev pub array_folded : Name → Name → Name → Expr → Turn
array_folded t a x v env = put t (Word (fold (fold_turn t x v env) (number (value_of env t)) (elements (value_of env a)))) env

abbrev pub run_step : Stmt-F Turn → Turn
run_step (s.Let x a) env = put x (Word (eval a env)) env
run_step (s.Put a i v) env = element_put a a i v env
run_step (s.Move b a i v) env = element_put b a i v env
run_step (s.If test xs keep first second) env =
    if is_true (eval test env) then carry xs (in_turn first env) env else carry xs (in_turn second env) env
run_step (s.For x low high xs keep body) env = folded (loop_turn x xs body) (numbers (eval low env) (eval high env)) env
run_step (s.Map a x v) env = array_mapped a x v env
run_step (s.Fold t a x v) env = array_folded t a x v env

abbrev pub run : Stmt → Turn
run = fold-Stmt Turn run_step

-- Arguments.

-- an argument fits a parameter
abbrev pub fits : Param → Arg → Bool
fits p v = is_of_kind (kind_of p) v

-- a named length is the array's
abbrev pub bind_length : Len → ℕ → Turn
bind_length (Fixed k) n env = env
bind_length (Named x) n env = put x (Word n) env

-- the environment with a parameter's argument
abbrev pub bind_argument : Param → Arg → Turn
bind_argument (param.Word x) v env = put x v env
bind_argument (param.Byte x) v env = put x v env
bind_argument (param.Bytes a k) v env = bind_length k (size (elements (Some v))) (put a v env)
bind_argument (param.Words a k) v env = bind_length k (size (elements (Some v))) (put a v env)

-- the environment at the start
abbrev pub start : List Param → List Arg → Turn
start (p ∷ ps) (v ∷ vs) env = start ps vs (bind_argument p v env)
start ps vs env = env

-- a side of a requirement as a whole number, which has no greatest value
abbrev pub whole_step : Lin-F (Env → ℕ) → Env → ℕ
whole_step (l.Const n) env = n
whole_step (l.Var x) env = number (value_of env x)
whole_step (l.Sum p q) env = p env + q env
whole_step (l.Scale k p) env = k * p env

abbrev pub whole : Lin → Env → ℕ
whole = fold-Lin (Env → ℕ) whole_step

-- a requirement holds
abbrev pub met : Le → Env → Bool
met r env = nat_le (whole r.low env) (whole r.high env)

-- the arguments fit their parameters, or the first that does not
abbrev pub fit : ℕ → List Param → List Arg → Result (Unit {0}) Refusal
fit k (p ∷ ps) (v ∷ vs) = if fits p v then fit (next k) ps vs else Err (BadArguments (OfParam k))
fit k ps vs = Ok tt

-- the requirements hold, or the first that does not
abbrev pub all_met : ℕ → List Le → Env → Result (Unit {0}) Refusal
all_met k [] env = Ok tt
all_met k (r ∷ rs) env = if met r env then all_met (next k) rs env else Err (BadArguments (OfRequire k))

-- there are as many arguments as parameters
abbrev pub counts : List Param → List Arg → Result (Unit {0}) Refusal
counts ps vs = if nat_eq (length vs) (length ps) then Ok tt else Err (BadArguments Count)

-- the arguments are met, or the first fault: their count, a parameter, a requirement
abbrev pub judge_arguments : Model → List Arg → Result (Unit {0}) Refusal
judge_arguments m vs = do
  _ ← counts m.params vs
  _ ← fit 0 m.params vs
  all_met 0 m.requires_ (start m.params vs [])

-- the arguments fit the parameters and each requirement holds
abbrev pub Meets : Model → List Arg → Type 0
Meets m vs = judge_arguments m vs ≡ Ok tt

-- Models.

abbrev pub result_of : Env → Ret → Arg
result_of env (ret.Scalar x) = Word (number (value_of env x))
result_of env (ret.Array a p) = elim (value_of env a) [ Some v ↦ v | None ↦ Word 0 ]

-- the environment at the end
abbrev pub end_of : Model → List Arg → Env
end_of m vs = in_turn (map run m.body) (start m.params vs [])

-- the results at arguments that are met
abbrev pub results : Model → List Arg → List Arg
results m vs = map (result_of (end_of m vs)) m.rets

-- the results, or the first fault of the arguments
abbrev pub value : Model → List Arg → Result (List Arg) Refusal
value m vs = do
  _ ← judge_arguments m vs
  Ok (results m vs)
