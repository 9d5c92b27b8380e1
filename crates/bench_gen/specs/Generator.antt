-- The model and the arguments that `bench` makes of a seed. The generator is this project's own.
use Rattle.std.specs.Prelude.{ℕ, zero, suc, ◌+◌, ◌*◌, ◌/◌, ◌%◌, ◌^◌, nat_eq, List, [], ◌∷◌, ◌++◌, map, codes, if◌then◌else◌}
use Rattle.std.specs.List.{range_with_len}
use Rattle.rup_base.specs.declared.arg.Arg.{Arg}
use Rattle.rup_base.specs.declared.arg.Arg.TheVariants as arg
use Rattle.model_syntax.specs.declared.expr.Op.TheVariants as op
use Rattle.model_syntax.specs.declared.expr.Expr.{Expr}
use Rattle.model_syntax.specs.declared.expr.Expr.TheVariants as e
use Rattle.model_syntax.specs.declared.stmt.Stmt.{Stmt}
use Rattle.model_syntax.specs.declared.stmt.Stmt.TheVariants as s
use Rattle.model_syntax.specs.declared.program.Len.TheVariants as len
use Rattle.model_syntax.specs.declared.program.Param.{Param}
use Rattle.model_syntax.specs.declared.program.Param.TheVariants as param
use Rattle.model_syntax.specs.declared.program.Ret.{Ret}
use Rattle.model_syntax.specs.declared.program.Ret.TheVariants as ret
use Rattle.model_syntax.specs.declared.program.Model.{Model}
use Rattle.model_syntax.specs.Names.{Name}

-- Draws.

-- the state after a draw
abbrev pub next : ℕ → ℕ
next state = (1664525 * state + 1013904223) % 2 ^ 32

-- the state after four draws
abbrev pub after_four : ℕ → ℕ
after_four state = next (next (next (next state)))

-- what a draw that left this state gives
abbrev pub drawn : ℕ → ℕ
drawn state = state / 65536

-- Names.

-- x0 to x7
abbrev pub scalar : ℕ → Name
scalar k = codes "x" ++ (48 + k) ∷ []

abbrev pub word_name : Name
word_name = codes "p"

abbrev pub array_name : Name
array_name = codes "s"

abbrev pub length_name : Name
length_name = codes "n"

abbrev pub element_name : Name
element_name = codes "y"

-- Statements.

abbrev pub var : ℕ → Expr
var k = e.Var (scalar k)

-- (let xk (add p k))
abbrev pub first : ℕ → Stmt
first k = s.Let (scalar k) (e.Bin op.Add (e.Var word_name) (e.Lit k))

-- (let xa (add xb xc))
abbrev pub sum : ℕ → ℕ → ℕ → Stmt
sum a b c = s.Let (scalar a) (e.Bin op.Add (var b) (var c))

-- (let xa (xor xb (mul xc 31)))
abbrev pub mix : ℕ → ℕ → ℕ → Stmt
mix a b c = s.Let (scalar a) (e.Bin op.Xor (var b) (e.Bin op.Mul (var c) (e.Lit 31)))

-- (let xa (sub (shr xb 3) xc))
abbrev pub shift : ℕ → ℕ → ℕ → Stmt
shift a b c = s.Let (scalar a) (e.Bin op.Sub (e.Bin op.Shr (var b) (e.Lit 3)) (var c))

-- (fold xa s (y) (add (mul xa 31) (word y)))
abbrev pub hash : ℕ → Stmt
hash a = s.Fold (scalar a) array_name element_name
    (e.Bin op.Add (e.Bin op.Mul (var a) (e.Lit 31)) (e.ToWord (e.Var element_name)))

-- the statement of a kind, which is below 4
abbrev pub of_kind : ℕ → ℕ → ℕ → ℕ → Stmt
of_kind kind a b c =
    if nat_eq kind 0 then sum a b c
    else (if nat_eq kind 1 then mix a b c
    else (if nat_eq kind 2 then shift a b c
    else hash a))

-- the statement that four draws after a state give: kind, a, b, c
abbrev pub statement : ℕ → Stmt
statement state =
    of_kind (drawn (next state) % 4) (drawn (next (next state)) % 8)
    (drawn (next (next (next state))) % 8) (drawn (after_four state) % 8)

-- so many statements after a state
abbrev pub statements : ℕ → ℕ → List Stmt
statements zero state = []
statements (suc count) state = statement state ∷ statements count (after_four state)

-- The model and its arguments.

abbrev pub params : List Param
params = param.Word word_name ∷ param.Bytes array_name (len.Named length_name) ∷ []

-- eight statements that bind the scalars, and so many drawn ones
abbrev pub body : ℕ → ℕ → List Stmt
body seed count = map first (range_with_len 0 8) ++ statements count seed

abbrev pub rets : List Ret
rets = ret.Scalar (scalar 0) ∷ ret.Scalar (scalar 1) ∷ []

abbrev pub model : ℕ → ℕ → Model
model seed count = record {
  name = codes "bench";
  params = params;
  requires_ = [];
  body = body seed count;
  rets = rets;
}

abbrev pub byte : ℕ → ℕ → ℕ
byte seed k = (7 * k + seed) % 256

-- the seed and 64 bytes
abbrev pub arguments : ℕ → List Arg
arguments seed = arg.Word seed ∷ arg.Bytes (map (byte seed) (range_with_len 0 64)) ∷ []
