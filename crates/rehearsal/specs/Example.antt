-- A model with an array, a table and two results, and a command of the same value that no rule gives.
use Rattle.std.specs.Prelude.{ℕ, List, [], ◌∷◌, codes, Some, None}
use Rattle.cost_poly.specs.declared.term.Term.{Term}
use Rattle.model_syntax.specs.declared.expr.Op.TheVariants as op
use Rattle.model_syntax.specs.declared.expr.Scalar.TheVariants as scalar
use Rattle.model_syntax.specs.declared.expr.Expr.{Expr}
use Rattle.model_syntax.specs.declared.expr.Expr.TheVariants as e
use Rattle.model_syntax.specs.declared.stmt.Lin.TheVariants as lin
use Rattle.model_syntax.specs.declared.stmt.Stmt.TheVariants as s
use Rattle.model_syntax.specs.declared.program.Len.TheVariants as len
use Rattle.model_syntax.specs.declared.program.Param.TheVariants as param
use Rattle.model_syntax.specs.declared.program.Ret.TheVariants as ret
use Rattle.model_syntax.specs.declared.program.Model.{Model}
use Rattle.bed_syntax.specs.declared.operation.BOp.TheVariants as bop
use Rattle.bed_syntax.specs.declared.operation.Size.TheVariants as size
use Rattle.bed_syntax.specs.declared.expression.BExpr.{BExpr}
use Rattle.bed_syntax.specs.declared.expression.BExpr.TheVariants as b
use Rattle.bed_syntax.specs.declared.command.Cmd.{Cmd}
use Rattle.bed_syntax.specs.declared.command.Cmd.TheVariants as c
use Rattle.model_command.specs.declared.command.ModelCommand.{ModelCommand}

-- the entries of the table
abbrev pub entries : List ℕ
entries = 5 ∷ 7 ∷ 11 ∷ 13 ∷ []

-- (word (get s 0))
abbrev pub first_byte : Expr
first_byte = e.ToWord (e.Get (codes "s") (e.Lit 0))

-- (tab word (5 7 11 13) (remu x 4))
abbrev pub looked_up : Expr
looked_up = e.Tab scalar.Word entries (e.Bin op.Remu (e.Var (codes "x")) (e.Lit 4))

-- (model two (params (s (bytes n))) (require (le 1 n)) (do (let x (word (get s 0))) (let y (tab ..))) (ret x y))
abbrev pub model : Model
model = record {
  name = codes "two";
  params = param.Bytes (codes "s") (len.Named (codes "n")) ∷ [];
  requires_ = record { low = lin.Const 1; high = lin.Var (codes "n") } ∷ [];
  body = s.Let (codes "x") first_byte ∷ s.Let (codes "y") looked_up ∷ [];
  rets = ret.Scalar (codes "x") ∷ ret.Scalar (codes "y") ∷ [];
}

-- the entries as words, little endian
abbrev pub table : List ℕ
table = 5 ∷ 0 ∷ 0 ∷ 0 ∷ 7 ∷ 0 ∷ 0 ∷ 0 ∷ 11 ∷ 0 ∷ 0 ∷ 0 ∷ 13 ∷ 0 ∷ 0 ∷ 0 ∷ []

-- the byte at the pointer
abbrev pub byte_read : BExpr
byte_read = b.Load size.One (b.Var 0)

-- the place in the table, in bytes
abbrev pub place : BExpr
place = b.Bin bop.Mul (b.Bin bop.Remu byte_read (b.Lit 4)) (b.Lit 4)

-- the entry of the table
abbrev pub entry : BExpr
entry = b.Table size.Four table place

-- the second result first, and the byte is read for each of them
abbrev pub body : Cmd
body = c.Seq (c.Set 3 entry ∷ c.Set 6 byte_read ∷ [])

-- 84 for each byte of the array, which has at least one
abbrev pub bound : List Term
bound = record { first = Some 0; second = None; coefficient = 84 } ∷ []

abbrev pub command : ModelCommand
command = record {
  command = body;
  args = 2;
  rets = 6 ∷ 3 ∷ [];
  bound = bound;
  weight = 84;
  locals = 4;
  depth = 5;
}
