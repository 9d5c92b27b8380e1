-- The instructions that a command names, by which it is known again in its machine code.
use Rattle.std.specs.Prelude.{ℕ, List, [], ◌∷◌, ◌++◌}
use Rattle.rup_base.specs.Gather.{joined}
use Rattle.bed_syntax.specs.declared.operation.BOp.{BOp}
use Rattle.bed_syntax.specs.declared.operation.BOp.TheVariants as op
use Rattle.bed_syntax.specs.declared.operation.Size.{Size}
use Rattle.bed_syntax.specs.declared.operation.Size.TheVariants as size
use Rattle.bed_syntax.specs.declared.expression.BExpr.{BExpr, BExpr-F, fold-BExpr}
use Rattle.bed_syntax.specs.declared.expression.BExpr.TheOpen as e
use Rattle.bed_syntax.specs.declared.command.Cmd.{Cmd, Cmd-F, fold-Cmd}
use Rattle.bed_syntax.specs.declared.command.Cmd.TheOpen as c

-- the instructions that stand for one node alone (RISC-V Unprivileged ISA 20191213, chapter 24)
pub data Name : Type 0 where
  MUL : Name
  MULHU : Name
  DIVU : Name
  REMU : Name
  AND : Name
  OR : Name
  SLL : Name
  SRL : Name
  SRA : Name
  SLT : Name
  LBU : Name
  LHU : Name
  SB : Name
  SH : Name

-- the name of an operation, if it has one
abbrev pub op_names : BOp → List Name
op_names op.Add = []
op_names op.Sub = []
op_names op.Mul = MUL ∷ []
op_names op.Mulhuu = MULHU ∷ []
op_names op.Divu = DIVU ∷ []
op_names op.Remu = REMU ∷ []
op_names op.And = AND ∷ []
op_names op.Or = OR ∷ []
op_names op.Xor = []
op_names op.Sru = SRL ∷ []
op_names op.Slu = SLL ∷ []
op_names op.Srs = SRA ∷ []
op_names op.Lts = SLT ∷ []
op_names op.Ltu = []
op_names op.Eq = []

-- the name of a load or of a look-up in a table
abbrev pub load_names : Size → List Name
load_names size.One = LBU ∷ []
load_names size.Two = LHU ∷ []
load_names size.Four = []

-- the name of a store
abbrev pub store_names : Size → List Name
store_names size.One = SB ∷ []
store_names size.Two = SH ∷ []
store_names size.Four = []

-- the names of an expression, each node after what is inside it, from left to right
abbrev pub expr_names_step : BExpr-F (List Name) → List Name
expr_names_step (e.Lit n) = []
expr_names_step (e.Var x) = []
expr_names_step (e.Bin op a b) = a ++ (b ++ op_names op)
expr_names_step (e.Load size a) = a ++ load_names size
expr_names_step (e.Table size bytes i) = i ++ load_names size

abbrev pub expr_names : BExpr → List Name
expr_names = fold-BExpr (List Name) expr_names_step

-- the names of a command: a test before the sides, and before the body of a loop
abbrev pub cmd_names_step : Cmd-F (List Name) → List Name
cmd_names_step (c.Set x e) = expr_names e
cmd_names_step (c.Store size a e) = expr_names a ++ (expr_names e ++ store_names size)
cmd_names_step (c.Cond e p q) = expr_names e ++ (p ++ q)
cmd_names_step (c.Seq cs) = joined cs
cmd_names_step (c.While e p) = expr_names e ++ p

abbrev pub cmd_names : Cmd → List Name
cmd_names = fold-Cmd (List Name) cmd_names_step
