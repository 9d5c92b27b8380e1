-- The text of commands.
use Rattle.std.specs.Prelude.{ℕ, ◌+◌, ◌/◌, ◌%◌, nat_lt, List, [], ◌∷◌, ◌++◌, codes, if◌then◌else◌}
use Rattle.std.specs.Fmt.{decimal}
use Rattle.rup_base.specs.Spelling.{behind_spaces, hex_digit}
use Rattle.bed_syntax.specs.declared.operation.BOp.{BOp}
use Rattle.bed_syntax.specs.declared.operation.BOp.TheVariants as op
use Rattle.bed_syntax.specs.declared.operation.Size.{Size}
use Rattle.bed_syntax.specs.declared.operation.Size.TheVariants as size
use Rattle.bed_syntax.specs.declared.expression.BExpr.{BExpr, BExpr-F, fold-BExpr}
use Rattle.bed_syntax.specs.declared.expression.BExpr.TheOpen as e
use Rattle.bed_syntax.specs.declared.command.Cmd.{Cmd, Cmd-F, fold-Cmd}
use Rattle.bed_syntax.specs.declared.command.Cmd.TheOpen as c

-- texts in parentheses, 40 and 41, with a space between each two
abbrev pub listed : List ℕ → List (List ℕ) → List ℕ
listed head ts = 40 ∷ head ++ (behind_spaces ts ++ 41 ∷ [])

abbrev pub op_name : BOp → List ℕ
op_name op.Add = codes "add"
op_name op.Sub = codes "sub"
op_name op.Mul = codes "mul"
op_name op.Mulhuu = codes "mulhuu"
op_name op.Divu = codes "divu"
op_name op.Remu = codes "remu"
op_name op.And = codes "and"
op_name op.Or = codes "or"
op_name op.Xor = codes "xor"
op_name op.Sru = codes "sru"
op_name op.Slu = codes "slu"
op_name op.Srs = codes "srs"
op_name op.Lts = codes "lts"
op_name op.Ltu = codes "ltu"
op_name op.Eq = codes "eq"

-- the digit of a number of bytes; 48 is `0`
abbrev pub size_digit : Size → ℕ
size_digit size.One = 49
size_digit size.Two = 50
size_digit size.Four = 52

-- a word and the number of bytes
abbrev pub sized : List ℕ → Size → List ℕ
sized word size = word ++ size_digit size ∷ []

-- two digits for each byte
abbrev pub hex : List ℕ → List ℕ
hex [] = []
hex (b ∷ bs) = hex_digit (b / 16) ∷ hex_digit (b % 16) ∷ hex bs

-- `v`, 118, and the local's number
abbrev pub local_text : ℕ → List ℕ
local_text x = 118 ∷ decimal x

abbrev pub expr_text_step : BExpr-F (List ℕ) → List ℕ
expr_text_step (e.Lit n) = decimal n
expr_text_step (e.Var x) = local_text x
expr_text_step (e.Bin op a b) = listed (op_name op) (a ∷ b ∷ [])
expr_text_step (e.Load size a) = listed (sized (codes "load") size) (a ∷ [])
expr_text_step (e.Table size bytes i) = listed (sized (codes "table") size) (hex bytes ∷ i ∷ [])

abbrev pub expr_text : BExpr → List ℕ
expr_text = fold-BExpr (List ℕ) expr_text_step

abbrev pub cmd_text_step : Cmd-F (List ℕ) → List ℕ
cmd_text_step (c.Set x e) = listed (codes "set") (local_text x ∷ expr_text e ∷ [])
cmd_text_step (c.Store size a e) = listed (sized (codes "store") size) (expr_text a ∷ expr_text e ∷ [])
cmd_text_step (c.Cond e p q) = listed (codes "if") (expr_text e ∷ p ∷ q ∷ [])
cmd_text_step (c.Seq cs) = listed (codes "seq") cs
cmd_text_step (c.While e p) = listed (codes "while") (expr_text e ∷ p ∷ [])

abbrev pub cmd_text : Cmd → List ℕ
cmd_text = fold-Cmd (List ℕ) cmd_text_step
