-- The words that begin the lists of the grammar.
use Rattle.std.specs.Prelude.{ℕ, List, Option, Some, None, codes, if◌then◌else◌}
use Rattle.model_syntax.specs.Names.{same}
use Rattle.model_syntax.specs.declared.expr.Op.{Op}
use Rattle.model_syntax.specs.declared.expr.Op.TheVariants.{Add, Sub, Mul, Mulhuu, Divu, Remu, And, Or, Xor, Shl, Shr, Sar}
use Rattle.model_syntax.specs.declared.expr.Cmp.{Cmp}
use Rattle.model_syntax.specs.declared.expr.Cmp.TheVariants.{Eq, Lt, Slt}
use Rattle.model_syntax.specs.declared.expr.Scalar.{Scalar}
use Rattle.model_syntax.specs.declared.expr.Scalar.TheVariants as scalar
use Rattle.model_reader.specs.declared.words.ExprWord.{ExprWord}
use Rattle.model_reader.specs.declared.words.ExprWord.TheVariants as expr
use Rattle.model_reader.specs.declared.words.StmtWord.{StmtWord}
use Rattle.model_reader.specs.declared.words.StmtWord.TheVariants as stmt

abbrev pub op_of : List ℕ → Option Op
op_of t =
    if same t (codes "add") then Some Add
    else (if same t (codes "sub") then Some Sub
    else (if same t (codes "mul") then Some Mul
    else (if same t (codes "mulhuu") then Some Mulhuu
    else (if same t (codes "divu") then Some Divu
    else (if same t (codes "remu") then Some Remu
    else (if same t (codes "and") then Some And
    else (if same t (codes "or") then Some Or
    else (if same t (codes "xor") then Some Xor
    else (if same t (codes "shl") then Some Shl
    else (if same t (codes "shr") then Some Shr
    else (if same t (codes "sar") then Some Sar
    else None)))))))))))

abbrev pub cmp_of : List ℕ → Option Cmp
cmp_of t =
    if same t (codes "eq") then Some Eq
    else (if same t (codes "lt") then Some Lt
    else (if same t (codes "slt") then Some Slt
    else None))

-- the words of expressions that are no operation and no comparison
abbrev pub form_of : List ℕ → Option ExprWord
form_of t =
    if same t (codes "len") then Some expr.Length
    else (if same t (codes "not") then Some expr.Not
    else (if same t (codes "both") then Some expr.Both
    else (if same t (codes "either") then Some expr.Either
    else (if same t (codes "word") then Some expr.ToWord
    else (if same t (codes "byte") then Some expr.ToByte
    else (if same t (codes "get") then Some expr.Get
    else (if same t (codes "tab") then Some expr.Tab
    else None)))))))

abbrev pub expr_word : List ℕ → Option ExprWord
expr_word t = elim (op_of t) [
  | Some op ↦ Some (expr.Bin op)
  | None ↦ elim (cmp_of t) [ Some cmp ↦ Some (expr.Test cmp) | None ↦ form_of t ]
]

abbrev pub stmt_word : List ℕ → Option StmtWord
stmt_word t =
    if same t (codes "let") then Some stmt.Let
    else (if same t (codes "put") then Some stmt.Put
    else (if same t (codes "move") then Some stmt.Move
    else (if same t (codes "if") then Some stmt.If
    else (if same t (codes "for") then Some stmt.For
    else (if same t (codes "map") then Some stmt.Map
    else (if same t (codes "fold") then Some stmt.Fold
    else None))))))

-- the types of parameters and of a table's entries
abbrev pub scalar_of : List ℕ → Option Scalar
scalar_of t =
    if same t (codes "word") then Some scalar.Word
    else (if same t (codes "byte") then Some scalar.Byte
    else None)

-- the types of the elements of an array
abbrev pub array_of : List ℕ → Option Scalar
array_of t =
    if same t (codes "words") then Some scalar.Word
    else (if same t (codes "bytes") then Some scalar.Byte
    else None)
