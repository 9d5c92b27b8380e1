-- Models as forms, whose spelling is the canonical one: numbers in decimal.
use Rattle.std.specs.Prelude.{ℕ, List, [], ◌∷◌, ◌++◌, map, codes}
use Rattle.std.specs.Fmt.{decimal}
use Rattle.sx_text.specs.declared.tree.Sx.{Sx}
use Rattle.sx_text.specs.declared.tree.Sx.TheVariants.{Atom, Kids}
use Rattle.sx_text.specs.Forms.{place}
use Rattle.sx_text.specs.Spelling.{text}
use Rattle.model_syntax.specs.declared.expr.Op.{Op}
use Rattle.model_syntax.specs.declared.expr.Op.TheVariants.{Add, Sub, Mul, Mulhuu, Divu, Remu, And, Or, Xor, Shl, Shr, Sar}
use Rattle.model_syntax.specs.declared.expr.Cmp.{Cmp}
use Rattle.model_syntax.specs.declared.expr.Cmp.TheVariants.{Eq, Lt, Slt}
use Rattle.model_syntax.specs.declared.expr.Scalar.{Scalar}
use Rattle.model_syntax.specs.declared.expr.Scalar.TheVariants as scalar
use Rattle.model_syntax.specs.declared.expr.Expr.{Expr, Expr-F, fold-Expr}
use Rattle.model_syntax.specs.declared.expr.Expr.TheOpen as e
use Rattle.model_syntax.specs.declared.stmt.Lin.{Lin, Lin-F, fold-Lin}
use Rattle.model_syntax.specs.declared.stmt.Lin.TheOpen as l
use Rattle.model_syntax.specs.declared.stmt.Le.{Le}
use Rattle.model_syntax.specs.declared.stmt.Stmt.{Stmt, Stmt-F, fold-Stmt}
use Rattle.model_syntax.specs.declared.stmt.Stmt.TheOpen as s
use Rattle.model_syntax.specs.declared.program.Len.{Len}
use Rattle.model_syntax.specs.declared.program.Len.TheVariants.{Fixed, Named}
use Rattle.model_syntax.specs.declared.program.Param.{Param}
use Rattle.model_syntax.specs.declared.program.Param.TheVariants as parameter
use Rattle.model_syntax.specs.declared.program.Ret.{Ret}
use Rattle.model_syntax.specs.declared.program.Ret.TheVariants as result
use Rattle.model_syntax.specs.declared.program.Model.{Model}

abbrev pub atom : List ℕ → Sx
atom t = Atom (place 0 0) t

abbrev pub list : List Sx → Sx
list fs = Kids (place 0 0) fs

-- a word and forms
abbrev pub worded : List ℕ → List Sx → Sx
worded w fs = list (atom w ∷ fs)

abbrev pub number : ℕ → Sx
number n = atom (decimal n)

abbrev pub numbers : List ℕ → Sx
numbers ns = list (map number ns)

abbrev pub op_word : Op → List ℕ
op_word Add = codes "add"
op_word Sub = codes "sub"
op_word Mul = codes "mul"
op_word Mulhuu = codes "mulhuu"
op_word Divu = codes "divu"
op_word Remu = codes "remu"
op_word And = codes "and"
op_word Or = codes "or"
op_word Xor = codes "xor"
op_word Shl = codes "shl"
op_word Shr = codes "shr"
op_word Sar = codes "sar"

abbrev pub cmp_word : Cmp → List ℕ
cmp_word Eq = codes "eq"
cmp_word Lt = codes "lt"
cmp_word Slt = codes "slt"

-- no table has flags
abbrev pub scalar_word : Scalar → List ℕ
scalar_word scalar.Word = codes "word"
scalar_word scalar.Byte = codes "byte"
scalar_word scalar.Flag = codes "flag"

-- (len a)
abbrev pub length : List ℕ → Sx
length a = worded (codes "len") (atom a ∷ [])

-- (get a i)
abbrev pub get : List ℕ → Sx → Sx
get a i = worded (codes "get") (atom a ∷ i ∷ [])

-- (tab t (N+) i)
abbrev pub table : Scalar → List ℕ → Sx → Sx
table t ns i = worded (codes "tab") (atom (scalar_word t) ∷ numbers ns ∷ i ∷ [])

abbrev pub expr_step : Expr-F Sx → Sx
expr_step (e.Lit n) = number n
expr_step (e.Var x) = atom x
expr_step (e.Length a) = length a
expr_step (e.Bin op p q) = worded (op_word op) (p ∷ q ∷ [])
expr_step (e.Test cmp p q) = worded (cmp_word cmp) (p ∷ q ∷ [])
expr_step (e.Not p) = worded (codes "not") (p ∷ [])
expr_step (e.Both p q) = worded (codes "both") (p ∷ q ∷ [])
expr_step (e.Either p q) = worded (codes "either") (p ∷ q ∷ [])
expr_step (e.ToWord p) = worded (codes "word") (p ∷ [])
expr_step (e.ToByte p) = worded (codes "byte") (p ∷ [])
expr_step (e.Get a i) = get a i
expr_step (e.Tab t ns i) = table t ns i

abbrev pub expr : Expr → Sx
expr = fold-Expr Sx expr_step

-- (mul n L)
abbrev pub scale : ℕ → Sx → Sx
scale n p = worded (codes "mul") (number n ∷ p ∷ [])

abbrev pub side_step : Lin-F Sx → Sx
side_step (l.Const n) = number n
side_step (l.Var x) = atom x
side_step (l.Sum p q) = worded (codes "add") (p ∷ q ∷ [])
side_step (l.Scale k p) = scale k p

abbrev pub side : Lin → Sx
side = fold-Lin Sx side_step

abbrev pub fact : Le → Sx
fact r = worded (codes "le") (side r.low ∷ side r.high ∷ [])

abbrev pub names : List (List ℕ) → Sx
names xs = list (map atom xs)

abbrev pub keep : List Le → Sx
keep rs = worded (codes "keep") (map fact rs)

abbrev pub block : List Sx → Sx
block = worded (codes "do")

-- (x), the name of an element
abbrev pub element : List ℕ → Sx
element x = list (atom x ∷ [])

abbrev pub let_form : List ℕ → Expr → Sx
let_form x a = worded (codes "let") (atom x ∷ expr a ∷ [])

abbrev pub put_form : List ℕ → Expr → Expr → Sx
put_form a i v = worded (codes "put") (atom a ∷ expr i ∷ expr v ∷ [])

abbrev pub move_form : List ℕ → List ℕ → Expr → Expr → Sx
move_form b a i v = worded (codes "move") (atom b ∷ atom a ∷ expr i ∷ expr v ∷ [])

-- what stands before the blocks of an if
abbrev pub if_begun : Expr → List (List ℕ) → List Le → List Sx
if_begun test xs rs = atom (codes "if") ∷ expr test ∷ names xs ∷ keep rs ∷ []

-- what stands before the names of a loop
abbrev pub for_begun : List ℕ → Expr → Expr → List Sx
for_begun x low high = atom (codes "for") ∷ atom x ∷ expr low ∷ expr high ∷ []

abbrev pub map_form : List ℕ → List ℕ → Expr → Sx
map_form a x v = worded (codes "map") (atom a ∷ element x ∷ expr v ∷ [])

abbrev pub fold_form : List ℕ → List ℕ → List ℕ → Expr → Sx
fold_form t a x v = worded (codes "fold") (atom t ∷ atom a ∷ element x ∷ expr v ∷ [])

abbrev pub stmt_step : Stmt-F Sx → Sx
stmt_step (s.Let x a) = let_form x a
stmt_step (s.Put a i v) = put_form a i v
stmt_step (s.Move b a i v) = move_form b a i v
stmt_step (s.If test xs rs first second) = list (if_begun test xs rs ++ block first ∷ block second ∷ [])
stmt_step (s.For x low high xs rs body) = list (for_begun x low high ++ names xs ∷ keep rs ∷ block body ∷ [])
stmt_step (s.Map a x v) = map_form a x v
stmt_step (s.Fold t a x v) = fold_form t a x v

abbrev pub stmt : Stmt → Sx
stmt = fold-Stmt Sx stmt_step

abbrev pub len : Len → Sx
len (Fixed n) = number n
len (Named x) = atom x

-- (x word), (x byte)
abbrev pub scalar_form : List ℕ → List ℕ → Sx
scalar_form x w = list (atom x ∷ atom w ∷ [])

-- (a (bytes LEN)), (a (words LEN))
abbrev pub array_form : List ℕ → List ℕ → Len → Sx
array_form a w n = list (atom a ∷ worded w (len n ∷ []) ∷ [])

abbrev pub param : Param → Sx
param (parameter.Word x) = scalar_form x (codes "word")
param (parameter.Byte x) = scalar_form x (codes "byte")
param (parameter.Bytes a n) = array_form a (codes "bytes") n
param (parameter.Words a n) = array_form a (codes "words") n

abbrev pub params : List Param → Sx
params ps = worded (codes "params") (map param ps)

abbrev pub ret : Ret → Sx
ret (result.Scalar x) = atom x
ret (result.Array a p) = list (atom a ∷ atom (codes "in") ∷ atom p ∷ [])

abbrev pub rets : List Ret → Sx
rets rs = worded (codes "ret") (map ret rs)

abbrev pub model : Model → Sx
model m =
    worded (codes "model") (atom m.name ∷ params m.params ∷ worded (codes "require") (map fact m.requires_)
    ∷ block (map stmt m.body) ∷ rets m.rets ∷ [])

-- the canonical spelling: one space between forms, none beside a parenthesis's inside, one line feed at the end
abbrev pub spelling : Model → List ℕ
spelling m = text (model m) ++ 10 ∷ []
