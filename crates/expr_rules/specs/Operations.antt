-- The operations of Bedrock2 that stand for those of models.
use Rattle.model_syntax.specs.declared.expr.Op.{Op}
use Rattle.model_syntax.specs.declared.expr.Op.TheVariants as op
use Rattle.model_syntax.specs.declared.expr.Cmp.{Cmp}
use Rattle.model_syntax.specs.declared.expr.Cmp.TheVariants as cmp
use Rattle.bed_syntax.specs.declared.operation.BOp.{BOp}
use Rattle.bed_syntax.specs.declared.operation.BOp.TheVariants as bop

abbrev pub code_of : Op → BOp
code_of op.Add = bop.Add
code_of op.Sub = bop.Sub
code_of op.Mul = bop.Mul
code_of op.Mulhuu = bop.Mulhuu
code_of op.Divu = bop.Divu
code_of op.Remu = bop.Remu
code_of op.And = bop.And
code_of op.Or = bop.Or
code_of op.Xor = bop.Xor
code_of op.Shl = bop.Slu
code_of op.Shr = bop.Sru
code_of op.Sar = bop.Srs

abbrev pub test_of : Cmp → BOp
test_of cmp.Eq = bop.Eq
test_of cmp.Lt = bop.Ltu
test_of cmp.Slt = bop.Lts
