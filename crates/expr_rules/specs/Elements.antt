-- Elements of arrays and entries of tables, which have one byte or four: their size, and where they stand.
use Rattle.std.specs.Prelude.{ℕ, nat_eq, if◌then◌else◌}
use Rattle.sym_heap.specs.declared.parts.Clause.{Clause}
use Rattle.bed_syntax.specs.declared.operation.BOp.TheVariants as bop
use Rattle.bed_syntax.specs.declared.operation.Size.{Size}
use Rattle.bed_syntax.specs.declared.operation.Size.TheVariants as size
use Rattle.bed_syntax.specs.declared.expression.BExpr.{BExpr}
use Rattle.bed_syntax.specs.declared.expression.BExpr.TheVariants as b

-- what is loaded or looked up of so many bytes
abbrev pub size_of : ℕ → Size
size_of bytes = if nat_eq bytes 1 then size.One else size.Four

-- the bytes that stand before the element of an index
abbrev pub offset : ℕ → BExpr → BExpr
offset bytes index = if nat_eq bytes 1 then index else b.Bin bop.Slu index (b.Lit 2)

-- the address of the element of an index
abbrev pub address : Clause → BExpr → BExpr
address k index = b.Bin bop.Add (b.Var k.pointer) (offset k.size index)
