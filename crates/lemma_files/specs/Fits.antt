-- The statements that a note is for.
use Rattle.std.specs.Prelude.{Bool, true, false}
use Rattle.model_syntax.specs.Names.{same}
use Rattle.model_syntax.specs.declared.stmt.Stmt.{Stmt, Stmt-F, out-Stmt}
use Rattle.model_syntax.specs.declared.stmt.Stmt.TheOpen as s
use Rattle.lemma_files.specs.declared.terms.Lemma.{Lemma}
use Rattle.lemma_files.specs.declared.terms.Lemma.TheVariants.{Rewrite, Note}
use Rattle.lemma_files.specs.declared.terms.Shape.{Shape}
use Rattle.lemma_files.specs.declared.terms.Shape.TheVariants as shape

-- the statement is of the shape's kind, and has its name
abbrev pub fits_layer : {A : Type 0} → Shape → Stmt-F A → Bool
fits_layer (shape.Let x) (s.Let y a) = same x y
fits_layer (shape.Put x) (s.Put a i v) = same x a
fits_layer (shape.Move x) (s.Move b a i v) = same x a
fits_layer (shape.Map x) (s.Map a y v) = same x a
fits_layer (shape.Fold x) (s.Fold t a y v) = same x t
fits_layer (shape.For x) (s.For y low high xs keep body) = same x y
fits_layer shape.If (s.If test xs keep first second) = true
fits_layer a b = false

abbrev pub shape_fits : Shape → Stmt → Bool
shape_fits a b = fits_layer a (out-Stmt b)

-- a rewriting is for no statement
abbrev pub fits : Lemma → Stmt → Bool
fits (Rewrite x p steps) b = false
fits (Note x a facts) b = shape_fits a b
