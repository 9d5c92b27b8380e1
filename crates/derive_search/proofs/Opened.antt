-- What is noted before a statement is the same whatever stands for the statements inside it.
use Rattle.std.proofs.Common.{◌≡◌, refl, ap, ℕ, Bool, if◌then◌else◌, List, [], ◌∷◌, map, Result}
use Rattle.rup_base.specs.Answers.{AnswersWith}
use Rattle.rup_base.specs.declared.fail.Fail.{Fail}
use Rattle.model_syntax.specs.declared.stmt.Stmt.{Stmt, Stmt-F, map-Stmt, out-Stmt}
use Rattle.model_syntax.specs.declared.stmt.Stmt.TheFolds.{fold_out-Stmt}
use Rattle.model_syntax.specs.declared.stmt.Stmt.TheOpen as s
use Rattle.lemma_files.specs.Fits.{fits_layer}
use Rattle.lemma_files.specs.declared.terms.Lemma.{Lemma}
use Rattle.lemma_files.specs.declared.terms.Lemma.TheVariants.{Rewrite, Note}
use Rattle.lemma_files.specs.declared.terms.Shape.{Shape}
use Rattle.lemma_files.specs.declared.terms.Shape.TheVariants as shape
use Rattle.deriv_tree.specs.declared.tree.StmtNode.{StmtNode}
use Rattle.derive_search.specs.declared.seeker.Seeker.{Seeker}
use Rattle.derive_search.specs.Guide.{Guide}
use Rattle.derive_search.specs.Words.{give}
use Rattle.derive_search.specs.Nodes.{Adds, in_order}
use Rattle.derive_search.specs.Notes.{noted, notes_of, notes_before}
use Rattle.derive_search.specs.Statements.{after_notes, own_goal, opened, stmt_step, seek_stmt}

module _ {A B : Type 0} (f : A → B) where
  fits_same : (a : Shape) (t : Stmt-F A) → fits_layer a (map-Stmt A B f t) ≡ fits_layer a t
  fits_same (shape.Let x) (s.Let y e) = refl
  fits_same (shape.Let x) (s.Put y i v) = refl
  fits_same (shape.Let x) (s.Move b y i v) = refl
  fits_same (shape.Let x) (s.If test xs rs first second) = refl
  fits_same (shape.Let x) (s.For y low high xs rs body) = refl
  fits_same (shape.Let x) (s.Map y z v) = refl
  fits_same (shape.Let x) (s.Fold y b z v) = refl
  fits_same (shape.Put x) (s.Let y e) = refl
  fits_same (shape.Put x) (s.Put y i v) = refl
  fits_same (shape.Put x) (s.Move b y i v) = refl
  fits_same (shape.Put x) (s.If test xs rs first second) = refl
  fits_same (shape.Put x) (s.For y low high xs rs body) = refl
  fits_same (shape.Put x) (s.Map y z v) = refl
  fits_same (shape.Put x) (s.Fold y b z v) = refl
  fits_same (shape.Move x) (s.Let y e) = refl
  fits_same (shape.Move x) (s.Put y i v) = refl
  fits_same (shape.Move x) (s.Move b y i v) = refl
  fits_same (shape.Move x) (s.If test xs rs first second) = refl
  fits_same (shape.Move x) (s.For y low high xs rs body) = refl
  fits_same (shape.Move x) (s.Map y z v) = refl
  fits_same (shape.Move x) (s.Fold y b z v) = refl
  fits_same (shape.Map x) (s.Let y e) = refl
  fits_same (shape.Map x) (s.Put y i v) = refl
  fits_same (shape.Map x) (s.Move b y i v) = refl
  fits_same (shape.Map x) (s.If test xs rs first second) = refl
  fits_same (shape.Map x) (s.For y low high xs rs body) = refl
  fits_same (shape.Map x) (s.Map y z v) = refl
  fits_same (shape.Map x) (s.Fold y b z v) = refl
  fits_same (shape.Fold x) (s.Let y e) = refl
  fits_same (shape.Fold x) (s.Put y i v) = refl
  fits_same (shape.Fold x) (s.Move b y i v) = refl
  fits_same (shape.Fold x) (s.If test xs rs first second) = refl
  fits_same (shape.Fold x) (s.For y low high xs rs body) = refl
  fits_same (shape.Fold x) (s.Map y z v) = refl
  fits_same (shape.Fold x) (s.Fold y b z v) = refl
  fits_same (shape.For x) (s.Let y e) = refl
  fits_same (shape.For x) (s.Put y i v) = refl
  fits_same (shape.For x) (s.Move b y i v) = refl
  fits_same (shape.For x) (s.If test xs rs first second) = refl
  fits_same (shape.For x) (s.For y low high xs rs body) = refl
  fits_same (shape.For x) (s.Map y z v) = refl
  fits_same (shape.For x) (s.Fold y b z v) = refl
  fits_same shape.If (s.Let y e) = refl
  fits_same shape.If (s.Put y i v) = refl
  fits_same shape.If (s.Move b y i v) = refl
  fits_same shape.If (s.If test xs rs first second) = refl
  fits_same shape.If (s.For y low high xs rs body) = refl
  fits_same shape.If (s.Map y z v) = refl
  fits_same shape.If (s.Fold y b z v) = refl

  lemma_same : (t : Stmt-F A) (l : Lemma) → notes_of (map-Stmt A B f t) l ≡ notes_of t l
  lemma_same t (Rewrite x pattern steps) = refl
  lemma_same t (Note x a facts) = ap (λ (fits : Bool). if fits then in_order (map noted facts) else give) (fits_same a t)

  all_same : (t : Stmt-F A) (ls : List Lemma) → map (notes_of (map-Stmt A B f t)) ls ≡ map (notes_of t) ls
  all_same t [] = refl
  all_same t (l ∷ ls) = rw (lemma_same t l, all_same t ls) refl

-- a statement after its notes, from what is noted before it and what its own goal gives
pub stmt_noted : (guide : Guide) (deep : ℕ) (t : Stmt) (done : List StmtNode) (before after : Seeker)
    (result : Result (List StmtNode) Fail)
    → AnswersWith result after (after_notes (notes_before guide.lemmas (out-Stmt t)) (own_goal guide deep (opened guide deep t))
    done before)
    → AnswersWith result after (seek_stmt guide deep t done before)
stmt_noted guide deep t done before after result is =
    rw (fold_out-Stmt Adds (stmt_step guide deep) t, all_same (seek_stmt guide deep) (out-Stmt t) guide.lemmas) is
