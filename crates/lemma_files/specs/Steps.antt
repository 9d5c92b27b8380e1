-- What a lemma makes of an expression.
use Rattle.std.specs.Prelude.{ℕ, Bool, ◌&&◌, List, [], ◌∷◌, Option, Some, None, is_some, option_and_then, if◌then◌else◌}
use Rattle.model_syntax.specs.declared.expr.Expr.{Expr}
use Rattle.equations.specs.Book.{Turn}
use Rattle.lemma_files.specs.Matching.{matches}
use Rattle.lemma_files.specs.declared.terms.Lemma.{Lemma}
use Rattle.lemma_files.specs.declared.terms.Lemma.TheVariants.{Rewrite, Note}

-- what the steps make of an expression, each of what the one before made
abbrev pub in_turn : Turn → List ℕ → Expr → Option Expr
in_turn turn [] a = Some a
in_turn turn (step ∷ steps) a = option_and_then (in_turn turn steps) (turn step a)

-- each of the steps applies in turn
abbrev pub applies : Turn → List ℕ → Expr → Bool
applies turn steps a = is_some (in_turn turn steps a)

-- the steps of a rewriting whose pattern matches, where they apply
abbrev pub expand : Turn → Lemma → Expr → Option (List ℕ)
expand turn (Rewrite x pattern steps) a = if matches pattern a && applies turn steps a then Some steps else None
expand turn (Note x shape facts) a = None
