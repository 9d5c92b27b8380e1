-- Which expressions a pattern matches: what stands in its places of holes is found from left to right, and a hole that
-- was met before stands for the same expression.
use Rattle.std.specs.Prelude.{ℕ, nat_eq, Bool, true, false, ◌&&◌, List, [], ◌∷◌, ◌++◌, Option, Some, None, is_some}
use Rattle.std.specs.Prelude.{option_and_then, if◌then◌else◌}
use Rattle.model_syntax.specs.Names.{Name, same}
use Rattle.model_syntax.specs.declared.expr.Expr.{Expr, Expr-F, out-Expr}
use Rattle.model_syntax.specs.declared.expr.Expr.TheOpen as e
use Rattle.lemma_files.specs.declared.terms.Pattern.{Pattern, Pattern-F, fold-Pattern}
use Rattle.lemma_files.specs.declared.terms.Pattern.TheOpen as p
use Rattle.lemma_files.specs.declared.matching.Filled.{Filled}
use Rattle.lemma_files.specs.Same.{same_op, same_cmp, same_scalar, same_entries, same_expr}

-- the holes that were met, and what each stands for
abbrev pub Holes : Type 0
Holes = List Filled

-- what is left of a match: it goes on with the holes that were met so far, or it fails
abbrev pub Match : Type 0
Match = Holes → Option Holes

-- what a hole stands for
abbrev pub stands_for : Name → Holes → Option Expr
stands_for x [] = None
stands_for x (f ∷ fs) = if same f.hole x then Some f.expr else stands_for x fs

abbrev pub is : Expr → Expr → Bool
is b a = same_expr a b

-- a match goes on exactly where a test holds
abbrev pub only_if : Bool → Match
only_if test fs = if test then Some fs else None

-- one match after the other
abbrev pub both : Match → Match → Match
both first second fs = option_and_then second (first fs)

-- a hole that is new stands for the expression; another one stands for an equal one
abbrev pub fill : Name → Expr → Match
fill x a fs = elim (stands_for x fs) [
  | Some b ↦ only_if (same_expr b a) fs
  | None ↦ Some (fs ++ record { hole = x; expr = a } ∷ [])
]

-- one layer of a pattern, whose operands tell how they match, and one of an expression
abbrev pub match_layer : Pattern-F (Expr → Match) → Expr-F Expr → Match
match_layer (p.Lit m) (e.Lit n) = only_if (nat_eq m n)
match_layer (p.Var x) (e.Var y) = only_if (same x y)
match_layer (p.Length x) (e.Length y) = only_if (same x y)
match_layer (p.Bin o a b) (e.Bin q c d) = both (only_if (same_op o q)) (both (a c) (b d))
match_layer (p.Test o a b) (e.Test q c d) = both (only_if (same_cmp o q)) (both (a c) (b d))
match_layer (p.Not a) (e.Not c) = a c
match_layer (p.Both a b) (e.Both c d) = both (a c) (b d)
match_layer (p.Either a b) (e.Either c d) = both (a c) (b d)
match_layer (p.ToWord a) (e.ToWord c) = a c
match_layer (p.ToByte a) (e.ToByte c) = a c
match_layer (p.Get x a) (e.Get y c) = both (only_if (same x y)) (a c)
match_layer (p.Tab s ms a) (e.Tab t ns c) = both (only_if (same_scalar s t && same_entries ms ns)) (a c)
match_layer a b = only_if false

abbrev pub match_step : Pattern-F (Expr → Match) → Expr → Match
match_step (p.Hole x) b = fill x b
match_step a b = match_layer a (out-Expr b)

abbrev pub match_at : Pattern → Expr → Match
match_at = fold-Pattern (Expr → Match) match_step

abbrev pub matches : Pattern → Expr → Bool
matches a b = is_some (match_at a b [])
