-- What a map from names is as an environment, and environments that tell the same.
use Rattle.std.specs.Prelude.{◌≡◌, List, [], ◌∷◌, Option, if◌then◌else◌}
use Rattle.rup_base.specs.declared.arg.Arg.{Arg}
use Rattle.rup_base.specs.declared.arg.Arg.TheVariants.{Word}
use Rattle.model_syntax.specs.Environment.{Env, value_of, bound, put}
use Rattle.model_syntax.specs.Names.{Name, same}
use Rattle.model_value.specs.declared.evaluation.Local.{Local}

-- the entries of a map, each as a binding
abbrev pub bindings : List (Name × Arg) → Env
bindings [] = []
bindings (p ∷ ps) = bound p.0 p.1 ∷ bindings ps

-- each name has the same value in both
abbrev pub SameValues : Env → Env → Type 0
SameValues one two = (y : Name) → value_of one y ≡ value_of two y

-- a name has a value, or none, and each other keeps its own
abbrev pub Assigns : Name → Option Arg → Env → Env → Type 0
Assigns x v before after = (y : Name) → value_of after y ≡ (if same x y then v else value_of before y)

-- the environment behind names that have numbers of their own, of which the first counts
abbrev pub behind_locals : List Local → Env → Env
behind_locals [] env = env
behind_locals (l ∷ ls) env = put l.name.now (Word l.number) (behind_locals ls env)
