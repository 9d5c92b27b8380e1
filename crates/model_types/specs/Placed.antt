-- Questions in turn, as the check asks them.
use Rattle.std.specs.Prelude.{ℕ, List, [], ◌∷◌, Result, Ok}
use Rattle.rup_base.specs.declared.refusal.TypePlace.{TypePlace}
use Rattle.rup_base.specs.declared.refusal.TypePlace.TheVariants.{Statement}
use Rattle.rup_base.specs.declared.refusal.Refusal.{Refusal}
use Rattle.model_syntax.specs.Answer.{◌>>=◌}
use Rattle.model_syntax.specs.Names.{Name}
use Rattle.model_syntax.specs.Scope.{Scope, look_up, bind, agreed}
use Rattle.model_syntax.specs.Types.{State, at, facts, distinct, distinct_known, kept, counter}
use Rattle.model_syntax.specs.Types as types
use Rattle.model_syntax.specs.ExprType.{type_of, wanted}
use Rattle.model_syntax.specs.declared.expr.Expr.{Expr}
use Rattle.model_syntax.specs.declared.expr.Scalar.TheVariants.{Word, Flag}
use Rattle.model_syntax.specs.declared.stmt.Le.{Le}
use Rattle.model_syntax.specs.declared.scope.NameType.TheVariants.{Scalar as One}
use Rattle.model_syntax.specs.declared.stmt.Lin.{Lin}
use Rattle.model_syntax.specs.declared.scope.Linear.{Linear}
use Rattle.rup_base.specs.declared.refusal.TypeWhy.{TypeWhy}
use Rattle.model_syntax.specs.Linear.{linear, plus}

-- the scope with carried names, the place on each of its questions
abbrev pub joined : TypePlace → List Name → Scope → Scope → Scope → Result Scope Refusal
joined place [] one two c = Ok c
joined place (x ∷ xs) one two c = do
  t ← at place (agreed (look_up one x) (look_up two x))
  joined place xs one two (bind x t c)

-- what an `if` asks before its blocks
unfoldable pub enter_if : ℕ → Scope → Expr → List Name → Result (Unit {0}) Refusal
enter_if k c test xs = do
  _ ← at (Statement k) (wanted Flag (type_of test c))
  at (Statement k) (distinct [] xs)

-- the state after an `if` whose blocks end in the scope `one` and in the state `two`
unfoldable pub leave_if : ℕ → Scope → List Name → List Le → Scope → State → Result State Refusal
leave_if k c xs keep one two = do
  after ← at (Statement k) (types.joined xs one two.1 c)
  _ ← at (Statement k) (facts keep after)
  Ok (two.0, after)

-- the scope in which the body of a `for` begins
unfoldable pub enter_for : ℕ → Scope → Name → Expr → Expr → List Name → List Le → Result Scope Refusal
enter_for k c x low high xs keep = do
  _ ← at (Statement k) (counter x xs c)
  _ ← at (Statement k) (wanted Word (type_of low c))
  _ ← at (Statement k) (wanted Word (type_of high c))
  _ ← at (Statement k) (distinct_known c [] xs)
  _ ← at (Statement k) (facts keep (bind x (One Word) c))
  Ok (bind x (One Word) c)

-- the state after a `for` whose body ends in the state `end`
unfoldable pub leave_for : ℕ → Scope → List Name → State → Result State Refusal
leave_for k c xs end = do
  _ ← at (Statement k) (kept xs c end.1)
  Ok (end.0, c)

-- a form and the side that comes behind it
abbrev pub plus_side : Linear → Lin → Result Linear TypeWhy
plus_side p side = do
  q ← linear side
  plus p q
