-- A table of the names in scope.
use Rattle.std.specs.Prelude.{◌≡◌}
use Rattle.indexmap.specs.IndexMap.{IndexMap, get}
use Rattle.model_syntax.specs.declared.scope.NameType.{NameType}
use Rattle.model_syntax.specs.Names.{Name, same}
use Rattle.model_syntax.specs.Scope.{Scope, look_up}

-- the table has the type of each name in scope, and no other name
abbrev pub Tells : {S : Type 0} → IndexMap Name NameType S → Scope → Type 0
Tells types c = (x : Name) → get same types x ≡ look_up c x
