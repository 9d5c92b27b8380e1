-- Sides of requirements that keep the limits of linear forms, and how great they get.
use Rattle.std.specs.Prelude.{ℕ, ◌+◌, ◌*◌, ◌^◌, ◌≤◌, List, [], ◌∷◌, length, Result, Ok, Err, is_ok, IsTrue}
use Rattle.rup_base.specs.declared.refusal.TypeWhy.{TypeWhy}
use Rattle.model_syntax.specs.declared.stmt.Lin.{Lin}
use Rattle.model_syntax.specs.declared.stmt.Le.{Le}
use Rattle.model_syntax.specs.declared.scope.Term.{Term}
use Rattle.model_syntax.specs.declared.scope.Linear.{Linear}
use Rattle.model_syntax.specs.Linear.{linear}

-- a side has its linear form
abbrev pub HasForm : Lin → Type 0
HasForm side = IsTrue (is_ok (linear side))

-- both sides of each requirement have
abbrev pub Formed : List Le → Type 0
Formed [] = Unit {0}
Formed (r ∷ rs) = HasForm r.low × HasForm r.high × Formed rs

-- each factor is at most 2^40
abbrev pub Light : List Term → Type 0
Light [] = Unit {0}
Light (t ∷ ts) = (t.factor ≤ 2 ^ 40) × Light ts

-- the sum of the factors
abbrev pub factors : List Term → ℕ
factors [] = 0
factors (t ∷ ts) = t.factor + factors ts

-- the form keeps the limits
abbrev pub Small : Linear → Type 0
Small form = (form.constant ≤ 2 ^ 40) × (length form.terms ≤ 16) × Light form.terms

-- the greatest value of the form, where each name is the greatest word
abbrev pub greatest : Linear → ℕ
greatest form = form.constant + factors form.terms * 4294967295

-- a number is a value of the form, which keeps the limits
abbrev pub BelowForm : ℕ → Result Linear TypeWhy → Type 0
BelowForm n (Ok form) = Small form × (n ≤ greatest form)
BelowForm n (Err why) = Unit {0}

-- a number is a value of the side, as far as its form tells
abbrev pub Below : Lin → ℕ → Type 0
Below side n = BelowForm n (linear side)
