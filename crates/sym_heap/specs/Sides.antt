-- Sides of requirements and of kept facts as forms over symbols, where each name has a form.
use Rattle.std.specs.Prelude.{◌≡◌, ⊤, ℕ, ◌^◌, true, List, [], ◌∷◌, ◌++◌, Option, Some, None, ◌≤◌, Ok, is_ok, pos, if◌then◌else◌}
use Rattle.std.specs.Borrow.{Bor}
use Rattle.std.specs.List.{find, list_any}
use Rattle.std.specs.Option.{unwrap_or}
use Rattle.side_certs.specs.LinearForm.{LinearForm, constant, plus, minus, times, is_within}
use Rattle.side_certs.specs.Closes.{Near, number_at}
use Rattle.model_syntax.specs.declared.stmt.Lin.{Lin, Lin-F, fold-Lin, out-Lin}
use Rattle.model_syntax.specs.declared.stmt.Lin.TheOpen as l
use Rattle.model_syntax.specs.declared.stmt.Le.{Le}
use Rattle.model_syntax.specs.declared.scope.Linear.{Linear}
use Rattle.model_syntax.specs.Linear.{linear}
use Rattle.model_syntax.specs.Names.{Name, same}
use Rattle.sym_heap.specs.declared.parts.Held.{Held}
use Rattle.sym_heap.specs.declared.sides.NameForms.{NameForms}
use Rattle.sym_heap.specs.Context.{is_scalar}

abbrev pub form_or_nothing : Option Held → LinearForm
form_or_nothing None = constant (pos 0)
form_or_nothing (Some h) = h.form

-- the form of a name: its scalar's
abbrev pub form_in : List Held → Name → LinearForm
form_in scalars x = form_or_nothing (find (is_scalar x) scalars)

abbrev pub side_step : (Name → LinearForm) → Lin-F LinearForm → LinearForm
side_step form (l.Const n) = constant (pos n)
side_step form (l.Var x) = form x
side_step form (l.Sum p q) = plus p q
side_step form (l.Scale k p) = times (pos k) p

-- a side with these forms for its names
abbrev pub side : (Name → LinearForm) → Lin → LinearForm
side form = fold-Lin LinearForm (side_step form)

-- the high side less the low one: it is at least 0 where the requirement holds
abbrev pub difference : (Name → LinearForm) → Le → LinearForm
difference form r = minus (side form r.high) (side form r.low)

-- What the call of a difference is given.

abbrev pub given_form : Option (Bor Name × Bor LinearForm) → Name → Option LinearForm
given_form None x = None
given_form (Some g) x = if same g.0.now x then Some g.1.now else None

-- the form of a name: the given one, that of the ends where the name is listed, else that of the other scalars
abbrev pub form_of : NameForms → Name → LinearForm
form_of n x =
    unwrap_or (given_form n.given x)
    (if list_any (λ y. same y x) n.listed.now then form_in n.ends.now x else form_in n.others.now x)

-- both sides keep the limits of linear forms over names in each part, as they do in every well typed model
pub record IsNarrow (r : Le) : Type 0 where
  pub low : is_ok (linear r.low) ≡ true
  pub high : is_ok (linear r.high) ≡ true

-- the number, where the side is one
abbrev pub literal_of : Lin-F Lin → Option ℕ
literal_of (l.Const n) = Some n
literal_of (l.Var x) = None
literal_of (l.Sum p q) = None
literal_of (l.Scale k p) = None

abbrev pub literal : Lin → Option ℕ
literal a = literal_of (out-Lin a)

-- the constant of the side has a magnitude within the limit of forms
abbrev pub HasSmallConstant : Lin → Type 0
HasSmallConstant a = (p : Linear) → linear a ≡ Ok p → p.constant ≤ 2 ^ 40

-- with these forms for its names the requirement keeps the limits of forms, if its sides' constants do
pub record Formed (form : Name → LinearForm) (r : Le) : Type 0 where
  pub narrow : IsNarrow r
  pub keeps : HasSmallConstant r.low → HasSmallConstant r.high → is_within (difference form r) ≡ true

abbrev pub AllFormed : (Name → LinearForm) → List Le → Type 0
AllFormed form [] = ⊤
AllFormed form (r ∷ rs) = Formed form r × AllFormed form rs

-- the names in a side
abbrev pub names_step : Lin-F (List Name) → List Name
names_step (l.Const n) = []
names_step (l.Var x) = x ∷ []
names_step (l.Sum p q) = p ++ q
names_step (l.Scale k p) = p

abbrev pub names : Lin → List Name
names = fold-Lin (List Name) names_step

-- the number at a place, of each of these names, has a magnitude within the limit of forms
abbrev pub AllNear : Option ℕ → (Name → LinearForm) → List Name → Type 0
AllNear place form [] = ⊤
AllNear place form (x ∷ xs) = Near (2 ^ 40) (number_at place (form x)) × AllNear place form xs
