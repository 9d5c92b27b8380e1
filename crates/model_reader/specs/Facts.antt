-- The rules of requirements and kept facts.
use Rattle.std.specs.Prelude.{ℕ, List, Ok, Some, None, codes, if◌then◌else◌}
use Rattle.rup_base.specs.Name.{is_name}
use Rattle.rup_base.specs.declared.arg.Place.{Place}
use Rattle.model_syntax.specs.Names.{same}
use Rattle.model_syntax.specs.declared.stmt.Lin.{Lin}
use Rattle.model_syntax.specs.declared.stmt.Lin.TheVariants as l
use Rattle.model_syntax.specs.declared.stmt.Le.{Le}
use Rattle.rup_base.specs.Number as numbers
use Rattle.model_reader.specs.Parts.{Answer, Kind, Rule, ◌>>=◌, wrong, nth, end, each, headed, behind, number}

abbrev pub side : Kind Lin
side f = f.side

abbrev pub fact : Kind Le
fact f = f.fact

-- (add L L)
abbrev pub sum_of : Rule Lin
sum_of p fs = do
  a ← nth 0 side p fs
  b ← nth 1 side p fs
  _ ← end 2 fs
  Ok (l.Sum a b)

-- (mul number L)
abbrev pub scale_of : Rule Lin
scale_of p fs = do
  k ← nth 0 number p fs
  a ← nth 1 side p fs
  _ ← end 2 fs
  Ok (l.Scale k a)

abbrev pub worded_side : List ℕ → Rule Lin
worded_side word p fs =
    if same word (codes "add") then sum_of p fs
    else (if same word (codes "mul") then scale_of p fs
    else wrong p)

abbrev pub list_side : Rule Lin
list_side p fs = headed p fs >>= λ h. worded_side h.0 p h.1

-- a number or a name
abbrev pub atom_side : Place → List ℕ → Answer Lin
atom_side p t = elim (numbers.number t) [
  | Some n ↦ Ok (l.Const n)
  | None ↦ if is_name t then Ok (l.Var t) else wrong p
]

-- (le L L)
abbrev pub list_fact : Rule Le
list_fact p fs = do
  args ← behind (codes "le") p fs
  a ← nth 0 side p args
  b ← nth 1 side p args
  _ ← end 2 args
  Ok (record { low = a; high = b })

-- (keep C*), (require C*)
abbrev pub facts_of : List ℕ → Rule (List Le)
facts_of word p fs = behind word p fs >>= each fact
