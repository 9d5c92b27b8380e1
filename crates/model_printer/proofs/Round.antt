-- A model that is printed is read back.
use Rattle.std.proofs.Common.{◌≡◌, ℕ, ◌≤◌, true, List, [], ◌∷◌, map, Ok}
use Rattle.rup_base.specs.Gather.{all_true}
use Rattle.sx_text.specs.declared.tree.Sx.{Sx}
use Rattle.sx_text.specs.Forms.{read, deepest}
use Rattle.sx_text.specs.Spelling.{levels}
use Rattle.sx_text.proofs.laws.Printed.{printed_is_read}
use Rattle.model_syntax.specs.declared.program.Model.{Model}
use Rattle.model_syntax.specs.Limits.{Within}
use Rattle.model_syntax.specs.Spelling.{Spellable, stmt_spellable}
use Rattle.model_syntax.specs.Formed.{model_formed}
use Rattle.model_printer.specs.Printing as printing
use Rattle.model_reader.specs.Reading.{reading, read_model, limited}
use Rattle.model_reader.proofs.laws.Exact.{within_limits}
use Rattle.model_printer.proofs.ModelBack.{model_back}
use Rattle.model_printer.proofs.Spelled.{model_spelled}

read_as : (word : ℕ) (bytes : List ℕ) (m : Model) (t : Sx) → read word bytes ≡ Ok (t ∷ []) → (reading t).model ≡ Ok m
    → limited m ≡ Ok m
    → read_model word bytes ≡ Ok m
read_as word bytes m t forms is within = rw (forms, is) within

spellable : (m : Model) → Spellable m → all_true (map stmt_spellable m.body) ≡ true
spellable m h = search h

pub printed_model : (word : ℕ) (m : Model) → model_formed m ≡ true → Spellable m → Within m → levels (printing.model m) ≤ deepest
    → read_model word (printing.spelling m) ≡ Ok m
printed_model word m h s w l =
    let p = printed_is_read word (printing.model m) (model_spelled m h) l in
    read_as word (printing.spelling m) m p.0 p.1 (model_back m h (spellable m s) p.0 p.2) (within_limits m w)
