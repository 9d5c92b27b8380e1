-- What an atom and a list are read as.
use Rattle.std.proofs.Common.{◌≡◌, sym, ◌∙◌, ap, ℕ, List, map}
use Rattle.rup_base.specs.declared.arg.Place.{Place}
use Rattle.sx_text.specs.declared.tree.Sx.{Sx, fold-roll-Sx}
use Rattle.sx_text.specs.declared.tree.Sx.TheVariants.{Atom, Kids, rolls-Atom, rolls-Kids}
use Rattle.sx_text.specs.declared.tree.Sx.TheOpen as x
use Rattle.model_reader.specs.Parts.{Reading}
use Rattle.model_reader.specs.Reading.{reading, reading_step, atom_reading, list_reading}

pub reading-Atom : (p : Place) (t : List ℕ) → reading (Atom p t) ≡ atom_reading p t
reading-Atom p t = ap reading (sym (rolls-Atom p t)) ∙ fold-roll-Sx Reading reading_step (x.Atom p t)

pub reading-Kids : (p : Place) (cs : List Sx) → reading (Kids p cs) ≡ list_reading p (map reading cs)
reading-Kids p cs = ap reading (sym (rolls-Kids p cs)) ∙ fold-roll-Sx Reading reading_step (x.Kids p cs)
