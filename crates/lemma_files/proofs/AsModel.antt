-- What a form is read as, as a part of a model.
use Rattle.std.proofs.Common.{◌≡◌, refl, sym, ◌∙◌, ap, subst, ℕ, List, [], ◌∷◌, map}
use Rattle.rup_base.specs.declared.arg.Place.{Place}
use Rattle.sx_text.specs.declared.tree.Sx.{Sx, Sx-F, map-Sx, roll-Sx, ind-Sx, fold-roll-Sx}
use Rattle.sx_text.specs.declared.tree.Sx.TheVariants.{Atom, Kids, rolls-Atom, rolls-Kids}
use Rattle.sx_text.specs.declared.tree.Sx.TheOpen as x
use Rattle.model_reader.specs.Parts.{Reading}
use Rattle.model_reader.specs.Reading.{reading, reading_step, atom_reading, list_reading}
use Rattle.lemma_files.specs.Parts.{Part}
use Rattle.lemma_files.specs.Reading.{part, part_step, atom_part, list_part, models}

reading-Atom : (p : Place) (t : List ℕ) → reading (Atom p t) ≡ atom_reading p t
reading-Atom p t = ap reading (sym (rolls-Atom p t)) ∙ fold-roll-Sx Reading reading_step (x.Atom p t)

reading-Kids : (p : Place) (cs : List Sx) → reading (Kids p cs) ≡ list_reading p (map reading cs)
reading-Kids p cs = ap reading (sym (rolls-Kids p cs)) ∙ fold-roll-Sx Reading reading_step (x.Kids p cs)

part-Atom : (p : Place) (t : List ℕ) → part (Atom p t) ≡ atom_part p t
part-Atom p t = ap part (sym (rolls-Atom p t)) ∙ fold-roll-Sx Part part_step (x.Atom p t)

part-Kids : (p : Place) (cs : List Sx) → part (Kids p cs) ≡ list_part p (map part cs)
part-Kids p cs = ap part (sym (rolls-Kids p cs)) ∙ fold-roll-Sx Part part_step (x.Kids p cs)

abbrev model_of : Part → Reading
model_of f = f.model

abbrev Holds : Sx → Type 0
Holds form = model_of (part form) ≡ reading form

abbrev Proved : Type 0
Proved = (form : Sx) × Holds form

abbrev forms_of : List Proved → List Sx
forms_of ks = map (λ (k : Proved). k.0) ks

prepended : (r s : Reading) (rs ss : List Reading) → r ≡ s → rs ≡ ss → r ∷ rs ≡ s ∷ ss
prepended r s rs ss h k = rw (h, k) refl

all_hold : (ks : List Proved) → models (map part (forms_of ks)) ≡ map reading (forms_of ks)
all_hold [] = refl
all_hold (k ∷ ks) = prepended _ _ _ _ k.1 (all_hold ks)

layer : (y : Sx-F Proved) → Holds (roll-Sx (map-Sx Proved Sx (λ k. k.0) y))
layer (x.Atom p t) = subst Holds (sym (rolls-Atom p t)) (ap model_of (part-Atom p t) ∙ sym (reading-Atom p t))
layer (x.Kids p ks) =
    let cs = forms_of ks in
    subst Holds (sym (rolls-Kids p cs))
    (ap model_of (part-Kids p cs) ∙ ap (list_reading p) (all_hold ks) ∙ sym (reading-Kids p cs))

pub as_model : (form : Sx) → (part form).model ≡ reading form
as_model = ind-Sx Holds (λ z y is. subst (λ form. Holds (roll-Sx form)) is (layer y))
