-- What the folds over forms give at an atom and at a list.
use Rattle.std.proofs.Common.{◌≡◌, sym, ◌∙◌, ap, ℕ, ◌+◌, Bool, List, ◌∷◌, [], ◌++◌, map}
use Rattle.rup_base.specs.declared.arg.Place.{Place}
use Rattle.rup_base.specs.Gather.{greatest, all_true}
use Rattle.sx_text.specs.declared.tree.Sx.{Sx, fold-roll-Sx}
use Rattle.sx_text.specs.declared.tree.Sx.TheVariants.{Atom, Kids, rolls-Atom, rolls-Kids}
use Rattle.sx_text.specs.declared.tree.Sx.TheOpen as x
use Rattle.sx_text.specs.Forms.{place}
use Rattle.sx_text.specs.Spelling.{text, text_step, levels, levels_step, is_spelled, is_spelled_step, is_atom, bare, bare_step}
use Rattle.sx_text.specs.Spelling.{spaced}

pub text-Atom : (p : Place) (t : List ℕ) → text (Atom p t) ≡ t
text-Atom p t = ap text (sym (rolls-Atom p t)) ∙ fold-roll-Sx (List ℕ) text_step (x.Atom p t)

pub text-Kids : (p : Place) (ks : List Sx) → text (Kids p ks) ≡ 40 ∷ spaced (map text ks) ++ 41 ∷ []
text-Kids p ks = ap text (sym (rolls-Kids p ks)) ∙ fold-roll-Sx (List ℕ) text_step (x.Kids p ks)

pub levels-Kids : (p : Place) (ks : List Sx) → levels (Kids p ks) ≡ 1 + greatest (map levels ks)
levels-Kids p ks = ap levels (sym (rolls-Kids p ks)) ∙ fold-roll-Sx ℕ levels_step (x.Kids p ks)

pub is_spelled-Atom : (p : Place) (t : List ℕ) → is_spelled (Atom p t) ≡ is_atom t
is_spelled-Atom p t = ap is_spelled (sym (rolls-Atom p t)) ∙ fold-roll-Sx Bool is_spelled_step (x.Atom p t)

pub is_spelled-Kids : (p : Place) (ks : List Sx) → is_spelled (Kids p ks) ≡ all_true (map is_spelled ks)
is_spelled-Kids p ks = ap is_spelled (sym (rolls-Kids p ks)) ∙ fold-roll-Sx Bool is_spelled_step (x.Kids p ks)

pub bare-Atom : (p : Place) (t : List ℕ) → bare (Atom p t) ≡ Atom (place 0 0) t
bare-Atom p t = ap bare (sym (rolls-Atom p t)) ∙ fold-roll-Sx Sx bare_step (x.Atom p t)

pub bare-Kids : (p : Place) (ks : List Sx) → bare (Kids p ks) ≡ Kids (place 0 0) (map bare ks)
bare-Kids p ks = ap bare (sym (rolls-Kids p ks)) ∙ fold-roll-Sx Sx bare_step (x.Kids p ks)
