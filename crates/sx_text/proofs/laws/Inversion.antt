-- A form that is a list, or an atom, but for places.
use Rattle.std.proofs.Common.{◌≡◌, refl, sym, ◌∙◌, ap, subst, ℕ, List, [], map}
use Rattle.rup_base.specs.declared.arg.Place.{Place}
use Rattle.sx_text.specs.declared.tree.Sx.{Sx, Sx-F, roll-Sx, out-Sx, out-roll-Sx, roll-out-Sx}
use Rattle.sx_text.specs.declared.tree.Sx.TheVariants.{Atom, Kids, rolls-Atom, rolls-Kids}
use Rattle.sx_text.specs.declared.tree.Sx.TheOpen as x
use Rattle.sx_text.specs.Forms.{place}
use Rattle.sx_text.specs.Spelling.{bare}
use Rattle.sx_text.proofs.laws.Layers.{bare-Atom, bare-Kids}

out-Atom : (p : Place) (t : List ℕ) → out-Sx (Atom p t) ≡ x.Atom p t
out-Atom p t = ap out-Sx (sym (rolls-Atom p t)) ∙ out-roll-Sx (x.Atom p t)

out-Kids : (p : Place) (ks : List Sx) → out-Sx (Kids p ks) ≡ x.Kids p ks
out-Kids p ks = ap out-Sx (sym (rolls-Kids p ks)) ∙ out-roll-Sx (x.Kids p ks)

abbrev kids_in : Sx-F Sx → List Sx
kids_in (x.Atom p t) = []
kids_in (x.Kids p ks) = ks

abbrev bytes_in : Sx-F Sx → List ℕ
bytes_in (x.Atom p t) = t
bytes_in (x.Kids p ks) = []

-- 0 for an atom, 1 for a list
abbrev sort_of : Sx-F Sx → ℕ
sort_of (x.Atom p t) = 0
sort_of (x.Kids p ks) = 1

same_kids : (p q : Place) (ks ls : List Sx) → Kids p ks ≡ Kids q ls → ks ≡ ls
same_kids p q ks ls h = ap kids_in (sym (out-Kids p ks) ∙ ap out-Sx h ∙ out-Kids q ls)

same_bytes : (p q : Place) (t u : List ℕ) → Atom p t ≡ Atom q u → t ≡ u
same_bytes p q t u h = ap bytes_in (sym (out-Atom p t) ∙ ap out-Sx h ∙ out-Atom q u)

apart : (p q : Place) (t : List ℕ) (ks : List Sx) → Atom p t ≡ Kids q ks → ⊥
apart p q t ks h = let e = ap sort_of (sym (out-Atom p t) ∙ ap out-Sx h ∙ out-Kids q ks) in cc

-- what a form is whose bare form is known
abbrev Inverts : Sx → Type 0
Inverts s = ((ks : List Sx) → bare s ≡ Kids (place 0 0) ks → (p : Place) × (cs : List Sx) × (s ≡ Kids p cs) × (map bare cs ≡ ks))
    × ((t : List ℕ) → bare s ≡ Atom (place 0 0) t → (p : Place) × (s ≡ Atom p t))

at-Atom : (p : Place) (t : List ℕ) → Inverts (Atom p t)
at-Atom p t = (
  λ ks h. absurd (apart _ _ t ks (sym (bare-Atom p t) ∙ h)),
  λ u h. (p, ap (Atom p) (same_bytes _ _ t u (sym (bare-Atom p t) ∙ h))),
)

at-Kids : (p : Place) (ks : List Sx) → Inverts (Kids p ks)
at-Kids p ks = (
  λ ls h. (p, ks, refl, same_kids _ _ (map bare ks) ls (sym (bare-Kids p ks) ∙ h)),
  λ t h. absurd (apart _ _ t (map bare ks) (sym h ∙ bare-Kids p ks)),
)

layer : (y : Sx-F Sx) → Inverts (roll-Sx y)
layer (x.Atom p t) = subst Inverts (sym (rolls-Atom p t)) (at-Atom p t)
layer (x.Kids p ks) = subst Inverts (sym (rolls-Kids p ks)) (at-Kids p ks)

inverts : (s : Sx) → Inverts s
inverts s = subst Inverts (roll-out-Sx s) (layer (out-Sx s))

pub list_of : (s : Sx) → (ks : List Sx) → bare s ≡ Kids (place 0 0) ks → (p : Place) × (cs : List Sx) × (s ≡ Kids p cs)
    × (map bare cs ≡ ks)
list_of s = (inverts s).0

pub atom_of : (s : Sx) → (t : List ℕ) → bare s ≡ Atom (place 0 0) t → (p : Place) × (s ≡ Atom p t)
atom_of s = (inverts s).1
