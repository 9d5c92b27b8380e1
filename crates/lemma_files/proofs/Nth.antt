-- The form with a number, and the forms from a number on, and those before it, by what stands in the list.
use Rattle.std.proofs.Common.{◌≡◌, refl, ap, ℕ, zero, suc, ◌+◌, ◌<◌, ◌≤◌, List, [], ◌∷◌, map, take, length, get_or, arith, Ok}
use Rattle.rup_base.specs.declared.arg.Place.{Place}
use Rattle.sx_text.specs.declared.tree.Sx.{Sx}
use Rattle.model_reader.specs.Parts.{missing, wrong, form}
use Rattle.model_reader.specs.Sizes.{size, sizes}
use Rattle.lemma_files.specs.Parts.{Part, end}
use Rattle.lemma_files.specs.Reading.{part}

pub form_in : (p : Place) (ks : List Sx) (i : ℕ) (d : Sx) → i < length ks → form i p (map part ks) ≡ Ok (part (get_or ks i d))
form_in p [] i d h = absurd (omega arith)
form_in p (k ∷ ks) zero d h = refl
form_in p (k ∷ ks) (suc i) d h = form_in p ks i d (omega arith)

pub form_out : (p : Place) (ks : List Sx) (i : ℕ) → length ks ≤ i → form i p (map part ks) ≡ missing p
form_out p [] i h = refl
form_out p (k ∷ ks) zero h = absurd (omega arith)
form_out p (k ∷ ks) (suc i) h = form_out p ks i (omega arith)

no_more_than_first : (a b : ℕ) → a ≤ a + b
no_more_than_first a b = omega arith

no_more_behind : (a b c : ℕ) → a ≤ c → a ≤ b + c
no_more_behind a b c h = omega arith

pub size_in : (ks : List Sx) (i : ℕ) (d : Sx) → i < length ks → size (get_or ks i d) ≤ sizes ks
size_in [] i d h = absurd (omega arith)
size_in (k ∷ ks) zero d h = no_more_than_first (size k) (sizes ks)
size_in (k ∷ ks) (suc i) d h = no_more_behind (size (get_or ks i d)) (size k) (sizes ks) (size_in ks i d (omega arith))

pub end_in : (ks : List Sx) (i : ℕ) (d : Sx) → i < length ks → end i (map part ks) ≡ wrong (part (get_or ks i d)).model.at
end_in [] i d h = absurd (omega arith)
end_in (k ∷ ks) zero d h = refl
end_in (k ∷ ks) (suc i) d h = end_in ks i d (omega arith)

pub end_out : (ks : List Sx) (i : ℕ) → length ks ≤ i → end i (map part ks) ≡ Ok tt
end_out [] i h = refl
end_out (k ∷ ks) zero h = absurd (omega arith)
end_out (k ∷ ks) (suc i) h = end_out ks i (omega arith)

abbrev behind_part : Part → List Part → List Part
behind_part f fs = f ∷ fs

pub take_parts : (ks : List Sx) (i : ℕ) → map part (take i ks) ≡ take i (map part ks)
take_parts ks zero = refl
take_parts [] (suc i) = refl
take_parts (k ∷ ks) (suc i) = ap (behind_part (part k)) (take_parts ks i)

pub take_past : (ks : List Sx) (i : ℕ) → length ks ≤ i → take i (map part ks) ≡ map part ks
take_past [] zero h = refl
take_past [] (suc i) h = refl
take_past (k ∷ ks) zero h = absurd (omega arith)
take_past (k ∷ ks) (suc i) h = ap (behind_part (part k)) (take_past ks i (omega arith))
