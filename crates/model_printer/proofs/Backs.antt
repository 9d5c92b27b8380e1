-- What a form is read as that is, but for its places, the form of a part of a model.
use Rattle.std.proofs.Common.{◌≡◌, refl, sym, ◌∙◌, ap, subst, ℕ, Bool, true, List, [], ◌∷◌, map, Ok}
use Rattle.rup_base.specs.declared.arg.Place.{Place}
use Rattle.rup_base.specs.Gather.{all_true}
use Rattle.sx_text.specs.declared.tree.Sx.{Sx}
use Rattle.sx_text.specs.Forms.{place}
use Rattle.sx_text.specs.Spelling.{bare}
use Rattle.sx_text.proofs.laws.Layers.{bare-Atom, bare-Kids}
use Rattle.sx_text.proofs.laws.Inversion.{list_of, atom_of}
use Rattle.sx_text.proofs.laws.Atoms.{and_parts}
use Rattle.model_reader.specs.Parts.{Kind, Reading, each}
use Rattle.model_reader.specs.Reading.{reading, atom_reading, list_reading}
use Rattle.model_reader.proofs.laws.Readings.{reading-Atom, reading-Kids}
use Rattle.model_printer.specs.Printing.{atom, list, worded}

-- what is so of every reading of an atom is so of one in another place
pub at_atom : (t : List ℕ) (c : Sx) (P : Reading → Type 0) → bare c ≡ bare (atom t) → ((p : Place) → P (atom_reading p t))
    → P (reading c)
at_atom t c P h f =
    let (p, i) = atom_of c t (h ∙ bare-Atom (place 0 0) t) in
    subst P (sym (ap reading i ∙ reading-Atom p t)) (f p)

-- likewise of a list, whose forms are these but for places
pub at_list : (ks : List Sx) (c : Sx) (P : Reading → Type 0) → bare c ≡ bare (list ks)
    → ((p : Place) (cs : List Sx) → map bare cs ≡ map bare ks → P (list_reading p (map reading cs))) → P (reading c)
at_list ks c P h f =
    let (p, cs, i, m) = list_of c (map bare ks) (h ∙ bare-Kids (place 0 0) ks) in
    subst P (sym (ap reading i ∙ reading-Kids p cs)) (f p cs m)

-- Q of the readings of forms that are these but for places
abbrev pub Given : List Sx → (List Reading → Type 0) → Type 0
Given [] Q = Q []
Given (k ∷ ks) Q = (c : Sx) → bare c ≡ bare k → Given ks (λ rs. Q (reading c ∷ rs))

given : (ks cs : List Sx) (Q : List Reading → Type 0) → map bare cs ≡ map bare ks → Given ks Q → Q (map reading cs)
given [] [] Q h f = f
given [] (c ∷ cs) Q h f = absurd cc
given (k ∷ ks) [] Q h f = absurd cc
given (k ∷ ks) (c ∷ cs) Q h f =
    let head : bare c ≡ bare k = cc in
    let tail : map bare cs ≡ map bare ks = cc in
    given ks cs (λ rs. Q (reading c ∷ rs)) tail (f c head)

pub at_forms : (ks : List Sx) (c : Sx) (P : Reading → Type 0) → bare c ≡ bare (list ks)
    → ((p : Place) → Given ks (λ rs. P (list_reading p rs))) → P (reading c)
at_forms ks c P h f = at_list ks c P h (λ p cs m. given ks cs (λ rs. P (list_reading p rs)) m (f p))

-- a list that a word begins
pub at_worded : (w : List ℕ) (ks : List Sx) (c : Sx) (P : Reading → Type 0) → bare c ≡ bare (worded w ks)
    → ((p q : Place) → Given ks (λ rs. P (list_reading p (atom_reading q w ∷ rs)))) → P (reading c)
at_worded w ks c P h f =
    at_forms (atom w ∷ ks) c P h
    (λ p d b. at_atom w d (λ r. Given ks (λ rs. P (list_reading p (r ∷ rs)))) b (λ q. f p q))

headed_by : (w : List ℕ) (ks cs : List Sx) (p : Place) (P : Reading → Type 0) → map bare cs ≡ map bare (atom w ∷ ks)
    → ((q : Place) (ds : List Sx) → map bare ds ≡ map bare ks → P (list_reading p (atom_reading q w ∷ map reading ds)))
    → P (list_reading p (map reading cs))
headed_by w ks [] p P m f = absurd cc
headed_by w ks (d ∷ ds) p P m f =
    let head : bare d ≡ bare (atom w) = cc in
    let tail : map bare ds ≡ map bare ks = cc in
    at_atom w d (λ r. P (list_reading p (r ∷ map reading ds))) head (λ q. f q ds tail)

-- a list that a word begins, whose other forms are of any number
pub at_headed : (w : List ℕ) (ks : List Sx) (c : Sx) (P : Reading → Type 0) → bare c ≡ bare (worded w ks)
    → ((p q : Place) (cs : List Sx) → map bare cs ≡ map bare ks → P (list_reading p (atom_reading q w ∷ map reading cs)))
    → P (reading c)
at_headed w ks c P h f = at_list (atom w ∷ ks) c P h (λ p cs m. headed_by w ks cs p P m (f p))

-- each form of b, but for its places, is read as b
abbrev pub IsBack : {B : Type 0} → Kind B → (B → Sx) → B → Type 0
IsBack kind form b = (c : Sx) → bare c ≡ bare (form b) → kind (reading c) ≡ Ok b

-- likewise for each of a list
abbrev pub AreBack : {B : Type 0} → Kind B → (B → Sx) → List B → Type 0
AreBack kind form [] = Unit {0}
AreBack kind form (b ∷ bs) = IsBack kind form b × AreBack kind form bs

pub each_back : {B : Type 0} (kind : Kind B) (form : B → Sx) (bs : List B) (cs : List Sx) → AreBack kind form bs
    → map bare cs ≡ map bare (map form bs) → each kind (map reading cs) ≡ Ok bs
each_back kind form [] [] back m = refl
each_back kind form [] (c ∷ cs) back m = absurd cc
each_back kind form (b ∷ bs) [] back m = absurd cc
each_back kind form (b ∷ bs) (c ∷ cs) back m =
    let head : bare c ≡ bare (form b) = cc in
    let tail : map bare cs ≡ map bare (map form bs) = cc in
    rw (back.0 c head, each_back kind form bs cs back.1 tail) refl

pub all_back : {B : Type 0} (kind : Kind B) (form : B → Sx) (test : B → Bool) → ((b : B) → test b ≡ true → IsBack kind form b)
    → (bs : List B) → all_true (map test bs) ≡ true → AreBack kind form bs
all_back kind form test one [] h = tt
all_back kind form test one (b ∷ bs) h =
    let p = and_parts (test b) (all_true (map test bs)) h in
    (one b p.0, all_back kind form test one bs p.1)
