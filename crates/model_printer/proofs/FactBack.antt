-- The form of a requirement or of a kept fact is read as it.
use Rattle.std.proofs.Common.{◌≡◌, refl, sym, ◌∙◌, ap, subst, ℕ, Bool, true, List, [], ◌∷◌, map, codes, Ok}
use Rattle.std.specs.Fmt.{decimal}
use Rattle.rup_base.specs.declared.arg.Place.{Place}
use Rattle.sx_text.specs.declared.tree.Sx.{Sx}
use Rattle.sx_text.specs.Spelling.{bare}
use Rattle.sx_text.proofs.laws.Atoms.{and_parts}
use Rattle.model_syntax.specs.declared.stmt.Lin.{Lin, Lin-F, ind-Lin, map-Lin, roll-Lin, fold-roll-Lin}
use Rattle.model_syntax.specs.declared.stmt.Lin.TheOpen as l
use Rattle.model_syntax.specs.declared.stmt.Lin.TheVariants as v
use Rattle.model_syntax.specs.declared.stmt.Le.{Le}
use Rattle.model_reader.specs.Parts as parts
use Rattle.model_reader.specs.Parts.{Answer, Reading, each}
use Rattle.model_reader.specs.Reading.{reading, atom_reading}
use Rattle.model_reader.specs.Facts.{side, fact, list_side, list_fact}
use Rattle.model_syntax.specs.Kinds.{is_word}
use Rattle.model_syntax.specs.Formed.{side_formed, side_formed_step, fact_formed, facts_formed}
use Rattle.model_printer.specs.Printing as printing
use Rattle.model_printer.specs.Printing.{atom, side_step}
use Rattle.model_printer.proofs.Backs.{at_atom, at_worded, at_headed, IsBack, each_back, all_back}
use Rattle.model_printer.proofs.Atomic.{number_back, constant_back, unknown_back}

sum_reads : (p q : Place) (r s : Reading) (a b : Lin) → r.side ≡ Ok a → s.side ≡ Ok b
    → list_side p (atom_reading q (codes "add") ∷ r ∷ s ∷ []) ≡ Ok (v.Sum a b)
sum_reads p q r s a b h k = rw (h, k) refl

scale_reads : (p q : Place) (r s : Reading) (n : ℕ) (b : Lin) → parts.number r ≡ Ok n → s.side ≡ Ok b
    → list_side p (atom_reading q (codes "mul") ∷ r ∷ s ∷ []) ≡ Ok (v.Scale n b)
scale_reads p q r s n b h k = rw (h, k) refl

le_reads : (p q : Place) (r s : Reading) (a b : Lin) → r.side ≡ Ok a → s.side ≡ Ok b
    → list_fact p (atom_reading q (codes "le") ∷ r ∷ s ∷ []) ≡ Ok (record { low = a; high = b })
le_reads p q r s a b h k = rw (h, k) refl

abbrev IsSideBack : Lin → Type 0
IsSideBack w = side_formed w ≡ true → IsBack side printing.side w

abbrev Proved : Type 0
Proved = (w : Lin) × IsSideBack w

abbrev answer_of : Lin → Answer Lin
answer_of w = Ok w

at_layer : (y : Lin-F Lin) (w : Lin) → roll-Lin y ≡ w
    → (side_formed_step (map-Lin Lin Bool side_formed y) ≡ true
    → (c : Sx) → bare c ≡ bare (side_step (map-Lin Lin Sx printing.side y)) → (reading c).side ≡ Ok w)
    → IsSideBack (roll-Lin y)
at_layer y w is f h c b =
    f (sym (fold-roll-Lin Bool side_formed_step y) ∙ h) c (b ∙ ap bare (fold-roll-Lin Sx side_step y)) ∙ ap answer_of (sym is)

node : (y : Lin-F Proved) → IsSideBack (roll-Lin (map-Lin Proved Lin (λ k. k.0) y))
node (l.Const n) =
    at_layer (l.Const n) (v.Const n) (v.rolls-Const n)
    (λ h c b. at_atom (decimal n) c (λ r. r.side ≡ Ok (v.Const n)) b (λ p. constant_back p n h))
node (l.Var x) =
    at_layer (l.Var x) (v.Var x) (v.rolls-Var x)
    (λ h c b. at_atom x c (λ r. r.side ≡ Ok (v.Var x)) b (λ p. unknown_back p x h))
node (l.Sum k m) =
    at_layer (l.Sum k.0 m.0) (v.Sum k.0 m.0) (v.rolls-Sum k.0 m.0)
    (λ h c b.
    let f = and_parts (side_formed k.0) (side_formed m.0) h in
    at_worded (codes "add") (printing.side k.0 ∷ printing.side m.0 ∷ []) c (λ r. r.side ≡ Ok (v.Sum k.0 m.0)) b
    (λ p q d bd i bi. sum_reads p q (reading d) (reading i) k.0 m.0 (k.1 f.0 d bd) (m.1 f.1 i bi)))
node (l.Scale n k) =
    at_layer (l.Scale n k.0) (v.Scale n k.0) (v.rolls-Scale n k.0)
    (λ h c b.
    let f = and_parts (is_word n) (side_formed k.0) h in
    at_worded (codes "mul") (printing.number n ∷ printing.side k.0 ∷ []) c (λ r. r.side ≡ Ok (v.Scale n k.0)) b
    (λ p q d bd i bi. scale_reads p q (reading d) (reading i) n k.0 (number_back n f.0 d bd) (k.1 f.1 i bi)))

side_back : (w : Lin) → IsSideBack w
side_back = ind-Lin IsSideBack (λ z y is. subst (λ w. IsSideBack (roll-Lin w)) is (node y))

pub fact_back : (r : Le) → fact_formed r ≡ true → IsBack fact printing.fact r
fact_back r h c b =
    let f = and_parts (side_formed r.low) (side_formed r.high) h in
    at_worded (codes "le") (printing.side r.low ∷ printing.side r.high ∷ []) c (λ s. s.fact ≡ Ok r) b
    (λ p q d bd i bi. le_reads p q (reading d) (reading i) r.low r.high (side_back r.low f.0 d bd) (side_back r.high f.1 i bi))

-- facts behind a word, as readings of a list
facts_back : (rs : List Le) → facts_formed rs ≡ true → (cs : List Sx) → map bare cs ≡ map bare (map printing.fact rs)
    → each fact (map reading cs) ≡ Ok rs
facts_back rs h cs m = each_back fact printing.fact rs cs (all_back fact printing.fact fact_formed fact_back rs h) m

pub keep_back : (rs : List Le) → facts_formed rs ≡ true → (c : Sx) → bare c ≡ bare (printing.keep rs) → (reading c).keep ≡ Ok rs
keep_back rs h c b = at_headed (codes "keep") (map printing.fact rs) c (λ r. r.keep ≡ Ok rs) b (λ p q cs m. facts_back rs h cs m)

pub require_back : (rs : List Le) → facts_formed rs ≡ true → (c : Sx)
    → bare c ≡ bare (printing.worded (codes "require") (map printing.fact rs))
    → (reading c).requires_ ≡ Ok rs
require_back rs h c b = at_headed (codes "require") (map printing.fact rs) c (λ r. r.requires_ ≡ Ok rs) b
    (λ p q cs m. facts_back rs h cs m)
