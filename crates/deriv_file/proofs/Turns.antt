-- What each turn over a list of nodes, and each end of it, keeps.
use Rattle.std.proofs.Common.{◌≡◌, ◌≢◌, ℕ, ◌+◌, ◌-◌, ◌*◌, ◌<◌, ◌≤◌, suc, sum, replicate, List, [], ◌∷◌, ◌++◌, length, get_or}
use Rattle.std.proofs.Common.{take, drop, Result, Ok, Err, refl, sym, ◌∙◌, ap, subst, append_assoc, length-append, length-drop}
use Rattle.std.proofs.Common.{arith}
use Rattle.std.proofs.lemmas.List.{take_rest, append-nil}
use Rattle.serde_json.specs.Data.{Items, no_items}
use Rattle.serde_json.specs.declared.value.Value.{Value}
use Rattle.serde_json.specs.View.{view, items_view}
use Rattle.serde_json.proofs.Views.{items_len-items_view}
use Rattle.rup_base.specs.Answers.{Answers, and_then}
use Rattle.rup_base.specs.declared.fail.Fail.{Fail}
use Rattle.rup_base.specs.declared.fail.Fail.TheVariants.{Refused, NoMemory}
use Rattle.rup_base.specs.declared.refusal.Refusal.{Refusal}
use Rattle.rup_base.specs.declared.refusal.Refusal.TheVariants.{NodeCount}
use Rattle.deriv_tree.specs.declared.listed.Listed.{Listed}
use Rattle.deriv_file.specs.declared.places.Place.{Place}
use Rattle.deriv_tree.specs.Shape.{kids}
use Rattle.deriv_file.specs.Places.{called_for, outer_place}
use Rattle.deriv_file.specs.NodeList.{node_at, filled, nodes_of}
use Rattle.deriv_file.proofs.Runs.{length-called_for}

-- the nodes behind those that are there
abbrev pub onto : List Listed → List Listed → Result (List Listed) Refusal
onto done ns = Ok (done ++ ns)

regroup : (done : List Listed) (n : Listed) (rest : Result (List Listed) Refusal)
    → and_then (and_then rest (λ ns. Ok (n ∷ ns))) (onto done) ≡ and_then rest (onto (done ++ n ∷ []))
regroup done n (Ok ns) = ap Ok (sym (append_assoc done (n ∷ []) ns))
regroup done n (Err refusal) = refl

taken : (total at : ℕ) (v : Value) (vs : List Value) (p : Place) (ps : List Place) (n : Listed) (done : List Listed)
    → node_at at p (view v) ≡ Ok n
    → and_then (filled total (items_view (v ∷ vs)) at (p ∷ ps)) (onto done)
    ≡ and_then (filled total (items_view vs) (at + 1) (called_for p n ++ ps)) (onto (done ++ n ∷ []))
taken total at v vs p ps n done is =
    ap (λ (r : Result Listed Refusal).
    and_then (and_then r (λ n. and_then (filled total (items_view vs) (at + 1) (called_for p n ++ ps)) (λ ns. Ok (n ∷ ns))))
    (onto done)) is
    ∙ regroup done n (filled total (items_view vs) (at + 1) (called_for p n ++ ps))

-- a node is taken at the first place
pub turn : (total at : ℕ) (left : List Value) (a : Value) (p : Place) (ps qs rs : List Place) (n : Listed)
    (done more : List Listed)
    (whole : Result (List Listed) Refusal)
    → 1 ≤ length left → a ≡ get_or left 0 a → ps ≡ p ∷ qs → Ok n ≡ node_at at p (view a) → rs ≡ called_for p n ++ qs
    → more ≡ done ++ n ∷ []
    → and_then (filled total (items_view left) at ps) (onto done) ≡ whole
    → and_then (filled total (items_view (take (length left - 1) (drop 1 left))) (at + 1) rs) (onto more) ≡ whole
turn total at [] a p ps qs rs n done more whole long first is_open node called pushed was = absurd (omega (arith, long))
turn total at (v ∷ vs) a p ps qs rs n done more whole long first is_open node called pushed was =
    let here : node_at at p (view v) ≡ Ok n = ap (λ (x : Value). node_at at p (view x)) (sym first) ∙ sym node in
    let rest : take (length (v ∷ vs) - 1) (drop 1 (v ∷ vs)) ≡ vs = take_rest (v ∷ vs) 1 in
    let now : and_then (filled total (items_view (take (length (v ∷ vs) - 1) (drop 1 (v ∷ vs)))) (at + 1) rs) (onto more)
    ≡ and_then (filled total (items_view vs) (at + 1) (called_for p n ++ qs)) (onto (done ++ n ∷ [])) = rw (rest, called, pushed)
    in
    let then : and_then (filled total (items_view (v ∷ vs)) at (p ∷ qs)) (onto done) ≡ whole
    = ap (λ (xs : List Place). and_then (filled total (items_view (v ∷ vs)) at xs) (onto done)) (sym is_open) ∙ was in
    now ∙ sym (taken total at v vs p qs n done here) ∙ then

-- the entry is no node that the first place takes
pub fails : (total at : ℕ) (left : List Value) (a : Value) (p : Place) (ps qs : List Place) (done : List Listed) (f : Fail)
    (whole : Result (List Listed) Refusal)
    → 1 ≤ length left → a ≡ get_or left 0 a → ps ≡ p ∷ qs → Answers {T = Listed} (Err f) (node_at at p (view a))
    → and_then (filled total (items_view left) at ps) (onto done) ≡ whole → Answers {T = List Listed} (Err f) whole
fails total at left a p ps qs done NoMemory whole long first is_open node was = tt
fails total at [] a p ps qs done (Refused r) whole long first is_open node was = absurd (omega (arith, long))
fails total at (v ∷ vs) a p ps qs done (Refused r) whole long first is_open node was =
    let here : node_at at p (view v) ≡ Err r = ap (λ (x : Value). node_at at p (view x)) (sym first) ∙ node in
    let gives : and_then (filled total (items_view (v ∷ vs)) at (p ∷ qs)) (onto done) ≡ Err r
    = ap (λ (r : Result Listed Refusal).
    and_then (and_then r (λ n. and_then (filled total (items_view vs) (at + 1) (called_for p n ++ qs)) (λ ns. Ok (n ∷ ns))))
    (onto done)) here in
    sym was ∙ ap (λ (xs : List Place). and_then (filled total (items_view (v ∷ vs)) at xs) (onto done)) is_open ∙ gives

-- entries are left where the tree is whole
pub surplus : (total at : ℕ) (left : List Value) (ps : List Place) (done : List Listed) (whole : Result (List Listed) Refusal)
    → 1 ≤ length left → ps ≡ [] → and_then (filled total (items_view left) at ps) (onto done) ≡ whole
    → whole ≡ Err (NodeCount total at)
surplus total at [] ps done whole long none was = absurd (omega (arith, long))
surplus total at (v ∷ vs) ps done whole long none was =
    sym was ∙ ap (λ (xs : List Place). and_then (filled total (items_view (v ∷ vs)) at xs) (onto done)) none

none_left : (left : List Value) → length left ≡ 0 → items_view left ≡ no_items
none_left [] h = refl
none_left (v ∷ vs) h = absurd (omega (arith, h))

-- the entries end where the tree is whole
pub ends : (total at : ℕ) (left : List Value) (ps : List Place) (done : List Listed) (whole : Result (List Listed) Refusal)
    → length left ≡ 0 → at + length ps ≡ total → and_then (filled total (items_view left) at ps) (onto done) ≡ whole
    → whole ≡ Ok done
ends total at left ps done whole none all was =
    let gives : and_then (filled total no_items at ps) (onto done) ≡ Ok done = grind (arith, append-nil, all) in
    sym was ∙ ap (λ (ds : Items). and_then (filled total ds at ps) (onto done)) (none_left left none) ∙ gives

-- the entries end before it
pub lacks : (total at : ℕ) (left : List Value) (ps : List Place) (done : List Listed) (whole : Result (List Listed) Refusal)
    → length left ≡ 0 → at + length ps ≢ total → and_then (filled total (items_view left) at ps) (onto done) ≡ whole
    → whole ≡ Err (NodeCount total (at + length ps))
lacks total at left ps done whole none some was =
    let gives : and_then (filled total no_items at ps) (onto done) ≡ Err (NodeCount total (at + length ps)) =
    grind (arith, some) in
    sym was ∙ ap (λ (ds : Items). and_then (filled total ds at ps) (onto done)) (none_left left none) ∙ gives

-- the same, by the number that is needed
pub ends_at : (total at needed : ℕ) (left : List Value) (ps : List Place) (done : List Listed)
    (whole : Result (List Listed) Refusal)
    → length left < 1 → needed ≡ at + length ps → needed ≡ total → and_then (filled total (items_view left) at ps) (onto done)
    ≡ whole → whole ≡ Ok done
ends_at total at needed left ps done whole none calls all was =
    ends total at left ps done whole (omega (arith, none)) (sym calls ∙ all) was

pub lacks_at : (total at needed : ℕ) (left : List Value) (ps : List Place) (done : List Listed)
    (whole : Result (List Listed) Refusal)
    → length left < 1 → needed ≡ at + length ps → needed ≢ total → and_then (filled total (items_view left) at ps) (onto done)
    ≡ whole
    → whole ≡ Err (NodeCount total needed)
lacks_at total at needed left ps done whole none calls some was =
    subst (λ (n : ℕ). whole ≡ Err (NodeCount total n)) (sym calls)
    (lacks total at left ps done whole (omega (arith, none)) (λ e. some (calls ∙ e)) was)

-- an answer that is a refusal
pub refused : {T : Type 0} (f : Fail) (r : Refusal) (answer : Result T Refusal) → f ≡ Refused r → answer ≡ Err r
    → Answers {T = T} (Err f) answer
refused {T = T} f r answer is gives = subst (λ (x : Fail). Answers {T = T} (Err x) answer) (sym is) gives

-- the number of items is that of their values
pub same_total : (block : ℕ) (vs : List Value)
    → nodes_of block (items_view vs) ≡ filled (length vs) (items_view vs) 0 (replicate block outer_place)
same_total block vs = ap (λ (n : ℕ). filled n (items_view vs) 0 (replicate block outer_place)) (items_len-items_view vs)

pub counted_on : (at n : ℕ) (left : List Value) → 1 ≤ length left → at + length left ≡ n
    → at + 1 + length (take (length left - 1) (drop 1 left)) ≡ n
counted_on at n left long was =
    let rest : length (take (length left - 1) (drop 1 left))
    ≡ length left - 1 = ap (λ (vs : List Value). length vs) (take_rest left 1) ∙ length-drop 1 left in
    omega (arith, rest, long, was)

pub calls_on : (needed at more : ℕ) (p : Place) (n : Listed) (ps qs rs : List Place)
    → ps ≡ p ∷ qs → rs ≡ called_for p n ++ qs → more ≡ kids n.step.rule + sum n.counts → needed ≡ at + length ps
    → needed + more ≡ at + 1 + length rs
calls_on needed at more p n ps qs rs first called is was =
    let before : length ps ≡ suc (length qs) = ap (λ (xs : List Place). length xs) first in
    let after : length rs ≡ length (called_for p n) + length qs = ap (λ (xs : List Place). length xs) called
    ∙ length-append (called_for p n) qs in
    omega (arith, before, after, length-called_for p n, is, was)

pub bounded_on : (needed at more : ℕ) → needed ≤ 20000 + at * 8589934592 → more ≤ 8589934592
    → needed + more ≤ 20000 + (at + 1) * 8589934592
bounded_on needed at more was few = omega (arith, was, few)

pub fails_at : (block at : ℕ) (vs left : List Value) (a : Value) (p : Place) (ps qs : List Place) (done : List Listed) (f : Fail)
    → 1 ≤ length left → a ≡ get_or left 0 a → ps ≡ p ∷ qs → Answers {T = Listed} (Err f) (node_at at p (view a))
    → and_then (filled (length vs) (items_view left) at ps) (onto done)
    ≡ filled (length vs) (items_view vs) 0 (replicate block outer_place)
    → Answers {T = List Listed} (Err f) (nodes_of block (items_view vs))
fails_at block at vs left a p ps qs done f long first is_open node was =
    subst (λ (x : Result (List Listed) Refusal). Answers {T = List Listed} (Err f) x) (sym (same_total block vs))
    (fails (length vs) at left a p ps qs done f (filled (length vs) (items_view vs) 0 (replicate block outer_place)) long first
    is_open node was)
