-- Lists of nodes that fill the open places, and the entries of a file that are such lists.
use Rattle.std.proofs.Common.{◌≡◌, ℕ, ◌+◌, Bool, true, false, ◌==◌, List, [], ◌∷◌, ◌++◌, length, Option, Some, None, option_map}
use Rattle.std.proofs.Common.{option_and_then, Result, Ok, Err, if◌then◌else◌, refl, sym, ◌∙◌, ap, subst, eqb-true, arith}
use Rattle.std.proofs.lemmas.Option.{same_Some}
use Rattle.serde_json.specs.Data.{Data, Items, no_items, item}
use Rattle.serde_json.specs.Find.{as_array}
use Rattle.serde_json.specs.Events.{items_len}
use Rattle.rup_base.specs.Answers.{and_then}
use Rattle.rup_base.specs.declared.refusal.Refusal.{Refusal}
use Rattle.rup_base.specs.declared.refusal.Refusal.TheVariants.{NodeCount}
use Rattle.deriv_tree.specs.declared.tree.Step.{Step}
use Rattle.deriv_tree.specs.declared.listed.Listed.{Listed}
use Rattle.deriv_tree.specs.Shape.{blocks}
use Rattle.deriv_file.specs.declared.places.Place.{Place}
use Rattle.deriv_file.specs.Numbers.{only_if, counts_of}
use Rattle.deriv_file.specs.Node.{node_of, node_of_items, with_counts, block_counts, step_of}
use Rattle.deriv_file.specs.NodeList.{admitted, or_fault, node_at, filled, all_nodes}
use Rattle.deriv_file.specs.Places.{admits, called_for}

-- each node is taken by the first place that is open before it, and no place is left
abbrev pub Fills : List Listed → List Place → Type 0
Fills [] ps = ps ≡ []
Fills (n ∷ ns) [] = ⊥
Fills (n ∷ ns) (p ∷ ps) = (admits p n.step.rule ≡ true) × (length n.counts ≡ blocks n.step.rule) × Fills ns (called_for p n ++ ps)

-- What an answer comes from.

pub record Came {A B : Type 0} (first : Option A) (next : A → Option B) (b : B) : Type 0 where
  pub value : A
  pub is : first ≡ Some value
  pub gives : next value ≡ Some b

pub came : {A B : Type 0} (first : Option A) (next : A → Option B) (b : B) → option_and_then next first ≡ Some b
    → Came first next b
came None next b h = absurd (cc)
came (Some a) next b h = record { value = a; is = refl; gives = h }

pub record Mapped {A B : Type 0} (first : Option A) (f : A → B) (b : B) : Type 0 where
  pub value : A
  pub is : first ≡ Some value
  pub gives : f value ≡ b

pub mapped : {A B : Type 0} (first : Option A) (f : A → B) (b : B) → option_map f first ≡ Some b → Mapped first f b
mapped None f b h = absurd (cc)
mapped (Some a) f b h = record { value = a; is = refl; gives = same_Some (f a) b h }

record After {A B : Type 0} (first : Result A Refusal) (next : A → Result B Refusal) (b : B) : Type 0 where
  value : A
  is : first ≡ Ok value
  gives : next value ≡ Ok b

after : {A B : Type 0} (first : Result A Refusal) (next : A → Result B Refusal) (b : B) → and_then first next ≡ Ok b
    → After first next b
after (Err r) next b h = absurd (cc)
after (Ok a) next b h = record { value = a; is = refl; gives = h }

abbrev answer : {A : Type 0} → A → Result A Refusal
answer a = Ok a

ok_same : {A : Type 0} (a b : A) → answer a ≡ answer b → a ≡ b
ok_same a b h = cc

-- A node has its rule's number of blocks.

pub only_if_is : {A : Type 0} (test : Bool) (a b : A) → only_if test a ≡ Some b → (test ≡ true) × (a ≡ b)
only_if_is true a b h = (refl, same_Some a b h)
only_if_is false a b h = absurd (cc)

unless_none : (test : Bool) (o : Option (List ℕ)) (ns : List ℕ) → (if test then None else o) ≡ Some ns → o ≡ Some ns
unless_none true o ns h = absurd (cc)
unless_none false o ns h = h

counts_length : (k : ℕ) (rest : Items) (ns : List ℕ) → block_counts k rest ≡ Some ns → length ns ≡ k
counts_length k no_items ns h =
    let parts = only_if_is (k == 0) [] ns h in
    ap (λ (ms : List ℕ). length ms) (sym parts.1) ∙ sym (eqb-true k 0 parts.0)
counts_length k (item d no_items) ns h =
    let read = came (option_and_then counts_of (as_array d)) (λ (ms : List ℕ). only_if (length ms == k) ms) ns
    (unless_none (k == 0) (option_and_then (λ (ms : List ℕ). only_if (length ms == k) ms)
    (option_and_then counts_of (as_array d))) ns h) in
    let parts = only_if_is (length read.value == k) read.value ns read.gives in
    ap (λ (ms : List ℕ). length ms) (sym parts.1) ∙ eqb-true (length read.value) k parts.0
counts_length k (item d (item e ds)) ns h = absurd (cc)

items_counts : (ds : Items) (n : Listed) → node_of_items ds ≡ Some n → length n.counts ≡ blocks n.step.rule
items_counts no_items n h = absurd (cc)
items_counts (item a no_items) n h = absurd (cc)
items_counts (item a (item b no_items)) n h = absurd (cc)
items_counts (item a (item b (item c rest))) n h =
    let step = came (step_of a b c) (λ (s : Step). with_counts s rest) n h in
    let counts = mapped (block_counts (blocks step.value.rule) rest) (λ (ns : List ℕ). record { step = step.value; counts = ns })
    n step.gives in
    subst (λ (m : Listed). length m.counts ≡ blocks m.step.rule) counts.gives
    (counts_length (blocks step.value.rule) rest counts.value counts.is)

node_counts : (d : Data) (n : Listed) → node_of d ≡ Some n → length n.counts ≡ blocks n.step.rule
node_counts d n h =
    let items = came (as_array d) node_of_items n h in
    items_counts items.value n items.gives

-- The entries.

taken_is : (at : ℕ) (test : Bool) (m n : Listed) → or_fault at (only_if test m) ≡ Ok n → (test ≡ true) × (m ≡ n)
taken_is at true m n h = (refl, ok_same m n h)
taken_is at false m n h = absurd (cc)

admitted_is : (at : ℕ) (p : Place) (o : Option Listed) (n : Listed) → or_fault at (admitted p o) ≡ Ok n
    → (o ≡ Some n) × (admits p n.step.rule ≡ true)
admitted_is at p None n h = absurd (cc)
admitted_is at p (Some m) n h =
    let parts = taken_is at (admits p m.step.rule) m n h in
    (ap Some parts.1, subst (λ (x : Listed). admits p x.step.rule ≡ true) parts.1 parts.0)

ended_is : (test : Bool) (r : Refusal) (ns : List Listed) → (if test then Ok [] else Err r) ≡ Ok ns → (test ≡ true) × ([] ≡ ns)
ended_is true r ns h = (refl, ok_same [] ns h)
ended_is false r ns h = absurd (cc)

no_places : (ps : List Place) → length ps ≡ 0 → ps ≡ []
no_places [] h = refl
no_places (p ∷ ps) h = absurd (omega (arith, h))

-- The entries' nodes, and the places that they fill.
pub record Filled (ds : Items) (ps : List Place) (ns : List Listed) : Type 0 where
  pub nodes : all_nodes ds ≡ Some ns
  pub fills : Fills ns ps

one_filled : (d : Data) (ds : Items) (p : Place) (ps : List Place) (n : Listed) (ns : List Listed)
    → node_of d ≡ Some n → admits p n.step.rule ≡ true → Filled ds (called_for p n ++ ps) ns
    → Filled (item d ds) (p ∷ ps) (n ∷ ns)
one_filled d ds p ps n ns node takes rest =
    record { nodes = rw (node, rest.nodes); fills = (takes, node_counts d n node, rest.fills) }

pub filled_fills : (total : ℕ) (ds : Items) (at : ℕ) (ps : List Place) (ns : List Listed)
    → at + items_len ds ≡ total → filled total ds at ps ≡ Ok ns → Filled ds ps ns
filled_fills total no_items at ps ns few h =
    let parts = ended_is (at + length ps == total) (NodeCount total (at + length ps)) ns h in
    let all : at + length ps ≡ total = eqb-true (at + length ps) total parts.0 in
    let none : ps ≡ [] = no_places ps (omega (arith, all, few)) in
    subst (λ (ms : List Listed). Filled no_items ps ms) parts.1 (record { nodes = refl; fills = none })
filled_fills total (item d ds) at [] ns few h = absurd (cc)
filled_fills total (item d ds) at (p ∷ ps) ns few h =
    let one = after (node_at at p d)
    (λ (n : Listed). and_then (filled total ds (at + 1) (called_for p n ++ ps)) (λ (ms : List Listed). Ok (n ∷ ms))) ns h in
    let others = after (filled total ds (at + 1) (called_for p one.value ++ ps)) (λ (ms : List Listed). Ok (one.value ∷ ms)) ns
    one.gives in
    let first = admitted_is at p (node_of d) one.value one.is in
    let rest = filled_fills total ds (at + 1) (called_for p one.value ++ ps) others.value (omega (arith, few)) others.is in
    subst (λ (ms : List Listed). Filled (item d ds) (p ∷ ps) ms) (ok_same (one.value ∷ others.value) ns others.gives)
    (one_filled d ds p ps one.value others.value first.0 first.1 rest)

pub record FirstNode (d : Data) (ds : Items) (ns : List Listed) : Type 0 where
  pub first : Listed
  pub rest : List Listed
  pub node : node_of d ≡ Some first
  pub nodes : all_nodes ds ≡ Some rest
  pub whole : first ∷ rest ≡ ns

pub listed_as : (d : Data) (ds : Items) (ns : List Listed) → all_nodes (item d ds) ≡ Some ns → FirstNode d ds ns
listed_as d ds ns h =
    let one = came (node_of d) (λ (n : Listed). option_map (λ (ms : List Listed). n ∷ ms) (all_nodes ds)) ns h in
    let others = mapped (all_nodes ds) (λ (ms : List Listed). one.value ∷ ms) ns one.gives in
    record { first = one.value; rest = others.value; node = one.is; nodes = others.is; whole = others.gives }

fills_filled_here : (total : ℕ) (d : Data) (ds : Items) (at : ℕ) (ps : List Place) (n : Listed) (ns : List Listed)
    → ((qs : List Place) → Fills ns qs → filled total ds (at + 1) qs ≡ Ok ns)
    → node_of d ≡ Some n → Fills (n ∷ ns) ps → filled total (item d ds) at ps ≡ Ok (n ∷ ns)
fills_filled_here total d ds at [] n ns rest node h = absurd h
fills_filled_here total d ds at (p ∷ ps) n ns rest node h = rw (node, h.0, rest (called_for p n ++ ps) h.2)

pub fills_filled : (total : ℕ) (ds : Items) (at : ℕ) (ps : List Place) (ns : List Listed)
    → at + items_len ds ≡ total → all_nodes ds ≡ Some ns → Fills ns ps → filled total ds at ps ≡ Ok ns
fills_filled total no_items at ps [] few h fills = rw fills (grind (arith, few))
fills_filled total no_items at ps (n ∷ ns) few h fills = absurd (cc)
fills_filled total (item d ds) at ps ns few h fills =
    let parts = listed_as d ds ns h in
    subst (λ (ms : List Listed). filled total (item d ds) at ps ≡ Ok ms) parts.whole
    (fills_filled_here total d ds at ps parts.first parts.rest
    (λ qs more. fills_filled total ds (at + 1) qs parts.rest (omega (arith, few)) parts.nodes more)
    parts.node (subst (λ (ms : List Listed). Fills ms ps) (sym parts.whole) fills))
