-- What the places of a plan are, where the plan serves a code.
use Rattle.std.proofs.Common.{◌≡◌, ℕ, zero, suc, ◌+◌, ◌-◌, ◌<◌, ◌≤◌, Bool, true, false, ◌||◌, ◌&&◌, nat_eq, nat_lt, nat_le, All}
use Rattle.std.proofs.Common.{List, [], ◌∷◌, length, map, Option, Some, None, slice_get, slice_index_or, if◌then◌else◌, refl, sym}
use Rattle.std.proofs.Common.{ap, ◌∙◌, subst, arith}
use Rattle.std.proofs.lemmas.Bool.{ltb-true, ltb-false}
use Rattle.rup_base.specs.Gather.{all_true}
use Rattle.flat_lang.specs.declared.flat.Flat.{Flat}
use Rattle.reg_alloc.specs.declared.plan.At.{At}
use Rattle.reg_alloc.specs.declared.plan.At.TheVariants.{Reg as Register, Slot}
use Rattle.reg_alloc.specs.declared.plan.Plan.{Plan}
use Rattle.reg_alloc.specs.Kept.{number, numbered}
use Rattle.reg_alloc.specs.PlanOk.{is_place, PlanOk}
use Rattle.rv_emit.specs.Code.{place_of}
use Rattle.rv_emit.specs.Emission.{IsNear, IsPlan}
use Rattle.rv_emit.specs.Whole.{place, uses, slots_in, callee_saved, saved_in}
use Rattle.rv_emit.proofs.Elements.{or_left, or_right, and_left, and_right, equal_numbers, same_numbers, filtered, passed}
use Rattle.rv_emit.proofs.Elements.{length-filter, one_of, contains, found_in, entry_of}

-- a place that the frame or a register of the plan gives
abbrev pub Serves : List At → At → Type 0
Serves places (Register r) = uses places r ≡ true
Serves places (Slot j) = j < slots_in places

uses_more : (p : At) (places : List At) (r : ℕ) → uses places r ≡ true → uses (p ∷ places) r ≡ true
uses_more (Register q) places r h = or_right (nat_eq q r) (uses places r) h
uses_more (Slot j) places r h = h

larger : (j n : ℕ) (b : Bool) → nat_lt j n ≡ b → (j < (if b then n else j + 1)) × (n ≤ (if b then n else j + 1))
larger j n true is = let below = ltb-true j n is in (below, omega arith)
larger j n false is = let above = ltb-false j n is in (omega arith, omega arith)

slots_more : (p : At) (places : List At) (j : ℕ) → j < slots_in places → j < slots_in (p ∷ places)
slots_more (Register q) places j h = h
slots_more (Slot i) places j h = let more = (larger i (slots_in places) (nat_lt i (slots_in places)) refl).1 in
    omega (arith, more, h)

serves_more : (p q : At) (places : List At) → Serves places q → Serves (p ∷ places) q
serves_more p (Register r) places h = uses_more p places r h
serves_more p (Slot j) places h = slots_more p places j h

serves_first : (p : At) (places : List At) → Serves (p ∷ places) p
serves_first (Register r) places = or_left (nat_eq r r) (uses places r) (equal_numbers r r refl)
serves_first (Slot j) places = (larger j (slots_in places) (nat_lt j (slots_in places)) refl).0

serves_at : (places : List At) (i : ℕ) (p : At) → slice_get places i ≡ Some p → Serves places p
serves_at [] i p found = absurd (let bad : ◌≡◌ {A = Option At} None (Some p) = found in cc)
serves_at (q ∷ places) zero p found = let e : q ≡ p = cc in subst (λ z. Serves (q ∷ places) z) e (serves_first q places)
serves_at (q ∷ places) (suc i) p found = serves_more q p places (serves_at places i p found)

-- a register that is used is one that may be
used_place : (vars : ℕ) (places : List At) (r : ℕ) → all_true (map (is_place vars) places) ≡ true → uses places r ≡ true
    → is_place vars (Register r) ≡ true
used_place vars [] r valid h = absurd (cc)
used_place vars (Slot j ∷ places) r valid h =
    used_place vars places r (and_right (is_place vars (Slot j)) (all_true (map (is_place vars) places)) valid) h
used_place vars (Register q ∷ places) r valid h =
    by_case (used_place vars places r (and_right (is_place vars (Register q)) (all_true (map (is_place vars) places)) valid))
    (nat_eq q r) refl h
  where
    by_case : (uses places r ≡ true → is_place vars (Register r) ≡ true) → (b : Bool) → nat_eq q r ≡ b
        → (b || uses places r) ≡ true → is_place vars (Register r) ≡ true
    by_case rest true is g = subst (λ z. is_place vars (Register z) ≡ true) (same_numbers q r is)
        (and_left (is_place vars (Register q)) (all_true (map (is_place vars) places)) valid)
    by_case rest false is g = rest g

slots_few : (vars : ℕ) (places : List At) → all_true (map (is_place vars) places) ≡ true → slots_in places ≤ vars
slots_few vars [] valid = omega arith
slots_few vars (Register r ∷ places) valid =
    slots_few vars places (and_right (is_place vars (Register r)) (all_true (map (is_place vars) places)) valid)
slots_few vars (Slot j ∷ places) valid =
    by_case (slots_few vars places (and_right (is_place vars (Slot j)) (all_true (map (is_place vars) places)) valid))
    (nat_lt j (slots_in places))
  where
    by_case : slots_in places ≤ vars → (b : Bool) → (if b then slots_in places else j + 1) ≤ vars
    by_case rest true = rest
    by_case rest false = let here =
        ltb-true j vars (and_left (is_place vars (Slot j)) (all_true (map (is_place vars) places)) valid) in omega arith

-- the registers that are saved
abbrev is_saved : ℕ → Bool
is_saved r = (nat_eq r 8 || nat_eq r 9) || (nat_le 18 r && nat_le r 27)

contained : (vars r : ℕ) → is_place vars (Register r) ≡ true → r < 28 → contains callee_saved r ≡ true
contained vars r h low = grind (arith, h)

saved_one : (places : List At) (i r : ℕ) → slice_get (saved_in places) i ≡ Some r → is_saved r ≡ true
saved_one places i r found =
    let k = filtered (uses places) callee_saved i r found in
    one_of is_saved callee_saved refl k.place r k.is

saved_from : (r : ℕ) → is_saved r ≡ true → 8 ≤ r
saved_from r h = grind (arith, h)

saved_to : (r : ℕ) → is_saved r ≡ true → r < 28
saved_to r h = grind (arith, h)

saved_apart : (r : ℕ) → is_saved r ≡ true → 10 ≤ r → 18 ≤ r
saved_apart r h low = grind (arith, h, low)

place_from : (vars r : ℕ) → is_place vars (Register r) ≡ true → 8 ≤ r
place_from vars r h = grind (arith, h)

place_to : (vars r : ℕ) → is_place vars (Register r) ≡ true → r < 32
place_to vars r h = grind (arith, h)

place_apart : (vars r : ℕ) → is_place vars (Register r) ≡ true → 10 ≤ r → 18 ≤ r
place_apart vars r h low = grind (arith, h, low)

-- a place that may be used has a number of its own
pub number_place : (vars : ℕ) (p : At) → is_place vars p ≡ true → place_of (number p) ≡ p
number_place vars (Register r) h = let low = place_to vars r h in let is : nat_lt r 32 ≡ true = grind (arith, low) in rw is refl
number_place vars (Slot j) h = let is : nat_lt (32 + j) 32 ≡ false = grind arith in let same : 32 + j - 32 ≡ j = omega arith in
    rw (is, same) refl

pub valid_place : (vars : ℕ) (places : List At) → all_true (map (is_place vars) places) ≡ true → (i : ℕ) (p : At)
    → slice_get places i ≡ Some p → is_place vars p ≡ true
valid_place vars [] valid i p found = absurd (let bad : ◌≡◌ {A = Option At} None (Some p) = found in cc)
valid_place vars (q ∷ places) valid zero p found = let e : q ≡ p = cc in
    subst (λ z. is_place vars z ≡ true) e (and_left (is_place vars q) (all_true (map (is_place vars) places)) valid)
valid_place vars (q ∷ places) valid (suc i) p found =
    valid_place vars places (and_right (is_place vars q) (all_true (map (is_place vars) places)) valid) i p found

there_is : (places : List At) (x : ℕ) → x < length places → (p : At) × (slice_get places x ≡ Some p)
there_is [] x below = absurd (omega arith)
there_is (p ∷ places) zero below = (p, refl)
there_is (p ∷ places) (suc x) below = there_is places x (omega arith)

-- the places serve the code's variables
pub record IsPlacement (f : Flat) (plan : Plan) : Type 0 where
  pub few : slots_in plan.places + length (saved_in plan.places) ≤ 412
  pub few_saved : length (saved_in plan.places) ≤ 12
  pub valid : (x : ℕ) → x < f.vars → Serves plan.places (place plan x)
  pub from : (r : ℕ) → uses plan.places r ≡ true → 8 ≤ r
  pub to : (r : ℕ) → uses plan.places r ≡ true → r < 32
  pub not_argument : (r : ℕ) → uses plan.places r ≡ true → 10 ≤ r → 18 ≤ r
  pub kept : (r : ℕ) → uses plan.places r ≡ true → r < 28 → (i : ℕ) × (slice_get (saved_in plan.places) i ≡ Some r)
  pub saved_from : (i r : ℕ) → slice_get (saved_in plan.places) i ≡ Some r → 8 ≤ r
  pub saved_to : (i r : ℕ) → slice_get (saved_in plan.places) i ≡ Some r → r < 32
  pub saved_not_argument : (i r : ℕ) → slice_get (saved_in plan.places) i ≡ Some r → 10 ≤ r → 18 ≤ r

pub placement : (f : Flat) (plan : Plan) → PlanOk f plan → f.vars ≤ 400 → IsPlacement f plan
placement f plan ok few =
    let places = plan.places in
    let slots = slots_few f.vars places ok.places in
    let saved = length-filter (uses places) callee_saved in
    let twelve : length callee_saved ≡ 12 = refl in
    record {
      few = omega arith;
      few_saved = omega arith;
      valid = valid_at;
      from = λ r used. place_from f.vars r (used_place f.vars places r ok.places used);
      to = λ r used. place_to f.vars r (used_place f.vars places r ok.places used);
      not_argument = λ r used low. place_apart f.vars r (used_place f.vars places r ok.places used) low;
      kept = λ r used low.
          let k = found_in callee_saved r (contained f.vars r (used_place f.vars places r ok.places used) low) in
          let a = passed (uses places) callee_saved k.place r k.is used in
          (a.place, a.is);
      saved_from = λ i r found. saved_from r (saved_one places i r found);
      saved_to = λ i r found. let below = saved_to r (saved_one places i r found) in omega arith;
      saved_not_argument = λ i r found low. saved_apart r (saved_one places i r found) low;
    }
  where
    valid_at : (x : ℕ) → x < f.vars → Serves plan.places (place plan x)
    valid_at x below =
        let one_each = ok.one_each in
        let found = there_is plan.places x (omega arith) in
        let same : place plan x ≡ found.0 = ap (λ o. place_of (numbered x o)) found.1
        ∙ number_place f.vars found.0 (valid_place f.vars plan.places ok.places x found.0 found.1) in
        subst (λ p. Serves plan.places p) (sym same) (serves_at plan.places x found.0 found.1)

-- what the code finds for a variable is its place, and near
placed_at : (plan : Plan) → IsPlan plan → (x : ℕ) (p : At) → slice_get plan.places x ≡ Some p → p ≡ place plan x
placed_at plan is x p found = sym
    (ap (λ o. place_of (numbered x o)) found
    ∙ number_place (length plan.places) p (valid_place (length plan.places) plan.places is.places x p found))

near_by : (vars : ℕ) (p : At) → vars ≤ 400 → is_place vars p ≡ true → IsNear p
near_by vars (Register r) few h = place_to vars r h
near_by vars (Slot j) few h = let low = ltb-true j vars h in omega arith

pub placed_entry : (plan : Plan) → IsPlan plan → (places : List At) (x : ℕ) (d : At) → places ≡ plan.places
    → x < length plan.places → slice_index_or places x d ≡ place plan x
placed_entry plan is places x d same below = ap (λ ps. slice_index_or ps x d) same
    ∙ placed_at plan is x (slice_index_or plan.places x d) (entry_of plan.places x d below)

pub near_entry : (plan : Plan) → IsPlan plan → (places : List At) (x : ℕ) (d : At) → places ≡ plan.places → x < length plan.places
    → IsNear (slice_index_or places x d)
near_entry plan is places x d same below =
    let found = entry_of plan.places x d below in
    subst (λ ps. IsNear (slice_index_or ps x d)) (sym same)
    (near_by (length plan.places) (slice_index_or plan.places x d) is.few
    (valid_place (length plan.places) plan.places is.places x (slice_index_or plan.places x d) found))

pub slots_near : (plan : Plan) → IsPlan plan → slots_in plan.places + length (saved_in plan.places) ≤ 412
slots_near plan is =
    let slots = slots_few (length plan.places) plan.places is.places in
    let few = is.few in
    let saved = length-filter (uses plan.places) callee_saved in
    let twelve : length callee_saved ≡ 12 = refl in
    omega arith

pub saved_few : (places : List At) → length (saved_in places) ≤ 12
saved_few places = let saved = length-filter (uses places) callee_saved in let twelve : length callee_saved ≡ 12 = refl in
    omega arith

pub saved_all : (places : List At) → All (λ r. r < 32) (saved_in places)
saved_all places = λ k d below. let low =
    saved_to (slice_index_or (saved_in places) k d)
    (saved_one places k (slice_index_or (saved_in places) k d) (entry_of (saved_in places) k d below)) in omega arith
