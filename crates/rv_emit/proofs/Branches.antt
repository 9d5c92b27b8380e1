-- Conditionals run as they mean, where their sides do.
use Rattle.std.proofs.Common.{◌≡◌, ℕ, zero, suc, ◌+◌, ◌<◌, ◌≤◌, List, [], ◌∷◌, ◌++◌, length, refl, subst, arith, length-append}
use Rattle.std.specs.FinMap.{get}
use Rattle.bed_meaning.specs.State.{spend}
use Rattle.bed_meaning.specs.Fuelled.{given, fuelled, choose}
use Rattle.bed_syntax.specs.declared.weights.Weights.{Weights}
use Rattle.flat_lang.specs.State.{Vars}
use Rattle.flat_lang.specs.State as flat
use Rattle.flat_lang.specs.Meaning.{Rule}
use Rattle.rv_code.specs.declared.instruction.Instr.{Instr}
use Rattle.rv_machine.specs.State.{State, register}
use Rattle.rv_emit.specs.Code.{Code, place_of, register_of, from_slot, jump, over, if_code}
use Rattle.rv_emit.proofs.Site.{Site, IsValid, Sound, Before, register_small}
use Rattle.rv_emit.proofs.Runs.{Has, HasAll, has_front, has_back, Reaches, at_place, given_reach, fuelled_reach, later}
use Rattle.rv_emit.proofs.Places.{operand_reach}
use Rattle.rv_emit.proofs.Jumps.{jump_moves, over_stays, over_goes, then_move}
use Rattle.rv_emit.proofs.Straight.{Enough}

-- there is an instruction behind the last
pub has_room : (code : List Instr) (k : ℕ) (i : Instr) (rest : List Instr) → HasAll code k (i ∷ rest)
    → k + length (i ∷ rest) < length code
has_room code k i [] has = has.0.next
has_room code k i (j ∷ rest) has =
    let behind = has_room code (k + 1) j rest has.1 in
    omega arith

module _ (l : Site) (m : State) (sound : Sound l m) where
  -- code does what a rule means, wherever it stands with so many instructions behind it
  abbrev pub Runs : Code → Rule → Type 0
  Runs code rule = (k n : ℕ) (f : flat.State) (s : State) → HasAll l.code k (code n) → k + length (code n) + n ≡ length l.code
      → Before l m f.mem f.vars k s → Reaches l m sound f.ticks (k + length (code n)) s (rule f)

-- where the parts of a conditional stand
record Sides (l : Site) (k n test first join second end : ℕ) (front : List Instr) (r : ℕ) (a b : Code) : Type 0 where
  test_is : test ≡ k + length front
  first_is : first ≡ test + length (over r (length (a (length (b n) + suc n)) + 1))
  join_is : join ≡ first + length (a (length (b n) + suc n))
  second_is : second ≡ join + 1
  end_is : end ≡ second + length (b n)
  last_are : end + n ≡ length l.code
  fetches : HasAll l.code k front
  tests : HasAll l.code test (over r (length (a (length (b n) + suc n)) + 1))
  first_stands : HasAll l.code first (a (length (b n) + suc n))
  leaves : Has l.code join (jump (length (b n) + 1))
  second_stands : HasAll l.code second (b n)
  room : end < length l.code

sides_of : (l : Site) (k n : ℕ) (front : List Instr) (r : ℕ) (a b : Code)
    → HasAll l.code k (front ++ (over r (length (a (length (b n) + suc n)) + 1)
    ++ (a (length (b n) + suc n) ++ jump (length (b n) + 1) ∷ b n)))
    → k + length (front ++ (over r (length (a (length (b n) + suc n)) + 1)
    ++ (a (length (b n) + suc n) ++ jump (length (b n) + 1) ∷ b n))) + n ≡ length l.code
    → Sides l k n (k + length front) (k + length front + length (over r (length (a (length (b n) + suc n)) + 1)))
    (k + length front + length (over r (length (a (length (b n) + suc n)) + 1)) + length (a (length (b n) + suc n)))
    (k + length front + length (over r (length (a (length (b n) + suc n)) + 1)) + length (a (length (b n) + suc n)) + 1)
    (k + length (front ++ (over r (length (a (length (b n) + suc n)) + 1)
    ++ (a (length (b n) + suc n) ++ jump (length (b n) + 1) ∷ b n)))) front r a b
sides_of l k n front r a b has last_are =
    let first = a (length (b n) + suc n) in
    let test = over r (length first + 1) in
    let behind = jump (length (b n) + 1) ∷ b n in
    let size1 = length-append front (test ++ (first ++ behind)) in
    let size2 = length-append test (first ++ behind) in
    let size3 = length-append first behind in
    let has1 = has_back l.code k front (test ++ (first ++ behind)) has in
    let has2 = has_back l.code (k + length front) test (first ++ behind) has1 in
    let has3 = has_back l.code (k + length front + length test) first behind has2 in
    let room = has_room l.code (k + length front + length test + length first) (jump (length (b n) + 1)) (b n) has3 in
    record {
      test_is = refl;
      first_is = refl;
      join_is = refl;
      second_is = refl;
      end_is = omega arith;
      last_are = last_are;
      fetches = has_front l.code k front (test ++ (first ++ behind)) has;
      tests = has_front l.code (k + length front) test (first ++ behind) has1;
      first_stands = has_front l.code (k + length front + length test) first behind has2;
      leaves = has3.0;
      second_stands = has3.1;
      room = omega arith;
    }

module _ (l : Site) (m : State) (sound : Sound l m) (w : Weights) (k n x : ℕ) (a b : Code) (ra rb : Rule)
    (runs_a : Runs l m sound a ra) (runs_b : Runs l m sound b rb) (test first join second end : ℕ)
    (sides : Sides l k n test first join second end (from_slot 5 (place_of x)) (register_of 5 (place_of x)) a b) where
  first_side : (t : ℕ) (g : flat.State) (s : State) → Before l m g.mem g.vars first s → t + 1 ≤ g.ticks
      → Reaches l m sound t end s (ra g)
  first_side t g s before in_time =
      let join_is = sides.join_is in
      let second_is = sides.second_is in
      let end_is = sides.end_is in
      let room = sides.room in
      let last_are = sides.last_are in
      let place : first + length (a (length (b n) + suc n)) ≡ join = omega arith in
      let does = runs_a first (length (b n) + suc n) g s sides.first_stands (omega arith) before in
      let side = later l m sound (t + 1) g.ticks join s (ra g) in_time
      (at_place l m sound g.ticks (first + length (a (length (b n) + suc n))) join s (ra g) place does) in
      at_place l m sound t (join + (length (b n) + 1)) end s (ra g) (omega arith)
      (then_move l m sound t join (join + (length (b n) + 1)) (jump (length (b n) + 1)) s (ra g) side sides.leaves
      (λ mem vars u stands. jump_moves l m sound mem vars join (length (b n) + 1) u stands (omega arith)))

  second_side : (t : ℕ) (g : flat.State) (s : State) → Before l m g.mem g.vars second s → t ≤ g.ticks
      → Reaches l m sound t end s (rb g)
  second_side t g s before in_time =
      let end_is = sides.end_is in
      let last_are = sides.last_are in
      let does = runs_b second n g s sides.second_stands (omega arith) before in
      later l m sound t g.ticks end s (rb g) in_time
      (at_place l m sound g.ticks (second + length (b n)) end s (rb g) (omega arith) does)

  tested : (v t : ℕ) (g : flat.State) (s : State) → IsValid l (place_of x) → Before l m g.mem g.vars test s
      → register s.regs (register_of 5 (place_of x)) ≡ v → t + 2 ≤ g.ticks → Reaches l m sound t end s (choose v ra rb g)
  tested zero t g s valid before holds in_time =
      let r = register_of 5 (place_of x) in
      let small = register_small l m sound 5 (place_of x) (omega arith) valid in
      let first_is = sides.first_is in
      let join_is = sides.join_is in
      let second_is = sides.second_is in
      let end_is = sides.end_is in
      let room = sides.room in
      let skipped = length (a (length (b n) + suc n)) + 1 in
      let target : test + length (over r skipped) + skipped ≡ second = omega arith in
      over_goes l m sound t end g.mem g.vars test s r skipped (rb g) small before sides.tests holds (omega arith) (λ u stands.
      second_side (t + 2) g u (subst (λ q. Before l m g.mem g.vars q u) target stands) in_time)
  tested (suc v) t g s valid before holds in_time =
      let r = register_of 5 (place_of x) in
      let small = register_small l m sound 5 (place_of x) (omega arith) valid in
      let first_is = sides.first_is in
      let skipped = length (a (length (b n) + suc n)) + 1 in
      let target : test + length (over r skipped) ≡ first = omega arith in
      over_stays l m sound t end g.mem g.vars test s r skipped v (ra g) small before sides.tests holds (λ u stands.
      first_side (t + 1) g u (subst (λ q. Before l m g.mem g.vars q u) target stands) (omega arith))

  side_reach : (enough : Enough w l) (f : flat.State) (s : State) → Before l m f.mem f.vars k s
      → Reaches l m sound f.ticks end s (fuelled (λ g. given (get g.vars x) (λ v. choose v ra rb (spend w.test g))) f)
  side_reach enough f s before =
      fuelled_reach l m sound f.ticks end s (λ g. given (get g.vars x) (λ v. choose v ra rb (spend w.test g))) f (λ left.
      let g : flat.State = spend w.test (record { fuel = left; ticks = f.ticks; mem = f.mem; vars = f.vars }) in
      given_reach l m sound f.ticks end s (get f.vars x) (λ v. choose v ra rb g) (λ v found.
      let h = before.held x v found in
      let in_time = enough.test (place_of x) h.valid in
      let test_is = sides.test_is in
      operand_reach l m sound f.ticks end f.mem f.vars k s 5 x v (choose v ra rb g) (omega arith) (omega arith) before
      sides.fetches found (λ u stands is.
      let here : k + length (from_slot 5 (place_of x)) ≡ test = omega arith in
      tested v (f.ticks + length (from_slot 5 (place_of x))) g u h.valid (subst (λ q. Before l m f.mem f.vars q u) here stands)
      is.value (omega (arith, in_time)))))

module _ (l : Site) (m : State) (sound : Sound l m) (w : Weights) (enough : Enough w l) where
  pub if_reach : (x : ℕ) (a b : Code) (ra rb : Rule) → Runs l m sound a ra → Runs l m sound b rb
      → Runs l m sound (if_code (place_of x) a b) (fuelled (λ g. given (get g.vars x) (λ v. choose v ra rb (spend w.test g))))
  if_reach x a b ra rb runs_a runs_b = λ k n f s has last_are before.
      let sides = sides_of l k n (from_slot 5 (place_of x)) (register_of 5 (place_of x)) a b has last_are in
      side_reach l m sound w k n x a b ra rb runs_a runs_b _ _ _ _ (k + length (if_code (place_of x) a b n)) sides enough f s
      before
