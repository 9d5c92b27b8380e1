-- A loop runs as it means, where what stands before its test and its body do.
use Rattle.std.proofs.Common.{◌≡◌, ℕ, zero, suc, ◌+◌, ◌<◌, ◌≤◌, Bool, true, false, List, [], ◌∷◌, ◌++◌, length, Ok, refl, sym}
use Rattle.std.proofs.Common.{subst, arith, length-append}
use Rattle.std.specs.FinMap.{get}
use Rattle.bed_meaning.specs.State.{spend}
use Rattle.bed_meaning.specs.Fuelled.{and_then, given, fuelled, choose}
use Rattle.bed_syntax.specs.declared.weights.Weights.{Weights}
use Rattle.flat_lang.specs.State as flat
use Rattle.flat_lang.specs.Meaning.{Rule, turns}
use Rattle.rv_code.specs.declared.instruction.Instr.{Instr}
use Rattle.rv_machine.specs.State.{State, register}
use Rattle.rv_emit.specs.Code.{Code, place_of, register_of, from_slot, jump_back, over_by, over, while_code, is_near}
use Rattle.rv_emit.proofs.Site.{Site, Sound, Before, register_small}
use Rattle.rv_emit.proofs.Runs.{Has, HasAll, has_front, has_back, Reaches, at_place, given_reach, fuelled_reach, ends_at, later}
use Rattle.rv_emit.proofs.Runs.{then_reach}
use Rattle.rv_emit.proofs.Places.{operand_reach}
use Rattle.rv_emit.proofs.Jumps.{back_moves, over_stays, over_goes, then_move}
use Rattle.rv_emit.proofs.Straight.{Enough}
use Rattle.rv_emit.proofs.Branches.{Runs}

-- the instructions from the test to the end of the body
abbrev around : List Instr → ℕ → List Instr → List Instr
around front r body = front ++ (over r (length body + 1) ++ body)

-- where the parts of a loop stand
record Parts (l : Site) (k n test branch turn last : ℕ) (front : List Instr) (r : ℕ) (a b : Code) : Type 0 where
  test_is : test ≡ k + length (a (length (around front r (b (suc n))) + suc n))
  branch_is : branch ≡ test + length front
  turn_is : turn ≡ branch + length (over r (length (b (suc n)) + 1))
  last_is : last ≡ turn + length (b (suc n))
  last_are : last + 1 + n ≡ length l.code
  before : HasAll l.code k (a (length (around front r (b (suc n))) + suc n))
  fetches : HasAll l.code test front
  branches : HasAll l.code branch (over r (length (b (suc n)) + 1))
  turns_on : HasAll l.code turn (b (suc n))
  returns : Has l.code last (jump_back
      (length (a (length (around front r (b (suc n))) + suc n)) + length (around front r (b (suc n)))))
  size : length (around front r (b (suc n))) ≡ length front + (length (over r (length (b (suc n)) + 1)) + length (b (suc n)))

over_some : (r n : ℕ) → 0 < length (over r n)
over_some r n = by_near (is_near n)
  where
    by_near : (b : Bool) → 0 < length (over_by b r n)
    by_near true = omega arith
    by_near false = omega arith

module _ (l : Site) (m : State) (sound : Sound l m) (w : Weights) (enough : Enough w l) (k n x : ℕ) (a b : Code) (ra rb : Rule)
    (first : Runs l m sound a ra) (second : Runs l m sound b rb) (test branch turn last : ℕ)
    (parts : Parts l k n test branch turn last (from_slot 5 (place_of x)) (register_of 5 (place_of x)) a b) where
  abbrev r : ℕ
  r = register_of 5 (place_of x)

  abbrev body : List Instr
  body = b (suc n)

  abbrev far : ℕ
  far = length (a (length (around (from_slot 5 (place_of x)) r body) + suc n)) + length (around (from_slot 5 (place_of x)) r body)

  -- the test is not 0: the body, and back to the beginning
  goes_round : (i v t : ℕ) (g : flat.State) (s : State) → r < 32 → Before l m g.mem g.vars branch s → register s.regs r ≡ suc v
      → t + 2 ≤ g.ticks → ((h : flat.State) (u : State) → Before l m h.mem h.vars k u
      → Reaches l m sound h.ticks (last + 1) u (turns i ra x w.turn rb h))
      → Reaches l m sound t (last + 1) s (fuelled (λ u. and_then (rb u) (turns i ra x w.turn rb)) g)
  goes_round i v t g s small stands holds in_time on =
      let test_is = parts.test_is in
      let branch_is = parts.branch_is in
      let turn_is = parts.turn_is in
      let last_is = parts.last_is in
      let last_are = parts.last_are in
      let size = parts.size in
      let some = over_some r (length body + 1) in
      let whole : k + far ≡ last = omega arith in
      let here : branch + length (over r (length body + 1)) ≡ turn = omega arith in
      fuelled_reach l m sound t (last + 1) s (λ u. and_then (rb u) (turns i ra x w.turn rb)) g (λ left.
      let d : flat.State = record { fuel = left; ticks = g.ticks; mem = g.mem; vars = g.vars } in
      over_stays l m sound t (last + 1) g.mem g.vars branch s r (length body + 1) v (and_then (rb d) (turns i ra x w.turn rb))
      small stands parts.branches holds (λ u after.
      let does = second turn (suc n) d u parts.turns_on (omega arith) (subst (λ q. Before l m g.mem g.vars q u) here after) in
      let ends = later l m sound (t + 1 + 1) d.ticks last u (rb d) (omega arith)
      (at_place l m sound d.ticks (turn + length body) last u (rb d) (sym last_is) does) in
      let back = then_move l m sound (t + 1) last k (jump_back far) u (rb d) ends parts.returns
      (λ mem vars q before. back_moves l m sound mem vars last k far q before whole (omega arith)
      (omega (arith, parts.returns.next))) in
      then_reach l m sound (t + 1) k (last + 1) u (rb d) (turns i ra x w.turn rb) back on))

  -- the test is 0: out of the loop
  goes_out : (t : ℕ) (g : flat.State) (s : State) → r < 32 → Before l m g.mem g.vars branch s → register s.regs r ≡ 0
      → t + 2 ≤ g.ticks → Reaches l m sound t (last + 1) s (Ok g)
  goes_out t g s small stands holds in_time =
      let turn_is = parts.turn_is in
      let last_is = parts.last_is in
      let inside = parts.returns.next in
      let target : branch + length (over r (length body + 1)) + (length body + 1) ≡ last + 1 = omega arith in
      over_goes l m sound t (last + 1) g.mem g.vars branch s r (length body + 1) (Ok g) small stands parts.branches holds
      (omega arith) (λ u ends.
      ends_at l m sound (t + 2) (last + 1) u g in_time (subst (λ q. Before l m g.mem g.vars q u) target ends))

  tested : (i v t : ℕ) (g : flat.State) (s : State) → r < 32 → Before l m g.mem g.vars branch s → register s.regs r ≡ v
      → t + 2 ≤ g.ticks → ((h : flat.State) (u : State) → Before l m h.mem h.vars k u
      → Reaches l m sound h.ticks (last + 1) u (turns i ra x w.turn rb h))
      → Reaches l m sound t (last + 1) s (choose v (fuelled (λ u. and_then (rb u) (turns i ra x w.turn rb))) (λ u. Ok u) g)
  tested i zero t g s small stands holds in_time on = goes_out t g s small stands holds in_time
  tested i (suc v) t g s small stands holds in_time on = goes_round i v t g s small stands holds in_time on

  turns_reach : (i : ℕ) (f : flat.State) (s : State) → Before l m f.mem f.vars k s
      → Reaches l m sound f.ticks (last + 1) s (turns i ra x w.turn rb f)
  turns_reach zero f s stands = tt
  turns_reach (suc i) f s stands =
      let next : Rule = λ t. given (get t.vars x)
      (λ v. choose v (fuelled (λ u. and_then (rb u) (turns i ra x w.turn rb))) (λ u. Ok u) (spend w.turn t)) in
      let test_is = parts.test_is in
      let branch_is = parts.branch_is in
      let turn_is = parts.turn_is in
      let last_is = parts.last_is in
      let last_are = parts.last_are in
      let size = parts.size in
      let front = from_slot 5 (place_of x) in
      let behind = length (around front r body) + suc n in
      let before = at_place l m sound f.ticks (k + length (a behind)) test s (ra f) (omega arith)
      (first k behind f s parts.before (omega arith) stands) in
      then_reach l m sound f.ticks test (last + 1) s (ra f) next before (λ g u at_test.
      given_reach l m sound g.ticks (last + 1) u (get g.vars x)
      (λ v. choose v (fuelled (λ u. and_then (rb u) (turns i ra x w.turn rb))) (λ u. Ok u) (spend w.turn g)) (λ v found.
      let h = at_test.held x v found in
      let in_time = enough.turn (place_of x) h.valid in
      operand_reach l m sound g.ticks (last + 1) g.mem g.vars test u 5 x v
      (choose v (fuelled (λ u. and_then (rb u) (turns i ra x w.turn rb))) (λ u. Ok u) (spend w.turn g)) (omega arith)
      (omega arith) at_test parts.fetches found (λ t after is.
      tested i v (g.ticks + length front) (spend w.turn g) t (register_small l m sound 5 (place_of x) (omega arith) h.valid)
      (subst (λ q. Before l m g.mem g.vars q t) (sym branch_is) after) is.value (omega (arith, in_time)) (turns_reach i))))

  loop_reach : (f : flat.State) (s : State) → Before l m f.mem f.vars k s
      → Reaches l m sound f.ticks (last + 1) s (fuelled (turns f.fuel ra x w.turn rb) f)
  loop_reach f s stands =
      fuelled_reach l m sound f.ticks (last + 1) s (turns f.fuel ra x w.turn rb) f
      (λ left. turns_reach f.fuel (record { fuel = left; ticks = f.ticks; mem = f.mem; vars = f.vars }) s stands)

-- the parts of a loop's code
parts_of : (l : Site) (k n : ℕ) (front : List Instr) (r : ℕ) (a b : Code)
    → HasAll l.code k (a (length (around front r (b (suc n))) + suc n)
    ++ (around front r (b (suc n))
    ++ jump_back (length (a (length (around front r (b (suc n))) + suc n)) + length (around front r (b (suc n)))) ∷ []))
    → k + length (a (length (around front r (b (suc n))) + suc n)
    ++ (around front r (b (suc n))
    ++ jump_back (length (a (length (around front r (b (suc n))) + suc n)) + length (around front r (b (suc n)))) ∷ [])) + n
    ≡ length l.code
    → Parts l k n (k + length (a (length (around front r (b (suc n))) + suc n)))
    (k + length (a (length (around front r (b (suc n))) + suc n)) + length front)
    (k + length (a (length (around front r (b (suc n))) + suc n)) + length front + length (over r (length (b (suc n)) + 1)))
    (k + length (a (length (around front r (b (suc n))) + suc n)) + length (around front r (b (suc n)))) front r a b
parts_of l k n front r a b has last_are =
    let body = b (suc n) in
    let branch = over r (length body + 1) in
    let turn = around front r body in
    let before = a (length turn + suc n) in
    let back = jump_back (length before + length turn) in
    let test = k + length before in
    let size0 = length-append before (turn ++ back ∷ []) in
    let size1 = length-append turn (back ∷ []) in
    let size2 = length-append front (branch ++ body) in
    let size3 = length-append branch body in
    let has1 = has_back l.code k before (turn ++ back ∷ []) has in
    let has2 = has_front l.code test turn (back ∷ []) has1 in
    let has3 = has_back l.code test front (branch ++ body) has2 in
    record {
      test_is = refl;
      branch_is = refl;
      turn_is = refl;
      last_is = omega arith;
      last_are = omega arith;
      before = has_front l.code k before (turn ++ back ∷ []) has;
      fetches = has_front l.code test front (branch ++ body) has2;
      branches = has_front l.code (test + length front) branch body has3;
      turns_on = has_back l.code (test + length front) branch body has3;
      returns = (has_back l.code test turn (back ∷ []) has1).0;
      size = omega arith;
    }

module _ (l : Site) (m : State) (sound : Sound l m) (w : Weights) (enough : Enough w l) where
  pub while_reach : (x : ℕ) (a b : Code) (ra rb : Rule) → Runs l m sound a ra → Runs l m sound b rb
      → Runs l m sound (while_code a (place_of x) b) (λ f. fuelled (turns f.fuel ra x w.turn rb) f)
  while_reach x a b ra rb first second = λ k n f s has last_are before.
      let front = from_slot 5 (place_of x) in
      let r = register_of 5 (place_of x) in
      let turn = around front r (b (suc n)) in
      let start = a (length turn + suc n) in
      let back = jump_back (length start + length turn) in
      let parts = parts_of l k n front r a b has last_are in
      let outer = length-append start (turn ++ back ∷ []) in
      let inner = length-append turn (back ∷ []) in
      let end : k + length start + length turn + 1 ≡ k + length (while_code a (place_of x) b n) = omega arith in
      at_place l m sound f.ticks (k + length start + length turn + 1) (k + length (while_code a (place_of x) b n)) s
      (fuelled (turns f.fuel ra x w.turn rb) f) end
      (loop_reach l m sound w enough k n x a b ra rb first second _ _ _ (k + length start + length turn) parts f s before)
